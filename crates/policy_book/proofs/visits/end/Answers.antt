use Rattle.std.proofs.Common.{◌≡◌, Bool, List, length, true, refl, sym, ap, ◌∙◌, subst}
use Rattle.policy_history.specs.declared.events.Entry.{Entry}
use Rattle.policy_book.specs.Access.{HasMet}
use Rattle.policy_book.specs.Inner.Kept.{SeatedValue}
use Rattle.policy_book.specs.Inner.Visits.{IsFinished, entries_after}
use Rattle.policy_book.specs.declared.writing.Written.{Written}
use Rattle.policy_book.proofs.Meeting.{begins_whole}
use Rattle.policy_book.proofs.visits.end.Goals as goal

pub returns-then-is_broken-clause-before : goal.returns-then-is_broken-clause-before
returns-then-is_broken-clause-before c = begins_whole c.args.draft.pass.seen c.args.seated.now.entries c.refuse.ensures.met.met.seen c.requires.long

pub returns-then-is_broken-clause-finished : goal.returns-then-is_broken-clause-finished
returns-then-is_broken-clause-finished c =
    let before = returns-then-is_broken-clause-before c in
    let met = subst (λ (es : List Entry). HasMet c.args.board.now es c.args.draft.pass c.refuse.result.0) before c.refuse.ensures.met in
    subst (λ (b : Bool). IsFinished c.args.board.now c.args.draft c.refuse.result.0 b c.refuse.result.1) (sym c.if-is_broken.true)
    (subst (λ (w : Written). IsFinished c.args.board.now c.args.draft c.refuse.result.0 true w) (sym c.refuse.ensures.refused)
    (record { refusal_is = refl; at_is = ap (λ (es : List Entry). length es) before; pass_is = met.pass_is; knows = met.knows }))

pub returns-then-is_broken-clause-seated : goal.returns-then-is_broken-clause-seated
returns-then-is_broken-clause-seated c =
    let entries : c.args.seated.now.entries ≡ entries_after c.args.is_broken c.args.draft =
    returns-then-is_broken-clause-before c ∙ ap (λ (b : Bool). entries_after b c.args.draft) (sym c.if-is_broken.true) in
    let room = sym (ap (λ (v : SeatedValue). v.room) c.refuse.ensures.seated) in
    c.refuse.ensures.seated ∙ (λ i. record { board = c.args.seated.now.board; entries = entries i; next = c.args.seated.now.next; known = c.refuse.new.seated.known; room = room i })
