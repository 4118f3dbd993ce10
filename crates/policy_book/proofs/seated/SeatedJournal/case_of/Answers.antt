use Rattle.std.proofs.Common.{◌≡◌, ◌<◌, List, length, sym, ap, ◌∙◌, subst, arith}
use Rattle.std.proofs.lemmas.List.{length-map}
use Rattle.policy_history.specs.declared.heads.Head.{Head}
use Rattle.policy_history.specs.Events.{EntryTree, entry_tree}
use Rattle.policy_history.specs.Values.{entry_trees}
use Rattle.policy_book.specs.Snaps.{IsSnapOf}
use Rattle.policy_book.proofs.Snaps.{snap_of}
use Rattle.policy_book.proofs.seated.SeatedJournal.case_of.Goals as goal

pub returns-in-Ok-Case : goal.returns-in-Ok-Case
returns-in-Ok-Case c =
    let journal = c.self.inside.journal in
    let now = c.args.self.now in
    let head : journal.head ≡ now.board.origin.setting = c.self.invariant.head ∙ ap (λ v. v.board.origin.setting) c.self.view_is in
    let entries : entry_trees journal.entries ≡ entry_trees now.entries = ap entry_trees c.self.invariant.entries ∙ ap (λ v. entry_trees v.entries) c.self.view_is in
    let few : c.args.principal < 16384 = (let below : c.args.principal < length journal.head.principals = rw head c.requires in omega (arith, below, c.count-principals.ensures.count, c.count-principals.ensures.bound, ap (λ (h : Head). length h.principals) c.head.ensures)) in
    let at_is : c.count-at.result ≡ length (entry_trees journal.entries) = c.count-at.ensures.count ∙ sym (length-map journal.entries entry_tree) in
    let found = rw c.in-Ok-Case.field-0-is at c.in-Ok-Case.ensures.found in
    let here = snap_of journal.head (entry_trees journal.entries) c.args.principal c.args.op.now c.args.object.now c.count-at.result c.in-Ok-Case.case c.in-Ok-Case.number c.place_of.result c.in-Ok-Case.object few at_is found c.place_of.ensures in
    subst (λ (h : Head). IsSnapOf h (entry_trees now.entries) c.args.principal c.args.op.now c.args.object.now c.count-at.result c.in-Ok-Case.case c.place_of.result c.in-Ok-Case.object) head
    (subst (λ (es : List EntryTree). IsSnapOf journal.head es c.args.principal c.args.op.now c.args.object.now c.count-at.result c.in-Ok-Case.case c.place_of.result c.in-Ok-Case.object) entries here)
