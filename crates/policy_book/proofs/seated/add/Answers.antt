use Rattle.std.proofs.Common.{◌≡◌, [], ◌∷◌, length, ap, ◌∙◌, arith}
use Rattle.verdict_words.proofs.ForCallers.{gathers_grow}
use Rattle.policy_book.proofs.Meeting.{published_there}
use Rattle.policy_book.proofs.seated.add.Goals as goal

pub returns-clause-published : goal.returns-clause-published
returns-clause-published c =
    let first = gathers_grow c.args.seat.now.known (c.args.pass.known ∷ []) _ c.meet-pass.new.seat.known c.meet-pass.ensures.known.behind in
    let last = gathers_grow c.publish.new.seat.known (c.meet-pass.result.known ∷ []) _ c.meet.new.seat.known c.meet.ensures.known.behind in
    let count : length c.raise.new.seat.entries ≡ length c.args.seat.now.entries = ap (λ s. length s.entries) c.raise.ensures.seat ∙ ap (λ s. length s.entries) c.meet-pass.ensures.seat in
    published_there _ _ _ _ _ _ _ _ first.0 (first.1 0 c.args.pass.known (omega arith)) c.raise.ensures.known c.publish.ensures.step last.0 count
