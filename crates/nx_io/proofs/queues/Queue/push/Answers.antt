use Rattle.std.proofs.Common.{◌≡◌, ◌+◌, ◌-◌, ◌++◌, ℕ, ap, arith, drop, length, subst, take, ◌∙◌}
use Rattle.std.proofs.lemmas.List.{length-take-le}
use borrow.Rule.Slice.PartMut.{put_mid}
use Rattle.nx_io.proofs.Waiting.{waiting-pushed}
use Rattle.nx_io.proofs.queues.Queue.push.Goals as goal

-- What waits now is what waited, and then the part of the piece that was copied behind it.
pub returns-clause-waiting : goal.returns-clause-waiting
returns-clause-waiting c =
    let bytes = c.self.inside.bytes in
    let part = c.copy_from_slice.new.self in
    let count = c.min-count.result in
    let width = c.self.inside.end + count - c.self.inside.end in
    let long : length part ≡ count = ap length c.copy_from_slice.ensures.after ∙ length-take-le count c.args.piece.now (omega arith) in
    let waited = ap (λ q. q.waiting) c.self.view_is in
    subst (λ (n : ℕ). drop c.self.inside.start (take (c.self.inside.end + n) (put_mid c.self.inside.end width bytes part)) ≡ c.args.self.now.waiting ++ take count c.args.piece.now) long
    (waiting-pushed bytes part c.self.inside.start c.self.inside.end width c.self.invariant.0 (omega arith)
    ∙ ap (λ front. front ++ part) waited
    ∙ ap (λ more. c.args.self.now.waiting ++ more) c.copy_from_slice.ensures.after)
