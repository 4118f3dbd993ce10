use Rattle.std.proofs.Common.{◌≡◌, length, sym, ap, ◌∙◌, arith}
use Rattle.policy_history.specs.Events.{event_tree}
use Rattle.policy_history.specs.Machine.{replay}
use Rattle.policy_history.specs.Values.{entry_trees}
use Rattle.policy_book.specs.Access.{unrecorded_by}
use Rattle.policy_book.specs.Books.{decided_at}
use Rattle.policy_book.proofs.Accessing.{decided_counts}
use Rattle.policy_book.proofs.shelf.Shelf.begin.Goals as goal

pub accept-requires-clause-accepted : goal.accept-requires-clause-accepted
accept-requires-clause-accepted g c =
    let seated = c.self.inside.seated in
    let same : seated.board ≡ c.args.board.now = cc (c.self.invariant.0, c.requires.board) in
    let entries : seated.entries ≡ c.is_broken.new.self.seated.entries = ap (λ v. v.seated.entries) c.self.view_is ∙ sym (ap (λ v. v.seated.entries) c.is_broken.ensures.shelf) in
    (c.in-Ok.due.bytes, sym (c.in-Ok.ensures.decision ∙ (λ i. decided_at (same i) (entries i) (c.session.ensures.session i) c.args.principal c.args.event)))

pub returns-in-Err-clause-amount : goal.returns-in-Err-clause-amount
returns-in-Err-clause-amount g c =
    let seated = c.self.inside.seated in
    let head = seated.board.origin.setting in
    let none = decided_counts head (replay head (entry_trees seated.entries)) c.session.result c.args.principal (event_tree c.args.event) (length seated.entries) c.in-Err.refusal (sym c.in-Err.ensures.decision) in
    let counted = ap unrecorded_by c.refuse-pass.ensures.refused in
    omega (arith, counted, none)
