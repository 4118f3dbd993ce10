use Rattle.std.proofs.Common.{◌<◌, ◌+◌, List, sym, subst, arith}
use Rattle.std.specs.List.{All}
use Rattle.policy_history.specs.declared.events.Entry.{Entry}
use Rattle.policy_history.specs.Values.{entry_trees, greatest_of}
use Rattle.policy_book.proofs.Sessions.{sessions_below}
use Rattle.policy_book.proofs.book.Book.make.Goals as goal

pub make-requires-clause-sessions : goal.make-requires-clause-sessions
make-requires-clause-sessions g c =
    let most = c.greatest_session-next.result + 1 in
    let bound : greatest_of (entry_trees c.args.journal.entries) < most = omega (arith, c.greatest_session-next.ensures) in
    subst (λ (es : List Entry). All (λ (e : Entry). e.session < most) es) (sym c.entries.ensures) (sessions_below most c.args.journal.entries bound)
