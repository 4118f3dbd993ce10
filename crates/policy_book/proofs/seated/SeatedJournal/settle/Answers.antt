use Rattle.std.proofs.Common.{slice_index_or, sym, subst}
use Rattle.policy_book.specs.Books.{IsMetAt}
use Rattle.policy_book.specs.Inner.Kept.{IsKept, SeatedValue}
use Rattle.verdict_words.specs.Settling.{all_of, items_of}
use Rattle.policy_book.proofs.Meeting.{met_by_seat, nobody_lags}
use Rattle.policy_book.proofs.seated.SeatedJournal.settle.Goals as goal

pub invariant_of-self : goal.invariant_of-self
invariant_of-self c =
    let kept = c.self.invariant in
    subst (IsKept c.self.inside.journal) (sym c.settle.ensures.seat)
    (record { head = kept.head; entries = kept.entries; lag = nobody_lags (all_of (items_of c.args.passes.items) c.args.unused.items) c.self.inside.seat.lag kept.lag; raised = kept.raised })

pub returns-clause-met : goal.returns-clause-met
returns-clause-met c = λ k d within.
    subst (λ (v : SeatedValue). IsMetAt v.board v.next v.entries (slice_index_or (all_of (items_of c.args.passes.items) c.args.unused.items) k d)) c.self.view_is
    (met_by_seat c.self.inside.seat (slice_index_or (all_of (items_of c.args.passes.items) c.args.unused.items) k d) c.self.invariant.lag (c.settle.ensures.each k d within))
