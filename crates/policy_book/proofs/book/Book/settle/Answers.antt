use Rattle.std.proofs.Common.{slice_index_or, subst}
use Rattle.policy_book.specs.Books.{BookValue, IsMetAt}
use Rattle.verdict_words.specs.Settling.{all_of, items_of}
use Rattle.policy_book.proofs.book.Book.settle.Goals as goal

pub returns-clause-met : goal.returns-clause-met
returns-clause-met g c = λ k d within.
    subst (λ (v : BookValue g.row.K.Denot). IsMetAt v.board v.next v.entries (slice_index_or (all_of (items_of c.args.passes.items) c.args.unused.items) k d)) c.self.view_is (c.settle.ensures.met k d within)
