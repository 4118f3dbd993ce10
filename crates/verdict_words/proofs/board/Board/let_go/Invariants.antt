use Rattle.std.proofs.Common.{◌≡◌, ◌+◌, [], length}
use Rattle.verdict_words.specs.Inner.Settling.{held_of, releasing_all}
use Rattle.verdict_words.specs.declared.views.BookView.{BookView}
use Rattle.verdict_words.specs.declared.views.View.TheVariants.{Book}
use Rattle.verdict_words.proofs.board.Board.let_go.Given as goal

-- what is left to be given back
abbrev pub invariant-loop : goal.invariant-loop
invariant-loop g l =
    (l.place.table_id ≡ l.self.table) × ((book : BookView g.row.M-Entry.Denot g.row.M-Setting.Denot) × (l.place.me ≡ (Book book, [])) × (l.counter + length book.held ≡ l.count))
    × (releasing_all (held_of l.place.me.0) l.place.me.0 ≡ releasing_all (held_of l.fn.place.me.0) l.fn.place.me.0)
