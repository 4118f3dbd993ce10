use Rattle.std.specs.Prelude.{Some}
use Rattle.verdict_words.specs.declared.views.Item.TheVariants.{Filled}
use Rattle.verdict_words.proofs.board.Board.fill.Given as goal

abbrev pub ghosts-store_slot : goal.ghosts-store_slot
ghosts-store_slot g a = record { said = Some (Filled a.place.now.case a.at a.held.now) }
