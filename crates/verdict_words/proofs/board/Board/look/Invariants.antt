use Rattle.std.specs.Prelude.{Some}
use Rattle.verdict_words.proofs.board.Board.look.Given as goal

abbrev pub ghosts-load_slot : goal.ghosts-load_slot
ghosts-load_slot g a = record { said = Some a.place.now }
