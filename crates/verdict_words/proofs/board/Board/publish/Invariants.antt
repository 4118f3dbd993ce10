use Rattle.std.specs.Prelude.{Some}
use Rattle.verdict_words.proofs.board.Board.publish.Given as goal

abbrev pub ghosts-add_to_count : goal.ghosts-add_to_count
ghosts-add_to_count g a = record { said = Some a.entry.now }
