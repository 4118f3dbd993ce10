-- Draws that were worked out by a program written apart from this one.
use Rattle.std.specs.Prelude.{◌≡◌}
use Rattle.std.proofs.Common.{refl}
use Rattle.nexus_drill.specs.Draws.{draw}

first_draw_of_0 : draw 0 0 ≡ 335903614
first_draw_of_0 = refl
