use Rattle.std.proofs.Common.{◌≡◌, ◌<◌, ℕ, zero, suc, false, length, map, sym, ap, ◌∙◌, arith}
use Rattle.std.specs.Prelude.{◌==◌}
use Rattle.std.proofs.lemmas.List.{length-map}
use Rattle.verdict_words.specs.Values.{SeatOf}
use Rattle.verdict_words.proofs.Enrolled.{length_roll}
use Rattle.verdict_words.proofs.rolls.Roll.is_empty.Goals as goal

some_left : (n : ℕ) → (n == 0) ≡ false → 0 < n
some_left zero is = absurd (cc is)
some_left (suc n) is = omega arith

pub returns-clause-left : goal.returns-clause-left
returns-clause-left g c = λ is.
    let items = c.self.inside.seeds.items in
    let some = some_left c.self.inside.seeds.len (sym c.is_empty.ensures ∙ is) in
    let each = length-map {B = SeatOf g.row.M-Entry.Denot g.row.M-Setting.Denot} items (λ seed. (seed.board.value, seed.place)) in
    let long = length_roll c.self.inside.first (map (λ seed. (seed.board.value, seed.place)) items) in
    let same = ap length c.self.view_is in
    let counted = c.self.inside.seeds.ok.0 in
    omega (arith, some, each, long, same, counted)
