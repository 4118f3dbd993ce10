use Rattle.std.proofs.Common.{length, map, sym, ap, ◌∙◌}
use Rattle.std.proofs.lemmas.List.{length-map}
use Rattle.verdict_words.proofs.Enrolled.{length_roll}
use Rattle.verdict_words.proofs.rolls.Roll.len.Goals as goal

pub returns : goal.returns
returns g c =
    let items = c.self.inside.seeds.items in
    c.len.ensures ∙ (c.self.inside.seeds.ok.0 ∙ (sym (length-map items (λ seed. (seed.board.value, seed.place))) ∙ (sym (length_roll c.self.inside.first (map (λ seed. (seed.board.value, seed.place)) items)) ∙ ap length c.self.view_is)))
