use Rattle.std.proofs.Common.{◌∙◌, ℕ, ap}
use Rattle.std.specs.Prelude.{replicate}
use Rattle.cache_machine.specs.Moves.{all_regions}
use Rattle.cache_machine.proofs.machine.Beginning.of.Goals as goal

pub returns-clause-regions : goal.returns-clause-regions
returns-clause-regions c = c.in_ok-from_elem.ensures.items_if_clones_equal (λ y e. e) ∙ ap (λ (n : ℕ). replicate all_regions n) c.count.ensures.count
