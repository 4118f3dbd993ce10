use Rattle.std.specs.Prelude.{replicate}
use Rattle.std.proofs.Common.{◌≡◌, ℕ, arith, ◌∙◌, None, ap, ◌++◌, ◌∷◌, [], List, Option}
use Rattle.cache_machine.specs.declared.stages.Kept.{Kept}
use Rattle.cache_machine.specs.Moves.{slot_count}
use Rattle.cache_machine.proofs.Starting.{one_more_same}
use Rattle.cache_machine.proofs.machine.empty_slots.Goals as goal

pub loop-place-preserved : goal.loop-place-preserved
loop-place-preserved c = c.in_ok-push.ensures.items ∙ ap (λ (xs : List (Option Kept)). xs ++ None ∷ []) c.loop-place.invariant ∙ one_more_same c.loop-place._place None

pub returns : goal.returns
returns c =
    let all : c.loop-place._place ≡ slot_count = omega (arith, c.loop-place-test.false, c.loop-place.auto._place-end) in
    c.loop-place.invariant ∙ ap (λ (n : ℕ). replicate n None) all
