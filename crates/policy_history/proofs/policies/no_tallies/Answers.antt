use Rattle.std.proofs.Common.{◌≡◌, ℕ, List, [], ◌∷◌, length, map, refl, ap, ◌∙◌, Result, Ok, Err, IfOk, Vec, Global}
use Rattle.std.specs.Prelude.{replicate}
use Rattle.std.specs.declared.alloc.AllocError.{AllocError}
use Rattle.policy_history.specs.declared.heads.Principal.{Principal}
use Rattle.policy_history.specs.declared.tallies.Tally.{Tally}
use Rattle.policy_history.proofs.policies.no_tallies.Goals as goal

same_length : {X Y : Type 0} (y : Y) (xs : List X) → replicate (length xs) y ≡ map (λ (x : X). y) xs
same_length y [] = refl
same_length y (x ∷ xs) = ap (λ ys. y ∷ ys) (same_length y xs)

made : (r : Result (Vec Tally Global) AllocError) (n : ℕ) (y : Tally) (xs : List Principal) → n ≡ length xs
    → IfOk r (λ v. ((z : Tally) → z ≡ y → z ≡ y) → v.items ≡ replicate n y) → IfOk r (λ v. v.items ≡ map (λ (x : Principal). y) xs)
made (Ok v) n y xs same h = h (λ z e. e) ∙ ap (λ m. replicate m y) same ∙ same_length y xs
made (Err e) n y xs same h = tt

pub returns : goal.returns
returns c = made c.from_elem.result c.count.result (record { entries = 0; bytes = 0 }) c.args.principals.now c.count.ensures.count c.from_elem.ensures.items_if_clones_equal
