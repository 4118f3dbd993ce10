use Rattle.std.proofs.Common.{◌≡◌, ℕ, ◌<◌, List, slice_index_or}
use Rattle.nal_term.proofs.scopes.Scope.holds.Given as goal

abbrev pub invariant-loop-held : goal.invariant-loop-held
invariant-loop-held l = (k : ℕ) (d : List ℕ) → k < l.held-index → slice_index_or l.held-items k d ≡ l.name → ⊥
