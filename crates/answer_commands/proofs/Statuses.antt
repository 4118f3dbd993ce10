-- What the status of an answer tells.
use Rattle.std.proofs.Common.{◌≡◌, ◌⊎◌, inl, inr, ℕ, refl}
use Rattle.run_streams.proofs.ForCallers.{apart}

-- a status of 0 or 1 tells of no fault, and of no refusal
pub small_status : (status : ℕ) → (status ≡ 0) ⊎ (status ≡ 1) → (status ≡ 4) ⊎ (status ≡ 6) → ⊥
small_status status (inl z) (inl e) = apart status 0 4 z e refl
small_status status (inl z) (inr e) = apart status 0 6 z e refl
small_status status (inr z) (inl e) = apart status 1 4 z e refl
small_status status (inr z) (inr e) = apart status 1 6 z e refl

pub not_three : (status : ℕ) → (status ≡ 0) ⊎ (status ≡ 1) → status ≡ 3 → ⊥
not_three status (inl z) e = apart status 0 3 z e refl
not_three status (inr z) e = apart status 1 3 z e refl
