-- The beginnings of a legal list of entries.
use Rattle.std.proofs.Common.{◌≡◌, ◌+◌, ℕ, zero, suc, List, [], ◌∷◌, ◌++◌, take, Some, ap, subst, arith}
use Rattle.std.specs.List.{slice_get}
use Rattle.policy_history.specs.declared.heads.Head.{Head}
use Rattle.policy_history.specs.Events.{EntryTree}
use Rattle.policy_history.specs.Machine.{IsAccepted, IsLegal, IsLegalFrom, after, replay, replay_from}
use Rattle.policy_history.specs.States.{State, empty_state}

accepted_from : (h : Head) (s : State) (es : List EntryTree) (n : ℕ) (e : EntryTree) → IsLegalFrom h s es → slice_get es n ≡ Some e → IsAccepted h (replay_from h s (take n es)) e
accepted_from h s [] n e legal at = absurd (cc at)
accepted_from h s (x ∷ es) zero e legal at = let same : x ≡ e = cc at in subst (λ (y : EntryTree). IsAccepted h s y) same legal.0
accepted_from h s (x ∷ es) (suc n) e legal at = accepted_from h (after h s x) es n e legal.1 at

-- an entry of a legal list is accepted behind those before it
pub accepted_at : (h : Head) (es : List EntryTree) (n : ℕ) (e : EntryTree) → IsLegal h es → slice_get es n ≡ Some e → IsAccepted h (replay h (take n es)) e
accepted_at h es n e legal at = accepted_from h (empty_state h) es n e legal at

-- one entry more
pub take_one_more : (es : List EntryTree) (n : ℕ) (e : EntryTree) → slice_get es n ≡ Some e → take (n + 1) es ≡ take n es ++ e ∷ []
take_one_more [] n e at = absurd (cc at)
take_one_more (x ∷ es) zero e at = let same : x ≡ e = cc at in ap (λ (y : EntryTree). y ∷ []) same
take_one_more (x ∷ es) (suc n) e at =
    let more : suc n + 1 ≡ suc (n + 1) = omega arith in
    rw more (ap (λ (ys : List EntryTree). x ∷ ys) (take_one_more es n e at))
