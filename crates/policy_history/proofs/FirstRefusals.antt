-- The refusal that is found is the first that applies.
use Rattle.std.proofs.Common.{◌≡◌, ◌<◌, ◌+◌, ◌⊎◌, inl, inr, ℕ, zero, suc, Bool, true, false, List, [], ◌∷◌, length, get_or, Some, refl, sym, ap, ◌∙◌, arith}
use Rattle.std.specs.List.{find}
use Rattle.policy_history.specs.declared.events.Refusal.{Refusal}
use Rattle.policy_history.specs.declared.events.Refusal.TheVariants.{NoSuchPrincipal, NotYourPrincipal, NoSuchLabel, NotHolder, NoSuchObject, NameTaken, NotOwner, NoGoal, NoSuchProof, NoBinding, BadPort, BadFormula, BadProof, Quota, JournalFull, ObjectsFull, CasesFull, NotRecorded}
use Rattle.policy_history.specs.Laws.{AcceptedElse, FirstRefusal, refusal_rank}
use Rattle.policy_history.specs.Machine.{applies, refusal_of, refusals}
use Rattle.policy_history.proofs.Acceptance.{free_where, never_unrecorded, none_applies}

module _ {X : Type 0} (p : X → Bool) where
  -- what is found passes, and nothing before it does
  found_at : (xs : List X) (x : X) → find p xs ≡ Some x → (k : ℕ) × (k < length xs) × (get_or xs k x ≡ x) × (p x ≡ true) × ((j : ℕ) (d : X) → j < k → p (get_or xs j d) ≡ false)
  found_at [] x e = absurd (cc e)
  found_at (y ∷ xs) x e = of (p y) refl (found_at xs x)
    where
      of : (b : Bool) → p y ≡ b → (find p xs ≡ Some x → (k : ℕ) × (k < length xs) × (get_or xs k x ≡ x) × (p x ≡ true) × ((j : ℕ) (d : X) → j < k → p (get_or xs j d) ≡ false))
          → (k : ℕ) × (k < length (y ∷ xs)) × (get_or (y ∷ xs) k x ≡ x) × (p x ≡ true) × ((j : ℕ) (d : X) → j < k → p (get_or (y ∷ xs) j d) ≡ false)
      of true b later =
          let here : Some y ≡ Some x = rw b at e in
          let same : y ≡ x = cc here in
          (zero, omega arith, same, ap p (sym same) ∙ b, λ j d low. absurd (omega (arith, low)))
      of false b later =
          let r = later (rw b at e) in
          (suc r.0, omega (arith, r.1), r.2, r.3, before)
        where
          before : (j : ℕ) (d : X) → j < suc (later (rw b at e)).0 → p (get_or (y ∷ xs) j d) ≡ false
          before zero d low = b
          before (suc j) d low = (later (rw b at e)).4 j d (omega (arith, low))

  found_first : (xs : List X) (k : ℕ) (d : X) → k < length xs → p (get_or xs k d) ≡ true → ((j : ℕ) → j < k → p (get_or xs j d) ≡ false) → find p xs ≡ Some (get_or xs k d)
  found_first [] k d within here before = absurd (omega (arith, within))
  found_first (x ∷ xs) zero d within here before = rw here refl
  found_first (x ∷ xs) (suc k) d within here before = rw (before zero (omega arith)) (found_first xs k d (omega (arith, within)) here (λ j low. before (suc j) (omega (arith, low))))

-- the refusals stand in the order of their ranks, from 4
ranked_at : (k : ℕ) (d : Refusal) → k < 17 → refusal_rank (get_or refusals k d) ≡ k + 4
ranked_at zero d within = refl
ranked_at (suc zero) d within = refl
ranked_at (suc (suc zero)) d within = refl
ranked_at (suc (suc (suc zero))) d within = refl
ranked_at (suc (suc (suc (suc zero)))) d within = refl
ranked_at (suc (suc (suc (suc (suc zero))))) d within = refl
ranked_at (suc (suc (suc (suc (suc (suc zero)))))) d within = refl
ranked_at (suc (suc (suc (suc (suc (suc (suc zero))))))) d within = refl
ranked_at (suc (suc (suc (suc (suc (suc (suc (suc zero)))))))) d within = refl
ranked_at (suc (suc (suc (suc (suc (suc (suc (suc (suc zero))))))))) d within = refl
ranked_at (suc (suc (suc (suc (suc (suc (suc (suc (suc (suc zero)))))))))) d within = refl
ranked_at (suc (suc (suc (suc (suc (suc (suc (suc (suc (suc (suc zero))))))))))) d within = refl
ranked_at (suc (suc (suc (suc (suc (suc (suc (suc (suc (suc (suc (suc zero)))))))))))) d within = refl
ranked_at (suc (suc (suc (suc (suc (suc (suc (suc (suc (suc (suc (suc (suc zero))))))))))))) d within = refl
ranked_at (suc (suc (suc (suc (suc (suc (suc (suc (suc (suc (suc (suc (suc (suc zero)))))))))))))) d within = refl
ranked_at (suc (suc (suc (suc (suc (suc (suc (suc (suc (suc (suc (suc (suc (suc (suc zero))))))))))))))) d within = refl
ranked_at (suc (suc (suc (suc (suc (suc (suc (suc (suc (suc (suc (suc (suc (suc (suc (suc zero)))))))))))))))) d within = refl
ranked_at (suc (suc (suc (suc (suc (suc (suc (suc (suc (suc (suc (suc (suc (suc (suc (suc (suc k))))))))))))))))) d within = absurd (omega (arith, within))

place_of : (r : Refusal) → (r ≡ NotRecorded) ⊎ ((k : ℕ) × (k < 17) × (get_or refusals k r ≡ r) × (refusal_rank r ≡ k + 4))
place_of NoSuchPrincipal = inr (0, omega arith, refl, refl)
place_of NotYourPrincipal = inr (1, omega arith, refl, refl)
place_of NoSuchLabel = inr (2, omega arith, refl, refl)
place_of NotHolder = inr (3, omega arith, refl, refl)
place_of NoSuchObject = inr (4, omega arith, refl, refl)
place_of NameTaken = inr (5, omega arith, refl, refl)
place_of NotOwner = inr (6, omega arith, refl, refl)
place_of NoGoal = inr (7, omega arith, refl, refl)
place_of NoSuchProof = inr (8, omega arith, refl, refl)
place_of NoBinding = inr (9, omega arith, refl, refl)
place_of BadPort = inr (10, omega arith, refl, refl)
place_of BadFormula = inr (11, omega arith, refl, refl)
place_of BadProof = inr (12, omega arith, refl, refl)
place_of Quota = inr (13, omega arith, refl, refl)
place_of JournalFull = inr (14, omega arith, refl, refl)
place_of ObjectsFull = inr (15, omega arith, refl, refl)
place_of CasesFull = inr (16, omega arith, refl, refl)
place_of NotRecorded = inl refl

pub first_refusal : FirstRefusal
first_refusal h s session p e refusal = (to, from)
  where
    test : Refusal → Bool
    test = applies h s session p e

    to : refusal_of h s session p e ≡ Some refusal → (applies h s session p e refusal ≡ true) × ((other : Refusal) → refusal_rank other < refusal_rank refusal → applies h s session p e other ≡ false)
    to found =
        let r = found_at (applies h s session p e) refusals refusal found in
        let n : refusal_rank refusal ≡ r.0 + 4 = ap refusal_rank (sym r.2) ∙ ranked_at r.0 refusal r.1 in
        (r.3, λ other low. lower r.0 n r.4 other low (place_of other))
      where
        lower : (k : ℕ) → refusal_rank refusal ≡ k + 4 → ((j : ℕ) (d : Refusal) → j < k → applies h s session p e (get_or refusals j d) ≡ false)
            → (other : Refusal) → refusal_rank other < refusal_rank refusal → (other ≡ NotRecorded) ⊎ ((k : ℕ) × (k < 17) × (get_or refusals k other ≡ other) × (refusal_rank other ≡ k + 4)) → applies h s session p e other ≡ false
        lower k n before other low (inl is) = rw is (never_unrecorded h s session p e)
        lower k n before other low (inr (j, within, read, m)) = rw read at (before j other (omega (arith, n, m, low)))

    from : (applies h s session p e refusal ≡ true) × ((other : Refusal) → refusal_rank other < refusal_rank refusal → applies h s session p e other ≡ false) → refusal_of h s session p e ≡ Some refusal
    from (here, first) = at (place_of refusal)
      where
        at : (refusal ≡ NotRecorded) ⊎ ((k : ℕ) × (k < 17) × (get_or refusals k refusal ≡ refusal) × (refusal_rank refusal ≡ k + 4)) → refusal_of h s session p e ≡ Some refusal
        at (inl is) = absurd (cc (rw is at here, never_unrecorded h s session p e))
        at (inr (k, within, read, n)) =
            found_first (applies h s session p e) refusals k refusal within (rw read here)
            (λ j low. first (get_or refusals j refusal) (let m = ranked_at j refusal (omega (arith, low, within)) in omega (arith, m, n, low)))
            ∙ ap Some read

pub accepted_else : AcceptedElse
accepted_else h s session p e = (none_applies h s session p e, free_where h s session p e)
