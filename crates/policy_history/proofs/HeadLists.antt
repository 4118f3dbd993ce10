-- When one more principal, or one more authority, may be added to a head.
use Rattle.std.proofs.Common.{◌≡◌, ◌≢◌, ◌≤◌, ◌<◌, ℕ, zero, suc, Bool, true, false, List, [], ◌∷◌, ◌++◌, length, get_or, Some, None, nat_eq, refl, sym, ap, ◌∙◌, arith, length-append}
use Rattle.std.specs.Cmp.{unsigned_Decides}
use Rattle.std.specs.List.{AllPairs, list_any}
use Rattle.std.proofs.lemmas.List.{get_or_append_left, get_or_push}
use Rattle.std.proofs.lemmas.List.Elements.{All-push, All-get_or}
use Rattle.std.proofs.lemmas.List.Folds.{Any-from_list_any}
use Rattle.std.proofs.lemmas.List.Quantifiers.{all_pairs_push, position-Some}
use Rattle.nal_term.proofs.ForCallers.{fails_at}
use Rattle.nal_term.specs.TreeKeys.{same_bytes, same_bytes-Decides}
use Rattle.policy_history.specs.Events.{numbered}
use Rattle.policy_history.specs.Heads.{ArePrincipals, AreAuthorities, IsAuthority}
use Rattle.policy_history.specs.declared.heads.Principal.{Principal}
use Rattle.policy_history.specs.declared.heads.Authority.{Authority}

-- the parts of a longer list
module _ {X : Type 0} (R : X → X → Type 0) (xs : List X) (y d : X) where
  pub pairs_before : AllPairs R (xs ++ y ∷ []) → (k : ℕ) → k < length xs → R (get_or xs k d) y
  pairs_before pairs k below =
      let e = get_or_append_left xs (y ∷ []) d k below in
      let f = get_or_push xs y d (length xs) refl in
      let l = length-append xs (y ∷ []) in
      rw (e, f) at (pairs k (length xs) d below (omega (arith, l)))

-- an item whose key no other has
fresh_name : (xs : List Principal) (y : Principal) → numbered xs y.name ≡ None → (k : ℕ) (d : Principal) → k < length xs → (get_or xs k d).name ≢ y.name
fresh_name xs y none k d below same =
    let fails = fails_at (λ (x : Principal). same_bytes y.name x.name) xs k d below none in
    absurd (cc (fails, (same_bytes-Decides y.name (get_or xs k d).name).1 (sym same)))

-- one more principal may be added where there are fewer than 16,384 and none has its name
pub principals_more : (xs : List Principal) (y : Principal) → ArePrincipals xs → length xs < 16384 → numbered xs y.name ≡ None → ArePrincipals (xs ++ y ∷ [])
principals_more xs y are short none = record {
  bound = let l = length-append xs (y ∷ []) in omega (arith, l);
  distinct = all_pairs_push (λ (x z : Principal). x.name ≢ z.name) xs y are.distinct (fresh_name xs y none);
}

-- and may not where there are 16,384
pub principals_full : (xs : List Principal) (y : Principal) → 16384 ≤ length xs → ArePrincipals (xs ++ y ∷ []) → ⊥
principals_full xs y full are = let l = length-append xs (y ∷ []) in absurd (omega (arith, l, full, are.bound))

-- or where one has its name
pub principals_taken : (xs : List Principal) (y : Principal) (k : ℕ) → numbered xs y.name ≡ Some k → ArePrincipals (xs ++ y ∷ []) → ⊥
principals_taken xs y k at are =
    let there = position-Some (λ (x : Principal). same_bytes y.name x.name) xs k y at in
    pairs_before (λ (x z : Principal). x.name ≢ z.name) xs y y are.distinct k there.0 (sym ((same_bytes-Decides y.name (get_or xs k y).name).0 there.1))

-- where no item passes, the one at a place does not
fails_first : {X : Type 0} (test : X → Bool) (x : X) (xs : List X) → list_any test (x ∷ xs) ≡ false → (test x ≡ false) × (list_any test xs ≡ false)
fails_first test x xs none = of (test x) refl
  where
    of : (b : Bool) → test x ≡ b → (test x ≡ false) × (list_any test xs ≡ false)
    of true e = absurd (cc (rw e at none))
    of false e = (e, rw e at none)

port_fails : (xs : List Authority) (y : Authority) → list_any (λ (a : Authority). nat_eq y.port a.port) xs ≡ false → (k : ℕ) (d : Authority) → k < length xs → nat_eq y.port (get_or xs k d).port ≡ false
port_fails [] y none k d below = absurd (omega (arith, below))
port_fails (x ∷ xs) y none zero d below = (fails_first (λ (a : Authority). nat_eq y.port a.port) x xs none).0
port_fails (x ∷ xs) y none (suc k) d below = port_fails xs y (fails_first (λ (a : Authority). nat_eq y.port a.port) x xs none).1 k d (omega (arith, below))

fresh_port : (xs : List Authority) (y : Authority) → list_any (λ (a : Authority). nat_eq y.port a.port) xs ≡ false → (k : ℕ) (d : Authority) → k < length xs → (get_or xs k d).port ≢ y.port
fresh_port xs y none k d below same =
    absurd (cc (port_fails xs y none k d below, (unsigned_Decides y.port (get_or xs k d).port).1 (sym same)))

-- one more authority may be added where there are fewer than 16, it is formed, and none has its port
pub authorities_more : (xs : List Authority) (y : Authority) → AreAuthorities xs → length xs < 16 → IsAuthority y → list_any (λ (a : Authority). nat_eq y.port a.port) xs ≡ false → AreAuthorities (xs ++ y ∷ [])
authorities_more xs y are short formed none = record {
  bound = let l = length-append xs (y ∷ []) in omega (arith, l);
  each = All-push IsAuthority xs y are.each formed;
  distinct = all_pairs_push (λ (x z : Authority). x.port ≢ z.port) xs y are.distinct (fresh_port xs y none);
}

-- and may not where there are 16
pub authorities_full : (xs : List Authority) (y : Authority) → 16 ≤ length xs → AreAuthorities (xs ++ y ∷ []) → ⊥
authorities_full xs y full are = let l = length-append xs (y ∷ []) in absurd (omega (arith, l, full, are.bound))

-- or where it is not formed
pub authorities_unformed : (xs : List Authority) (y : Authority) → (IsAuthority y → ⊥) → AreAuthorities (xs ++ y ∷ []) → ⊥
authorities_unformed xs y bad are =
    let e = get_or_push xs y y (length xs) refl in
    let l = length-append xs (y ∷ []) in
    bad (rw e at (All-get_or IsAuthority (xs ++ y ∷ []) (length xs) y (omega (arith, l)) are.each))

-- or where one has its port
pub authorities_taken : (xs : List Authority) (y : Authority) → list_any (λ (a : Authority). nat_eq y.port a.port) xs ≡ true → AreAuthorities (xs ++ y ∷ []) → ⊥
authorities_taken xs y some are =
    let there = Any-from_list_any (λ (a : Authority). nat_eq y.port a.port) xs some in
    pairs_before (λ (x z : Authority). x.port ≢ z.port) xs y there.1 are.distinct there.0 there.2 (ap (λ (a : Authority). a.port) there.3 ∙ sym ((unsigned_Decides y.port there.1.port).0 there.4))
