-- Where a principal stands that is found by its name, and by its secret too.
use Rattle.std.proofs.Common.{◌≡◌, ◌≢◌, ◌<◌, ◌≤◌, ◌+◌, ◌⊎◌, inl, inr, ℕ, Bool, true, false, cond, not, nat_lt, List, [], ◌∷◌, ◌++◌, ◌||◌, ◌&&◌, length, map, take, drop, get_or, Option, Some, None, refl, sym, ap, ◌∙◌, subst, arith, length-append}
use Rattle.std.specs.List.{AllPairs, All, list_any, position, position_or_len}
use Rattle.std.proofs.lemmas.Bool.{cases_lt, le-ltb, lt-ltb}
use Rattle.std.proofs.lemmas.List.{get_or_append_left, length-map, map-append, take-append-drop}
use Rattle.std.proofs.lemmas.List.Elements.{All-get_or, All-push}
use Rattle.std.proofs.lemmas.List.Folds.{Any-from_list_any}
use Rattle.std.proofs.lemmas.List.Quantifiers.{position-Some}
use Rattle.std.proofs.lemmas.List.Sums.{position_or_len_is}
use Rattle.nal_term.specs.Names.{IsName}
use Rattle.nal_term.specs.TreeKeys.{same_bytes, same_bytes-Decides}
use Rattle.nal_term.proofs.ForCallers.{fails_at}
use Rattle.policy_history.specs.declared.heads.Principal.{Principal}
use Rattle.policy_history.specs.Events.{admitted, numbered}
use Rattle.policy_history.specs.Heads.{ArePrincipals}
use Rattle.policy_history.specs.Inner.Named.{AreNamed}
use Rattle.policy_history.proofs.HeadLists.{pairs_before}

abbrev name_in : Principal → List ℕ
name_in x = x.name

abbrev IsApart : Principal → Principal → Type 0
IsApart x y = x.name ≢ y.name

-- a name stands among the names where its principal does
first_named : (test : List ℕ → Bool) (xs : List Principal) → position_or_len test (map name_in xs) ≡ position_or_len (λ (x : Principal). test x.name) xs
first_named test [] = refl
first_named test (x ∷ xs) = λ i. cond (not (test x.name)) (1 + first_named test xs i) 0

pub place_named : (xs : List Principal) (names : List (List ℕ)) (name : List ℕ) → names ≡ map name_in xs → position (same_bytes name) names ≡ numbered xs name
place_named xs names name are =
    let first = first_named (same_bytes name) xs in
    let long = length-map xs name_in in
    ap (position (same_bytes name)) are ∙ (λ i. cond (nat_lt (first i) (long i)) (Some (first i)) None)

any_named : (name : List ℕ) (xs : List Principal) → list_any (same_bytes name) (map name_in xs) ≡ list_any (λ (x : Principal). same_bytes name x.name) xs
any_named name [] = refl
any_named name (x ∷ xs) = ap (λ b. same_bytes name x.name || b) (any_named name xs)

-- none of the names is that of one more principal
pub no_name : (xs : List Principal) (y : Principal) (names : List (List ℕ)) → names ≡ map name_in xs → ArePrincipals (xs ++ y ∷ []) → list_any (same_bytes y.name) names ≡ false
no_name xs y names named are = ap (list_any (same_bytes y.name)) named ∙ any_named y.name xs ∙ of (list_any (λ (x : Principal). same_bytes y.name x.name) xs) refl
  where
    of : (b : Bool) → list_any (λ (x : Principal). same_bytes y.name x.name) xs ≡ b → b ≡ false
    of false e = refl
    of true e =
        let there = Any-from_list_any (λ (x : Principal). same_bytes y.name x.name) xs e in
        absurd (pairs_before IsApart xs y there.1 are.distinct there.0 there.2
        (ap name_in there.3 ∙ sym ((same_bytes-Decides y.name there.1.name).0 there.4)))

-- one more principal, with its name
pub named_more : (xs : List Principal) (y : Principal) (names more : List (List ℕ)) (name : List ℕ) → AreNamed xs names → ArePrincipals (xs ++ y ∷ []) → IsName y.name → name ≡ y.name
    → more ≡ cond (list_any (same_bytes name) names) names (names ++ name ∷ []) → AreNamed (xs ++ y ∷ []) more
named_more xs y names more name are principals is same is_more =
    let absent : list_any (same_bytes name) names ≡ false = ap (λ x. list_any (same_bytes x) names) same ∙ no_name xs y names are.named principals in
    record {
      principals = principals;
      each = All-push (λ (x : Principal). IsName x.name) xs y are.each is;
      named = is_more ∙ ap (λ b. cond b names (names ++ name ∷ [])) absent ∙ (λ i. are.named i ++ same i ∷ []) ∙ sym (map-append name_in xs (y ∷ []));
    }

-- whoever has a name is found by one
pub no_such_name : (xs : List Principal) (name : List ℕ) → All (λ (x : Principal). IsName x.name) xs → ¬ IsName name → numbered xs name ≡ None
no_such_name xs name each bad = of (numbered xs name) refl
  where
    of : (o : Option ℕ) → numbered xs name ≡ o → o ≡ None
    of None e = refl
    of (Some k) e =
        let none : Principal = record { name = []; secret = [] } in
        let there = position-Some (λ (x : Principal). same_bytes name x.name) xs k none e in
        absurd (bad (subst IsName (sym ((same_bytes-Decides name (get_or xs k none).name).0 there.1)) (All-get_or (λ (x : Principal). IsName x.name) xs k none there.0 each)))

-- ---- A beginning of principals

pub principals_front : (xs ys : List Principal) → ArePrincipals (xs ++ ys) → ArePrincipals xs
principals_front xs ys are = record {
  bound = omega (arith, length-append xs ys, are.bound);
  distinct = λ i j d less below.
      rw (get_or_append_left xs ys d i (omega (arith, less, below)), get_or_append_left xs ys d j below) at (are.distinct i j d less (omega (arith, length-append xs ys, below)));
}

pub principals_first : (n : ℕ) (xs : List Principal) → ArePrincipals xs → ArePrincipals (take n xs)
principals_first n xs are = principals_front (take n xs) (drop n xs) (subst ArePrincipals (sym (take-append-drop n xs)) are)

-- ---- By name and secret

module _ {X : Type 0} (test : X → Bool) (xs : List X) (d : X) where
  at_place : (k : ℕ) → k < length xs → ((j : ℕ) → j < k → test (get_or xs j d) ≡ false) → test (get_or xs k d) ≡ true → position test xs ≡ Some k
  at_place k below before here =
      let first = position_or_len_is test xs k d (omega (arith, below)) before (λ _. here) in
      ap (λ n. cond (nat_lt n (length xs)) (Some n) None) first ∙ ap (λ b. cond b (Some k) None) (lt-ltb k (length xs) below)

  nowhere : ((j : ℕ) → j < length xs → test (get_or xs j d) ≡ false) → position test xs ≡ None
  nowhere fails =
      let n = length xs in
      let first = position_or_len_is test xs n d (omega arith) fails (λ below. absurd (omega (arith, below))) in
      ap (λ k. cond (nat_lt k n) (Some k) None) first ∙ ap (λ b. cond b (Some n) None) (le-ltb n n (omega arith))

abbrev has_both : List ℕ → List ℕ → Principal → Bool
has_both name secret x = same_bytes name x.name && same_bytes secret x.secret

fails_both : (a b : Bool) → a ≡ false → (a && b) ≡ false
fails_both a b e = ap (λ x. x && b) e

-- whom nobody is by name is nobody by both
pub admits_nobody : (xs : List Principal) (name secret : List ℕ) → numbered xs name ≡ None → admitted xs name secret ≡ None
admits_nobody xs name secret none =
    let d : Principal = record { name = []; secret = [] } in
    nowhere (has_both name secret) xs d (λ j below. fails_both _ _ (fails_at (λ (x : Principal). same_bytes name x.name) xs j d below none))

-- whoever has the name is the one by both exactly where the secret is its own
module _ (xs : List Principal) (name secret : List ℕ) (are : ArePrincipals xs) (k : ℕ) (d : Principal) (at : numbered xs name ≡ Some k) where
  there : (k < length xs) × (same_bytes name (get_or xs k d).name ≡ true) × ((j : ℕ) → j < k → same_bytes name (get_or xs j d).name ≡ false)
  there = position-Some (λ (x : Principal). same_bytes name x.name) xs k d at

  pub admits_it : same_bytes secret (get_or xs k d).secret ≡ true → admitted xs name secret ≡ Some k
  admits_it same = at_place (has_both name secret) xs d k there.0 (λ j low. fails_both _ _ (there.2 j low)) (ap (λ a. a && same_bytes secret (get_or xs k d).secret) there.1 ∙ same)

  pub admits_no_other : same_bytes secret (get_or xs k d).secret ≡ false → admitted xs name secret ≡ None
  admits_no_other other = nowhere (has_both name secret) xs d (λ j below. fails j below (cases_lt j k))
    where
      here : name ≡ (get_or xs k d).name
      here = (same_bytes-Decides name (get_or xs k d).name).0 there.1

      later : (j : ℕ) → k < j → j < length xs → (b : Bool) → same_bytes name (get_or xs j d).name ≡ b → b ≡ false
      later j less below false e = refl
      later j less below true e = absurd (are.distinct k j d less below (sym here ∙ (same_bytes-Decides name (get_or xs j d).name).0 e))

      at_k : (j : ℕ) → j ≡ k → has_both name secret (get_or xs j d) ≡ false
      at_k j same = ap (λ i. has_both name secret (get_or xs i d)) same ∙ ap (λ a. a && same_bytes secret (get_or xs k d).secret) there.1 ∙ other

      fails : (j : ℕ) → j < length xs → (j < k) ⊎ (k ≤ j) → has_both name secret (get_or xs j d) ≡ false
      fails j below (inl low) = fails_both _ _ (there.2 j low)
      fails j below (inr high) = elim (cases_lt k j) [
        | inl less ↦ fails_both _ _ (later j less below (same_bytes name (get_or xs j d).name) refl)
        | inr most ↦ at_k j (omega (arith, high, most))
      ]
