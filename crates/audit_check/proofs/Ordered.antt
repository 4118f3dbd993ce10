-- Records in the order of their points, and which of them were judged.
use Rattle.std.proofs.Common.{◌≡◌, ◌≤◌, ◌<◌, ◌+◌, ◌⊎◌, inl, inr, ℕ, zero, suc, List, [], ◌∷◌, ◌++◌, length, length-append, min, Some, get_or, refl, sym, ap, subst, ◌∙◌, arith}
use Rattle.std.specs.List.{All, slice_get}
use Rattle.std.specs.List.Sorted.{IsNonDecreasingBy, IsPermutation}
use Rattle.std.proofs.lemmas.Option.{get_or_from_slice_get, slice_get-get_or, slice_get_within}
use Rattle.std.proofs.lemmas.Bool.{cases_lt}
use Rattle.std.proofs.lemmas.List.Sorted.{All-permutation, Contains-permutation}
use Rattle.nal_rules.specs.Verdicts.{IsLowest}
use Rattle.policy_history.specs.declared.heads.Head.{Head}
use Rattle.policy_history.specs.Events.{EntryTree}
use Rattle.audit_check.specs.declared.audits.Place.{Place}
use Rattle.audit_check.specs.declared.records.Record.{Record}
use Rattle.audit_check.specs.Audits.{IsWrongRecord}
use Rattle.policy_history.specs.Machine.{replay}
use Rattle.policy_history.specs.Values.{History, entry_trees, state_after}
use Rattle.audit_check.specs.Beginnings.{IsBeginning}
use Rattle.audit_check.specs.Inner.Replays.{AreInOrder, IsPlaceOf}
use Rattle.audit_check.specs.Records.{IsRightIn, IsRightRecord}

slice_get_front : {A : Type 0} (xs ys : List A) (i : ℕ) (x : A) → slice_get xs i ≡ Some x → slice_get (xs ++ ys) i ≡ Some x
slice_get_front [] ys i x e = absurd (cc e)
slice_get_front (a ∷ xs) ys zero x e = e
slice_get_front (a ∷ xs) ys (suc i) x e = slice_get_front xs ys i x e

slice_get_last : {A : Type 0} (xs : List A) (x : A) → slice_get (xs ++ x ∷ []) (length xs) ≡ Some x
slice_get_last [] x = refl
slice_get_last (a ∷ xs) x = slice_get_last xs x

-- the places of the first records, in their order
pub record ArePlaces (records : List Record) (places : List Place) (n : ℕ) : Type 0 where
  pub count : length places ≡ n
  pub each : (k : ℕ) → k < n → (r : Record) × (slice_get records k ≡ Some r) × (slice_get places k ≡ Some (record { at = r.at; index = k }))

-- what was found of the first places: no record of theirs that is below the lowest is wrong, and that one is, if it is one
pub record AreJudged (h : Head) (es : List EntryTree) (records : List Record) (places : List Place) (i lowest : ℕ) : Type 0 where
  pub within : lowest ≤ length records
  pub wrong : lowest < length records → IsWrongRecord h es records (lowest + 1)
  pub passed : (j : ℕ) (p : Place) (r : Record) → j < i → slice_get places j ≡ Some p → slice_get records p.index ≡ Some r → IsRightRecord h es r ⊎ (lowest ≤ p.index)

pub ordered : (records : List Record) (places sorted : List Place) → ArePlaces records places (length records) → IsPermutation places sorted → IsNonDecreasingBy (λ (p : Place). p.at) sorted → AreInOrder records sorted
ordered records places sorted are moved rising = record {
  complete = λ k below.
      let e = are.each k below in
      let count = are.count in
      let p : Place = record { at = e.0.at; index = k } in
      (p, Contains-permutation places sorted p moved (k, omega (arith, below, count), get_or_from_slice_get places k p p e.2), refl);
  each = All-permutation (IsPlaceOf records) places sorted moved (λ k d below.
      let count = are.count in
      let e = are.each k (omega (arith, below, count)) in
      let p : Place = record { at = e.0.at; index = k } in
      subst (IsPlaceOf records) (sym (get_or_from_slice_get places k p d e.2)) (e.0, e.1, refl));
  rising = rising;
}

-- behind the last place each record is right that is below the lowest
pub right_below : (h : Head) (es : List EntryTree) (records : List Record) (places : List Place) (i lowest : ℕ) → AreInOrder records places → length places ≤ i
    → AreJudged h es records places i lowest → (j : ℕ) (r : Record) → j < lowest → slice_get records j ≡ Some r → IsRightRecord h es r
right_below h es records places i lowest o all judged j r below there =
    let c = o.complete j (slice_get_within records j r there) in
    let at : slice_get places c.1.0 ≡ Some c.0 = slice_get-get_or places c.1.0 c.0 c.1.1 ∙ ap Some c.1.2 in
    let same : slice_get records c.0.index ≡ Some r = rw c.2 there in
    either c.0.index (judged.passed c.1.0 c.0 r (omega (arith, c.1.1, all)) at same) c.2
  where
    either : (k : ℕ) → IsRightRecord h es r ⊎ (lowest ≤ k) → k ≡ j → IsRightRecord h es r
    either k (inl right) e = right
    either k (inr low) e = absurd (omega (arith, low, e, below))

-- what is told of all records
pub all_right : (h : Head) (es : List EntryTree) (records : List Record) (lowest : ℕ) → length records ≤ lowest → ((j : ℕ) (r : Record) → j < lowest → slice_get records j ≡ Some r → IsRightRecord h es r)
    → All (IsRightRecord h es) records
all_right h es records lowest all right k d below = right k (get_or records k d) (omega (arith, below, all)) (slice_get-get_or records k d below)

pub first_wrong : (h : Head) (es : List EntryTree) (records : List Record) (lowest : ℕ) → IsWrongRecord h es records (lowest + 1)
    → ((j : ℕ) (r : Record) → j < lowest → slice_get records j ≡ Some r → IsRightRecord h es r) → IsLowest (IsWrongRecord h es records) (lowest + 1)
first_wrong h es records lowest wrong right = (wrong, λ k below w. w.4 (right w.0 w.1 (omega (arith, below, w.2)) w.3))

-- ---- one place more

pub none_placed : (records : List Record) → ArePlaces records [] 0
none_placed records = record { count = refl; each = λ k below. absurd (omega (arith, below)) }

pub one_placed : (records : List Record) (places : List Place) (n : ℕ) (r : Record) → ArePlaces records places n → slice_get records n ≡ Some r
    → ArePlaces records (places ++ (record { at = r.at; index = n }) ∷ []) (n + 1)
one_placed records places n r are at = record {
  count = let long = length-append places ((record { at = r.at; index = n }) ∷ []) in let count = are.count in omega (arith, long, count);
  each = λ k below. of k below (cases_lt k n);
}
  where
    p : Place
    p = record { at = r.at; index = n }

    of : (k : ℕ) → k < n + 1 → (k < n) ⊎ (n ≤ k) → (s : Record) × (slice_get records k ≡ Some s) × (slice_get (places ++ p ∷ []) k ≡ Some (record { at = s.at; index = k }))
    of k below (inl low) = let e = are.each k low in (e.0, e.1, slice_get_front places (p ∷ []) k (record { at = e.0.at; index = k }) e.2)
    of k below (inr high) =
        let same : k ≡ n = omega (arith, below, high) in
        let count = are.count in
        rw same (r, at, subst (λ (m : ℕ). slice_get (places ++ p ∷ []) m ≡ Some p) count (slice_get_last places p))

-- the record of a place
pub place_of : (records : List Record) (places : List Place) (i : ℕ) (p : Place) → AreInOrder records places → slice_get places i ≡ Some p → IsPlaceOf records p
place_of records places i p o at = subst (IsPlaceOf records) (get_or_from_slice_get places i p p at) (o.each i p (slice_get_within places i p at))

pub none_judged : (h : Head) (es : List EntryTree) (records : List Record) (places : List Place) → AreJudged h es records places 0 (length records)
none_judged h es records places = record { within = omega arith; wrong = λ below. absurd (omega (arith, below)); passed = λ j p r below. absurd (omega (arith, below)) }

module _ (h : Head) (es : List EntryTree) (records : List Record) (places : List Place) (i lowest : ℕ) (p : Place) (r : Record) (judged : AreJudged h es records places i lowest)
    (at : slice_get places i ≡ Some p) (there : slice_get records p.index ≡ Some r) where
  some_same : {A : Type 0} {x y : A} → Some x ≡ Some y → x ≡ y
  some_same e = cc

  here : (j : ℕ) (q : Place) (s : Record) → j ≡ i → slice_get places j ≡ Some q → slice_get records q.index ≡ Some s → (q ≡ p) × (s ≡ r)
  here j q s e a b =
      let q_is : q ≡ p = some_same (sym a ∙ ap (slice_get places) e ∙ at) in
      (q_is, some_same (sym b ∙ ap (λ (x : Place). slice_get records x.index) q_is ∙ there))

  -- one that is right
  pub one_right : IsRightRecord h es r → AreJudged h es records places (i + 1) lowest
  one_right right = record { within = judged.within; wrong = judged.wrong; passed = passed }
    where
      passed : (j : ℕ) (q : Place) (s : Record) → j < i + 1 → slice_get places j ≡ Some q → slice_get records q.index ≡ Some s → IsRightRecord h es s ⊎ (lowest ≤ q.index)
      passed j q s below a b = of (cases_lt j i)
        where
          of : (j < i) ⊎ (i ≤ j) → IsRightRecord h es s ⊎ (lowest ≤ q.index)
          of (inl low) = judged.passed j q s low a b
          of (inr high) = inl (subst (IsRightRecord h es) (sym (here j q s (omega (arith, below, high)) a b).1) right)

  -- one that is wrong
  pub one_wrong : (IsRightRecord h es r → ⊥) → AreJudged h es records places (i + 1) (min lowest p.index)
  one_wrong bad =
      let within = judged.within in
      record { within = omega (arith, within); wrong = λ below. of below (cases_lt lowest p.index); passed = passed }
    where
      of : min lowest p.index < length records → (lowest < p.index) ⊎ (p.index ≤ lowest) → IsWrongRecord h es records (min lowest p.index + 1)
      of below (inl low) = let least : min lowest p.index ≡ lowest = omega (arith, low) in rw least (judged.wrong (omega (arith, below, least)))
      of below (inr high) = let least : min lowest p.index ≡ p.index = omega (arith, high) in rw least (p.index, r, refl, there, bad)

      passed : (j : ℕ) (q : Place) (s : Record) → j < i + 1 → slice_get places j ≡ Some q → slice_get records q.index ≡ Some s → IsRightRecord h es s ⊎ (min lowest p.index ≤ q.index)
      passed j q s below a b = at_place (cases_lt j i)
        where
          lower : IsRightRecord h es s ⊎ (lowest ≤ q.index) → IsRightRecord h es s ⊎ (min lowest p.index ≤ q.index)
          lower (inl right) = inl right
          lower (inr low) = inr (omega (arith, low))

          at_place : (j < i) ⊎ (i ≤ j) → IsRightRecord h es s ⊎ (min lowest p.index ≤ q.index)
          at_place (inl low) = lower (judged.passed j q s low a b)
          at_place (inr high) = let same = ap (λ (x : Place). x.index) (here j q s (omega (arith, below, high)) a b).0 in inr (omega (arith, same))

-- the point of a place is that of its record
pub point_is : (records : List Record) (places : List Place) (i : ℕ) (p : Place) (r : Record) → AreInOrder records places → slice_get places i ≡ Some p → slice_get records p.index ≡ Some r → p.at ≡ r.at
point_is records places i p r o at there = let q = place_of records places i p o at in let same : q.0 ≡ r = same_record (sym q.1 ∙ there) in q.2 ∙ ap (λ (s : Record). s.at) same
  where
    same_record : {s t : Record} → Some s ≡ Some t → s ≡ t
    same_record e = cc

-- no later place has a lower point
pub rises : (records : List Record) (places : List Place) (i : ℕ) (p : Place) → AreInOrder records places → slice_get places i ≡ Some p
    → (j : ℕ) (d : Place) → i ≤ j → j < length places → p.at ≤ (get_or places j d).at
rises records places i p o at j d low below = subst (λ (q : Place). q.at ≤ (get_or places j d).at) (get_or_from_slice_get places i p d at) (o.rising i j d low below)

-- a record that is right at the end of a beginning is right
pub right_in : (part whole : History) (r : Record) → IsBeginning part whole r.at → IsRightIn part.head (state_after part) r → IsRightRecord whole.head (entry_trees whole.entries) r
right_in part whole r b h =
    subst (λ (es : List EntryTree). IsRightIn whole.head (replay whole.head es) r) b.entries (subst (λ (x : Head). IsRightIn x (replay x (entry_trees part.entries)) r) b.head h)

pub right_out : (part whole : History) (r : Record) → IsBeginning part whole r.at → IsRightRecord whole.head (entry_trees whole.entries) r → IsRightIn part.head (state_after part) r
right_out part whole r b h =
    subst (λ (x : Head). IsRightIn x (replay x (entry_trees part.entries)) r) (sym b.head) (subst (λ (es : List EntryTree). IsRightIn whole.head (replay whole.head es) r) (sym b.entries) h)
