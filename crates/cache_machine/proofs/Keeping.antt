-- Every step keeps what always holds of a machine.
use Rattle.std.proofs.Common.{◌≡◌, ◌≤◌, ◌⊎◌, inl, inr, ℕ, zero, suc, List, [], ◌∷◌, ◌++◌, length, take, drop, Option, Some, None, refl, sym, ap, ◌∙◌, subst, arith, append_assoc, length-append}
use Rattle.std.specs.List.{slice_get}
use Rattle.std.proofs.Math.ListN.{set}
use Rattle.std.proofs.lemmas.List.{take-append-drop, take-append-le, length-take-le}
use Rattle.proof_store.specs.Cases.{CaseRow}
use Rattle.policy_history.specs.declared.heads.Head.{Head}
use Rattle.policy_history.specs.Events.{EntryTree}
use Rattle.policy_history.specs.Judged.{IsHome, IsRight, IsUntouched, Touches, object_region, store_region}
use Rattle.policy_history.specs.Machine.{replay}
use Rattle.policy_history.proofs.ForCallers.{right_stays, cases_stay}
use Rattle.cache_machine.specs.declared.stages.Kept.{Kept}
use Rattle.cache_machine.specs.declared.stages.Place.{Place}
use Rattle.cache_machine.specs.States.{StageTree, resting, looked, counted, half, missed, raised, holding, allowed}
use Rattle.cache_machine.specs.Inner.Words.{IsCounted, IsSoundIn, Knows}

-- ---- Lists

pub some_same : {A : Type 0} (p q : A) → Some p ≡ Some q → p ≡ q
some_same p q s = cc

-- an element after one was set
pub set_at : {A : Type 0} (xs : List A) (i : ℕ) (y : A) (j : ℕ) (z : A) → slice_get (set xs i y) j ≡ Some z → ((j ≡ i) × (z ≡ y)) ⊎ ((j ≡ i → ⊥) × (slice_get xs j ≡ Some z))
set_at [] i y j z e = absurd (cc e)
set_at (x ∷ xs) zero y zero z e = inl (refl, some_same z y (sym e))
set_at (x ∷ xs) zero y (suc j) z e = inr ((λ q. absurd (omega (arith, q))), e)
set_at (x ∷ xs) (suc i) y zero z e = inr ((λ q. absurd (omega (arith, q))), e)
set_at (x ∷ xs) (suc i) y (suc j) z e = elim (set_at xs i y j z e) [
  | inl p ↦ inl (ap suc p.0, p.1)
  | inr q ↦ inr ((λ same. q.0 (omega (arith, same))), q.1)
]

pub set_here : {A : Type 0} (xs : List A) (i : ℕ) (x y : A) → slice_get xs i ≡ Some x → slice_get (set xs i y) i ≡ Some y
set_here [] i x y e = absurd (cc e)
set_here (z ∷ xs) zero x y e = refl
set_here (z ∷ xs) (suc i) x y e = set_here xs i x y e

none_before : {A : Type 0} (before : List A) (e : A) (later : List A) → [] ≡ before ++ e ∷ later → ⊥
none_before [] e later q = cc q
none_before (b ∷ before) e later q = cc q

-- a place in a list with one more element is the last one, or one in the list
pub split_last : {A : Type 0} (es : List A) (x : A) (before : List A) (e : A) (later : List A) → es ++ x ∷ [] ≡ before ++ e ∷ later
    → ((before ≡ es) × (e ≡ x)) ⊎ ((rest : List A) × (es ≡ before ++ e ∷ rest))
split_last [] x [] e later q = let same : e ≡ x = cc q in inl (refl, same)
split_last [] x (b ∷ before) e later q = let rest : [] ≡ before ++ e ∷ later = cc q in absurd (none_before before e later rest)
split_last (y ∷ es) x [] e later q = let same : y ≡ e = cc q in inr (es, ap (λ z. z ∷ es) same)
split_last (y ∷ es) x (b ∷ before) e later q =
    let same : y ≡ b = cc q in
    let rest : es ++ x ∷ [] ≡ before ++ e ∷ later = cc q in
    elim (split_last es x before e later rest) [
      | inl p ↦ inl ((λ i. sym same i ∷ p.0 i), p.1)
      | inr r ↦ inr (r.0, λ i. same i ∷ r.1 i)
    ]

-- ---- A history that grows

module _ (h : Head) where
  pub untouched_more : (es : List EntryTree) (x : EntryTree) (word region : ℕ) → IsUntouched h es word region → (word ≤ length es → ¬ Touches h es x region) → IsUntouched h (es ++ x ∷ []) word region
  untouched_more es x word region quiet apart before e later is from touch = elim (split_last es x before e later is) [
    | inl p ↦ apart (omega (arith, from, ap length p.0)) (subst (λ (z : EntryTree). Touches h es z region) p.1 (subst (λ (zs : List EntryTree). Touches h zs e region) p.0 touch))
    | inr r ↦ quiet before e r.0 r.1 from touch
  ]

  untouched_front : (es more : List EntryTree) (word region : ℕ) → IsUntouched h (es ++ more) word region → IsUntouched h es word region
  untouched_front es more word region quiet before e later is from touch =
      quiet before e (later ++ more) (ap (λ (xs : List EntryTree). xs ++ more) is ∙ append_assoc before (e ∷ later) more) from touch

  pub untouched_take : (es : List EntryTree) (at word region : ℕ) → IsUntouched h es word region → IsUntouched h (take at es) word region
  untouched_take es at word region quiet = untouched_front (take at es) (drop at es) word region (subst (λ (xs : List EntryTree). IsUntouched h xs word region) (sym (take-append-drop at es)) quiet)

  pub sound_more : (es more : List EntryTree) (kept : Option Kept) → IsSoundIn h es kept → IsSoundIn h (es ++ more) kept
  sound_more es more None sound = tt
  sound_more es more (Some kept) sound =
      let longer = length-append es more in
      let within = sound.0 in
      (omega (arith, longer, within), subst (λ (xs : List EntryTree). IsRight h xs kept.case kept.verdict) (sym (take-append-le kept.point es more within)) sound.1)

  pub home_more : (es more : List EntryTree) (k o p : ℕ) → IsHome h es k o p → IsHome h (es ++ more) k o p
  home_more es more k o p home =
      let later = cases_stay h es more k home.row home.stands in
      record { row = later.0; stands = later.1; object_is = sym later.2.object ∙ home.object_is; subject_is = sym later.2.subject ∙ home.subject_is }

  pub counted_more : (es more : List EntryTree) (p : ℕ) (place : Place) (slot : Option Kept) (at : ℕ) → IsCounted h es p place slot at → IsCounted h (es ++ more) p place slot at
  counted_more es more p place slot at c =
      let longer = length-append es more in
      let within = c.within in
      let front = sym (take-append-le at es more within) in
      record {
        within = omega (arith, longer, within);
        sound = subst (λ (xs : List EntryTree). IsSoundIn h xs slot) front c.sound;
        home = subst (λ (xs : List EntryTree). IsHome h xs place.case place.object p) front c.home;
      }

  -- what an actor knows that does not hold the lock it knows of a longer history too
  pub knows_more : (es more : List EntryTree) (regions words : List ℕ) (holder other : Option ℕ) (a session p : ℕ) (stage : StageTree) → (holder ≡ Some a → ⊥)
      → Knows h es regions holder a session p stage → Knows h (es ++ more) words other a session p stage
  knows_more es more regions words holder other a session p (resting kept) free known = sound_more es more kept known
  knows_more es more regions words holder other a session p (looked place slot) free known = (sound_more es more slot known.0, home_more es more place.case place.object p known.1)
  knows_more es more regions words holder other a session p (counted place slot at) free known = counted_more es more p place slot at known
  knows_more es more regions words holder other a session p (half place slot at word) free known = (
    counted_more es more p place slot at known.0,
    subst (λ (xs : List EntryTree). IsUntouched h xs word (object_region place.object)) (sym (take-append-le at es more known.0.within)) known.1,
  )
  knows_more es more regions words holder other a session p missed free known = tt
  knows_more es more regions words holder other a session p (raised e) free known = absurd (free known.holds)
  knows_more es more regions words holder other a session p (holding c number at) free known =
      let longer = length-append es more in
      let within = known.within in
      let front = take-append-le at es more within in
      record {
        op = known.op;
        object = known.object;
        within = omega (arith, longer, within);
        case_is = rw front known.case_is;
        number_is = rw front known.number_is;
      }
  knows_more es more regions words holder other a session p (allowed kept) free known = sound_more es more kept known

  -- the same of the lock and the words alone
  pub knows_still : (es : List EntryTree) (regions words : List ℕ) (holder other : Option ℕ) (a session p : ℕ) (stage : StageTree) → (holder ≡ Some a → ⊥)
      → Knows h es regions holder a session p stage → Knows h es words other a session p stage
  knows_still es regions words holder other a session p (resting kept) free known = known
  knows_still es regions words holder other a session p (looked place slot) free known = known
  knows_still es regions words holder other a session p (counted place slot at) free known = known
  knows_still es regions words holder other a session p (half place slot at word) free known = known
  knows_still es regions words holder other a session p missed free known = tt
  knows_still es regions words holder other a session p (raised e) free known = absurd (free known.holds)
  knows_still es regions words holder other a session p (holding c number at) free known = known
  knows_still es regions words holder other a session p (allowed kept) free known = known

  -- A hit: a verdict that was right at its point is right at the end, where both regions' words are at most the point
  pub hit_right : (es : List EntryTree) (kept : Kept) (o p first second : ℕ) → IsSoundIn h es (Some kept) → IsHome h es kept.case o p
      → IsUntouched h es first (object_region o) → IsUntouched h es second (store_region p) → first ≤ kept.point → second ≤ kept.point → IsRight h es kept.case kept.verdict
  hit_right es kept o p first second sound home far other low lower =
      let v = kept.point in
      let front = take v es in
      let rest = drop v es in
      let whole : front ++ rest ≡ es = take-append-drop v es in
      let long : length front ≡ v = length-take-le v es sound.0 in
      let r = sound.1 in
      let later = cases_stay h front rest kept.case r.row r.stands in
      let row_is : later.0 ≡ home.row = some_same later.0 home.row (sym (subst (λ (xs : List EntryTree). slice_get (replay h xs).cases kept.case ≡ Some later.0) whole later.1) ∙ home.stands) in
      let object : r.row.2 ≡ o = later.2.object ∙ ap (λ (row : CaseRow). row.2) row_is ∙ home.object_is in
      let subject : r.row.0 ≡ p = later.2.subject ∙ ap (λ (row : CaseRow). row.0) row_is ∙ home.subject_is in
      let far_front : IsUntouched h (front ++ rest) (length front) (object_region r.row.2) =
      λ before e tail is from touch. far before e tail (sym whole ∙ is) (omega (arith, from, long, low)) (touch ∙ ap (λ (n : ℕ). Some (object_region n)) object) in
      let other_front : IsUntouched h (front ++ rest) (length front) (store_region r.row.0) =
      λ before e tail is from touch. other before e tail (sym whole ∙ is) (omega (arith, from, long, lower)) (touch ∙ ap (λ (n : ℕ). Some (store_region n)) subject) in
      subst (λ (xs : List EntryTree). IsRight h xs kept.case kept.verdict) whole (right_stays h front rest kept.case kept.verdict r far_front other_front)
