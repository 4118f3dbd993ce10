-- Entries with holes: the row of an entry among the rows of those that live.
use Rattle.std.proofs.Common.{◌+◌, true≢false, unwrap_or, ◌≡◌, ℕ, zero, suc, ◌<◌, Bool, true, false, cond, not, nat_lt, List, [], ◌∷◌, ◌++◌, inl, inr, map, length, slice_get, slice_set, Option, Some, None, nat_eq, refl, sym, ap, subst, ◌∙◌, arith, lt-ltb}
use Rattle.std.proofs.lemmas.Bool.Decides.{Decides-ltb}
use Rattle.std.specs.Bool.{one_answer}
use Rattle.std.specs.Cmp.{unsigned_Decides}
use Rattle.std.specs.List.{All, AllByRecursion, position, position_or_len, find, IsDistinct, remove}
use Rattle.std.specs.Option.{option_map, is_some}
use Rattle.std.proofs.lemmas.List.Elements.{All-filter, All-from_recursion, recursion_from_All}
use Rattle.std.proofs.lemmas.Map.Keys.{IsDistinct-head, IsDistinct-tail}
use Rattle.indexmap.specs.IndexMap.{insert_entry}
use Rattle.indexmap.specs.Layout.{set_value_at}
use Rattle.nal_term.specs.declared.formulas.Formula.{Formula}
use Rattle.nal_term.proofs.ForCallers.{keys_in, fails_at}
use Rattle.label_store.specs.declared.rows.Holding.{Holding}
use Rattle.label_store.specs.LabelRows.{LabelRow, label_row, has_number, label_place}
use Rattle.label_store.specs.Held.{Entry, held_label, live_entries}
use Rattle.label_store.specs.Inner.Kept.{IsTidied}

-- no option is both there and not, and none is there twice
pub some_is_no_none : {A : Type 0} {o : Option A} {x : A} → o ≡ Some x → o ≡ None → ⊥
some_is_no_none p q = true≢false (sym (ap is_some p) ∙ ap is_some q)

pub same_some : {A : Type 0} {o : Option A} {x y : A} → o ≡ Some x → o ≡ Some y → x ≡ y
same_some {A} {o} {x} p q = ap (λ r. unwrap_or r x) (sym p ∙ q)

pub not_some : {A : Type 0} (o : Option A) → false ≡ is_some o → o ≡ None
not_some None e = refl
not_some (Some x) e = absurd (true≢false (sym e))

-- ---- the place of the first that passes a test

module _ {X : Type 0} (p : X → Bool) (x : X) (xs : List X) where
  abbrev if_within : ℕ → Option ℕ
  if_within k = cond (nat_lt k (suc (length xs))) (Some k) None

  pub position_here : p x ≡ true → position p (x ∷ xs) ≡ Some 0
  position_here e = ap (λ b. if_within (cond (not b) (1 + position_or_len p xs) 0)) e ∙ ap (λ b. cond b (Some 0) None) (lt-ltb 0 (suc (length xs)) (omega arith))

  pub position_later : p x ≡ false → position p (x ∷ xs) ≡ option_map suc (position p xs)
  position_later e = ap (λ b. if_within (cond (not b) (1 + position_or_len p xs) 0)) e ∙ ap (λ b. cond b (Some (1 + position_or_len p xs)) None) same ∙ by (nat_lt (position_or_len p xs) (length xs))
    where
      same : nat_lt (1 + position_or_len p xs) (suc (length xs)) ≡ nat_lt (position_or_len p xs) (length xs)
      same =
          let k = position_or_len p xs in
          let n = length xs in
          one_answer (nat_lt (1 + k) (suc n)) (nat_lt k n)
          (λ h. let less = (Decides-ltb (1 + k) (suc n)).0 h in omega (arith, less), λ h. lt-ltb (1 + k) (suc n) (omega (arith, h))) (Decides-ltb k n)

      by : (b : Bool) → cond b (Some (1 + position_or_len p xs)) None ≡ option_map suc (cond b (Some (position_or_len p xs)) None)
      by true = ap Some (omega arith)
      by false = refl

pub no_zero : (o : Option ℕ) → option_map suc o ≡ Some 0 → ⊥
no_zero None e = true≢false (sym (ap is_some e))
no_zero (Some n) e = let n : suc n ≡ 0 = ap (λ r. unwrap_or r 0) e in omega (arith, n)

pub one_less : (o : Option ℕ) (k : ℕ) → option_map suc o ≡ Some (suc k) → o ≡ Some k
one_less None k e = absurd (true≢false (sym (ap is_some e)))
one_less (Some n) k e = let n : suc n ≡ suc k = ap (λ r. unwrap_or r 0) e in ap Some (omega (arith, n))

-- ---- a number that no entry has which lives

keys_first : (P : ℕ → Type 0) (es : List Entry) → AllByRecursion P (keys_in es) → AllByRecursion (λ (e : Entry). P e.0) es
keys_first P [] h = tt
keys_first P (e ∷ es) h = (h.0, keys_first P es h.1)

abbrev pub Differs : ℕ → Entry → Type 0
Differs number e = nat_eq number e.0 ≡ false

live_differ : (number : ℕ) (es : List Entry) → AllByRecursion (λ n. nat_eq number n ≡ false) (keys_in es) → All (Differs number) (live_entries es)
live_differ number es h = All-filter (λ (e : Entry). e.1.live) (Differs number) es (All-from_recursion (Differs number) es (keys_first (λ n. nat_eq number n ≡ false) es h))

-- one that no key is
pub none_absent : (es : List Entry) (number : ℕ) → position (nat_eq number) (keys_in es) ≡ None → All (Differs number) (live_entries es)
none_absent es number none = live_differ number es (recursion_from_All (λ n. nat_eq number n ≡ false) (keys_in es) (λ k d within. fails_at (nat_eq number) (keys_in es) k d within none))

-- one that is the key of a hole
pub none_dead : (es : List Entry) (number k : ℕ) (w : Holding) → IsDistinct nat_eq (keys_in es) → position (nat_eq number) (keys_in es) ≡ Some k
    → slice_get (map (λ (e : Entry). e.1) es) k ≡ Some w → w.live ≡ false → AllByRecursion (Differs number) (live_entries es)
none_dead [] number k w distinct at value dead = tt
none_dead (e ∷ es) number k w distinct at value dead =
    by (λ i place there. none_dead es number i w (IsDistinct-tail nat_eq e.0 (keys_in es) distinct) place there dead) (nat_eq number e.0) refl k at value
  where
    rest : e.1.live ≡ false → AllByRecursion (Differs number) (live_entries es) → AllByRecursion (Differs number) (live_entries (e ∷ es))
    rest hole a = subst (λ b. AllByRecursion (Differs number) (cond b (e ∷ live_entries es) (live_entries es))) (sym hole) a

    more : (b : Bool) → nat_eq number e.0 ≡ false → AllByRecursion (Differs number) (live_entries es) → AllByRecursion (Differs number) (cond b (e ∷ live_entries es) (live_entries es))
    more true other a = (other, a)
    more false other a = a

    by : ((i : ℕ) → position (nat_eq number) (keys_in es) ≡ Some i → slice_get (map (λ (f : Entry). f.1) es) i ≡ Some w → AllByRecursion (Differs number) (live_entries es))
        → (b : Bool) → nat_eq number e.0 ≡ b → (i : ℕ) → position (nat_eq number) (e.0 ∷ keys_in es) ≡ Some i → slice_get (e.1 ∷ map (λ (f : Entry). f.1) es) i ≡ Some w
        → AllByRecursion (Differs number) (live_entries (e ∷ es))
    by tail true same zero at value =
        let is : e.1 ≡ w = ap (λ o. unwrap_or o w) value in
        let number_is = (unsigned_Decides number e.0).0 same in
        let others = subst (λ n. AllByRecursion (λ m. nat_eq n m ≡ false) (keys_in es)) (sym number_is) (IsDistinct-head nat_eq e.0 (keys_in es) distinct) in
        rest (ap (λ (v : Holding). v.live) is ∙ dead) (recursion_from_All (Differs number) (live_entries es) (live_differ number es others))
    by tail true same (suc i) at value = let z : 0 ≡ suc i = same_some (position_here (nat_eq number) e.0 (keys_in es) same) at in absurd (omega (arith, z))
    by tail false other zero at value = absurd (no_zero (position (nat_eq number) (keys_in es)) (sym (position_later (nat_eq number) e.0 (keys_in es) other) ∙ at))
    by tail false other (suc i) at value =
        more e.1.live other
        (tail i (one_less (position (nat_eq number) (keys_in es)) i (sym (position_later (nat_eq number) e.0 (keys_in es) other) ∙ at)) value)

-- ---- the row of an entry that lives

-- the row of an entry
abbrev pub row_of : List Formula → Entry → LabelRow
row_of formulas e = label_row (held_label formulas e)

abbrev pub live_rows : List Formula → List Entry → List LabelRow
live_rows formulas es = map (row_of formulas) (live_entries es)

-- the rows with one before them, or as they are
abbrev after : List Formula → Bool → Entry → List LabelRow → List LabelRow
after formulas b e rs = cond b (row_of formulas e ∷ rs) rs

module _ (formulas : List Formula) (number : ℕ) where
  abbrev pub row_with : Holding → LabelRow
  row_with w = row_of formulas (number, w)

  -- its place in the rows, and what the rows are when its holding is another, or it is a hole
  pub record RowAt (rs : List LabelRow) (put : Holding → List LabelRow) (w : Holding) : Type 0 where
    pub place : ℕ
    pub at : label_place rs number ≡ Some place
    pub there : slice_get rs place ≡ Some (row_with w)
    pub found : find (has_number number) rs ≡ Some (row_with w)
    pub set : (v : Holding) → v.live ≡ true → put v ≡ slice_set rs place (row_with v)
    pub gone : (v : Holding) → v.live ≡ false → put v ≡ remove rs place

  first_row : (rs : List LabelRow) (w : Holding) (put : Holding → List LabelRow) → ((v : Holding) → v.live ≡ true → put v ≡ row_with v ∷ rs) → ((v : Holding) → v.live ≡ false → put v ≡ rs)
      → RowAt (row_with w ∷ rs) put w
  first_row rs w put set gone = record {
    place = 0;
    at = position_here (has_number number) (row_with w) rs ((unsigned_Decides number number).1 refl);
    there = refl;
    found = ap (λ b. cond b (Some (row_with w)) (find (has_number number) rs)) ((unsigned_Decides number number).1 refl);
    set = set;
    gone = gone;
  }

  later_row : (r : LabelRow) (rs : List LabelRow) (w : Holding) (put : Holding → List LabelRow) → has_number number r ≡ false → RowAt rs put w → RowAt (r ∷ rs) (λ v. r ∷ put v) w
  later_row r rs w put other there = record {
    place = suc there.place;
    at = position_later (has_number number) r rs other ∙ ap (option_map suc) there.at;
    there = there.there;
    found = ap (λ b. cond b (Some r) (find (has_number number) rs)) other ∙ there.found;
    set = λ v h. ap (λ l. r ∷ l) (there.set v h);
    gone = λ v h. ap (λ l. r ∷ l) (there.gone v h);
  }

  pub row_at : (es : List Entry) (k : ℕ) (w : Holding) → position (nat_eq number) (keys_in es) ≡ Some k → slice_get (map (λ (e : Entry). e.1) es) k ≡ Some w → w.live ≡ true
      → RowAt (live_rows formulas es) (λ v. live_rows formulas (set_value_at es k v)) w
  row_at [] k w at value live = absurd (true≢false (sym (ap is_some at)))
  row_at (e ∷ es) k w at value live = by (λ i place there. row_at es i w place there live) (nat_eq number e.0) refl k at value
    where
      rows_after : (b : Bool) (f : Entry) (fs : List Entry) → map (row_of formulas) (cond b (f ∷ live_entries fs) (live_entries fs)) ≡ after formulas b f (live_rows formulas fs)
      rows_after true f fs = refl
      rows_after false f fs = refl

      here : nat_eq number e.0 ≡ true → e.1 ≡ w → RowAt (live_rows formulas (e ∷ es)) (λ v. live_rows formulas ((e.0, v) ∷ es)) w
      here same is =
          let number_is = (unsigned_Decides number e.0).0 same in
          let rs = live_rows formulas es in
          let whole : row_with w ∷ rs ≡ live_rows formulas (e ∷ es) =
          sym (rows_after e.1.live e es ∙ ap (λ b. after formulas b e rs) (ap (λ (v : Holding). v.live) is ∙ live) ∙ (λ i. row_of formulas (sym number_is i, is i) ∷ rs)) in
          subst (λ l. RowAt l (λ v. live_rows formulas ((e.0, v) ∷ es)) w) whole
          (first_row rs w (λ v. live_rows formulas ((e.0, v) ∷ es))
          (λ v h. rows_after v.live (e.0, v) es ∙ ap (λ b. after formulas b (e.0, v) rs) h ∙ (λ i. row_of formulas (sym number_is i, v) ∷ rs))
          (λ v h. rows_after v.live (e.0, v) es ∙ ap (λ b. after formulas b (e.0, v) rs) h))

      past : (b : Bool) (i : ℕ) → nat_eq number e.0 ≡ false → RowAt (live_rows formulas es) (λ v. live_rows formulas (set_value_at es i v)) w
          → RowAt (after formulas b e (live_rows formulas es)) (λ v. after formulas b e (live_rows formulas (set_value_at es i v))) w
      past true i other there = later_row (row_of formulas e) (live_rows formulas es) w (λ v. live_rows formulas (set_value_at es i v)) other there
      past false i other there = there

      by : ((i : ℕ) → position (nat_eq number) (keys_in es) ≡ Some i → slice_get (map (λ (f : Entry). f.1) es) i ≡ Some w
          → RowAt (live_rows formulas es) (λ v. live_rows formulas (set_value_at es i v)) w)
          → (b : Bool) → nat_eq number e.0 ≡ b → (i : ℕ) → position (nat_eq number) (e.0 ∷ keys_in es) ≡ Some i → slice_get (e.1 ∷ map (λ (f : Entry). f.1) es) i ≡ Some w
          → RowAt (live_rows formulas (e ∷ es)) (λ v. live_rows formulas (set_value_at (e ∷ es) i v)) w
      by tail true same zero at value = here same (ap (λ o. unwrap_or o w) value)
      by tail true same (suc i) at value = let z : 0 ≡ suc i = same_some (position_here (nat_eq number) e.0 (keys_in es) same) at in absurd (omega (arith, z))
      by tail false other zero at value = absurd (no_zero (position (nat_eq number) (keys_in es)) (sym (position_later (nat_eq number) e.0 (keys_in es) other) ∙ at))
      by tail false other (suc i) at value =
          let there = tail i (one_less (position (nat_eq number) (keys_in es)) i (sym (position_later (nat_eq number) e.0 (keys_in es) other) ∙ at)) value in
          subst (λ (p : List LabelRow × (Holding → List LabelRow)). RowAt p.0 p.1 w)
          (λ j. (sym (rows_after e.1.live e es) j, λ v. sym (rows_after e.1.live e (set_value_at es i v)) j))
          (past e.1.live i other there)

-- ---- holes that are closed up

pub live_twice : (es : List Entry) → live_entries (live_entries es) ≡ live_entries es
live_twice [] = refl
live_twice (e ∷ es) = by (live_twice es) e.1.live refl
  where
    by : live_entries (live_entries es) ≡ live_entries es → (b : Bool) → e.1.live ≡ b → live_entries (cond b (e ∷ live_entries es) (live_entries es)) ≡ cond b (e ∷ live_entries es) (live_entries es)
    by rest true h = ap (λ c. cond c (e ∷ live_entries (live_entries es)) (live_entries (live_entries es))) h ∙ ap (λ l. e ∷ l) rest
    by rest false h = rest

pub tidied_live : (old new : List Entry) → IsTidied old new → live_entries new ≡ live_entries old
tidied_live old new (inl same) = ap live_entries same
tidied_live old new (inr closed) = ap live_entries closed ∙ live_twice old

pub tidied_All : (P : Entry → Type 0) (old new : List Entry) → IsTidied old new → All P old → All P new
tidied_All P old new (inl same) a = subst (All P) (sym same) a
tidied_All P old new (inr closed) a = subst (All P) (sym closed) (All-filter (λ (e : Entry). e.1.live) P old a)

-- ---- a number that goes last

pub put_last : (es closed : List Entry) → closed ≡ live_entries es → (number : ℕ) (row : Holding) → All (λ (e : Entry). e.0 < number) (live_entries es)
    → insert_entry nat_eq closed number row ≡ live_entries es ++ (number, row) ∷ []
put_last es closed is number row above =
    ap (λ fs. insert_entry nat_eq fs number row) is ∙ by (live_entries es) (recursion_from_All (λ (e : Entry). e.0 < number) (live_entries es) above)
  where
    differ : (n : ℕ) → n < number → (b : Bool) → nat_eq number n ≡ b → b ≡ false
    differ n h true e = let same = (unsigned_Decides number n).0 e in absurd (omega (arith, h, same))
    differ n h false e = refl

    by : (fs : List Entry) → AllByRecursion (λ (e : Entry). e.0 < number) fs → insert_entry nat_eq fs number row ≡ fs ++ (number, row) ∷ []
    by [] h = refl
    by (e ∷ fs) h = ap (λ b. cond b ((e.0, row) ∷ fs) (e ∷ insert_entry nat_eq fs number row)) (differ e.0 h.0 (nat_eq number e.0) refl) ∙ ap (λ l. e ∷ l) (by fs h.1)
