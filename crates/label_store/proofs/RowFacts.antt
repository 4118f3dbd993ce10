-- For callers: who holds a label after each call, over the rows that the contracts see, and that the numbers rise.
use Rattle.std.proofs.Common.{true≢false, ◌≡◌, ◌≢◌, ℕ, zero, suc, ◌<◌, Bool, true, false, cond, List, [], ◌∷◌, ◌++◌, Some, None, slice_set, nat_eq, refl, sym, ap, subst, ◌∙◌, arith}
use Rattle.std.specs.Cmp.{unsigned_Decides}
use Rattle.std.specs.List.{All, AllByRecursion, find, remove}
use Rattle.std.specs.Option.{option_map, is_some}
use Rattle.std.proofs.lemmas.List.Elements.{recursion_from_All}
use Rattle.nal_term.specs.Trees.{FormulaTree}
use Rattle.label_store.specs.LabelRows.{LabelRow, has_number, label_place, holder_of}
use Rattle.label_store.proofs.LiveRows.{position_here, position_later, same_some, no_zero, one_less}

differs : (n m : ℕ) → n ≢ m → nat_eq n m ≡ false
differs n m other = by (nat_eq n m) refl
  where
    by : (b : Bool) → nat_eq n m ≡ b → b ≡ false
    by true e = absurd (other ((unsigned_Decides n m).0 e))
    by false e = refl

-- each number is below those after it
abbrev pub IsRising : List LabelRow → Type 0
IsRising [] = Unit {0}
IsRising (row ∷ rows) = AllByRecursion (λ (later : LabelRow). row.0 < later.0) rows × IsRising rows

-- what is said has its holder, and the others keep theirs
module _ (number holder : ℕ) (label : FormulaTree) where
  pub said_others : (rows : List LabelRow) (m : ℕ) → m ≢ number → holder_of (rows ++ (number, holder, label) ∷ []) m ≡ holder_of rows m
  said_others [] m other = ap (λ b. option_map (λ (r : LabelRow). r.1) (cond b (Some (number, holder, label)) None)) (differs m number other)
  said_others (row ∷ rows) m other = by (nat_eq m row.0) (said_others rows m other)
    where
      by : (b : Bool) → holder_of (rows ++ (number, holder, label) ∷ []) m ≡ holder_of rows m
          → option_map (λ (r : LabelRow). r.1) (cond b (Some row) (find (has_number m) (rows ++ (number, holder, label) ∷ []))) ≡ option_map (λ (r : LabelRow). r.1) (cond b (Some row) (find (has_number m) rows))
      by true rest = refl
      by false rest = rest

  pub said_itself : (rows : List LabelRow) → All (λ (row : LabelRow). row.0 < number) rows → holder_of (rows ++ (number, holder, label) ∷ []) number ≡ Some holder
  said_itself rows above = by rows (recursion_from_All (λ (row : LabelRow). row.0 < number) rows above)
    where
      by : (rs : List LabelRow) → AllByRecursion (λ (row : LabelRow). row.0 < number) rs → holder_of (rs ++ (number, holder, label) ∷ []) number ≡ Some holder
      by [] h = ap (λ b. option_map (λ (r : LabelRow). r.1) (cond b (Some (number, holder, label)) None)) ((unsigned_Decides number number).1 refl)
      by (row ∷ rs) h =
          let other : number ≢ row.0 = λ e. omega (arith, e, h.0) in
          ap (λ b. option_map (λ (r : LabelRow). r.1) (cond b (Some row) (find (has_number number) (rs ++ (number, holder, label) ∷ [])))) (differs number row.0 other) ∙ by rs h.1

  pub said_rises : (rows : List LabelRow) → IsRising rows → All (λ (row : LabelRow). row.0 < number) rows → IsRising (rows ++ (number, holder, label) ∷ [])
  said_rises rows rising above = by rows rising (recursion_from_All (λ (row : LabelRow). row.0 < number) rows above)
    where
      more : (n : ℕ) (rs : List LabelRow) → AllByRecursion (λ (later : LabelRow). n < later.0) rs → n < number → AllByRecursion (λ (later : LabelRow). n < later.0) (rs ++ (number, holder, label) ∷ [])
      more n [] a h = (h, tt)
      more n (row ∷ rs) a h = (a.0, more n rs a.1 h)

      by : (rs : List LabelRow) → IsRising rs → AllByRecursion (λ (row : LabelRow). row.0 < number) rs → IsRising (rs ++ (number, holder, label) ∷ [])
      by [] r a = (tt, tt)
      by (row ∷ rs) r a = (more row.0 rs r.0 a.0, by rs r.1 a.1)

-- a label that is given away has its new holder, and the others keep theirs
module _ (number to : ℕ) (label : FormulaTree) where
  pub given_itself : (rows : List LabelRow) (k : ℕ) → label_place rows number ≡ Some k → holder_of (slice_set rows k (number, to, label)) number ≡ Some to
  given_itself [] k at = absurd (true≢false (sym (ap is_some at)))
  given_itself (row ∷ rows) k at = by (λ i place. given_itself rows i place) (nat_eq number row.0) refl k at
    where
      by : ((i : ℕ) → label_place rows number ≡ Some i → holder_of (slice_set rows i (number, to, label)) number ≡ Some to) → (b : Bool) → nat_eq number row.0 ≡ b
          → (i : ℕ) → label_place (row ∷ rows) number ≡ Some i → holder_of (slice_set (row ∷ rows) i (number, to, label)) number ≡ Some to
      by tail b e zero place = ap (λ c. option_map (λ (r : LabelRow). r.1) (cond c (Some (number, to, label)) (find (has_number number) rows))) ((unsigned_Decides number number).1 refl)
      by tail true e (suc i) place = let z : 0 ≡ suc i = same_some (position_here (has_number number) row rows e) place in absurd (omega (arith, z))
      by tail false e (suc i) place =
          ap (λ c. option_map (λ (r : LabelRow). r.1) (cond c (Some row) (find (has_number number) (slice_set rows i (number, to, label))))) e
          ∙ tail i (one_less (label_place rows number) i (sym (position_later (has_number number) row rows e) ∙ place))

  pub given_others : (rows : List LabelRow) (k : ℕ) → label_place rows number ≡ Some k → (m : ℕ) → m ≢ number → holder_of (slice_set rows k (number, to, label)) m ≡ holder_of rows m
  given_others [] k at m other = refl
  given_others (row ∷ rows) k at m other = by (λ i place. given_others rows i place m other) (nat_eq number row.0) refl k at
    where
      step : (b : Bool) (xs : List LabelRow) → holder_of xs m ≡ holder_of rows m
          → option_map (λ (r : LabelRow). r.1) (cond b (Some row) (find (has_number m) xs)) ≡ option_map (λ (r : LabelRow). r.1) (cond b (Some row) (find (has_number m) rows))
      step true xs rest = refl
      step false xs rest = rest

      first : nat_eq number row.0 ≡ true → nat_eq m row.0 ≡ false
      first e = differs m row.0 (λ same. other (same ∙ sym ((unsigned_Decides number row.0).0 e)))

      by : ((i : ℕ) → label_place rows number ≡ Some i → holder_of (slice_set rows i (number, to, label)) m ≡ holder_of rows m) → (b : Bool) → nat_eq number row.0 ≡ b
          → (i : ℕ) → label_place (row ∷ rows) number ≡ Some i → holder_of (slice_set (row ∷ rows) i (number, to, label)) m ≡ holder_of (row ∷ rows) m
      by tail true e zero place =
          ap (λ c. option_map (λ (r : LabelRow). r.1) (cond c (Some (number, to, label)) (find (has_number m) rows))) (differs m number other)
          ∙ sym (ap (λ c. option_map (λ (r : LabelRow). r.1) (cond c (Some row) (find (has_number m) rows))) (first e))
      by tail true e (suc i) place = let z : 0 ≡ suc i = same_some (position_here (has_number number) row rows e) place in absurd (omega (arith, z))
      by tail false e zero place = absurd (no_zero (label_place rows number) (sym (position_later (has_number number) row rows e) ∙ place))
      by tail false e (suc i) place = step (nat_eq m row.0) (slice_set rows i (number, to, label)) (tail i (one_less (label_place rows number) i (sym (position_later (has_number number) row rows e) ∙ place)))

-- a label that is deleted has no holder, where the numbers rise, and the others keep theirs
module _ (number : ℕ) where
  none_below : (rows : List LabelRow) → AllByRecursion (λ (later : LabelRow). number < later.0) rows → holder_of rows number ≡ None
  none_below [] a = refl
  none_below (row ∷ rows) a =
      let other : number ≢ row.0 = λ e. omega (arith, e, a.0) in
      ap (λ b. option_map (λ (r : LabelRow). r.1) (cond b (Some row) (find (has_number number) rows))) (differs number row.0 other) ∙ none_below rows a.1

  pub deleted_itself : (rows : List LabelRow) → IsRising rows → (k : ℕ) → label_place rows number ≡ Some k → holder_of (remove rows k) number ≡ None
  deleted_itself [] rising k at = absurd (true≢false (sym (ap is_some at)))
  deleted_itself (row ∷ rows) rising k at = by (λ i place. deleted_itself rows rising.1 i place) (nat_eq number row.0) refl k at
    where
      by : ((i : ℕ) → label_place rows number ≡ Some i → holder_of (remove rows i) number ≡ None) → (b : Bool) → nat_eq number row.0 ≡ b
          → (i : ℕ) → label_place (row ∷ rows) number ≡ Some i → holder_of (remove (row ∷ rows) i) number ≡ None
      by tail true e zero place = none_below rows (subst (λ n. AllByRecursion (λ (later : LabelRow). n < later.0) rows) (sym ((unsigned_Decides number row.0).0 e)) rising.0)
      by tail true e (suc i) place = let z : 0 ≡ suc i = same_some (position_here (has_number number) row rows e) place in absurd (omega (arith, z))
      by tail false e zero place = absurd (no_zero (label_place rows number) (sym (position_later (has_number number) row rows e) ∙ place))
      by tail false e (suc i) place =
          ap (λ c. option_map (λ (r : LabelRow). r.1) (cond c (Some row) (find (has_number number) (remove rows i)))) e
          ∙ tail i (one_less (label_place rows number) i (sym (position_later (has_number number) row rows e) ∙ place))

  pub deleted_others : (rows : List LabelRow) (k : ℕ) → label_place rows number ≡ Some k → (m : ℕ) → m ≢ number → holder_of (remove rows k) m ≡ holder_of rows m
  deleted_others [] k at m other = absurd (true≢false (sym (ap is_some at)))
  deleted_others (row ∷ rows) k at m other = by (λ i place. deleted_others rows i place m other) (nat_eq number row.0) refl k at
    where
      step : (b : Bool) (xs : List LabelRow) → holder_of xs m ≡ holder_of rows m
          → option_map (λ (r : LabelRow). r.1) (cond b (Some row) (find (has_number m) xs)) ≡ option_map (λ (r : LabelRow). r.1) (cond b (Some row) (find (has_number m) rows))
      step true xs rest = refl
      step false xs rest = rest

      by : ((i : ℕ) → label_place rows number ≡ Some i → holder_of (remove rows i) m ≡ holder_of rows m) → (b : Bool) → nat_eq number row.0 ≡ b
          → (i : ℕ) → label_place (row ∷ rows) number ≡ Some i → holder_of (remove (row ∷ rows) i) m ≡ holder_of (row ∷ rows) m
      by tail true e zero place =
          sym (ap (λ c. option_map (λ (r : LabelRow). r.1) (cond c (Some row) (find (has_number m) rows))) (differs m row.0 (λ same. other (same ∙ sym ((unsigned_Decides number row.0).0 e)))))
      by tail true e (suc i) place = let z : 0 ≡ suc i = same_some (position_here (has_number number) row rows e) place in absurd (omega (arith, z))
      by tail false e zero place = absurd (no_zero (label_place rows number) (sym (position_later (has_number number) row rows e) ∙ place))
      by tail false e (suc i) place = step (nat_eq m row.0) (remove rows i) (tail i (one_less (label_place rows number) i (sym (position_later (has_number number) row rows e) ∙ place)))
