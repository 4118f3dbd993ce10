-- What a store keeps, and its rows: the row of a number, a label that is said, given away or deleted, and the labels
-- of one principal.
use Rattle.std.proofs.Common.{filter, drop, ◌+◌, ◌≡◌, ◌≢◌, ℕ, zero, suc, ◌<◌, ◌≤◌, ◌↔◌, Result, Ok, Err, Bool, true, false, cond, List, [], ◌∷◌, ◌++◌, ◌&&◌, map, length, get_or, slice_get, slice_set, Option, Some, None, nat_eq, refl, sym, ap, subst, ◌∙◌, arith}
use Rattle.std.specs.List.{All, AllByRecursion, find, IsDistinct, remove}
use Rattle.std.specs.Option.{option_map}
use Rattle.std.proofs.lemmas.List.{map-append, length-map, drop_more, drop_all}
use Rattle.std.proofs.lemmas.List.Elements.{All-append, All-map, All-cons, All-nil, All-filter, All-from_recursion, recursion_from_All, filter-append}
use Rattle.std.proofs.lemmas.Option.{slice_get_within, get_or_from_slice_get, slice_get-map, slice_get-get_or}
use Rattle.indexmap.specs.Layout.{set_value_at}
use Rattle.nal_term.specs.declared.formulas.Formula.{Formula}
use Rattle.nal_term.specs.declared.formulas.Formula.TheVariants.{True}
use Rattle.nal_term.specs.Trees.{formula_tree}
use Rattle.nal_term.specs.TreeKeys.{same_formulas-Decides}
use Rattle.nal_term.proofs.ForCallers.{map-agrees, map-map, put_item, length-put_item, get_or-put_item}
use Rattle.label_store.specs.declared.rows.Holding.{Holding}
use Rattle.label_store.specs.LabelRows.{LabelRow, label_row, has_number, label_place, holder_of, labels_of}
use Rattle.label_store.specs.Held.{Entry, held_label, live_entries, is_holders, held_from, labels_from}
use Rattle.label_store.specs.Inner.Kept.{same_label, hole, holder_in, HasPlaces, AreHeld, IsTidied, IsRowOf}
use Rattle.label_store.proofs.LiveRows.{row_of, row_with, live_rows, row_at, RowAt, tidied_live, tidied_All, same_some}

abbrev pub rows_in : List Formula → List Entry → List LabelRow
rows_in formulas es = map label_row (map (held_label formulas) (live_entries es))

pub rows_are : (formulas : List Formula) (es : List Entry) → rows_in formulas es ≡ live_rows formulas es
rows_are formulas es = map-map label_row (held_label formulas) (live_entries es)

pub tidied_rows : (formulas : List Formula) (old new : List Entry) → IsTidied old new → rows_in formulas new ≡ rows_in formulas old
tidied_rows formulas old new tidied = ap (λ es. map label_row (map (held_label formulas) es)) (tidied_live old new tidied)

pub tidied_held : (formulas : List Formula) (old new : List Entry) → IsTidied old new → AreHeld formulas old → AreHeld formulas new
tidied_held formulas old new tidied held = record { distinct = held.distinct; places = tidied_All (λ (e : Entry). e.1.place < length formulas) old new tidied held.places }

-- the holder of the label with a number
pub holder_agrees : (formulas : List Formula) (es : List Entry) (number : ℕ) → holder_of (rows_in formulas es) number ≡ holder_in es number
holder_agrees formulas es number = ap (λ rs. holder_of rs number) (rows_are formulas es) ∙ by (live_entries es)
  where
    here : (e : Entry) (b : Bool) (o : Option LabelRow) (p : Option Entry) → option_map (λ (row : LabelRow). row.1) o ≡ option_map (λ (f : Entry). f.1.holder) p
        → option_map (λ (row : LabelRow). row.1) (cond b (Some (row_of formulas e)) o) ≡ option_map (λ (f : Entry). f.1.holder) (cond b (Some e) p)
    here e true o p rest = refl
    here e false o p rest = rest

    by : (xs : List Entry) → option_map (λ (row : LabelRow). row.1) (find (has_number number) (map (row_of formulas) xs)) ≡ option_map (λ (e : Entry). e.1.holder) (find (λ (e : Entry). nat_eq number e.0) xs)
    by [] = refl
    by (e ∷ xs) = here e (nat_eq number e.0) (find (has_number number) (map (row_of formulas) xs)) (find (λ (f : Entry). nat_eq number f.0) xs) (by xs)

pub holder_none : (es : List Entry) (number : ℕ) → All (λ (e : Entry). nat_eq number e.0 ≡ false) (live_entries es) → holder_in es number ≡ None
holder_none es number none = by (live_entries es) (recursion_from_All (λ (e : Entry). nat_eq number e.0 ≡ false) (live_entries es) none)
  where
    by : (xs : List Entry) → AllByRecursion (λ (e : Entry). nat_eq number e.0 ≡ false) xs → option_map (λ (e : Entry). e.1.holder) (find (λ (e : Entry). nat_eq number e.0) xs) ≡ None
    by [] h = refl
    by (e ∷ xs) h = ap (λ b. option_map (λ (f : Entry). f.1.holder) (cond b (Some e) (find (λ (f : Entry). nat_eq number f.0) xs))) h.0 ∙ by xs h.1

-- the row of a number that lives
module _ (formulas : List Formula) (es : List Entry) (number k : ℕ) (w : Holding) (row : IsRowOf es number k w) where
  stands : RowAt formulas number (live_rows formulas es) (λ v. live_rows formulas (set_value_at es k v)) w
  stands = row_at formulas number es k w row.at row.value row.live

  pub holder_is : holder_of (rows_in formulas es) number ≡ Some w.holder
  holder_is = ap (λ rs. holder_of rs number) (rows_are formulas es) ∙ ap (option_map (λ (r : LabelRow). r.1)) stands.found

  place_is : label_place (rows_in formulas es) number ≡ Some stands.place
  place_is = ap (λ rs. label_place rs number) (rows_are formulas es) ∙ stands.at

  -- with a new holder
  pub given_rows : (to : ℕ) → (j : ℕ) × (r : LabelRow) × (label_place (rows_in formulas es) number ≡ Some j) × (slice_get (rows_in formulas es) j ≡ Some r)
      × (rows_in formulas (set_value_at es k (record { holder = to; place = w.place; live = w.live })) ≡ slice_set (rows_in formulas es) j (number, to, r.2))
  given_rows to =
      let v : Holding = record { holder = to; place = w.place; live = w.live } in (
        stands.place,
        row_with formulas number w,
        place_is,
        ap (λ rs. slice_get rs stands.place) (rows_are formulas es) ∙ stands.there,
        rows_are formulas (set_value_at es k v) ∙ stands.set v row.live ∙ ap (λ rs. slice_set rs stands.place (row_with formulas number v)) (sym (rows_are formulas es)),
      )

  -- and without it
  pub removed_rows : (j : ℕ) × (label_place (rows_in formulas es) number ≡ Some j) × (rows_in formulas (set_value_at es k (hole w)) ≡ remove (rows_in formulas es) j)
  removed_rows = (
    stands.place,
    place_is,
    rows_are formulas (set_value_at es k (hole w)) ∙ stands.gone (hole w) refl ∙ ap (λ rs. remove rs stands.place) (sym (rows_are formulas es)),
  )

  abbrev IsPlaced : Entry → Type 0
  IsPlaced e = e.1.place < length formulas

  kept : (v : Holding) → v.place < length formulas → (fs : List Entry) (i : ℕ) → AllByRecursion IsPlaced fs → AllByRecursion IsPlaced (set_value_at fs i v)
  kept v h [] i a = tt
  kept v h (e ∷ fs) zero a = (h, a.1)
  kept v h (e ∷ fs) (suc i) a = (a.0, kept v h fs i a.1)

  pub place_within : HasPlaces formulas es → w.place < length formulas
  place_within places =
      let there = slice_get_within (map (λ (e : Entry). e.1) es) k w row.value in
      at_value (All-map (λ (h : Holding). h.place < length formulas) (λ (e : Entry). e.1) es places k w there)
    where
      at_value : (get_or (map (λ (e : Entry). e.1) es) k w).place < length formulas → w.place < length formulas
      at_value h = subst (λ (v : Holding). v.place < length formulas) (get_or_from_slice_get (map (λ (e : Entry). e.1) es) k w w row.value) h

  -- another holding of the same formula leaves the labels held
  pub set_held : (v : Holding) → v.place ≡ w.place → AreHeld formulas es → AreHeld formulas (set_value_at es k v)
  set_held v same held = record {
    distinct = held.distinct;
    places = All-from_recursion IsPlaced (set_value_at es k v) (kept v (subst (λ n. n < length formulas) (sym same) (place_within held.places)) es k (recursion_from_All IsPlaced es held.places));
  }

pub holder_here : (es : List Entry) (number k : ℕ) (w : Holding) → IsRowOf es number k w → holder_in es number ≡ Some w.holder
holder_here es number k w row = sym (holder_agrees [] es number) ∙ holder_is [] es number k w row

-- ---- why a call is refused

same_err : {T U E : Type 0} (e f : E) → ◌≡◌ {A = Result T E} (Err e) (Err f) → ◌≡◌ {A = Result U E} (Err e) (Err f)
same_err {T} {U} {E} e f p = ap (λ r. Err (of r)) p
  where
    of : Result T E → E
    of (Ok x) = e
    of (Err d) = d

module _ (formulas : List Formula) (es : List Entry) (number : ℕ) {T U E : Type 0} (e f : E) where
  pub refused_none : (◌≡◌ {A = Result T E} (Err e) (Err f) ↔ (holder_in es number ≡ None)) → (◌≡◌ {A = Result U E} (Err e) (Err f) ↔ (holder_of (rows_in formulas es) number ≡ None))
  refused_none h = (λ p. holder_agrees formulas es number ∙ h.0 (same_err e f p), λ n. same_err e f (h.1 (sym (holder_agrees formulas es number) ∙ n)))

  pub refused_other : (from : ℕ) → (◌≡◌ {A = Result T E} (Err e) (Err f) ↔ ((x : ℕ) × (holder_in es number ≡ Some x) × (x ≢ from)))
      → (◌≡◌ {A = Result U E} (Err e) (Err f) ↔ ((x : ℕ) × (holder_of (rows_in formulas es) number ≡ Some x) × (x ≢ from)))
  refused_other from h = (
    λ p. let o = h.0 (same_err e f p) in (o.0, holder_agrees formulas es number ∙ o.1, o.2),
    λ o. same_err e f (h.1 (o.0, sym (holder_agrees formulas es number) ∙ o.1, o.2)),
  )

-- numbers below another, in the rows and in the entries
pub above_entries : (formulas : List Formula) (es : List Entry) (number : ℕ) → All (λ (row : LabelRow). row.0 < number) (rows_in formulas es) → All (λ (e : Entry). e.0 < number) (live_entries es)
above_entries formulas es number above = All-from_recursion (λ (e : Entry). e.0 < number) (live_entries es) (by (live_entries es) (recursion_from_All (λ (row : LabelRow). row.0 < number) (rows_in formulas es) above))
  where
    by : (fs : List Entry) → AllByRecursion (λ (row : LabelRow). row.0 < number) (map label_row (map (held_label formulas) fs)) → AllByRecursion (λ (e : Entry). e.0 < number) fs
    by [] h = tt
    by (e ∷ fs) h = (h.0, by fs h.1)

-- what `say` makes of the labels: the formula is put among those kept, and the label goes last
module _ (formulas formulas' : List Formula) (among : Bool) (label : Formula) (put : formulas' ≡ put_item formulas among label) (distinct : IsDistinct same_label formulas')
    (old : List Entry) (places : HasPlaces formulas old) (number holder p : ℕ) (stored : (f : Formula) × (slice_get formulas' p ≡ Some f) × (same_label label f ≡ true))
    (es : List Entry) (tidied : IsTidied old es) (es' : List Entry) (pushed : es' ≡ es ++ (number, record { holder = holder; place = p; live = true }) ∷ []) where
  abbrev entry : Entry
  entry = (number, record { holder = holder; place = p; live = true })

  abbrev IsOld : Entry → Type 0
  IsOld e = e.1.place < length formulas

  within : p < length formulas'
  within = slice_get_within formulas' p stored.0 stored.1

  label_is : formula_tree (get_or formulas' p True) ≡ formula_tree label
  label_is = ap formula_tree (get_or_from_slice_get formulas' p stored.0 True stored.1) ∙ sym ((same_formulas-Decides (formula_tree label) (formula_tree stored.0)).0 stored.2)

  more : length formulas ≤ length formulas'
  more = subst (λ l. length formulas ≤ length l) (sym put) (length-put_item formulas among label)

  stays : (q : ℕ) → q < length formulas → get_or formulas' q True ≡ get_or formulas q True
  stays q h = ap (λ l. get_or l q True) put ∙ get_or-put_item formulas among label q True h

  still : HasPlaces formulas es
  still = tidied_All IsOld old es tidied places

  same_rows : rows_in formulas' es ≡ rows_in formulas old
  same_rows =
      rows_are formulas' es
      ∙ map-agrees (row_of formulas') (row_of formulas) (live_entries es)
      (λ k d h. let e = get_or (live_entries es) k d in ap (λ f. (e.0, e.1.holder, formula_tree f)) (stays e.1.place (All-filter (λ (f : Entry). f.1.live) IsOld es still k d h)))
      ∙ sym (rows_are formulas es)
      ∙ tidied_rows formulas old es tidied

  pub said_rows : rows_in formulas' es' ≡ rows_in formulas old ++ (number, holder, formula_tree label) ∷ []
  said_rows =
      ap (rows_in formulas') pushed
      ∙ ap (λ l. map label_row (map (held_label formulas') l)) (filter-append (λ (e : Entry). e.1.live) es (entry ∷ []))
      ∙ ap (map label_row) (map-append (held_label formulas') (live_entries es) (entry ∷ []))
      ∙ map-append label_row (map (held_label formulas') (live_entries es)) (held_label formulas' entry ∷ [])
      ∙ (λ i. same_rows i ++ (number, holder, label_is i) ∷ [])

  pub said_held : AreHeld formulas' es'
  said_held = record {
    distinct = distinct;
    places = subst (HasPlaces formulas') (sym pushed)
        (All-append (λ (e : Entry). e.1.place < length formulas') es (entry ∷ []) (λ k d h. let before = still k d h in omega (arith, before, more))
        (All-cons (λ (e : Entry). e.1.place < length formulas') entry [] within (All-nil (λ (e : Entry). e.1.place < length formulas'))));
  }

-- ---- the labels of one principal

module _ {X : Type 0} (p q : X → Bool) where
  pub filter_filter : (xs : List X) → filter q (filter p xs) ≡ filter (λ x. p x && q x) xs
  filter_filter [] = refl
  filter_filter (x ∷ xs) = by (filter_filter xs) (p x)
    where
      by : filter q (filter p xs) ≡ filter (λ y. p y && q y) xs → (b : Bool)
          → filter q (cond b (x ∷ filter p xs) (filter p xs)) ≡ cond (b && q x) (x ∷ filter (λ y. p y && q y) xs) (filter (λ y. p y && q y) xs)
      by rest true = ap (λ l. cond (q x) (x ∷ l) l) rest
      by rest false = rest

-- what passes among the rows is what passes among the entries
filter-map : {A B : Type 0} (q : B → Bool) (f : A → B) (xs : List A) → filter q (map f xs) ≡ map f (filter (λ x. q (f x)) xs)
filter-map q f [] = refl
filter-map q f (x ∷ xs) = by (q (f x)) (filter-map q f xs)
  where
    by : (b : Bool) → filter q (map f xs) ≡ map f (filter (λ x. q (f x)) xs) → cond b (f x ∷ filter q (map f xs)) (filter q (map f xs)) ≡ map f (cond b (x ∷ filter (λ x. q (f x)) xs) (filter (λ x. q (f x)) xs))
    by true rest = ap (λ l. f x ∷ l) rest
    by false rest = rest

pub labels_are : (formulas : List Formula) (es : List Entry) (holder : ℕ) → map formula_tree (labels_from formulas es holder 0) ≡ labels_of (rows_in formulas es) holder
labels_are formulas es holder =
    map-map formula_tree (λ (e : Entry). get_or formulas e.1.place True) (filter (is_holders holder) es)
    ∙ sym
    (ap (λ rs. labels_of rs holder) (rows_are formulas es)
    ∙ ap (map (λ (row : LabelRow). row.2)) (filter-map (λ (row : LabelRow). nat_eq holder row.1) (row_of formulas) (live_entries es))
    ∙ map-map (λ (row : LabelRow). row.2) (row_of formulas) (filter (λ (e : Entry). nat_eq holder e.1.holder) (live_entries es))
    ∙ ap (map (λ (e : Entry). formula_tree (get_or formulas e.1.place True))) (filter_filter (λ (e : Entry). e.1.live) (λ (e : Entry). nat_eq holder e.1.holder) es))

abbrev pub nowhere : Entry
nowhere = (0, record { holder = 0; place = 0; live = false })

module _ (es : List Entry) (i : ℕ) (w : Holding) (value : slice_get (map (λ (e : Entry). e.1) es) i ≡ Some w) where
  pub entry_within : i < length es
  entry_within = let h = slice_get_within (map (λ (e : Entry). e.1) es) i w value in omega (arith, h, length-map es (λ (e : Entry). e.1))

  pub holding_is : (get_or es i nowhere).1 ≡ w
  holding_is = same_some (ap (option_map (λ (e : Entry). e.1)) (slice_get-get_or es i nowhere entry_within)) (sym (slice_get-map (λ (e : Entry). e.1) es i) ∙ value)

  module _ (holder : ℕ) where
    abbrev later : List Entry
    later = held_from es holder (i + 1)

    with_next : held_from es holder i ≡ cond (w.live && nat_eq holder w.holder) (get_or es i nowhere ∷ later) later
    with_next =
        ap (filter (is_holders holder)) (drop_more es i nowhere entry_within)
        ∙ ap (λ (v : Holding). cond (v.live && nat_eq holder v.holder) (get_or es i nowhere ∷ later) later) holding_is

    -- the entry at an index is the next one of its holder, and not one of another or of a hole
    pub next_is : (w.live && nat_eq holder w.holder) ≡ true → (n : ℕ) × (held_from es holder i ≡ (n, w) ∷ held_from es holder (i + 1))
    next_is theirs = ((get_or es i nowhere).0, with_next ∙ ap (λ b. cond b (get_or es i nowhere ∷ later) later) theirs ∙ ap (λ (v : Holding). ((get_or es i nowhere).0, v) ∷ later) holding_is)

    pub next_is_later : (w.live && nat_eq holder w.holder) ≡ false → held_from es holder i ≡ held_from es holder (i + 1)
    next_is_later other = with_next ∙ ap (λ b. cond b (get_or es i nowhere ∷ later) later) other

-- past the last there is none
pub none_from : (es : List Entry) (holder i : ℕ) → length es ≤ i → held_from es holder i ≡ []
none_from es holder i past = ap (filter (is_holders holder)) (drop_all i es past)

-- the formula of an entry is one of those kept
pub place_of_value : (formulas : List Formula) (es : List Entry) → HasPlaces formulas es → (i : ℕ) (w : Holding) → slice_get (map (λ (e : Entry). e.1) es) i ≡ Some w → w.place < length formulas
place_of_value formulas es places i w value =
    let at = places i nowhere (entry_within es i w value) in
    subst (λ (v : Holding). v.place < length formulas) (holding_is es i w value) at

-- the first that is left of a list
pub first_left : {X : Type 0} (n : ℕ) (xs : List X) → slice_get (drop n xs) 0 ≡ slice_get xs n
first_left zero [] = refl
first_left zero (x ∷ xs) = refl
first_left (suc n) [] = refl
first_left (suc n) (x ∷ xs) = first_left n xs
