-- How many labels a principal holds of a formula: what one more, one less and another holder make of the numbers.
use Rattle.std.proofs.Common.{lt-ltb, filter, take, ◌+◌, ◌-◌, true≢false, unwrap_or, ◌≡◌, ℕ, zero, suc, ◌<◌, ◌≤◌, Bool, true, false, cond, ◌||◌, inl, inr, List, [], ◌∷◌, ◌++◌, ◌&&◌, map, length, get_or, slice_get, Option, Some, None, nat_eq, nat_lt, refl, sym, ap, subst, ◌∙◌, arith}
use Rattle.std.specs.Bool.{Decides}
use Rattle.std.specs.Cmp.{unsigned_Decides, decided, IsEquivalence}
use Rattle.std.specs.List.{All, AllByRecursion, position, list_any, IsDistinct}
use Rattle.std.specs.Option.{option_map, is_some}
use Rattle.std.proofs.lemmas.List.Elements.{recursion_from_All, All-filter}
use Rattle.std.proofs.lemmas.List.Quantifiers.{position-Some}
use Rattle.std.proofs.lemmas.Option.{slice_get-map, slice_get-get_or}
use Rattle.indexmap.specs.IndexMap.{IndexMap, get, keys, values, with_value_at, IsUnique}
use Rattle.indexmap.specs.Layout.{set_value_at}
use Rattle.indexmap.proofs.CallerLemmas.{updates-with_value_at}
use Rattle.label_store.specs.declared.rows.Holding.{Holding}
use Rattle.nal_term.specs.declared.formulas.Formula.{Formula}
use Rattle.nal_term.specs.declared.formulas.Formula.TheVariants.{True}
use Rattle.nal_term.specs.Trees.{formula_tree}
use Rattle.nal_term.specs.TreeKeys.{same_formulas, formulas_equiv}
use Rattle.nal_term.proofs.ForCallers.{same_item, fails_at}
use Rattle.label_store.specs.LabelRows.{LabelRow, is_held}
use Rattle.label_store.specs.Held.{Entry, live_entries}
use Rattle.label_store.specs.Inner.Kept.{Key, same_key, has_key, counted, count_of, same_label, hole, HasPlaces, IsTidied, IsRowOf}
use Rattle.label_store.proofs.LiveRows.{row_of, same_some}
use Rattle.label_store.proofs.HeldLabels.{rows_in, rows_are, filter_filter, nowhere, entry_within, holding_is}

first_of : (a b : Bool) → (a && b) ≡ true → a ≡ true
first_of true b e = refl
first_of false b e = e

second_of : (a b : Bool) → (a && b) ≡ true → b ≡ true
second_of true b e = e
second_of false b e = absurd (cc e)

both : (a b : Bool) → a ≡ true → b ≡ true → (a && b) ≡ true
both a b p q = cc (p, q)

pub same_key-Decides : (k l : Key) → Decides (same_key k l) (k ≡ l)
same_key-Decides k l = (
  λ e.
      let a = (unsigned_Decides k.0 l.0).0 (first_of (nat_eq k.0 l.0) (nat_eq k.1 l.1) e) in
      let b = (unsigned_Decides k.1 l.1).0 (second_of (nat_eq k.0 l.0) (nat_eq k.1 l.1) e) in
      λ i. (a i, b i),
  λ e. both (nat_eq k.0 l.0) (nat_eq k.1 l.1) ((unsigned_Decides k.0 l.0).1 (ap (λ (m : Key). m.0) e)) ((unsigned_Decides k.1 l.1).1 (ap (λ (m : Key). m.1) e)),
)

pub key_equiv : IsEquivalence same_key
key_equiv = decided same_key same_key-Decides

-- ---- the numbers that are kept

module _ {S : Type 0} (m : IndexMap Key ℕ S) (unique : IsUnique same_key m) (key : Key) (i v : ℕ) (at : position (same_key key) (keys m) ≡ Some i) (value : slice_get (values m) i ≡ Some v) where
  key_is : slice_get (keys m) i ≡ Some key
  key_is =
      let found = position-Some (same_key key) (keys m) i key at in
      slice_get-get_or (keys m) i key found.0 ∙ ap Some (sym ((same_key-Decides key (get_or (keys m) i key)).0 found.1))

  entry_is : slice_get m.entries i ≡ Some (key, v)
  entry_is = by (slice_get m.entries i) refl (sym (slice_get-map (λ (e : Key × ℕ). e.0) m.entries i) ∙ key_is) (sym (slice_get-map (λ (e : Key × ℕ). e.1) m.entries i) ∙ value)
    where
      by : (o : Option (Key × ℕ)) → slice_get m.entries i ≡ o → option_map (λ (e : Key × ℕ). e.0) o ≡ Some key → option_map (λ (e : Key × ℕ). e.1) o ≡ Some v → slice_get m.entries i ≡ Some (key, v)
      by None s p q = absurd (true≢false (sym (ap is_some p)))
      by (Some e) s p q = s ∙ (λ j. Some (unwrap_or (p j) key, unwrap_or (q j) v))

  written : (w : ℕ) (k : Key) → get same_key (with_value_at m i w) k ≡ cond (same_key key k) (Some w) (get same_key m k)
  written w k = (updates-with_value_at m i w key_equiv unique key v entry_is).0 k

  module _ (is : get same_key m key ≡ Some v) where
    the_same : (k : Key) → same_key key k ≡ true → count_of m k ≡ v
    the_same k e = ap (λ l. count_of m l) (sym ((same_key-Decides key k).0 e)) ∙ ap (λ o. unwrap_or o 0) is

    pub one_more_number : (k : Key) → count_of (with_value_at m i (v + 1)) k ≡ count_of m k + cond (same_key key k) 1 0
    one_more_number k = ap (λ o. unwrap_or o 0) (written (v + 1) k) ∙ by (same_key key k) refl
      where
        by : (b : Bool) → same_key key k ≡ b → unwrap_or (cond b (Some (v + 1)) (get same_key m k)) 0 ≡ count_of m k + cond b 1 0
        by true e = ap (λ n. n + 1) (sym (the_same k e))
        by false e = omega arith

    pub one_less_number : 0 < count_of m key → (k : Key) → count_of (with_value_at m i (v - 1)) k + cond (same_key key k) 1 0 ≡ count_of m k
    one_less_number some k = ap (λ o. unwrap_or o 0 + cond (same_key key k) 1 0) (written (v - 1) k) ∙ by (same_key key k) refl
      where
        by : (b : Bool) → same_key key k ≡ b → unwrap_or (cond b (Some (v - 1)) (get same_key m k)) 0 + cond b 1 0 ≡ count_of m k
        by true e = let here = the_same k e in let own = the_same key ((same_key-Decides key key).1 refl) in omega (arith, here, own, some)
        by false e = omega arith

-- ---- the numbers that the entries have

-- one where it is so, else none
abbrev pub one_if : Bool → ℕ
one_if b = cond b 1 0

abbrev pub key_of : Holding → Key
key_of w = (w.holder, w.place)

module _ {X : Type 0} (p : X → Bool) where
  pub filter_le : (xs : List X) → length (filter p xs) ≤ length xs
  filter_le [] = omega arith
  filter_le (x ∷ xs) = by (p x) (filter_le xs)
    where
      by : (b : Bool) → length (filter p xs) ≤ length xs → length (cond b (x ∷ filter p xs) (filter p xs)) ≤ suc (length xs)
      by true h = omega (arith, h)
      by false h = omega (arith, h)

  -- one more item is one more that passes, or none
  pub filter_more : (xs : List X) (i : ℕ) (d : X) → i < length xs → length (filter p (take (suc i) xs)) ≡ length (filter p (take i xs)) + cond (p (get_or xs i d)) 1 0
  filter_more [] i d h = absurd (omega (arith, h))
  filter_more (x ∷ xs) zero d h = by (p x)
    where
      by : (b : Bool) → length (cond b (x ∷ []) []) ≡ 0 + cond b 1 0
      by true = refl
      by false = refl
  filter_more (x ∷ xs) (suc i) d h = by (p x) (filter_more xs i d (omega (arith, h)))
    where
      by : (b : Bool) → length (filter p (take (suc i) xs)) ≡ length (filter p (take i xs)) + cond (p (get_or xs i d)) 1 0
          → length (cond b (x ∷ filter p (take (suc i) xs)) (filter p (take (suc i) xs))) ≡ length (cond b (x ∷ filter p (take i xs)) (filter p (take i xs))) + cond (p (get_or xs i d)) 1 0
      by true rest = omega (arith, rest)
      by false rest = rest

  pub filter_push : (xs : List X) (y : X) → length (filter p (xs ++ y ∷ [])) ≡ length (filter p xs) + cond (p y) 1 0
  filter_push [] y = by (p y)
    where
      by : (b : Bool) → length (cond b (y ∷ []) []) ≡ 0 + cond b 1 0
      by true = refl
      by false = refl
  filter_push (x ∷ xs) y = by (p x) (filter_push xs y)
    where
      by : (b : Bool) → length (filter p (xs ++ y ∷ [])) ≡ length (filter p xs) + cond (p y) 1 0
          → length (cond b (x ∷ filter p (xs ++ y ∷ [])) (filter p (xs ++ y ∷ []))) ≡ length (cond b (x ∷ filter p xs) (filter p xs)) + cond (p y) 1 0
      by true h = omega (arith, h)
      by false h = h

  pub any_filter : (xs : List X) → list_any p xs ≡ nat_lt 0 (length (filter p xs))
  any_filter [] = refl
  any_filter (x ∷ xs) = by (p x) (any_filter xs)
    where
      by : (b : Bool) → list_any p xs ≡ nat_lt 0 (length (filter p xs)) → (b || list_any p xs) ≡ nat_lt 0 (length (cond b (x ∷ filter p xs) (filter p xs)))
      by true h = sym (lt-ltb 0 (suc (length (filter p xs))) (omega arith))
      by false h = h

module _ {K X : Type 0} (p : K × X → Bool) where
  pub filter_set : (es : List (K × X)) (i : ℕ) (d : K × X) (w : X) → i < length es
      → length (filter p (set_value_at es i w)) + cond (p (get_or es i d)) 1 0 ≡ length (filter p es) + cond (p ((get_or es i d).0, w)) 1 0
  filter_set [] i d w h = absurd (omega (arith, h))
  filter_set (e ∷ es) zero d w h = by (p e) (p (e.0, w))
    where
      by : (b c : Bool) → length (cond c ((e.0, w) ∷ filter p es) (filter p es)) + cond b 1 0 ≡ length (cond b (e ∷ filter p es) (filter p es)) + cond c 1 0
      by true true = refl
      by true false = omega arith
      by false true = omega arith
      by false false = refl
  filter_set (e ∷ es) (suc i) d w h = by (p e) (filter_set es i d w (omega (arith, h)))
    where
      by : (b : Bool) → length (filter p (set_value_at es i w)) + cond (p (get_or es i d)) 1 0 ≡ length (filter p es) + cond (p ((get_or es i d).0, w)) 1 0
          → length (cond b (e ∷ filter p (set_value_at es i w)) (filter p (set_value_at es i w))) + cond (p (get_or es i d)) 1 0
          ≡ length (cond b (e ∷ filter p es) (filter p es)) + cond (p ((get_or es i d).0, w)) 1 0
      by true g = omega (arith, g)
      by false g = g

module _ (es : List Entry) (i : ℕ) (w : Holding) (value : slice_get (map (λ (e : Entry). e.1) es) i ≡ Some w) where
  abbrev within : i < length es
  within = entry_within es i w value

  has_key_is : (k : Key) → has_key k (get_or es i nowhere) ≡ (w.live && same_key (key_of w) k)
  has_key_is k = ap (λ (v : Holding). v.live && same_key k (key_of v)) (holding_is es i w value) ∙ ap (λ b. w.live && b) (key_equiv.symm k (key_of w))

  -- the first entries with one more
  pub counted_more : (k : Key) → counted (take (i + 1) es) k ≡ counted (take i es) k + cond (w.live && same_key (key_of w) k) 1 0
  counted_more k =
      let step : i + 1 ≡ suc i = omega arith in
      ap (λ n. counted (take n es) k) step ∙ filter_more (has_key k) es i nowhere within ∙ ap (λ b. counted (take i es) k + cond b 1 0) (has_key_is k)

  -- the entries with another holding in its place
  pub counted_set : (v : Holding) (k : Key) → counted (set_value_at es i v) k + cond (w.live && same_key (key_of w) k) 1 0 ≡ counted es k + cond (v.live && same_key (key_of v) k) 1 0
  counted_set v k =
      ap (λ b. counted (set_value_at es i v) k + cond b 1 0) (sym (has_key_is k))
      ∙ filter_set (has_key k) es i nowhere v within
      ∙ ap (λ b. counted es k + cond (v.live && b) 1 0) (key_equiv.symm k (key_of v))

  module _ (live : w.live ≡ true) where
    lives : (k : Key) → one_if (w.live && same_key (key_of w) k) ≡ one_if (same_key (key_of w) k)
    lives k = ap (λ b. one_if (b && same_key (key_of w) k)) live

    -- this one is counted
    pub counted_some : 0 < counted es (key_of w)
    counted_some =
        let all = counted_set (hole w) (key_of w) in
        let own : one_if (same_key (key_of w) (key_of w)) ≡ 1 = ap one_if ((same_key-Decides (key_of w) (key_of w)).1 refl) in
        let here = lives (key_of w) in
        omega (arith, all, here, own)

    -- a label that a principal holds is counted for it; what is left when it is not counted any more is what
    -- its new holder or its end leaves
    module _ {S : Type 0} (m : IndexMap Key ℕ S) (numbers : (k : Key) → count_of m k ≡ counted es k) where
      pub taken_some : 0 < count_of m (key_of w)
      taken_some =
          let some = counted_some in
          let here = numbers (key_of w) in
          omega (arith, some, here)

      module _ (m' : IndexMap Key ℕ S) (taken : (k : Key) → count_of m' k + cond (same_key (key_of w) k) 1 0 ≡ count_of m k) where
        pub given_numbers : (to : ℕ) (k : Key) → count_of m' k + cond (same_key (to, w.place) k) 1 0 ≡ counted (set_value_at es i (record { holder = to; place = w.place; live = w.live })) k
        given_numbers to k =
            let set = counted_set (record { holder = to; place = w.place; live = w.live }) k in
            let one = lives k in
            let new : one_if (w.live && same_key (to, w.place) k) ≡ one_if (same_key (to, w.place) k) = ap (λ b. one_if (b && same_key (to, w.place) k)) live in
            let gone = taken k in
            let was = numbers k in
            omega (arith, set, one, new, gone, was)

        pub deleted_numbers : (k : Key) → count_of m' k ≡ counted (set_value_at es i (hole w)) k
        deleted_numbers k =
            let set = counted_set (hole w) k in
            let one = lives k in
            let gone = taken k in
            let was = numbers k in
            omega (arith, set, one, gone, was)

-- a row that a principal holds: what its key's number is, and what it is with another holder, and without it
module _ (es : List Entry) (number i from place : ℕ) (row : IsRowOf es number i (record { holder = from; place = place; live = true })) (w : Holding)
    (value : slice_get (map (λ (e : Entry). e.1) es) i ≡ Some w) where
  own : w ≡ record { holder = from; place = place; live = true }
  own = same_some value row.value

  pub own_live : w.live ≡ true
  own_live = ap (λ (v : Holding). v.live) own

  pub own_row : IsRowOf es number i w
  own_row = record { at = row.at; value = value; live = own_live }

  own_key : key_of w ≡ (from, place)
  own_key = ap key_of own

  module _ {S : Type 0} (m : IndexMap Key ℕ S) (numbers : (k : Key) → count_of m k ≡ counted es k) where
    pub own_some : 0 < count_of m (from, place)
    own_some = subst (λ k. 0 < count_of m k) own_key (taken_some es i w value own_live m numbers)

    module _ (m' : IndexMap Key ℕ S) (taken : (k : Key) → count_of m' k + cond (same_key (from, place) k) 1 0 ≡ count_of m k) where
      taken' : (k : Key) → count_of m' k + cond (same_key (key_of w) k) 1 0 ≡ count_of m k
      taken' k = subst (λ l. count_of m' k + cond (same_key l k) 1 0 ≡ count_of m k) (sym own_key) (taken k)

      pub own_given : (to : ℕ) (k : Key) → count_of m' k + cond (same_key (to, place) k) 1 0 ≡ counted (set_value_at es i (record { holder = to; place = w.place; live = w.live })) k
      own_given to k =
          ap (λ (l : Key). count_of m' k + cond (same_key (to, l.1) k) 1 0) (sym own_key) ∙ given_numbers es i w value own_live m numbers m' taken' to k

      pub own_deleted : (k : Key) → count_of m' k ≡ counted (set_value_at es i (hole w)) k
      own_deleted k = deleted_numbers es i w value own_live m numbers m' taken' k

-- the entries with one more at the end, which lives
pub counted_push : (es : List Entry) (number holder place : ℕ) (k : Key) → counted (es ++ (number, record { holder = holder; place = place; live = true }) ∷ []) k ≡ counted es k + cond (same_key (holder, place) k) 1 0
counted_push es number holder place k =
    filter_push (has_key k) es (number, record { holder = holder; place = place; live = true }) ∙ ap (λ b. counted es k + cond b 1 0) (key_equiv.symm k (holder, place))

pub counted_le : (es : List Entry) (k : Key) → counted es k ≤ length es
counted_le es k = filter_le (has_key k) es

-- holes are not counted
pub tidied_counted : (old new : List Entry) → IsTidied old new → (k : Key) → counted new k ≡ counted old k
tidied_counted old new (inl same) k = ap (λ es. counted es k) same
tidied_counted old new (inr closed) k = ap (λ es. counted es k) closed ∙ ap length (filter_filter (λ (e : Entry). e.1.live) (has_key k) old ∙ same old)
  where
    twice : (a b : Bool) → (a && (a && b)) ≡ (a && b)
    twice true b = refl
    twice false b = refl

    same : (es : List Entry) → filter (λ (e : Entry). e.1.live && has_key k e) es ≡ filter (has_key k) es
    same [] = refl
    same (e ∷ es) = λ j. cond (twice e.1.live (same_key k (key_of e.1)) j) (e ∷ same es j) (same es j)

pub tidied_length : (old new : List Entry) → IsTidied old new → length new ≤ length old
tidied_length old new (inl same) = let n = ap length same in omega (arith, n)
tidied_length old new (inr closed) = let n = ap length closed in let le = filter_le (λ (e : Entry). e.1.live) old in omega (arith, n, le)

-- a test of rows that agrees with one of entries
pub any_agrees : {X R : Type 0} (f : X → R) (test : R → Bool) (t : X → Bool) (xs : List X) → All (λ x. test (f x) ≡ t x) xs → list_any test (map f xs) ≡ list_any t xs
any_agrees {X} {R} f test t xs a = by xs (recursion_from_All (λ x. test (f x) ≡ t x) xs a)
  where
    by : (ys : List X) → AllByRecursion (λ x. test (f x) ≡ t x) ys → list_any test (map f ys) ≡ list_any t ys
    by [] h = refl
    by (y ∷ ys) h = λ i. h.0 i || by ys h.1 i

pub any_of_none : {X R : Type 0} (f : X → R) (test : R → Bool) (xs : List X) → All (λ x. test (f x) ≡ false) xs → list_any test (map f xs) ≡ false
any_of_none {X} {R} f test xs a = by xs (recursion_from_All (λ x. test (f x) ≡ false) xs a)
  where
    by : (ys : List X) → AllByRecursion (λ x. test (f x) ≡ false) ys → list_any test (map f ys) ≡ false
    by [] h = refl
    by (y ∷ ys) h = ap (λ b. b || list_any test (map f ys)) h.0 ∙ by ys h.1

pub length-set_value_at : {K X : Type 0} (es : List (K × X)) (i : ℕ) (w : X) → length (set_value_at es i w) ≡ length es
length-set_value_at [] i w = refl
length-set_value_at (e ∷ es) zero w = refl
length-set_value_at (e ∷ es) (suc i) w = ap suc (length-set_value_at es i w)

-- ---- whether a principal holds a label

module _ {X : Type 0} (p q : X → Bool) where
  any_filtered : (xs : List X) → list_any q (filter p xs) ≡ list_any (λ x. p x && q x) xs
  any_filtered [] = refl
  any_filtered (x ∷ xs) = by (any_filtered xs) (p x)
    where
      by : list_any q (filter p xs) ≡ list_any (λ y. p y && q y) xs → (b : Bool) → list_any q (cond b (x ∷ filter p xs) (filter p xs)) ≡ (b && q x || list_any (λ y. p y && q y) xs)
      by rest true = ap (λ b. q x || b) rest
      by rest false = rest

module _ (formulas : List Formula) (distinct : IsDistinct same_label formulas) (es : List Entry) (places : HasPlaces formulas es) (holder : ℕ) (label : Formula) where
  abbrev test : LabelRow → Bool
  test row = nat_eq holder row.1 && same_formulas (formula_tree label) row.2

  still : HasPlaces formulas (live_entries es)
  still = All-filter (λ (e : Entry). e.1.live) (λ (e : Entry). e.1.place < length formulas) es places

  pub held_by_key : (p : ℕ) → position (same_label label) formulas ≡ Some p → is_held (rows_in formulas es) holder (formula_tree label) ≡ nat_lt 0 (counted es (holder, p))
  held_by_key p at =
      ap (λ rs. is_held rs holder (formula_tree label)) (rows_are formulas es)
      ∙ any_agrees (row_of formulas) test (λ (e : Entry). same_key (holder, p) (key_of e.1)) (live_entries es)
      (λ k d within. let e = get_or (live_entries es) k d in ap (λ b. nat_eq holder e.1.holder && b) (same_item same_label formulas_equiv formulas distinct True label p e.1.place at (still k d within)))
      ∙ any_filtered (λ (e : Entry). e.1.live) (λ (e : Entry). same_key (holder, p) (key_of e.1)) es
      ∙ any_filter (has_key (holder, p)) es

  pub held_by_none : position (same_label label) formulas ≡ None → is_held (rows_in formulas es) holder (formula_tree label) ≡ false
  held_by_none none =
      ap (λ rs. is_held rs holder (formula_tree label)) (rows_are formulas es)
      ∙ any_of_none (row_of formulas) test (live_entries es)
      (λ k d within. let e = get_or (live_entries es) k d in ap (λ b. nat_eq holder e.1.holder && b) (fails_at (same_label label) formulas e.1.place True (still k d within) none) ∙ never (nat_eq holder e.1.holder))
    where
      never : (b : Bool) → (b && false) ≡ false
      never true = refl
      never false = refl
