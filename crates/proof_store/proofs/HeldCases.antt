-- What the keys of a store say of its rows: a case's row stands where the key with its operation's place stands.
use Rattle.std.proofs.Common.{true≢false, unwrap_or, ◌≡◌, ℕ, zero, suc, ◌<◌, ◌≤◌, Bool, true, false, List, [], ◌∷◌, ◌++◌, ◌&&◌, map, length, get_or, slice_get, slice_set, Option, Some, None, nat_eq, refl, sym, ap, subst, ◌∙◌, arith, if◌then◌else◌}
use Rattle.std.specs.Cmp.{unsigned_Decides}
use Rattle.std.specs.List.{AllByRecursion, position, position_or_len, IsDistinct}
use Rattle.std.specs.Option.{option_map, option_and_then, is_some}
use Rattle.std.proofs.lemmas.List.{map-append, length-set, length-append}
use Rattle.std.proofs.lemmas.List.Elements.{recursion_from_All, All-from_recursion}
use Rattle.std.proofs.lemmas.List.Quantifiers.{position-Some}
use Rattle.std.proofs.lemmas.Option.{slice_get_within, get_or_from_slice_get, slice_get-map}
use Rattle.indexmap.specs.IndexMap.{insert_entry}
use Rattle.indexmap.specs.Layout.{set_value_at}
use Rattle.indexmap.proofs.MapLemmas.{Found-position, Missing-position, insert_entry-first, insert_entry-absent}
use Rattle.nal_term.specs.TreeKeys.{same_bytes, same_bytes-Decides}
use Rattle.nal_term.proofs.ForCallers.{keys_in, position_agrees, position_of_none, map-agrees, map-map, same_place, other_name, place_of_name, put_item, length-put_item, get_or-put_item}
use Rattle.proof_lines.specs.Lines.{line_trees}
use Rattle.proof_lines.specs.declared.lines.Line.{Line}
use Rattle.proof_store.specs.Cases.{CaseRow, case_row, is_case, number_of, proof_of}
use Rattle.proof_store.specs.Held.{Entry, held_case}
use Rattle.proof_store.specs.Inner.Places.{HasPlaces, AreHeld}

-- a key: the subject, the place of the operation, and the object
abbrev pub Key : Type 0
Key = ℕ × ℕ × ℕ

abbrev pub same_key : Key → Key → Bool
same_key k l = (nat_eq k.0 l.0 && nat_eq k.1 l.1) && nat_eq k.2 l.2

-- the row of an entry
abbrev pub row_of : List (List ℕ) → Entry → CaseRow
row_of ops e = case_row (held_case ops e)

abbrev pub rows_in : List (List ℕ) → List Entry → List CaseRow
rows_in ops es = map case_row (map (held_case ops) es)

pub rows_are : (ops : List (List ℕ)) (es : List Entry) → rows_in ops es ≡ map (row_of ops) es
rows_are ops es = map-map case_row (held_case ops) es

pub length-rows : (ops : List (List ℕ)) (es : List Entry) → length (rows_in ops es) ≡ length es
length-rows ops [] = refl
length-rows ops (e ∷ es) = ap suc (length-rows ops es)

first_of : (a b : Bool) → (a && b) ≡ true → a ≡ true
first_of true b e = refl
first_of false b e = e

second_of : (a b : Bool) → (a && b) ≡ true → b ≡ true
second_of true b e = e
second_of false b e = absurd (cc e)

same_keys_are : (k l : Key) → same_key k l ≡ true → l ≡ k
same_keys_are k l e =
    let front = first_of (nat_eq k.0 l.0 && nat_eq k.1 l.1) (nat_eq k.2 l.2) e in
    let a = (unsigned_Decides k.0 l.0).0 (first_of (nat_eq k.0 l.0) (nat_eq k.1 l.1) front) in
    let b = (unsigned_Decides k.1 l.1).0 (second_of (nat_eq k.0 l.0) (nat_eq k.1 l.1) front) in
    let c = (unsigned_Decides k.2 l.2).0 (second_of (nat_eq k.0 l.0 && nat_eq k.1 l.1) (nat_eq k.2 l.2) e) in
    λ i. (sym a i, sym b i, sym c i)

-- a row that is the one of a subject, an operation and an object has them
pub same_case : (subject : ℕ) (op : List ℕ) (object : ℕ) (row : CaseRow) → is_case subject op object row ≡ true → (subject ≡ row.0) × (op ≡ row.1) × (object ≡ row.2)
same_case subject op object row e =
    let front = first_of (nat_eq subject row.0 && same_bytes op row.1) (nat_eq object row.2) e in (
      (unsigned_Decides subject row.0).0 (first_of (nat_eq subject row.0) (same_bytes op row.1) front),
      (same_bytes-Decides op row.1).0 (second_of (nat_eq subject row.0) (same_bytes op row.1) front),
      (unsigned_Decides object row.2).0 (second_of (nat_eq subject row.0 && same_bytes op row.1) (nat_eq object row.2) e),
    )

-- a new value at a key is a new row in its place
map-set_value_at : {K X R : Type 0} (f : K × X → R) (es : List (K × X)) (i : ℕ) (k : K) (w : X) → get_or (keys_in es) i k ≡ k → map f (set_value_at es i w) ≡ slice_set (map f es) i (f (k, w))
map-set_value_at f [] i k w at = refl
map-set_value_at f (e ∷ es) zero k w at = λ j. f (at j, w) ∷ map f es
map-set_value_at f (e ∷ es) (suc i) k w at = ap (λ l. f e ∷ l) (map-set_value_at f es i k w at)

-- a key that stands at i is the one that is asked for
pub key_at : (es : List Entry) (k : Key) (i : ℕ) → position (same_key k) (keys_in es) ≡ Some i → get_or (keys_in es) i k ≡ k
key_at es k i p = same_keys_are k (get_or (keys_in es) i k) (position-Some (same_key k) (keys_in es) i k p).1

module _ (ops : List (List ℕ)) (distinct : IsDistinct same_bytes ops) (es : List Entry) (places : HasPlaces ops es) (subject : ℕ) (op : List ℕ) (object : ℕ) where
  -- the case number, where the operation has a place
  pub number_of_key : (p : ℕ) → position (same_bytes op) ops ≡ Some p → number_of (rows_in ops es) subject op object ≡ position (same_key (subject, p, object)) (keys_in es)
  number_of_key p at =
      ap (λ rs. number_of rs subject op object) (rows_are ops es)
      ∙ position_agrees (row_of ops) (is_case subject op object) (same_key (subject, p, object)) es
      (λ k d within.
      let e = get_or es k d in
      ap (λ b. (nat_eq subject e.0.0 && b) && nat_eq object e.0.2) (same_place ops distinct op p e.0.1 at (places k d within)))

  -- and there is none where it has no place
  pub number_of_unknown : position (same_bytes op) ops ≡ None → number_of (rows_in ops es) subject op object ≡ None
  number_of_unknown none =
      ap (λ rs. number_of rs subject op object) (rows_are ops es)
      ∙ position_of_none (row_of ops) (is_case subject op object) es
      (λ k d within.
      let e = get_or es k d in
      ap (λ b. (nat_eq subject e.0.0 && b) && nat_eq object e.0.2) (other_name ops op e.0.1 none (places k d within)) ∙ never (nat_eq subject e.0.0) (nat_eq object e.0.2))
    where
      never : (a b : Bool) → ((a && false) && b) ≡ false
      never true b = refl
      never false b = refl

-- another value at a key is another row in its place
pub rows-set_value_at : (ops : List (List ℕ)) (es : List Entry) (k : Key) (i : ℕ) (w : Option (List Line)) → position (same_key k) (keys_in es) ≡ Some i
    → rows_in ops (set_value_at es i w) ≡ slice_set (rows_in ops es) i (row_of ops (k, w))
rows-set_value_at ops es k i w p =
    rows_are ops (set_value_at es i w) ∙ map-set_value_at (row_of ops) es i k w (key_at es k i p) ∙ ap (λ rs. slice_set rs i (row_of ops (k, w))) (sym (rows_are ops es))

-- the proof that a case has
pub proof_at : (ops : List (List ℕ)) (es : List Entry) (k : ℕ) (w : Option (List Line)) → slice_get (map (λ (e : Entry). e.1) es) k ≡ Some w → proof_of (rows_in ops es) k ≡ option_map line_trees w
proof_at ops es k w at =
    ap (option_and_then (λ (row : CaseRow). row.3)) (ap (λ rs. slice_get rs k) (rows_are ops es) ∙ slice_get-map (row_of ops) es k)
    ∙ by (slice_get es k) (sym (slice_get-map (λ (e : Entry). e.1) es k) ∙ at)
  where
    by : (r : Option Entry) → option_map (λ (e : Entry). e.1) r ≡ Some w → option_and_then (λ (row : CaseRow). row.3) (option_map (row_of ops) r) ≡ option_map line_trees w
    by None q = absurd (true≢false (sym (ap is_some q)))
    by (Some e) q = ap (λ o. option_map line_trees (unwrap_or o w)) q

-- the place of an entry's operation is one of the first n
abbrev IsPlacedBelow : ℕ → Entry → Type 0
IsPlacedBelow n e = e.0.1 < n

-- a proof in the place of another leaves the cases held
pub held-set_value_at : (ops : List (List ℕ)) (es : List Entry) (i : ℕ) (w : Option (List Line)) → AreHeld ops es → AreHeld ops (set_value_at es i w)
held-set_value_at ops es i w held = record {
  distinct = held.distinct;
  places = All-from_recursion (IsPlacedBelow (length ops)) (set_value_at es i w) (kept es i (recursion_from_All (IsPlacedBelow (length ops)) es held.places));
  bound = subst (λ n. n ≤ 262144) (sym (same_count es i)) held.bound;
}
  where
    kept : (fs : List Entry) (j : ℕ) → AllByRecursion (IsPlacedBelow (length ops)) fs → AllByRecursion (IsPlacedBelow (length ops)) (set_value_at fs j w)
    kept [] j h = tt
    kept (e ∷ fs) zero h = h
    kept (e ∷ fs) (suc j) h = (h.0, kept fs j h.1)

    same_count : (fs : List Entry) (j : ℕ) → length (set_value_at fs j w) ≡ length fs
    same_count [] j = refl
    same_count (e ∷ fs) zero = refl
    same_count (e ∷ fs) (suc j) = ap suc (same_count fs j)

-- what `set` makes of the cases: the operation is put among the names, and the proof at its key
module _ (ops ops' : List (List ℕ)) (among : Bool) (op : List ℕ) (put : ops' ≡ put_item ops among op) (distinct : IsDistinct same_bytes ops')
    (es : List Entry) (places : HasPlaces ops es) (subject object p : ℕ) (stored : (k : List ℕ) × (slice_get ops' p ≡ Some k) × (same_bytes op k ≡ true)) (proof : List Line) where
  abbrev key : Key
  key = (subject, p, object)

  abbrev new_row : CaseRow
  new_row = (subject, op, object, Some (line_trees proof))

  within : p < length ops'
  within = slice_get_within ops' p stored.0 stored.1

  name_is : get_or ops' p [] ≡ op
  name_is = get_or_from_slice_get ops' p stored.0 [] stored.1 ∙ sym ((same_bytes-Decides op stored.0).0 stored.2)

  at_place : position (same_bytes op) ops' ≡ Some p
  at_place = subst (λ n. position (same_bytes n) ops' ≡ Some p) name_is (place_of_name ops' distinct p within)

  more : length ops ≤ length ops'
  more = subst (λ l. length ops ≤ length l) (sym put) (length-put_item ops among op)

  stays : (q : ℕ) → q < length ops → get_or ops' q [] ≡ get_or ops q []
  stays q h = ap (λ l. get_or l q []) put ∙ get_or-put_item ops among op q [] h

  places_still : HasPlaces ops' es
  places_still k d h = let before = places k d h in omega (arith, before, more)

  same_rows : rows_in ops' es ≡ rows_in ops es
  same_rows =
      rows_are ops' es
      ∙ map-agrees (row_of ops') (row_of ops) es (λ k d h. let e = get_or es k d in ap (λ n. (e.0.0, n, e.0.2, option_map line_trees e.1)) (stays e.0.1 (places k d h)))
      ∙ sym (rows_are ops es)

  number : number_of (rows_in ops es) subject op object ≡ position (same_key key) (keys_in es)
  number = ap (λ rs. number_of rs subject op object) (sym same_rows) ∙ number_of_key ops' distinct es places_still subject op object p at_place

  rows-append : rows_in ops' (es ++ (key, Some proof) ∷ []) ≡ rows_in ops es ++ new_row ∷ []
  rows-append =
      ap (map case_row) (map-append (held_case ops') es ((key, Some proof) ∷ []))
      ∙ map-append case_row (map (held_case ops') es) (held_case ops' (key, Some proof) ∷ [])
      ∙ (λ i. same_rows i ++ (subject, name_is i, object, Some (line_trees proof)) ∷ [])

  module _ (es' : List Entry) (r : ℕ) (entries : es' ≡ insert_entry same_key es key (Some proof)) (index : r ≡ position_or_len (same_key key) (keys_in es)) where
    pub set_known : (k : ℕ) → number_of (rows_in ops es) subject op object ≡ Some k → (r ≡ k) × (rows_in ops' es' ≡ slice_set (rows_in ops es) k new_row)
    set_known k n =
        let at_key = sym number ∙ n in
        let found = Found-position (same_key key) es k at_key in (
          index ∙ found.or_len,
          ap (rows_in ops') (entries ∙ insert_entry-first same_key key (Some proof) es k found.first)
              ∙ rows-set_value_at ops' es key k (Some proof) at_key
              ∙ (λ i. slice_set (same_rows i) k (subject, name_is i, object, Some (line_trees proof))),
        )

    pub set_fresh : number_of (rows_in ops es) subject op object ≡ None → (r ≡ length (rows_in ops es)) × (rows_in ops' es' ≡ rows_in ops es ++ new_row ∷ [])
    set_fresh n =
        let missing = Missing-position (same_key key) es (sym number ∙ n) in (
          index ∙ missing.or_len ∙ sym (length-rows ops es),
          ap (rows_in ops') (entries ∙ insert_entry-absent same_key key (Some proof) es missing.absent) ∙ rows-append,
        )

    abbrev IsPlaced : Entry → Type 0
    IsPlaced = IsPlacedBelow (length ops')

    puts : (fs : List Entry) → AllByRecursion IsPlaced fs → AllByRecursion IsPlaced (insert_entry same_key fs key (Some proof))
    puts [] h = (within, tt)
    puts (e ∷ fs) h = by (same_key key e.0) (puts fs h.1)
      where
        by : (c : Bool) → AllByRecursion IsPlaced (insert_entry same_key fs key (Some proof)) → AllByRecursion IsPlaced (if c then (e.0, Some proof) ∷ fs else e ∷ insert_entry same_key fs key (Some proof))
        by true rest = (h.0, h.1)
        by false rest = (h.0, rest)

    count : (o : Option ℕ) → number_of (rows_in ops es) subject op object ≡ o → (number_of (rows_in ops es) subject op object ≡ None → length (rows_in ops es) < 262144) → length es ≤ 262144 → length es' ≤ 262144
    count None n room bound =
        let longer = ap length (set_fresh n).1 in
        let was = room n in
        omega (arith, sym (length-rows ops' es'), longer, length-append (rows_in ops es) (new_row ∷ []), was)
    count (Some k) n room bound =
        let same = ap length (set_known k n).1 in
        omega (arith, sym (length-rows ops' es'), same, length-set (rows_in ops es) k new_row, length-rows ops es, bound)

    pub set_held : (number_of (rows_in ops es) subject op object ≡ None → length (rows_in ops es) < 262144) → length es ≤ 262144 → AreHeld ops' es'
    set_held room bound = record {
      distinct = distinct;
      places = subst (HasPlaces ops') (sym entries) (All-from_recursion IsPlaced (insert_entry same_key es key (Some proof)) (puts es (recursion_from_All IsPlaced es places_still)));
      bound = count (number_of (rows_in ops es) subject op object) refl room bound;
    }

-- what `clear` finds and leaves at the key of a case
module _ (ops : List (List ℕ)) (distinct : IsDistinct same_bytes ops) (es : List Entry) (places : HasPlaces ops es) (subject : ℕ) (op : List ℕ) (object p k : ℕ)
    (at : position (same_bytes op) ops ≡ Some p) (at_key : position (same_key (subject, p, object)) (keys_in es) ≡ Some k) where
  is_number : number_of (rows_in ops es) subject op object ≡ Some k
  is_number = number_of_key ops distinct es places subject op object p at ∙ at_key

  pub clear_had : (w : Option (List Line)) → slice_get (map (λ (e : Entry). e.1) es) k ≡ Some w
      → is_some (option_and_then (proof_of (rows_in ops es)) (number_of (rows_in ops es) subject op object)) ≡ is_some w
  clear_had w value =
      ap (λ n. is_some (option_and_then (proof_of (rows_in ops es)) n)) is_number ∙ ap is_some (proof_at ops es k w value) ∙ by w
    where
      by : (v : Option (List Line)) → is_some (option_map line_trees v) ≡ is_some v
      by None = refl
      by (Some v) = refl

  pub clear_rows : (j : ℕ) × (number_of (rows_in ops es) subject op object ≡ Some j) × (rows_in ops (set_value_at es k None) ≡ slice_set (rows_in ops es) j (subject, op, object, None))
  clear_rows =
      let found = position-Some (same_bytes op) ops p [] at in
      let name : get_or ops p [] ≡ op = sym ((same_bytes-Decides op (get_or ops p [])).0 found.1) in
      (k, is_number, rows-set_value_at ops es (subject, p, object) k None at_key ∙ (λ i. slice_set (rows_in ops es) k (subject, name i, object, None)))
