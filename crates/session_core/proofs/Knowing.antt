-- The cases that a session knows: how one is found, and how one joins them.
use Rattle.std.proofs.Common.{◌≡◌, ◌<◌, ◌≤◌, ℕ, Bool, true, false, List, [], ◌∷◌, ◌++◌, length, map, Option, Some, None, get_or, slice_get, nat_eq, refl, sym, ap, subst, arith, ◌∙◌, cond, if◌then◌else◌}
use Rattle.std.specs.Prelude.{is_some, nat_lt, ◌||◌, ◌&&◌}
use Rattle.std.specs.Cmp.Lexicographic.{nat_list_eq_equiv}
use Rattle.std.specs.List.{All, AllByRecursion, position, IsDistinct}
use Rattle.std.specs.Map.{lookup}
use Rattle.std.proofs.lemmas.List.{length-append, map-append}
use Rattle.std.proofs.lemmas.List.Elements.{recursion_from_All, All-from_recursion}
use Rattle.std.proofs.lemmas.Option.{slice_get_within, get_or_from_slice_get}
use Rattle.indexmap.specs.IndexMap.{insert_entry}
use Rattle.nal_term.specs.TreeKeys.{same_bytes, same_bytes-Decides}
use Rattle.nal_term.proofs.ForCallers.{map-agrees, other_name, place_of_name, same_place, get_or-put_item, length-put_item, put_item}
use Rattle.verdict_words.specs.declared.places.CasePlace.{CasePlace}
use Rattle.session_core.specs.Standing.{most_known}
use Rattle.session_core.specs.Inner.Knowing.{AreHeld, IsNamed, KnownEntry, KnownRow, is_row_of, joined_rows, knows_row, place_among, row_of}

-- a key: the places of the operation and of the object
abbrev pub Key : Type 0
Key = ℕ × ℕ

abbrev pub same_key : Key → Key → Bool
same_key k l = nat_eq k.0 l.0 && nat_eq k.1 l.1

abbrev pub rows_in : List (List ℕ) → List (List ℕ) → List KnownEntry → List KnownRow
rows_in ops objects es = map (row_of ops objects) es

flip : (a b : List ℕ) → same_bytes a b ≡ same_bytes b a
flip = nat_list_eq_equiv.symm

and_false : (a : Bool) → (a && false) ≡ false
and_false true = refl
and_false false = refl

module _ (ops objects : List (List ℕ)) (es : List KnownEntry) (held : AreHeld ops objects es) (op object : List ℕ) where
  abbrev Named : List KnownEntry → Type 0
  Named = AllByRecursion (IsNamed ops objects)

  named : Named es
  named = recursion_from_All (IsNamed ops objects) es held.named

  module _ (p q : ℕ) (op_at : position (same_bytes op) ops ≡ Some p) (object_at : position (same_bytes object) objects ≡ Some q) where
    agrees : (e : KnownEntry) → IsNamed ops objects e → is_row_of (row_of ops objects e) op object ≡ same_key (p, q) e.0
    agrees e named =
        let a = flip (get_or ops e.0.0 []) op ∙ same_place ops held.distinct_ops op p e.0.0 op_at named.0 in
        let b = flip (get_or objects e.0.1 []) object ∙ same_place objects held.distinct_objects object q e.0.1 object_at named.1 in
        λ i. (a i && b i)

    by_key : (fs : List KnownEntry) → Named fs → place_among (rows_in ops objects fs) op object ≡ lookup (same_key (p, q)) fs
    by_key [] all = refl
    by_key (e ∷ fs) all = λ i. cond (agrees e all.0 i) (Some e.1) (by_key fs all.1 i)

    -- where both names have a place, the case is found under the key of these places
    pub place_of_key : place_among (rows_in ops objects es) op object ≡ lookup (same_key (p, q)) es
    place_of_key = by_key es named

  no_row : ((e : KnownEntry) → IsNamed ops objects e → is_row_of (row_of ops objects e) op object ≡ false) → (fs : List KnownEntry) → Named fs → place_among (rows_in ops objects fs) op object ≡ None
  no_row none [] all = refl
  no_row none (e ∷ fs) all = λ i. cond (none e all.0 i) (Some e.1) (no_row none fs all.1 i)

  -- where one of them has none, there is no such case
  pub unknown_op : position (same_bytes op) ops ≡ None → place_among (rows_in ops objects es) op object ≡ None
  unknown_op none =
      no_row (λ e named. let a = flip (get_or ops e.0.0 []) op ∙ other_name ops op e.0.0 none named.0 in λ i. (a i && same_bytes (get_or objects e.0.1 []) object)) es named

  pub unknown_object : position (same_bytes object) objects ≡ None → place_among (rows_in ops objects es) op object ≡ None
  unknown_object none =
      no_row (λ e named. let b = flip (get_or objects e.0.1 []) object ∙ other_name objects object e.0.1 none named.1 in (λ i. (same_bytes (get_or ops e.0.0 []) op && b i)) ∙ and_false (same_bytes (get_or ops e.0.0 []) op)) es named

module _ (op object : List ℕ) where
  found_with : (b : Bool) (p : CasePlace) (rest : Option CasePlace) (others : Bool) → (rest ≡ None → others ≡ false) → (if b then Some p else rest) ≡ None → (b || others) ≡ false
  found_with true p rest others later none = absurd (cc none)
  found_with false p rest others later none = later none

  -- a case that is not found is not known
  pub not_known : (rows : List KnownRow) → place_among rows op object ≡ None → knows_row rows op object ≡ false
  not_known [] none = refl
  not_known (x ∷ rows) none = found_with (is_row_of x op object) x.place (place_among rows op object) (knows_row rows op object) (not_known rows) none

  known_with : (b : Bool) (p place : CasePlace) (rest : Option CasePlace) (others : Bool) → (rest ≡ Some place → others ≡ true) → (if b then Some p else rest) ≡ Some place → (b || others) ≡ true
  known_with true p place rest others later found = refl
  known_with false p place rest others later found = later found

  -- a case that is found is known
  pub is_known : (rows : List KnownRow) (place : CasePlace) → place_among rows op object ≡ Some place → knows_row rows op object ≡ true
  is_known [] place found = absurd (cc found)
  is_known (x ∷ rows) place found = known_with (is_row_of x op object) x.place place (place_among rows op object) (knows_row rows op object) (is_known rows place) found

  some_place : (found : Option CasePlace) → is_some found ≡ true → (place : CasePlace) × (found ≡ Some place)
  some_place None is = absurd (cc is)
  some_place (Some place) is = (place, refl)

  no_place : (found : Option CasePlace) → is_some found ≡ false → found ≡ None
  no_place None is = refl
  no_place (Some place) is = absurd (cc is)

  pub known_where : (rows : List KnownRow) → is_some (place_among rows op object) ≡ true → knows_row rows op object ≡ true
  known_where rows is = let found = some_place (place_among rows op object) is in is_known rows found.0 found.1

  pub unknown_where : (rows : List KnownRow) → is_some (place_among rows op object) ≡ false → knows_row rows op object ≡ false
  unknown_where rows is = not_known rows (no_place (place_among rows op object) is)

  -- what is known stays as it is where the case is known, or there are too many
  pub joined_known : (rows : List KnownRow) (place : Option CasePlace) → knows_row rows op object ≡ true → joined_rows rows op object place ≡ rows
  joined_known rows None known = refl
  joined_known rows (Some place) known = rw known refl

  pub joined_full : (rows : List KnownRow) (place : CasePlace) → knows_row rows op object ≡ false → nat_lt (length rows) most_known ≡ false → joined_rows rows op object (Some place) ≡ rows
  joined_full rows place known full = rw (known, full) refl

  pub joined_more : (rows : List KnownRow) (place : CasePlace) → knows_row rows op object ≡ false → nat_lt (length rows) most_known ≡ true
      → joined_rows rows op object (Some place) ≡ rows ++ record { op = op; object = object; place = place } ∷ []
  joined_more rows place known few = rw (known, few) refl

  or_later : (a b : Bool) → b ≡ true → (a || b) ≡ true
  or_later true b is = refl
  or_later false b is = is

  or_here : (a b : Bool) → a ≡ true → (a || b) ≡ true
  or_here true b is = refl
  or_here false b is = absurd (cc is)

  same_row : (place : CasePlace) → is_row_of (record { op = op; object = object; place = place }) op object ≡ true
  same_row place = rw ((same_bytes-Decides op op).1 refl, (same_bytes-Decides object object).1 refl) refl

  -- the case that joined is known
  pub knows_more : (rows : List KnownRow) (place : CasePlace) → knows_row (rows ++ record { op = op; object = object; place = place } ∷ []) op object ≡ true
  knows_more [] place = or_here (is_row_of (record { op = op; object = object; place = place }) op object) false (same_row place)
  knows_more (x ∷ rows) place = or_later (is_row_of x op object) (knows_row (rows ++ record { op = op; object = object; place = place } ∷ []) op object) (knows_more rows place)

-- a key that isn't there goes last
module _ (key : Key) (place : CasePlace) where
  parts : (b : Bool) (x : CasePlace) (rest : Option CasePlace) → cond b (Some x) rest ≡ None → (b ≡ false) × (rest ≡ None)
  parts true x rest none = absurd (cc none)
  parts false x rest none = (refl, none)

  inserted_last : (es : List KnownEntry) → lookup (same_key key) es ≡ None → insert_entry same_key es key place ≡ es ++ (key, place) ∷ []
  inserted_last [] none = refl
  inserted_last (e ∷ es) none =
      let apart = parts (same_key key e.0) e.1 (lookup (same_key key) es) none in
      (λ i. cond (apart.0 i) ((e.0, place) ∷ es) (e ∷ insert_entry same_key es key place)) ∙ ap (λ fs. e ∷ fs) (inserted_last es apart.1)

-- A name was put among others: it stands once, at this place, and the others where they stood
pub record IsPut (names new : List (List ℕ)) (name : List ℕ) (place : ℕ) : Type 0 where
  pub distinct : IsDistinct same_bytes new
  pub within : place < length new
  pub name_is : get_or new place [] ≡ name
  pub at_place : position (same_bytes name) new ≡ Some place
  pub more : length names ≤ length new
  pub stays : (i : ℕ) → i < length names → get_or new i [] ≡ get_or names i []

pub is_put : (names new : List (List ℕ)) (among : Bool) (name : List ℕ) (place : ℕ) → new ≡ put_item names among name → IsDistinct same_bytes new
    → (k : List ℕ) × (slice_get new place ≡ Some k) × (same_bytes name k ≡ true) → IsPut names new name place
is_put names new among name place put distinct stored =
    let within = slice_get_within new place stored.0 stored.1 in
    let name_is = get_or_from_slice_get new place stored.0 [] stored.1 ∙ sym ((same_bytes-Decides name stored.0).0 stored.2) in
    record {
      distinct = distinct;
      within = within;
      name_is = name_is;
      at_place = subst (λ n. position (same_bytes n) new ≡ Some place) name_is (place_of_name new distinct place within);
      more = subst (λ l. length names ≤ length l) (sym put) (length-put_item names among name);
      stays = λ i h. ap (λ l. get_or l i []) put ∙ get_or-put_item names among name i [] h;
    }

-- what becomes of the cases where both names are put among the others, and the place under their key
module _ (ops objects ops' objects' : List (List ℕ)) (op object : List ℕ) (p q : ℕ) (put_op : IsPut ops ops' op p) (put_object : IsPut objects objects' object q)
    (es : List KnownEntry) (held : AreHeld ops objects es) (place : CasePlace) (unknown : place_among (rows_in ops objects es) op object ≡ None)
    (es' : List KnownEntry) (entries : es' ≡ insert_entry same_key es (p, q) place) where
  named_still : All (IsNamed ops' objects') es
  named_still k d h =
      let before = held.named k d h in
      (omega (arith, before.0, put_op.more), omega (arith, before.1, put_object.more))

  still : AreHeld ops' objects' es
  still = record { distinct_ops = put_op.distinct; distinct_objects = put_object.distinct; named = named_still }

  same_rows : rows_in ops' objects' es ≡ rows_in ops objects es
  same_rows =
      map-agrees (row_of ops' objects') (row_of ops objects) es (λ k d h.
      let e = get_or es k d in
      let before = held.named k d h in
      λ i. record { op = put_op.stays e.0.0 before.0 i; object = put_object.stays e.0.1 before.1 i; place = e.1 })

  absent : lookup (same_key (p, q)) es ≡ None
  absent =
      sym (place_of_key ops' objects' es still op object p q put_op.at_place put_object.at_place)
      ∙ ap (λ rows. place_among rows op object) same_rows ∙ unknown

  added : es' ≡ es ++ ((p, q), place) ∷ []
  added = entries ∙ inserted_last (p, q) place es absent

  pub rows_more : rows_in ops' objects' es' ≡ rows_in ops objects es ++ record { op = op; object = object; place = place } ∷ []
  rows_more =
      ap (rows_in ops' objects') added ∙ map-append (row_of ops' objects') es (((p, q), place) ∷ [])
      ∙ (λ i. same_rows i ++ record { op = put_op.name_is i; object = put_object.name_is i; place = place } ∷ [])

  with_last : (fs : List KnownEntry) → AllByRecursion (IsNamed ops' objects') fs → AllByRecursion (IsNamed ops' objects') (fs ++ ((p, q), place) ∷ [])
  with_last [] all = ((put_op.within, put_object.within), tt)
  with_last (e ∷ fs) all = (all.0, with_last fs all.1)

  pub held_more : AreHeld ops' objects' es'
  held_more = record {
    distinct_ops = put_op.distinct;
    distinct_objects = put_object.distinct;
    named = subst (λ fs. All (IsNamed ops' objects') fs) (sym added)
        (All-from_recursion (IsNamed ops' objects') (es ++ ((p, q), place) ∷ []) (with_last es (recursion_from_All (IsNamed ops' objects') es named_still)));
  }

  pub few_more : length es < most_known → length es' ≤ most_known
  few_more few = let count = ap length added ∙ length-append es (((p, q), place) ∷ []) in omega (arith, count, few)
