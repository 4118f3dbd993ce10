-- What the keys of a store say of its goals: a goal's row stands where the key with its operation's place stands.
use Rattle.std.proofs.Common.{◌≡◌, ℕ, zero, suc, ◌<◌, ◌≤◌, Bool, true, false, List, [], ◌∷◌, ◌++◌, ◌&&◌, map, length, get_or, slice_get, slice_set, Option, Some, None, nat_eq, refl, sym, ap, subst, ◌∙◌, arith, if◌then◌else◌}
use Rattle.std.specs.Cmp.{unsigned_Decides}
use Rattle.std.specs.List.{All, AllByRecursion, position, IsDistinct, remove}
use Rattle.std.specs.Map.{lookup}
use Rattle.std.specs.Option.{option_map, is_some}
use Rattle.std.proofs.lemmas.List.{map-append}
use Rattle.std.proofs.lemmas.List.Elements.{recursion_from_All, All-from_recursion}
use Rattle.std.proofs.lemmas.List.Quantifiers.{position-Some}
use Rattle.std.proofs.lemmas.Option.{slice_get_within, get_or_from_slice_get}
use Rattle.indexmap.specs.IndexMap.{insert_entry}
use Rattle.indexmap.specs.Layout.{set_value_at}
use Rattle.indexmap.proofs.MapLemmas.{Found-position, Missing-position, insert_entry-first, insert_entry-absent}
use Rattle.nal_term.specs.declared.formulas.Formula.{Formula}
use Rattle.nal_term.specs.Trees.{formula_tree}
use Rattle.nal_term.specs.TreeKeys.{same_bytes, same_bytes-Decides}
use Rattle.nal_term.proofs.ForCallers.{keys_in, position_agrees, find_agrees, find_of_none, map-agrees, map-map, map-remove, All-remove, same_place, other_name, place_of_name, put_item, length-put_item, get_or-put_item}
use Rattle.goal_store.specs.GoalRows.{GoalRow, goal_row, is_goal, goal_place, goal_of}
use Rattle.goal_store.specs.Held.{Entry, held_goal}
use Rattle.goal_store.specs.Inner.Places.{HasPlaces, AreHeld}

-- a key: the place of the operation, and the object
abbrev pub Key : Type 0
Key = ℕ × ℕ

abbrev pub same_key : Key → Key → Bool
same_key k l = nat_eq k.0 l.0 && nat_eq k.1 l.1

-- the row of an entry
abbrev pub row_of : List (List ℕ) → Entry → GoalRow
row_of ops e = goal_row (held_goal ops e)

abbrev pub rows_in : List (List ℕ) → List Entry → List GoalRow
rows_in ops es = map goal_row (map (held_goal ops) es)

pub rows_are : (ops : List (List ℕ)) (es : List Entry) → rows_in ops es ≡ map (row_of ops) es
rows_are ops es = map-map goal_row (held_goal ops) es

first_of : (a b : Bool) → (a && b) ≡ true → a ≡ true
first_of true b e = refl
first_of false b e = e

second_of : (a b : Bool) → (a && b) ≡ true → b ≡ true
second_of true b e = e
second_of false b e = absurd (cc e)

same_keys_are : (k l : Key) → same_key k l ≡ true → l ≡ k
same_keys_are k l e =
    let a = (unsigned_Decides k.0 l.0).0 (first_of (nat_eq k.0 l.0) (nat_eq k.1 l.1) e) in
    let b = (unsigned_Decides k.1 l.1).0 (second_of (nat_eq k.0 l.0) (nat_eq k.1 l.1) e) in
    λ i. (sym a i, sym b i)

-- a new value at a key is a new row in its place
pub map-set_value_at : {K X R : Type 0} (f : K × X → R) (es : List (K × X)) (i : ℕ) (k : K) (w : X) → f (get_or (keys_in es) i k, w) ≡ f (k, w) → map f (set_value_at es i w) ≡ slice_set (map f es) i (f (k, w))
map-set_value_at f [] i k w at = refl
map-set_value_at f (e ∷ es) zero k w at = λ j. at j ∷ map f es
map-set_value_at f (e ∷ es) (suc i) k w at = ap (λ l. f e ∷ l) (map-set_value_at f es i k w at)

module _ (ops : List (List ℕ)) (distinct : IsDistinct same_bytes ops) (es : List Entry) (places : HasPlaces ops es) (op : List ℕ) (object : ℕ) where
  module _ (p : ℕ) (at : position (same_bytes op) ops ≡ Some p) where
    agrees : All (λ e. is_goal op object (row_of ops e) ≡ same_key (p, object) e.0) es
    agrees k d within = let e = get_or es k d in ap (λ b. b && nat_eq object e.0.1) (same_place ops distinct op p e.0.0 at (places k d within))

    -- the place of a goal, where the operation has a place
    pub goal_place_of_key : goal_place (rows_in ops es) op object ≡ position (same_key (p, object)) (keys_in es)
    goal_place_of_key = ap (λ rs. goal_place rs op object) (rows_are ops es) ∙ position_agrees (row_of ops) (is_goal op object) (same_key (p, object)) es agrees

    -- and the goal
    pub goal_of_key : goal_of (rows_in ops es) op object ≡ option_map formula_tree (lookup (same_key (p, object)) es)
    goal_of_key =
        ap (λ rs. goal_of rs op object) (rows_are ops es)
        ∙ find_agrees (row_of ops) (is_goal op object) (same_key (p, object)) (λ (row : GoalRow). row.2) formula_tree (λ e. refl) es agrees

  -- there is none where it has no place
  module _ (none : position (same_bytes op) ops ≡ None) where
    never : All (λ e. is_goal op object (row_of ops e) ≡ false) es
    never k d within = let e = get_or es k d in ap (λ b. b && nat_eq object e.0.1) (other_name ops op e.0.0 none (places k d within))

    pub goal_of_unknown : goal_of (rows_in ops es) op object ≡ None
    goal_of_unknown =
        ap (λ rs. goal_of rs op object) (rows_are ops es)
        ∙ ap (option_map (λ (row : GoalRow). row.2)) (find_of_none (row_of ops) (is_goal op object) es never)

-- a map of an option is there where the option is
pub is_some-option_map : {A B : Type 0} (f : A → B) (o : Option A) → is_some (option_map f o) ≡ is_some o
is_some-option_map f None = refl
is_some-option_map f (Some x) = refl

-- what is left when one goes
pub held-remove : (ops : List (List ℕ)) (es : List Entry) (i : ℕ) → AreHeld ops es → AreHeld ops (remove es i)
held-remove ops es i held = record { distinct = held.distinct; places = All-remove (λ (e : Entry). e.0.0 < length ops) es i held.places }

pub rows-remove : (ops : List (List ℕ)) (es : List Entry) (i : ℕ) → rows_in ops (remove es i) ≡ remove (rows_in ops es) i
rows-remove ops es i = rows_are ops (remove es i) ∙ map-remove (row_of ops) es i ∙ ap (λ rs. remove rs i) (sym (rows_are ops es))

-- what `set` makes of the goals: the operation is put among the names, and the goal at its key
module _ (ops ops' : List (List ℕ)) (among : Bool) (op : List ℕ) (put : ops' ≡ put_item ops among op) (distinct : IsDistinct same_bytes ops')
    (es : List Entry) (places : HasPlaces ops es) (object p : ℕ) (stored : (k : List ℕ) × (slice_get ops' p ≡ Some k) × (same_bytes op k ≡ true)) (goal : Formula)
    (es' : List Entry) (entries : es' ≡ insert_entry same_key es (p, object) goal) where
  abbrev key : Key
  key = (p, object)

  abbrev new_row : GoalRow
  new_row = (op, object, formula_tree goal)

  within : p < length ops'
  within = slice_get_within ops' p stored.0 stored.1

  name_is : get_or ops' p [] ≡ op
  name_is = get_or_from_slice_get ops' p stored.0 [] stored.1 ∙ sym ((same_bytes-Decides op stored.0).0 stored.2)

  at_place : position (same_bytes op) ops' ≡ Some p
  at_place = subst (λ n. position (same_bytes n) ops' ≡ Some p) name_is (place_of_name ops' distinct p within)

  more : length ops ≤ length ops'
  more = subst (λ l. length ops ≤ length l) (sym put) (length-put_item ops among op)

  stays : (q : ℕ) → q < length ops → get_or ops' q [] ≡ get_or ops q []
  stays q h = ap (λ l. get_or l q []) put ∙ get_or-put_item ops among op q [] h

  places_still : HasPlaces ops' es
  places_still k d h = let before = places k d h in omega (arith, before, more)

  same_rows : rows_in ops' es ≡ rows_in ops es
  same_rows =
      rows_are ops' es
      ∙ map-agrees (row_of ops') (row_of ops) es (λ k d h. let e = get_or es k d in ap (λ n. (n, e.0.1, formula_tree e.1)) (stays e.0.0 (places k d h)))
      ∙ sym (rows_are ops es)

  place : goal_place (rows_in ops es) op object ≡ position (same_key key) (keys_in es)
  place = ap (λ rs. goal_place rs op object) (sym same_rows) ∙ goal_place_of_key ops' distinct es places_still op object p at_place

  rows-append : rows_in ops' (es ++ (key, goal) ∷ []) ≡ rows_in ops es ++ new_row ∷ []
  rows-append =
      ap (map goal_row) (map-append (held_goal ops') es ((key, goal) ∷ []))
      ∙ map-append goal_row (map (held_goal ops') es) (held_goal ops' (key, goal) ∷ [])
      ∙ (λ i. same_rows i ++ (name_is i, object, formula_tree goal) ∷ [])

  pub set_known : (k : ℕ) → goal_place (rows_in ops es) op object ≡ Some k → rows_in ops' es' ≡ slice_set (rows_in ops es) k new_row
  set_known k n =
      let at_key = sym place ∙ n in
      let found = Found-position (same_key key) es k at_key in
      let key_is = same_keys_are key (get_or (keys_in es) k key) (position-Some (same_key key) (keys_in es) k key at_key).1 in
      ap (rows_in ops') (entries ∙ insert_entry-first same_key key goal es k found.first)
      ∙ rows_are ops' (set_value_at es k goal)
      ∙ map-set_value_at (row_of ops') es k key goal (ap (λ l. row_of ops' (l, goal)) key_is)
      ∙ (λ i. slice_set ((sym (rows_are ops' es) ∙ same_rows) i) k (name_is i, object, formula_tree goal))

  pub set_fresh : goal_place (rows_in ops es) op object ≡ None → rows_in ops' es' ≡ rows_in ops es ++ new_row ∷ []
  set_fresh n =
      let missing = Missing-position (same_key key) es (sym place ∙ n) in
      ap (rows_in ops') (entries ∙ insert_entry-absent same_key key goal es missing.absent) ∙ rows-append

  abbrev IsPlaced : Entry → Type 0
  IsPlaced e = e.0.0 < length ops'

  puts : (fs : List Entry) → AllByRecursion IsPlaced fs → AllByRecursion IsPlaced (insert_entry same_key fs key goal)
  puts [] h = (within, tt)
  puts (e ∷ fs) h = by (same_key key e.0) (puts fs h.1)
    where
      by : (c : Bool) → AllByRecursion IsPlaced (insert_entry same_key fs key goal) → AllByRecursion IsPlaced (if c then (e.0, goal) ∷ fs else e ∷ insert_entry same_key fs key goal)
      by true rest = (h.0, h.1)
      by false rest = (h.0, rest)

  pub set_held : AreHeld ops' es'
  set_held = record {
    distinct = distinct;
    places = subst (HasPlaces ops') (sym entries) (All-from_recursion IsPlaced (insert_entry same_key es key goal) (puts es (recursion_from_All IsPlaced es places_still)));
  }
