-- What always holds of what a store keeps: its formulas, each once; its rows; and how many labels each principal holds of each formula.
use Rattle.std.specs.Prelude.{◌≡◌, ℕ, ◌<◌, ◌≤◌, ◌+◌, ◌&&◌, ◌⊎◌, Bool, true, false, List, Option, Some, length, map, filter, slice_get, nat_eq, unwrap_or}
use Rattle.std.specs.List.{All, IsDistinct, position, find}
use Rattle.std.specs.Option.{option_map}
use Rattle.indexmap.specs.IndexMap.{IndexMap, get, index_map_len, spare}
use Rattle.nal_term.specs.declared.formulas.Formula.{Formula}
use Rattle.nal_term.specs.Trees.{formula_tree}
use Rattle.nal_term.specs.TreeKeys.{same_formulas}
use Rattle.label_store.specs.declared.rows.Holding.{Holding}
use Rattle.label_store.specs.Held.{Entry, live_entries}

-- what is left in the place of an entry that is gone
abbrev pub hole : Holding → Holding
hole w = record { holder = w.holder; place = w.place; live = false }

-- the same entries, or those without the holes
abbrev pub IsTidied : List Entry → List Entry → Type 0
IsTidied old new = (new ≡ old) ⊎ (new ≡ live_entries old)

-- this holding stands at an index, under this number, and is no hole
pub record IsRowOf (es : List Entry) (number index : ℕ) (w : Holding) : Type 0 where
  pub at : position (nat_eq number) (map (λ (e : Entry). e.0) es) ≡ Some index
  pub value : slice_get (map (λ (e : Entry). e.1) es) index ≡ Some w
  pub live : w.live ≡ true

-- the holder of the entry with this number
abbrev pub holder_in : List Entry → ℕ → Option ℕ
holder_in es number = option_map (λ (e : Entry). e.1.holder) (find (λ (e : Entry). nat_eq number e.0) (live_entries es))

abbrev pub same_label : Formula → Formula → Bool
same_label f g = same_formulas (formula_tree f) (formula_tree g)

-- each entry's formula is one of those kept
abbrev pub HasPlaces : List Formula → List Entry → Type 0
HasPlaces formulas es = All (λ (e : Entry). e.1.place < length formulas) es

-- each formula stands once, and each entry's formula is one of them
pub record AreHeld (formulas : List Formula) (es : List Entry) : Type 0 where
  pub distinct : IsDistinct same_label formulas
  pub places : HasPlaces formulas es

-- a principal, and the place of a formula
abbrev pub Key : Type 0
Key = ℕ × ℕ

abbrev pub same_key : Key → Key → Bool
same_key k l = nat_eq k.0 l.0 && nat_eq k.1 l.1

-- the entry is a label of this principal with this formula
abbrev pub has_key : Key → Entry → Bool
has_key k e = e.1.live && same_key k (e.1.holder, e.1.place)

-- how many of the entries are
abbrev pub counted : List Entry → Key → ℕ
counted es k = length (filter (has_key k) es)

module _ {S : Type 0} where
  -- the number that is kept for a principal and a formula, 0 where none is
  abbrev pub count_of : IndexMap Key ℕ S → Key → ℕ
  count_of counts k = unwrap_or (get same_key counts k) 0

  -- the numbers that are kept are those of the entries, and there is memory for a number for each entry
  pub record AreCounted (counts : IndexMap Key ℕ S) (es : List Entry) : Type 0 where
    pub numbers : (k : Key) → count_of counts k ≡ counted es k
    pub room : length es ≤ index_map_len counts + spare counts
