-- What a store keeps of its labels: for each its number, its holder and the place of its formula, or a hole where the label is gone.
use Rattle.std.specs.Prelude.{ℕ, ◌&&◌, Bool, List, map, drop, filter, slice_index_or, nat_eq}
use Rattle.nal_term.specs.declared.formulas.Formula.{Formula}
use Rattle.nal_term.specs.declared.formulas.Formula.TheVariants.{True}
use Rattle.label_store.specs.declared.rows.Holding.{Holding}
use Rattle.label_store.specs.LabelRows.{HeldLabel}

-- a number, and its holder and place
abbrev pub Entry : Type 0
Entry = ℕ × Holding

-- the entries without the holes
abbrev pub live_entries : List Entry → List Entry
live_entries es = filter (λ (e : Entry). e.1.live) es

-- the label that an entry stands for
abbrev pub held_label : List Formula → Entry → HeldLabel
held_label formulas e = (e.0, e.1.holder, slice_index_or formulas e.1.place True)

-- whether the entry is a label of this principal
abbrev pub is_holders : ℕ → Entry → Bool
is_holders holder e = e.1.live && nat_eq holder e.1.holder

-- the entries of a principal, from an index on
abbrev pub held_from : List Entry → ℕ → ℕ → List Entry
held_from es holder i = filter (is_holders holder) (drop i es)

-- and their labels
abbrev pub labels_from : List Formula → List Entry → ℕ → ℕ → List Formula
labels_from formulas es holder i = map (λ (e : Entry). slice_index_or formulas e.1.place True) (held_from es holder i)
