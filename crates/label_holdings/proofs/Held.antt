-- The labels that a principal holds, among the rows of a legal list.
use Rattle.std.proofs.Common.{◌≡◌, ◌<◌, ◌≤◌, ◌+◌, ◌⊎◌, inl, inr, ℕ, suc, List, [], ◌∷◌, length, Contains, Bool, true, false, nat_eq, Option, Some, None, option_map, refl, sym, ap, ◌∙◌, subst, arith, add-one, subst₂}
use Rattle.std.proofs.lemmas.Bool.{cases_lt}
use Rattle.std.specs.Cmp.{unsigned_Decides}
use Rattle.std.specs.List.{find, slice_get}
use Rattle.std.proofs.lemmas.Option.{get_or_from_slice_get, slice_get-get_or, slice_get_within}
use Rattle.nal_term.specs.Trees.{FormulaTree}
use Rattle.nal_term.specs.TreeKeys.{same_formulas, same_formulas-Decides}
use Rattle.label_store.specs.LabelRows.{LabelRow, has_number, is_held}
use Rattle.policy_history.specs.declared.heads.Head.{Head}
use Rattle.policy_history.specs.Events.{EntryTree}
use Rattle.policy_history.specs.Machine.{IsLegal, replay}
use Rattle.label_holdings.specs.declared.holdings.Holding.{Holding}
use Rattle.label_holdings.specs.declared.label_tenures.Tenure.{Tenure}
use Rattle.label_holdings.specs.Entries.{entry_at}
use Rattle.label_holdings.specs.Holdings.{IsHeldBy, label_of}
use Rattle.label_holdings.specs.Tenures.{IsReceivedBy, IsTenure}
use Rattle.label_holdings.proofs.Places.{entry_within, found_at, some_same}
use Rattle.label_holdings.proofs.Rows.{IsFrom, row_at, same_number}
use Rattle.label_holdings.proofs.Sound.{sound_all}

-- ---- Where no row is of this holder and this formula

module _ (p : ℕ) (f : FormulaTree) where
  unheld : (rows : List LabelRow) → ((k j : ℕ) → slice_get rows k ≡ Some (j, p, f) → ⊥) → is_held rows p f ≡ false
  unheld [] never = refl
  unheld (row ∷ rows) never = of (nat_eq p row.1) refl (same_formulas f row.2) refl (unheld rows (λ k j at. never (suc k) j at))
    where
      of : (a : Bool) → nat_eq p row.1 ≡ a → (b : Bool) → same_formulas f row.2 ≡ b → is_held rows p f ≡ false → is_held (row ∷ rows) p f ≡ false
      of true s true t later =
          let holder = (unsigned_Decides p row.1).0 s in
          let formula = (same_formulas-Decides f row.2).0 t in
          absurd (never 0 row.0 (λ i. Some (row.0, sym holder i, sym formula i)))
      of true s false t later = rw (s, t) later
      of false s b t later = rw s later

contains_at : (rows : List LabelRow) (k : ℕ) (row : LabelRow) → slice_get rows k ≡ Some row → Contains rows row
contains_at rows k row at = (k, slice_get_within rows k row at, get_or_from_slice_get rows k row row at)

at_contains : (rows : List LabelRow) (row : LabelRow) → Contains rows row → (k : ℕ) × (slice_get rows k ≡ Some row)
at_contains rows row (k, within, is) = (k, slice_get-get_or rows k row within ∙ ap Some is)

-- no label of a number below this one is of this holder and this formula
abbrev pub NoneBelow : Head → List EntryTree → ℕ → FormulaTree → ℕ → Type 0
NoneBelow h es p f n = (j : ℕ) → j < n → ¬ Contains (replay h es).labels (j, p, f)

-- ---- In a legal list

module _ (h : Head) (es : List EntryTree) (legal : IsLegal h es) (p : ℕ) (f : FormulaTree) where
  abbrev rows : List LabelRow
  rows = (replay h es).labels

  abbrev IsClear : ℕ → Type 0
  IsClear n = NoneBelow h es p f n

  row_of : (j : ℕ) → Contains rows (j, p, f) → (0 < j) × IsFrom es (j, p, f) × (find (has_number j) rows ≡ Some (j, p, f))
  row_of j there = let at = at_contains rows (j, p, f) there in row_at es 0 rows at.0 (j, p, f) (sound_all h es legal).rows at.1

  pub none_first : IsClear 1
  none_first = λ j low there. let r = row_of j there in absurd (omega (arith, low, r.0))

  pub none_at_all : IsClear (length es + 1) → is_held rows p f ≡ false
  none_at_all below = unheld p f rows (λ k j at. never j (contains_at rows k (j, p, f) at))
    where
      never : (j : ℕ) → Contains rows (j, p, f) → ⊥
      never j there = let r = (row_of j there).1 in let within = entry_within es j r.entry r.stands in below j (omega (arith, within.1)) there

  module _ (n : ℕ) (e : EntryTree) (t : Tenure) (at : slice_get es n ≡ Some e) (is : IsTenure h es (n + 1) t) where
    numbered_at : entry_at es (n + 1) ≡ Some e
    numbered_at = rw add-one at

    -- a row of this number is what the entry said, and of its holder
    row_tells : Contains rows (n + 1, p, f) → (t.holder ≡ Some p) × (label_of e.event ≡ Some f)
    row_tells there =
        let r = row_of (n + 1) there in
        let same : r.1.entry ≡ e = some_same (sym r.1.stands ∙ numbered_at) in
        (is.holder ∙ ap (option_map (λ (row : LabelRow). row.1)) r.2, subst (λ (x : EntryTree). label_of x.event ≡ Some f) same r.1.said)

    pub none_more : IsClear (n + 1) → ((t.holder ≡ Some p) → (label_of e.event ≡ Some f) → ⊥) → IsClear (n + 1 + 1)
    none_more below never j low there = of (cases_lt j (n + 1))
      where
        of : (j < n + 1) ⊎ (n + 1 ≤ j) → ⊥
        of (inl lower) = below j lower there
        of (inr high) =
            let same : j ≡ n + 1 = omega (arith, low, high) in
            let tells = row_tells (subst (λ m. Contains rows (m, p, f)) same there) in
            never tells.0 tells.1

    held_row : t.holder ≡ Some p → label_of e.event ≡ Some f → Contains rows (n + 1, p, f)
    held_row holds says = of (find (has_number (n + 1)) rows) refl (sym is.holder ∙ holds)
      where
        of : (o : Option LabelRow) → find (has_number (n + 1)) rows ≡ o → option_map (λ (row : LabelRow). row.1) (find (has_number (n + 1)) rows) ≡ Some p → Contains rows (n + 1, p, f)
        of None found holder = absurd (cc (rw found at holder))
        of (Some row) found holder =
            let there = found_at (has_number (n + 1)) rows row found in
            let number = same_number (n + 1) row there.2 in
            let r = (row_at es 0 rows there.0 row (sound_all h es legal).rows there.1).1 in
            let here : entry_at es row.0 ≡ Some e = subst (λ m. entry_at es m ≡ Some e) number numbered_at in
            let entry : r.entry ≡ e = some_same (sym r.stands ∙ here) in
            let formula : row.2 ≡ f = some_same (sym r.said ∙ ap (λ (x : EntryTree). label_of x.event) entry ∙ says) in
            let holder_is : row.1 ≡ p = some_same (rw found at holder) in
            let same : row ≡ (n + 1, p, f) = λ i. (sym number i, holder_is i, formula i) in
            contains_at rows there.0 (n + 1, p, f) (there.1 ∙ ap Some same)

    pub held_by : (by : Holding) → by.said ≡ n + 1 → by.received ≡ t.received → t.holder ≡ Some p → label_of e.event ≡ Some f → IsClear (n + 1) → IsHeldBy h es p f by
    held_by by number since holds says below = record {
      entry = e;
      stands = subst (λ m. entry_at es m ≡ Some e) (sym number) numbered_at;
      said = says;
      held = subst (λ m. Contains rows (m, p, f)) (sym number) (held_row holds says);
      lowest = subst IsClear (sym number) below;
      received = subst₂ (λ m r. IsReceivedBy h es m p r) (sym number) (sym since) (is.received p holds);
    }
