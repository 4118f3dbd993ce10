-- The entry that is read at a number.
use Rattle.std.proofs.Common.{◌≡◌, ◌<◌, ◌≤◌, ◌+◌, ◌-◌, ⊎_elim, ℕ, zero, suc, Bool, true, false, List, length, get_or, Some, refl, sym, ap, ◌∙◌, arith}
use Rattle.std.specs.Option.{option_map}
use Rattle.std.proofs.lemmas.Bool.{cases_lt}
use Rattle.std.proofs.lemmas.Option.{slice_get-map, slice_get_read}
use Rattle.policy_history.specs.declared.events.Entry.{Entry}
use Rattle.policy_history.specs.Events.{EntryTree, entry_tree}
use Rattle.policy_history.specs.Values.{entry_trees}
use Rattle.label_holdings.specs.Entries.{IsLast, entry_at}

same_entry : {a b : EntryTree} → Some a ≡ Some b → a ≡ b
same_entry s = cc

module _ (xs : List Entry) (n : ℕ) (x : Entry) (some : 0 < n) (within : n ≤ length xs) (read : x ≡ get_or xs (n - 1) x) where
  pub entry_here : entry_at (entry_trees xs) n ≡ Some (entry_tree x)
  entry_here = of n some within read
    where
      of : (n : ℕ) → 0 < n → n ≤ length xs → x ≡ get_or xs (n - 1) x → entry_at (entry_trees xs) n ≡ Some (entry_tree x)
      of zero some within read = absurd (omega (arith, some))
      of (suc i) some within read =
          let place : suc i - 1 ≡ i = omega arith in
          slice_get-map entry_tree xs i ∙ ap (option_map entry_tree) (slice_get_read xs (length xs) i x refl (omega (arith, within)) (read ∙ ap (λ (j : ℕ). get_or xs j x) place))

  module _ (passes : EntryTree → Bool) (later : (m : ℕ) (e : EntryTree) → n < m → entry_at (entry_trees xs) m ≡ Some e → passes e ≡ false) where
    -- one that passes is the last
    pub last_here : passes (entry_tree x) ≡ true → IsLast passes (entry_trees xs) (n - 1 + 1) (entry_tree x)
    last_here passing =
        let number : n - 1 + 1 ≡ n = omega (arith, some) in
        record { stands = ap (entry_at (entry_trees xs)) number ∙ entry_here; passing = passing; later = λ m other above stands. later m other (omega (arith, above, number)) stands }

    -- where it does not, none from here on does
    pub none_from : passes (entry_tree x) ≡ false → (m : ℕ) (e : EntryTree) → n - 1 < m → entry_at (entry_trees xs) m ≡ Some e → passes e ≡ false
    none_from fails m e above stands = ⊎_elim (λ (high : n < m). later m e high stands) (λ (low : m ≤ n). here (omega (arith, low, above, some))) (cases_lt n m)
      where
        here : m ≡ n → passes e ≡ false
        here same = ap passes (same_entry (sym stands ∙ ap (entry_at (entry_trees xs)) same ∙ entry_here)) ∙ fails
