-- The marks of the entries, from one place on.
use Rattle.std.proofs.Common.{◌≡◌, ◌<◌, ◌≤◌, ◌+◌, ◌-◌, ℕ, List, ◌∷◌, Bool, length, drop, get_or, set, sym, ap, ◌∙◌, arith}
use Rattle.std.proofs.lemmas.List.{drop-map, drop_more, drop-set}
use Rattle.policy_history.specs.declared.events.Entry.{Entry}
use Rattle.policy_history.specs.Events.{entry_tree}
use Rattle.policy_history.specs.Values.{entry_trees}
use Rattle.policy_compaction.specs.Kept.{matters}
use Rattle.policy_compaction.specs.Inner.Marking.{marks_from}

-- an entry that was read, and those behind it
pub drop_entries : (xs : List Entry) (i : ℕ) (x : Entry) → i < length xs → x ≡ get_or xs i x → drop i (entry_trees xs) ≡ entry_tree x ∷ drop (i + 1) (entry_trees xs)
drop_entries xs i x within read =
    drop-map entry_tree i xs ∙ ap entry_trees (drop_more xs i x within) ∙ (λ j. entry_tree (sym read j) ∷ sym (drop-map entry_tree (i + 1) xs) j)

-- the mark of one more, from the last to the first
module _ (xs : List Entry) (n : ℕ) (x : Entry) (some : 0 < n) (within : n ≤ length xs) (read : x ≡ get_or xs (n - 1) x) where
  place : n - 1 + 1 ≡ n
  place = omega (arith, some)

  pub here_on : drop (n - 1) (entry_trees xs) ≡ entry_tree x ∷ drop n (entry_trees xs)
  here_on = drop_entries xs (n - 1) x (omega (arith, some, within)) read ∙ ap (λ k. entry_tree x ∷ drop k (entry_trees xs)) place

  pub marked_on : (marks : List Bool) (mark : Bool) → length marks ≡ length xs → mark ≡ matters (n - 1 + 1) (entry_tree x) (drop n (entry_trees xs))
      → drop n marks ≡ marks_from n (drop n (entry_trees xs))
      → drop (n - 1) (set marks (n - 1) mark) ≡ marks_from (n - 1) (drop (n - 1) (entry_trees xs))
  marked_on marks mark long is rest =
      drop-set marks (n - 1) mark (omega (arith, some, within, long)) ∙ (λ j. is j ∷ (ap (λ k. drop k marks) place ∙ rest ∙ ap (λ k. marks_from k (drop n (entry_trees xs))) (sym place)) j)
      ∙ sym (ap (marks_from (n - 1)) here_on)
