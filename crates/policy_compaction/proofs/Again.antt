-- A compacted history stays when it is compacted again: each entry of it still matters, and each label has the number that it had.
use Rattle.std.proofs.Common.{◌≡◌, ◌<◌, ◌≤◌, ◌+◌, ◌⊎◌, inl, inr, ℕ, Bool, true, false, not, nat_le, List, [], ◌∷◌, map, length, Option, Some, None, refl, sym, ap, ◌∙◌, arith}
use Rattle.std.specs.List.{list_any}
use Rattle.std.proofs.lemmas.Bool.{cases_lt, le-leb, lt-leb, not-true, or_parts}
use Rattle.std.proofs.lemmas.List.{length-map}
use Rattle.std.proofs.lemmas.List.Filters.{length-filter_both}
use Rattle.policy_history.specs.Events.{EventTree, EntryTree, say, transfer, delete, new_object, set_goal, clear_goal, set_proof, clear_proof, bind, unbind}
use Rattle.policy_compaction.specs.Kept.{Numbered, compacted, kept, kept_from, matters, moved, new_number, renumbered}
use Rattle.policy_compaction.specs.Slots.{SlotTree, label_slot, left_by, undoes}
use Rattle.policy_compaction.proofs.LastKept.{matters_by, matters_not}
use Rattle.policy_compaction.proofs.MovedEntries.{entry_of, undoes_moved}

-- entries with their numbers, that of the first being n + 1
abbrev numbered_from : ℕ → List EntryTree → List Numbered
numbered_from n [] = []
numbered_from n (e ∷ es) = (n + 1, e) ∷ numbered_from (n + 1) es

-- ---- Each entry of it matters

-- an entry that leaves something deletes no label
no_delete : (j k : ℕ) (e : EntryTree) (slot : SlotTree) → left_by k e ≡ Some slot → undoes (label_slot j) e ≡ false
no_delete j k e slot leaves = of e.session e.principal e.event leaves
  where
    of : (session p : ℕ) (v : EventTree) → left_by k (entry_of session p v) ≡ Some slot → undoes (label_slot j) (entry_of session p v) ≡ false
    of session p (delete n) leaves = absurd (cc leaves)
    of session p (say t f) leaves = refl
    of session p (transfer n to) leaves = refl
    of session p (new_object x) leaves = refl
    of session p (set_goal o x g) leaves = refl
    of session p (clear_goal o x) leaves = refl
    of session p (set_proof o x ls) leaves = refl
    of session p (clear_proof o x) leaves = refl
    of session p (bind t port) leaves = refl
    of session p (unbind t) leaves = refl

-- what an entry leaves, it leaves when it is moved; a label under its new number
left_moved : (ks : List Numbered) (k j : ℕ) (e : EntryTree) (slot : SlotTree) → left_by k e ≡ Some slot
    → (left_by j (moved ks (k, e)) ≡ Some slot) ⊎ ((n : ℕ) × (left_by j (moved ks (k, e)) ≡ Some (label_slot n)))
left_moved ks k j e slot leaves = of e.session e.principal e.event leaves
  where
    of : (session p : ℕ) (v : EventTree) → left_by k (entry_of session p v) ≡ Some slot
        → (left_by j (entry_of session p (renumbered ks v)) ≡ Some slot) ⊎ ((n : ℕ) × (left_by j (entry_of session p (renumbered ks v)) ≡ Some (label_slot n)))
    of session p (say t f) leaves = inr (j, refl)
    of session p (transfer n to) leaves = inr (new_number ks n, refl)
    of session p (delete n) leaves = inl leaves
    of session p (new_object x) leaves = inl leaves
    of session p (set_goal o x g) leaves = inl leaves
    of session p (clear_goal o x) leaves = inl leaves
    of session p (set_proof o x ls) leaves = inl leaves
    of session p (clear_proof o x) leaves = inl leaves
    of session p (bind (Some t) port) leaves = inl leaves
    of session p (bind None port) leaves = inl leaves
    of session p (unbind t) leaves = inl leaves

-- an entry that matters leaves something that no later one undoes
record Leaves (k : ℕ) (e : EntryTree) (later : List EntryTree) : Type 0 where
  slot : SlotTree
  leaves : left_by k e ≡ Some slot
  stays : list_any (undoes slot) later ≡ false

leaves_where : (k : ℕ) (e : EntryTree) (later : List EntryTree) → matters k e later ≡ true → Leaves k e later
leaves_where k e later m = of (left_by k e) refl
  where
    of : (o : Option SlotTree) → left_by k e ≡ o → Leaves k e later
    of None is = absurd (cc (sym m ∙ matters_not k e later is))
    of (Some slot) is = record { slot = slot; leaves = is; stays = not-true (list_any (undoes slot) later) (sym (matters_by k e later slot is) ∙ m) }

module _ (ks : List Numbered) where
  abbrev rest : ℕ → List EntryTree → List EntryTree
  rest n es = map (moved ks) (kept_from n es)

  -- what no entry undoes, none of those that are kept does
  not_undone : (slot : SlotTree) (n : ℕ) (es : List EntryTree) → list_any (undoes slot) es ≡ false → list_any (undoes slot) (rest n es) ≡ false
  not_undone slot n [] none = refl
  not_undone slot n (e ∷ es) none = of (matters (n + 1) e es) refl (or_parts (undoes slot e) (list_any (undoes slot) es) none) (not_undone slot (n + 1) es)
    where
      of : (b : Bool) → matters (n + 1) e es ≡ b → (undoes slot e ≡ false) × (list_any (undoes slot) es ≡ false)
          → (list_any (undoes slot) es ≡ false → list_any (undoes slot) (rest (n + 1) es) ≡ false) → list_any (undoes slot) (rest n (e ∷ es)) ≡ false
      of true m parts later = rw (m, undoes_moved slot ks (n + 1, e), parts.0) (later parts.1)
      of false m parts later = rw m (later parts.1)

  -- and none of them deletes a label
  not_deleted : (j n : ℕ) (es : List EntryTree) → list_any (undoes (label_slot j)) (rest n es) ≡ false
  not_deleted j n [] = refl
  not_deleted j n (e ∷ es) = of (matters (n + 1) e es) refl (not_deleted j (n + 1) es)
    where
      of : (b : Bool) → matters (n + 1) e es ≡ b → list_any (undoes (label_slot j)) (rest (n + 1) es) ≡ false → list_any (undoes (label_slot j)) (rest n (e ∷ es)) ≡ false
      of true m later =
          let l = leaves_where (n + 1) e es m in
          rw (m, undoes_moved (label_slot j) ks (n + 1, e), no_delete j (n + 1) e l.slot l.leaves) later
      of false m later = rw m later

  -- so an entry that mattered still does
  still_matters : (n j : ℕ) (e : EntryTree) (es : List EntryTree) → matters (n + 1) e es ≡ true → matters j (moved ks (n + 1, e)) (rest (n + 1) es) ≡ true
  still_matters n j e es m =
      let l = leaves_where (n + 1) e es m in
      of l (left_moved ks (n + 1) j e l.slot l.leaves)
    where
      of : (l : Leaves (n + 1) e es) → (left_by j (moved ks (n + 1, e)) ≡ Some l.slot) ⊎ ((i : ℕ) × (left_by j (moved ks (n + 1, e)) ≡ Some (label_slot i)))
          → matters j (moved ks (n + 1, e)) (rest (n + 1) es) ≡ true
      of l (inl same) = matters_by j (moved ks (n + 1, e)) (rest (n + 1) es) l.slot same ∙ ap not (not_undone l.slot (n + 1) es l.stays)
      of l (inr (i, label)) = matters_by j (moved ks (n + 1, e)) (rest (n + 1) es) (label_slot i) label ∙ ap not (not_deleted i (n + 1) es)

  -- and all that are kept are kept again, whatever number is the first
  kept_whole : (m n : ℕ) (es : List EntryTree) → kept_from m (rest n es) ≡ numbered_from m (rest n es)
  kept_whole m n [] = refl
  kept_whole m n (e ∷ es) = of (matters (n + 1) e es) refl (λ j. kept_whole j (n + 1) es)
    where
      of : (b : Bool) → matters (n + 1) e es ≡ b → ((j : ℕ) → kept_from j (rest (n + 1) es) ≡ numbered_from j (rest (n + 1) es))
          → kept_from m (rest n (e ∷ es)) ≡ numbered_from m (rest n (e ∷ es))
      of true is later = rw (is, still_matters n (m + 1) e es is) (ap (λ (xs : List Numbered). (m + 1, moved ks (n + 1, e)) ∷ xs) (later (m + 1)))
      of false is later = rw is (later m)

-- ---- And has the number that it had

-- an entry behind the first m has a number above m
none_below : (m k : ℕ) (cs : List EntryTree) → k ≤ m → new_number (numbered_from m cs) k ≡ 0
none_below m k [] low = refl
none_below m k (c ∷ cs) low = rw (lt-leb (m + 1) k (omega (arith, low))) (none_below (m + 1) k cs (omega (arith, low)))

-- where all are kept, a label has the number that it had
number_same : (m k : ℕ) (cs : List EntryTree) → m ≤ k → k ≤ m + length cs → m + new_number (numbered_from m cs) k ≡ k
number_same m k [] low high = omega (arith, low, high)
number_same m k (c ∷ cs) low high = of (cases_lt m k) (number_same (m + 1) k cs)
  where
    of : (m < k) ⊎ (k ≤ m) → (m + 1 ≤ k → k ≤ (m + 1) + length cs → (m + 1) + new_number (numbered_from (m + 1) cs) k ≡ k)
        → m + new_number (numbered_from m (c ∷ cs)) k ≡ k
    of (inl some) later =
        let more = later (omega (arith, some)) (omega (arith, high)) in
        rw (le-leb (m + 1) k (omega (arith, some))) (omega (arith, more))
    of (inr none) later = let zero_is = none_below m k (c ∷ cs) none in omega (arith, zero_is, low, none)

module _ (ks ns : List Numbered) (stays : (k : ℕ) → new_number ns (new_number ks k) ≡ new_number ks k) where
  -- numbers that stay are given again
  renumbered_again : (v : EventTree) → renumbered ns (renumbered ks v) ≡ renumbered ks v
  renumbered_again (transfer k to) = ap (λ (n : ℕ). transfer n to) (stays k)
  renumbered_again (say t f) = refl
  renumbered_again (delete n) = refl
  renumbered_again (new_object x) = refl
  renumbered_again (set_goal o x g) = refl
  renumbered_again (clear_goal o x) = refl
  renumbered_again (set_proof o x ls) = refl
  renumbered_again (clear_proof o x) = refl
  renumbered_again (bind t port) = refl
  renumbered_again (unbind t) = refl

  -- and so the entries stay
  moved_again : (m : ℕ) (xs : List Numbered) → map (moved ns) (numbered_from m (map (moved ks) xs)) ≡ map (moved ks) xs
  moved_again m [] = refl
  moved_again m (x ∷ xs) = λ i. record { session = x.1.session; principal = x.1.principal; event = renumbered_again x.1.event i } ∷ moved_again (m + 1) xs i

-- a history that was compacted stays
pub compacted_again : (es : List EntryTree) → compacted (compacted es) ≡ compacted es
compacted_again es = ap (λ (ns : List Numbered). map (moved ns) ns) whole ∙ moved_again (kept es) (numbered_from 0 (compacted es)) stays 0 (kept es)
  where
    whole : kept (compacted es) ≡ numbered_from 0 (compacted es)
    whole = kept_whole (kept es) 0 0 es

    stays : (k : ℕ) → new_number (numbered_from 0 (compacted es)) (new_number (kept es) k) ≡ new_number (kept es) k
    stays k =
        let n = new_number (kept es) k in
        let within = length-filter_both (λ (x : Numbered). nat_le x.0 k) (λ (x : Numbered). not (nat_le x.0 k)) (λ x. refl) (kept es) in
        let long = length-map (kept es) (moved (kept es)) in
        let same = number_same 0 n (compacted es) (omega arith) (omega (arith, within, long)) in
        omega (arith, same)
