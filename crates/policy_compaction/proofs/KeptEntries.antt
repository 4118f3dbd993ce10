-- An entry that matters is accepted behind what is kept of those before it, and does there what it does in the history.
use Rattle.std.proofs.Common.{◌≡◌, ◌<◌, ◌≤◌, ◌+◌, ◌&&◌, ◌⊎◌, inl, inr, ℕ, Bool, true, false, not, List, [], ◌∷◌, ◌++◌, filter, map, length, nat_eq, nat_le, Option, Some, None, is_none, is_some, option_map, unwrap_or, refl, sym, ap, ◌∙◌, subst, arith}
use Rattle.std.specs.List.{All, find, list_any}
use Rattle.std.specs.Option.{option_and_then}
use Rattle.std.proofs.lemmas.Bool.{cases_lt, le-leb, lt-leb}
use Rattle.std.proofs.lemmas.List.{map-append}
use Rattle.std.proofs.lemmas.List.Folds.{list_any_at}
use Rattle.std.proofs.lemmas.List.Quantifiers.{position-Some}
use Rattle.std.proofs.lemmas.List.Elements.{All-push}
use Rattle.nal_term.specs.Trees.{says}
use Rattle.proof_lines.specs.Lines.{LineTree}
use Rattle.object_table.specs.Objects.{ObjectRow, number_of, owner_of}
use Rattle.proof_store.specs.Cases.{CaseRow, is_case, number_of as case_number}
use Rattle.label_store.specs.LabelRows.{LabelRow, has_number, holder_of}
use Rattle.policy_history.specs.declared.heads.Authority.{Authority}
use Rattle.policy_history.specs.declared.heads.Head.{Head}
use Rattle.policy_history.specs.declared.events.Refusal.TheVariants.{NoSuchPrincipal, NotYourPrincipal, NoSuchLabel, NotHolder, NoSuchObject, NameTaken, NotOwner, BadPort, BadFormula, BadProof, Quota, JournalFull, ObjectsFull, CasesFull}
use Rattle.policy_history.specs.Events.{EntryTree, EventTree, say, transfer, delete, new_object, set_goal, clear_goal, set_proof, clear_proof, bind, unbind, name_of, numbered}
use Rattle.policy_history.specs.Machine.{changed, is_another, is_foreign, is_full, is_goal_formula, is_proof, is_spent, is_stated, is_statement, label_fits, refusal_of}
use Rattle.policy_history.specs.PolicyLines.{entry_line}
use Rattle.policy_history.specs.Rows.{alter}
use Rattle.policy_history.specs.States.{State, case_named, object_or_0, owner_named, tally_of}
use Rattle.policy_history.proofs.ForCallers.{full_of, none_applies, quota_of, some_where}
use Rattle.policy_compaction.specs.Kept.{Numbered, matters, new_number, renumbered}
use Rattle.policy_compaction.specs.Slots.{deletes}
use Rattle.policy_compaction.proofs.CaseCounts.{is_left, left_row}
use Rattle.policy_compaction.proofs.Led.{IsAlike, IsLed, stays}
use Rattle.policy_compaction.proofs.MovedEntries.{entry_of}
use Rattle.policy_compaction.proofs.LeftEntries.{changed_out, left_later, named}
use Rattle.policy_compaction.proofs.LineLengths.{line_shorter}
use Rattle.policy_compaction.proofs.NewNumbers.{new_grows}
use Rattle.policy_compaction.proofs.RenumberedRows.{IsPlaced, IsPlacedRow, alter_renumbered, found_placed, given, holder_renumbered, renumbered_row}
use Rattle.policy_compaction.proofs.RowFilters.{filter_few, find_kept, length-put, more_put, not_all, wider}
use Rattle.policy_compaction.proofs.StayingRows.{given_kept, given_placed, row_stays, said_kept}
use Rattle.policy_compaction.proofs.TallyLists.{most_at, still_fits, still_unspent}

and_false : (a b : Bool) → b ≡ false → (a && b) ≡ false
and_false true b e = e
and_false false b e = refl

left_false : (a b : Bool) → b ≡ true → (a && b) ≡ false → a ≡ false
left_false true b e f = absurd (cc (e, f))
left_false false b e f = refl

not_none : (b : Bool) → not b ≡ true → b ≡ false
not_none true e = absurd (cc e)
not_none false e = refl

module _ (h : Head) (ks : List Numbered) (objects : List ObjectRow) (s t : State) (session p : ℕ) (later : List EntryTree) (n : ℕ)
    (there : (x : List ℕ) (k : ℕ) → number_of s.objects x ≡ Some k → number_of objects x ≡ Some k)
    (counted : s.entries ≡ n) (more : new_number ks (n + 1) ≡ new_number ks n + 1) where
  abbrev rows : List LabelRow
  rows = filter (stays later) s.labels

  -- a label that is said now gets a number of its own
  placed_now : new_number ks n ≤ n → IsPlaced ks (n + 1)
  placed_now low = record {
    low = omega (arith, low, more);
    above = λ j below. let grows = new_grows ks j n (omega (arith, below)) in omega (arith, grows, more);
  }

  -- a label that is given away has one
  placed_label : (k : ℕ) → is_none (holder_of s.labels k) ≡ false → not (list_any (deletes k) later) ≡ true → All (IsPlacedRow ks) rows → IsPlaced ks k
  placed_label k some kept placed = of (find (has_number k) s.labels) refl some
    where
      of : (o : Option LabelRow) → find (has_number k) s.labels ≡ o → is_none (option_map (λ (row : LabelRow). row.1) o) ≡ false → IsPlaced ks k
      of None is some = absurd (cc some)
      of (Some row) is some = found_placed ks k rows row placed (find_kept (stays later) (has_number k) (row_stays later k true kept) s.labels ∙ is)

  -- and the same holder
  same_holder : (k : ℕ) → IsPlaced ks k → not (list_any (deletes k) later) ≡ true → t.labels ≡ map (renumbered_row ks) rows → All (IsPlacedRow ks) rows
      → holder_of t.labels (new_number ks k) ≡ holder_of s.labels k
  same_holder k placed kept labels all =
      ap (λ (xs : List LabelRow). holder_of xs (new_number ks k)) labels ∙ holder_renumbered ks k placed rows all
      ∙ ap (option_map (λ (row : LabelRow). row.1)) (find_kept (stays later) (has_number k) (row_stays later k true kept) s.labels)

  -- ---- What it does

  pub alike_kept : (v : EventTree) → refusal_of h s session p v ≡ None → matters (n + 1) (entry_of session p v) later ≡ true → IsLed ks objects n (entry_of session p v ∷ later) s t
      → IsAlike ks objects later (changed h s p v) (changed h t p (renumbered ks v))
  alike_kept (say (Some a) (Some f)) free kept led =
      let alike = led.alike in
      let row : LabelRow = (s.entries + 1, p, says a f) in
      let number : t.entries + 1 ≡ new_number ks (s.entries + 1) = ap (λ m. m + 1) led.entries ∙ sym more ∙ ap (λ m. new_number ks (m + 1)) (sym counted) in
      let in_place : stays later row ≡ true = rw counted kept in
      let same = said_kept later row s.labels in_place in
      let mapped : map (renumbered_row ks) (rows ++ row ∷ []) ≡ map (renumbered_row ks) rows ++ renumbered_row ks row ∷ [] = map-append (renumbered_row ks) rows (row ∷ []) in
      let added : t.labels ++ (t.entries + 1, p, says a f) ∷ [] ≡ map (renumbered_row ks) rows ++ renumbered_row ks row ∷ [] =
      ap (λ m. t.labels ++ (m, p, says a f) ∷ []) number ∙ ap (λ (xs : List LabelRow). xs ++ renumbered_row ks row ∷ []) alike.labels in
      record {
        objects = alike.objects;
        labels = added ∙ sym mapped ∙ ap (map (renumbered_row ks)) (sym same);
        placed = subst (All (IsPlacedRow ks)) (sym same) (All-push (IsPlacedRow ks) rows row alike.placed (subst (λ m. IsPlaced ks (m + 1)) (sym counted) (placed_now led.low)));
        tallies = alike.tallies;
        bytes = alike.bytes;
        cases = alike.cases;
      }
  alike_kept (transfer k to) free kept led =
      let alike = led.alike in
      let q = unwrap_or (numbered h.principals to) p in
      let placed = placed_label k (none_applies h s session p (transfer k to) free NoSuchLabel) kept alike.placed in
      let same = given_kept later k q s.labels kept in
      record {
        objects = alike.objects;
        labels = ap (alter (has_number (new_number ks k)) (given q)) alike.labels ∙ alter_renumbered ks k q placed rows alike.placed ∙ ap (map (renumbered_row ks)) (sym same);
        placed = subst (All (IsPlacedRow ks)) (sym same) (given_placed ks k q rows alike.placed);
        tallies = alike.tallies;
        bytes = alike.bytes;
        cases = alike.cases;
      }
  alike_kept (new_object x) free kept led =
      let alike = led.alike in
      record { objects = ap (λ (xs : List ObjectRow). xs ++ (x, p) ∷ []) alike.objects; labels = alike.labels; placed = alike.placed; tallies = alike.tallies; bytes = alike.bytes; cases = alike.cases }
  alike_kept (set_proof op x (Some ls)) free kept led =
      let alike = led.alike in
      let e = entry_of session p (set_proof op x (Some ls)) in
      let k = object_or_0 s x in
      let at = named h ks objects s t session p later there x (none_applies h s session p (set_proof op x (Some ls)) free NoSuchObject) in
      let longer = length-put (is_case p op (object_or_0 t x)) (p, op, object_or_0 t x, Some ls) t.cases in
      let some = more_put (is_left objects (e ∷ later)) (is_left objects later) (left_later objects e later) (is_case p op k)
      (λ row is. changed_out objects e later row (rw at is)) (p, op, k, Some ls) s.cases (left_row objects p op x k at (Some ls) later (not_none _ kept)) in
      let had = alike.cases in
      record { objects = alike.objects; labels = alike.labels; placed = alike.placed; tallies = alike.tallies; bytes = alike.bytes; cases = omega (arith, had, some, longer) }
  alike_kept (set_proof op x None) free kept led =
      let alike = led.alike in
      let e = entry_of session p (set_proof op x None) in
      let few = wider (is_left objects (e ∷ later)) (is_left objects later) (left_later objects e later) s.cases in
      let had = alike.cases in
      record { objects = alike.objects; labels = alike.labels; placed = alike.placed; tallies = alike.tallies; bytes = alike.bytes; cases = omega (arith, had, few) }
  alike_kept (say None f) free kept led =
      let alike = led.alike in
      record { objects = alike.objects; labels = alike.labels; placed = alike.placed; tallies = alike.tallies; bytes = alike.bytes; cases = alike.cases }
  alike_kept (say (Some a) None) free kept led =
      let alike = led.alike in
      record { objects = alike.objects; labels = alike.labels; placed = alike.placed; tallies = alike.tallies; bytes = alike.bytes; cases = alike.cases }
  alike_kept (set_goal op x (Some g)) free kept led =
      let alike = led.alike in
      record { objects = alike.objects; labels = alike.labels; placed = alike.placed; tallies = alike.tallies; bytes = alike.bytes; cases = alike.cases }
  alike_kept (set_goal op x None) free kept led =
      let alike = led.alike in
      record { objects = alike.objects; labels = alike.labels; placed = alike.placed; tallies = alike.tallies; bytes = alike.bytes; cases = alike.cases }
  alike_kept (bind (Some a) port) free kept led =
      let alike = led.alike in
      record { objects = alike.objects; labels = alike.labels; placed = alike.placed; tallies = alike.tallies; bytes = alike.bytes; cases = alike.cases }
  alike_kept (bind None port) free kept led = absurd (cc kept)
  alike_kept (delete k) free kept led = absurd (cc kept)
  alike_kept (clear_goal op x) free kept led = absurd (cc kept)
  alike_kept (clear_proof op x) free kept led = absurd (cc kept)
  alike_kept (unbind a) free kept led = absurd (cc kept)

  -- ---- That it is accepted

  -- its line is no longer
  pub line_kept : (v : EventTree) → refusal_of h s session p v ≡ None → matters (n + 1) (entry_of session p v) later ≡ true → IsLed ks objects n (entry_of session p v ∷ later) s t
      → length (entry_line session (name_of h.principals p) (renumbered ks v)) ≤ length (entry_line session (name_of h.principals p) v)
  line_kept (transfer k to) free kept led =
      line_shorter session (name_of h.principals p) to (new_number ks k) k (placed_label k (none_applies h s session p (transfer k to) free NoSuchLabel) kept led.alike.placed).low
  line_kept (say a f) free kept led = omega arith
  line_kept (delete k) free kept led = omega arith
  line_kept (new_object x) free kept led = omega arith
  line_kept (set_goal op x g) free kept led = omega arith
  line_kept (clear_goal op x) free kept led = omega arith
  line_kept (set_proof op x ls) free kept led = omega arith
  line_kept (clear_proof op x) free kept led = omega arith
  line_kept (bind a port) free kept led = omega arith
  line_kept (unbind a) free kept led = omega arith

  -- the quota is kept
  unspent_kept : (v : EventTree) → refusal_of h s session p v ≡ None → matters (n + 1) (entry_of session p v) later ≡ true → IsLed ks objects n (entry_of session p v ∷ later) s t
      → is_spent (tally_of t p) (length (entry_line session (name_of h.principals p) (renumbered ks v))) ≡ false
  unspent_kept v free kept led =
      still_unspent (tally_of t p) (tally_of s p) (length (entry_line session (name_of h.principals p) (renumbered ks v))) (length (entry_line session (name_of h.principals p) v))
      (most_at t.tallies s.tallies p led.alike.tallies) (line_kept v free kept led) (sym (quota_of h s session p v) ∙ none_applies h s session p v free Quota)

  -- there is room for it in the journal
  room_in_journal : (v : EventTree) → refusal_of h s session p v ≡ None → matters (n + 1) (entry_of session p v) later ≡ true → IsLed ks objects n (entry_of session p v ∷ later) s t
      → is_full t (length (entry_line session (name_of h.principals p) (renumbered ks v))) ≡ false
  room_in_journal v free kept led =
      let e = led.entries in
      let low = led.low in
      still_fits t s (length (entry_line session (name_of h.principals p) (renumbered ks v))) (length (entry_line session (name_of h.principals p) v))
      (omega (arith, e, low, counted)) led.alike.bytes (line_kept v free kept led) (sym (full_of h s session p v) ∙ none_applies h s session p v free JournalFull)

  -- what rests on the objects alone is as it was
  by_objects : (test : List ObjectRow → Bool) → t.objects ≡ s.objects → test s.objects ≡ false → test t.objects ≡ false
  by_objects test same e = ap test same ∙ e

  -- there is room for a case
  room_kept : (op x : List ℕ) (ls : Option (List LineTree)) → length s.cases ≤ 262144 → refusal_of h s session p (set_proof op x ls) ≡ None
      → length t.cases ≤ length (filter (is_left objects (entry_of session p (set_proof op x ls) ∷ later)) s.cases) → nat_le 262144 (length t.cases) ≡ false
  room_kept op x ls full free few = lt-leb 262144 (length t.cases) (of (cases_lt (length s.cases) 262144))
    where
      e : EntryTree
      e = entry_of session p (set_proof op x ls)

      some : is_none (number_of s.objects x) ≡ false
      some = none_applies h s session p (set_proof op x ls) free NoSuchObject

      of : (length s.cases < 262144) ⊎ (262144 ≤ length s.cases) → length t.cases < 262144
      of (inl short) = let fewer = filter_few (is_left objects (e ∷ later)) s.cases in omega (arith, few, fewer, short)
      of (inr high) =
          let n = some_where (number_of s.objects x) some in
          let registered : is_none (case_named s p op x) ≡ false = left_false _ _ (le-leb 262144 (length s.cases) high) (none_applies h s session p (set_proof op x ls) free CasesFull) in
          let j = some_where (case_number s.cases p op n.0) (sym (ap (λ (o : Option ℕ). is_none (option_and_then (case_number s.cases p op) o)) n.1) ∙ registered) in
          let d : CaseRow = (0, [], 0, None) in
          let at = position-Some (is_case p op n.0) s.cases j.0 d j.1 in
          let listed = list_any_at (is_case p op n.0) s.cases j.0 d at.0 at.1 in
          let here = there x n.0 n.1 in
          let out : (row : CaseRow) → is_case p op n.0 row ≡ true → is_left objects (e ∷ later) row ≡ false = λ row is. changed_out objects e later row (rw here is) in
          let fewer = not_all (is_left objects (e ∷ later)) (is_left objects later) (left_later objects e later) (is_case p op n.0) out s.cases listed in
          omega (arith, few, fewer, full)

  pub free_kept : (v : EventTree) → length s.cases ≤ 262144
      → refusal_of h s session p v ≡ None → matters (n + 1) (entry_of session p v) later ≡ true → IsLed ks objects n (entry_of session p v ∷ later) s t
      → refusal_of h t session p (renumbered ks v) ≡ None
  free_kept (say a f) full free kept led =
      let none = none_applies h s session p (say a f) free in
      let foreign : is_foreign (name_of h.principals p) a ≡ false = none NotYourPrincipal in
      let bad : not (is_stated a && (is_statement f && label_fits a f)) ≡ false = none BadFormula in
      let spent = unspent_kept (say a f) free kept led in
      let fits = room_in_journal (say a f) free kept led in
      rw (foreign, bad, spent, fits) refl
  free_kept (transfer k to) full free kept led =
      let none = none_applies h s session p (transfer k to) free in
      let unknown : is_none (numbered h.principals to) ≡ false = none NoSuchPrincipal in
      let placed = placed_label k (none NoSuchLabel) kept led.alike.placed in
      let same = same_holder k placed kept led.alike.labels led.alike.placed in
      let missing : is_none (holder_of t.labels (new_number ks k)) ≡ false = ap (λ (o : Option ℕ). is_none o) same ∙ none NoSuchLabel in
      let another : is_another (holder_of t.labels (new_number ks k)) p ≡ false = ap (λ (o : Option ℕ). is_another o p) same ∙ none NotHolder in
      let spent = unspent_kept (transfer k to) free kept led in
      let fits = room_in_journal (transfer k to) free kept led in
      rw (unknown, missing, another, spent, fits) refl
  free_kept (new_object x) full free kept led =
      let none = none_applies h s session p (new_object x) free in
      let taken : is_some (number_of t.objects x) ≡ false = by_objects (λ os. is_some (number_of os x)) led.alike.objects (none NameTaken) in
      let many : nat_le 65536 (length t.objects) ≡ false = by_objects (λ os. nat_le 65536 (length os)) led.alike.objects (none ObjectsFull) in
      let spent = unspent_kept (new_object x) free kept led in
      let fits = room_in_journal (new_object x) free kept led in
      rw (taken, spent, fits, many) refl
  free_kept (set_goal op x g) full free kept led =
      let none = none_applies h s session p (set_goal op x g) free in
      let missing : is_none (number_of t.objects x) ≡ false = by_objects (λ os. is_none (number_of os x)) led.alike.objects (none NoSuchObject) in
      let another : is_another (owner_named t x) p ≡ false = by_objects (λ os. is_another (option_and_then (owner_of os) (number_of os x)) p) led.alike.objects (none NotOwner) in
      let bad : not (is_goal_formula g) ≡ false = none BadFormula in
      let spent = unspent_kept (set_goal op x g) free kept led in
      let fits = room_in_journal (set_goal op x g) free kept led in
      rw (missing, another, bad, spent, fits) refl
  free_kept (set_proof op x ls) full free kept led =
      let none = none_applies h s session p (set_proof op x ls) free in
      let missing : is_none (number_of t.objects x) ≡ false = by_objects (λ os. is_none (number_of os x)) led.alike.objects (none NoSuchObject) in
      let bad : not (is_proof ls) ≡ false = none BadProof in
      let spent = unspent_kept (set_proof op x ls) free kept led in
      let fits = room_in_journal (set_proof op x ls) free kept led in
      let many : (is_none (case_named t p op x) && nat_le 262144 (length t.cases)) ≡ false = and_false (is_none (case_named t p op x)) _ (room_kept op x ls full free led.alike.cases) in
      rw (missing, bad, spent, fits, many) refl
  free_kept (bind a port) full free kept led =
      let none = none_applies h s session p (bind a port) free in
      let foreign : is_foreign (name_of h.principals p) a ≡ false = none NotYourPrincipal in
      let unknown : not (list_any (λ (a : Authority). nat_eq port a.port) h.authorities) ≡ false = none BadPort in
      let bad : not (is_stated a) ≡ false = none BadFormula in
      let spent = unspent_kept (bind a port) free kept led in
      let fits = room_in_journal (bind a port) free kept led in
      rw (foreign, unknown, bad, spent, fits) refl
  free_kept (delete k) full free kept led = absurd (cc kept)
  free_kept (clear_goal op x) full free kept led = absurd (cc kept)
  free_kept (clear_proof op x) full free kept led = absurd (cc kept)
  free_kept (unbind a) full free kept led = absurd (cc kept)
