-- What one accepted entry makes of the tenure of a label.
use Rattle.std.proofs.Common.{◌≡◌, ◌<◌, ◌≤◌, ◌+◌, ◌⊎◌, inl, inr, ℕ, List, [], ◌∷◌, ◌++◌, length, Bool, true, false, not, nat_eq, Option, Some, None, option_map, unwrap_or, refl, sym, ap, ◌∙◌, subst, arith, length-append}
use Rattle.std.specs.Cmp.{unsigned_Decides}
use Rattle.std.specs.List.{find}
use Rattle.nal_term.specs.Trees.{FormulaTree, says}
use Rattle.label_store.specs.LabelRows.{LabelRow, has_number, holder_of}
use Rattle.policy_history.specs.declared.heads.Head.{Head}
use Rattle.policy_history.specs.Events.{EntryTree, transfer, delete, numbered}
use Rattle.policy_history.specs.Machine.{IsAccepted, replay}
use Rattle.policy_history.specs.Rows.{alter, take_out}
use Rattle.policy_history.proofs.ForCallers.{find_alter, find_take_out}
use Rattle.label_holdings.specs.declared.label_tenures.Tenure.{Tenure}
use Rattle.label_holdings.specs.Entries.{entry_at}
use Rattle.label_holdings.specs.Holdings.{label_of}
use Rattle.label_holdings.specs.Tenures.{IsReceivedBy, IsTenure, hands_over}
use Rattle.label_holdings.proofs.EventKinds.{Kind, kind_of, said, gives, deletes, other, handed, hands, not_true}
use Rattle.label_holdings.proofs.Places.{entry_cases, entry_last, entry_more, entry_within, some_same}
use Rattle.label_holdings.proofs.Rows.{found_given, found_last, found_past, none_above, none_deleted, number_passes, other_number, rows_deleted, rows_given, same_number}
use Rattle.label_holdings.proofs.Sound.{IsHolding, IsSound, given_below, given_held, labels_after, sound_more}

abbrev holder_in : Option LabelRow → Option ℕ
holder_in o = option_map (λ (row : LabelRow). row.1) o

module _ (h : Head) (es : List EntryTree) (e : EntryTree) (accepted : IsAccepted h (replay h es) e) where
  abbrev rows : List LabelRow
  rows = (replay h es).labels

  abbrev later : List EntryTree
  later = es ++ e ∷ []

  -- ---- By which entry a label came to its holder

  received_kept : (k p m : ℕ) → hands_over h k p e ≡ false → IsReceivedBy h es k p m → IsReceivedBy h later k p m
  received_kept k p m quiet (inl (x, last)) = inl (x, record { stands = entry_more es m e x last.stands; passing = last.passing; later = behind })
    where
      behind : (j : ℕ) (y : EntryTree) → m < j → entry_at later j ≡ Some y → hands_over h k p y ≡ false
      behind j y low at = of (entry_cases es j e y at)
        where
          of : (entry_at es j ≡ Some y) ⊎ ((j ≡ length es + 1) × (e ≡ y)) → hands_over h k p y ≡ false
          of (inl here) = last.later j y low here
          of (inr (end, same)) = subst (λ z. hands_over h k p z ≡ false) same quiet
  received_kept k p m quiet (inr (own, none)) = inr (own, λ j y at. of j y (entry_cases es j e y at))
    where
      of : (j : ℕ) (y : EntryTree) → (entry_at es j ≡ Some y) ⊎ ((j ≡ length es + 1) × (e ≡ y)) → hands_over h k p y ≡ false
      of j y (inl here) = none j y here
      of j y (inr (end, same)) = subst (λ z. hands_over h k p z ≡ false) same quiet

  received_now : (k p : ℕ) → hands_over h k p e ≡ true → IsReceivedBy h later k p (length es + 1)
  received_now k p passes = inl (e, record { stands = entry_last es e; passing = passes; later = behind })
    where
      behind : (j : ℕ) (y : EntryTree) → length es + 1 < j → entry_at later j ≡ Some y → hands_over h k p y ≡ false
      behind j y low at = let within = entry_within later j y at in let long = length-append es (e ∷ []) in absurd (omega (arith, low, within.1, long))

  -- ---- A label that the entry leaves

  quiet_of : (k p : ℕ) → ((to : List ℕ) → e.event ≡ transfer k to → ⊥) → hands_over h k p e ≡ false
  quiet_of k p apart = not_true (hands_over h k p e) (λ passes. let g = handed h k p e passes in apart g.0 g.1)

  found_kept : (k : ℕ) → k ≤ length es → IsSound h es → ((to : List ℕ) → e.event ≡ transfer k to → ⊥) → (e.event ≡ delete k → ⊥) → Kind e.event
      → find (has_number k) (replay h later).labels ≡ find (has_number k) rows
  found_kept k within sound given deleted (said t f is) =
      let row : LabelRow = ((replay h es).entries + 1, e.principal, says t f) in
      let count = sound.entries in
      ap (find (has_number k)) (labels_after h es e accepted _ is) ∙ found_past k row rows (other_number k row (λ same. absurd (omega (arith, within, same, count))))
  found_kept k within sound given deleted (gives j to is) =
      let f : LabelRow → LabelRow = λ (row : LabelRow). (row.0, unwrap_or (numbered h.principals to) e.principal, row.2) in
      let apart : (row : LabelRow) → has_number j row ≡ true → has_number k row ≡ false =
      λ row there. other_number k row (λ same. given to (is ∙ ap (λ n. transfer n to) (same_number j row there ∙ sym same))) in
      ap (find (has_number k)) (labels_after h es e accepted _ is) ∙ find_alter (has_number k) (has_number j) f rows apart apart
  found_kept k within sound given deleted (deletes j is) =
      ap (find (has_number k)) (labels_after h es e accepted _ is)
      ∙ find_take_out (has_number k) (has_number j) rows (λ row there. other_number k row (λ same. deleted (is ∙ ap delete (same_number j row there ∙ sym same))))
  found_kept k within sound given deleted (other o) =
      ap (find (has_number k)) (labels_after h es e accepted e.event refl ∙ o.labels h (replay h es) e.principal)

  pub tenure_left : (k : ℕ) (t : Tenure) → k ≤ length es → IsSound h es → ((to : List ℕ) → e.event ≡ transfer k to → ⊥) → (e.event ≡ delete k → ⊥) → IsTenure h es k t → IsTenure h later k t
  tenure_left k t within sound given deleted is = record {
    holder = is.holder ∙ ap holder_in (sym (found_kept k within sound given deleted (kind_of e.event)));
    received = λ p held. received_kept k p t.received (quiet_of k p given) (is.received p held);
  }

  -- ---- A label that it gives away, deletes or says

  pub tenure_given : (k q : ℕ) (to : List ℕ) (t new : Tenure) → e.event ≡ transfer k to → numbered h.principals to ≡ Some q → IsTenure h es k t → new.holder ≡ Some q
      → (q ≡ e.principal → new.received ≡ t.received) → ((q ≡ e.principal → ⊥) → new.received ≡ length es + 1) → IsTenure h later k new
  tenure_given k q to t new is known old holds kept moved = record { holder = holds ∙ sym now; received = λ p held. subst (λ r. IsReceivedBy h later k r new.received) (some_same (sym holds ∙ held)) by }
    where
      held_row : (row : LabelRow) × IsHolding rows k e.principal row
      held_row = given_held h (replay h es) e accepted k to is

      now : holder_of (replay h later).labels k ≡ Some q
      now =
          let target = unwrap_or (numbered h.principals to) e.principal in
          ap (λ xs. holder_of xs k) (labels_after h es e accepted _ is) ∙ ap holder_in (found_given k target rows) ∙ ap (λ o. holder_in (option_map (λ (row : LabelRow). (row.0, target, row.2)) o)) held_row.1.found
          ∙ ap (λ o. Some (unwrap_or o e.principal)) known

      of : (b : Bool) → nat_eq q e.principal ≡ b → IsReceivedBy h later k q new.received
      of true s =
          let same : q ≡ e.principal = (unsigned_Decides q e.principal).0 s in
          let was : t.holder ≡ Some q = old.holder ∙ ap holder_in held_row.1.found ∙ ap Some (held_row.1.holder ∙ sym same) in
          subst (λ m. IsReceivedBy h later k q m) (sym (kept same)) (received_kept k q t.received (hands h k q to e is known ∙ ap not s) (old.received q was))
      of false s =
          subst (λ m. IsReceivedBy h later k q m) (sym (moved (λ same. absurd (cc (s, (unsigned_Decides q e.principal).1 same))))) (received_now k q (hands h k q to e is known ∙ ap not s))

      by : IsReceivedBy h later k q new.received
      by = of (nat_eq q e.principal) refl

  pub tenure_deleted : (k : ℕ) (new : Tenure) → IsSound h es → e.event ≡ delete k → new.holder ≡ None → IsTenure h later k new
  tenure_deleted k new sound is gone = record {
    holder = gone ∙ sym (ap (λ xs. holder_of xs k) (labels_after h es e accepted _ is) ∙ ap holder_in (none_deleted es 0 k rows sound.rows));
    received = λ p held. absurd (cc (gone, held));
  }

  first_holder : IsSound h es → Kind e.event → holder_of (replay h later).labels (length es + 1) ≡ option_map (λ (f : FormulaTree). e.principal) (label_of e.event)
  first_holder sound (said t f is) =
      let n = length es + 1 in
      let row : LabelRow = (n, e.principal, says t f) in
      let same = labels_after h es e accepted _ is ∙ ap (λ m. rows ++ (m + 1, e.principal, says t f) ∷ []) sound.entries in
      ap (λ xs. holder_of xs n) same ∙ ap holder_in (found_last n row rows (number_passes n row refl) (none_above es 0 n rows (omega arith) sound.rows))
      ∙ sym (ap (λ v. option_map (λ (f : FormulaTree). e.principal) (label_of v)) is)
  first_holder sound (gives k to is) =
      let n = length es + 1 in
      let target = unwrap_or (numbered h.principals to) e.principal in
      ap (λ xs. holder_of xs n) (labels_after h es e accepted _ is)
      ∙ ap holder_in (none_above es 0 n (alter (has_number k) (λ (row : LabelRow). (row.0, target, row.2)) rows) (omega arith) (rows_given es 0 k target rows sound.rows))
      ∙ sym (ap (λ v. option_map (λ (f : FormulaTree). e.principal) (label_of v)) is)
  first_holder sound (deletes k is) =
      let n = length es + 1 in
      ap (λ xs. holder_of xs n) (labels_after h es e accepted _ is) ∙ ap holder_in (none_above es 0 n (take_out (has_number k) rows) (omega arith) (rows_deleted es 0 k rows sound.rows))
      ∙ sym (ap (λ v. option_map (λ (f : FormulaTree). e.principal) (label_of v)) is)
  first_holder sound (other o) =
      let n = length es + 1 in
      ap (λ xs. holder_of xs n) (labels_after h es e accepted e.event refl ∙ o.labels h (replay h es) e.principal)
      ∙ ap holder_in (none_above es 0 n rows (omega arith) sound.rows) ∙ sym (ap (option_map (λ (f : FormulaTree). e.principal)) o.said)

  pub tenure_first : (new : Tenure) → IsSound h es → new.holder ≡ option_map (λ (f : FormulaTree). e.principal) (label_of e.event) → new.received ≡ length es + 1 → IsTenure h later (length es + 1) new
  tenure_first new sound holds now = record {
    holder = holds ∙ sym (first_holder sound (kind_of e.event));
    received = λ p held. inr (now, λ j x at. not_true (hands_over h (length es + 1) p x) (λ passes. too_late j x at (handed h (length es + 1) p x passes)));
  }
    where
      too_late : (j : ℕ) (x : EntryTree) → entry_at later j ≡ Some x → (to : List ℕ) × (x.event ≡ transfer (length es + 1) to) → ⊥
      too_late j x at g =
          let low = given_below h later j (length es + 1) g.0 x (sound_more h es e accepted sound).legal at g.1 in
          let within = entry_within later j x at in
          let long = length-append es (e ∷ []) in
          absurd (omega (arith, low, within.1, long))
