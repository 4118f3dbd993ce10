-- The compacted history is legal, and leads to the same objects and labels, with no more entries of anybody.
use Rattle.std.proofs.Common.{◌≡◌, ◌+◌, ℕ, Bool, true, false, cond, List, [], ◌∷◌, ◌++◌, filter, map, length, Some, refl, sym, ap, ◌∙◌, subst, arith, append_assoc, length-append}
use Rattle.std.proofs.lemmas.List.{append-nil}
use Rattle.std.proofs.lemmas.List.Elements.{All-nil}
use Rattle.object_table.specs.Objects.{ObjectRow, number_of}
use Rattle.label_store.specs.LabelRows.{LabelRow, labels_of}
use Rattle.policy_history.specs.declared.heads.Head.{Head}
use Rattle.policy_history.specs.Events.{EntryTree, name_of}
use Rattle.policy_history.specs.Machine.{IsAccepted, IsLegal, IsLegalFrom, accepted, after, changed, replay, replay_from}
use Rattle.policy_history.specs.PolicyLines.{entry_line}
use Rattle.policy_history.specs.States.{State, empty_state}
use Rattle.policy_history.proofs.ForCallers.{accepted_after, cases_bounded, changed_entries, objects_stay, replay_accepted, replay_more}
use Rattle.label_holdings.proofs.ForCallers.{IsSound, sound_all, sound_at, sound_more}
use Rattle.policy_compaction.specs.Compactions.{HasNoMore}
use Rattle.policy_compaction.specs.Kept.{Numbered, compacted, kept, kept_from, matters, moved, new_number, renumbered}
use Rattle.policy_compaction.proofs.KeptEntries.{alike_kept, free_kept, line_kept}
use Rattle.policy_compaction.proofs.Led.{IsAlike, IsLed, alike_both, alike_more, stays}
use Rattle.policy_compaction.proofs.LeftEntries.{alike_left}
use Rattle.policy_compaction.proofs.NewNumbers.{Counts, counts, none_new}
use Rattle.policy_compaction.proofs.RenumberedRows.{IsPlacedRow, labels_renumbered, renumbered_row}
use Rattle.policy_compaction.proofs.TallyLists.{most_at, most_self}

module _ (h : Head) (es : List EntryTree) where
  abbrev ks : List Numbered
  ks = kept es

  abbrev at_end : List ObjectRow
  at_end = (replay h es).objects

  -- what is left to show of the later entries, from state t on
  abbrev IsWalked : ℕ → List EntryTree → State → Type 0
  IsWalked n later t = IsLegalFrom h t (map (moved ks) (kept_from n later)) × IsLed ks at_end (length es) [] (replay h es) (replay_from h t (map (moved ks) (kept_from n later)))

  module _ (before : List EntryTree) (e : EntryTree) (later : List EntryTree) (t : State) (n : ℕ) (split : before ++ e ∷ later ≡ es) (long : length before ≡ n) (sound : IsSound h before)
      (first : IsAccepted h (replay h before) e) (led : IsLed ks at_end n (e ∷ later) (replay h before) t) where
    abbrev s : State
    s = replay h before

    there : (x : List ℕ) (k : ℕ) → number_of s.objects x ≡ Some k → number_of at_end x ≡ Some k
    there x k at = subst (λ (ys : List EntryTree). number_of (replay h ys).objects x ≡ Some k) split (objects_stay h before (e ∷ later) x k at)

    abbrev bytes : ℕ
    bytes = length (entry_line e.session (name_of h.principals e.principal) e.event)

    -- where the entry matters, it is accepted, and leads on
    kept_next : matters (n + 1) e later ≡ true → new_number ks (n + 1) ≡ new_number ks n + 1
        → IsAccepted h t (moved ks (n + 1, e)) × IsLed ks at_end (n + 1) later (replay h (before ++ e ∷ [])) (after h t (moved ks (n + 1, e)))
    kept_next kept more =
        let count = sound.entries ∙ long in
        let free = free_kept h ks at_end s t e.session e.principal later n there count more e.event (cases_bounded h before) first.1 kept led in
        let short = line_kept h ks at_end s t e.session e.principal later n there count more e.event first.1 kept led in
        let alike = alike_kept h ks at_end s t e.session e.principal later n there count more e.event first.1 kept led in
        let yes : IsAccepted h t (moved ks (n + 1, e)) = (first.0, free) in
        let number : (accepted h t e.session e.principal (renumbered ks e.event)).entries ≡ new_number ks (n + 1) =
        ap (λ m. m + 1) (changed_entries h t e.principal (renumbered ks e.event) ∙ led.entries) ∙ sym more in
        let low = led.low in
        let next : IsLed ks at_end (n + 1) later (accepted h s e.session e.principal e.event) (accepted h t e.session e.principal (renumbered ks e.event)) = record {
          alike = alike_both ks at_end later (changed h s e.principal e.event) (changed h t e.principal (renumbered ks e.event)) alike e.principal _ _ short;
          entries = number;
          low = omega (arith, low, more);
        } in (
          yes,
          subst (λ u. IsLed ks at_end (n + 1) later u (after h t (moved ks (n + 1, e)))) (sym (replay_accepted h before e first))
              (subst (IsLed ks at_end (n + 1) later (accepted h s e.session e.principal e.event)) (sym (accepted_after h t (moved ks (n + 1, e)) yes)) next),
        )

    -- where it does not, it leads on as it is
    left_next : matters (n + 1) e later ≡ false → new_number ks (n + 1) ≡ new_number ks n → IsLed ks at_end (n + 1) later (replay h (before ++ e ∷ [])) t
    left_next left same =
        let count = sound.entries ∙ long in
        let alike = alike_left h ks at_end s t e.session e.principal later there n before count sound.rows e.event first.1 left led.alike in
        let low = led.low in
        let next : IsLed ks at_end (n + 1) later (accepted h s e.session e.principal e.event) t = record {
          alike = alike_more ks at_end later (changed h s e.principal e.event) t alike e.principal bytes;
          entries = led.entries ∙ sym same;
          low = omega (arith, low, same);
        } in
        subst (λ u. IsLed ks at_end (n + 1) later u t) (sym (replay_accepted h before e first)) next

  walk : (later before : List EntryTree) (t : State) (n : ℕ) → before ++ later ≡ es → length before ≡ n → IsSound h before → IsLegalFrom h (replay h before) later → Counts ks n later
      → IsLed ks at_end n later (replay h before) t → IsWalked n later t
  walk [] before t n split long sound legal counted led =
      let whole : before ≡ es = sym (append-nil before) ∙ split in
      let size : n ≡ length es = sym long ∙ ap (λ (xs : List EntryTree). length xs) whole in
      (tt, subst (λ m. IsLed ks at_end m [] (replay h es) t) size (subst (λ (xs : List EntryTree). IsLed ks at_end n [] (replay h xs) t) whole led))
  walk (e ∷ later) before t n split long sound legal counted led =
      let first = legal.0 in
      let more : length (before ++ e ∷ []) ≡ n + 1 = length-append before (e ∷ []) ∙ ap (λ m. m + 1) long in
      let rest = subst (λ u. IsLegalFrom h u later) (sym (replay_more h before e)) legal.1 in
      of (matters (n + 1) e later) refl
      (λ u next. walk later (before ++ e ∷ []) u (n + 1) (append_assoc before (e ∷ []) later ∙ split) more (sound_more h before e first sound) rest counted.1 next) counted.0
    where
      of : (b : Bool) → matters (n + 1) e later ≡ b → ((u : State) → IsLed ks at_end (n + 1) later (replay h (before ++ e ∷ [])) u → IsWalked (n + 1) later u)
          → new_number ks (n + 1) ≡ new_number ks n + cond b 1 0
          → IsLegalFrom h t (map (moved ks) (cond b ((n + 1, e) ∷ kept_from (n + 1) later) (kept_from (n + 1) later)))
          × IsLed ks at_end (length es) [] (replay h es) (replay_from h t (map (moved ks) (cond b ((n + 1, e) ∷ kept_from (n + 1) later) (kept_from (n + 1) later))))
      of true kept go number =
          let next = kept_next before e later t n split long sound legal.0 led kept number in
          let all = go (after h t (moved ks (n + 1, e))) next.1 in
          ((next.0, all.0), all.1)
      of false left go number = go t (left_next before e later t n split long sound legal.0 led left (omega (arith, number)))

  started : IsLed ks at_end 0 es (empty_state h) (empty_state h)
  started =
      let none = none_new es in
      record {
        alike = record { objects = refl; labels = refl; placed = All-nil (IsPlacedRow ks); tallies = most_self (empty_state h).tallies; bytes = omega arith; cases = omega arith };
        entries = sym none;
        low = omega (arith, none);
      }

  walked : IsLegal h es → IsWalked 0 es (empty_state h)
  walked legal = walk es [] (empty_state h) 0 refl refl (sound_at h es legal 0 (omega arith)) legal (counts es) started

  -- at the end, the state of the compacted history is like that of the history
  alike_at_end : IsLegal h es → IsAlike ks at_end [] (replay h es) (replay h (compacted es))
  alike_at_end legal = (walked legal).1.alike

pub legal_compacted : (h : Head) (es : List EntryTree) → IsLegal h es → IsLegal h (compacted es)
legal_compacted h es legal = (walked h es legal).0

pub same_objects : (h : Head) (es : List EntryTree) → IsLegal h es → (replay h es).objects ≡ (replay h (compacted es)).objects
same_objects h es legal = sym (alike_at_end h es legal).objects

-- at the end each row stays
all_stay : (rows : List LabelRow) → filter (stays []) rows ≡ rows
all_stay [] = refl
all_stay (row ∷ rows) = ap (λ (xs : List LabelRow). row ∷ xs) (all_stay rows)

pub same_labels : (h : Head) (es : List EntryTree) → IsLegal h es → (p : ℕ) → labels_of (replay h es).labels p ≡ labels_of (replay h (compacted es)).labels p
same_labels h es legal p =
    let rows = (replay h es).labels in
    sym (ap (λ (xs : List LabelRow). labels_of xs p) ((alike_at_end h es legal).labels ∙ ap (map (renumbered_row (kept es))) (all_stay rows)) ∙ labels_renumbered (kept es) p rows)

pub no_more : (h : Head) (es : List EntryTree) → IsLegal h es → HasNoMore (replay h es) (replay h (compacted es))
no_more h es legal =
    let led = (walked h es legal).1 in
    let counted : (replay h (compacted es)).entries ≡ new_number (kept es) (length es) = led.entries in
    let low = led.low in
    let all = (sound_all h es legal).entries in
    record {
      each = λ p. let most = most_at (replay h (compacted es)).tallies (replay h es).tallies p led.alike.tallies in (most.entries, most.bytes);
      entries = omega (arith, counted, low, all);
      bytes = led.alike.bytes;
    }
