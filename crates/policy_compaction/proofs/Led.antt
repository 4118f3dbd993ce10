-- What the kept entries have made of the state of a history, wherever they stand in it.
use Rattle.std.proofs.Common.{◌≡◌, ◌≤◌, ℕ, Bool, not, List, filter, map, length, arith}
use Rattle.std.specs.List.{All, list_any}
use Rattle.object_table.specs.Objects.{ObjectRow}
use Rattle.label_store.specs.LabelRows.{LabelRow}
use Rattle.policy_history.specs.Events.{EntryTree}
use Rattle.policy_history.specs.Machine.{counted}
use Rattle.policy_history.specs.States.{State}
use Rattle.policy_compaction.specs.Kept.{Numbered, new_number}
use Rattle.policy_compaction.specs.Slots.{deletes}
use Rattle.policy_compaction.proofs.CaseCounts.{is_left}
use Rattle.policy_compaction.proofs.RenumberedRows.{IsPlacedRow, renumbered_row}
use Rattle.policy_compaction.proofs.TallyLists.{AreAtMost, most_at, most_both, most_other}

-- none of these entries deletes the label of the row
abbrev pub stays : List EntryTree → LabelRow → Bool
stays later row = not (list_any (deletes row.0) later)

-- t is what the kept entries have made of s, where these are the later ones
pub record IsAlike (ks : List Numbered) (objects_at_end : List ObjectRow) (later : List EntryTree) (s t : State) : Type 0 where
  pub objects : t.objects ≡ s.objects
  pub labels : t.labels ≡ map (renumbered_row ks) (filter (stays later) s.labels)
  pub placed : All (IsPlacedRow ks) (filter (stays later) s.labels)
  pub tallies : AreAtMost t.tallies s.tallies
  pub bytes : t.bytes ≤ s.bytes
  pub cases : length t.cases ≤ length (filter (is_left objects_at_end later) s.cases)

-- and so after the first n entries
pub record IsLed (ks : List Numbered) (objects_at_end : List ObjectRow) (n : ℕ) (later : List EntryTree) (s t : State) : Type 0 where
  pub alike : IsAlike ks objects_at_end later s t
  pub entries : t.entries ≡ new_number ks n
  pub low : new_number ks n ≤ n

module _ (ks : List Numbered) (objects_at_end : List ObjectRow) (later : List EntryTree) (s t : State) (alike : IsAlike ks objects_at_end later s t) where
  -- one more entry of both, whose line is no longer
  pub alike_both : (p b c : ℕ) → b ≤ c → IsAlike ks objects_at_end later (counted s p c) (counted t p b)
  alike_both p b c short =
      let most = most_at t.tallies s.tallies p alike.tallies in
      let e = most.entries in
      let f = most.bytes in
      let all = alike.bytes in
      record {
        objects = alike.objects;
        labels = alike.labels;
        placed = alike.placed;
        tallies = most_both t.tallies s.tallies p _ _ alike.tallies (record { entries = omega (arith, e); bytes = omega (arith, f, short) });
        bytes = omega (arith, all, short);
        cases = alike.cases;
      }

  -- one more of the history alone
  pub alike_more : (p c : ℕ) → IsAlike ks objects_at_end later (counted s p c) t
  alike_more p c =
      let all = alike.bytes in
      record {
        objects = alike.objects;
        labels = alike.labels;
        placed = alike.placed;
        tallies = most_other t.tallies s.tallies p 1 c alike.tallies;
        bytes = omega (arith, all);
        cases = alike.cases;
      }
