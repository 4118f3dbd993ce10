-- What a history and the compacted one have in common.
use Rattle.std.specs.Prelude.{◌≡◌, ◌≤◌, ℕ, List, Some}
use Rattle.object_table.specs.Objects.{number_of}
use Rattle.policy_history.specs.declared.heads.Head.{Head}
use Rattle.policy_history.specs.Events.{EntryTree}
use Rattle.policy_history.specs.Judged.{case_at}
use Rattle.policy_history.specs.Machine.{IsLegal, replay}
use Rattle.policy_history.specs.States.{State, tally_of}
use Rattle.policy_compaction.specs.Kept.{compacted}
use Rattle.policy_compaction.specs.Standing.{SameStanding}

-- whoever asks for an operation on an object: the case is the same, and so is each verdict on it
abbrev pub SameCases : Head → State → State → Type 0
SameCases h s t = (p : ℕ) (op object : List ℕ) (number : ℕ) → number_of s.objects object ≡ Some number → case_at h s p op number ≡ case_at h t p op number

-- no principal has more entries, or more bytes of them, and neither have all together
pub record HasNoMore (s t : State) : Type 0 where
  pub each : (p : ℕ) → ((tally_of t p).entries ≤ (tally_of s p).entries) × ((tally_of t p).bytes ≤ (tally_of s p).bytes)
  pub entries : t.entries ≤ s.entries
  pub bytes : t.bytes ≤ s.bytes

-- `cs` is what is left of the history: the entries that still matter. It is legal, and leads to a state of one standing with that of the
-- history, in which each case is the same and nobody has more entries; and compacted again it stays as it is.
pub record IsCompaction (h : Head) (es cs : List EntryTree) : Type 0 where
  pub entries : cs ≡ compacted es
  pub legal : IsLegal h cs
  pub standing : SameStanding (replay h es) (replay h cs)
  pub cases : SameCases h (replay h es) (replay h cs)
  pub fewer : HasNoMore (replay h es) (replay h cs)
  pub again : compacted cs ≡ cs

-- every legal history can be compacted so
abbrev pub CompactionsStand : Type 0
CompactionsStand = (h : Head) (es : List EntryTree) → IsLegal h es → IsCompaction h es (compacted es)
