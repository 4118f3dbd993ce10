-- What a session learns of the book that it reaches, whoever else does.
use Rattle.std.specs.Prelude.{◌≡◌, ◌⊎◌, ℕ, ◌+◌, List, [], ◌∷◌, ◌++◌, length, Ok, Err, IsOk}
use Rattle.policy_history.specs.declared.events.Entry.{Entry}
use Rattle.policy_history.specs.declared.events.Event.{Event}
use Rattle.policy_history.specs.declared.events.Refusal.{Refusal}
use Rattle.policy_history.specs.declared.events.Refusal.TheVariants.{NotRecorded}
use Rattle.policy_history.specs.declared.heads.Head.{Head}
use Rattle.policy_history.specs.Values.{entry_trees}
use Rattle.verdict_words.specs.Histories.{IsPrefix}
use Rattle.verdict_words.specs.Values.{Identity, PassValue}
use Rattle.policy_book.specs.Books.{IsMetAt, decided_at, met_at}
use Rattle.policy_book.specs.Snaps.{IsSnap}
use Rattle.policy_book.specs.declared.snapping.Snapped.{Snapped}
use Rattle.policy_book.specs.declared.writing.Written.{Written}
use Rattle.policy_book.specs.declared.writing.Written.TheVariants.{Done, Refused, NoMemory}

module _ (board : Identity Entry Head) where
  -- the pass was met at the end of the journal, which had these entries then
  pub record HasMet (entries : List Entry) (pass pass_new : PassValue Entry Head) : Type 0 where
    pub next : ℕ
    pub met : IsMetAt board next entries pass
    pub pass_is : pass_new ≡ met_at board entries pass_new.known pass
    pub knows : IsPrefix pass.known pass_new.known

  -- the pass was met twice at the end of the journal, which had these entries then and had not grown between
  pub record HasMetTwice (entries : List Entry) (pass pass_new : PassValue Entry Head) : Type 0 where
    pub next : ℕ
    pub met : IsMetAt board next entries pass
    pub pass_is : pass_new ≡ met_at board entries pass_new.known (met_at board entries pass_new.known pass)
    pub knows : IsPrefix pass.known pass_new.known

  module _ (pass pass_new : PassValue Entry Head) (principal : ℕ) (event : Event) where
    -- the change was accepted at the end of the journal, which stayed as it was while its line was written, and it is the next entry
    pub record HasAdded (at number : ℕ) : Type 0 where
      pub entries : List Entry
      pub next : ℕ
      pub bytes : ℕ
      pub accepted : decided_at board entries pass.session principal event ≡ Ok (record { number = number; bytes = bytes })
      pub at_is : at ≡ length entries + 1
      pub met : IsMetAt board next entries pass
      pub pass_is : pass_new ≡ met_at board (entries ++ (record { session = pass.session; principal = principal; event = event }) ∷ []) pass_new.known (met_at board entries pass_new.known (met_at board entries pass_new.known pass))
      pub knows : IsPrefix pass.known pass_new.known

    -- the change was refused at the end of the journal: by the first refusal that applies there, or it was accepted and could not be recorded, in which case its line may have been tried meanwhile
    pub record HasRefused (at : ℕ) (refusal : Refusal) : Type 0 where
      pub entries : List Entry
      pub why : (decided_at board entries pass.session principal event ≡ Err refusal) ⊎ ((refusal ≡ NotRecorded) × IsOk (decided_at board entries pass.session principal event))
      pub at_is : at ≡ length entries
      pub met : HasMet entries pass pass_new ⊎ ((refusal ≡ NotRecorded) × HasMetTwice entries pass pass_new)

    -- what a session learns of a change by its answer; at want of memory nothing was done
    abbrev pub IsAnswered : Written → Type 0
    IsAnswered (Done at number) = HasAdded at number
    IsAnswered (Refused at refusal) = HasRefused at refusal
    IsAnswered NoMemory = pass_new ≡ pass

  -- a case was looked up at the end of the journal
  pub record HasSnapped (principal : ℕ) (op object : List ℕ) (pass pass_new : PassValue Entry Head) (snapped : Snapped) : Type 0 where
    pub entries : List Entry
    pub met : HasMet entries pass pass_new
    pub snap : IsSnap board.origin.setting (entry_trees entries) principal op object snapped

-- how many changes an answer says were not recorded
abbrev pub unrecorded_by : Written → ℕ
unrecorded_by (Refused at NotRecorded) = 1
unrecorded_by _ = 0

-- what contracts see of a book behind its lock: its board, and how many changes were answered through it that they were not recorded
pub record LockedValue : Type 0 where
  pub board : Identity Entry Head
  pub unrecorded : ℕ
