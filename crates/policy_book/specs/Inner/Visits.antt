-- The two visits that a writer makes at the journal, and what he writes between them.
use Rattle.std.specs.Prelude.{◌≡◌, ℕ, ◌+◌, ◌<◌, Bool, true, false, List, [], ◌∷◌, ◌++◌, length, Ok}
use Rattle.nx_io.specs.Streams.{Sends, one_more}
use Rattle.policy_history.specs.declared.events.Entry.{Entry}
use Rattle.policy_history.specs.declared.events.Event.{Event}
use Rattle.policy_history.specs.declared.events.Refusal.{Refusal}
use Rattle.policy_history.specs.declared.events.Refusal.TheVariants.{NotRecorded}
use Rattle.policy_history.specs.declared.heads.Head.{Head}
use Rattle.policy_history.specs.Events.{event_tree}
use Rattle.verdict_words.specs.Histories.{IsPrefix}
use Rattle.verdict_words.specs.Values.{Identity, PassValue}
use Rattle.policy_book.specs.Access.{HasMet, IsAnswered, unrecorded_by}
use Rattle.policy_book.specs.Books.{IsMetAt, SendsFront, decided_at, met_at}
use Rattle.policy_book.specs.Inner.Kept.{HasPenned, IsNamedPen}
use Rattle.policy_book.specs.declared.drafts.Begun.{Begun}
use Rattle.policy_book.specs.declared.drafts.Begun.TheVariants.{Answered, Accepted}
use Rattle.policy_book.specs.declared.drafts.Draft.{Draft}
use Rattle.policy_book.specs.declared.writing.Written.{Written}
use Rattle.policy_book.specs.declared.writing.Written.TheVariants.{Done, Refused}

-- the entry of a draft
abbrev pub drafted : Draft → Entry
drafted draft = record { session = draft.pass.session; principal = draft.principal; event = draft.event }

-- what the journal has behind the second visit, by whether the pen is broken
abbrev pub entries_after : Bool → Draft → List Entry
entries_after false draft = draft.pass.seen ++ drafted draft ∷ []
entries_after true draft = draft.pass.seen

-- what a line that is sent and synced leaves of a sink, by whether that failed
abbrev pub IsPut : Bool → (sent sent_now : List ℕ) (synced synced_now faults faults_now : ℕ) → List ℕ → Type 0
IsPut false sent sent_now synced synced_now faults faults_now line = Sends sent sent_now line × (synced_now ≡ length sent_now) × (faults_now ≡ faults)
IsPut true sent sent_now synced synced_now faults faults_now line = SendsFront sent sent_now line × (synced_now ≡ synced) × (faults_now ≡ one_more faults)

module _ (board : Identity Entry Head) where
  -- the change is accepted at the end of the journal that its pass has seen
  pub record IsDraft (draft : Draft) : Type 0 where
    pub pass : draft.pass.board ≡ board
    pub principal : draft.principal < length board.origin.setting.principals
    pub fewer : length draft.pass.seen < 262144
    pub bytes : ℕ
    pub accepted : decided_at board draft.pass.seen draft.pass.session draft.principal draft.event ≡ Ok (record { number = draft.number; bytes = bytes })
    pub spare : event_tree draft.spare ≡ event_tree draft.event

  -- this change was handed in with this pass, which was met for it
  pub record IsDraftOf (pass : PassValue Entry Head) (principal : ℕ) (event : Event) (draft : Draft) : Type 0 where
    pub next : ℕ
    pub met : IsMetAt board next draft.pass.seen pass
    pub pass_is : draft.pass ≡ met_at board draft.pass.seen draft.pass.known pass
    pub knows : IsPrefix pass.known draft.pass.known
    pub same : (draft.principal ≡ principal) × (draft.event ≡ event)

  -- What the first visit leads to: an answer; or a draft, with a pen that is not broken and has written the text of the journal so far
  abbrev pub IsBegun : {K : Type 0} → (K → List ℕ) → (K → ℕ) → (K → ℕ) → List ℕ → ℕ → PassValue Entry Head → ℕ → Event → Begun K → Type 0
  IsBegun sent synced faults start start_faults pass principal event (Answered pass_new written) = IsAnswered board pass pass_new principal event written
  IsBegun sent synced faults start start_faults pass principal event (Accepted draft pen) =
      IsDraft draft × IsDraftOf pass principal event draft × (pen.is_broken ≡ false) × HasPenned sent synced faults board draft.pass.seen pen × IsNamedPen sent synced faults start start_faults pen

  -- a change could not be recorded at the end of this journal, where its pass was met
  abbrev pub IsUnrecorded : {K : Type 0} → List Entry → PassValue Entry Head → Begun K → Type 0
  IsUnrecorded entries pass (Answered pass_new written) = (written ≡ Refused (length entries) NotRecorded) × HasMet board entries pass pass_new
  IsUnrecorded entries pass (Accepted draft pen) = ⊥

  module _ (draft : Draft) (pass_new : PassValue Entry Head) where
    -- the change was made at the second visit. The pass was met there twice, before its entry was added and after it
    pub record IsEntered (at number : ℕ) : Type 0 where
      pub number_is : number ≡ draft.number
      pub at_is : at ≡ length draft.pass.seen + 1
      pub pass_is : pass_new ≡ met_at board (draft.pass.seen ++ drafted draft ∷ []) pass_new.known (met_at board draft.pass.seen pass_new.known draft.pass)
      pub knows : IsPrefix draft.pass.known pass_new.known

    -- the change was not made at the second visit. The pass was met there
    pub record IsLeftOut (at : ℕ) (refusal : Refusal) : Type 0 where
      pub refusal_is : refusal ≡ NotRecorded
      pub at_is : at ≡ length draft.pass.seen
      pub pass_is : pass_new ≡ met_at board draft.pass.seen pass_new.known draft.pass
      pub knows : IsPrefix draft.pass.known pass_new.known

    -- what the second visit leads to, by whether the pen is broken
    abbrev pub IsFinished : Bool → Written → Type 0
    IsFinished false (Done at number) = IsEntered at number
    IsFinished true (Refused at refusal) = IsLeftOut at refusal
    IsFinished _ _ = ⊥

-- how many changes the first visit answered that they were not recorded
abbrev pub unrecorded_in : {K : Type 0} → Begun K → ℕ
unrecorded_in (Answered pass written) = unrecorded_by written
unrecorded_in (Accepted draft pen) = 0

-- what the writer's share has behind the first visit
abbrev pub out_in : {K : Type 0} → Begun K → ℕ
out_in (Answered pass written) = 0
out_in (Accepted draft pen) = 1 + length draft.pass.seen
