-- What becomes of a call that gets no verdict: there was no memory for it, or its record could not be sent.
use Rattle.std.specs.Prelude.{◌≡◌, ◌⊎◌, ℕ, List, [], ◌∷◌, ◌++◌, Some, None}
use Rattle.object_table.specs.Objects.{number_of}
use Rattle.policy_history.specs.declared.heads.Head.{Head}
use Rattle.policy_history.specs.declared.events.Refusal.TheVariants.{NotRecorded}
use Rattle.policy_history.specs.Events.{EntryTree}
use Rattle.policy_history.specs.States.{State}
use Rattle.policy_history.specs.Judged.{case_at}
use Rattle.policy_history.specs.Laws.{refusal_number}
use Rattle.authority_ask.specs.Panels.{Told as Ask}
use Rattle.guard_core.specs.declared.findings.Finding.{Finding}
use Rattle.guard_core.specs.declared.findings.GuardError.TheVariants.{Down as DownError, Memory as MemoryError}
use Rattle.guard_core.specs.Judging.{IsJudged, IsBrokenOff}
use Rattle.session_wire.specs.declared.replies.Reply.TheVariants.{Refused, NoMemory}
use Rattle.verdict_words.specs.declared.places.CasePlace.{CasePlace}
use Rattle.verdict_words.specs.declared.places.Held.{Held}
use Rattle.verdict_words.specs.declared.views.Item.{Item}
use Rattle.verdict_words.specs.declared.views.Item.TheVariants.{Loaded, Met}
use Rattle.verdict_words.specs.Answers.{MakesHit}
use Rattle.session_core.specs.Standing.{Standing}
use Rattle.session_core.specs.Calls.{Turn, plain, stepped, state_at, IsSeen, Looks, Misses}

-- a call of principal p, in this state
module _ (h : Head) (st : State) (p : ℕ) (op object : List ℕ) where
  -- what was asked for it where it was given up: nothing, or the asks of its case up to one for whose answer there was no memory
  abbrev pub AreAskedInVain : List Ask → Type 0
  AreAskedInVain asks =
      (asks ≡ []) ⊎ ((k : ℕ) × (number_of st.objects object ≡ Some k) × IsBrokenOff (case_at h st p op k) asks MemoryError)

  -- what was asked for it where it was judged: nothing where no object has the name, and else all that its case asks for, or up to a
  -- line that was down
  pub data AreAsked (asks : List Ask) : Type 0 where
    asked_nobody : number_of st.objects object ≡ None → asks ≡ [] → AreAsked asks
    asked_all : (k : ℕ) (finding : Finding) → number_of st.objects object ≡ Some k → IsJudged (case_at h st p op k) asks finding
        → AreAsked asks
    asked_to_down : (k line : ℕ) → number_of st.objects object ≡ Some k → IsBrokenOff (case_at h st p op k) asks (DownError line)
        → AreAsked asks

-- a session that is so far over this history, and a call of principal p in it
module _ (h : Head) (es : List EntryTree) (before : Standing) (p : ℕ) (op object : List ℕ) where
  -- A call that was given up for want of memory, behind its look or behind the snapshot; then authorities may have been asked. No
  -- verdict is kept, and no register is stepped on
  pub data GivesUp (turn : Turn) : Type 0 where
    looked : (low : ℕ) (steps : List Item) → Misses h es before p op object low steps
        → turn ≡ stepped (record before { low = low }) NoMemory [] steps → GivesUp turn
    met : (low n : ℕ) (steps : List Item) → Misses h es before p op object low steps → IsSeen es low n
        → AreAskedInVain h (state_at h es n) p op object turn.asks
        → turn ≡ stepped (record before { low = n }) NoMemory turn.asks (steps ++ Met n ∷ []) → GivesUp turn

  -- A call whose record could not be sent, behind a look that finds its kept verdict or behind the snapshot; or one behind such a call,
  -- for which nothing is done. It is refused. No verdict is kept, no register is stepped on, and what is known stays
  pub data GoesUnrecorded (turn : Turn) : Type 0 where
    hit_unrecorded : (n : ℕ) (place : CasePlace) (slot of_object of_store : ℕ) (held : Held) → Looks h es before p op object n place
        → MakesHit place.case slot of_object of_store held
        → turn ≡ stepped (record before { low = n }) (Refused n (refusal_number NotRecorded)) [] (Loaded place slot n of_object of_store ∷ [])
        → GoesUnrecorded turn
    snap_unrecorded : (low n : ℕ) (steps : List Item) → Misses h es before p op object low steps → IsSeen es low n
        → AreAsked h (state_at h es n) p op object turn.asks
        → turn ≡ stepped (record before { low = n }) (Refused n (refusal_number NotRecorded)) turn.asks (steps ++ Met n ∷ [])
        → GoesUnrecorded turn
    later_unrecorded : turn ≡ plain before (Refused before.low (refusal_number NotRecorded)) → GoesUnrecorded turn
