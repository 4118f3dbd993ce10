-- What a request comes to (`Turn`), and what becomes of a call: a kept verdict answers it, or it is judged on a snapshot of its case.
use Rattle.std.specs.Prelude.{◌≡◌, ◌≢◌, ◌≤◌, ℕ, List, [], ◌∷◌, ◌++◌, length, take, Bool, true, false, Option, Some, None}
use Rattle.nal_rules.specs.Numbers.{cause_numbers}
use Rattle.nal_rules.specs.Verdicts.{CaseTree}
use Rattle.nal_rules.specs.declared.verdicts.Verdict.{Verdict}
use Rattle.nal_rules.specs.declared.verdicts.Verdict.TheVariants.{Allowed as AllowedVerdict, Denied as DeniedVerdict}
use Rattle.object_table.specs.Objects.{number_of}
use Rattle.proof_store.specs.Cases.{number_of as case_number}
use Rattle.policy_history.specs.declared.heads.Head.{Head}
use Rattle.policy_history.specs.declared.events.Refusal.TheVariants.{NoSuchObject}
use Rattle.policy_history.specs.Events.{EntryTree}
use Rattle.policy_history.specs.States.{State}
use Rattle.policy_history.specs.Machine.{replay}
use Rattle.policy_history.specs.Judged.{IsLasting, IsRight, case_at}
use Rattle.policy_history.specs.Laws.{refusal_number}
use Rattle.authority_ask.specs.Panels.{Told as Ask}
use Rattle.guard_core.specs.declared.findings.Finding.{Finding}
use Rattle.guard_core.specs.declared.findings.GuardError.TheVariants.{Down as DownError}
use Rattle.guard_core.specs.Judging.{IsJudged, IsBrokenOff, verdict_of}
use Rattle.session_wire.specs.declared.replies.Reply.{Reply}
use Rattle.session_wire.specs.declared.replies.Reply.TheVariants.{Allowed, Denied, Refused, Down}
use Rattle.verdict_words.specs.declared.places.CasePlace.{CasePlace}
use Rattle.verdict_words.specs.declared.places.Held.{Held}
use Rattle.verdict_words.specs.declared.views.RegisterStep.{RegisterStep}
use Rattle.verdict_words.specs.declared.views.Item.{Item}
use Rattle.verdict_words.specs.declared.views.Item.TheVariants.{Loaded, Met, Filled, Ran}
use Rattle.verdict_words.specs.Answers.{MakesHit}
use Rattle.policy_book.specs.Matter.{StandsFor}
use Rattle.session_core.specs.Standing.{Standing, joined, knows, step_of}

-- What a request comes to: the reply, what authorities were asked for it, the steps of the pass, the entry that was made, if
-- any, and how far the session is then.
pub record Turn : Type 0 where
  pub reply : Reply
  pub asks : List Ask
  pub steps : List Item
  pub added : List EntryTree
  pub after : Standing

-- only a reply: nobody is asked, and no step is made
abbrev pub plain : Standing → Reply → Turn
plain after reply = record { reply = reply; asks = []; steps = []; added = []; after = after }

-- a reply without an entry
abbrev pub stepped : Standing → Reply → List Ask → List Item → Turn
stepped after reply asks steps = record { reply = reply; asks = asks; steps = steps; added = []; after = after }

-- the reply that a verdict is, at a length of the history; an allowed call has a value, and says whether its verdict was kept
abbrev pub verdict_reply : ℕ → ℕ → ℕ → Verdict → Reply
verdict_reply n hit value AllowedVerdict = Allowed n hit value
verdict_reply n hit value (DeniedVerdict cause) = Denied n (cause_numbers cause).0 (cause_numbers cause).1 (cause_numbers cause).2

-- the state behind the first n entries
abbrev pub state_at : Head → List EntryTree → ℕ → State
state_at h es n = replay h (take n es)

-- a length that a session may see next: it never sees less than before, and no more than there is
abbrev pub IsSeen : List EntryTree → ℕ → ℕ → Type 0
IsSeen es low n = (low ≤ n) × (n ≤ length es)

-- a verdict on a case that is known or not, at the length n, under the number of the case
module _ (is_known : Bool) (n : ℕ) (number : Option ℕ) (c : CaseTree) (verdict : Verdict) where
  -- Whether it is kept: exactly where the case is known and the verdict rests on goal, proof and labels alone. It is kept under the
  -- number of the case, at the length at which it was judged
  pub data Keeps (steps : List Item) : Type 0 where
    kept : (k : ℕ) (held : Held) → is_known ≡ true → number ≡ Some k → IsLasting c verdict → StandsFor verdict held
        → steps ≡ Filled k n held ∷ [] → Keeps steps
    not_kept : ¬ ((is_known ≡ true) × IsLasting c verdict) → steps ≡ [] → Keeps steps

-- a call with this verdict, and the number of its object
module _ (op : List ℕ) (arg object : ℕ) (verdict : Verdict) where
  -- Whether it steps on the register of its object: exactly where it is allowed and its operation makes a step. Its value is what the
  -- step answered, and 0 where there is none
  pub data Runs (value : ℕ) (steps : List Item) : Type 0 where
    ran : (step : RegisterStep) → verdict ≡ AllowedVerdict → step_of op arg ≡ Some step → steps ≡ Ran object step value ∷ [] → Runs value steps
    no_step : ¬ ((verdict ≡ AllowedVerdict) × (step_of op arg ≢ None)) → value ≡ 0 → steps ≡ [] → Runs value steps

-- the place has the numbers, in this state, of the case of principal p, of its object, and of p
pub record IsPlaceIn (st : State) (p : ℕ) (op object : List ℕ) (place : CasePlace) : Type 0 where
  pub object_is : number_of st.objects object ≡ Some place.object
  pub case_is : case_number st.cases p op place.object ≡ Some place.case
  pub store_is : place.store ≡ p

-- the session behind a check of the case, in this state, of object k, at the length n: the case is known where it has a number and
-- there is room
abbrev pub checked : State → Standing → ℕ → ℕ → List ℕ → List ℕ → ℕ → Standing
checked st before n p op object k = record before { low = n; known = joined before.known op object (case_number st.cases p op k) }

-- a call of principal p, where a snapshot of its case was taken at the length n, in this state and behind these steps
module _ (h : Head) (st : State) (before : Standing) (p : ℕ) (op object : List ℕ) (arg n : ℕ) (looked : List Item) where
  -- It is refused where no object has the name, and else judged with the answers that were given to this call, or broken off at a line
  -- that was down
  pub data Judges (turn : Turn) : Type 0 where
    no_object : number_of st.objects object ≡ None
        → turn ≡ stepped (record before { low = n }) (Refused n (refusal_number NoSuchObject)) [] (looked ++ Met n ∷ []) → Judges turn
    judged : (k value : ℕ) (finding : Finding) (kept ran : List Item) → number_of st.objects object ≡ Some k
        → IsJudged (case_at h st p op k) turn.asks finding
        → Keeps (knows (checked st before n p op object k).known op object) n (case_number st.cases p op k) (case_at h st p op k)
        (verdict_of finding) kept
        → Runs op arg k (verdict_of finding) value ran
        → turn ≡ stepped (checked st before n p op object k) (verdict_reply n 0 value (verdict_of finding)) turn.asks
        (looked ++ Met n ∷ (kept ++ ran))
        → Judges turn
    down : (k line : ℕ) → number_of st.objects object ≡ Some k → IsBrokenOff (case_at h st p op k) turn.asks (DownError line)
        → turn ≡ stepped (checked st before n p op object k) (Down n line) turn.asks (looked ++ Met n ∷ []) → Judges turn

-- a session that is so far over this history, and a call of principal p in it
module _ (h : Head) (es : List EntryTree) (before : Standing) (p : ℕ) (op object : List ℕ) where
  -- A look at a case that the session knows: it loads the slot and the regions of the case's place, at the length n that it sees then
  pub record Looks (n : ℕ) (place : CasePlace) : Type 0 where
    pub known : knows before.known op object ≡ true
    pub seen : IsSeen es before.low n
    pub place_is : IsPlaceIn (state_at h es n) p op object place

  -- What stands before a snapshot of the case: nothing where the case is not known, and else a look that makes no hit. The length that
  -- was seen last is `low`
  pub data Misses (low : ℕ) (steps : List Item) : Type 0 where
    unknown : knows before.known op object ≡ false → low ≡ before.low → steps ≡ [] → Misses low steps
    missed : (place : CasePlace) (slot of_object of_store : ℕ) → Looks low place
        → ((held : Held) → ¬ MakesHit place.case slot of_object of_store held) → steps ≡ Loaded place slot low of_object of_store ∷ []
        → Misses low steps

  -- Where the session knows the case and finds its kept verdict, that verdict is right on all that the session has then seen, and is the
  -- reply. Else a snapshot of the case is taken, and judged
  pub data Calls (arg : ℕ) (turn : Turn) : Type 0 where
    hit : (n : ℕ) (place : CasePlace) (slot of_object of_store value : ℕ) (held : Held) (verdict : Verdict) (ran : List Item)
        → Looks n place → MakesHit place.case slot of_object of_store held → StandsFor verdict held
        → IsRight h (take n es) place.case verdict → Runs op arg place.object verdict value ran
        → turn ≡ stepped (record before { low = n }) (verdict_reply n 1 value verdict) [] (Loaded place slot n of_object of_store ∷ ran)
        → Calls arg turn
    snapped : (low n : ℕ) (looked : List Item) → Misses low looked → IsSeen es low n
        → Judges h (state_at h es n) before p op object arg n looked turn → Calls arg turn
