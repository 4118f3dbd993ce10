-- What becomes of a change that a session asks for, and of a request that asks whether the session has come to a length.
use Rattle.std.specs.Prelude.{◌≡◌, ◌<◌, ◌≤◌, ◌+◌, ◌⊎◌, ℕ, List, [], ◌∷◌, ◌++◌, Some, Ok, Err, slice_get}
use Rattle.policy_history.specs.declared.heads.Head.{Head}
use Rattle.policy_history.specs.declared.events.Due.{Due}
use Rattle.policy_history.specs.declared.events.Refusal.{Refusal}
use Rattle.policy_history.specs.declared.events.Refusal.TheVariants.{NotRecorded}
use Rattle.policy_history.specs.Events.{EventTree, EntryTree}
use Rattle.policy_history.specs.Laws.{refusal_number}
use Rattle.policy_history.specs.Values.{decision}
use Rattle.session_wire.specs.declared.replies.Reply.TheVariants.{Done, Refused, Seen}
use Rattle.verdict_words.specs.declared.views.Item.{Item}
use Rattle.verdict_words.specs.declared.views.Item.TheVariants.{Met}
use Rattle.session_core.specs.Standing.{Standing}
use Rattle.session_core.specs.Calls.{Turn, stepped, state_at, IsSeen}
use Rattle.session_core.specs.Refusals as refusals

-- the pass was met at this length, once or twice in a row: the line of a change is written between two meetings
abbrev pub Meets : ℕ → List Item → Type 0
Meets m steps = (steps ≡ Met m ∷ []) ⊎ (steps ≡ Met m ∷ Met m ∷ [])

-- session s, which is so far over this history, and a change that principal p asks for in it
module _ (h : Head) (es : List EntryTree) (s : ℕ) (before : Standing) (p : ℕ) (e : EventTree) where
  -- It is decided at a length m: refused with the first refusal that applies, or not recorded; or it is entry m + 1 of the history, and
  -- the reply is at the length behind it
  pub data Changes (turn : Turn) : Type 0 where
    refused : (m : ℕ) (refusal : Refusal) (met : List Item) → IsSeen es before.low m → decision h (state_at h es m) s p e ≡ Err refusal
        → Meets m met → turn ≡ stepped (record before { low = m }) (Refused m (refusal_number refusal)) [] met → Changes turn
    not_recorded : (m : ℕ) (due : Due) (met : List Item) → IsSeen es before.low m → decision h (state_at h es m) s p e ≡ Ok due
        → Meets m met → turn ≡ stepped (record before { low = m }) (Refused m (refusal_number NotRecorded)) [] met → Changes turn
    done : (m : ℕ) (due : Due) (met : List Item) → IsSeen es before.low m → decision h (state_at h es m) s p e ≡ Ok due
        → slice_get es m ≡ Some (record { session = s; principal = p; event = e }) → Meets m met
        → turn
        ≡ record {
          reply = Done (m + 1) due.number;
          asks = [];
          steps = met ++ Met (m + 1) ∷ [];
          added = record { session = s; principal = p; event = e } ∷ [];
          after = record before { low = m + 1 };
        }
        → Changes turn

-- a session that is so far over this history, and asks whether it has come to the length k
module _ (es : List EntryTree) (before : Standing) (k : ℕ) where
  -- It is met at a length m, and told it where that is at least k; else it is refused, and nothing waits
  pub data Sees (turn : Turn) : Type 0 where
    seen : (m : ℕ) → IsSeen es before.low m → k ≤ m → turn ≡ stepped (record before { low = m }) (Seen m) [] (Met m ∷ []) → Sees turn
    not_yet : (m : ℕ) → IsSeen es before.low m → m < k
        → turn ≡ stepped (record before { low = m }) (Refused m refusals.not_yet) [] (Met m ∷ []) → Sees turn
