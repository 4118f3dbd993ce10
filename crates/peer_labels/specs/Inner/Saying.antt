-- What one label comes to that a peer says.
use Rattle.std.specs.Prelude.{◌≡◌, ℕ, List, [], ◌∷◌, ◌++◌, Bool, true, false, Some, None}
use Rattle.nal_term.specs.Trees.{FormulaTree}
use Rattle.policy_history.specs.declared.heads.Head.{Head}
use Rattle.policy_history.specs.declared.events.Refusal.{Refusal}
use Rattle.policy_history.specs.Events.{EntryTree}
use Rattle.policy_history.specs.Machine.{refusal_of, replay}
use Rattle.peer_labels.specs.Carrying.{said_by}

-- the label is accepted, and is the next entry; or it is refused, and the entries stay
abbrev pub IsSaidOrRefused : Head → ℕ → ℕ → FormulaTree → List EntryTree → List EntryTree → Bool → Type 0
IsSaidOrRefused h session p f before now true = (refusal_of h (replay h before) session p (said_by h session p f).event ≡ None) × (now ≡ before ++ said_by h session p f ∷ [])
IsSaidOrRefused h session p f before now false = ((refusal : Refusal) × (refusal_of h (replay h before) session p (said_by h session p f).event ≡ Some refusal)) × (now ≡ before)
