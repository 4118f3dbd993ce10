-- What sessions over one journal are answered, one request after another.
use Rattle.std.specs.Prelude.{◌≡◌, ◌+◌, ℕ, List, [], ◌∷◌, ◌++◌, Option, None, slice_get, slice_set, unwrap_or, replicate}
use Rattle.policy_history.specs.declared.heads.Head.{Head}
use Rattle.policy_history.specs.Events.{EntryTree}
use Rattle.authority_ask.specs.Panels.{Told}
use Rattle.session_wire.specs.declared.replies.Reply.{Reply}
use Rattle.session_core.specs.declared.lines.Asking.{Asking}
use Rattle.session_core.specs.Answers.{Outcome, HasOutcome}

-- how far it is: the entries of the journal, and for each session in its place the principal that is admitted, or none
pub record Point : Type 0 where
  pub entries : List EntryTree
  pub admitted : List (Option ℕ)

-- the principal that is admitted in the session in this place
abbrev pub admitted_in : Point → ℕ → Option ℕ
admitted_in point place = unwrap_or (slice_get point.admitted place) None

-- the point behind an outcome of the session in this place
abbrev pub behind : Point → ℕ → Outcome → Point
behind point place outcome = record { entries = point.entries ++ outcome.added; admitted = slice_set point.admitted place outcome.who }

-- the request has this outcome at the point; the number of its session is its place behind that of the first session
abbrev pub Answers : Head → ℕ → Point → Asking → Outcome → Type 0
Answers h first point asking outcome =
    HasOutcome h point.entries (first + asking.place) (admitted_in point asking.place) asking.request outcome

-- `Told1 h first point askings replies asks last`: the requests, in order, got these replies, authorities were asked so for
-- them, and they led from one point to the other. Each is answered behind the entries that those before it left, and its
-- asks stand next among all.
abbrev pub Told1 : Head → ℕ → Point → List Asking → List Reply → List Told → Point → Type 0
Told1 h first point [] [] asks last = (asks ≡ []) × (last ≡ point)
Told1 h first point (asking ∷ askings) (reply ∷ replies) asks last =
    (outcome : Outcome) × (later : List Told) × Answers h first point asking outcome × (outcome.reply ≡ reply)
    × (asks ≡ outcome.asks ++ later) × Told1 h first (behind point asking.place outcome) askings replies later last
Told1 h first point _ _ asks last = ⊥

-- the point behind these entries at which nobody is admitted yet in any of the 64 sessions
abbrev pub at_start : List EntryTree → Point
at_start es = record { entries = es; admitted = replicate 64 None }
