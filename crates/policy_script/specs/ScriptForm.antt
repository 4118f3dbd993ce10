-- The input of `script`: the text of a policy, and then a line for each request.
use Rattle.std.specs.Prelude.{◌≡◌, ◌≢◌, ◌<◌, ◌≤◌, ◌+◌, ◌-◌, ◌^◌, ℕ, List, [], ◌∷◌, length}
use Rattle.std.specs.Fmt.{decimal}
use Rattle.policy_history.specs.declared.heads.Head.{Head}
use Rattle.policy_history.specs.Events.{EntryTree}
use Rattle.policy_history.specs.PolicyLines.{spaced}
use Rattle.text_lines.specs.Lines.{first_line, after_line}
use Rattle.session_core.specs.declared.lines.Asking.{Asking}
use Rattle.journal_text.specs.RequestLines.{IsRequestLine}
use Rattle.journal_text.specs.PolicyText.{header_due, ended_with, Leads, most_bytes}
use Rattle.journal_text.specs.PolicyFronts.{AreBelow, IsWrongFront}

-- what an input of `script` holds: a policy, and requests in their order
pub record ScriptTree : Type 0 where
  pub head : Head
  pub entries : List EntryTree
  pub askings : List Asking

-- The line of a request: the number of its session among the 64, a space, and the request's own line. The sessions count
-- from 1, and their places from 0.
pub record IsAskingLine (line : List ℕ) (asking : Asking) : Type 0 where
  pub text : List ℕ
  pub formed : line ≡ spaced (decimal (asking.place + 1)) text
  pub place : asking.place < 64
  pub request : IsRequestLine text asking.request

-- the lines of the text are those of these requests
pub data AreAskings : List ℕ → List Asking → Type 0 where
  none : AreAskings [] []
  next : {text : List ℕ} {asking : Asking} {askings : List Asking} → text ≢ [] → IsAskingLine (first_line text) asking
      → AreAskings (after_line text) askings → AreAskings text (asking ∷ askings)

-- the greatest number that a session of the policy's entries may have, so that the number after those of 64 more is below the
-- greatest of its type
abbrev pub most_session : ℕ
most_session = 2 ^ 64 - 66

-- the text holds this: lines that are the text of a policy, and behind it the lines of requests
abbrev pub IsScript : List ℕ → ScriptTree → Type 0
IsScript text script =
    (length text ≤ most_bytes)
    × ((n : ℕ) × (rest : List ℕ) × Leads header_due text n (ended_with script.head script.entries) rest × AreBelow most_session script.entries × AreAskings rest script.askings)

-- `IsWrongAsking text k`: line k of these lines is the lowest that is none of a request
pub data IsWrongAsking : List ℕ → ℕ → Type 0 where
  here : {text : List ℕ} → text ≢ [] → ((asking : Asking) → ¬ IsAskingLine (first_line text) asking) → IsWrongAsking text 1
  later : {text : List ℕ} {k : ℕ} (asking : Asking) → text ≢ [] → IsAskingLine (first_line text) asking → IsWrongAsking (after_line text) k
      → IsWrongAsking text (k + 1)

-- `IsWrongScript text k`: line k is the lowest that is wrong, in the policy or behind it; or the number after the last where
-- the policy is not ended
pub data IsWrongScript (text : List ℕ) (k : ℕ) : Type 0 where
  in_policy : IsWrongFront most_session text k → IsWrongScript text k
  in_requests : {n j : ℕ} {h : Head} {es : List EntryTree} {rest : List ℕ} → Leads header_due text n (ended_with h es) rest → AreBelow most_session es
      → IsWrongAsking rest j → k ≡ n + j → IsWrongScript text k
