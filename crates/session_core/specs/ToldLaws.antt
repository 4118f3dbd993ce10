-- Laws of what a session over a shared board is told.
use Rattle.std.specs.Prelude.{◌≡◌, ◌≤◌, ◌⊎◌, ℕ, List, [], ◌∷◌, ◌++◌, Bool, true, false}
use Rattle.std.specs.List.{list_any}
use Rattle.policy_history.specs.declared.heads.Head.{Head}
use Rattle.policy_history.specs.Events.{EntryTree}
use Rattle.authority_ask.specs.PanelCalls.{downs_in}
use Rattle.authority_ask.specs.Panels.{Told as Ask}
use Rattle.session_wire.specs.declared.requests.Request.{Request}
use Rattle.session_wire.specs.declared.replies.Reply.{Reply}
use Rattle.session_wire.specs.declared.replies.Reply.TheVariants.{Allowed, Done}
use Rattle.verdict_words.specs.declared.views.Item.{Item}
use Rattle.verdict_words.specs.declared.views.Item.TheVariants.{Ran}
use Rattle.session_core.specs.declared.lines.Asking.{Asking}
use Rattle.session_core.specs.Answers.{downs_told}
use Rattle.session_core.specs.Records.{IsToldAndNoted, IsUnrecordedCall, Kept}
use Rattle.session_core.specs.Sessions.{Point, Told1}
use Rattle.session_core.specs.Standing.{Standing}
use Rattle.session_core.specs.Calls.{Turn}
use Rattle.session_core.specs.Told.{Answers, IsTold}

-- whether a step is one on a register
abbrev pub is_ran : Item → Bool
is_ran (Ran object step value) = true
is_ran _ = false

-- what a session was told it was told over every longer history too
abbrev pub ToldStaysTold : Type 0
ToldStaysTold =
    (h : Head) (es more : List EntryTree) (s low : ℕ) (requests : List Request) (replies : List Reply) (asks : List Ask) (trail : List Item) (last : Standing)
    → IsTold h es s low requests replies asks trail last → IsTold h (es ++ more) s low requests replies asks trail last

-- and what was recorded of it was so
abbrev pub NotedStaysNoted : Type 0
NotedStaysNoted =
    (h : Head) (es more : List EntryTree) (s low : ℕ) (requests : List Request) (replies : List Reply) (asks : List Ask) (trail : List Item) (last : Standing) (kept kept_now : Kept)
    → IsToldAndNoted h es s low requests replies asks trail last kept kept_now → IsToldAndNoted h (es ++ more) s low requests replies asks trail last kept kept_now

-- no request steps on a register but one that is replied Allowed
abbrev pub OnlyAllowedRuns : Type 0
OnlyAllowedRuns =
    (h : Head) (es : List EntryTree) (s : ℕ) (before : Standing) (request : Request) (turn : Turn)
    → Answers h es s before request turn → (list_any is_ran turn.steps ≡ false) ⊎ ((at hit value : ℕ) × (turn.reply ≡ Allowed at hit value))

-- no request makes an entry but one that is replied Done
abbrev pub OnlyDoneAdds : Type 0
OnlyDoneAdds =
    (h : Head) (es : List EntryTree) (s : ℕ) (before : Standing) (request : Request) (turn : Turn)
    → Answers h es s before request turn → (turn.added ≡ []) ⊎ ((at number : ℕ) × (turn.reply ≡ Done at number))

-- no call was told that its record could not be sent
abbrev pub AreAllRecorded : List Request → List Reply → Type 0
AreAllRecorded (request ∷ requests) (reply ∷ replies) = ¬ IsUnrecordedCall request reply × AreAllRecorded requests replies
AreAllRecorded _ _ = Unit {0}

-- authorities were down as often as the replies of a session tell it; and not less often, where a record could not be sent
abbrev pub DownsAreTold : Type 0
DownsAreTold =
    (h : Head) (es : List EntryTree) (s low : ℕ) (requests : List Request) (replies : List Reply) (asks : List Ask) (trail : List Item) (last : Standing)
    → IsTold h es s low requests replies asks trail last → (downs_told replies ≤ downs_in asks) × (AreAllRecorded requests replies → downs_in asks ≡ downs_told replies)

-- and so it is of sessions over one journal, with no others
abbrev pub DownsAreToldAlone : Type 0
DownsAreToldAlone =
    (h : Head) (first : ℕ) (point : Point) (askings : List Asking) (replies : List Reply) (asks : List Ask) (last : Point)
    → Told1 h first point askings replies asks last → downs_in asks ≡ downs_told replies
