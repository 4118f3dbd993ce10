-- What is reported of a session over a shared board.
use Rattle.std.specs.Prelude.{◌≡◌, ◌<◌, ◌≤◌, ◌-◌, ℕ, List, [], ◌∷◌, length, take, Option}
use Rattle.policy_history.specs.declared.heads.Head.{Head}
use Rattle.policy_history.specs.Events.{EntryTree}
use Rattle.authority_ask.specs.Panels.{Told as Ask}
use Rattle.session_wire.specs.declared.requests.Request.{Request}
use Rattle.session_wire.specs.declared.replies.Reply.{Reply}
use Rattle.verdict_words.specs.declared.views.Item.{Item}
use Rattle.session_core.specs.declared.ends.SessionEnd.{SessionEnd}
use Rattle.session_core.specs.Ends.{HasEnded}
use Rattle.session_core.specs.Records.{AreNoted, IsUnrecorded, Kept}
use Rattle.session_core.specs.Standing.{Standing, beginning}
use Rattle.session_core.specs.Told.{IsTold}

-- What is reported of a session: its number, how it ended, who was admitted in it, what was taken from its link and sent to
-- it, the history that its pass has seen, and the steps of its pass.
pub record Reported : Type 0 where
  pub session : ℕ
  pub end : SessionEnd
  pub who : Option ℕ
  pub taken : List ℕ
  pub sent : List ℕ
  pub seen : List EntryTree
  pub trail : List Item

-- A session was told what its link says, with these asks, and so much was recorded of it. The last `later` steps of its pass were made
-- behind its end.
pub record IsServedSo (h : Head) (low : ℕ) (report : Reported) (asks : List Ask) (later : ℕ) (kept kept_now : Kept) : Type 0 where
  pub requests : List Request
  pub replies : List Reply
  pub last : Standing
  pub ended : HasEnded report.end report.taken report.sent requests replies
  pub told : IsTold h report.seen report.session low requests replies asks (take (length report.trail - later) report.trail) last
  pub noted : AreNoted h report.seen report.session (beginning told.first) requests replies asks told.steps told.added last told.leads kept kept_now
  pub who_is : last.who ≡ report.who

-- some of these requests, which are changes, were told not to be recorded only where this is so
abbrev pub UnrecordedOnlyWhere : Type 0 → List Request → List Reply → Type 0
UnrecordedOnlyWhere Holds (request ∷ requests) (reply ∷ replies) = (IsUnrecorded request reply → Holds) × UnrecordedOnlyWhere Holds requests replies
UnrecordedOnlyWhere Holds [] [] = Unit {0}
UnrecordedOnlyWhere Holds _ _ = ⊥

-- so many changes were told not to be recorded before, and so many now; more where one of these replies tells it
pub record AreCounted (count count_now : ℕ) (requests : List Request) (replies : List Reply) : Type 0 where
  pub later : count ≤ count_now
  pub counted : UnrecordedOnlyWhere (count < count_now) requests replies

-- The same, and each change that was told not to be recorded was counted
pub record IsServedOver (h : Head) (low : ℕ) (report : Reported) (asks : List Ask) (count count_now : ℕ) (kept kept_now : Kept) : Type 0 where
  pub served : IsServedSo h low report asks 0 kept kept_now
  pub counted : AreCounted count count_now served.requests served.replies
