-- What a session had recorded is right: whole lines of right records, and at most one that is cut off, behind which is nothing.
use Rattle.std.specs.Prelude.{◌≡◌, ◌≢◌, ◌⊎◌, ◌+◌, ◌-◌, ◌^◌, min, ℕ, List, [], ◌++◌, All, true, false, Option}
use Rattle.std.specs.List.{flat_map}
use Rattle.proof_text.specs.Laws.{IsOneLine}
use Rattle.policy_history.specs.declared.heads.Head.{Head}
use Rattle.policy_history.specs.Events.{EntryTree}
use Rattle.policy_history.specs.PolicyTexts.{ended}
use Rattle.authority_ask.specs.Panels.{Told as Ask}
use Rattle.session_wire.specs.declared.requests.Request.{Request}
use Rattle.session_wire.specs.declared.replies.Reply.{Reply}
use Rattle.journal_text.specs.CutLaws.{IsWritten}
use Rattle.verdict_words.specs.declared.views.Item.{Item}
use Rattle.audit_check.specs.declared.records.Recorded.{Recorded}
use Rattle.audit_form.specs.AuditLaws.{IsRightLine}
use Rattle.audit_form.specs.ReplyRecords.{Records}
use Rattle.session_core.specs.Records.{IsCall, IsLineOf, IsNoted, IsToldAndNoted, Kept}
use Rattle.session_core.specs.Standing.{Standing}

-- Between these two so many whole lines of records were sent, each right over this history, and behind them a part of a line, without a
-- line feed. There is no part where no record was cut off; where one was, the sink failed. Nothing is sent where records are not wanted,
-- or behind a record that was cut off
pub record AreRightLines (h : Head) (es : List EntryTree) (kept kept_now : Kept) : Type 0 where
  pub lines : List (List ℕ)
  pub part : List ℕ
  pub sent : kept_now.sent ≡ kept.sent ++ (flat_map ended lines ++ part)
  pub right : All (IsRightLine h es) lines
  pub one_line : IsOneLine part
  pub whole : kept_now.broken ≡ kept.broken → part ≡ []
  pub unfailed : kept_now.broken ≡ kept.broken → kept_now.faults ≡ kept.faults
  pub failed : kept_now.broken ≢ kept.broken → kept_now.faults ≡ min (kept.faults + 1) (2 ^ 64 - 1)
  pub still : (kept.wanted ≡ false) ⊎ (kept.broken ≡ true) → kept_now ≡ kept
  pub wanted : kept_now.wanted ≡ kept.wanted

-- what a session had recorded is right
abbrev pub RecordedIsRight : Type 0
RecordedIsRight =
    (h : Head) (es : List EntryTree) (s low : ℕ) (requests : List Request) (replies : List Reply) (asks : List Ask) (trail : List Item) (last : Standing) (kept kept_now : Kept)
    → IsWritten h es → IsToldAndNoted h es s low requests replies asks trail last kept kept_now → AreRightLines h es kept kept_now

-- no reply of a call that has a record goes without it, where records are wanted: the line of this record was sent, whole, and no more
abbrev pub NoneIsLeftOut : Type 0
NoneIsLeftOut =
    (h : Head) (who : Option ℕ) (request : Request) (reply : Reply) (asks : List Ask) (kept kept_now : Kept) (at : ℕ) (v : Recorded)
    → IsNoted h who request reply asks kept kept_now → IsCall request → Records reply at v → kept.wanted ≡ true
    → (line : List ℕ) × IsLineOf h who request asks at v line × (kept_now ≡ record kept { sent = kept.sent ++ line })

-- what two sessions of one worker had recorded over this history, one behind the other
abbrev pub OneBehindTheOther : Type 0
OneBehindTheOther = (h : Head) (es : List EntryTree) (kept kept_then kept_now : Kept) → AreRightLines h es kept kept_then → AreRightLines h es kept_then kept_now → AreRightLines h es kept kept_now
