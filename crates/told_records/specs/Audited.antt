-- What the auditor says of what a service recorded.
use Rattle.std.specs.Prelude.{◌≡◌, ◌≢◌, ◌≤◌, ℕ, List, [], ◌∷◌, ◌++◌, All, Contains, length, false}
use Rattle.std.specs.List.{flat_map}
use Rattle.nx_io.specs.Streams.{Rose}
use Rattle.proof_text.specs.Laws.{IsOneLine}
use Rattle.policy_history.specs.declared.heads.Head.{Head}
use Rattle.policy_history.specs.Events.{EntryTree}
use Rattle.policy_history.specs.PolicyTexts.{ended}
use Rattle.authority_ask.specs.Panels.{Told as Ask}
use Rattle.session_wire.specs.declared.requests.Request.{Request}
use Rattle.session_wire.specs.declared.replies.Reply.{Reply}
use Rattle.session_wire.specs.Frames.{HasFrame}
use Rattle.journal_text.specs.CutPolicies.{ReadsCut}
use Rattle.journal_text.specs.PolicyLaws.{IsKeptEvent}
use Rattle.verdict_words.specs.Settling.{flat}
use Rattle.verdict_words.specs.declared.views.Item.{Item}
use Rattle.audit_check.specs.declared.audits.Audited.TheVariants.{Right}
use Rattle.audit_form.specs.Answers.{IsToldOf}
use Rattle.audit_form.specs.AuditForm.{most_records}
use Rattle.audit_form.specs.AuditLaws.{audit_text}
use Rattle.session_core.specs.Records.{Kept}
use Rattle.session_core.specs.Standing.{Standing}
use Rattle.session_core.specs.Told.{IsTold}
use Rattle.told_records.specs.Recordings.{AreRightLines}

-- ---- What was sent is audited

-- each keeper was sent its lines, none of which has a line feed, and behind them bytes without one, where a record was cut off
abbrev pub AreSent : List (List (List ℕ)) → List Kept → Type 0
AreSent [] [] = Unit {0}
AreSent (lines ∷ others) (kept ∷ keepers) =
    ((part : List ℕ) × (kept.sent ≡ flat_map ended lines ++ part) × All IsOneLine lines × IsOneLine part × (kept.broken ≡ false → part ≡ [])) × AreSent others keepers
AreSent _ _ = ⊥

-- What a service recorded that wrote this text: the lines of its keepers. The policy that is recovered from the text, whole or cut, and
-- behind it at most 65,536 of these lines, of one keeper or of several, in any order, are audited, and all are right. A
-- policy is recovered where there is a line and the sink of the text did not fail, by its count of faults before and after
pub record AreAudited (faults faults_now : ℕ) (text : List ℕ) (keepers : List Kept) : Type 0 where
  pub lines : List (List (List ℕ))
  pub sent : AreSent lines keepers
  pub audited : (h : Head) (es : List EntryTree) (chosen : List (List ℕ)) → ReadsCut text h es → All (Contains (flat lines)) chosen → length chosen ≤ most_records
      → IsToldOf (audit_text h es chosen) (record { count = length chosen; audited = Right })
  pub recovered : ¬ Rose faults faults_now → flat lines ≢ [] → (h : Head) × (es : List EntryTree) × ReadsCut text h es

-- ---- The laws by which it is so

-- an entry of this session, as the program keeps one
abbrev pub IsKeptOf : ℕ → EntryTree → Type 0
IsKeptOf s e = (e.session ≡ s) × IsKeptEvent e.event

-- the entries that come of the frames of a session are such
abbrev pub AddedAreKept : Type 0
AddedAreKept =
    (h : Head) (es : List EntryTree) (s low : ℕ) (requests : List Request) (replies : List Reply) (asks : List Ask) (trail : List Item) (last : Standing)
    → All HasFrame requests → (told : IsTold h es s low requests replies asks trail last) → All (IsKeptOf s) told.added

-- nothing was sent to the keeper
abbrev pub IsFresh : Kept → Type 0
IsFresh kept = (kept.sent ≡ []) × (kept.broken ≡ false)

-- what was sent to each keeper is the lines of right records, and at most a part of one behind them
abbrev pub HaveRightLines : Head → List EntryTree → List Kept → List Kept → Type 0
HaveRightLines h es [] [] = Unit {0}
HaveRightLines h es (kept ∷ keepers) (kept_now ∷ keepers_now) = AreRightLines h es kept kept_now × HaveRightLines h es keepers keepers_now
HaveRightLines h es _ _ = ⊥

-- whatever is recovered from the text has this head, and begins with these entries
abbrev pub RecoversTo : List ℕ → Head → List EntryTree → Type 0
RecoversTo text h es = (g : Head) (fs : List EntryTree) → ReadsCut text g fs → (g ≡ h) × (later : List EntryTree) × (fs ≡ es ++ later)

-- right lines over the policy of a text are audited
abbrev pub RightKeepersAreAudited : Type 0
RightKeepersAreAudited =
    (faults faults_now : ℕ) (text : List ℕ) (h : Head) (es : List EntryTree) (keepers keepers_now : List Kept) → RecoversTo text h es
    → (¬ Rose faults faults_now → ReadsCut text h es) → All IsFresh keepers → HaveRightLines h es keepers keepers_now → AreAudited faults faults_now text keepers_now

-- so is nothing, behind any text
abbrev pub FreshKeepersAreAudited : Type 0
FreshKeepersAreAudited = (faults faults_now : ℕ) (text : List ℕ) (keepers : List Kept) → All IsFresh keepers → AreAudited faults faults_now text keepers
