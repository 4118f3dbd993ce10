-- When a record is right: its verdict is the one that the journal gives at its point.
use Rattle.std.specs.Prelude.{◌≡◌, ℕ, List, [], Bool, true, length, replicate, take, Option, Some, None}
use Rattle.proof_lines.specs.Lines.{LineTree}
use Rattle.nal_rules.specs.Asking.{Asked, IsAsked, IsDecided, lines_of}
use Rattle.nal_rules.specs.Verdicts.{CaseTree, IsVerdict, ask_place}
use Rattle.nal_rules.specs.declared.verdicts.Verdict.{Verdict}
use Rattle.object_table.specs.Objects.{number_of}
use Rattle.case_verdict.specs.OpenCases.{IsAskLine}
use Rattle.policy_history.specs.declared.heads.Head.{Head}
use Rattle.policy_history.specs.Events.{EntryTree}
use Rattle.policy_history.specs.States.{State}
use Rattle.policy_history.specs.Judged.{case_at}
use Rattle.policy_history.specs.Machine.{replay}
use Rattle.audit_check.specs.declared.records.Answers.{Answers}
use Rattle.audit_check.specs.declared.records.Answers.TheVariants.{Known, Unknown}
use Rattle.audit_check.specs.declared.records.Recorded.{Recorded}
use Rattle.audit_check.specs.declared.records.Recorded.TheVariants.{NoObject, Told, Down}
use Rattle.audit_check.specs.declared.records.Record.{Record}

-- the answers of a record may be these: where they are known, they are
abbrev pub MayBe : Answers → List Bool → Type 0
MayBe (Known given) answers = given ≡ answers
MayBe Unknown answers = Unit {0}

-- with these answers, each of which was asked for, and with no ask more, the case has this verdict
pub record IsToldWith (c : CaseTree) (answers : List Bool) (verdict : Verdict) : Type 0 where
  pub asks : List Asked
  pub asked : IsAsked c answers asks
  pub all : length asks ≡ length answers
  pub told : IsVerdict c answers verdict

-- there are answers, which may be those of the record, with which the case has this verdict
abbrev pub IsTold : CaseTree → Answers → Verdict → Type 0
IsTold c given verdict = (answers : List Bool) × MayBe given answers × IsToldWith c answers verdict

-- a Yes for each ask line before line k
abbrev pub yes_before : List LineTree → ℕ → List Bool
yes_before proof k = replicate (ask_place proof k) true

-- only answers of authorities decide the case, line k is an ask line, and those before it were answered Yes
pub record IsDown (c : CaseTree) (given : Answers) (k : ℕ) : Type 0 where
  pub undecided : ¬ IsDecided c
  pub ask_line : IsAskLine (lines_of c) k
  pub before : MayBe given (yes_before (lines_of c) k)

-- what was recorded is right of a case
abbrev pub IsRightOf : CaseTree → Answers → Recorded → Type 0
IsRightOf c given NoObject = ⊥
IsRightOf c given (Told verdict) = IsTold c given verdict
IsRightOf c given (Down k) = IsDown c given k

-- the record is right in a state in which the object has this number, or there is none with its name; then nothing was asked
abbrev pub IsRightOn : Head → State → Record → Option ℕ → Type 0
IsRightOn h s r None = (r.verdict ≡ NoObject) × MayBe r.answers []
IsRightOn h s r (Some n) = IsRightOf (case_at h s r.principal r.op n) r.answers r.verdict

abbrev pub IsRightIn : Head → State → Record → Type 0
IsRightIn h s r = IsRightOn h s r (number_of s.objects r.object)

-- the record is right: it is so in the state that the entries before its point lead to
abbrev pub IsRightRecord : Head → List EntryTree → Record → Type 0
IsRightRecord h es r = IsRightIn h (replay h (take r.at es)) r
