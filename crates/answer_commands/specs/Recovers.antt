-- The command `recover`: what it answers, what is written of it, and its status.
use Rattle.std.specs.Prelude.{ℕ, List}
use Rattle.policy_history.specs.declared.heads.Head.{Head}
use Rattle.policy_history.specs.Events.{EntryTree}
use Rattle.policy_history.specs.PolicyTexts.{policy_text}
use Rattle.journal_text.specs.CutPolicies.{IsWrongCut, ReadsCut}
use Rattle.journal_text.specs.PolicyText.{Fault}
use Rattle.run_streams.specs.Runs.{SinkRun, SourceRun}
use Rattle.run_streams.specs.Ends.{Answering, RunsAnswer, answering}
use Rattle.run_streams.specs.Flaws.{FlawTree}
use Rattle.run_streams.specs.Refusals.{form_of}
use Rattle.input_flaws.specs.PolicyFlaws.{IsFaultFlaw}

-- a policy: its head and its accepted changes
pub record PolicyTree : Type 0 where
  pub head : Head
  pub entries : List EntryTree

-- the text may be cut, and what is kept of it is the text of this policy
abbrev pub IsCutOf : List ℕ → PolicyTree → Type 0
IsCutOf text policy = ReadsCut text policy.head policy.entries

-- what is kept of the text is that of some policy
abbrev pub HasCutForm : List ℕ → Type 0
HasCutForm text = (policy : PolicyTree) × IsCutOf text policy

-- line k is the lowest that is wrong, and this is wrong with it
abbrev pub IsWrongCutLine : List ℕ → ℕ → FlawTree → Type 0
IsWrongCutLine text k flaw = (fault : Fault) × IsWrongCut text k fault × IsFaultFlaw text k fault flaw

-- the text of the policy, whole
abbrev pub recover_output : PolicyTree → List ℕ
recover_output policy = policy_text policy.head policy.entries

-- what is recovered is always written with 0
abbrev pub recover_status : PolicyTree → ℕ
recover_status policy = 0

abbrev pub recover_command : Answering PolicyTree
recover_command = answering (form_of HasCutForm IsWrongCutLine) IsCutOf recover_output recover_status

-- a run of `recover`
abbrev pub RunsRecover : SourceRun → SinkRun → ℕ → Type 0
RunsRecover source sink status = RunsAnswer recover_command source sink status
