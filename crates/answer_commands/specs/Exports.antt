-- The command `export`: what it answers, what is written of it, and its status.
use Rattle.std.specs.Prelude.{◌≡◌, ℕ, List, [], ◌∷◌, ◌++◌, codes, Option, Some, None}
use Rattle.label_store.specs.LabelRows.{LabelRow, labels_of}
use Rattle.policy_history.specs.declared.heads.Head.{Head}
use Rattle.policy_history.specs.Events.{EntryTree, numbered}
use Rattle.policy_history.specs.Machine.{replay}
use Rattle.journal_text.specs.PolicyText.{Fault, IsWrongFrom, ReadsAs, header_due}
use Rattle.peer_labels.specs.Bundles.{bundle_text}
use Rattle.run_streams.specs.Flaws.{FlawTree}
use Rattle.run_streams.specs.Refusals.{form_of}
use Rattle.input_flaws.specs.PolicyFlaws.{IsFaultFlaw}
use Rattle.run_streams.specs.Runs.{SinkRun, SourceRun}
use Rattle.answer_commands.specs.declared.answers.Exported.{Exported}
use Rattle.run_streams.specs.Ends.{Answering, RunsAnswer, answering}

-- the text is that of a policy
abbrev pub HasPolicyForm : List ℕ → Type 0
HasPolicyForm text = (h : Head) × (es : List EntryTree) × ReadsAs text h es

-- line k is the lowest that is wrong, and this is wrong with it
abbrev pub IsWrongPolicyLine : List ℕ → ℕ → FlawTree → Type 0
IsWrongPolicyLine text k flaw = (fault : Fault) × IsWrongFrom header_due text k fault × IsFaultFlaw text k fault flaw

-- the bundle of the labels that the principal with this number holds; none where there is no principal
abbrev pub bundle_of : List LabelRow → Option ℕ → Option (List ℕ)
bundle_of rows None = None
bundle_of rows (Some p) = Some (bundle_text (labels_of rows p))

-- the text is that of a policy, and this is the bundle of the principal that has the name there, or none where nobody has it
pub record IsExportOf (name text : List ℕ) (answer : Exported) : Type 0 where
  pub head : Head
  pub entries : List EntryTree
  pub policy : ReadsAs text head entries
  pub bundle : answer.bundle ≡ bundle_of (replay head entries).labels (numbered head.principals name)

-- what is written where there is no principal of the name
abbrev pub no_principal : List ℕ
no_principal = codes "no principal" ++ 10 ∷ []

-- the bundle, or that there is no principal
abbrev pub export_output : Exported → List ℕ
export_output answer = of answer.bundle
  where
    of : Option (List ℕ) → List ℕ
    of (Some bundle) = bundle
    of None = no_principal

-- 0 exactly where there is a principal of the name
abbrev pub export_status : Exported → ℕ
export_status answer = of answer.bundle
  where
    of : Option (List ℕ) → ℕ
    of (Some bundle) = 0
    of None = 1

-- `export` with the name of a principal
abbrev pub export_command : List ℕ → Answering Exported
export_command name = answering (form_of HasPolicyForm IsWrongPolicyLine) (IsExportOf name) export_output export_status

-- a run of `export`
abbrev pub RunsExport : List ℕ → SourceRun → SinkRun → ℕ → Type 0
RunsExport name source sink status = RunsAnswer (export_command name) source sink status
