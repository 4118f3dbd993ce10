-- The command `compact`: what it answers, what is written of it, and how a run of it ends.
use Rattle.std.specs.Prelude.{◌≡◌, ◌≢◌, ℕ, List, []}
use Rattle.nx_io.specs.Streams.{one_more}
use Rattle.policy_history.specs.declared.heads.Head.{Head}
use Rattle.policy_history.specs.Events.{EntryTree}
use Rattle.policy_history.specs.PolicyTexts.{policy_text}
use Rattle.journal_text.specs.PolicyText.{ReadsAs}
use Rattle.policy_compaction.specs.declared.compaction.Compacted.{Compacted}
use Rattle.policy_compaction.specs.Compactions.{IsCompaction}
use Rattle.policy_compaction.specs.Kept.{compacted, numbers_text}
use Rattle.run_streams.specs.Refusals.{form_of}
use Rattle.run_streams.specs.Runs.{IsProperPart, SinkRun, SourceRun}
use Rattle.run_streams.specs.Ends.{Answering, IsAnswerOf, RunsAnswer, answering}
use Rattle.answer_commands.specs.Exports.{HasPolicyForm, IsWrongPolicyLine}

-- the text is that of a policy, and the answer has the text of what is left of it, which reads as that, and the numbers of its labels
pub record IsCompactOf (text : List ℕ) (answer : Compacted) : Type 0 where
  pub head : Head
  pub entries : List EntryTree
  pub policy : ReadsAs text head entries
  pub compaction : IsCompaction head entries (compacted entries)
  pub text_is : answer.text ≡ policy_text head (compacted entries)
  pub read_again : ReadsAs answer.text head (compacted entries)
  pub numbers_are : answer.numbers ≡ numbers_text entries

-- the text of what is left
abbrev pub compact_output : Compacted → List ℕ
compact_output answer = answer.text

-- what is left is always written with 0
abbrev pub compact_status : Compacted → ℕ
compact_status answer = 0

abbrev pub compact_command : Answering Compacted
compact_command = answering (form_of HasPolicyForm IsWrongPolicyLine) IsCompactOf compact_output compact_status

-- How the run ends with its records, where it came to this status up to the end of the text: the numbers are written behind a text that was
-- written, or a proper part of them, since the records failed; else nothing is.
pub data EndsNumbers (source : SourceRun) (records : SinkRun) (text status : ℕ) : Type 0 where
  written : (answer : Compacted) → text ≡ 0 → status ≡ 0 → IsAnswerOf compact_command source answer → records.sent ≡ answer.numbers
      → records.faults_now ≡ records.faults → EndsNumbers source records text status
  cut_off : (answer : Compacted) → text ≡ 0 → status ≡ 5 → IsAnswerOf compact_command source answer → IsProperPart records.sent answer.numbers
      → records.faults_now ≡ one_more records.faults → EndsNumbers source records text status
  unwritten : text ≢ 0 → status ≡ text → records.sent ≡ [] → records.faults_now ≡ records.faults → EndsNumbers source records text status

-- a run of `compact`
pub record RunsCompact (source : SourceRun) (sink records : SinkRun) (status : ℕ) : Type 0 where
  pub text_status : ℕ
  pub text : RunsAnswer compact_command source sink text_status
  pub numbers : EndsNumbers source records text_status status
