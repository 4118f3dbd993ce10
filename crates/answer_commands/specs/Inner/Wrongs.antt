-- Why a text has no answer, where what is wrong with a line of it was to be told.
use Rattle.std.specs.Prelude.{◌≡◌, ℕ, List, Result, Ok, Err}
use Rattle.std.specs.declared.alloc.AllocError.{AllocError}
use Rattle.journal_text.specs.declared.policy_reader.PolicyError.{PolicyError}
use Rattle.journal_text.specs.declared.policy_reader.PolicyError.TheVariants.{Bad, Refused, TooLong, Memory as NoPolicyMemory}
use Rattle.run_streams.specs.Flaws.{FlawTree, flaw_tree}
use Rattle.run_streams.specs.declared.flaws.Flaw.{Flaw}
use Rattle.input_flaws.specs.PolicyFlaws.{IsPolicyFlaw}
use Rattle.answer_commands.specs.declared.answering.AnswerError.{AnswerError}
use Rattle.answer_commands.specs.declared.answering.AnswerError.TheVariants.{Wrong, Memory}

-- the error of a text in which line k is wrong, where what is wrong with it could be told
abbrev pub wrong_by : ℕ → Result Flaw AllocError → AnswerError
wrong_by k (Ok flaw) = Wrong k flaw
wrong_by k (Err e) = Memory

-- line k is told, with a flaw that is so; want of memory says nothing
abbrev pub IsWrongBy : (FlawTree → Type 0) → ℕ → AnswerError → Type 0
IsWrongBy IsFlaw k (Wrong j flaw) = (j ≡ k) × IsFlaw (flaw_tree flaw)
IsWrongBy IsFlaw k Memory = Unit {0}

-- the same of the line of a policy's error
abbrev pub IsWrongPolicyBy : List ℕ → PolicyError → AnswerError → Type 0
IsWrongPolicyBy text (Bad k) error = IsWrongBy (IsPolicyFlaw text (Bad k)) k error
IsWrongPolicyBy text (Refused k number) error = IsWrongBy (IsPolicyFlaw text (Refused k number)) k error
IsWrongPolicyBy text TooLong error = ⊥
IsWrongPolicyBy text NoPolicyMemory error = error ≡ Memory
