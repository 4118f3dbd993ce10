-- Why a text has no answer.
use Rattle.std.specs.Prelude.{ℕ, List}
use Rattle.answer_commands.specs.declared.answering.AnswerError.{AnswerError}
use Rattle.answer_commands.specs.declared.answering.AnswerError.TheVariants.{Wrong, Memory as NoMemory}
use Rattle.run_streams.specs.Flaws.{flaw_tree}
use Rattle.run_streams.specs.Refusals.{Form}

-- why a text has no answer is so: this line is the lowest that is wrong, this is wrong with it, and the text has not the form; want of memory
-- says nothing
abbrev pub IsAnswerError : Form → List ℕ → AnswerError → Type 0
IsAnswerError form text (Wrong k flaw) = form.wrong text k (flaw_tree flaw) × ¬ form.formed text
IsAnswerError form text NoMemory = Unit {0}
