use Rattle.std.proofs.Common.{[]}
use Rattle.input_flaws.specs.LineFlaws.{IsFlawAt}
use Rattle.answer_commands.specs.CheckForm.{formula_words}
use Rattle.answer_commands.proofs.Wrongs.{by_is}
use Rattle.answer_commands.proofs.check_form.wrong_line.Goals as goal

pub returns : goal.returns
returns c = rw c.by.ensures (by_is (IsFlawAt formula_words [] c.args.text.now c.args.line) c.args.line c.flaw_at.result c.flaw_at.ensures)
