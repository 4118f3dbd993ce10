use Rattle.std.proofs.Common.{sym, subst}
use Rattle.proof_lines.specs.Lines.{line_tree}
use Rattle.nal_rules.specs.Asking.{case_tree}
use Rattle.case_reasons.proofs.Asks.{IsToldOf, told_by}
use Rattle.case_reasons.proofs.lines.Judged.ask_reason.Goals as goal

pub returns-in-Some-answer_by : goal.returns-in-Some-answer_by
returns-in-Some-answer_by c =
    let case = case_tree c.args.self.now.case.now in
    let line = line_tree c.args.line.now in
    subst (IsToldOf case c.args.self.now.answers.now c.args.number line c.in-Some.port c.requires.line c.requires.ask (sym c.in-Some.ensures)) (sym c.in-Some-answer_by.ensures)
    (told_by case c.args.self.now.answers.now c.args.number line c.in-Some.port c.requires.line c.requires.ask (sym c.in-Some.ensures) c.args.self.now.verdict c.requires.told)

pub returns-in-None : goal.returns-in-None
returns-in-None c =
    let case = case_tree c.args.self.now.case.now in
    let line = line_tree c.args.line.now in
    subst (IsToldOf case c.args.self.now.answers.now c.args.number line c.in-Some.port c.requires.line c.requires.ask (sym c.in-Some.ensures)) (sym c.in-None.ensures)
    (told_by case c.args.self.now.answers.now c.args.number line c.in-Some.port c.requires.line c.requires.ask (sym c.in-Some.ensures) c.args.self.now.verdict c.requires.told)
