use Rattle.std.proofs.Common.{arith}
use Rattle.nal_term.specs.Trees.{formula_tree}
use Rattle.proof_text.specs.Inner.Reading.{head_of}
use Rattle.proof_text.proofs.LineParts as parts
use Rattle.proof_text.proofs.lines.line.Goals as goal

pub returns-in-Ok-None-clause-err : goal.returns-in-Ok-None-clause-err
returns-in-Ok-None-clause-err c = λ _. parts.wrong_form c.args.due c.args.segment.now (rw c.in-Ok-None.field-0-is at c.in-Ok-None.ensures)

pub returns-then-head-due-clause-err : goal.returns-then-head-due-clause-err
returns-then-head-due-clause-err c =
    λ _. parts.wrong_number c.args.due c.args.segment.now (head_of c.in-Ok-Some.head) c.in-Ok-Some.text.now (rw c.in-Ok-Some.field-0-is at c.in-Ok-Some.ensures) (omega arith)

pub returns-then-due-gt-MOST_LINES-clause-err : goal.returns-then-due-gt-MOST_LINES-clause-err
returns-then-due-gt-MOST_LINES-clause-err c =
    λ _. parts.wrong_many c.args.due c.args.segment.now (head_of c.in-Ok-Some.head) c.in-Ok-Some.text.now (rw c.in-Ok-Some.field-0-is at c.in-Ok-Some.ensures) (omega arith) (omega arith)

pub returns-in-Ok-clause-ok : goal.returns-in-Ok-clause-ok
returns-in-Ok-clause-ok c =
    parts.line_reads c.args.due c.args.segment.now (head_of c.in-Ok-Some.head) c.in-Ok-Some.text.now (rw c.in-Ok-Some.field-0-is at c.in-Ok-Some.ensures)
    (formula_tree c.in-Ok.formula) (omega arith) (omega arith) c.in-Ok.ensures.ok c.in-Ok.ensures.only

pub returns : goal.returns
returns c = record {
  ok = tt;
  err = λ _. parts.wrong_formula c.args.due c.args.segment.now (head_of c.in-Ok-Some.head) c.in-Ok-Some.text.now (rw c.in-Ok-Some.field-0-is at c.in-Ok-Some.ensures)
      (omega arith) (omega arith) c.in-Err-parse_formula.error c.in_default.not-Memory (c.in-Err-parse_formula.ensures.err c.in_default.not-Memory)
      (c.in-Err-parse_formula.ensures.error c.in_default.not-Memory);
  inner = c.in_default.not-Memory;
}
