use Rattle.std.proofs.Common.{Result, Ok, Err, IfOk}
use Rattle.nal_term.specs.Trees.{formula_tree}
use Rattle.answer_commands.specs.Inner.Forms.{form_of}
use Rattle.answer_commands.proofs.Verdicts.{empty_proof, faulty, supported, no_lines, told_some}
use Rattle.answer_commands.proofs.Justified.{justified}
use Rattle.answer_commands.proofs.judge.judge.Goals as goal

-- what follows of each value that a call gives follows of its answer
each_ok : {A E : Type 0} {P Q : A → Type 0} (r : Result A E) → ((v : A) → P v → Q v) → IfOk r P → IfOk r Q
each_ok (Ok v) f p = f v p
each_ok (Err e) f p = tt

pub returns-in-Ok-clause-verdict : goal.returns-in-Ok-clause-verdict
returns-in-Ok-clause-verdict c =
    each_ok c.support_verdict.result (λ v told. supported (form_of c.args.input.now) (formula_tree c.in_ok-goal.goal) v c.in_ok-goal.ensures
    (λ n. let e = c.check.ensures.empty.1 (no_lines c.args.input.now.proof n) in let k = c.in-Ok.is in absurd cc)
    c.in-Ok.ensures.faultless told) c.support_verdict.ensures

pub returns-in-Err-Empty-clause-verdict : goal.returns-in-Err-Empty-clause-verdict
returns-in-Err-Empty-clause-verdict c =
    empty_proof (form_of c.args.input.now) (formula_tree c.in_ok-goal.goal) c.in_ok-goal.ensures (rw c.in-Err-Empty.field-0-is at c.in-Err-Empty.ensures.line)

pub returns-in-Err-Line-clause-verdict : goal.returns-in-Err-Line-clause-verdict
returns-in-Err-Line-clause-verdict c =
    rw (c.in-Err-Line.line-is, c.in-Err-Line.fault-is) (faulty (form_of c.args.input.now) (formula_tree c.in_ok-goal.goal) c.in-Err-Line.line c.in-Err-Line.fault c.in_ok-goal.ensures
    (λ n. told_some c.check.result c.in-Err-Line.field-0 c.in-Err-Line.line c.in-Err-Line.fault c.in-Err-Line.is c.in-Err-Line.field-0-is
    (c.check.ensures.empty.1 (no_lines c.args.input.now.proof n)))
    (rw c.in-Err-Line.field-0-is at c.in-Err-Line.ensures.line))

pub returns-in-Ok-clause-justified : goal.returns-in-Ok-clause-justified
returns-in-Ok-clause-justified c =
    each_ok c.support_verdict.result (λ v told. justified (form_of c.args.input.now) (formula_tree c.in_ok-goal.goal) v c.in_ok-goal.ensures c.in-Ok.ensures.derives told)
    c.support_verdict.ensures
