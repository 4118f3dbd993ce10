use Rattle.std.proofs.Common.{◌≢◌}
use Rattle.nal_term.specs.Trees.{formula_tree}
use Rattle.nal_parse.specs.declared.parse.ParseError.TheVariants.{Memory}
use Rattle.input_flaws.proofs.LineFlaws.{error_within, formula_behind}
use Rattle.input_flaws.proofs.flaws.error_behind.Goals.{in-Memory, in_default-matches}
use Rattle.input_flaws.proofs.flaws.error_behind.Goals as goal

pub returns-in_default-parse_formula-clause-found : goal.returns-in_default-parse_formula-clause-found
returns-in_default-parse_formula-clause-found c =
    formula_behind c.args.word.now c.in-Some.text.now c.args.line.now (formula_tree c.in_default-parse_formula.field-0) c.in-Some.ensures c.in_default-parse_formula.ensures.ok

pub returns-clause-within : goal.returns-clause-within
returns-clause-within c =
    let told : c.in-Err.error ≢ Memory = elim c.match-matches.branch [
      | in-Memory w ↦ absurd (cc (w.matches-is, c.if-matches.false))
      | in_default-matches w ↦ w.in_default-matches.not-Memory
    ] in
    error_within c.args.word.now c.in-Some.text.now c.args.line.now c.in-Err.error c.in-Some.ensures (c.in-Err.ensures.error told)
