use Rattle.nal_term.specs.Trees.{term_tree}
use Rattle.input_flaws.proofs.LineFlaws.{term_behind}
use Rattle.input_flaws.proofs.flaws.term_error_behind.Goals as goal

pub returns-in_default-parse_term-clause-found : goal.returns-in_default-parse_term-clause-found
returns-in_default-parse_term-clause-found c =
    term_behind c.args.word.now c.in-Some.text.now c.args.line.now (term_tree c.in_default-parse_term.field-0) c.in-Some.ensures c.in_default-parse_term.ensures.ok
