use Rattle.std.proofs.Common.{map}
use Rattle.nal_term.specs.Trees.{formula_tree}
use Rattle.prove_form.proofs.Found.{told}
use Rattle.prove_form.proofs.answers.answer.Goals as goal

pub returns-in-Ok : goal.returns-in-Ok
returns-in-Ok c = let h = c.in-Ok.ensures in record {
  goal = formula_tree c.in_ok-goal.goal;
  formed = c.in_ok-goal.ensures;
  found_is = told (map formula_tree c.args.read.now.givens.labels.items) (formula_tree c.in_ok-goal.goal) c.in-Ok.found h.none h.chain h.shortest (h.faultless c.requires.closed);
}
