use Rattle.prove_form.specs.Inner.Reading.{form_tree}
use Rattle.prove_form.specs.ProveForm.{end}
use Rattle.prove_form.proofs.Following.{after_end_due}
use Rattle.prove_form.proofs.progress.after_form.Goals as goal

pub returns-then-is_line : goal.returns-then-is_line
returns-then-is_line c = record {
  ok = end (c.is_line.ensures.0 c.if-is_line.true);
  only = λ other f. (after_end_due c.args.line.now (form_tree c.args.form) other f).1;
  wrong = tt;
}

pub returns-else-is_line : goal.returns-else-is_line
returns-else-is_line c = record {
  ok = tt;
  only = tt;
  wrong = λ n next f.
      let yes = c.is_line.ensures.1 (after_end_due c.args.line.now (form_tree c.args.form) next f).0 in
      let no = c.if-is_line.false in
      absurd (cc (yes, no));
}
