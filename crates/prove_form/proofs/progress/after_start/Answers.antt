use Rattle.prove_form.specs.ProveForm.{header}
use Rattle.prove_form.proofs.Following.{after_header}
use Rattle.prove_form.proofs.progress.after_start.Goals as goal

pub returns-then-is_line : goal.returns-then-is_line
returns-then-is_line c = record {
  ok = header (c.is_line.ensures.0 c.if-is_line.true);
  only = λ other f. (after_header c.args.line.now other f).1;
  wrong = tt;
}

pub returns-else-is_line : goal.returns-else-is_line
returns-else-is_line c = record {
  ok = tt;
  only = tt;
  wrong = λ n next f.
      let yes = c.is_line.ensures.1 (after_header c.args.line.now next f).0 in
      let no = c.if-is_line.false in
      absurd (cc (yes, no));
}
