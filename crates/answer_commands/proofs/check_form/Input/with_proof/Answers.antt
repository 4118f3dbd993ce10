use Rattle.std.proofs.Common.{◌+◌, refl}
use Rattle.answer_commands.proofs.Wrongs.{proof_wrong_by}
use Rattle.answer_commands.proofs.check_form.Input.with_proof.Goals as goal

pub returns : goal.returns
returns c = record {
  ok = tt;
  only = tt;
  wrong = rw c.by.ensures
      (proof_wrong_by c.args.rest.now c.args.lines (c.args.lines + c.line_of_error.result) c.line_of_error.result c.in-Err.error c.proof_flaw.result (c.in-Err.ensures.err c.in_default.not-Memory)
      c.line_of_error.ensures.line refl c.proof_flaw.ensures);
  refused = λ n ps. c.in-Err.ensures.refused c.in_default.not-Memory ps;
}
