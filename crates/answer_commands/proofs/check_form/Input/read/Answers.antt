use Rattle.std.proofs.Common.{sym, arith}
use Rattle.answer_commands.specs.CheckForm.{start}
use Rattle.answer_commands.proofs.Inputs.{proof_error, ends_early, line_wrong, line_read, some_length}
use Rattle.answer_commands.proofs.Only.{ends_early_unread, line_wrong_unread, passes_on, passes_start, proof_only, proof_refused}
use Rattle.answer_commands.proofs.check_form.Input.read.Goals as goal

pub loop-progress-init : goal.loop-progress-init
loop-progress-init c = (start, omega arith, passes_start c.args.text.now)

pub returns-in-ProofDue-clause-wrong : goal.returns-in-ProofDue-clause-wrong
returns-in-ProofDue-clause-wrong c = proof_error c.with_proof.result (rw c.in-ProofDue.is at c.loop-progress.invariant.0) c.with_proof.ensures.wrong

pub returns-then-is_empty-clause-wrong : goal.returns-then-is_empty-clause-wrong
returns-then-is_empty-clause-wrong c = ends_early _ c.wrong_line.result c.in_default.not-ProofDue c.loop-progress.invariant.0 (sym c.if-is_empty.ensures) c.wrong_line.ensures

pub returns-in-Err-Wrong-clause-wrong : goal.returns-in-Err-Wrong-clause-wrong
returns-in-Err-Wrong-clause-wrong c =
    line_wrong _ c.wrong_line-in-Err-Wrong.result c.in_default.not-ProofDue c.loop-progress.invariant.0 c.first_line.ensures.line
    ((rw c.in-Err-Wrong.field-0-is at c.in-Err-Wrong.ensures.wrong) (λ e. cc)) c.wrong_line-in-Err-Wrong.ensures

pub loop-progress-preserved : goal.loop-progress-preserved
loop-progress-preserved c =
    let shorter = c.first_line-in-loop-progress.ensures.shorter (some_length _ (sym c.if-is_empty.ensures)) in (
      line_read c.loop-progress.invariant.0 (sym c.if-is_empty.ensures) c.first_line.ensures.line c.first_line-in-loop-progress.ensures.rest c.in-Ok.ensures.ok,
      omega (arith, c.loop-progress.invariant.1, shorter),
      passes_on _ c.in_default.not-ProofDue c.loop-progress.invariant.2 c.first_line.ensures.line c.first_line-in-loop-progress.ensures.rest c.in-Ok.ensures.only,
    )

pub returns-in-ProofDue-clause-only : goal.returns-in-ProofDue-clause-only
returns-in-ProofDue-clause-only c =
    proof_only c.with_proof.result (rw c.in-ProofDue.is at c.loop-progress.invariant.2) c.with_proof.ensures.ok c.with_proof.ensures.only

pub returns-in-ProofDue-clause-refused : goal.returns-in-ProofDue-clause-refused
returns-in-ProofDue-clause-refused c = proof_refused c.with_proof.result (rw c.in-ProofDue.is at c.loop-progress.invariant.2) c.with_proof.ensures.refused

pub returns-then-is_empty-clause-refused : goal.returns-then-is_empty-clause-refused
returns-then-is_empty-clause-refused c = λ n. ends_early_unread _ c.in_default.not-ProofDue c.loop-progress.invariant.2 (sym c.if-is_empty.ensures)

pub returns-in-Err-Wrong-clause-refused : goal.returns-in-Err-Wrong-clause-refused
returns-in-Err-Wrong-clause-refused c = λ n.
    line_wrong_unread _ c.in_default.not-ProofDue c.loop-progress.invariant.2 c.first_line.ensures.line
    ((rw c.in-Err-Wrong.field-0-is at c.in-Err-Wrong.ensures.wrong) (λ e. cc))
