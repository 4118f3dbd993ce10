use Rattle.std.proofs.Common.{refl, sym, subst}
use Rattle.policy_history.specs.Values.{entry_trees}
use Rattle.journal_text.specs.PolicyFronts.{IsFront}
use Rattle.service_commands.specs.Services.{behind}
use Rattle.service_commands.proofs.ServiceEnds.{bad_line, nothing_left, refused_line, something_left}
use Rattle.service_commands.proofs.service.read_policy_text.Goals as goal

pub returns-then-is_empty-clause-ok : goal.returns-then-is_empty-clause-ok
returns-then-is_empty-clause-ok c =
    let front = c.in-Ok.field-0 in
    (c.requires, (front.lines, subst (λ r. IsFront c.args.most c.args.text.now front.journal.head (entry_trees front.journal.entries) front.lines r) (nothing_left front.rest.now (sym c.if-is_empty.ensures)) c.in-Ok.ensures.ok))

pub returns-else-is_empty-clause-wrong : goal.returns-else-is_empty-clause-wrong
returns-else-is_empty-clause-wrong c = behind c.in-Ok.ensures.ok (something_left c.in-Ok.field-0.rest.now (sym c.if-is_empty.ensures)) refl

pub returns-in-Err-Bad-clause-wrong : goal.returns-in-Err-Bad-clause-wrong
returns-in-Err-Bad-clause-wrong c = bad_line c.args.most c.args.text.now c.in-Err-Bad.line (rw c.in-Err-Bad.field-0-is at c.in-Err-Bad.ensures.err)

pub returns-in-Err-Refused-clause-wrong : goal.returns-in-Err-Refused-clause-wrong
returns-in-Err-Refused-clause-wrong c = refused_line c.args.most c.args.text.now c.in-Err-Refused.line c.in-Err-Refused.field-0-1 (rw c.in-Err-Refused.field-0-is at c.in-Err-Refused.ensures.err)
