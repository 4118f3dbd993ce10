use Rattle.std.proofs.Common.{[], refl, arith}
use Rattle.form_lines.proofs.ForCallers.{wrong_line_within}
use Rattle.policy_script.proofs.Askings.{requests_lead, requests_read, wrong_request}
use Rattle.policy_script.proofs.input.read_askings.Goals as goal

pub returns-in-Ok-clause-ok : goal.returns-in-Ok-clause-ok
returns-in-Ok-clause-ok c =
    let leads = rw c.new.ensures.items at c.in-Ok.ensures.ok in
    let h = requests_read leads.1 refl in
    rw h.2 h.1

pub returns-in-Ok-clause-only : goal.returns-in-Ok-clause-only
returns-in-Ok-clause-only c = λ others are. c.in-Ok.ensures.only others (rw c.new.ensures.items (requests_lead [] are))

pub overflow_add-result : goal.overflow_add-result
overflow_add-result c = let within = wrong_line_within (rw c.in-Err-Wrong.field-0-is at c.in-Err-Wrong.ensures.wrong) in omega (arith, within, c.requires)

pub returns-in-Err-Wrong-clause-wrong : goal.returns-in-Err-Wrong-clause-wrong
returns-in-Err-Wrong-clause-wrong c =
    let w = rw (c.in-Err-Wrong.field-0-is, c.new.ensures.items) at c.in-Err-Wrong.ensures.wrong in
    (c.in-Err-Wrong.line, refl, rw w.number (wrong_request w.led w.stuck))

pub returns-in-Err-Wrong-clause-refused : goal.returns-in-Err-Wrong-clause-refused
returns-in-Err-Wrong-clause-refused c = λ n others are.
    (rw c.in-Err-Wrong.field-0-is at c.in-Err-Wrong.ensures.refused) (λ e. cc) others tt (rw c.new.ensures.items (requests_lead [] are))
