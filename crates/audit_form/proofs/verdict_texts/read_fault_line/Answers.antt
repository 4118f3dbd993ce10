use Rattle.std.proofs.Common.{sym, ◌∙◌}
use Rattle.audit_form.proofs.VerdictTexts.{found_name, line_made, line_parts, not_named}
use Rattle.audit_form.proofs.verdict_texts.read_fault_line.Goals as goal

pub returns-in_default-read_line : goal.returns-in_default-read_line
returns-in_default-read_line c = λ v t.
    let p = line_parts c.args.rest.now c.in-Some.number.now c.in-Some.name.now v c.in-Some.ensures.0 c.in-Some.ensures.1 t in
    c.in_default-read_line.ensures p.0 p.2 p.3

pub returns-in_default-read_fault : goal.returns-in_default-read_fault
returns-in_default-read_fault c = λ v t.
    let p = line_parts c.args.rest.now c.in-Some.number.now c.in-Some.name.now v c.in-Some.ensures.0 c.in-Some.ensures.1 t in
    not_named c.in-Some.name.now (sym c.read_fault.ensures ∙ c.in_default-read_fault.is) p.1 p.4

pub returns : goal.returns
returns c =
    line_made c.args.rest.now c.in-Some.number.now c.in-Some.name.now c.in-Some-read_line.line c.in-Some-read_fault.fault c.in-Some.ensures.0 c.in-Some-read_line.ensures.0 c.in-Some-read_line.ensures.1
    (found_name c.in-Some.name.now c.in-Some-read_fault.fault (sym c.read_fault.ensures ∙ c.in-Some-read_fault.is))
