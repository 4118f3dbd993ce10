use Rattle.audit_form.proofs.verdict_texts.read_told.Goals as goal

pub returns-in-Down : goal.returns-in-Down
returns-in-Down c = rw c.in-Down.is c.read_down.ensures

pub returns-in-Line : goal.returns-in-Line
returns-in-Line c = rw c.in-Line.is c.read_fault_line.ensures
