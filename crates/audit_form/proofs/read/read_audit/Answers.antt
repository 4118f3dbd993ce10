use Rattle.std.proofs.Common.{◌≡◌, [], sym, ◌∙◌}
use Rattle.policy_history.specs.Values.{entry_trees}
use Rattle.form_lines.proofs.ForCallers.{some_left}
use Rattle.text_lines.specs.Lines.{first_line}
use Rattle.audit_form.specs.AuditForm.{header}
use Rattle.audit_form.proofs.Reading.{other_records, policy_error, records_error, records_within}
use Rattle.audit_form.proofs.read.read_audit.Goals.{Else-not-is_text}
use Rattle.audit_form.proofs.read.read_audit.Goals as goal

-- the text begins with the first line of an input
some : (c : Else-not-is_text) → c.args.text.now ≡ [] → ⊥
some c = some_left c.args.text.now c.is_empty.result c.is_empty.ensures c.if-is_empty.false

first : (c : Else-not-is_text) → first_line c.args.text.now ≡ header
first c = sym c.first_line.ensures.line ∙ c.is_text.ensures.0 c.if-not-is_text.false

pub returns-in-Ok-read_records-clause-ok : goal.returns-in-Ok-read_records-clause-ok
returns-in-Ok-read_records-clause-ok c =
    let d = (goal.at.returns-in-Ok-read_records-clause-ok c).Else-not-is_text in
    record {
      some = some d;
      first = first d;
      lines = c.in-Ok.field-0.lines;
      rest = c.in-Ok.field-0.rest.now;
      policy = rw c.first_line.ensures.rest at c.in-Ok.ensures.ok;
      read = c.in-Ok-read_records.ensures.ok;
    }

pub returns-in-Ok-read_records-clause-within : goal.returns-in-Ok-read_records-clause-within
returns-in-Ok-read_records-clause-within c =
    records_within c.in-Ok.field-0.journal.head (entry_trees c.in-Ok.field-0.journal.entries) c.in-Ok.field-0.rest.now c.in-Ok-read_records.records.items c.in-Ok-read_records.ensures.ok

pub returns-in-Err-clause-wrong : goal.returns-in-Err-clause-wrong
returns-in-Err-clause-wrong c =
    let d = (goal.at.returns-in-Err-clause-wrong c).Else-not-is_text in
    policy_error c.args.text.now c.in-Err.error (some d) (first d) (rw c.first_line.ensures.rest at c.in-Err.ensures.wrong)

pub returns-in-Err-clause-refused : goal.returns-in-Err-clause-refused
returns-in-Err-clause-refused c = λ n other f. (rw c.first_line.ensures.rest at c.in-Err.ensures.refused) n other.head other.entries f.lines f.rest f.policy

pub returns-in-Err-read_records-clause-wrong : goal.returns-in-Err-read_records-clause-wrong
returns-in-Err-read_records-clause-wrong c =
    let d = (goal.at.returns-in-Err-read_records-clause-wrong c).Else-not-is_text in
    let front = c.in-Ok.field-0 in
    records_error c.args.text.now front.journal.head (entry_trees front.journal.entries) front.lines front.rest.now c.in-Err-read_records.error (some d) (first d)
    (rw c.first_line.ensures.rest at c.in-Ok.ensures.ok) c.in-Err-read_records.ensures.wrong

pub returns-in-Err-read_records-clause-refused : goal.returns-in-Err-read_records-clause-refused
returns-in-Err-read_records-clause-refused c = λ n.
    let front = c.in-Ok.field-0 in
    other_records c.args.text.now front.journal.head (entry_trees front.journal.entries) front.lines front.rest.now (rw c.first_line.ensures.rest at c.in-Ok.ensures.only) (c.in-Err-read_records.ensures.refused n)
