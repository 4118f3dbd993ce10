use Rattle.policy_history.specs.Values.{entry_trees}
use Rattle.audit_form.proofs.RecordLines.{call_in, call_of, one_record, other_told, record_made}
use Rattle.audit_form.specs.RecordLines.{told_text}
use Rattle.audit_form.proofs.record_lines.read_record.Goals as goal

pub returns-in-Err-clause-wrong : goal.returns-in-Err-clause-wrong
returns-in-Err-clause-wrong c = λ n other l.
    let journal = c.args.journal.now in
    c.in-Err.ensures.wrong n (call_of other) (told_text other.answers other.verdict) (call_in journal.head (entry_trees journal.entries) c.args.line.now other l)

pub returns-in_default-clause-wrong : goal.returns-in_default-clause-wrong
returns-in_default-clause-wrong c = λ n other l.
    let journal = c.args.journal.now in
    c.in_default.ensures other.answers other.verdict
    (other_told journal.head (entry_trees journal.entries) c.args.line.now c.in-Ok.read.0 c.in-Ok.read.1.now c.in-Ok.ensures.only other l)

pub returns-clause-ok : goal.returns-clause-ok
returns-clause-ok c =
    let journal = c.args.journal.now in
    record_made journal.head (entry_trees journal.entries) c.args.line.now c.in-Ok.read.0 c.in-Ok.read.1.now c.in-Some.answers c.in-Some.verdict c.in-Ok.ensures.ok c.in-Some.ensures

pub returns-clause-only : goal.returns-clause-only
returns-clause-only c = λ other l.
    let journal = c.args.journal.now in
    one_record journal.head (entry_trees journal.entries) c.args.line.now c.in-Ok.read.0 c.in-Ok.read.1.now c.in-Some.answers c.in-Some.verdict c.in-Ok.ensures.only c.in-Some.ensures other l
