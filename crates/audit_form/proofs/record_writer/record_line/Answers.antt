use Rattle.audit_form.proofs.RecordWriting.{line_written}
use Rattle.audit_form.proofs.record_writer.record_line.Goals as goal

pub returns-clause-written : goal.returns-clause-written
returns-clause-written c = λ p at v r.
    rw (
      c.append-2.ensures.text,
      c.append_told.ensures.text,
      c.append.ensures.text,
      c.append_answers.ensures.text,
      c.append_name-3.ensures.text,
      c.append_name-2.ensures.text,
      c.append_name.ensures.text,
      c.append_space.ensures.text,
      c.append_number.ensures.text,
      c.new-line.ensures,
      c.point_of.ensures,
    ) (line_written c.args.name.now c.args.op.now c.args.object.now c.args.answers.now c.args.reply.now p at v r)
