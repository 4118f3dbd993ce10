use Rattle.std.proofs.Common.{sym}
use Rattle.journal_text.proofs.PolicyReading.{empty_of, open_behind, open_error, open_of, some_of}
use Rattle.journal_text.proofs.cut_reader.read_kept.Goals as goal

pub returns-then-is_empty-clause-ok : goal.returns-then-is_empty-clause-ok
returns-then-is_empty-clause-ok c = open_of _ c.in-Ok.field-0.ended c.in-Ok.ensures.ok (empty_of c.in-Ok.field-0.rest.now (sym c.if-is_empty.ensures))

pub returns-else-is_empty-clause-err : goal.returns-else-is_empty-clause-err
returns-else-is_empty-clause-err c = open_behind _ c.in-Ok.field-0.ended c.in-Ok.ensures.ok (some_of c.in-Ok.field-0.rest.now (sym c.if-is_empty.ensures))

pub returns-in-Err-clause-err : goal.returns-in-Err-clause-err
returns-in-Err-clause-err c = open_error c.args.kept.now c.in-Err.error c.in-Err.ensures.err
