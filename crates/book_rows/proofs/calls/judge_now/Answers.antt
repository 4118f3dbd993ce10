use Rattle.book_rows.proofs.Snapped.{snapped_in_seen}
use Rattle.book_rows.proofs.calls.judge_now.Goals as goal

pub told_of-told-requires-clause-snapped : goal.told_of-told-requires-clause-snapped
told_of-told-requires-clause-snapped g c = (
  c.args.principal,
  c.args.op.now,
  c.args.object.now,
  snapped_in_seen _ c.args.board.now c.args.pass c.snap-pass.result.0 c.args.principal c.args.op.now c.args.object.now c.snap-pass.result.1 c.requires.board c.snap-pass.ensures.snapped,
)
