use Rattle.session_wire.proofs.Answered.{frame_wants}
use Rattle.session_wire.proofs.frame_reader.answer_to.Goals as goal

pub returns-in-Err : goal.returns-in-Err
returns-in-Err c =
    frame_wants c.args.payload.now c.in-Some-split_first.body.now c.in-Some-split_first.kind.now c.in-Some-split_first.ensures.cases.0 c.in-Err.ensures.memory c.in_default.ensures c.requires.size
