use Rattle.std.proofs.Common.{arith}
use Rattle.std.proofs.lemmas.Grind.{common_steps}
use Rattle.proof_text.proofs.Pieces.{segments_cut, segments_last}
use Rattle.proof_text.proofs.segments.next_segment.Goals as goal

pub returns-then-length-text-clause-segments : goal.returns-then-length-text-clause-segments
returns-then-length-text-clause-segments c = grind (arith, common_steps, segments_cut c.args.text.now)

pub returns-else-length-text-clause-segments : goal.returns-else-length-text-clause-segments
returns-else-length-text-clause-segments c = grind (arith, common_steps, segments_last c.args.text.now)
