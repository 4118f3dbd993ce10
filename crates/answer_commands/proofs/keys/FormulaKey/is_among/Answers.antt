use Rattle.std.proofs.Common.{arith}
use Rattle.answer_commands.proofs.SameKeys.{not_among}
use Rattle.answer_commands.proofs.keys.FormulaKey.is_among.Goals as goal

pub returns : goal.returns
returns c =
    let test = c.loop-index-test.false in
    not_among c.args.keys.now c.args.self.now c.loop-index.index (omega (arith, test)) c.loop-index.invariant
