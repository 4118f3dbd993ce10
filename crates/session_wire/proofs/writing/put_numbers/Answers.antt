use Rattle.session_wire.proofs.Putting.{number_is_put}
use Rattle.session_wire.proofs.writing.put_numbers.Goals as goal

pub loop-i-preserved : goal.loop-i-preserved
loop-i-preserved c =
    number_is_put c.args.numbers.now c.args.into.now c.loop-i.into c.put_number.new.into c.loop-i.i c.loop-i-test.true c.requires c.loop-i.invariant c.put_number.ensures
