use Rattle.session_wire.proofs.Putting.{frame_is_put}
use Rattle.session_wire.proofs.writing.put_frame.Goals as goal

pub returns-clause-bytes : goal.returns-clause-bytes
returns-clause-bytes c =
    frame_is_put c.args.into.now c.put_length.new.into c.put_numbers.new.into c.args.numbers.now c.args.kind c.requires.room c.requires.few c.put_length.ensures c.put_numbers.ensures
