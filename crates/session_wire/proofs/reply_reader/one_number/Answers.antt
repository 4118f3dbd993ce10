use Rattle.std.proofs.Math.Facts.{Fits-lt-pow}
use Rattle.session_wire.proofs.Numbers.{number_alone}
use Rattle.session_wire.proofs.reply_reader.one_number.Goals as goal

pub returns : goal.returns
returns c = number_alone c.args.bytes.now c.read_u64.result (λ i. Fits-lt-pow (c.type_inv.bytes i)) c.requires c.read_u64.ensures
