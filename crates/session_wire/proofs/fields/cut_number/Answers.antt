use Rattle.std.proofs.Math.Facts.{Fits-lt-pow}
use Rattle.session_wire.proofs.Numbers.{no_number, number_cut}
use Rattle.session_wire.proofs.fields.cut_number.Goals as goal

pub returns-then-bytes-lt8 : goal.returns-then-bytes-lt8
returns-then-bytes-lt8 c = no_number c.args.bytes.now c.if-bytes-lt8.true

pub returns : goal.returns
returns c =
    (c.read_u64.type_inv, number_cut c.args.bytes.now c.read_u64.result (λ i. Fits-lt-pow (c.type_inv.bytes i)) c.if-bytes-lt8.false c.read_u64.ensures)
