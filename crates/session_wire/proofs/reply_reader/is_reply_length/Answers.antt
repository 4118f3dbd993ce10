use Rattle.std.proofs.Common.{◌≡◌, ◌%◌, ◌/◌, eq-eqb, arith}
use Rattle.std.proofs.lemmas.Bool.Decides.{nat_tests}
use Rattle.session_wire.proofs.reply_reader.is_reply_length.Goals as goal

pub returns-then-length-le33 : goal.returns-then-length-le33
returns-then-length-le33 c = (
  λ e. let m : c.args.length % 8 ≡ 1 = grind (arith, nat_tests, e) in (c.args.length / 8, omega arith, omega arith),
  λ h. eq-eqb (c.args.length % 8) 1 (omega (arith, h.1, h.2)),
)
