use Rattle.std.proofs.Common.{◌∙◌, ℕ, ◌<◌, ◌-◌, length, take, drop, subst}
use Rattle.std.proofs.Math.Facts.{Fits-lt-pow}
use Rattle.session_wire.proofs.Numbers.{no_text, no_text_length, text_cut}
use Rattle.session_wire.proofs.fields.cut_text.Goals as goal

pub returns-then-bytes-lt2 : goal.returns-then-bytes-lt2
returns-then-bytes-lt2 c = no_text_length c.args.bytes.now c.if-bytes-lt2.true

pub returns-then-rest-count : goal.returns-then-rest-count
returns-then-rest-count c =
    no_text c.args.bytes.now c.if-bytes-lt2.false
    (subst (λ (n : ℕ). length (take (length c.args.bytes.now - 2) (drop 2 c.args.bytes.now)) < n) (c.from-count.ensures ∙ c.read_u16.ensures) c.if-rest-count.true)

pub returns : goal.returns
returns c =
    text_cut c.args.bytes.now c.from-count.result (λ i. Fits-lt-pow (c.type_inv.bytes i)) c.if-bytes-lt2.false (c.from-count.ensures ∙ c.read_u16.ensures) c.if-rest-count.false
