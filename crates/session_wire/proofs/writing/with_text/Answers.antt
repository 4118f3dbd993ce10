use Rattle.std.proofs.Common.{ℕ, List, ◌++◌, ◌∙◌, ap, length, append_assoc}
use Rattle.byteorder.specs.Endian.{big_bytes}
use Rattle.session_wire.specs.Frames.{text_bytes}
use Rattle.session_wire.proofs.writing.with_text.Goals as goal

pub returns : goal.returns
unfolding text_bytes
returns c =
    c.in_ok-extend_from_slice.ensures.items ∙ ap (λ (xs : List ℕ). xs ++ c.args.text.now) c.in_ok-push_short.ensures
    ∙ append_assoc c.args.front.items (big_bytes 2 (length c.args.text.now)) c.args.text.now
