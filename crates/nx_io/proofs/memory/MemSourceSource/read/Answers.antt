use Rattle.std.proofs.Common.{◌-◌, ◌≤◌, ◌++◌, ap, arith, drop, length, sym, take, ◌∙◌}
use Rattle.std.proofs.lemmas.List.{take_rest}
use Rattle.std.specs.Prelude.{Some}
use Rattle.nx_io.proofs.Told.{taken-front, taken-more}
use Rattle.nx_io.proofs.memory.MemSourceSource.read.Goals as goal

-- What was left is the part that stands in the buffer now, and then what is left.
pub returns-clause-bytes : goal.returns-clause-bytes
returns-clause-bytes c =
    let taken = c.self.inside.taken in
    let bytes = c.deref.result.now in
    let fits : c.min-count.result ≤ length (take (length bytes - taken) (drop taken bytes)) = omega arith in
    let rest = take_rest bytes taken ∙ ap (drop taken) c.deref.ensures.value in
    ap Some (ap (λ s. s.left) (sym c.self.view_is)
    ∙ sym (taken-front c.self.inside.bytes.items _ c.args.into.now _ taken c.min-count.result rest fits c.copy_from_slice.ensures.after))

-- What was given is the part that was taken before, and then the part that stands in the buffer now.
pub returns-clause-given : goal.returns-clause-given
returns-clause-given c =
    let taken = c.self.inside.taken in
    let bytes = c.deref.result.now in
    let fits : c.min-count.result ≤ length (take (length bytes - taken) (drop taken bytes)) = omega arith in
    let rest = take_rest bytes taken ∙ ap (drop taken) c.deref.ensures.value in
    taken-more c.self.inside.bytes.items _ c.args.into.now _ taken c.min-count.result rest fits c.copy_from_slice.ensures.after
    ∙ ap (λ given. given ++ take c.min-count.result (c.copy_from_slice.new.self ++ drop c.min-count.result c.args.into.now)) (ap (λ s. s.given) c.self.view_is)
