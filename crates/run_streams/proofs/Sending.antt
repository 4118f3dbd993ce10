-- One piece that is sent behind another.
use Rattle.std.proofs.Common.{◌+◌, ◌++◌, ℕ, List, length, take, sym, ap, ◌∙◌, arith, length-append}
use Rattle.std.proofs.lemmas.List.{append_assoc, take-append-le}
use Rattle.std.proofs.Math.Seq.{take-append-add}
use Rattle.nx_io.specs.Streams.{Sends, SendsAll, SendsPart}
use Rattle.nx_io.specs.declared.streams.Reach.{Reach}
use Rattle.nx_io.specs.declared.streams.Reach.TheVariants.{Ready, Failed}

-- behind a piece that was sent whole
pub then_sends : (reach : Reach) (old mid new a b : List ℕ) → Sends old mid a → SendsAll reach mid new b → SendsAll reach old new (a ++ b)
then_sends Ready old mid new a b first second = second ∙ ap (λ l. l ++ b) first ∙ append_assoc old a b
then_sends Failed old mid new a b first (n, short, second) = (
  length a + n,
  omega (arith, length-append a b),
  second ∙ ap (λ l. l ++ take n b) first ∙ append_assoc old a (take n b) ∙ ap (λ l. old ++ l) (sym (take-append-add a b n)),
)

-- a part of the first piece is a part of both
pub part_sends : (old new a b : List ℕ) → SendsPart old new a → SendsPart old new (a ++ b)
part_sends old new a b (n, short, sent) = (n, omega (arith, length-append a b), sent ∙ ap (λ l. old ++ l) (sym (take-append-le n a b (omega arith))))
