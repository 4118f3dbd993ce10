use Rattle.std.proofs.Common.{arith, ◌≡◌, ℕ, List, ◌≤◌, ◌+◌, length, suc, subst, sym, take, ◌++◌, ◌∷◌, []}
use Rattle.std.proofs.lemmas.List.{take_all, take_more_set}
use Rattle.proof_text.specs.ProofText.{BeginsWithNumbers}
use Rattle.proof_text.specs.ProofText.BeginsWithNumbers.{none}
use Rattle.proof_text.specs.Inner.Reading.{Reads}
use Rattle.proof_text.proofs.Numbers.{numbers_push, numbers_read, numbers_stop}
use Rattle.proof_text.proofs.parts.numbers.Goals as goal

filled : (i c : ℕ) (b ns a : List ℕ) → BeginsWithNumbers i b (take i ns) a → length ns ≡ c → c ≤ i → i ≤ c → Reads (BeginsWithNumbers c b) ns a
filled i c b ns a h e l m =
    let same : i ≡ c = omega arith in
    let whole = take_all i ns (omega arith) in
    let g = subst (λ x. BeginsWithNumbers i b x a) whole h in
    numbers_read c b ns a (subst (λ x. BeginsWithNumbers x b ns a) same g)

pub loop-slot-init : goal.loop-slot-init
loop-slot-init c = none

pub loop-slot-preserved : goal.loop-slot-preserved
loop-slot-preserved c =
    let i = c.loop-slot.slot-index in
    let one : suc i ≡ i + 1 = omega arith in
    let more = take_more_set c.loop-slot.numbers i c.in-Some.found (omega arith) in
    let pushed = numbers_push c.loop-slot.invariant c.in-Some.ensures.form in
    subst (λ x. BeginsWithNumbers (i + 1) c.args.text.now x c.in-Some.after.now) (sym more)
    (subst (λ k. BeginsWithNumbers k c.args.text.now (take i c.loop-slot.numbers ++ c.in-Some.found ∷ []) c.in-Some.after.now) one pushed)

pub returns-in-None : goal.returns-in-None
returns-in-None c = numbers_stop c.loop-slot.slot-index _ _ _ _ c.loop-slot.invariant (omega arith) c.in-None.ensures

pub returns : goal.returns
returns c = filled _ _ _ _ _ c.loop-slot.invariant (omega arith) (omega arith) (omega arith)
