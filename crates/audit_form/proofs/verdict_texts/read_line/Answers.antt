use Rattle.std.proofs.Common.{◌≡◌, sym, ◌∙◌, arith}
use Rattle.std.proofs.lemmas.Fmt.{decimal_injective}
use Rattle.audit_form.proofs.verdict_texts.read_line.Goals as goal

pub returns-in-Some-eq0 : goal.returns-in-Some-eq0
returns-in-Some-eq0 c = λ k n e.
    let none = rw c.in-Some-eq0.field-0-test at c.in-Some-eq0.ensures.value in
    let same : 0 ≡ k = decimal_injective 0 k (omega arith) n.1 (sym none ∙ e) in
    omega (arith, same, n.0)
