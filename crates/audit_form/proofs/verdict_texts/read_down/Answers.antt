use Rattle.std.proofs.Common.{◌≡◌, sym, ◌∙◌, arith}
use Rattle.std.proofs.lemmas.Fmt.{decimal_injective}
use Rattle.audit_form.proofs.verdict_texts.read_down.Goals as goal

pub returns-else-line-le-MOST_LINES : goal.returns-else-line-le-MOST_LINES
returns-else-line-le-MOST_LINES c = λ v t.
    let n = c.in-Some.ensures in
    let same : c.in-Some.line ≡ t.0 = decimal_injective c.in-Some.line t.0 n.0.1 t.1.0.1 (sym n.1 ∙ t.1.1) in
    omega (arith, same, t.2, c.if-line-le-MOST_LINES.false)
