use Rattle.std.proofs.Common.{◌∙◌, sym, arith}
use Rattle.std.proofs.lemmas.Fmt.{decimal_injective}
use Rattle.journal_text.proofs.policy_entries.read_session.Goals as goal

pub returns-in-Some-eq0-clause-none : goal.returns-in-Some-eq0-clause-none
returns-in-Some-eq0-clause-none c = λ _ n one below is.
    let same = decimal_injective c.in-Some-eq0.field-0 n (omega arith) below (sym c.in-Some-eq0.ensures.value ∙ is) in
    absurd (omega (arith, same, one))
