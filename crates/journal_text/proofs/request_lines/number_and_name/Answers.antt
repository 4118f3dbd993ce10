use Rattle.std.proofs.Common.{◌≡◌, Err, ap, subst, sym}
use Rattle.std.specs.Fmt.{decimal}
use Rattle.std.proofs.lemmas.Result.{err_from_is_err_and}
use Rattle.nal_term.specs.Names.{IsName}
use Rattle.journal_text.specs.declared.request_lines.LineError.TheVariants.{Bad}
use Rattle.journal_text.proofs.RequestCuts.{cut_is, no_cut, number_has_no_space}
use Rattle.journal_text.proofs.request_lines.number_and_name.Goals as goal

pub returns-in_default-clause-bad : goal.returns-in_default-clause-bad
returns-in_default-clause-bad c = λ h k n hk hn e. no_cut c.args.bytes.now (decimal k) n c.in_default.ensures e

pub returns-in_err-number-clause-bad : goal.returns-in_err-number-clause-bad
returns-in_err-number-clause-bad c = λ h k n hk hn e.
    let r = cut_is c.args.bytes.now c.in-Some.first.now c.in-Some.second.now (decimal k) n c.in-Some.ensures (number_has_no_space k hk) e in
    let p = err_from_is_err_and c.from_residual.result c.from_residual.ensures.1 in
    let same : c.in_err-number.field-0.0 ≡ Bad = cc in
    c.in_err-number.ensures.bad (ap Err same) k hk (sym r.0)

pub returns-in_err-name-clause-bad : goal.returns-in_err-name-clause-bad
returns-in_err-name-clause-bad c = λ h k n hk hn e.
    let r = cut_is c.args.bytes.now c.in-Some.first.now c.in-Some.second.now (decimal k) n c.in-Some.ensures (number_has_no_space k hk) e in
    let p = err_from_is_err_and c.from_residual-in_err-name.result c.from_residual-in_err-name.ensures.1 in
    let same : c.in_err-name.field-0.0 ≡ Bad = cc in
    c.in_err-name.ensures.bad (ap Err same) (subst IsName r.1 hn)
