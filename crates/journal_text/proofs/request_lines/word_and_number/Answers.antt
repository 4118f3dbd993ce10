use Rattle.std.proofs.Common.{◌≡◌, Err, ap, subst, sym}
use Rattle.std.specs.Fmt.{decimal}
use Rattle.std.proofs.lemmas.Result.{err_from_is_err_and}
use Rattle.journal_text.specs.RequestLines.{IsOneWord}
use Rattle.journal_text.specs.declared.request_lines.LineError.TheVariants.{Bad}
use Rattle.journal_text.proofs.RequestCuts.{cut_is, no_cut}
use Rattle.journal_text.proofs.request_lines.word_and_number.Goals as goal

pub returns-in_default-clause-bad : goal.returns-in_default-clause-bad
returns-in_default-clause-bad c = λ h w k hw hk e. no_cut c.args.bytes.now w (decimal k) c.in_default.ensures e

pub returns-in_err-word-clause-bad : goal.returns-in_err-word-clause-bad
returns-in_err-word-clause-bad c = λ h w k hw hk e.
    let r = cut_is c.args.bytes.now c.in-Some.first.now c.in-Some.second.now w (decimal k) c.in-Some.ensures hw.1 e in
    let p = err_from_is_err_and c.from_residual.result c.from_residual.ensures.1 in
    let same : c.in_err-word.field-0.0 ≡ Bad = cc in
    c.in_err-word.ensures.bad (ap Err same) (subst IsOneWord r.0 hw)

pub returns-in_err-number-clause-bad : goal.returns-in_err-number-clause-bad
returns-in_err-number-clause-bad c = λ h w k hw hk e.
    let r = cut_is c.args.bytes.now c.in-Some.first.now c.in-Some.second.now w (decimal k) c.in-Some.ensures hw.1 e in
    let p = err_from_is_err_and c.from_residual-in_err-number.result c.from_residual-in_err-number.ensures.1 in
    let same : c.in_err-number.field-0.0 ≡ Bad = cc in
    c.in_err-number.ensures.bad (ap Err same) k hk (sym r.1)
