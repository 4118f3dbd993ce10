use Rattle.std.proofs.Common.{◌≡◌, ◌∷◌, Err, ap, subst, sym}
use Rattle.std.proofs.lemmas.Result.{err_from_is_err_and}
use Rattle.journal_text.specs.RequestLines.{IsOneWord}
use Rattle.journal_text.specs.declared.request_lines.LineError.TheVariants.{Bad}
use Rattle.journal_text.proofs.RequestCuts.{cut_is, no_cut}
use Rattle.journal_text.proofs.request_lines.word_and_text.Goals as goal

pub returns-in_default-clause-bad : goal.returns-in_default-clause-bad
returns-in_default-clause-bad c = λ h w t hw e. no_cut c.args.bytes.now w (58 ∷ 32 ∷ t) c.in_default.ensures e

pub returns-in_default-after_word-clause-bad : goal.returns-in_default-after_word-clause-bad
returns-in_default-after_word-clause-bad c = λ h w t hw e.
    let r = cut_is c.args.bytes.now c.in-Some.first.now c.in-Some.second.now w (58 ∷ 32 ∷ t) c.in-Some.ensures hw.1 e in
    c.in_default-after_word.ensures t (sym r.1)

pub returns-in_err-word-clause-bad : goal.returns-in_err-word-clause-bad
returns-in_err-word-clause-bad c = λ h w t hw e.
    let r = cut_is c.args.bytes.now c.in-Some.first.now c.in-Some.second.now w (58 ∷ 32 ∷ t) c.in-Some.ensures hw.1 e in
    let p = err_from_is_err_and c.from_residual.result c.from_residual.ensures.1 in
    let same : c.in_err-word.field-0.0 ≡ Bad = cc in
    c.in_err-word.ensures.bad (ap Err same) (subst IsOneWord r.0 hw)
