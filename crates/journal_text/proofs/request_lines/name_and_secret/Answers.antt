use Rattle.std.proofs.Common.{◌≡◌, Err, ap, subst}
use Rattle.std.proofs.lemmas.Result.{err_from_is_err_and}
use Rattle.nal_term.specs.Names.{IsName}
use Rattle.nal_term.specs.Secrets.{IsSecret}
use Rattle.journal_text.specs.declared.request_lines.LineError.TheVariants.{Bad}
use Rattle.journal_text.proofs.RequestCuts.{cut_is, name_has_no_space, no_cut}
use Rattle.journal_text.proofs.request_lines.name_and_secret.Goals as goal

pub returns-in_default-clause-bad : goal.returns-in_default-clause-bad
returns-in_default-clause-bad c = λ h n s hn hs e. no_cut c.args.bytes.now n s c.in_default.ensures e

pub returns-in_err-name-clause-bad : goal.returns-in_err-name-clause-bad
returns-in_err-name-clause-bad c = λ h n s hn hs e.
    let r = cut_is c.args.bytes.now c.in-Some.first.now c.in-Some.second.now n s c.in-Some.ensures (name_has_no_space n hn) e in
    let p = err_from_is_err_and c.from_residual.result c.from_residual.ensures.1 in
    let same : c.in_err-name.field-0.0 ≡ Bad = cc in
    c.in_err-name.ensures.bad (ap Err same) (subst IsName r.0 hn)

pub returns-in-Err-Bad-clause-bad : goal.returns-in-Err-Bad-clause-bad
returns-in-Err-Bad-clause-bad c = λ h n s hn hs e.
    let r = cut_is c.args.bytes.now c.in-Some.first.now c.in-Some.second.now n s c.in-Some.ensures (name_has_no_space n hn) e in
    c.in-Err-Bad.ensures.bad.0 (ap Err c.in-Err-Bad.field-0-is) (subst IsSecret r.1 hs)
