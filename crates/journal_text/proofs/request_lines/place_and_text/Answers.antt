use Rattle.std.proofs.Common.{◌≡◌, ◌∷◌, Err, ap, subst, sym}
use Rattle.std.proofs.lemmas.Result.{err_from_is_err_and}
use Rattle.nal_term.specs.Names.{IsName}
use Rattle.journal_text.specs.Inner.RequestForms.{cut}
use Rattle.journal_text.specs.declared.request_lines.LineError.TheVariants.{Bad}
use Rattle.journal_text.proofs.RequestCuts.{cut_is, name_has_no_space, no_cut}
use Rattle.journal_text.proofs.request_lines.place_and_text.Goals as goal

pub returns-in_default-clause-bad : goal.returns-in_default-clause-bad
returns-in_default-clause-bad c = λ h a b t ha hb e. no_cut c.args.bytes.now a (cut b (58 ∷ 32 ∷ t)) c.in_default.ensures e

pub returns-in_err-op-clause-bad : goal.returns-in_err-op-clause-bad
returns-in_err-op-clause-bad c = λ h a b t ha hb e.
    let r = cut_is c.args.bytes.now c.in-Some.first.now c.in-Some.rest.now a (cut b (58 ∷ 32 ∷ t)) c.in-Some.ensures (name_has_no_space a ha) e in
    let p = err_from_is_err_and c.from_residual.result c.from_residual.ensures.1 in
    let same : c.in_err-op.field-0.0 ≡ Bad = cc in
    c.in_err-op.ensures.bad (ap Err same) (subst IsName r.0 ha)

pub returns-in_default-cut_at_space-clause-bad : goal.returns-in_default-cut_at_space-clause-bad
returns-in_default-cut_at_space-clause-bad c = λ h a b t ha hb e.
    let r = cut_is c.args.bytes.now c.in-Some.first.now c.in-Some.rest.now a (cut b (58 ∷ 32 ∷ t)) c.in-Some.ensures (name_has_no_space a ha) e in
    no_cut c.in-Some.rest.now b (58 ∷ 32 ∷ t) c.in_default-cut_at_space.ensures (sym r.1)

pub returns-in_err-object-clause-bad : goal.returns-in_err-object-clause-bad
returns-in_err-object-clause-bad c = λ h a b t ha hb e.
    let r = cut_is c.args.bytes.now c.in-Some.first.now c.in-Some.rest.now a (cut b (58 ∷ 32 ∷ t)) c.in-Some.ensures (name_has_no_space a ha) e in
    let s = cut_is c.in-Some.rest.now c.in-Some-cut_at_space.second.now c.in-Some-cut_at_space.rest.now b (58 ∷ 32 ∷ t) c.in-Some-cut_at_space.ensures (name_has_no_space b hb) (sym r.1) in
    let p = err_from_is_err_and c.from_residual-in_err-object.result c.from_residual-in_err-object.ensures.1 in
    let same : c.in_err-object.field-0.0 ≡ Bad = cc in
    c.in_err-object.ensures.bad (ap Err same) (subst IsName s.0 hb)

pub returns-in_default-after_word-clause-bad : goal.returns-in_default-after_word-clause-bad
returns-in_default-after_word-clause-bad c = λ h a b t ha hb e.
    let r = cut_is c.args.bytes.now c.in-Some.first.now c.in-Some.rest.now a (cut b (58 ∷ 32 ∷ t)) c.in-Some.ensures (name_has_no_space a ha) e in
    let s = cut_is c.in-Some.rest.now c.in-Some-cut_at_space.second.now c.in-Some-cut_at_space.rest.now b (58 ∷ 32 ∷ t) c.in-Some-cut_at_space.ensures (name_has_no_space b hb) (sym r.1) in
    c.in_default-after_word.ensures t (sym s.1)
