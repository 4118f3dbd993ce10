use Rattle.std.proofs.Common.{◌≡◌, Some, ap, subst, sym, ◌∙◌}
use Rattle.std.proofs.lemmas.Result.{IfOk-weaker}
use Rattle.session_wire.specs.declared.requests.Request.{Request}
use Rattle.journal_text.specs.RequestLines.{IsRequestText}
use Rattle.journal_text.specs.Inner.RequestForms.{HasParts, form_named, form_of, parts_of, word_of}
use Rattle.journal_text.proofs.OneRequest.{form_of_word, named_word, one_request, parts_of_text, text_of_parts, text_parts}
use Rattle.journal_text.proofs.RequestCuts.{no_cut}
use Rattle.journal_text.proofs.request_lines.read_request_text.Goals as goal

pub returns-in_default-clause-bad : goal.returns-in_default-clause-bad
returns-in_default-clause-bad c = λ h q t.
    no_cut c.args.text.now (word_of (form_of q)) (parts_of q) c.in_default.ensures (t.1 ∙ text_parts q)

pub returns-in-None-clause-bad : goal.returns-in-None-clause-bad
returns-in-None-clause-bad c = λ h q t.
    let p = parts_of_text c.args.text.now c.in-Some.word.now c.in-Some.parts.now q c.in-Some.ensures.0 c.in-Some.ensures.1 t in
    let found = c.of_word.ensures ∙ ap form_named p.0 ∙ form_of_word (form_of q) in
    let none = c.in-None.is in
    cc

pub returns-in-Some-of_word-clause-ok : goal.returns-in-Some-of_word-clause-ok
returns-in-Some-of_word-clause-ok c =
    let w = named_word c.in-Some.word.now c.in-Some-of_word.form (sym c.of_word.ensures ∙ c.in-Some-of_word.is) in
    IfOk-weaker c.read_parts.result (HasParts c.in-Some-of_word.form c.in-Some.parts.now) (IsRequestText c.args.text.now)
    (λ q h. text_of_parts c.args.text.now c.in-Some.word.now c.in-Some.parts.now c.in-Some-of_word.form q c.in-Some.ensures.1 w h)
    c.read_parts.ensures.ok

pub returns-in-Some-of_word-clause-only : goal.returns-in-Some-of_word-clause-only
returns-in-Some-of_word-clause-only c =
    let w = named_word c.in-Some.word.now c.in-Some-of_word.form (sym c.of_word.ensures ∙ c.in-Some-of_word.is) in
    IfOk-weaker c.read_parts.result (HasParts c.in-Some-of_word.form c.in-Some.parts.now) (λ q. (other : Request) → IsRequestText c.args.text.now other → other ≡ q)
    (λ q h other t. one_request c.args.text.now other q t (text_of_parts c.args.text.now c.in-Some.word.now c.in-Some.parts.now c.in-Some-of_word.form q c.in-Some.ensures.1 w h))
    c.read_parts.ensures.ok

pub returns-in-Some-of_word-clause-bad : goal.returns-in-Some-of_word-clause-bad
returns-in-Some-of_word-clause-bad c = λ h q t.
    let p = parts_of_text c.args.text.now c.in-Some.word.now c.in-Some.parts.now q c.in-Some.ensures.0 c.in-Some.ensures.1 t in
    let found : Some (form_of q) ≡ Some c.in-Some-of_word.form = sym (form_of_word (form_of q)) ∙ ap form_named (sym p.0) ∙ sym c.of_word.ensures ∙ c.in-Some-of_word.is in
    let same : form_of q ≡ c.in-Some-of_word.form = cc in
    c.read_parts.ensures.bad h q (subst (λ f. HasParts f c.in-Some.parts.now q) same p.1)
