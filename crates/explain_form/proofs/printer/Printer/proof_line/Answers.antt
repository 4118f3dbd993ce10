use Rattle.std.proofs.Common.{◌≡◌, ◌++◌, ap, codes, ◌∙◌}
use Rattle.std.proofs.lemmas.Result.{on_ok_weaker}
use Rattle.proof_lines.specs.Lines.{line_tree}
use Rattle.proof_text.specs.CanonicalProof.{proof_text}
use Rattle.explain_form.proofs.LineTexts.{alone_text, behind_is, joined, text_is, unnumbered}
use Rattle.explain_form.proofs.printer.Printer.proof_line.Goals as goal

pub unreachable-requires : goal.unreachable-requires
unreachable-requires c =
    let l = line_tree c.args.line.now in
    c.in_default.ensures (unnumbered l ++ codes " ; end") (c.as_slice.ensures ∙ c.in_ok-printed.ensures.text ∙ ap proof_text c.in_ok-proof.ensures ∙ alone_text l)

pub unreachable-requires-in_default-before_end : goal.unreachable-requires-in_default-before_end
unreachable-requires-in_default-before_end c =
    let l = line_tree c.args.line.now in
    c.in_default-before_end.ensures (unnumbered l)
    (behind_is l c.as_slice.result.now c.in-Some.behind_number.now (c.as_slice.ensures ∙ c.in_ok-printed.ensures.text ∙ ap proof_text c.in_ok-proof.ensures) c.in-Some.ensures)

pub returns : goal.returns
returns c =
    let l = line_tree c.args.line.now in
    let text = c.in-Some-before_end.unnumbered.now in
    let cut : text ≡ unnumbered l =
    text_is l c.as_slice.result.now c.in-Some.behind_number.now text (c.as_slice.ensures ∙ c.in_ok-printed.ensures.text ∙ ap proof_text c.in_ok-proof.ensures) c.in-Some.ensures c.in-Some-before_end.ensures in
    on_ok_weaker c.piece.result (λ (e : c.piece.new.self.text ≡ c.number.new.self.text ++ text).
    joined l c.args.number c.args.self.now.text c.number.new.self.text c.piece.new.self.text text c.in_ok-number.ensures cut e) c.piece.ensures
