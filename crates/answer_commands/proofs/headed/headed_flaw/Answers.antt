use Rattle.std.proofs.Common.{◌+◌, arith, subst}
use Rattle.std.proofs.lemmas.List.{length-drop}
use Rattle.text_lines.specs.Lines.{line_length}
use Rattle.audit_form.specs.AuditForm.{most_session}
use Rattle.run_streams.specs.Flaws.{flaw_tree}
use Rattle.input_flaws.specs.PolicyFlaws.{IsFrontFlaw}
use Rattle.input_flaws.proofs.ForCallers.{each_flaw}
use Rattle.answer_commands.specs.Headed.{first, further}
use Rattle.answer_commands.proofs.headed.headed_flaw.Goals as goal

pub returns-then-line-eq1 : goal.returns-then-line-eq1
returns-then-line-eq1 c = each_flaw c.flaw_at.result (λ flaw at. first c.if-line-eq1.true at) c.flaw_at.ensures

pub front_flaw-requires : goal.front_flaw-requires
front_flaw-requires c =
    let cut = length-drop (line_length c.args.text.now + 1) c.args.text.now in
    rw c.first_line.ensures.rest (omega (arith, cut, c.requires))

pub returns-else-line-eq1 : goal.returns-else-line-eq1
returns-else-line-eq1 c =
    each_flaw c.front_flaw.result
    (λ flaw at. further (λ one. omega (arith, one, c.if-line-eq1.false)) (subst (λ part. IsFrontFlaw most_session part c.args.text.now c.args.line (flaw_tree flaw)) c.first_line.ensures.rest at))
    c.front_flaw.ensures
