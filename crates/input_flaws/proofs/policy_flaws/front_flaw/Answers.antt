use Rattle.std.proofs.Common.{sym, subst}
use Rattle.input_flaws.specs.PolicyFlaws.{IsFrontFlaw, behind, refused, unformed}
use Rattle.input_flaws.proofs.Told.{each_flaw}
use Rattle.input_flaws.proofs.policy_flaws.front_flaw.Goals as goal

pub returns-in-Ok : goal.returns-in-Ok
returns-in-Ok c = each_flaw c.flaw_at.result (λ f at. behind c.in-Ok.ensures.ok at) c.flaw_at.ensures

pub returns-in-Err-Refused : goal.returns-in-Err-Refused
returns-in-Err-Refused c =
    let wrong = rw c.in-Err-Refused.field-0-is at c.in-Err-Refused.ensures.err in
    subst (IsFrontFlaw c.args.most_session c.args.part.now c.args.text.now c.args.number) (sym (c.entry_flaw.ensures wrong.0 (rw c.in-Err-Refused.refusal-is wrong.1))) (refused wrong.2)

pub returns-in-Err-Bad : goal.returns-in-Err-Bad
returns-in-Err-Bad c =
    let wrong = rw c.in-Err-Bad.field-0-is at c.in-Err-Bad.ensures.err in
    each_flaw c.flaw_at-in-Err-Bad.result (λ f at. unformed wrong at) c.flaw_at-in-Err-Bad.ensures
