use Rattle.std.proofs.Common.{refl}
use Rattle.journal_text.proofs.PolicyHeads.{not_named, not_secret, sole_principal}
use Rattle.journal_text.proofs.policy_heads.read_principal.Goals as goal

pub returns-in-Err-Bad-clause-bad : goal.returns-in-Err-Bad-clause-bad
returns-in-Err-Bad-clause-bad c = λ _ p of.
    not_named _ _ _ c.in-Some.ensures.0 c.in-Some.ensures.1 ((rw c.in-Err-Bad.field-0-is at c.in-Err-Bad.ensures.bad).0 refl) p of

pub returns-in-Ok-of-clause-only : goal.returns-in-Ok-of-clause-only
returns-in-Ok-of-clause-only c = λ other of.
    sole_principal _ _ _ _ c.in-Some.ensures.0 c.in-Some.ensures.1 c.in-Ok.ensures.made c.in-Ok-of.ensures.made other of

pub returns-in-Err-Bad-of-clause-bad : goal.returns-in-Err-Bad-of-clause-bad
returns-in-Err-Bad-of-clause-bad c = λ _ p of.
    not_secret _ _ _ c.in-Some.ensures.0 c.in-Some.ensures.1 ((rw c.in-Err-Bad-of.field-0-is at c.in-Err-Bad-of.ensures.bad).0 refl) p of
