use Rattle.std.proofs.Common.{arith, refl}
use Rattle.journal_text.proofs.PolicyHeads.{not_port, sole_authority}
use Rattle.journal_text.proofs.policy_heads.read_authority.Goals as goal

pub returns-in_default-read_number-clause-bad : goal.returns-in_default-read_number-clause-bad
returns-in_default-read_number-clause-bad c = λ _ a of.
    not_port _ _ _ c.in-Some.ensures.0 c.in-Some.ensures.1 (c.in_default-read_number.ensures.none refl) a of

pub returns-in-Ok-clause-only : goal.returns-in-Ok-clause-only
returns-in-Ok-clause-only c = λ other of.
    sole_authority _ _ _ _ c.in-Some.ensures.0 c.in-Some.ensures.1 c.in-Some-read_number.ensures.value (omega arith) c.in-Ok.ensures other of
