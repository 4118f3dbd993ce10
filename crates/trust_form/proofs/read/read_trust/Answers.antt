use Rattle.std.proofs.Common.{ap, ◌∙◌}
use Rattle.trust_form.specs.Inner.Reading.{stage_of}
use Rattle.trust_form.specs.TrustForm.{ended}
use Rattle.trust_form.proofs.Following.{same_form}
use Rattle.trust_form.proofs.read.read_trust.Goals as goal

pub returns-in-Ok-Ended-clause-only : goal.returns-in-Ok-Ended-clause-only
returns-in-Ok-Ended-clause-only c = λ other is. same_form (c.in-Ok-Ended.ensures.only (ended other) is ∙ ap stage_of c.in-Ok-Ended.field-0-is)

pub returns-in-Err-Wrong-clause-refused : goal.returns-in-Err-Wrong-clause-refused
returns-in-Err-Wrong-clause-refused c = λ n other is. c.in-Err-Wrong.ensures.refused (λ e. cc e) (ended other) tt is
