use Rattle.std.proofs.Common.{[], ◌∷◌, ◌++◌, ap, ◌∙◌}
use Rattle.session_core.specs.declared.lines.Asking.{Asking}
use Rattle.policy_script.proofs.input.AskingsProgress.after.Goals as goal

pub returns-in-Err-Bad-clause-wrong : goal.returns-in-Err-Bad-clause-wrong
returns-in-Err-Bad-clause-wrong c = λ n next f. (rw c.in-Err-Bad.field-0-is at c.in-Err-Bad.ensures.bad) (λ e. cc) f.asking f.is_line

pub returns-in-Ok-push-clause-only : goal.returns-in-Ok-push-clause-only
returns-in-Ok-push-clause-only c = λ other f.
    rw c.in-Ok-push.ensures.items (f.next_is ∙ ap (λ (a : Asking). c.args.self.list.items ++ a ∷ []) (c.in-Ok.ensures.only f.asking f.is_line))
