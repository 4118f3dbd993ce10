-- What is wrong with a line of an input whose first line stands before the text of a policy.
use Rattle.std.specs.Prelude.{◌≡◌, ◌≢◌, ℕ, List, []}
use Rattle.text_lines.specs.Lines.{after_line}
use Rattle.audit_form.specs.AuditForm.{most_session}
use Rattle.run_streams.specs.Flaws.{FlawTree}
use Rattle.input_flaws.specs.LineFlaws.{IsFlawAt}
use Rattle.input_flaws.specs.PolicyFlaws.{IsFrontFlaw}

-- the flaw of line k: the first may not stand there, or is missing; and a further one has that of the policy behind the first, or of what follows the policy
pub data IsHeadedFlaw (text : List ℕ) (k : ℕ) (flaw : FlawTree) : Type 0 where
  first : k ≡ 1 → IsFlawAt [] [] text k flaw → IsHeadedFlaw text k flaw
  further : k ≢ 1 → IsFrontFlaw most_session (after_line text) text k flaw → IsHeadedFlaw text k flaw
