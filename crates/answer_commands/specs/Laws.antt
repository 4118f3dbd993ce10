-- The law of what `check` comes to.
use Rattle.std.specs.Prelude.{◌≡◌, ◌≤◌, ℕ, List, length}
use Rattle.nal_rules.specs.declared.verdicts.Verdict.{Verdict}
use Rattle.run_streams.specs.declared.refusals.InputRefusal.{InputRefusal}
use Rattle.run_streams.specs.Refusals.{IsRefusal, refusal_text}
use Rattle.run_streams.specs.Runs.{most_bytes}
use Rattle.answer_commands.specs.Checks.{IsChecked, check_command}

-- an input has one verdict, or one line is written of its refusal, and never both: of a text that is not too large
pub record OneOutcome : Type 0 where
  pub one_verdict : (text : List ℕ) (a b : Verdict) → IsChecked text a → IsChecked text b → a ≡ b
  pub one_refusal : (text : List ℕ) (a b : InputRefusal) → IsRefusal check_command.form text a → IsRefusal check_command.form text b → refusal_text a ≡ refusal_text b
  pub not_both : (text : List ℕ) (refusal : InputRefusal) (verdict : Verdict) → length text ≤ most_bytes → IsRefusal check_command.form text refusal → ¬ IsChecked text verdict
