-- What an ask line was answered, by the verdict: Yes where it is below the line that was answered No, No where it is that line, and
-- nothing where it stands behind it or the case is decided without answers.
use Rattle.std.specs.Prelude.{◌≡◌, ℕ, List, Bool, true, false, Option, Some, None, nat_lt, nat_eq, if◌then◌else◌}
use Rattle.nal_rules.specs.declared.verdicts.Cause.TheVariants.{AuthorityNo}
use Rattle.nal_rules.specs.declared.verdicts.Verdict.{Verdict}
use Rattle.nal_rules.specs.declared.verdicts.Verdict.TheVariants.{Allowed, Denied}
use Rattle.nal_term.specs.Trees.{FormulaTree}
use Rattle.label_store.specs.LabelRows.{is_held}
use Rattle.policy_history.specs.declared.heads.Head.{Head}
use Rattle.policy_history.specs.Events.{EntryTree}
use Rattle.policy_history.specs.Machine.{replay}
use Rattle.label_holdings.specs.Holdings.{IsHeldBy}
use Rattle.case_reasons.specs.declared.lines.LineReason.{LineReason}
use Rattle.case_reasons.specs.declared.lines.LineReason.TheVariants.{Held, Missing}

abbrev pub answer_before : ℕ → ℕ → Option Bool
answer_before refused k = if nat_lt k refused then Some true else (if nat_eq k refused then Some false else None)

abbrev pub answer_by : Verdict → ℕ → Option Bool
answer_by Allowed k = Some true
answer_by (Denied (AuthorityNo refused)) k = answer_before refused k
answer_by (Denied _) k = None

-- what is told of a label line with this formula
abbrev pub IsLabelReason : Head → List EntryTree → ℕ → FormulaTree → LineReason → Type 0
IsLabelReason h es p f (Held by) = IsHeldBy h es p f by
IsLabelReason h es p f Missing = is_held (replay h es).labels p f ≡ false
IsLabelReason h es p f _ = ⊥
