-- What a proof without a fault comes to, by its label and ask lines alone.
use Rattle.std.specs.Prelude.{◌≡◌, ℕ, List, Contains, Some}
use Rattle.nal_term.specs.Trees.{FormulaTree}
use Rattle.proof_lines.specs.declared.rules.Rule.TheVariants.{Ask}
use Rattle.proof_lines.specs.Lines.{LineTree}
use Rattle.nal_rules.specs.Faults.{line_at}
use Rattle.nal_rules.specs.Verdicts.{IsLowest, IsMissingLabel}
use Rattle.nal_rules.specs.declared.verdicts.Cause.TheVariants.{LabelMissing, AuthorityNo}
use Rattle.nal_rules.specs.declared.verdicts.Verdict.{Verdict}
use Rattle.nal_rules.specs.declared.verdicts.Verdict.TheVariants.{Allowed, Denied}
use Rattle.answer_commands.specs.CheckForm.{CheckForm}

-- line k is an ask line whose formula is none of these
abbrev pub IsUnanswered : List LineTree → List FormulaTree → ℕ → Type 0
IsUnanswered proof answered k = (l : LineTree) × (line_at proof k ≡ Some l) × (l.rule ≡ Ask) × ¬ Contains answered l.formula

-- the verdict on a proof without a fault: the lowest label that is missing, else the lowest ask line that is not
-- answered Yes
abbrev pub IsSupportVerdict : CheckForm → Verdict → Type 0
IsSupportVerdict form (Denied (LabelMissing k)) = IsLowest (IsMissingLabel form.proof form.labels) k
IsSupportVerdict form (Denied (AuthorityNo k)) = ((j : ℕ) → ¬ IsMissingLabel form.proof form.labels j) × IsLowest (IsUnanswered form.proof form.yes) k
IsSupportVerdict form (Denied other) = ⊥
IsSupportVerdict form Allowed = ((j : ℕ) → ¬ IsMissingLabel form.proof form.labels j) × ((j : ℕ) → ¬ IsUnanswered form.proof form.yes j)
