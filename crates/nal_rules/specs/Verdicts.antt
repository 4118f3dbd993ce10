-- Verdicts: the first cause for which a case is denied, or that it is allowed.
use Rattle.std.specs.Prelude.{◌≡◌, ◌<◌, ℕ, zero, suc, List, [], filter, take, length, Bool, true, Option, Some, None, Contains, slice_get}
use Rattle.nal_term.specs.Trees.{TermTree, FormulaTree, says}
use Rattle.proof_lines.specs.declared.rules.Rule.TheVariants.{Label, Ask}
use Rattle.proof_lines.specs.Lines.{LineTree}
use Rattle.nal_rules.specs.Faults.{line_at, is_ask, HasLowestFault}
use Rattle.nal_rules.specs.declared.verdicts.Cause.{Cause}
use Rattle.nal_rules.specs.declared.verdicts.Cause.TheVariants.{GoalUnset, NoProof, Line, LabelMissing, NotBound, AuthorityNo}
use Rattle.nal_rules.specs.declared.verdicts.Verdict.{Verdict}
use Rattle.nal_rules.specs.declared.verdicts.Verdict.TheVariants.{Allowed, Denied}

-- what is judged: the goal in force, the proof that is registered, the labels held, and the ports to which
-- principals are bound
pub record CaseTree : Type 0 where
  pub goal : Option FormulaTree
  pub proof : Option (List LineTree)
  pub labels : List FormulaTree
  pub bound : List (TermTree × ℕ)

-- line k is an ask line with the statement of this principal
abbrev pub IsAskOf : List LineTree → ℕ → TermTree → FormulaTree → Type 0
IsAskOf proof k p s = (l : LineTree) × (line_at proof k ≡ Some l) × (l.rule ≡ Ask) × (l.formula ≡ says p s)

-- line k is a label line whose formula is not held
abbrev pub IsMissingLabel : List LineTree → List FormulaTree → ℕ → Type 0
IsMissingLabel proof labels k = (l : LineTree) × (line_at proof k ≡ Some l) × (l.rule ≡ Label) × ¬ Contains labels l.formula

-- line k is an ask line whose principal has no port
abbrev pub IsUnbound : List LineTree → List (TermTree × ℕ) → ℕ → Type 0
IsUnbound proof bound k = (p : TermTree) × (s : FormulaTree) × IsAskOf proof k p s × ((port : ℕ) → ¬ Contains bound (p, port))

-- the place of ask line k among the ask lines, counted from 0
abbrev pub ask_place : List LineTree → ℕ → ℕ
ask_place proof zero = 0
ask_place proof (suc k) = length (filter is_ask (take k proof))

-- line k is an ask line that is not answered Yes; an answer that is missing is No
abbrev pub IsAnsweredNo : List LineTree → List Bool → ℕ → Type 0
IsAnsweredNo proof answers k = (l : LineTree) × (line_at proof k ≡ Some l) × (l.rule ≡ Ask) × ¬ (slice_get answers (ask_place proof k) ≡ Some true)

-- the first line of which the fact holds
abbrev pub IsLowest : (ℕ → Type 0) → ℕ → Type 0
IsLowest Fact k = Fact k × ((j : ℕ) → j < k → ¬ Fact j)

-- the cause applies to the case, the ask lines being answered so in their order
abbrev pub HasCause : CaseTree → List Bool → Cause → Type 0
HasCause c answers GoalUnset = c.goal ≡ None
HasCause c answers NoProof = (proof : List LineTree) → c.proof ≡ Some proof → proof ≡ []
HasCause c answers (Line k fault) = (proof : List LineTree) × (goal : FormulaTree) × (c.proof ≡ Some proof) × (c.goal ≡ Some goal) × HasLowestFault proof goal k fault
HasCause c answers (LabelMissing k) = (proof : List LineTree) × (c.proof ≡ Some proof) × IsLowest (IsMissingLabel proof c.labels) k
HasCause c answers (NotBound k) = (proof : List LineTree) × (c.proof ≡ Some proof) × IsLowest (IsUnbound proof c.bound) k
HasCause c answers (AuthorityNo k) = (proof : List LineTree) × (c.proof ≡ Some proof) × IsLowest (IsAnsweredNo proof answers) k

-- the number of a cause, by which the first is found
abbrev pub cause_number : Cause → ℕ
cause_number GoalUnset = 1
cause_number NoProof = 2
cause_number (Line k fault) = 3
cause_number (LabelMissing k) = 4
cause_number (NotBound k) = 5
cause_number (AuthorityNo k) = 6

-- the verdict on a case: allowed where no cause applies, else denied by the first that does
abbrev pub IsVerdict : CaseTree → List Bool → Verdict → Type 0
IsVerdict c answers Allowed = (cause : Cause) → ¬ HasCause c answers cause
IsVerdict c answers (Denied cause) = HasCause c answers cause × ((other : Cause) → cause_number other < cause_number cause → ¬ HasCause c answers other)
