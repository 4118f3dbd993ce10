-- What the guard finds of a case, by what the panel tells of the asks that it made for it.
use Rattle.std.specs.Prelude.{◌≡◌, ℕ, ◌-◌, ◌⊎◌, List, [], ◌∷◌, ◌++◌, length, map, filter, take, Bool, true, false, cond, Some}
use Rattle.nal_term.specs.Trees.{TermTree, FormulaTree, says}
use Rattle.proof_lines.specs.declared.rules.Rule.TheVariants.{Ask as AskRule}
use Rattle.proof_lines.specs.Lines.{LineTree}
use Rattle.nal_rules.specs.Asking.{Asked, IsAsked, IsDecided, asks_for, lines_of, port_in}
use Rattle.nal_rules.specs.Faults.{is_ask, line_at}
use Rattle.nal_rules.specs.Verdicts.{CaseTree, IsVerdict}
use Rattle.nal_rules.specs.declared.verdicts.Verdict.{Verdict}
use Rattle.nal_rules.specs.declared.verdicts.Verdict.TheVariants.{Allowed as AllowedVerdict, Denied as DeniedVerdict}
use Rattle.authority_ask.specs.Panels.{Told}
use Rattle.authority_ask.specs.declared.panels.Ask.{Ask}
use Rattle.authority_ask.specs.declared.panels.Ask.TheVariants.{Yes, No, Down as DownAnswer, NoMemory}
use Rattle.guard_core.specs.declared.findings.Finding.{Finding}
use Rattle.guard_core.specs.declared.findings.Finding.TheVariants.{Allowed, Denied}
use Rattle.guard_core.specs.declared.findings.GuardError.{GuardError}
use Rattle.guard_core.specs.declared.findings.GuardError.TheVariants.{Down, Memory}

-- whether an answer was Yes
abbrev pub is_yes : Ask → Bool
is_yes Yes = true
is_yes _ = false

-- the answers that were given, in order: whether each was Yes
abbrev pub answers_in : List Told → List Bool
answers_in told = map (λ (t : Told). is_yes t.answer) told

-- what a panel tells of an ask that was answered Yes or No
abbrev pub told_of : Asked → Told
told_of ask = record { port = ask.port; statement = ask.statement; answer = cond ask.affirmed Yes No }

-- the verdict that a finding is
abbrev pub verdict_of : Finding → Verdict
verdict_of (Allowed asks) = AllowedVerdict
verdict_of (Denied cause) = DeniedVerdict cause

-- where the call is allowed, the number that is told is that of the ask lines
abbrev pub HasCount : CaseTree → Finding → Type 0
HasCount c (Allowed asks) = asks ≡ length (filter is_ask (lines_of c))
HasCount c (Denied cause) = Unit {0}

-- a case was judged: with the answers that were given the finding is its verdict, and exactly that was asked which its
-- questions are
pub record IsJudged (c : CaseTree) (told : List Told) (finding : Finding) : Type 0 where
  pub verdict : IsVerdict c (answers_in told) (verdict_of finding)
  pub count : HasCount c finding
  pub asks : List Asked
  pub asked : IsAsked c (answers_in told) asks
  pub told_is : told ≡ map told_of asks

-- what is asked for ask lines that are all answered Yes
abbrev pub all_asked : List (TermTree × ℕ) → List LineTree → List Asked
all_asked bound ls = asks_for bound ls (map (λ (_ : LineTree). true) ls)

-- line k is an ask line, its statement was asked at its principal's port and answered so, and this was told last
pub record IsAskedAt (ls : List LineTree) (bound : List (TermTree × ℕ)) (k : ℕ) (answer : Ask) (before told : List Told) : Type 0 where
  pub line : LineTree
  pub principal : TermTree
  pub statement : FormulaTree
  pub port : ℕ
  pub stands : line_at ls k ≡ Some line
  pub is_ask_line : line.rule ≡ AskRule
  pub says_is : line.formula ≡ says principal statement
  pub port_is : port_in bound principal ≡ Some port
  pub told_is : told ≡ before ++ record { port = port; statement = statement; answer = answer } ∷ []

-- the asks stopped at line k: the ask lines before it were answered Yes, and it was answered so
abbrev pub IsStoppedAt : List LineTree → List (TermTree × ℕ) → ℕ → Ask → List Told → Type 0
IsStoppedAt ls bound k answer told = IsAskedAt ls bound k answer (map told_of (all_asked bound (filter is_ask (take (k - 1) ls)))) told

-- the guard broke off: nothing but authorities could decide the case, and the asks stopped at a line that was Down or for
-- which there was no memory; or there was none for the guard, and nothing was asked
abbrev pub IsBrokenOff : CaseTree → List Told → GuardError → Type 0
IsBrokenOff c told (Down k) = (IsDecided c → ⊥) × IsStoppedAt (lines_of c) c.bound k DownAnswer told
IsBrokenOff c told Memory = (told ≡ []) ⊎ ((k : ℕ) × (IsDecided c → ⊥) × IsStoppedAt (lines_of c) c.bound k NoMemory told)
