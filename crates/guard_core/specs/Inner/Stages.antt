-- A proof without a fault, by its label and ask lines alone.
use Rattle.std.specs.Prelude.{◌≡◌, ℕ, List, length, map, filter, Some, Ok, Err}
use Rattle.std.specs.declared.result.Result.{Result}
use Rattle.nal_term.specs.Trees.{TermTree, FormulaTree, says}
use Rattle.proof_lines.specs.declared.rules.Rule.TheVariants.{Ask as AskRule}
use Rattle.proof_lines.specs.Lines.{LineTree}
use Rattle.nal_rules.specs.Asking.{port_in}
use Rattle.nal_rules.specs.Faults.{is_ask, line_at}
use Rattle.nal_rules.specs.declared.verdicts.Cause.TheVariants.{AuthorityNo}
use Rattle.authority_ask.specs.Panels.{Told}
use Rattle.authority_ask.specs.declared.panels.Ask.TheVariants.{No, Down as DownAnswer, NoMemory}
use Rattle.guard_core.specs.declared.findings.Finding.{Finding}
use Rattle.guard_core.specs.declared.findings.Finding.TheVariants.{Allowed, Denied}
use Rattle.guard_core.specs.declared.findings.GuardError.{GuardError}
use Rattle.guard_core.specs.declared.findings.GuardError.TheVariants.{Down, Memory}
use Rattle.guard_core.specs.Judging.{IsStoppedAt, all_asked, told_of}

-- each ask line is a statement of a principal that is bound to a port
abbrev pub AreAskable : List LineTree → List (TermTree × ℕ) → Type 0
AreAskable ls bound =
    (k : ℕ) (l : LineTree) → line_at ls k ≡ Some l → l.rule ≡ AskRule
    → (p : TermTree) × (s : FormulaTree) × (port : ℕ) × (l.formula ≡ says p s) × (port_in bound p ≡ Some port)

-- the ask lines were asked: all were Yes, or it stopped at the first that was not
abbrev pub HaveAnswered : List LineTree → List (TermTree × ℕ) → List Told → Result Finding GuardError → Type 0
HaveAnswered ls bound told (Ok (Allowed asks)) = (told ≡ map told_of (all_asked bound (filter is_ask ls))) × (asks ≡ length (filter is_ask ls))
HaveAnswered ls bound told (Ok (Denied (AuthorityNo k))) = IsStoppedAt ls bound k No told
HaveAnswered ls bound told (Ok (Denied _)) = ⊥
HaveAnswered ls bound told (Err (Down k)) = IsStoppedAt ls bound k DownAnswer told
HaveAnswered ls bound told (Err Memory) = (k : ℕ) × IsStoppedAt ls bound k NoMemory told
