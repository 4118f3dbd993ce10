-- A case as a plain value, and what is asked of authorities when it is judged.
use Rattle.std.specs.Prelude.{◌≡◌, ◌<◌, ℕ, List, [], ◌∷◌, map, filter, Bool, false, Option, option_map, cond, unwrap_or}
use Rattle.std.specs.List.{find}
use Rattle.nal_term.specs.Trees.{TermTree, FormulaTree, says, term_tree, formula_tree}
use Rattle.nal_term.specs.TreeKeys.{same_terms}
use Rattle.proof_lines.specs.Lines.{LineTree, line_trees}
use Rattle.nal_rules.specs.Faults.{is_ask}
use Rattle.nal_rules.specs.Verdicts.{CaseTree, HasCause, cause_number}
use Rattle.nal_rules.specs.declared.verdicts.Cause.{Cause}
use Rattle.nal_rules.specs.declared.cases.Binding.{Binding}
use Rattle.nal_rules.specs.declared.cases.Case.{Case}

-- the plain value of a binding
abbrev pub binding_tree : Binding → TermTree × ℕ
binding_tree b = (term_tree b.principal, b.port)

-- the plain value of a case
abbrev pub case_tree : Case → CaseTree
case_tree c = record {
  goal = option_map formula_tree c.goal;
  proof = option_map line_trees c.proof;
  labels = map formula_tree c.labels;
  bound = map binding_tree c.bound;
}

-- the lines of a case's proof, none where it has no proof
abbrev pub lines_of : CaseTree → List LineTree
lines_of c = unwrap_or c.proof []

-- the port to which a principal is bound
abbrev pub port_in : List (TermTree × ℕ) → TermTree → Option ℕ
port_in bound p = option_map (λ (b : TermTree × ℕ). b.1) (find (λ (b : TermTree × ℕ). same_terms p b.0) bound)

-- one ask of an authority: its port, the statement, and whether it was answered Yes
pub record Asked : Type 0 where
  pub port : ℕ
  pub statement : FormulaTree
  pub affirmed : Bool

-- the answer that comes next, and those after it; one that is missing is No
abbrev pub next_answer : List Bool → Bool
next_answer [] = false
next_answer (b ∷ bs) = b

abbrev pub later_answers : List Bool → List Bool
later_answers [] = []
later_answers (b ∷ bs) = bs

-- what is asked for an ask line with this formula, with its answer, and what is asked after it: nothing where the
-- answer is No
abbrev pub ask_first : List (TermTree × ℕ) → FormulaTree → Bool → List Asked → List Asked
ask_first bound (says p s) affirmed later =
    record { port = unwrap_or (port_in bound p) 0; statement = s; affirmed = affirmed } ∷ cond affirmed later []
ask_first bound _ affirmed later = later

-- what is asked for these ask lines, in their order, up to and with the first that is answered No
abbrev pub asks_for : List (TermTree × ℕ) → List LineTree → List Bool → List Asked
asks_for bound [] answers = []
asks_for bound (l ∷ ls) answers = ask_first bound l.formula (next_answer answers) (asks_for bound ls (later_answers answers))

-- a cause applies that no answer of an authority can change
abbrev pub IsDecided : CaseTree → Type 0
IsDecided c = (cause : Cause) × (cause_number cause < 6) × HasCause c [] cause

-- what is asked when a case is judged with these answers: nothing where it is decided without
abbrev pub IsAsked : CaseTree → List Bool → List Asked → Type 0
IsAsked c answers asks = (IsDecided c → asks ≡ []) × (¬ IsDecided c → asks ≡ asks_for c.bound (filter is_ask (lines_of c)) answers)
