-- Lines of proofs as plain values: the rule, the references and the trees of term and formula.
use Rattle.std.specs.Prelude.{◌≡◌, ℕ, List, map, Bool, true, false, length, Option, option_map, is_some}
use Rattle.nal_term.specs.Trees.{TermTree, FormulaTree, term_tree, formula_tree}
use Rattle.proof_lines.specs.declared.rules.Rule.{Rule}
use Rattle.proof_lines.specs.declared.rules.Rule.TheVariants.{Label, Ask, Hyp, TrueI, AndI, AndL, AndR, OrL, OrR, OrE, ImpI, ImpE, FalseE, ForallI, ForallE, ExistsI, ExistsE, EqRefl, EqSym, EqTrans, Arith, LtTrans, SaysI, Deduce, SaysJoin, SfRefl, SfTrans, SfSub, SfE, SfOnE, SfWeak, Handoff, HandoffOn}
use Rattle.proof_lines.specs.declared.lines.Line.{Line}

-- how many references a line of the rule has
abbrev pub reference_count : Rule → ℕ
reference_count Label = 0
reference_count Ask = 0
reference_count Hyp = 0
reference_count TrueI = 0
reference_count AndI = 2
reference_count AndL = 1
reference_count AndR = 1
reference_count OrL = 1
reference_count OrR = 1
reference_count OrE = 5
reference_count ImpI = 2
reference_count ImpE = 2
reference_count FalseE = 1
reference_count ForallI = 1
reference_count ForallE = 1
reference_count ExistsI = 1
reference_count ExistsE = 3
reference_count EqRefl = 0
reference_count EqSym = 1
reference_count EqTrans = 2
reference_count Arith = 0
reference_count LtTrans = 2
reference_count SaysI = 1
reference_count Deduce = 2
reference_count SaysJoin = 1
reference_count SfRefl = 0
reference_count SfTrans = 2
reference_count SfSub = 0
reference_count SfE = 2
reference_count SfOnE = 2
reference_count SfWeak = 1
reference_count Handoff = 1
reference_count HandoffOn = 1

-- the rules whose lines have a term in brackets
abbrev pub takes_term : Rule → Bool
takes_term ForallE = true
takes_term ExistsI = true
takes_term _ = false

-- a line of a proof
pub record LineTree : Type 0 where
  pub rule : Rule
  pub refs : List ℕ
  pub term : Option TermTree
  pub formula : FormulaTree

-- the plain value of a line
abbrev pub line_tree : Line → LineTree
line_tree l = record { rule = l.rule; refs = l.refs; term = option_map term_tree l.term; formula = formula_tree l.formula }

-- the plain values of a proof's lines
abbrev pub line_trees : List Line → List LineTree
line_trees ls = map line_tree ls

-- the line has as many references as its rule, and a term exactly where its rule has one
pub record HasRuleForm (l : LineTree) : Type 0 where
  pub references : length l.refs ≡ reference_count l.rule
  pub term : is_some l.term ≡ takes_term l.rule
