-- The grammar of formulas and terms. `Reads.. bytes tree rest` says that the text `bytes` begins with a
-- spelling of `tree`, which `rest` follows. `n` is how many more levels may be open at a place: a bracket,
-- `not`, `says`, a quantifier and the right side of `=>` each open one.
use Rattle.std.specs.Prelude.{◌≡◌, ◌<◌, ◌≤◌, ◌-◌, ℕ, List, [], ◌∷◌, length, Option, Some, None}
use Rattle.nal_term.specs.declared.formulas.Compare.{Compare}
use Rattle.nal_term.specs.declared.formulas.Compare.TheVariants as kind
use Rattle.nal_term.specs.Trees.{TermTree, FormulaTree}
use Rattle.nal_term.specs.Trees as tree
use Rattle.nal_parse.specs.declared.tokens.Keyword.TheVariants as word
use Rattle.nal_parse.specs.declared.tokens.Quantifier.{Quantifier}
use Rattle.nal_parse.specs.declared.tokens.Quantifier.TheVariants as every
use Rattle.nal_parse.specs.Tokens.{Lexeme, next_cut}
use Rattle.nal_parse.specs.Tokens as lexeme
use Rattle.nal_parse.specs.Canonical.{FormulaFits, TermFits, most_arguments, most_levels, most_scope_names, most_text_bytes}

-- { "." name } after the term `t`: the subprincipals of the term so far
pub data ReadsParts : TermTree → List ℕ → TermTree → List ℕ → Type 0 where
  done : {t : TermTree} {rest : List ℕ} → ReadsParts t rest t rest
  part : {t u : TermTree} {bytes a b rest : List ℕ} {x : List ℕ}
      → next_cut bytes ≡ (lexeme.dot, a) → next_cut a ≡ (lexeme.name x, b) → ReadsParts (tree.subprincipal t x) b u rest
      → ReadsParts t bytes u rest

-- term = (number | name | text | variable) { "." name }
pub data ReadsTerm : List ℕ → TermTree → List ℕ → Type 0 where
  number : {n : ℕ} {t : TermTree} {bytes a rest : List ℕ} → next_cut bytes ≡ (lexeme.number n, a) → ReadsParts (tree.number n) a t rest → ReadsTerm bytes t rest
  name : {x : List ℕ} {t : TermTree} {bytes a rest : List ℕ} → next_cut bytes ≡ (lexeme.name x, a) → ReadsParts (tree.name x) a t rest → ReadsTerm bytes t rest
  text : {x : List ℕ} {t : TermTree} {bytes a rest : List ℕ} → next_cut bytes ≡ (lexeme.quoted x, a) → ReadsParts (tree.text x) a t rest → ReadsTerm bytes t rest
  variable : {x : List ℕ} {t : TermTree} {bytes a rest : List ℕ} → next_cut bytes ≡ (lexeme.variable x, a) → ReadsParts (tree.variable x) a t rest → ReadsTerm bytes t rest

-- item { "," item } ")" with at most k items: the arguments of an atom, or the names of a scope, after the
-- opening bracket
pub data ReadsList {A : Type 0} (Item : List ℕ → A → List ℕ → Type 0) : ℕ → List ℕ → List A → List ℕ → Type 0 where
  last : {k : ℕ} {x : A} {bytes a rest : List ℕ} → 0 < k → Item bytes x a → next_cut a ≡ (lexeme.closes, rest) → ReadsList Item k bytes (x ∷ []) rest
  more : {k : ℕ} {x : A} {xs : List A} {bytes a b rest : List ℕ} → 0 < k → Item bytes x a → next_cut a ≡ (lexeme.comma, b)
      → ReadsList Item (k - 1) b xs rest → ReadsList Item k bytes (x ∷ xs) rest

-- the name in front of a text
abbrev pub ReadsName : List ℕ → List ℕ → List ℕ → Type 0
ReadsName bytes x rest = next_cut bytes ≡ (lexeme.name x, rest)

-- scope = name | "(" name { "," name } ")"
pub data ReadsScope : ℕ → List ℕ → List (List ℕ) → List ℕ → Type 0 where
  one : {n : ℕ} {x : List ℕ} {bytes rest : List ℕ} → next_cut bytes ≡ (lexeme.name x, rest) → ReadsScope n bytes (x ∷ []) rest
  several : {n : ℕ} {xs : List (List ℕ)} {bytes a rest : List ℕ} → 0 < n → next_cut bytes ≡ (lexeme.opens, a) → ReadsList ReadsName most_scope_names a xs rest → ReadsScope n bytes xs rest

-- the comparison that a sign stands for
abbrev pub comparison_of : Lexeme → Option Compare
comparison_of lexeme.equal = Some kind.Equal
comparison_of lexeme.less = Some kind.Less
comparison_of lexeme.at_most = Some kind.AtMost
comparison_of _ = None

-- the quantifier that a reserved word stands for
abbrev pub quantifier_of : Lexeme → Option Quantifier
quantifier_of (lexeme.keyword word.Forall) = Some every.Universal
quantifier_of (lexeme.keyword word.Exists) = Some every.Existential
quantifier_of _ = None

-- the formula that a quantifier makes
abbrev pub quantify : Quantifier → List ℕ → FormulaTree → FormulaTree
quantify every.Universal x f = tree.forall x f
quantify every.Existential x f = tree.exists x f

mutual
  -- formula = ("forall" | "exists") variable ":" formula | implication
  pub data ReadsFormula : ℕ → List ℕ → FormulaTree → List ℕ → Type 0 where
    quantified : {n : ℕ} {q : Quantifier} {l : Lexeme} {x : List ℕ} {f : FormulaTree} {bytes a b c rest : List ℕ} → 0 < n → next_cut bytes ≡ (l, a)
        → quantifier_of l ≡ Some q → next_cut a ≡ (lexeme.variable x, b) → next_cut b ≡ (lexeme.colon, c) → ReadsFormula (n - 1) c f rest
        → ReadsFormula n bytes (quantify q x f) rest
    unquantified : {n : ℕ} {f : FormulaTree} {bytes rest : List ℕ} → ReadsImplication n bytes f rest → ReadsFormula n bytes f rest

  -- implication = disjunction [ "=>" formula ]
  pub data ReadsImplication : ℕ → List ℕ → FormulaTree → List ℕ → Type 0 where
    no_arrow : {n : ℕ} {f : FormulaTree} {bytes rest : List ℕ} → ReadsDisjunction n bytes f rest → ReadsImplication n bytes f rest
    arrow : {n : ℕ} {f g : FormulaTree} {bytes a b rest : List ℕ} → 0 < n → ReadsDisjunction n bytes f a → next_cut a ≡ (lexeme.arrow, b)
        → ReadsFormula (n - 1) b g rest → ReadsImplication n bytes (tree.implies f g) rest

  -- disjunction = conjunction { "or" conjunction }
  pub data ReadsDisjunction : ℕ → List ℕ → FormulaTree → List ℕ → Type 0 where
    disjuncts : {n : ℕ} {f g : FormulaTree} {bytes a rest : List ℕ} → ReadsConjunction n bytes f a → ReadsOrs n f a g rest → ReadsDisjunction n bytes g rest

  -- { "or" conjunction } after the formula `f`, grouped to the left
  pub data ReadsOrs : ℕ → FormulaTree → List ℕ → FormulaTree → List ℕ → Type 0 where
    no_or : {n : ℕ} {f : FormulaTree} {rest : List ℕ} → ReadsOrs n f rest f rest
    or : {n : ℕ} {f g h : FormulaTree} {bytes a b rest : List ℕ} → next_cut bytes ≡ (lexeme.keyword word.Or, a) → ReadsConjunction n a g b
        → ReadsOrs n (tree.or f g) b h rest → ReadsOrs n f bytes h rest

  -- conjunction = unary { "and" unary }
  pub data ReadsConjunction : ℕ → List ℕ → FormulaTree → List ℕ → Type 0 where
    conjuncts : {n : ℕ} {f g : FormulaTree} {bytes a rest : List ℕ} → ReadsUnary n bytes f a → ReadsAnds n f a g rest → ReadsConjunction n bytes g rest

  -- { "and" unary } after the formula `f`, grouped to the left
  pub data ReadsAnds : ℕ → FormulaTree → List ℕ → FormulaTree → List ℕ → Type 0 where
    no_and : {n : ℕ} {f : FormulaTree} {rest : List ℕ} → ReadsAnds n f rest f rest
    and : {n : ℕ} {f g h : FormulaTree} {bytes a b rest : List ℕ} → next_cut bytes ≡ (lexeme.keyword word.And, a) → ReadsUnary n a g b
        → ReadsAnds n (tree.and f g) b h rest → ReadsAnds n f bytes h rest

  -- unary = "not" unary | "true" | "false" | "(" formula ")" | name "(" term { "," term } ")" | statement
  pub data ReadsUnary : ℕ → List ℕ → FormulaTree → List ℕ → Type 0 where
    not : {n : ℕ} {f : FormulaTree} {bytes a rest : List ℕ} → 0 < n → next_cut bytes ≡ (lexeme.keyword word.Not, a) → ReadsUnary (n - 1) a f rest
        → ReadsUnary n bytes (tree.implies f tree.falsum) rest
    verum : {n : ℕ} {bytes rest : List ℕ} → next_cut bytes ≡ (lexeme.keyword word.True, rest) → ReadsUnary n bytes tree.verum rest
    falsum : {n : ℕ} {bytes rest : List ℕ} → next_cut bytes ≡ (lexeme.keyword word.False, rest) → ReadsUnary n bytes tree.falsum rest
    group : {n : ℕ} {f : FormulaTree} {bytes a b rest : List ℕ} → 0 < n → next_cut bytes ≡ (lexeme.opens, a) → ReadsFormula (n - 1) a f b
        → next_cut b ≡ (lexeme.closes, rest) → ReadsUnary n bytes f rest
    atom_of : {n : ℕ} {p : List ℕ} {ts : List TermTree} {bytes a b rest : List ℕ} → 0 < n → next_cut bytes ≡ (lexeme.name p, a) → next_cut a ≡ (lexeme.opens, b)
        → ReadsList ReadsTerm most_arguments b ts rest → ReadsUnary n bytes (tree.atom p ts) rest
    statement : {n : ℕ} {f : FormulaTree} {bytes rest : List ℕ} → ReadsStatement n bytes f rest → ReadsUnary n bytes f rest

  -- statement = term predicate | name
  pub data ReadsStatement : ℕ → List ℕ → FormulaTree → List ℕ → Type 0 where
    subject : {n : ℕ} {t : TermTree} {f : FormulaTree} {bytes a rest : List ℕ} → ReadsTerm bytes t a → ReadsPredicate n t a f rest → ReadsStatement n bytes f rest
    atom : {n : ℕ} {p : List ℕ} {bytes rest : List ℕ} → next_cut bytes ≡ (lexeme.name p, rest) → ReadsStatement n bytes (tree.atom p []) rest

  -- predicate = "says" unary | "speaksfor" term [ "on" scope ] | ("=" | "<" | "<=") term, after the term `t`
  pub data ReadsPredicate : ℕ → TermTree → List ℕ → FormulaTree → List ℕ → Type 0 where
    says : {n : ℕ} {t : TermTree} {f : FormulaTree} {bytes a rest : List ℕ} → 0 < n → next_cut bytes ≡ (lexeme.keyword word.Says, a)
        → ReadsUnary (n - 1) a f rest → ReadsPredicate n t bytes (tree.says t f) rest
    speaks_for : {n : ℕ} {t u : TermTree} {bytes a rest : List ℕ} → next_cut bytes ≡ (lexeme.keyword word.SpeaksFor, a)
        → ReadsTerm a u rest → ReadsPredicate n t bytes (tree.speaks_for t u) rest
    speaks_for_on : {n : ℕ} {t u : TermTree} {s : List (List ℕ)} {bytes a b c rest : List ℕ} → next_cut bytes ≡ (lexeme.keyword word.SpeaksFor, a)
        → ReadsTerm a u b → next_cut b ≡ (lexeme.keyword word.On, c) → ReadsScope n c s rest → ReadsPredicate n t bytes (tree.speaks_for_on t u s) rest
    comparison : {n : ℕ} {t u : TermTree} {l : Lexeme} {c : Compare} {bytes a rest : List ℕ} → next_cut bytes ≡ (l, a)
        → comparison_of l ≡ Some c → ReadsTerm a u rest → ReadsPredicate n t bytes (tree.test c t u) rest

-- the whole text spells the formula
abbrev pub SpellsFormula : ℕ → List ℕ → FormulaTree → Type 0
SpellsFormula n bytes f = (rest : List ℕ) × ReadsFormula n bytes f rest × ((next_cut rest).0 ≡ lexeme.end)

-- the whole text spells the term
abbrev pub SpellsTerm : List ℕ → TermTree → Type 0
SpellsTerm bytes t = (rest : List ℕ) × ReadsTerm bytes t rest × ((next_cut rest).0 ≡ lexeme.end)

-- the text is read as the formula: it spells it, in at most 1,024 bytes, with at most 64 levels open at once,
-- and the formula's canonical text keeps the same limits
pub record IsFormulaText (bytes : List ℕ) (f : FormulaTree) : Type 0 where
  pub length_limit : length bytes ≤ most_text_bytes
  pub spelled : SpellsFormula most_levels bytes f
  pub fits : FormulaFits f

-- the text is read as the term: it spells it, in at most 1,024 bytes, and so does the term's canonical text
pub record IsTermText (bytes : List ℕ) (t : TermTree) : Type 0 where
  pub length_limit : length bytes ≤ most_text_bytes
  pub spelled : SpellsTerm bytes t
  pub fits : TermFits t
