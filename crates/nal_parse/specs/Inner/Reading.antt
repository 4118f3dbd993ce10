-- What a reader of a part of a text answers: the one reading there is, or that there is none. A reading counts
-- where what follows it can go on after it.
use Rattle.std.specs.Prelude.{◌≡◌, ◌≢◌, ◌<◌, ◌≤◌, ◌^◌, ℕ, ◌-◌, ◌++◌, ◌∷◌, ◌⊎◌, length, [], List, Bool, true, false, nat_lt, IsTrue, Option, Some, None, Result, Ok, Err}
use Rattle.nal_parse.specs.declared.stops.Stop.{Stop}
use Rattle.nal_parse.specs.declared.stops.Stop.TheVariants.{Refused, Memory}
use Rattle.nal_parse.specs.declared.stops.Found.{Found}
use Rattle.nal_parse.specs.declared.stops.Found.TheVariants.{Unexpected, TooDeep, BadNumber, BadName, BadText}
use Rattle.nal_parse.specs.declared.parse.ParseError.{ParseError}
use Rattle.nal_parse.specs.declared.parse.ParseError.TheVariants as parse
use Rattle.nal_parse.specs.Errors.{BeginsWith}
use Rattle.nal_parse.specs.declared.parts.Part.{Part}
use Rattle.nal_term.specs.Trees.{TermTree, FormulaTree, formula_tree}
use Rattle.nal_term.specs.Trees as tree
use Rattle.nal_term.specs.Names.{is_name, is_text}
use Rattle.nal_parse.specs.declared.tokens.Keyword.TheVariants as word
use Rattle.nal_parse.specs.Tokens.{Lexeme, keyword, name, number, variable, quoted, closes, dot, colon, equal, less, at_most, arrow, end, bad_name, bad_number, bad_text, next_cut, after_blanks}
use Rattle.nal_parse.specs.declared.tokens.Quantifier.{Quantifier}
use Rattle.nal_parse.specs.Grammar.{ReadsList, ReadsTerm, ReadsParts, ReadsScope, ReadsFormula, ReadsPredicate, ReadsOrs, ReadsAnds, quantify}

-- the lexeme with which a text begins
abbrev pub first_lexeme : List ℕ → Lexeme
first_lexeme bytes = (next_cut bytes).0

-- `a` is read with `rest` after it, and nothing else is read whose rest begins with a lexeme that ends it
pub record ReadsOnly {A : Type 0} (ends : Lexeme → Bool) (R : A → List ℕ → Type 0) (a : A) (rest : List ℕ) : Type 0 where
  pub reads : R a rest
  pub only : (b : A) (other : List ℕ) → R b other → IsTrue (ends (first_lexeme other)) → (b ≡ a) × (other ≡ rest)

-- nothing is read whose rest begins with a lexeme that ends it
pub record ReadsNothing {A : Type 0} (ends : Lexeme → Bool) (R : A → List ℕ → Type 0) : Type 0 where
  pub none : (b : A) (other : List ℕ) → R b other → IsTrue (ends (first_lexeme other)) → ⊥

-- what is read with so many levels from a text, and what follows it
abbrev pub Readings : Type 0 → Type 1
Readings A = ℕ → List ℕ → A → List ℕ → Type 0

-- the token can be written before any other text
abbrev pub IsWritable : Lexeme → Type 0
IsWritable l = (tail : List ℕ) → (bytes : List ℕ) × (next_cut (32 ∷ bytes) ≡ (l, 32 ∷ tail))

abbrev pub AreWritable : List Lexeme → Type 0
AreWritable [] = Unit {0}
AreWritable (l ∷ ls) = IsWritable l × AreWritable ls

-- `a` is what the tokens in front of the text spell, in this text and in every other one that begins with them and
-- goes on with the same token
pub record ReadsHere {A : Type 0} (ends : Lexeme → Bool) (R : Readings A) (n : ℕ) (text : List ℕ) (a : A) (rest : List ℕ) : Type 0 where
  pub tokens : List Lexeme
  pub begins : BeginsWith text tokens rest
  pub writable : AreWritable tokens
  pub reads : (bytes other : List ℕ) (m : ℕ) → n ≤ m → BeginsWith bytes tokens other → R m bytes a other
  pub only : (bytes other : List ℕ) (m : ℕ) → n ≤ m → BeginsWith bytes tokens other → first_lexeme other ≡ first_lexeme rest → ReadsOnly ends (R m bytes) a other

-- a malformed token
abbrev pub is_malformed : Lexeme → Bool
is_malformed bad_name = true
is_malformed bad_number = true
is_malformed bad_text = true
is_malformed _ = false

-- what was found is what the token is
abbrev pub IsFound : Found → Lexeme → Type 0
IsFound BadName l = l ≡ bad_name
IsFound BadNumber l = l ≡ bad_number
IsFound BadText l = l ≡ bad_text
IsFound Unexpected l = is_malformed l ≡ false
IsFound TooDeep l = is_malformed l ≡ false

-- a reader stopped at a token: nothing is read from a text that begins with the tokens before it and goes on with it,
-- and with other tokens something is
pub record StopsHere {A : Type 0} (ends : Lexeme → Bool) (R : Readings A) (n : ℕ) (text : List ℕ) (found : Found) (left : ℕ) : Type 0 where
  pub tokens : List Lexeme
  pub stop : List ℕ
  pub begins : BeginsWith text tokens stop
  pub writable : AreWritable tokens
  pub place : left ≡ length (after_blanks stop)
  pub kind : IsFound found (first_lexeme stop)
  pub refuses : (bytes other : List ℕ) (m : ℕ) → n ≤ m → (found ≡ TooDeep → m ≡ n) → BeginsWith bytes tokens other → first_lexeme other ≡ first_lexeme stop → ReadsNothing ends (R m bytes)
  pub goes_on : (tail : List ℕ) → (bytes : List ℕ) × (other : List ℕ) × (a : A) × BeginsWith (32 ∷ bytes) tokens other × R n (32 ∷ bytes) a (32 ∷ tail)
  pub deeper : found ≡ TooDeep → (tail : List ℕ) → (m : ℕ) × (bytes : List ℕ) × (other : List ℕ) × (a : A) × (n ≤ m) × BeginsWith (32 ∷ bytes) tokens other
      × (first_lexeme other ≡ first_lexeme stop) × R m (32 ∷ bytes) a (32 ∷ tail)

-- why a reader stopped: at a token, or for want of memory
abbrev pub IsStopped : {A : Type 0} → (Lexeme → Bool) → Readings A → ℕ → List ℕ → Stop → Type 0
IsStopped ends R n text (Refused found left) = StopsHere ends R n text found left
IsStopped ends R n text Memory = Unit {0}

-- what a reader answers that leaves this of the text: the one reading, or why it stopped
abbrev pub IsReading : {T A : Type 0} → (T → A) → (Lexeme → Bool) → Readings A → ℕ → List ℕ → List ℕ → Result T Stop → Type 0
IsReading tree_of ends R n text rest (Ok a) = ReadsHere ends R n text (tree_of a) rest
IsReading tree_of ends R n text rest (Err stop) = IsStopped ends R n text stop

-- the tree of a formula that was read
abbrev pub part_tree : Part → FormulaTree
part_tree part = formula_tree part.formula.value

-- the stop at the first token of a text, which no spelling allows there
abbrev pub IsStopAt : Lexeme → List ℕ → Stop → Type 0
IsStopAt l text stop = (found : Found) × IsFound found l × (found ≢ TooDeep) × (stop ≡ Refused found (length (after_blanks text)))

-- the error that a stop is in a text of this length
abbrev pub error_of : Stop → ℕ → ParseError
error_of (Refused Unexpected left) size = parse.Unexpected (size - left)
error_of (Refused TooDeep left) size = parse.TooDeep (size - left)
error_of (Refused BadNumber left) size = parse.BadNumber (size - left)
error_of (Refused BadName left) size = parse.BadName (size - left)
error_of (Refused BadText left) size = parse.BadText (size - left)
error_of Memory size = parse.Memory

-- any lexeme may follow
abbrev pub anything : Lexeme → Bool
anything _ = true

-- what may follow a term: anything but a dot
abbrev pub ends_term : Lexeme → Bool
ends_term dot = false
ends_term _ = true

-- what may follow a conjunct: the end, a closing bracket, `and`, `or`, `=>`
abbrev pub ends_unary : Lexeme → Bool
ends_unary end = true
ends_unary closes = true
ends_unary arrow = true
ends_unary (keyword word.And) = true
ends_unary (keyword word.Or) = true
ends_unary _ = false

-- what may follow a disjunct
abbrev pub ends_conjunction : Lexeme → Bool
ends_conjunction end = true
ends_conjunction closes = true
ends_conjunction arrow = true
ends_conjunction (keyword word.Or) = true
ends_conjunction _ = false

-- what may follow the left side of `=>`
abbrev pub ends_disjunction : Lexeme → Bool
ends_disjunction end = true
ends_disjunction closes = true
ends_disjunction arrow = true
ends_disjunction _ = false

-- what may follow a formula
abbrev pub ends_formula : Lexeme → Bool
ends_formula end = true
ends_formula closes = true
ends_formula _ = false

-- whether a term goes on with the lexeme: as a longer one, or in a statement of it
abbrev pub goes_on : Lexeme → Bool
goes_on dot = true
goes_on equal = true
goes_on less = true
goes_on at_most = true
goes_on (keyword word.Says) = true
goes_on (keyword word.SpeaksFor) = true
goes_on _ = false

-- the term that a first token is
abbrev pub first_term : Lexeme → Option TermTree
first_term (number n) = Some (tree.number n)
first_term (name x) = Some (tree.name x)
first_term (quoted x) = Some (tree.text x)
first_term (variable x) = Some (tree.variable x)
first_term _ = None

-- the name, text or number of a token has the form of one
abbrev pub is_well_formed : Lexeme → Bool
is_well_formed (name x) = is_name x
is_well_formed (variable x) = is_name x
is_well_formed (quoted x) = is_text x
is_well_formed (number n) = nat_lt n (2 ^ 64)
is_well_formed _ = true

abbrev pub IsWellFormed : Lexeme → Type 0
IsWellFormed l = IsTrue (is_well_formed l)

-- a list that goes on: the items so far are `before`, and the text spells the others
abbrev pub ReadsMore : {A : Type 0} → (List ℕ → A → List ℕ → Type 0) → List A → Readings (List A)
ReadsMore {A} Item before n bytes all rest = (xs : List A) × ReadsList Item (8 - length before) bytes xs rest × (all ≡ before ++ xs)

-- the names of a scope so far
abbrev pub names_so_far : Option (List (List ℕ)) → List (List ℕ)
names_so_far None = []
names_so_far (Some xs) = xs

-- what `make` makes of a part that is read
abbrev pub ReadsMade : {A B : Type 0} → (A → B) → Readings A → Readings B
ReadsMade {A} make R n bytes b rest = (a : A) × R n bytes a rest × (b ≡ make a)

-- a part that is read, and then a lexeme
abbrev pub ReadsThen : {A : Type 0} → Readings A → Lexeme → Readings A
ReadsThen R l n bytes a rest = (between : List ℕ) × R n bytes a between × (next_cut between ≡ (l, rest))

-- variable ":" formula, after a quantifier
abbrev pub ReadsQuantified : Quantifier → Readings FormulaTree
ReadsQuantified q n bytes g rest =
    (x : List ℕ) × (f : FormulaTree) × (a : List ℕ) × (b : List ℕ) × (next_cut bytes ≡ (variable x, a)) × (next_cut a ≡ (colon, b))
    × ReadsFormula n b f rest × (g ≡ quantify q x f)

-- "speaksfor" was read after the term `t`: term [ "on" scope ]
abbrev pub ReadsDelegation : TermTree → Readings FormulaTree
ReadsDelegation t n bytes g rest =
    ((u : TermTree) × ReadsTerm bytes u rest × (g ≡ tree.speaks_for t u))
    ⊎ ((u : TermTree) × (s : List (List ℕ)) × (a : List ℕ) × (b : List ℕ) × ReadsTerm bytes u a × (next_cut a ≡ (keyword word.On, b)) × ReadsScope n b s rest
    × (g ≡ tree.speaks_for_on t u s))

-- the readings of a term, and of its parts, whatever the levels
abbrev pub Terms : Readings TermTree
Terms n = ReadsTerm

abbrev pub Parts : TermTree → Readings TermTree
Parts t n = ReadsParts t

-- what follows the term `t` in a statement: a predicate, or nothing where it is a name
abbrev pub ReadsRest : TermTree → Readings FormulaTree
ReadsRest t n bytes f rest = ReadsPredicate n t bytes f rest ⊎ ((p : List ℕ) × (t ≡ tree.name p) × (f ≡ tree.atom p []) × (rest ≡ bytes))

-- what follows the first token of a statement, which is the term `u`
abbrev pub ReadsContinued : TermTree → Readings FormulaTree
ReadsContinued u n bytes f rest = (t : TermTree) × (a : List ℕ) × ReadsParts u bytes t a × ReadsRest t n a f rest

-- the arguments of an atom, after the opening bracket, whatever the levels
abbrev pub Arguments : Readings (List TermTree)
Arguments n = ReadsList ReadsTerm 8

-- what follows a disjunct, or a conjunct, `f`
abbrev pub Ors : FormulaTree → Readings FormulaTree
Ors f n = ReadsOrs n f

abbrev pub Ands : FormulaTree → Readings FormulaTree
Ands f n = ReadsAnds n f

-- this lexeme is the next one of the text, and this is left behind it
pub record IsFront (text : List ℕ) (l : Lexeme) (rest : List ℕ) : Type 0 where
  pub cut : next_cut text ≡ (l, rest)
  pub form : IsWellFormed l
  pub bound : length rest ≤ length text
  pub shorter : l ≢ end → length rest < length text
