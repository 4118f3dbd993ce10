-- The canonical texts of terms and formulas: one for each tree, which is read again as it.
use Rattle.std.specs.Prelude.{◌<◌, ◌≤◌, ◌+◌, ◌^◌, ℕ, List, [], ◌∷◌, ◌++◌, length, map, max, nat_lt, codes, All, if◌then◌else◌}
use Rattle.std.specs.Fmt.{decimal}
use Rattle.nal_term.specs.declared.formulas.Compare.{Compare}
use Rattle.nal_term.specs.declared.formulas.Compare.TheVariants.{Equal, Less, AtMost}
use Rattle.nal_term.specs.Names.{IsName, IsText}
use Rattle.nal_term.specs.Trees.{TermTree, number, name, text, variable, subprincipal, FormulaTree, verum, falsum, atom, test, and, or, implies, forall, exists, says, speaks_for, speaks_for_on}

-- how many bytes the text of a formula or a term may have, and how many levels may be open at once in a formula
abbrev pub most_text_bytes : ℕ
most_text_bytes = 1024

abbrev pub most_levels : ℕ
most_levels = 64

-- how many arguments an atom may have, and how many names a scope
abbrev pub most_arguments : ℕ
most_arguments = 8

abbrev pub most_scope_names : ℕ
most_scope_names = 8

-- items with a comma and a space between them
abbrev pub joined : List (List ℕ) → List ℕ
joined [] = []
joined (x ∷ []) = x
joined (x ∷ y ∷ ys) = x ++ codes ", " ++ joined (y ∷ ys)

-- a text in brackets
abbrev pub enclosed : List ℕ → List ℕ
enclosed bytes = 40 ∷ bytes ++ 41 ∷ []

-- a term's text
abbrev pub term_text : TermTree → List ℕ
term_text (number n) = decimal n
term_text (name x) = x
term_text (text x) = 34 ∷ x ++ 34 ∷ []
term_text (variable x) = 63 ∷ x
term_text (subprincipal t x) = term_text t ++ 46 ∷ x

-- an atom: its predicate, and its arguments in brackets where there are any
abbrev pub atom_text : List ℕ → List TermTree → List ℕ
atom_text p [] = p
atom_text p (t ∷ ts) = p ++ enclosed (joined (map term_text (t ∷ ts)))

-- a scope: its name, or its names in brackets where there are several
abbrev pub scope_text : List (List ℕ) → List ℕ
scope_text (x ∷ []) = x
scope_text xs = enclosed (joined xs)

-- the sign of a comparison between two spaces
abbrev pub comparison_sign : Compare → List ℕ
comparison_sign Equal = codes " = "
comparison_sign Less = codes " < "
comparison_sign AtMost = codes " <= "

-- how strongly a formula's parts hold together
abbrev pub strength : FormulaTree → ℕ
strength (forall x a) = 0
strength (exists x a) = 0
strength (implies a b) = 1
strength (or a b) = 2
strength (and a b) = 3
strength _ = 4

-- a part is put into brackets exactly where its strength is below the one that its place asks for
abbrev pub part_text : ℕ → FormulaTree → List ℕ → List ℕ
part_text asked f bytes = if nat_lt (strength f) asked then enclosed bytes else bytes

-- a formula's text
abbrev pub formula_text : FormulaTree → List ℕ
formula_text verum = codes "true"
formula_text falsum = codes "false"
formula_text (atom p ts) = atom_text p ts
formula_text (test c t u) = term_text t ++ comparison_sign c ++ term_text u
formula_text (and a b) = part_text 3 a (formula_text a) ++ codes " and " ++ part_text 4 b (formula_text b)
formula_text (or a b) = part_text 2 a (formula_text a) ++ codes " or " ++ part_text 3 b (formula_text b)
formula_text (implies a b) = part_text 2 a (formula_text a) ++ codes " => " ++ formula_text b
formula_text (forall x a) = codes "forall ?" ++ x ++ codes " : " ++ formula_text a
formula_text (exists x a) = codes "exists ?" ++ x ++ codes " : " ++ formula_text a
formula_text (says t a) = term_text t ++ codes " says " ++ part_text 4 a (formula_text a)
formula_text (speaks_for t u) = term_text t ++ codes " speaksfor " ++ term_text u
formula_text (speaks_for_on t u s) = term_text t ++ codes " speaksfor " ++ term_text u ++ codes " on " ++ scope_text s

-- how many levels a part opens at once, with its brackets
abbrev pub part_levels : ℕ → FormulaTree → ℕ → ℕ
part_levels asked f levels = if nat_lt (strength f) asked then levels + 1 else levels

-- the levels that the brackets round these items open
abbrev pub list_levels : {A : Type 0} → List A → ℕ
list_levels [] = 0
list_levels (x ∷ xs) = 1

-- the levels that the brackets of a scope open
abbrev pub scope_levels : List (List ℕ) → ℕ
scope_levels (x ∷ []) = 0
scope_levels xs = 1

-- how many levels a formula's text opens at once, at most
abbrev pub formula_levels : FormulaTree → ℕ
formula_levels (atom p ts) = list_levels ts
formula_levels (and a b) = max (part_levels 3 a (formula_levels a)) (part_levels 4 b (formula_levels b))
formula_levels (or a b) = max (part_levels 2 a (formula_levels a)) (part_levels 3 b (formula_levels b))
formula_levels (implies a b) = max (part_levels 2 a (formula_levels a)) (formula_levels b + 1)
formula_levels (forall x a) = formula_levels a + 1
formula_levels (exists x a) = formula_levels a + 1
formula_levels (says t a) = part_levels 4 a (formula_levels a) + 1
formula_levels (speaks_for_on t u s) = scope_levels s
formula_levels _ = 0

-- the canonical text keeps the limits: 1,024 bytes, and 64 levels open at once
pub record FormulaFits (f : FormulaTree) : Type 0 where
  pub length_limit : length (formula_text f) ≤ most_text_bytes
  pub level_limit : formula_levels f ≤ most_levels

-- the same of a term, which opens no levels
abbrev pub TermFits : TermTree → Type 0
TermFits t = length (term_text t) ≤ most_text_bytes

-- what the parts of a term are made of keeps the limits of its kind
abbrev pub IsSpellableTerm : TermTree → Type 0
IsSpellableTerm (number n) = n < 2 ^ 64
IsSpellableTerm (name x) = IsName x
IsSpellableTerm (text x) = IsText x
IsSpellableTerm (variable x) = IsName x
IsSpellableTerm (subprincipal t x) = IsSpellableTerm t × IsName x

-- the same of a formula, with at most 8 arguments of an atom and 1 to 8 names of a scope
abbrev pub IsSpellable : FormulaTree → Type 0
IsSpellable (atom p ts) = IsName p × All IsSpellableTerm ts × (length ts ≤ most_arguments)
IsSpellable (test c t u) = IsSpellableTerm t × IsSpellableTerm u
IsSpellable (and a b) = IsSpellable a × IsSpellable b
IsSpellable (or a b) = IsSpellable a × IsSpellable b
IsSpellable (implies a b) = IsSpellable a × IsSpellable b
IsSpellable (forall x a) = IsName x × IsSpellable a
IsSpellable (exists x a) = IsName x × IsSpellable a
IsSpellable (says t a) = IsSpellableTerm t × IsSpellable a
IsSpellable (speaks_for t u) = IsSpellableTerm t × IsSpellableTerm u
IsSpellable (speaks_for_on t u s) = IsSpellableTerm t × IsSpellableTerm u × All IsName s × (0 < length s) × (length s ≤ most_scope_names)
IsSpellable _ = Unit {0}
