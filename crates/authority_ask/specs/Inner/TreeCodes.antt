-- A code of formula trees, by which the logic keeps them: each is written as signs, an operator behind what it joins, and read back with
-- stacks. Nothing else is meant by it.
use Rattle.std.specs.Prelude.{◌≡◌, ℕ, List, [], ◌∷◌, ◌++◌}
use Rattle.std.proofs.Common.{refl, ap, ◌∙◌}
use Rattle.std.specs.Coded.{Coded, code_by, coded_list}
use Rattle.nal_term.specs.declared.formulas.Compare.{Compare}
use Rattle.nal_term.specs.Trees.{TermTree, number, name, text, variable, subprincipal, FormulaTree, verum, falsum, atom, test, and, or, implies, forall, exists, says, speaks_for, speaks_for_on}

-- one sign; all but those that begin a list or a tree join what was read last
pub data Sign : Type 0 where
  a_number : ℕ → Sign
  a_name : List ℕ → Sign
  a_text : List ℕ → Sign
  a_variable : List ℕ → Sign
  a_subprincipal : List ℕ → Sign
  no_terms : Sign
  a_term_before : Sign
  a_verum : Sign
  a_falsum : Sign
  an_atom : List ℕ → Sign
  a_test : Compare → Sign
  an_and : Sign
  an_or : Sign
  an_implies : Sign
  a_forall : List ℕ → Sign
  an_exists : List ℕ → Sign
  a_says : Sign
  a_speaks_for : Sign
  a_speaks_for_on : List (List ℕ) → Sign

-- what was read, the last first
pub record Stacks : Type 0 where
  pub terms : List TermTree
  pub lists : List (List TermTree)
  pub formulas : List FormulaTree

abbrev pub with_term : TermTree → Stacks → Stacks
with_term t s = record s { terms = t ∷ s.terms }

abbrev pub with_terms : List TermTree → Stacks → Stacks
with_terms ts s = record s { lists = ts ∷ s.lists }

abbrev pub with_formula : FormulaTree → Stacks → Stacks
with_formula f s = record s { formulas = f ∷ s.formulas }

abbrev pub term_signs : TermTree → List Sign
term_signs (number n) = a_number n ∷ []
term_signs (name x) = a_name x ∷ []
term_signs (text x) = a_text x ∷ []
term_signs (variable x) = a_variable x ∷ []
term_signs (subprincipal t x) = term_signs t ++ a_subprincipal x ∷ []

abbrev pub terms_signs : List TermTree → List Sign
terms_signs [] = no_terms ∷ []
terms_signs (t ∷ ts) = terms_signs ts ++ (term_signs t ++ a_term_before ∷ [])

abbrev pub signs : FormulaTree → List Sign
signs verum = a_verum ∷ []
signs falsum = a_falsum ∷ []
signs (atom p ts) = terms_signs ts ++ an_atom p ∷ []
signs (test c t u) = term_signs t ++ (term_signs u ++ a_test c ∷ [])
signs (and f g) = signs f ++ (signs g ++ an_and ∷ [])
signs (or f g) = signs f ++ (signs g ++ an_or ∷ [])
signs (implies f g) = signs f ++ (signs g ++ an_implies ∷ [])
signs (forall x f) = signs f ++ a_forall x ∷ []
signs (exists x f) = signs f ++ an_exists x ∷ []
signs (says t f) = term_signs t ++ (signs f ++ a_says ∷ [])
signs (speaks_for t u) = term_signs t ++ (term_signs u ++ a_speaks_for ∷ [])
signs (speaks_for_on t u s) = term_signs t ++ (term_signs u ++ a_speaks_for_on s ∷ [])

-- the last term, the last two, the last formula and the last two are joined
abbrev pub by_term : (TermTree → Stacks → Stacks) → List TermTree → Stacks → Stacks
by_term join [] s = s
by_term join (t ∷ ts) s = join t (record s { terms = ts })

abbrev pub by_terms : (TermTree → TermTree → FormulaTree) → List TermTree → Stacks → Stacks
by_terms join (u ∷ t ∷ ts) s = with_formula (join t u) (record s { terms = ts })
by_terms join _ s = s

abbrev pub by_list : (List TermTree → Stacks → Stacks) → List (List TermTree) → Stacks → Stacks
by_list join [] s = s
by_list join (ts ∷ lists) s = join ts (record s { lists = lists })

abbrev pub by_formula : (FormulaTree → FormulaTree) → List FormulaTree → Stacks → Stacks
by_formula join [] s = s
by_formula join (f ∷ fs) s = record s { formulas = join f ∷ fs }

abbrev pub by_formulas : (FormulaTree → FormulaTree → FormulaTree) → List FormulaTree → Stacks → Stacks
by_formulas join (g ∷ f ∷ fs) s = record s { formulas = join f g ∷ fs }
by_formulas join _ s = s

-- one sign is read
abbrev pub read_sign : Sign → Stacks → Stacks
read_sign (a_number n) s = with_term (number n) s
read_sign (a_name x) s = with_term (name x) s
read_sign (a_text x) s = with_term (text x) s
read_sign (a_variable x) s = with_term (variable x) s
read_sign (a_subprincipal x) s = by_term (λ t. with_term (subprincipal t x)) s.terms s
read_sign no_terms s = with_terms [] s
read_sign a_term_before s = by_term (λ t r. by_list (λ ts. with_terms (t ∷ ts)) r.lists r) s.terms s
read_sign a_verum s = with_formula verum s
read_sign a_falsum s = with_formula falsum s
read_sign (an_atom p) s = by_list (λ ts. with_formula (atom p ts)) s.lists s
read_sign (a_test c) s = by_terms (test c) s.terms s
read_sign an_and s = by_formulas and s.formulas s
read_sign an_or s = by_formulas or s.formulas s
read_sign an_implies s = by_formulas implies s.formulas s
read_sign (a_forall x) s = by_formula (forall x) s.formulas s
read_sign (an_exists x) s = by_formula (exists x) s.formulas s
read_sign a_says s = by_term (λ t r. by_formula (says t) r.formulas r) s.terms s
read_sign a_speaks_for s = by_terms speaks_for s.terms s
read_sign (a_speaks_for_on scope) s = by_terms (λ t u. speaks_for_on t u scope) s.terms s

abbrev pub read_signs : List Sign → Stacks → Stacks
read_signs [] s = s
read_signs (sign ∷ more) s = read_signs more (read_sign sign s)

-- what was read first of all
abbrev pub last_formula : List FormulaTree → FormulaTree
last_formula [] = verum
last_formula (f ∷ fs) = f

abbrev pub tree_of : List Sign → FormulaTree
tree_of written = last_formula (read_signs written (record { terms = []; lists = []; formulas = [] })).formulas

-- ---- what is written is read back

reads-append : (a b : List Sign) (s : Stacks) → read_signs (a ++ b) s ≡ read_signs b (read_signs a s)
reads-append [] b s = refl
reads-append (x ∷ a) b s = reads-append a b (read_sign x s)

then : (a b : List Sign) (s r : Stacks) → read_signs a s ≡ r → read_signs (a ++ b) s ≡ read_signs b r
then a b s r e = reads-append a b s ∙ ap (read_signs b) e

reads_term : (t : TermTree) (s : Stacks) → read_signs (term_signs t) s ≡ with_term t s
reads_term (number n) s = refl
reads_term (name x) s = refl
reads_term (text x) s = refl
reads_term (variable x) s = refl
reads_term (subprincipal t x) s = then (term_signs t) (a_subprincipal x ∷ []) s _ (reads_term t s)

reads_terms : (ts : List TermTree) (s : Stacks) → read_signs (terms_signs ts) s ≡ with_terms ts s
reads_terms [] s = refl
reads_terms (t ∷ ts) s =
    then (terms_signs ts) (term_signs t ++ a_term_before ∷ []) s _ (reads_terms ts s)
    ∙ then (term_signs t) (a_term_before ∷ []) (with_terms ts s) _ (reads_term t (with_terms ts s))

two_terms : (t u : TermTree) (last : Sign) (s : Stacks) → read_signs (term_signs t ++ (term_signs u ++ last ∷ [])) s ≡ read_sign last (with_term u (with_term t s))
two_terms t u last s =
    then (term_signs t) (term_signs u ++ last ∷ []) s _ (reads_term t s)
    ∙ then (term_signs u) (last ∷ []) (with_term t s) _ (reads_term u (with_term t s))

reads : (f : FormulaTree) (s : Stacks) → read_signs (signs f) s ≡ with_formula f s
reads verum s = refl
reads falsum s = refl
reads (atom p ts) s = then (terms_signs ts) (an_atom p ∷ []) s _ (reads_terms ts s)
reads (test c t u) s = two_terms t u (a_test c) s
reads (and f g) s = then (signs f) (signs g ++ an_and ∷ []) s _ (reads f s) ∙ then (signs g) (an_and ∷ []) (with_formula f s) _ (reads g (with_formula f s))
reads (or f g) s = then (signs f) (signs g ++ an_or ∷ []) s _ (reads f s) ∙ then (signs g) (an_or ∷ []) (with_formula f s) _ (reads g (with_formula f s))
reads (implies f g) s = then (signs f) (signs g ++ an_implies ∷ []) s _ (reads f s) ∙ then (signs g) (an_implies ∷ []) (with_formula f s) _ (reads g (with_formula f s))
reads (forall x f) s = then (signs f) (a_forall x ∷ []) s _ (reads f s)
reads (exists x f) s = then (signs f) (an_exists x ∷ []) s _ (reads f s)
reads (says t f) s = then (term_signs t) (signs f ++ a_says ∷ []) s _ (reads_term t s) ∙ then (signs f) (a_says ∷ []) (with_term t s) _ (reads f (with_term t s))
reads (speaks_for t u) s = two_terms t u a_speaks_for s
reads (speaks_for_on t u scope) s = two_terms t u (a_speaks_for_on scope) s

pub back : (f : FormulaTree) → tree_of (signs f) ≡ f
back f = ap (λ (s : Stacks). last_formula s.formulas) (reads f (record { terms = []; lists = []; formulas = [] }))

abbrev pub coded_tree : Coded Sign → Coded FormulaTree
coded_tree code = code_by (List Sign) (coded_list code) signs tree_of back
