-- What is printed of a formula is read as it.
use Rattle.std.proofs.Common.{◌≡◌, ◌≤◌, ◌+◌, ◌-◌, ℕ, zero, suc, List, [], ◌∷◌, ◌++◌, map, nat_lt, Bool, true, false, codes, Some, refl, sym, ap, ◌∙◌, arith, append-nil}
use Rattle.std.proofs.lemmas.Bool.{ltb-false}
use Rattle.nal_term.specs.declared.formulas.Compare.{Compare}
use Rattle.nal_term.specs.declared.formulas.Compare.TheVariants.{Equal, Less, AtMost}
use Rattle.nal_term.specs.Names.{IsName}
use Rattle.nal_term.specs.Trees.{TermTree, FormulaTree}
use Rattle.nal_term.specs.Trees as tree
use Rattle.nal_parse.specs.declared.tokens.Keyword.TheVariants as word
use Rattle.nal_parse.specs.declared.tokens.Quantifier.{Quantifier}
use Rattle.nal_parse.specs.declared.tokens.Quantifier.TheVariants as every
use Rattle.nal_parse.specs.Tokens.{Lexeme, next_cut}
use Rattle.nal_parse.specs.Tokens as lexeme
use Rattle.nal_parse.specs.Grammar.{ReadsTerm, ReadsFormula, quantified, unquantified, ReadsImplication, no_arrow, arrow, ReadsDisjunction, disjuncts, ReadsOrs, no_or, or, ReadsConjunction, conjuncts, ReadsAnds, no_and, and, ReadsUnary, verum, falsum, group, atom_of, statement, subject, atom, says, speaks_for, speaks_for_on, comparison, SpellsFormula, quantify, quantifier_of}
use Rattle.nal_parse.specs.Canonical.{term_text, joined, enclosed, atom_text, scope_text, strength, part_text, part_levels, formula_text, formula_levels, IsSpellable, IsSpellableTerm}
use Rattle.nal_parse.proofs.Written.{Breaks, name_cut, variable_cut, sign_cut, keyword_cut, first_keyword_cut, after_space, nothing_left}
use Rattle.nal_parse.proofs.PrintedTerms.{Begins, Begins-apart, Begins-apart_twice, term_read, list_read, enclosed_apart, scope_read}

-- a formula is read where one of this strength may stand
abbrev pub ReadsAt : ℕ → ℕ → List ℕ → FormulaTree → List ℕ → Type 0
ReadsAt zero n = ReadsFormula n
ReadsAt (suc zero) n = ReadsImplication n
ReadsAt (suc (suc zero)) n = ReadsDisjunction n
ReadsAt (suc (suc (suc zero))) n = ReadsConjunction n
ReadsAt _ n = ReadsUnary n

module _ (n : ℕ) (bytes : List ℕ) (f : FormulaTree) (rest : List ℕ) where
  -- what holds together more strongly may stand where less is asked for
  loosened_once : (s : ℕ) → ReadsAt (suc s) n bytes f rest → ReadsAt s n bytes f rest
  loosened_once zero r = unquantified r
  loosened_once (suc zero) r = no_arrow r
  loosened_once (suc (suc zero)) r = disjuncts r no_or
  loosened_once (suc (suc (suc zero))) r = conjuncts r no_and
  loosened_once (suc (suc (suc (suc s)))) r = r

  loosened_by : (k asked s : ℕ) → s ≡ asked + k → ReadsAt s n bytes f rest → ReadsAt asked n bytes f rest
  loosened_by zero asked s e r = let q : s ≡ asked = omega arith in rw (← q) r
  loosened_by (suc k) asked s e r = loosened_once asked (loosened_by k (suc asked) s (omega arith) r)

  pub loosened : (asked s : ℕ) → asked ≤ s → ReadsAt s n bytes f rest → ReadsAt asked n bytes f rest
  loosened asked s h r = loosened_by (s - asked) asked s (omega arith) r

-- a formula's text is read as the formula, with at least its levels left
abbrev pub IsReadBack : FormulaTree → Type 0
IsReadBack f = (n : ℕ) (bytes tail : List ℕ) → formula_levels f ≤ n → Breaks tail → Begins bytes (formula_text f) tail → ReadsAt (strength f) n bytes f tail

-- a formula in brackets is read as one that holds together most strongly
grouped : (f : FormulaTree) → IsReadBack f → (n : ℕ) (bytes tail : List ℕ) → formula_levels f + 1 ≤ n → Begins bytes (enclosed (formula_text f)) tail → ReadsUnary n bytes f tail
grouped f back n bytes tail room h =
    group (omega arith) (enclosed_apart bytes (formula_text f) tail h)
    (loosened _ _ _ _ 0 (strength f) (omega arith) (back (n - 1) (formula_text f ++ 41 ∷ tail) (41 ∷ tail) (omega arith) refl refl)) (sign_cut 41 tail refl refl)

-- a part is read where its place asks for its strength
pub part_read : (asked : ℕ) (f : FormulaTree) → asked ≤ 4 → IsReadBack f → (n : ℕ) (bytes tail : List ℕ) → part_levels asked f (formula_levels f) ≤ n → Breaks tail
    → Begins bytes (part_text asked f (formula_text f)) tail → ReadsAt asked n bytes f tail
part_read asked f few back n bytes tail room stop h = by (nat_lt (strength f) asked) refl
  where
    by : (b : Bool) → nat_lt (strength f) asked ≡ b → ReadsAt asked n bytes f tail
    by true e = loosened n bytes f tail asked 4 few (grouped f back n bytes tail (let r = rw e at room in r) (let g = rw e at h in g))
    by false e = loosened n bytes f tail asked (strength f) (ltb-false _ _ e) (back n bytes tail (let r = rw e at room in r) stop (let g = rw e at h in g))

ands_longer : {n : ℕ} {f g k : FormulaTree} {bytes a b rest : List ℕ} → ReadsAnds n f bytes g a → next_cut a ≡ (lexeme.keyword word.And, b) → ReadsUnary n b k rest
    → ReadsAnds n f bytes (tree.and g k) rest
ands_longer no_and e u = and e u no_and
ands_longer (and e' u' r) e u = and e' u' (ands_longer r e u)

conjunction_longer : {n : ℕ} {f g : FormulaTree} {bytes a b rest : List ℕ} → ReadsConjunction n bytes f a → next_cut a ≡ (lexeme.keyword word.And, b) → ReadsUnary n b g rest
    → ReadsConjunction n bytes (tree.and f g) rest
conjunction_longer (conjuncts u r) e v = conjuncts u (ands_longer r e v)

ors_longer : {n : ℕ} {f g k : FormulaTree} {bytes a b rest : List ℕ} → ReadsOrs n f bytes g a → next_cut a ≡ (lexeme.keyword word.Or, b) → ReadsConjunction n b k rest
    → ReadsOrs n f bytes (tree.or g k) rest
ors_longer no_or e u = or e u no_or
ors_longer (or e' u' r) e u = or e' u' (ors_longer r e u)

disjunction_longer : {n : ℕ} {f g : FormulaTree} {bytes a b rest : List ℕ} → ReadsDisjunction n bytes f a → next_cut a ≡ (lexeme.keyword word.Or, b) → ReadsConjunction n b g rest
    → ReadsDisjunction n bytes (tree.or f g) rest
disjunction_longer (disjuncts u r) e v = disjuncts u (ors_longer r e v)

compared : (c : Compare) (t u : TermTree) → IsSpellableTerm t × IsSpellableTerm u → (n : ℕ) (bytes tail : List ℕ) → Breaks tail → Begins bytes (formula_text (tree.test c t u)) tail → ReadsUnary n bytes (tree.test c t u) tail
compared Equal t u ok n bytes tail stop h =
    let after = term_text u ++ tail in
    statement (subject (term_read t ok.0 bytes (codes " = " ++ after) refl (Begins-apart_twice bytes (term_text t) (codes " = ") (term_text u) tail h))
    (comparison (after_space (61 ∷ 32 ∷ after) ∙ sign_cut 61 (32 ∷ after) refl refl) refl (term_read u ok.1 (32 ∷ after) tail stop (after_space after))))
compared Less t u ok n bytes tail stop h =
    let after = term_text u ++ tail in
    statement (subject (term_read t ok.0 bytes (codes " < " ++ after) refl (Begins-apart_twice bytes (term_text t) (codes " < ") (term_text u) tail h))
    (comparison (after_space (60 ∷ 32 ∷ after) ∙ sign_cut 60 (32 ∷ after) refl refl) refl (term_read u ok.1 (32 ∷ after) tail stop (after_space after))))
compared AtMost t u ok n bytes tail stop h =
    let after = term_text u ++ tail in
    statement (subject (term_read t ok.0 bytes (codes " <= " ++ after) refl (Begins-apart_twice bytes (term_text t) (codes " <= ") (term_text u) tail h))
    (comparison (after_space (60 ∷ 61 ∷ 32 ∷ after) ∙ sign_cut 60 (61 ∷ 32 ∷ after) refl refl) refl (term_read u ok.1 (32 ∷ after) tail stop (after_space after))))

atom_read : (p : List ℕ) (ts : List TermTree) → IsSpellable (tree.atom p ts) → (n : ℕ) (bytes tail : List ℕ) → formula_levels (tree.atom p ts) ≤ n → Breaks tail → Begins bytes (atom_text p ts) tail
    → ReadsUnary n bytes (tree.atom p ts) tail
atom_read p [] ok n bytes tail room stop h = statement (atom (h ∙ name_cut p tail ok.0 stop))
atom_read p (t ∷ ts) ok n bytes tail room stop h =
    let args = joined (map term_text (t ∷ ts)) in
    atom_of (omega arith) (Begins-apart bytes p (enclosed args) tail h ∙ name_cut p (enclosed args ++ tail) ok.0 refl) (enclosed_apart (enclosed args ++ tail) args tail refl)
    (list_read ReadsTerm term_text IsSpellableTerm term_read t ts ok.1 8 ok.2 (args ++ 41 ∷ tail) tail refl)

-- after a delegation's terms the scope, if there is one
delegation_apart : (bytes front next tail : List ℕ) → Begins bytes (front ++ codes " speaksfor " ++ next) tail → Begins bytes front (codes " speaksfor " ++ (next ++ tail))
delegation_apart bytes front next tail h = Begins-apart_twice bytes front (codes " speaksfor ") next tail h

speaksfor_cut : (after : List ℕ) → next_cut (codes " speaksfor " ++ after) ≡ (lexeme.keyword word.SpeaksFor, 32 ∷ after)
speaksfor_cut after = keyword_cut 115 (codes "peaksfor") after word.SpeaksFor refl refl refl

quantified_read : (q : Quantifier) (l : Lexeme) → quantifier_of l ≡ Some q → (x : List ℕ) (a : FormulaTree) → IsName x → IsReadBack a → (n : ℕ) (bytes tail : List ℕ) → formula_levels a + 1 ≤ n → Breaks tail
    → next_cut bytes ≡ (l, 32 ∷ 63 ∷ (x ++ (codes " : " ++ (formula_text a ++ tail)))) → ReadsFormula n bytes (quantify q x a) tail
quantified_read q l is x a name back n bytes tail room stop h =
    let body = formula_text a ++ tail in
    quantified (omega arith) h is (after_space (63 ∷ (x ++ (codes " : " ++ body))) ∙ variable_cut x (codes " : " ++ body) name refl)
    (after_space (58 ∷ 32 ∷ body) ∙ sign_cut 58 (32 ∷ body) refl refl)
    (loosened _ _ _ _ 0 (strength a) (omega arith) (back (n - 1) (32 ∷ body) tail (omega arith) stop (after_space body)))

-- every spellable formula is read back
pub formula_read : (f : FormulaTree) → IsSpellable f → IsReadBack f
formula_read tree.verum ok n bytes tail room stop h = verum (h ∙ first_keyword_cut 116 (codes "rue") tail word.True refl refl refl stop)
formula_read tree.falsum ok n bytes tail room stop h = falsum (h ∙ first_keyword_cut 102 (codes "alse") tail word.False refl refl refl stop)
formula_read (tree.atom p ts) ok n bytes tail room stop h = atom_read p ts ok n bytes tail room stop h
formula_read (tree.test c t u) ok n bytes tail room stop h = compared c t u ok n bytes tail stop h
formula_read (tree.and a b) ok n bytes tail room stop h =
    let after = part_text 4 b (formula_text b) ++ tail in
    conjunction_longer
    (part_read 3 a (omega arith) (formula_read a ok.0) n bytes (codes " and " ++ after) (omega arith) refl (Begins-apart_twice bytes (part_text 3 a (formula_text a)) (codes " and ") (part_text 4 b (formula_text b)) tail h))
    (keyword_cut 97 (codes "nd") after word.And refl refl refl)
    (part_read 4 b (omega arith) (formula_read b ok.1) n (32 ∷ after) tail (omega arith) stop (after_space after))
formula_read (tree.or a b) ok n bytes tail room stop h =
    let after = part_text 3 b (formula_text b) ++ tail in
    disjunction_longer
    (part_read 2 a (omega arith) (formula_read a ok.0) n bytes (codes " or " ++ after) (omega arith) refl (Begins-apart_twice bytes (part_text 2 a (formula_text a)) (codes " or ") (part_text 3 b (formula_text b)) tail h))
    (keyword_cut 111 (codes "r") after word.Or refl refl refl)
    (part_read 3 b (omega arith) (formula_read b ok.1) n (32 ∷ after) tail (omega arith) stop (after_space after))
formula_read (tree.implies a b) ok n bytes tail room stop h =
    let after = formula_text b ++ tail in
    arrow (omega arith)
    (part_read 2 a (omega arith) (formula_read a ok.0) n bytes (codes " => " ++ after) (omega arith) refl (Begins-apart_twice bytes (part_text 2 a (formula_text a)) (codes " => ") (formula_text b) tail h))
    (after_space (61 ∷ 62 ∷ 32 ∷ after) ∙ sign_cut 61 (62 ∷ 32 ∷ after) refl refl)
    (loosened _ _ _ _ 0 (strength b) (omega arith) (formula_read b ok.1 (n - 1) (32 ∷ after) tail (omega arith) stop (after_space after)))
formula_read (tree.forall x a) ok n bytes tail room stop h =
    let body = codes " : " ++ (formula_text a ++ tail) in
    quantified_read every.Universal (lexeme.keyword word.Forall) refl x a ok.0 (formula_read a ok.1) n bytes tail room stop
    (Begins-apart bytes (codes "forall ?") x body (Begins-apart_twice bytes (codes "forall ?" ++ x) (codes " : ") (formula_text a) tail h)
    ∙ first_keyword_cut 102 (codes "orall") (32 ∷ 63 ∷ (x ++ body)) word.Forall refl refl refl refl)
formula_read (tree.exists x a) ok n bytes tail room stop h =
    let body = codes " : " ++ (formula_text a ++ tail) in
    quantified_read every.Existential (lexeme.keyword word.Exists) refl x a ok.0 (formula_read a ok.1) n bytes tail room stop
    (Begins-apart bytes (codes "exists ?") x body (Begins-apart_twice bytes (codes "exists ?" ++ x) (codes " : ") (formula_text a) tail h)
    ∙ first_keyword_cut 101 (codes "xists") (32 ∷ 63 ∷ (x ++ body)) word.Exists refl refl refl refl)
formula_read (tree.says t a) ok n bytes tail room stop h =
    let after = part_text 4 a (formula_text a) ++ tail in
    statement (subject (term_read t ok.0 bytes (codes " says " ++ after) refl (Begins-apart_twice bytes (term_text t) (codes " says ") (part_text 4 a (formula_text a)) tail h))
    (says (omega arith) (keyword_cut 115 (codes "ays") after word.Says refl refl refl)
    (part_read 4 a (omega arith) (formula_read a ok.1) (n - 1) (32 ∷ after) tail (omega arith) stop (after_space after))))
formula_read (tree.speaks_for t u) ok n bytes tail room stop h =
    let after = term_text u ++ tail in
    statement (subject (term_read t ok.0 bytes (codes " speaksfor " ++ after) refl (delegation_apart bytes (term_text t) (term_text u) tail h))
    (speaks_for (speaksfor_cut after) (term_read u ok.1 (32 ∷ after) tail stop (after_space after))))
formula_read (tree.speaks_for_on t u s) ok n bytes tail room stop h =
    let scope = scope_text s ++ tail in
    let after = term_text u ++ (codes " on " ++ scope) in
    statement (subject
    (term_read t ok.0 bytes (codes " speaksfor " ++ after) refl
    (delegation_apart bytes (term_text t) (term_text u) (codes " on " ++ scope) (Begins-apart_twice bytes (term_text t ++ codes " speaksfor " ++ term_text u) (codes " on ") (scope_text s) tail h)))
    (speaks_for_on (speaksfor_cut after) (term_read u ok.1 (32 ∷ after) (codes " on " ++ scope) refl (after_space after)) (keyword_cut 111 (codes "n") scope word.On refl refl refl)
    (scope_read s ok.2 ok.3 ok.4 n room (32 ∷ scope) tail stop (after_space scope))))

-- a formula's text spells it, with at least its levels
pub formula_text_spells : (f : FormulaTree) → IsSpellable f → (n : ℕ) → formula_levels f ≤ n → SpellsFormula n (formula_text f) f
formula_text_spells f ok n room =
    ([], loosened _ _ _ _ 0 (strength f) (omega arith) (formula_read f ok n (formula_text f) [] room refl (ap next_cut (sym (append-nil (formula_text f))))), nothing_left)
