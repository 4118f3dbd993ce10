-- What a text spells is spellable, so its canonical text is read as it.
use Rattle.std.proofs.Common.{◌≡◌, ◌<◌, ◌≤◌, ◌^◌, ◌==◌, ◌&&◌, ℕ, List, [], ◌∷◌, length, take, Bool, true, false, nat_lt, Option, Some, None, if◌then◌else◌, refl, subst, arith}
use Rattle.std.specs.List.{All}
use Rattle.std.proofs.lemmas.Bool.{and_parts}
use Rattle.std.proofs.lemmas.List.Elements.{All-cons, All-nil}
use Rattle.nal_term.specs.Names.{IsName, IsText, is_digit, is_letter, is_name, is_text}
use Rattle.nal_term.specs.Trees.{FormulaTree, TermTree}
use Rattle.nal_parse.specs.declared.tokens.Keyword.{Keyword}
use Rattle.nal_parse.specs.declared.tokens.Quantifier.{Quantifier}
use Rattle.nal_parse.specs.declared.tokens.Quantifier.TheVariants.{Universal, Existential}
use Rattle.nal_parse.specs.Canonical.{IsSpellable, IsSpellableTerm}
use Rattle.nal_parse.specs.Grammar.{ReadsAnds, ReadsConjunction, ReadsDisjunction, ReadsFormula, ReadsImplication, ReadsList, ReadsName, ReadsOrs, ReadsParts, ReadsPredicate, ReadsScope, ReadsStatement, ReadsTerm, ReadsUnary, SpellsFormula, quantify}
use Rattle.nal_parse.specs.Grammar as grammar
use Rattle.nal_parse.specs.Tokens.{Cut, Lexeme, after_blanks, cut, cut_quoted, cut_sign, is_number, keyword_of, next_cut, quoted_length, run_length, value_of_digits, word_lexeme}
use Rattle.nal_parse.specs.Tokens as lexeme
use Rattle.kept_policies.specs.Kept.{SpelledFormulas, SpelledTerms}

-- ---- Tokens

-- what is in the token keeps the limits of its kind
abbrev IsFine : Lexeme → Type 0
IsFine (lexeme.name x) = IsName x
IsFine (lexeme.number n) = n < 2 ^ 64
IsFine (lexeme.variable x) = IsName x
IsFine (lexeme.quoted x) = IsText x
IsFine _ = Unit {0}

abbrev IsFineCut : Cut → Type 0
IsFineCut c = IsFine c.0

-- of one of two, the first under its test
either : {A : Type 0} (P : A → Type 0) (b : Bool) (x y : A) → (b ≡ true → P x) → P y → P (if b then x else y)
either P true x y p q = p refl
either P false x y p q = q

word_fine : (w : List ℕ) → IsFine (word_lexeme w)
word_fine w = of (keyword_of w) refl
  where
    of : (k : Option Keyword) → keyword_of w ≡ k → IsFine (word_lexeme w)
    of None e = rw e (either IsFine (is_name w) (lexeme.name w) lexeme.bad_name (λ is. is) tt)
    of (Some k) e = rw e tt

small : (n m : ℕ) → nat_lt n m ≡ true → n < m
small n m e = grind arith

pub number_small : (w : List ℕ) → is_number w ≡ true → value_of_digits w < 2 ^ 64
number_small [] e = absurd (cc e)
number_small (d ∷ ds) e = small (value_of_digits (d ∷ ds)) (2 ^ 64) (and_parts _ (nat_lt (value_of_digits (d ∷ ds)) (2 ^ 64)) e).1

quoted_fine : (bs : List ℕ) → IsFineCut (cut_quoted bs)
quoted_fine bs =
    let n = quoted_length bs in
    either IsFineCut (nat_lt n (length bs) && is_text (take n bs)) _ _ (λ e. (and_parts (nat_lt n (length bs)) (is_text (take n bs)) e).1) tt

at_most_fine : (bs : List ℕ) → IsFineCut (cut_sign 60 bs)
at_most_fine [] = tt
at_most_fine (c ∷ cs) = either IsFineCut (c == 61) (lexeme.at_most, cs) (lexeme.less, c ∷ cs) (λ e. tt) tt

arrow_fine : (bs : List ℕ) → IsFineCut (cut_sign 61 bs)
arrow_fine [] = tt
arrow_fine (c ∷ cs) = either IsFineCut (c == 62) (lexeme.arrow, cs) (lexeme.equal, c ∷ cs) (λ e. tt) tt

sign_fine : (b : ℕ) (bs : List ℕ) → IsFineCut (cut_sign b bs)
sign_fine b bs =
    either IsFineCut (b == 40) _ _ (λ e. tt) (either IsFineCut (b == 41) _ _ (λ e. tt) (either IsFineCut (b == 44) _ _ (λ e. tt) (either IsFineCut (b == 46) _ _ (λ e. tt)
    (either IsFineCut (b == 58) _ _ (λ e. tt) (either IsFineCut (b == 60) _ _ (λ e. at_most_fine bs) (either IsFineCut (b == 61) _ _ (λ e. arrow_fine bs) tt))))))

cut_fine : (bs : List ℕ) → IsFineCut (cut bs)
cut_fine [] = tt
cut_fine (b ∷ bs) =
    let w = take (run_length (b ∷ bs)) (b ∷ bs) in
    let x = take (run_length bs) bs in
    either IsFineCut (is_letter b) _ _ (λ e. word_fine w)
    (either IsFineCut (is_digit b) _ _ (λ e. either IsFine (is_number w) (lexeme.number (value_of_digits w)) lexeme.bad_number (number_small w) tt)
    (either IsFineCut (b == 63) _ _ (λ e. either IsFine (is_name x) (lexeme.variable x) lexeme.bad_name (λ is. is) tt)
    (either IsFineCut (b == 34) _ _ (λ e. quoted_fine bs) (sign_fine b bs))))

next_fine : (bytes : List ℕ) → IsFineCut (next_cut bytes)
unfolding next_cut
next_fine bytes = cut_fine (after_blanks bytes)

fine : (bytes : List ℕ) {rest : List ℕ} {l : Lexeme} → next_cut bytes ≡ (l, rest) → IsFine l
fine bytes e = subst IsFineCut e (next_fine bytes)

-- ---- Terms and lists

parts_spellable : {t u : TermTree} {bytes rest : List ℕ} → IsSpellableTerm t → ReadsParts t bytes u rest → IsSpellableTerm u
parts_spellable ok grammar.done = ok
parts_spellable ok (grammar.part c d p) = parts_spellable (ok, fine _ d) p

term_spellable : {t : TermTree} {bytes rest : List ℕ} → ReadsTerm bytes t rest → IsSpellableTerm t
term_spellable (grammar.number c p) = parts_spellable (fine _ c) p
term_spellable (grammar.name c p) = parts_spellable (fine _ c) p
term_spellable (grammar.text c p) = parts_spellable (fine _ c) p
term_spellable (grammar.variable c p) = parts_spellable (fine _ c) p

module _ {A : Type 0} (Item : List ℕ → A → List ℕ → Type 0) (P : A → Type 0) (item : (bytes rest : List ℕ) (x : A) → Item bytes x rest → P x) where
  list_spellable : {k : ℕ} {bytes rest : List ℕ} {xs : List A} → ReadsList Item k bytes xs rest → All P xs × (0 < length xs) × (length xs ≤ k)
  list_spellable (grammar.last {x = x} some i c) = (All-cons P x [] (item _ _ x i) (All-nil P), omega arith, omega arith)
  list_spellable (grammar.more {k = k} {x = x} {xs = xs} some i c m) =
      let (each, first, few) = list_spellable m in (All-cons P x xs (item _ _ x i) each, omega arith, omega arith)

scope_spellable : {n : ℕ} {bytes rest : List ℕ} {xs : List (List ℕ)} → ReadsScope n bytes xs rest → All IsName xs × (0 < length xs) × (length xs ≤ 8)
scope_spellable (grammar.one {x = x} c) = (All-cons IsName x [] (fine _ c) (All-nil IsName), omega arith, omega arith)
scope_spellable (grammar.several some c m) = list_spellable ReadsName IsName (λ bytes rest x c. fine bytes c) m

-- ---- Formulas

quantified_spellable : (q : Quantifier) (x : List ℕ) (f : FormulaTree) → IsName x → IsSpellable f → IsSpellable (quantify q x f)
quantified_spellable Universal x f is ok = (is, ok)
quantified_spellable Existential x f is ok = (is, ok)

mutual
  formula_spellable : {n : ℕ} {f : FormulaTree} {bytes rest : List ℕ} → ReadsFormula n bytes f rest → IsSpellable f
  formula_spellable (grammar.quantified {q = q} {x = x} {f = f} some c k v d a) = quantified_spellable q x f (fine _ v) (formula_spellable a)
  formula_spellable (grammar.unquantified a) = implication_spellable a

  implication_spellable : {n : ℕ} {f : FormulaTree} {bytes rest : List ℕ} → ReadsImplication n bytes f rest → IsSpellable f
  implication_spellable (grammar.no_arrow a) = disjunction_spellable a
  implication_spellable (grammar.arrow some a c b) = (disjunction_spellable a, formula_spellable b)

  disjunction_spellable : {n : ℕ} {f : FormulaTree} {bytes rest : List ℕ} → ReadsDisjunction n bytes f rest → IsSpellable f
  disjunction_spellable (grammar.disjuncts a more) = ors_spellable (conjunction_spellable a) more

  ors_spellable : {n : ℕ} {f g : FormulaTree} {bytes rest : List ℕ} → IsSpellable f → ReadsOrs n f bytes g rest → IsSpellable g
  ors_spellable ok grammar.no_or = ok
  ors_spellable ok (grammar.or c a more) = ors_spellable (ok, conjunction_spellable a) more

  conjunction_spellable : {n : ℕ} {f : FormulaTree} {bytes rest : List ℕ} → ReadsConjunction n bytes f rest → IsSpellable f
  conjunction_spellable (grammar.conjuncts a more) = ands_spellable (unary_spellable a) more

  ands_spellable : {n : ℕ} {f g : FormulaTree} {bytes rest : List ℕ} → IsSpellable f → ReadsAnds n f bytes g rest → IsSpellable g
  ands_spellable ok grammar.no_and = ok
  ands_spellable ok (grammar.and c a more) = ands_spellable (ok, unary_spellable a) more

  unary_spellable : {n : ℕ} {f : FormulaTree} {bytes rest : List ℕ} → ReadsUnary n bytes f rest → IsSpellable f
  unary_spellable (grammar.not some c a) = (unary_spellable a, tt)
  unary_spellable (grammar.verum c) = tt
  unary_spellable (grammar.falsum c) = tt
  unary_spellable (grammar.group some c a d) = formula_spellable a
  unary_spellable (grammar.atom_of some c d m) = let (each, first, few) = list_spellable ReadsTerm IsSpellableTerm (λ bytes rest t i. term_spellable i) m in (fine _ c, each, few)
  unary_spellable (grammar.statement a) = statement_spellable a

  statement_spellable : {n : ℕ} {f : FormulaTree} {bytes rest : List ℕ} → ReadsStatement n bytes f rest → IsSpellable f
  statement_spellable (grammar.subject t a) = predicate_spellable (term_spellable t) a
  statement_spellable (grammar.atom c) = (fine _ c, All-nil IsSpellableTerm, omega arith)

  predicate_spellable : {n : ℕ} {t : TermTree} {f : FormulaTree} {bytes rest : List ℕ} → IsSpellableTerm t → ReadsPredicate n t bytes f rest → IsSpellable f
  predicate_spellable ok (grammar.says some c a) = (ok, unary_spellable a)
  predicate_spellable ok (grammar.speaks_for c u) = (ok, term_spellable u)
  predicate_spellable ok (grammar.speaks_for_on c u d s) = let (each, some, few) = scope_spellable s in (ok, term_spellable u, each, some, few)
  predicate_spellable ok (grammar.comparison c k u) = (ok, term_spellable u)

-- what a text spells is made of parts that keep their limits
pub spelled_spellable : (n : ℕ) (text : List ℕ) (f : FormulaTree) → SpellsFormula n text f → IsSpellable f
spelled_spellable n text f (rest, reads, ends) = formula_spellable reads

pub spelled_terms : SpelledTerms
spelled_terms text t is = let (rest, reads, ends) = is.spelled in term_spellable reads

pub spelled_formulas : SpelledFormulas
spelled_formulas text f is = spelled_spellable 64 text f is.spelled
