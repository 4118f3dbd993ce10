-- What is read from a text, and what follows it, is one where what follows ends it.
use Rattle.std.proofs.Common.{◌≡◌, ◌-◌, sym, ap, refl, subst, ℕ, List, [], ◌∷◌, Bool, true, IsTrue, Some, None}
use Rattle.nal_term.specs.Trees.{TermTree, FormulaTree}
use Rattle.nal_term.specs.Trees as tree
use Rattle.nal_parse.specs.declared.tokens.Keyword.TheVariants as word
use Rattle.nal_parse.specs.Tokens.{Lexeme, next_cut}
use Rattle.nal_parse.specs.Tokens as lexeme
use Rattle.nal_parse.specs.Grammar.{ReadsParts, ReadsTerm, ReadsList, ReadsName, ReadsScope, comparison_of, quantifier_of, quantify, SpellsTerm, SpellsFormula, ReadsFormula, ReadsImplication, ReadsDisjunction, ReadsOrs, ReadsConjunction, ReadsAnds, ReadsUnary, ReadsStatement, ReadsPredicate}
use Rattle.nal_parse.specs.Grammar as grammar
use Rattle.nal_parse.specs.Inner.Reading.{first_lexeme, first_term, anything, ends_term, ends_unary, ends_conjunction, ends_disjunction, ends_formula}
use Rattle.nal_parse.specs.Laws.{OneFormulaSpelled, OneTermSpelled}
use Rattle.nal_parse.proofs.FormulaReadings.{ands_first, ors_first}
use Rattle.nal_parse.proofs.StatementReadings.{disjunction_ends, term_ends, predicate_begins, ends_by_predicate, unended_by_predicate, statement_first}
use Rattle.nal_parse.proofs.TermReadings.{ReadsTerm-inverted}
use Rattle.nal_parse.proofs.TokenLexemes.{same_lexeme, same_rest}

-- what is read, and what follows it, is one where what follows ends it
abbrev IsOne : {A : Type 0} → (Lexeme → Bool) → (A → List ℕ → Type 0) → Type 0
IsOne {A} ends R = (a b : A) (r s : List ℕ) → R a r → IsTrue (ends (first_lexeme r)) → R b s → IsTrue (ends (first_lexeme s)) → (a ≡ b) × (r ≡ s)

-- what is known of the first lexeme is known of the one that is cut, and the other way round
ends_with : (bytes a : List ℕ) (l : Lexeme) (ends : Lexeme → Bool) → next_cut bytes ≡ (l, a) → IsTrue (ends (first_lexeme bytes)) → IsTrue (ends l)
ends_with bytes a l ends c e = subst (λ (p : Lexeme × List ℕ). IsTrue (ends p.0)) c e

ended : (bytes a : List ℕ) (l : Lexeme) (ends : Lexeme → Bool) → next_cut bytes ≡ (l, a) → IsTrue (ends l) → IsTrue (ends (first_lexeme bytes))
ended bytes a l ends c e = subst (λ (p : Lexeme × List ℕ). IsTrue (ends p.0)) (sym c) e

-- Terms

parts_one : (t : TermTree) (bytes : List ℕ) → IsOne ends_term (ReadsParts t bytes)
parts_one t bytes _ _ _ _ grammar.done e grammar.done f = (refl, refl)
parts_one t bytes _ _ _ _ grammar.done e (grammar.part {a = a} c d p) f = absurd (let z = ends_with bytes a lexeme.dot ends_term c e in cc)
parts_one t bytes _ _ _ _ (grammar.part {a = a} c d p) e grammar.done f = absurd (let z = ends_with bytes a lexeme.dot ends_term c f in cc)
parts_one t bytes u v r s (grammar.part {a = a} {b = b} {x = x} c d p) e (grammar.part {a = a'} {b = b'} {x = y} c' d' p') f =
    let after = same_rest c c' in
    let d'' = rw (← after) at d' in
    let n = same_lexeme d d'' in
    let same : x ≡ y = cc in
    parts_one (tree.subprincipal t x) b u v r s p e (rw (← same, ← same_rest d d'') at p') f

term_one : (bytes : List ℕ) → IsOne ends_term (ReadsTerm bytes)
term_one bytes t u r s a e b f =
    let i = ReadsTerm-inverted a in
    let j = ReadsTerm-inverted b in
    let first = i.1 in
    let other = j.1 in
    let same : i.0 ≡ j.0 = cc in
    parts_one i.0 _ t u r s i.2 e (rw (← same) at j.2) f

-- Lists

list_one : {A : Type 0} (Item : List ℕ → A → List ℕ → Type 0) (ends : Lexeme → Bool) → ends lexeme.closes ≡ true → ends lexeme.comma ≡ true
    → ((bytes : List ℕ) → IsOne ends (Item bytes)) → (k : ℕ) (bytes : List ℕ) (xs ys : List A) (r s : List ℕ) → ReadsList Item k bytes xs r → ReadsList Item k bytes ys s
    → (xs ≡ ys) × (r ≡ s)
list_one Item ends p q item k bytes _ _ r s (grammar.last {x = x} {a = a} lt i c) (grammar.last {x = y} {a = b} lt' j d) =
    let o = item bytes x y a b i (ended a r lexeme.closes ends c p) j (ended b s lexeme.closes ends d p) in
    (ap (λ z. z ∷ []) o.0, same_rest c (rw (← o.1) at d))
list_one Item ends p q item k bytes _ _ r s (grammar.last {x = x} {a = a} lt i c) (grammar.more {x = y} {a = b} {b = after} lt' j d m) =
    let o = item bytes x y a b i (ended a r lexeme.closes ends c p) j (ended b after lexeme.comma ends d q) in
    absurd (let l = same_lexeme c (rw (← o.1) at d) in cc)
list_one Item ends p q item k bytes _ _ r s (grammar.more {x = x} {a = a} {b = after} lt i c m) (grammar.last {x = y} {a = b} lt' j d) =
    let o = item bytes x y a b i (ended a after lexeme.comma ends c q) j (ended b s lexeme.closes ends d p) in
    absurd (let l = same_lexeme c (rw (← o.1) at d) in cc)
list_one Item ends p q item k bytes _ _ r s (grammar.more {x = x} {xs = xs} {a = a} {b = after} lt i c m) (grammar.more {x = y} {xs = ys} {a = b} {b = after'} lt' j d n) =
    let o = item bytes x y a b i (ended a after lexeme.comma ends c q) j (ended b after' lexeme.comma ends d q) in
    let rest = same_rest c (rw (← o.1) at d) in
    let z = list_one Item ends p q item (k - 1) after xs ys r s m (rw (← rest) at n) in
    (rw (o.0, z.0) refl, z.1)

name_one : (bytes : List ℕ) → IsOne anything (ReadsName bytes)
name_one bytes x y r s c e d f = let l = same_lexeme c d in (let same : x ≡ y = cc in same, same_rest c d)

scope_one : (n : ℕ) (bytes : List ℕ) (xs ys : List (List ℕ)) (r s : List ℕ) → ReadsScope n bytes xs r → ReadsScope n bytes ys s → (xs ≡ ys) × (r ≡ s)
scope_one n bytes _ _ r s (grammar.one {x = x} c) (grammar.one {x = y} d) =
    let l = same_lexeme c d in let same : x ≡ y = cc in (ap (λ z. z ∷ []) same, same_rest c d)
scope_one n bytes _ _ r s (grammar.one c) (grammar.several lt d m) = absurd (let l = same_lexeme c d in cc)
scope_one n bytes _ _ r s (grammar.several lt c m) (grammar.one d) = absurd (let l = same_lexeme c d in cc)
scope_one n bytes xs ys r s (grammar.several {a = a} lt c m) (grammar.several {a = b} lt' d k) =
    list_one ReadsName anything refl refl name_one 8 a xs ys r s m (rw (← same_rest c d) at k)

-- Formulas

-- a quantifier begins no unary formula
no_quantifier : {n : ℕ} {f : FormulaTree} {bytes r : List ℕ} → ReadsUnary n bytes f r → quantifier_of (first_lexeme bytes) ≡ None
no_quantifier (grammar.not lt c u) = rw (first_lexeme, c) refl
no_quantifier (grammar.verum c) = rw (first_lexeme, c) refl
no_quantifier (grammar.falsum c) = rw (first_lexeme, c) refl
no_quantifier (grammar.group lt c u d) = rw (first_lexeme, c) refl
no_quantifier (grammar.atom_of lt c d m) = rw (first_lexeme, c) refl
no_quantifier (grammar.statement st) = let i = statement_first st in term_is_none (first_lexeme _) i.1
  where
    term_is_none : (l : Lexeme) {u : TermTree} → first_term l ≡ Some u → quantifier_of l ≡ None
    term_is_none (lexeme.keyword k) e = cc
    term_is_none _ e = refl

no_quantifier_before : {n : ℕ} {f : FormulaTree} {bytes r : List ℕ} → ReadsImplication n bytes f r → quantifier_of (first_lexeme bytes) ≡ None
no_quantifier_before (grammar.no_arrow (grammar.disjuncts (grammar.conjuncts u a) o)) = no_quantifier u
no_quantifier_before (grammar.arrow lt (grammar.disjuncts (grammar.conjuncts u a) o) c g) = no_quantifier u

-- a statement begins with no reserved word and no bracket
begins_with_term : {n : ℕ} {f : FormulaTree} {bytes a r : List ℕ} {l : Lexeme} → first_term l ≡ None → next_cut bytes ≡ (l, a) → ReadsStatement n bytes f r → ⊥
begins_with_term e c st = let i = statement_first st in let first = rw c at i.1 in cc

-- a name before a bracket is no statement
no_predicate_after : {n : ℕ} {u t : TermTree} {f : FormulaTree} {a b other r : List ℕ} → next_cut a ≡ (lexeme.opens, b) → ReadsParts u a t other → ReadsPredicate n t other f r → ⊥
no_predicate_after d grammar.done q = let p = predicate_begins q in let z = rw (first_lexeme, d) at p in cc
no_predicate_after d (grammar.part c k r) q = let l = same_lexeme c d in cc

no_statement : {n : ℕ} {f : FormulaTree} {bytes a b r : List ℕ} {p : List ℕ} → next_cut bytes ≡ (lexeme.name p, a) → next_cut a ≡ (lexeme.opens, b)
    → ReadsStatement n bytes f r → IsTrue (ends_unary (first_lexeme r)) → ⊥
no_statement c d (grammar.atom e) f = let z = ends_with _ _ lexeme.opens ends_unary (rw (same_rest c e) at d) f in cc
no_statement {bytes = bytes} {b = b} c d (grammar.subject t q) f = no_predicate_after {a = (next_cut bytes).1} {b = b} (rw c d) (ReadsTerm-inverted t).2 q

-- a name alone is no subject of a predicate
no_subject : {n : ℕ} {t : TermTree} {f : FormulaTree} {bytes a other r : List ℕ} {p : List ℕ} → next_cut bytes ≡ (lexeme.name p, a) → IsTrue (ends_unary (first_lexeme a))
    → ReadsTerm bytes t other → ReadsPredicate n t other f r → ⊥
no_subject {bytes = bytes} c e t q = no_predicate_at {a = (next_cut bytes).1} (rw c e) (ReadsTerm-inverted t).2 q
  where
    no_predicate_at : {n : ℕ} {u t : TermTree} {f : FormulaTree} {a other r : List ℕ} → IsTrue (ends_unary (first_lexeme a)) → ReadsParts u a t other → ReadsPredicate n t other f r → ⊥
    no_predicate_at e grammar.done q = unended_by_predicate _ (predicate_begins q) e
    no_predicate_at e (grammar.part c k r) q = let z = ends_with _ _ lexeme.dot ends_unary c e in cc

mutual
  formula_one : (n : ℕ) (bytes : List ℕ) → IsOne ends_formula (ReadsFormula n bytes)
  formula_one n bytes _ _ r s (grammar.quantified {q = q} {x = x} {f = f} lt c k m o a) e (grammar.quantified {q = q2} {x = y} {f = g} lt2 d k2 m2 o2 b) h =
      let l = same_lexeme c d in
      let v = same_lexeme m (rw (← same_rest c d) at m2) in
      let w = same_rest m (rw (← same_rest c d) at m2) in
      let z = same_rest o (rw (← w) at o2) in
      let i = formula_one (n - 1) _ f g r s a e (rw (← z) at b) h in
      let quantifiers : q ≡ q2 = cc in
      let variables : x ≡ y = cc in
      (rw (quantifiers, variables, i.0) refl, i.1)
  formula_one n bytes _ _ r s (grammar.quantified lt c k m o a) e (grammar.unquantified b) h = absurd (let p = no_quantifier_before b in let z = rw (first_lexeme, c) at p in cc)
  formula_one n bytes _ _ r s (grammar.unquantified a) e (grammar.quantified lt d k m o b) h = absurd (let p = no_quantifier_before a in let z = rw (first_lexeme, d) at p in cc)
  formula_one n bytes f g r s (grammar.unquantified a) e (grammar.unquantified b) h = implication_one n bytes f g r s a e b h

  implication_one : (n : ℕ) (bytes : List ℕ) → IsOne ends_formula (ReadsImplication n bytes)
  implication_one n bytes f g r s (grammar.no_arrow a) e (grammar.no_arrow b) h = disjunction_one n bytes f g r s a (disjunction_ends _ e) b (disjunction_ends _ h)
  implication_one n bytes f _ r s (grammar.no_arrow a) e (grammar.arrow lt b d k) h =
      let i = disjunction_one n bytes _ _ _ _ a (disjunction_ends _ e) b (ended _ _ lexeme.arrow ends_disjunction d refl) in
      absurd (let z = ends_with _ _ lexeme.arrow ends_formula d (rw i.1 at e) in cc)
  implication_one n bytes _ g r s (grammar.arrow lt a c k) e (grammar.no_arrow b) h =
      let i = disjunction_one n bytes _ _ _ _ a (ended _ _ lexeme.arrow ends_disjunction c refl) b (disjunction_ends _ h) in
      absurd (let z = ends_with _ _ lexeme.arrow ends_formula c (rw (← i.1) at h) in cc)
  implication_one n bytes _ _ r s (grammar.arrow {g = f2} lt a c k) e (grammar.arrow {g = g2} lt2 b d k2) h =
      let i = disjunction_one n bytes _ _ _ _ a (ended _ _ lexeme.arrow ends_disjunction c refl) b (ended _ _ lexeme.arrow ends_disjunction d refl) in
      let z = same_rest c (rw (← i.1) at d) in
      let j = formula_one (n - 1) _ f2 g2 r s k e (rw (← z) at k2) h in
      (rw (i.0, j.0) refl, j.1)

  disjunction_one : (n : ℕ) (bytes : List ℕ) → IsOne ends_disjunction (ReadsDisjunction n bytes)
  disjunction_one n bytes f g r s (grammar.disjuncts a o) e (grammar.disjuncts b p) h =
      let i = conjunction_one n bytes _ _ _ _ a (ors_first o e) b (ors_first p h) in
      ors_one n _ _ f g r s o e (rw (← i.0, ← i.1) at p) h

  ors_one : (n : ℕ) (f : FormulaTree) (bytes : List ℕ) → IsOne ends_disjunction (ReadsOrs n f bytes)
  ors_one n i bytes _ _ _ _ grammar.no_or e grammar.no_or h = (refl, refl)
  ors_one n i bytes _ _ _ _ grammar.no_or e (grammar.or d b p) h = absurd (let z = ends_with _ _ (lexeme.keyword word.Or) ends_disjunction d e in cc)
  ors_one n i bytes _ _ _ _ (grammar.or c a o) e grammar.no_or h = absurd (let z = ends_with _ _ (lexeme.keyword word.Or) ends_disjunction c h in cc)
  ors_one n i bytes f g r s (grammar.or c a o) e (grammar.or d b p) h =
      let j = conjunction_one n _ _ _ _ _ a (ors_first o e) (rw (← same_rest c d) at b) (ors_first p h) in
      ors_one n _ _ f g r s o e (rw (← j.0, ← j.1) at p) h

  conjunction_one : (n : ℕ) (bytes : List ℕ) → IsOne ends_conjunction (ReadsConjunction n bytes)
  conjunction_one n bytes f g r s (grammar.conjuncts a o) e (grammar.conjuncts b p) h =
      let i = unary_one n bytes _ _ _ _ a (ands_first o e) b (ands_first p h) in
      ands_one n _ _ f g r s o e (rw (← i.0, ← i.1) at p) h

  ands_one : (n : ℕ) (f : FormulaTree) (bytes : List ℕ) → IsOne ends_conjunction (ReadsAnds n f bytes)
  ands_one n i bytes _ _ _ _ grammar.no_and e grammar.no_and h = (refl, refl)
  ands_one n i bytes _ _ _ _ grammar.no_and e (grammar.and d b p) h = absurd (let z = ends_with _ _ (lexeme.keyword word.And) ends_conjunction d e in cc)
  ands_one n i bytes _ _ _ _ (grammar.and c a o) e grammar.no_and h = absurd (let z = ends_with _ _ (lexeme.keyword word.And) ends_conjunction c h in cc)
  ands_one n i bytes f g r s (grammar.and c a o) e (grammar.and d b p) h =
      let j = unary_one n _ _ _ _ _ a (ands_first o e) (rw (← same_rest c d) at b) (ands_first p h) in
      ands_one n _ _ f g r s o e (rw (← j.0, ← j.1) at p) h

  unary_one : (n : ℕ) (bytes : List ℕ) → IsOne ends_unary (ReadsUnary n bytes)
  unary_one n bytes _ _ r s (grammar.not {f = f} lt c u) e (grammar.not {f = g} lt2 d v) h =
      let i = unary_one (n - 1) _ f g r s u e (rw (← same_rest c d) at v) h in
      (ap (λ z. tree.implies z tree.falsum) i.0, i.1)
  unary_one n bytes _ _ r s (grammar.verum c) e (grammar.verum d) h = (refl, same_rest c d)
  unary_one n bytes _ _ r s (grammar.falsum c) e (grammar.falsum d) h = (refl, same_rest c d)
  unary_one n bytes f g r s (grammar.group lt c u k) e (grammar.group lt2 d v k2) h =
      let i = formula_one (n - 1) _ f g _ _ u (ended _ _ lexeme.closes ends_formula k refl) (rw (← same_rest c d) at v) (ended _ _ lexeme.closes ends_formula k2 refl) in
      (i.0, same_rest k (rw (← i.1) at k2))
  unary_one n bytes _ _ r s (grammar.atom_of {p = p} {ts = ts} lt c k m) e (grammar.atom_of {p = q} {ts = us} lt2 d k2 m2) h =
      let l = same_lexeme c d in
      let z = same_rest k (rw (← same_rest c d) at k2) in
      let i = list_one ReadsTerm ends_term refl refl term_one 8 _ ts us r s m (rw (← z) at m2) in
      let names : p ≡ q = cc in
      (rw (names, i.0) refl, i.1)
  unary_one n bytes f g r s (grammar.statement st) e (grammar.statement st2) h = statement_one n bytes f g r s st e st2 h
  unary_one n bytes _ _ r s (grammar.not lt c u) e (grammar.verum d) h = absurd (let l = same_lexeme c d in cc)
  unary_one n bytes _ _ r s (grammar.not lt c u) e (grammar.falsum d) h = absurd (let l = same_lexeme c d in cc)
  unary_one n bytes _ _ r s (grammar.not lt c u) e (grammar.group lt2 d v k2) h = absurd (let l = same_lexeme c d in cc)
  unary_one n bytes _ _ r s (grammar.not lt c u) e (grammar.atom_of lt2 d k2 m2) h = absurd (let l = same_lexeme c d in cc)
  unary_one n bytes _ _ r s (grammar.not lt c u) e (grammar.statement st2) h = absurd (begins_with_term refl c st2)
  unary_one n bytes _ _ r s (grammar.verum c) e (grammar.not lt2 d v) h = absurd (let l = same_lexeme c d in cc)
  unary_one n bytes _ _ r s (grammar.verum c) e (grammar.falsum d) h = absurd (let l = same_lexeme c d in cc)
  unary_one n bytes _ _ r s (grammar.verum c) e (grammar.group lt2 d v k2) h = absurd (let l = same_lexeme c d in cc)
  unary_one n bytes _ _ r s (grammar.verum c) e (grammar.atom_of lt2 d k2 m2) h = absurd (let l = same_lexeme c d in cc)
  unary_one n bytes _ _ r s (grammar.verum c) e (grammar.statement st2) h = absurd (begins_with_term refl c st2)
  unary_one n bytes _ _ r s (grammar.falsum c) e (grammar.not lt2 d v) h = absurd (let l = same_lexeme c d in cc)
  unary_one n bytes _ _ r s (grammar.falsum c) e (grammar.verum d) h = absurd (let l = same_lexeme c d in cc)
  unary_one n bytes _ _ r s (grammar.falsum c) e (grammar.group lt2 d v k2) h = absurd (let l = same_lexeme c d in cc)
  unary_one n bytes _ _ r s (grammar.falsum c) e (grammar.atom_of lt2 d k2 m2) h = absurd (let l = same_lexeme c d in cc)
  unary_one n bytes _ _ r s (grammar.falsum c) e (grammar.statement st2) h = absurd (begins_with_term refl c st2)
  unary_one n bytes _ _ r s (grammar.group lt c u k) e (grammar.not lt2 d v) h = absurd (let l = same_lexeme c d in cc)
  unary_one n bytes _ _ r s (grammar.group lt c u k) e (grammar.verum d) h = absurd (let l = same_lexeme c d in cc)
  unary_one n bytes _ _ r s (grammar.group lt c u k) e (grammar.falsum d) h = absurd (let l = same_lexeme c d in cc)
  unary_one n bytes _ _ r s (grammar.group lt c u k) e (grammar.atom_of lt2 d k2 m2) h = absurd (let l = same_lexeme c d in cc)
  unary_one n bytes _ _ r s (grammar.group lt c u k) e (grammar.statement st2) h = absurd (begins_with_term refl c st2)
  unary_one n bytes _ _ r s (grammar.atom_of lt c k m) e (grammar.not lt2 d v) h = absurd (let l = same_lexeme c d in cc)
  unary_one n bytes _ _ r s (grammar.atom_of lt c k m) e (grammar.verum d) h = absurd (let l = same_lexeme c d in cc)
  unary_one n bytes _ _ r s (grammar.atom_of lt c k m) e (grammar.falsum d) h = absurd (let l = same_lexeme c d in cc)
  unary_one n bytes _ _ r s (grammar.atom_of lt c k m) e (grammar.group lt2 d v k2) h = absurd (let l = same_lexeme c d in cc)
  unary_one n bytes _ _ r s (grammar.atom_of lt c k m) e (grammar.statement st2) h = absurd (no_statement c k st2 h)
  unary_one n bytes _ _ r s (grammar.statement st) e (grammar.not lt2 d v) h = absurd (begins_with_term refl d st)
  unary_one n bytes _ _ r s (grammar.statement st) e (grammar.verum d) h = absurd (begins_with_term refl d st)
  unary_one n bytes _ _ r s (grammar.statement st) e (grammar.falsum d) h = absurd (begins_with_term refl d st)
  unary_one n bytes _ _ r s (grammar.statement st) e (grammar.group lt2 d v k2) h = absurd (begins_with_term refl d st)
  unary_one n bytes _ _ r s (grammar.statement st) e (grammar.atom_of lt2 d k2 m2) h = absurd (no_statement d k2 st e)

  statement_one : (n : ℕ) (bytes : List ℕ) → IsOne ends_unary (ReadsStatement n bytes)
  statement_one n bytes f g r s (grammar.subject t q) e (grammar.subject u w) h =
      let i = term_one bytes _ _ _ _ t (ends_by_predicate _ (predicate_begins q)) u (ends_by_predicate _ (predicate_begins w)) in
      predicate_one n _ _ f g r s q e (rw (← i.0, ← i.1) at w) h
  statement_one n bytes _ _ r s (grammar.subject t q) e (grammar.atom d) h = absurd (no_subject d h t q)
  statement_one n bytes _ _ r s (grammar.atom c) e (grammar.subject u w) h = absurd (no_subject c e u w)
  statement_one n bytes _ _ r s (grammar.atom {p = p} c) e (grammar.atom {p = q} d) h =
      let l = same_lexeme c d in let names : p ≡ q = cc in (ap (λ z. tree.atom z []) names, same_rest c d)

  predicate_one : (n : ℕ) (t : TermTree) (bytes : List ℕ) → IsOne ends_unary (ReadsPredicate n t bytes)
  predicate_one n t bytes _ _ r s (grammar.says {f = f} lt c u) e (grammar.says {f = g} lt2 d v) h =
      let i = unary_one (n - 1) _ f g r s u e (rw (← same_rest c d) at v) h in (ap (λ z. tree.says t z) i.0, i.1)
  predicate_one n t bytes _ _ r s (grammar.says lt c u) e (grammar.speaks_for d v) h = absurd (let l = same_lexeme c d in cc)
  predicate_one n t bytes _ _ r s (grammar.says lt c u) e (grammar.speaks_for_on d v k w) h = absurd (let l = same_lexeme c d in cc)
  predicate_one n t bytes _ _ r s (grammar.says lt c u) e (grammar.comparison d k v) h = absurd (let l = same_lexeme c d in let z = rw (← l) at k in cc)
  predicate_one n t bytes _ _ r s (grammar.speaks_for c u) e (grammar.says lt d v) h = absurd (let l = same_lexeme c d in cc)
  predicate_one n t bytes _ _ r s (grammar.speaks_for {u = u1} c u) e (grammar.speaks_for {u = u2} d v) h =
      let i = term_one _ u1 u2 r s u (term_ends _ e) (rw (← same_rest c d) at v) (term_ends _ h) in (ap (λ z. tree.speaks_for t z) i.0, i.1)
  predicate_one n t bytes _ _ r s (grammar.speaks_for c u) e (grammar.speaks_for_on d v k w) h =
      let i = term_one _ _ _ _ _ u (term_ends _ e) (rw (← same_rest c d) at v) (ended _ _ (lexeme.keyword word.On) ends_term k refl) in
      absurd (let z = ends_with _ _ (lexeme.keyword word.On) ends_unary k (rw i.1 at e) in cc)
  predicate_one n t bytes _ _ r s (grammar.speaks_for c u) e (grammar.comparison d k v) h = absurd (let l = same_lexeme c d in let z = rw (← l) at k in cc)
  predicate_one n t bytes _ _ r s (grammar.speaks_for_on c u k w) e (grammar.says lt d v) h = absurd (let l = same_lexeme c d in cc)
  predicate_one n t bytes _ _ r s (grammar.speaks_for_on c u k w) e (grammar.speaks_for d v) h =
      let i = term_one _ _ _ _ _ u (ended _ _ (lexeme.keyword word.On) ends_term k refl) (rw (← same_rest c d) at v) (term_ends _ h) in
      absurd (let z = ends_with _ _ (lexeme.keyword word.On) ends_unary k (rw (← i.1) at h) in cc)
  predicate_one n t bytes _ _ r s (grammar.speaks_for_on {s = xs} c u k w) e (grammar.speaks_for_on {s = ys} d v k2 w2) h =
      let i = term_one _ _ _ _ _ u (ended _ _ (lexeme.keyword word.On) ends_term k refl) (rw (← same_rest c d) at v) (ended _ _ (lexeme.keyword word.On) ends_term k2 refl) in
      let z = same_rest k (rw (← i.1) at k2) in
      let j = scope_one n _ xs ys r s w (rw (← z) at w2) in
      (rw (i.0, j.0) refl, j.1)
  predicate_one n t bytes _ _ r s (grammar.speaks_for_on c u k w) e (grammar.comparison d k2 v) h = absurd (let l = same_lexeme c d in let z = rw (← l) at k2 in cc)
  predicate_one n t bytes _ _ r s (grammar.comparison c k u) e (grammar.says lt d v) h = absurd (let l = same_lexeme c d in let z = rw l at k in cc)
  predicate_one n t bytes _ _ r s (grammar.comparison c k u) e (grammar.speaks_for d v) h = absurd (let l = same_lexeme c d in let z = rw l at k in cc)
  predicate_one n t bytes _ _ r s (grammar.comparison c k u) e (grammar.speaks_for_on d v k2 w) h = absurd (let l = same_lexeme c d in let z = rw l at k in cc)
  predicate_one n t bytes _ _ r s (grammar.comparison {u = u1} {c = kind} c k u) e (grammar.comparison {u = u2} {c = kind2} d k2 v) h =
      let l = same_lexeme c d in
      let i = term_one _ u1 u2 r s u (term_ends _ e) (rw (← same_rest c d) at v) (term_ends _ h) in
      let z = rw (← l) at k2 in
      let kinds : kind ≡ kind2 = cc in
      (rw (kinds, i.0) refl, i.1)

pub one_formula_spelled : OneFormulaSpelled
one_formula_spelled n bytes f g (r, a, e) (s, b, h) =
    (formula_one n bytes f g r s a (subst (λ l. IsTrue (ends_formula l)) (sym e) refl) b (subst (λ l. IsTrue (ends_formula l)) (sym h) refl)).0

pub one_term_spelled : OneTermSpelled
one_term_spelled bytes t u (r, a, e) (s, b, f) = (term_one bytes t u r s a (subst (λ l. IsTrue (ends_term l)) (sym e) refl) b (subst (λ l. IsTrue (ends_term l)) (sym f) refl)).0
