-- What the tokens at the front of a text say of the formulas that it spells.
use Rattle.std.proofs.Common.{◌≡◌, ◌≢◌, ◌<◌, ◌≤◌, ◌-◌, ◌++◌, ◌∷◌, ◌⊎◌, inl, inr, ℕ, List, [], length, false, IsTrue, Some, None, Result, Ok, Err, IfOk, refl, sym, ap, subst, ◌∙◌, arith}
use Rattle.nal_term.specs.Names.{IsName}
use Rattle.nal_term.specs.Trees.{TermTree, FormulaTree}
use Rattle.nal_term.specs.Trees as tree
use Rattle.nal_parse.specs.declared.stops.Stop.{Stop}
use Rattle.nal_parse.specs.declared.stops.Stop.TheVariants.{Refused}
use Rattle.nal_parse.specs.declared.stops.Found.TheVariants.{TooDeep}
use Rattle.nal_parse.specs.declared.tokens.Quantifier.{Quantifier}
use Rattle.nal_parse.specs.declared.tokens.Keyword.{Keyword}
use Rattle.nal_parse.specs.declared.tokens.Keyword.TheVariants as word
use Rattle.nal_parse.specs.Tokens.{Lexeme, Cut, next_cut, after_blanks}
use Rattle.nal_parse.specs.Tokens as lexeme
use Rattle.nal_parse.specs.Grammar.{ReadsTerm, last, quantifier_of, quantify, ReadsFormula, quantified, unquantified, ReadsImplication, no_arrow, arrow, ReadsDisjunction, disjuncts, ReadsOrs, no_or, or, ReadsConjunction, conjuncts, ReadsAnds, no_and, and, ReadsUnary, not, verum, falsum, group, atom_of, statement, ReadsStatement, subject, atom}
use Rattle.nal_parse.specs.Errors.{none, next}
use Rattle.nal_parse.specs.Inner.Reading.{Readings, ReadsOnly, ReadsNothing, ReadsHere, IsStopped, IsStopAt, IsWritable, Ands, Arguments, Ors, ReadsContinued, ReadsMade, ReadsQuantified, ReadsThen, first_lexeme, first_term, is_malformed, ends_unary, ends_conjunction, ends_disjunction, ends_formula, IsWellFormed}
use Rattle.nal_parse.proofs.Readings.{Step, Handed, level, below, same_level, one_level, begins_append, begins_split, one_token, two_tokens, written, writable_append, stopped, stopped_deep}
use Rattle.nal_parse.proofs.TermReadings.{ReadsTerm-inverted, ReadsParts-only_none, first_writable, name_writable, nothing_between, term_goes_on, variable_writable}
use Rattle.nal_parse.proofs.ListReadings.{closes_cut, closes_writable}
use Rattle.nal_parse.proofs.ScopeReadings.{opens_writable}
use Rattle.nal_parse.proofs.StatementReadings.{keyword_writable, unary_goes_on, disjunction_ends, conjunction_ends, unary_ends, predicate_begins, statement_continued, continued_statement}
use Rattle.nal_parse.proofs.TokenLexemes.{same_lexeme, same_rest}
use Rattle.nal_parse.proofs.Written.{after_space, sign_cut}

-- Conjunctions

-- what follows the first conjunct begins with `and`, or with what follows the conjunction
pub ands_first : {n : ℕ} {f g : FormulaTree} {a other : List ℕ} → ReadsAnds n f a g other → IsTrue (ends_conjunction (first_lexeme other)) → IsTrue (ends_unary (first_lexeme a))
ands_first no_and e = unary_ends _ e
ands_first (and c u r) e = rw (first_lexeme, c) refl

conjunction_from : {n : ℕ} {f g : FormulaTree} {bytes rest other : List ℕ} → ReadsOnly ends_unary (ReadsUnary n bytes) f rest
    → ReadsConjunction n bytes g other → IsTrue (ends_conjunction (first_lexeme other)) → ReadsAnds n f rest g other
conjunction_from first (conjuncts u r) e = let o = first.only _ _ u (ands_first r e) in rw (← o.0, ← o.1) r

no_conjunction : {n : ℕ} {g : FormulaTree} {bytes other : List ℕ} → ReadsNothing ends_unary (ReadsUnary n bytes)
    → ReadsConjunction n bytes g other → IsTrue (ends_conjunction (first_lexeme other)) → ⊥
no_conjunction nothing (conjuncts u r) e = nothing.none _ _ u (ands_first r e)

pub conjunction_none : {n : ℕ} {bytes : List ℕ} → ReadsNothing ends_unary (ReadsUnary n bytes) → ReadsNothing ends_conjunction (ReadsConjunction n bytes)
conjunction_none nothing = record { none = λ g other r e. no_conjunction nothing r e }

only_no_and : {n : ℕ} {f g : FormulaTree} {bytes other : List ℕ} → first_lexeme bytes ≢ lexeme.keyword word.And → ReadsAnds n f bytes g other → (g ≡ f) × (other ≡ bytes)
only_no_and not_and no_and = (refl, refl)
only_no_and not_and (and c u r) = absurd (not_and (rw (first_lexeme, c) refl))

ands_from : {n : ℕ} {f g h : FormulaTree} {bytes a rest other : List ℕ} → next_cut bytes ≡ (lexeme.keyword word.And, a) → ReadsOnly ends_unary (ReadsUnary n a) g rest
    → ReadsAnds n f bytes h other → IsTrue (ends_conjunction (first_lexeme other)) → ReadsAnds n (tree.and f g) rest h other
ands_from c first no_and e = let i = rw (ends_conjunction, first_lexeme, c) at e in cc
ands_from c first (and c' u r) e =
    let p = same_rest c' c in
    let o = first.only _ _ (rw p at u) (ands_first r e) in
    rw (← o.0, ← o.1) r

no_ands : {n : ℕ} {f h : FormulaTree} {bytes a other : List ℕ} → next_cut bytes ≡ (lexeme.keyword word.And, a) → ReadsNothing ends_unary (ReadsUnary n a)
    → ReadsAnds n f bytes h other → IsTrue (ends_conjunction (first_lexeme other)) → ⊥
no_ands c nothing no_and e = let i = rw (ends_conjunction, first_lexeme, c) at e in cc
no_ands c nothing (and c' u r) e = let p = same_rest c' c in nothing.none _ _ (rw p at u) (ands_first r e)

pub conjunction_handed : (n : ℕ) → Handed ends_unary ends_conjunction ReadsUnary ReadsConjunction n
conjunction_handed n = record { nothing = λ bytes m le h. conjunction_none h; completes = λ tail. (tail, λ bytes m f le r. (f, conjuncts r no_and)) }

pub conjunction_step : (n : ℕ) (source : List ℕ) (f : FormulaTree) (mid : List ℕ) → ReadsHere ends_unary ReadsUnary n source f mid → Step ends_conjunction (Ands f) ReadsConjunction level n source mid
conjunction_step n source f mid first = record {
  front = first.tokens;
  begins = first.begins;
  writable = first.writable;
  levels = same_level n;
  to = λ bytes other m le b g rest r. conjuncts (first.reads bytes other m le b) r;
  from = λ bytes other m le b e g rest r k. conjunction_from (first.only bytes other m le b e) r k;
}

-- without `and` nothing follows
pub ands_end : (f : FormulaTree) (n : ℕ) (source : List ℕ) (l : Lexeme) → first_lexeme source ≡ l → l ≢ lexeme.keyword word.And → ReadsHere ends_conjunction (Ands f) n source f source
ands_end f n source l e not_and = record {
  tokens = [];
  begins = none;
  writable = tt;
  reads = λ bytes other m le b. subst (λ x. ReadsAnds m f bytes f x) (nothing_between b) no_and;
  only = λ bytes other m le b i. subst (λ x. ReadsOnly ends_conjunction (ReadsAnds m f bytes) f x) (nothing_between b)
      (record { reads = no_and; only = λ g rest r k. only_no_and (λ c. not_and (sym (ap first_lexeme (nothing_between b) ∙ i ∙ e) ∙ c)) r });
}

-- after `and` a conjunct, and what follows it
abbrev pub AfterAnd : FormulaTree → Readings FormulaTree
AfterAnd f n bytes h rest = (g : FormulaTree) × (b : List ℕ) × ReadsUnary n bytes g b × ReadsAnds n (tree.and f g) b h rest

pub and_step : (f : FormulaTree) (n : ℕ) (source : List ℕ) {a : List ℕ} → next_cut source ≡ (lexeme.keyword word.And, a) → Step ends_conjunction (AfterAnd f) (Ands f) level n source a
and_step f n source e = record {
  front = lexeme.keyword word.And ∷ [];
  begins = next e none;
  writable = (keyword_writable word.And, tt);
  levels = same_level n;
  to = λ bytes other m le b h rest r. and (one_token b) r.2 r.3;
  from = λ bytes other m le b first h rest r k. after_and (one_token b) r k;
}
  where
    after_and : {m : ℕ} {bytes other : List ℕ} {h : FormulaTree} {rest : List ℕ} → next_cut bytes ≡ (lexeme.keyword word.And, other) → ReadsAnds m f bytes h rest → IsTrue (ends_conjunction (first_lexeme rest)) → AfterAnd f m other h rest
    after_and c no_and k = let i = rw (ends_conjunction, first_lexeme, c) at k in cc
    after_and {m} {bytes} {other} {h} {rest} c (and {g = g} {a = p} {b = q} c' u r) k = (g, q, subst (λ x. ReadsUnary m x g q) (same_rest c' c) u, r)

pub after_and_handed : (f : FormulaTree) (n : ℕ) → Handed ends_unary ends_conjunction ReadsUnary (AfterAnd f) n
after_and_handed f n = record {
  nothing = λ bytes m le h. record { none = λ g rest r k. h.none r.0 r.1 r.2 (ands_first r.3 k) };
  completes = λ tail. (tail, λ bytes m g le r. (tree.and f g, (g, 32 ∷ tail, r, no_and)));
}

pub after_and_step : (f : FormulaTree) (n : ℕ) (source : List ℕ) (g : FormulaTree) (mid : List ℕ) → ReadsHere ends_unary ReadsUnary n source g mid → Step ends_conjunction (Ands (tree.and f g)) (AfterAnd f) level n source mid
after_and_step f n source g mid first = record {
  front = first.tokens;
  begins = first.begins;
  writable = first.writable;
  levels = same_level n;
  to = λ bytes other m le b h rest r. (g, other, first.reads bytes other m le b, r);
  from = λ bytes other m le b e h rest r k.
      let o = (first.only bytes other m le b e).only r.0 r.1 r.2 (ands_first r.3 k) in
      subst (λ x. ReadsAnds m (tree.and f g) x h rest) o.1 (subst (λ x. ReadsAnds m (tree.and f x) r.1 h rest) o.0 r.3);
}

-- Disjunctions

-- what follows the first disjunct begins with `or`, or with what follows the disjunction
pub ors_first : {n : ℕ} {f g : FormulaTree} {a other : List ℕ} → ReadsOrs n f a g other → IsTrue (ends_disjunction (first_lexeme other)) → IsTrue (ends_conjunction (first_lexeme a))
ors_first no_or e = conjunction_ends _ e
ors_first (or c u r) e = rw (first_lexeme, c) refl

disjunction_from : {n : ℕ} {f g : FormulaTree} {bytes rest other : List ℕ} → ReadsOnly ends_conjunction (ReadsConjunction n bytes) f rest
    → ReadsDisjunction n bytes g other → IsTrue (ends_disjunction (first_lexeme other)) → ReadsOrs n f rest g other
disjunction_from first (disjuncts u r) e = let o = first.only _ _ u (ors_first r e) in rw (← o.0, ← o.1) r

no_disjunction : {n : ℕ} {g : FormulaTree} {bytes other : List ℕ} → ReadsNothing ends_conjunction (ReadsConjunction n bytes)
    → ReadsDisjunction n bytes g other → IsTrue (ends_disjunction (first_lexeme other)) → ⊥
no_disjunction nothing (disjuncts u r) e = nothing.none _ _ u (ors_first r e)

pub disjunction_none : {n : ℕ} {bytes : List ℕ} → ReadsNothing ends_conjunction (ReadsConjunction n bytes) → ReadsNothing ends_disjunction (ReadsDisjunction n bytes)
disjunction_none nothing = record { none = λ g other r e. no_disjunction nothing r e }

only_no_or : {n : ℕ} {f g : FormulaTree} {bytes other : List ℕ} → first_lexeme bytes ≢ lexeme.keyword word.Or → ReadsOrs n f bytes g other → (g ≡ f) × (other ≡ bytes)
only_no_or not_or no_or = (refl, refl)
only_no_or not_or (or c u r) = absurd (not_or (rw (first_lexeme, c) refl))

ors_from : {n : ℕ} {f g h : FormulaTree} {bytes a rest other : List ℕ} → next_cut bytes ≡ (lexeme.keyword word.Or, a) → ReadsOnly ends_conjunction (ReadsConjunction n a) g rest
    → ReadsOrs n f bytes h other → IsTrue (ends_disjunction (first_lexeme other)) → ReadsOrs n (tree.or f g) rest h other
ors_from c first no_or e = let i = rw (ends_disjunction, first_lexeme, c) at e in cc
ors_from c first (or c' u r) e =
    let p = same_rest c' c in
    let o = first.only _ _ (rw p at u) (ors_first r e) in
    rw (← o.0, ← o.1) r

no_ors : {n : ℕ} {f h : FormulaTree} {bytes a other : List ℕ} → next_cut bytes ≡ (lexeme.keyword word.Or, a) → ReadsNothing ends_conjunction (ReadsConjunction n a)
    → ReadsOrs n f bytes h other → IsTrue (ends_disjunction (first_lexeme other)) → ⊥
no_ors c nothing no_or e = let i = rw (ends_disjunction, first_lexeme, c) at e in cc
no_ors c nothing (or c' u r) e = let p = same_rest c' c in nothing.none _ _ (rw p at u) (ors_first r e)

pub disjunction_handed : (n : ℕ) → Handed ends_conjunction ends_disjunction ReadsConjunction ReadsDisjunction n
disjunction_handed n = record { nothing = λ bytes m le h. disjunction_none h; completes = λ tail. (tail, λ bytes m f le r. (f, disjuncts r no_or)) }

pub disjunction_step : (n : ℕ) (source : List ℕ) (f : FormulaTree) (mid : List ℕ) → ReadsHere ends_conjunction ReadsConjunction n source f mid → Step ends_disjunction (Ors f) ReadsDisjunction level n source mid
disjunction_step n source f mid first = record {
  front = first.tokens;
  begins = first.begins;
  writable = first.writable;
  levels = same_level n;
  to = λ bytes other m le b g rest r. disjuncts (first.reads bytes other m le b) r;
  from = λ bytes other m le b e g rest r k. disjunction_from (first.only bytes other m le b e) r k;
}

-- without `or` nothing follows
pub ors_end : (f : FormulaTree) (n : ℕ) (source : List ℕ) (l : Lexeme) → first_lexeme source ≡ l → l ≢ lexeme.keyword word.Or → ReadsHere ends_disjunction (Ors f) n source f source
ors_end f n source l e not_or = record {
  tokens = [];
  begins = none;
  writable = tt;
  reads = λ bytes other m le b. subst (λ x. ReadsOrs m f bytes f x) (nothing_between b) no_or;
  only = λ bytes other m le b i. subst (λ x. ReadsOnly ends_disjunction (ReadsOrs m f bytes) f x) (nothing_between b)
      (record { reads = no_or; only = λ g rest r k. only_no_or (λ c. not_or (sym (ap first_lexeme (nothing_between b) ∙ i ∙ e) ∙ c)) r });
}

-- after `or` a disjunct, and what follows it
abbrev pub AfterOr : FormulaTree → Readings FormulaTree
AfterOr f n bytes h rest = (g : FormulaTree) × (b : List ℕ) × ReadsConjunction n bytes g b × ReadsOrs n (tree.or f g) b h rest

pub or_step : (f : FormulaTree) (n : ℕ) (source : List ℕ) {a : List ℕ} → next_cut source ≡ (lexeme.keyword word.Or, a) → Step ends_disjunction (AfterOr f) (Ors f) level n source a
or_step f n source e = record {
  front = lexeme.keyword word.Or ∷ [];
  begins = next e none;
  writable = (keyword_writable word.Or, tt);
  levels = same_level n;
  to = λ bytes other m le b h rest r. or (one_token b) r.2 r.3;
  from = λ bytes other m le b first h rest r k. after_or (one_token b) r k;
}
  where
    after_or : {m : ℕ} {bytes other : List ℕ} {h : FormulaTree} {rest : List ℕ} → next_cut bytes ≡ (lexeme.keyword word.Or, other) → ReadsOrs m f bytes h rest → IsTrue (ends_disjunction (first_lexeme rest)) → AfterOr f m other h rest
    after_or c no_or k = let i = rw (ends_disjunction, first_lexeme, c) at k in cc
    after_or {m} {bytes} {other} {h} {rest} c (or {g = g} {a = p} {b = q} c' u r) k = (g, q, subst (λ x. ReadsConjunction m x g q) (same_rest c' c) u, r)

pub after_or_handed : (f : FormulaTree) (n : ℕ) → Handed ends_conjunction ends_disjunction ReadsConjunction (AfterOr f) n
after_or_handed f n = record {
  nothing = λ bytes m le h. record { none = λ g rest r k. h.none r.0 r.1 r.2 (ors_first r.3 k) };
  completes = λ tail. (tail, λ bytes m g le r. (tree.or f g, (g, 32 ∷ tail, r, no_or)));
}

pub after_or_step : (f : FormulaTree) (n : ℕ) (source : List ℕ) (g : FormulaTree) (mid : List ℕ) → ReadsHere ends_conjunction ReadsConjunction n source g mid → Step ends_disjunction (Ors (tree.or f g)) (AfterOr f) level n source mid
after_or_step f n source g mid first = record {
  front = first.tokens;
  begins = first.begins;
  writable = first.writable;
  levels = same_level n;
  to = λ bytes other m le b h rest r. (g, other, first.reads bytes other m le b, r);
  from = λ bytes other m le b e h rest r k.
      let o = (first.only bytes other m le b e).only r.0 r.1 r.2 (ors_first r.3 k) in
      subst (λ x. ReadsOrs m (tree.or f g) x h rest) o.1 (subst (λ x. ReadsOrs m (tree.or f x) r.1 h rest) o.0 r.3);
}

-- Implications

only_no_arrow : {n : ℕ} {f g : FormulaTree} {bytes rest other : List ℕ} → ReadsOnly ends_disjunction (ReadsDisjunction n bytes) f rest → first_lexeme rest ≢ lexeme.arrow
    → ReadsImplication n bytes g other → IsTrue (ends_formula (first_lexeme other)) → (g ≡ f) × (other ≡ rest)
only_no_arrow left not_arrow (no_arrow d) e = left.only _ _ d (disjunction_ends _ e)
only_no_arrow left not_arrow (arrow lt d c r) e =
    let o = left.only _ _ d (rw (first_lexeme, c) refl) in
    let c' = rw o.1 at c in
    absurd (not_arrow (rw (first_lexeme, c') refl))

left_missing : {n : ℕ} {h : FormulaTree} {bytes other : List ℕ} → ReadsNothing ends_disjunction (ReadsDisjunction n bytes)
    → ReadsImplication n bytes h other → IsTrue (ends_formula (first_lexeme other)) → ⊥
left_missing nothing (no_arrow d) e = nothing.none _ _ d (disjunction_ends _ e)
left_missing nothing (arrow lt d c r) e = nothing.none _ _ d (rw (first_lexeme, c) refl)

pub implication_none : {n : ℕ} {bytes : List ℕ} → ReadsNothing ends_disjunction (ReadsDisjunction n bytes) → ReadsNothing ends_formula (ReadsImplication n bytes)
implication_none nothing = record { none = λ h other r e. left_missing nothing r e }

pub implication_handed : (n : ℕ) → Handed ends_disjunction ends_formula ReadsDisjunction ReadsImplication n
implication_handed n = record { nothing = λ bytes m le h. implication_none h; completes = λ tail. (tail, λ bytes m f le r. (f, no_arrow r)) }

pub arrow_writable : IsWritable lexeme.arrow
arrow_writable tail = (61 ∷ 62 ∷ 32 ∷ tail, after_space (61 ∷ 62 ∷ 32 ∷ tail) ∙ sign_cut 61 (62 ∷ 32 ∷ tail) refl refl)

module _ (n : ℕ) (source : List ℕ) (f : FormulaTree) (rest : List ℕ) (left : ReadsHere ends_disjunction ReadsDisjunction n source f rest) where
  -- without an arrow the left side is the implication
  pub implication_left : (l : Lexeme) → first_lexeme rest ≡ l → l ≢ lexeme.arrow → ReadsHere ends_formula ReadsImplication n source f rest
  implication_left l e not_arrow = record {
    tokens = left.tokens;
    begins = left.begins;
    writable = left.writable;
    reads = λ bytes other m le b. no_arrow (left.reads bytes other m le b);
    only = λ bytes other m le b i. record {
      reads = no_arrow (left.reads bytes other m le b);
      only = λ g tail r k. only_no_arrow (left.only bytes other m le b i) (λ c. not_arrow (sym (i ∙ e) ∙ c)) r k;
    };
  }

  -- after an arrow the right side
  pub implication_step : {a : List ℕ} → next_cut rest ≡ (lexeme.arrow, a) → 0 < n → Step ends_formula (ReadsMade (λ g. tree.implies f g) ReadsFormula) ReadsImplication below n source a
  implication_step {a} e room = record {
    front = left.tokens ++ lexeme.arrow ∷ [];
    begins = begins_append left.begins (next e none);
    writable = writable_append left.tokens (lexeme.arrow ∷ []) left.writable (arrow_writable, tt);
    levels = one_level n room;
    to = λ bytes other m le b h tail r.
        let i = begins_split left.tokens b in
        let lt : 0 < m = omega arith in
        rw r.2 (arrow lt (left.reads bytes i.0 m le i.1) (one_token i.2) r.1);
    from = λ bytes other m le b first h tail r k.
        let i = begins_split left.tokens b in
        let o = left.only bytes i.0 m le i.1 (rw (first_lexeme, one_token i.2, e) refl) in
        (right_of o (one_token i.2) r k).1;
  }
    where
      right_of : {m : ℕ} {bytes mid other tail : List ℕ} {h : FormulaTree} → ReadsOnly ends_disjunction (ReadsDisjunction m bytes) f mid → next_cut mid ≡ (lexeme.arrow, other) → ReadsImplication m bytes h tail
          → IsTrue (ends_formula (first_lexeme tail)) → (0 < m) × ReadsMade (λ g. tree.implies f g) ReadsFormula (m - 1) other h tail
      right_of o c (no_arrow d) k =
          let p = o.only _ _ d (disjunction_ends _ k) in
          let k' = subst (λ x. IsTrue (ends_formula (first_lexeme x))) p.1 k in
          let i = rw (ends_formula, first_lexeme, c) at k' in cc
      right_of {m} {bytes} {mid} {other} {tail} {h} o c (arrow {f = f'} {g = g} {a = p} {b = q} lt d c' r) k =
          let i = o.only f' p d (rw (first_lexeme, c') refl) in
          let c'' = subst (λ x. next_cut x ≡ (lexeme.arrow, q)) i.1 c' in
          (lt, (g, subst (λ x. ReadsFormula (m - 1) x g tail) (same_rest c'' c) r, ap (λ x. tree.implies x g) i.0))

-- with no level left an arrow has no right side
pub implication_too_deep : (source : List ℕ) (f : FormulaTree) (rest : List ℕ) → ReadsHere ends_disjunction ReadsDisjunction 0 source f rest → first_lexeme rest ≡ lexeme.arrow → (stop : Stop)
    → stop ≡ Refused TooDeep (length (after_blanks rest)) → IsStopped ends_formula ReadsImplication 0 source stop
implication_too_deep source f rest left e stop is =
    stopped_deep ends_formula ReadsImplication 0 source left.tokens rest left.begins left.writable
    (λ tail.
    let w = written left.tokens left.writable tail in
    (w.0, 32 ∷ tail, f, w.1, no_arrow (left.reads (32 ∷ w.0) (32 ∷ tail) 0 (omega arith) w.1)))
    lexeme.arrow e refl stop is
    (λ bytes other b i. record { none = λ h tail r k. nothing_left (left.only bytes other 0 (omega arith) b (i ∙ sym e)) i r k })
    (λ tail.
    let u = unary_goes_on 0 tail in
    let a = arrow_writable u.0 in
    let w = written left.tokens left.writable a.0 in (
      1,
      w.0,
      32 ∷ a.0,
      tree.implies f tree.verum,
      omega arith,
      w.1,
      rw (first_lexeme, a.1) refl,
      arrow (omega arith) (left.reads (32 ∷ w.0) (32 ∷ a.0) 1 (omega arith) w.1) a.1 (unquantified (no_arrow (disjuncts (conjuncts u.1 no_and) no_or))),
    ))
  where
    nothing_left : {bytes other tail : List ℕ} {h : FormulaTree} → ReadsOnly ends_disjunction (ReadsDisjunction 0 bytes) f other → first_lexeme other ≡ lexeme.arrow → ReadsImplication 0 bytes h tail → IsTrue (ends_formula (first_lexeme tail)) → ⊥
    nothing_left o i (no_arrow d) k =
        let p = o.only _ _ d (disjunction_ends _ k) in
        let k' = subst (λ x. IsTrue (ends_formula (first_lexeme x))) p.1 k in
        let k'' = rw (ends_formula, i) at k' in cc
    nothing_left o i (arrow lt d c r) k = omega arith

-- Unary formulas

-- a statement begins with a term
statement_first : {n : ℕ} {f : FormulaTree} {bytes other : List ℕ} → ReadsStatement n bytes f other → (u : TermTree) × (first_term (next_cut bytes).0 ≡ Some u)
statement_first (subject t p) = let i = ReadsTerm-inverted t in (i.0, i.1)
statement_first (atom c) = rw c (_, refl)

-- what a unary formula is, by its first lexeme
abbrev UnaryFrom : ℕ → List ℕ → Cut → FormulaTree → List ℕ → Type 0
UnaryFrom n bytes (lexeme.keyword word.Not, a) f rest = (0 < n) × ReadsMade (λ g. tree.implies g tree.falsum) ReadsUnary (n - 1) a f rest
UnaryFrom n bytes (lexeme.keyword word.True, a) f rest = (f ≡ tree.verum) × (rest ≡ a)
UnaryFrom n bytes (lexeme.keyword word.False, a) f rest = (f ≡ tree.falsum) × (rest ≡ a)
UnaryFrom n bytes (lexeme.keyword k, a) f rest = ⊥
UnaryFrom n bytes (lexeme.opens, a) f rest = (0 < n) × ReadsThen ReadsFormula lexeme.closes (n - 1) a f rest
UnaryFrom n bytes (lexeme.name p, a) f rest =
    ReadsStatement n bytes f rest ⊎ ((b : List ℕ) × (0 < n) × (next_cut a ≡ (lexeme.opens, b)) × ReadsMade (λ ts. tree.atom p ts) Arguments n b f rest)
UnaryFrom n bytes (l, a) f rest = ReadsStatement n bytes f rest

statement_from : (n : ℕ) (bytes : List ℕ) (l : Lexeme) (a : List ℕ) {f : FormulaTree} {rest : List ℕ} → ((u : TermTree) × (first_term l ≡ Some u)) → ReadsStatement n bytes f rest
    → UnaryFrom n bytes (l, a) f rest
statement_from n bytes (lexeme.name p) a i s = inl s
statement_from n bytes (lexeme.number m) a i s = s
statement_from n bytes (lexeme.quoted x) a i s = s
statement_from n bytes (lexeme.variable x) a i s = s
statement_from n bytes _ a i s = let e = i.1 in cc

unary_inverted : {n : ℕ} {f : FormulaTree} {bytes rest : List ℕ} → ReadsUnary n bytes f rest → UnaryFrom n bytes (next_cut bytes) f rest
unary_inverted (not lt c r) = rw c (lt, (_, r, refl))
unary_inverted (verum c) = rw c (refl, refl)
unary_inverted (falsum c) = rw c (refl, refl)
unary_inverted (group lt c r d) = rw c (lt, (_, r, d))
unary_inverted (atom_of lt c d r) = rw c (inr (_, lt, d, (_, r, refl)))
unary_inverted {n} {f} {bytes} {rest} (statement s) = statement_from n bytes (next_cut bytes).0 (next_cut bytes).1 (statement_first s) s

-- the first token of a text and the rest
cut_of : (bytes : List ℕ) {l : Lexeme} → first_lexeme bytes ≡ l → next_cut bytes ≡ (l, (next_cut bytes).1)
cut_of bytes e = ap (λ (x : Lexeme). (x, (next_cut bytes).1)) e

unary_at : {m : ℕ} {bytes other : List ℕ} {l : Lexeme} {f : FormulaTree} {rest : List ℕ} → next_cut bytes ≡ (l, other) → ReadsUnary m bytes f rest → UnaryFrom m bytes (l, other) f rest
unary_at c r = rw c at (unary_inverted r)

-- a name that no dot follows is the term that is read
name_alone : {p a bytes : List ℕ} → next_cut bytes ≡ (lexeme.name p, a) → first_lexeme a ≢ lexeme.dot → {u : TermTree} {other : List ℕ} → ReadsTerm bytes u other
    → (u ≡ tree.name p) × (other ≡ a)
name_alone {p} {a} {bytes} c not_dot {u} {other} r =
    let i = ReadsTerm-inverted r in
    let g = rw c at i.1 in
    let h = rw c at i.2 in
    let q : i.0 ≡ tree.name p = cc in
    ReadsParts-only_none not_dot (rw q at h)

-- after a name and an opening bracket no statement stands
opened_name : {m : ℕ} {p bytes a b : List ℕ} → next_cut bytes ≡ (lexeme.name p, a) → next_cut a ≡ (lexeme.opens, b) → {f : FormulaTree} {other : List ℕ}
    → ReadsStatement m bytes f other → IsTrue (ends_unary (first_lexeme other)) → ⊥
opened_name c d (subject r q) e =
    let o = name_alone c (rw (first_lexeme, d) (λ e. cc)) r in
    let b = predicate_begins q in
    let b' = rw (o.1, first_lexeme, d) at b in cc
opened_name c d (atom c') e =
    let q = same_rest c' c in
    let e' = rw (q, ends_unary, first_lexeme, d) at e in cc

arguments_of : {m : ℕ} (p : List ℕ) {bytes a b : List ℕ} → next_cut bytes ≡ (lexeme.name p, a) → next_cut a ≡ (lexeme.opens, b) → {f : FormulaTree} {other : List ℕ} → ReadsUnary m bytes f other
    → IsTrue (ends_unary (first_lexeme other)) → (0 < m) × ReadsMade (λ ts. tree.atom p ts) Arguments m b f other
arguments_of {m} p {bytes} {a} {b} c d {f} {other} r e = elim (unary_at c r) [
  | inl s ↦ absurd (opened_name c d s e)
  | inr i ↦ let q = same_rest i.2 d in (i.1, subst (λ x. ReadsMade (λ ts. tree.atom p ts) Arguments m x f other) q i.3)
]

module _ (n : ℕ) (source : List ℕ) where
  pub unary_true : {a : List ℕ} → next_cut source ≡ (lexeme.keyword word.True, a) → ReadsHere ends_unary ReadsUnary n source tree.verum a
  unary_true e = record {
    tokens = lexeme.keyword word.True ∷ [];
    begins = next e none;
    writable = (keyword_writable word.True, tt);
    reads = λ bytes other m le b. verum (one_token b);
    only = λ bytes other m le b i. record { reads = verum (one_token b); only = λ f rest r k. unary_at (one_token b) r };
  }

  pub unary_false : {a : List ℕ} → next_cut source ≡ (lexeme.keyword word.False, a) → ReadsHere ends_unary ReadsUnary n source tree.falsum a
  unary_false e = record {
    tokens = lexeme.keyword word.False ∷ [];
    begins = next e none;
    writable = (keyword_writable word.False, tt);
    reads = λ bytes other m le b. falsum (one_token b);
    only = λ bytes other m le b i. record { reads = falsum (one_token b); only = λ f rest r k. unary_at (one_token b) r };
  }

  pub unary_not : {a : List ℕ} → next_cut source ≡ (lexeme.keyword word.Not, a) → 0 < n → Step ends_unary (ReadsMade (λ g. tree.implies g tree.falsum) ReadsUnary) ReadsUnary below n source a
  unary_not e room = record {
    front = lexeme.keyword word.Not ∷ [];
    begins = next e none;
    writable = (keyword_writable word.Not, tt);
    levels = one_level n room;
    to = λ bytes other m le b f rest r. let lt : 0 < m = omega arith in rw r.2 (not lt (one_token b) r.1);
    from = λ bytes other m le b first f rest r k. (unary_at (one_token b) r).1;
  }

  pub unary_group : {a : List ℕ} → next_cut source ≡ (lexeme.opens, a) → 0 < n → Step ends_unary (ReadsThen ReadsFormula lexeme.closes) ReadsUnary below n source a
  unary_group e room = record {
    front = lexeme.opens ∷ [];
    begins = next e none;
    writable = (opens_writable, tt);
    levels = one_level n room;
    to = λ bytes other m le b f rest r. let lt : 0 < m = omega arith in group lt (one_token b) r.1 r.2;
    from = λ bytes other m le b first f rest r k. (unary_at (one_token b) r).1;
  }

  -- a name and an opening bracket begin an atom
  pub unary_atom : (p : List ℕ) → IsName p → {a b : List ℕ} → next_cut source ≡ (lexeme.name p, a) → next_cut a ≡ (lexeme.opens, b) → 0 < n → Step ends_unary (ReadsMade (λ ts. tree.atom p ts) Arguments) ReadsUnary level n source b
  unary_atom p ok e f room = record {
    front = lexeme.name p ∷ lexeme.opens ∷ [];
    begins = next e (next f none);
    writable = (name_writable p ok, (opens_writable, tt));
    levels = same_level n;
    to = λ bytes other m le b g rest r. let i = two_tokens b in let lt : 0 < m = omega arith in rw r.2 (atom_of lt i.1 i.2 r.1);
    from = λ bytes other m le b first g rest r k. let i = two_tokens b in (arguments_of p i.1 i.2 r k).1;
  }

  -- a name that no bracket follows begins a statement
  pub unary_name : (p : List ℕ) → IsName p → {a : List ℕ} → next_cut source ≡ (lexeme.name p, a) → (l : Lexeme) → first_lexeme a ≡ l → l ≢ lexeme.opens → Step ends_unary (ReadsContinued (tree.name p)) ReadsUnary level n source a
  unary_name p ok e l i not_open = record {
    front = lexeme.name p ∷ [];
    begins = next e none;
    writable = (name_writable p ok, tt);
    levels = same_level n;
    to = λ bytes other m le b f rest r. statement (continued_statement (lexeme.name p) (one_token b) refl r);
    from = λ bytes other m le b first f rest r k. elim (unary_at (one_token b) r) [
      | inl s ↦ statement_continued (lexeme.name p) (one_token b) refl s
      | inr j ↦ absurd (not_open (sym (first ∙ i) ∙ rw (first_lexeme, j.2) refl))
    ];
  }

  -- another token that is a term begins a statement
  pub unary_other : (l : Lexeme) {a : List ℕ} {u : TermTree} → next_cut source ≡ (l, a) → first_term l ≡ Some u → ((p : List ℕ) → l ≢ lexeme.name p) → IsWellFormed l → Step ends_unary (ReadsContinued u) ReadsUnary level n source a
  unary_other l e f not_name ok = record {
    front = l ∷ [];
    begins = next e none;
    writable = (first_writable l f ok, tt);
    levels = same_level n;
    to = λ bytes other m le b g rest r. statement (continued_statement l (one_token b) f r);
    from = λ bytes other m le b first g rest r k. statement_continued l (one_token b) f (other_from l f not_name m bytes other g rest (unary_at (one_token b) r));
  }
    where
      other_from : (l : Lexeme) {u : TermTree} → first_term l ≡ Some u → ((p : List ℕ) → l ≢ lexeme.name p) → (m : ℕ) (bytes other : List ℕ) (g : FormulaTree) (rest : List ℕ) → UnaryFrom m bytes (l, other) g rest → ReadsStatement m bytes g rest
      other_from (lexeme.keyword k) f i m bytes other g rest u = cc
      other_from lexeme.opens f i m bytes other g rest u = cc
      other_from (lexeme.name p) f i m bytes other g rest u = absurd (i p refl)
      other_from _ f i m bytes other g rest u = u

  -- with any other token in front there is no unary formula
  pub unary_stuck : (l : Lexeme) → first_lexeme source ≡ l → ((m : ℕ) (bytes other : List ℕ) (f : FormulaTree) (rest : List ℕ) → first_lexeme bytes ≡ l → UnaryFrom m bytes (l, other) f rest → ⊥) → (stop : Stop) → IsStopAt l source stop
      → IsStopped ends_unary ReadsUnary n source stop
  unary_stuck l e refuses stop is =
      stopped ends_unary ReadsUnary n source [] source none tt (λ tail. let g = unary_goes_on n tail in (g.0, 32 ∷ g.0, tree.verum, none, g.1)) l e stop is
      (λ bytes other m le b f.
      let first : first_lexeme bytes ≡ l = ap first_lexeme (nothing_between b) ∙ f in
      record { none = λ g rest r k. refuses m bytes (next_cut bytes).1 g rest first (unary_at (cut_of bytes first) r) })

-- the whole formula that a unary one is
as_formula : {n : ℕ} {bytes : List ℕ} {f : FormulaTree} {rest : List ℕ} → ReadsUnary n bytes f rest → ReadsFormula n bytes f rest
as_formula u = unquantified (no_arrow (disjuncts (conjuncts u no_and) no_or))

module _ (source : List ℕ) (stop : Stop) where
  unary_deep : (l : Lexeme) → first_lexeme source ≡ l → is_malformed l ≡ false → stop ≡ Refused TooDeep (length (after_blanks source)) → ((bytes other : List ℕ) (f : FormulaTree) (rest : List ℕ) → UnaryFrom 0 bytes (l, other) f rest → ⊥)
      → ((tail : List ℕ) → (bytes : List ℕ) × (f : FormulaTree) × (first_lexeme (32 ∷ bytes) ≡ l) × ReadsUnary 1 (32 ∷ bytes) f (32 ∷ tail)) → IsStopped ends_unary ReadsUnary 0 source stop
  unary_deep l e fine is refuses deeper =
      stopped_deep ends_unary ReadsUnary 0 source [] source none tt (λ tail. let g = unary_goes_on 0 tail in (g.0, 32 ∷ g.0, tree.verum, none, g.1)) l e fine stop is
      (λ bytes other b f.
      let first : first_lexeme bytes ≡ l = ap first_lexeme (nothing_between b) ∙ f in
      record { none = λ g rest r k. refuses bytes (next_cut bytes).1 g rest (unary_at (cut_of bytes first) r) })
      (λ tail. let g = deeper tail in (1, g.0, 32 ∷ g.0, g.1, omega arith, none, g.2, g.3))

  pub unary_not_too_deep : first_lexeme source ≡ lexeme.keyword word.Not → stop ≡ Refused TooDeep (length (after_blanks source)) → IsStopped ends_unary ReadsUnary 0 source stop
  unary_not_too_deep e is = unary_deep (lexeme.keyword word.Not) e refl is (λ bytes other f rest u. omega (arith, u.0))
      (λ tail.
      let u = unary_goes_on 0 tail in
      let k = keyword_writable word.Not u.0 in
      (k.0, tree.implies tree.verum tree.falsum, rw (first_lexeme, k.1) refl, not (omega arith) k.1 u.1))

  pub unary_group_too_deep : first_lexeme source ≡ lexeme.opens → stop ≡ Refused TooDeep (length (after_blanks source)) → IsStopped ends_unary ReadsUnary 0 source stop
  unary_group_too_deep e is = unary_deep lexeme.opens e refl is (λ bytes other f rest u. omega (arith, u.0))
      (λ tail.
      let u = unary_goes_on 0 (41 ∷ 32 ∷ tail) in
      let o = opens_writable u.0 in
      (o.0, tree.verum, rw (first_lexeme, o.1) refl, group (omega arith) o.1 (as_formula u.1) (closes_cut tail)))

-- with no level left the bracket of a name's arguments is too deep
pub unary_atom_too_deep : (source : List ℕ) (p : List ℕ) → IsName p → {a : List ℕ} → next_cut source ≡ (lexeme.name p, a) → first_lexeme a ≡ lexeme.opens → (stop : Stop)
    → stop ≡ Refused TooDeep (length (after_blanks a)) → IsStopped ends_unary ReadsUnary 0 source stop
unary_atom_too_deep source p ok {a} e o stop is =
    stopped_deep ends_unary ReadsUnary 0 source (lexeme.name p ∷ []) a (next e none) (name_writable p ok, tt)
    (λ tail. let w = name_writable p ok tail in (w.0, 32 ∷ tail, tree.atom p [], next w.1 none, statement (atom w.1)))
    lexeme.opens o refl stop is
    (λ bytes other b f. record { none = λ g rest r k. let z = (arguments_of p (one_token b) (cut_of other f) r k).0 in omega arith })
    (λ tail.
    let z = term_goes_on (41 ∷ 32 ∷ tail) in
    let q = opens_writable z.0 in
    let w = name_writable p ok q.0 in
    (1, w.0, 32 ∷ q.0, tree.atom p (tree.number 0 ∷ []), omega arith, next w.1 none, rw (first_lexeme, q.1) refl, atom_of (omega arith) w.1 q.1 (last (omega arith) z.1 (closes_cut tail))))

-- Groups

pub group_handed : (n : ℕ) → Handed ends_formula ends_unary ReadsFormula (ReadsThen ReadsFormula lexeme.closes) n
group_handed n = record {
  nothing = λ bytes m le h. record { none = λ f rest r k. h.none f r.0 r.1 (rw (first_lexeme, r.2) refl) };
  completes = λ tail. (41 ∷ 32 ∷ tail, λ bytes m f le r. (f, (32 ∷ 41 ∷ 32 ∷ tail, r, closes_cut tail)));
}

module _ (n : ℕ) (source : List ℕ) (f : FormulaTree) (mid : List ℕ) (formula : ReadsHere ends_formula ReadsFormula n source f mid) where
  pub group_closed : {after : List ℕ} → next_cut mid ≡ (lexeme.closes, after) → ReadsHere ends_unary (ReadsThen ReadsFormula lexeme.closes) n source f after
  group_closed {after} e = record {
    tokens = formula.tokens ++ lexeme.closes ∷ [];
    begins = begins_append formula.begins (next e none);
    writable = writable_append formula.tokens (lexeme.closes ∷ []) formula.writable (closes_writable, tt);
    reads = λ bytes other m le b. let i = begins_split formula.tokens b in (i.0, formula.reads bytes i.0 m le i.1, one_token i.2);
    only = λ bytes other m le b g.
        let i = begins_split formula.tokens b in
        let o = formula.only bytes i.0 m le i.1 (rw (first_lexeme, one_token i.2, e) refl) in
        record {
          reads = (i.0, formula.reads bytes i.0 m le i.1, one_token i.2);
          only = λ h rest r k.
              let p = o.only h r.0 r.1 (rw (first_lexeme, r.2) refl) in
              let c = subst (λ x. next_cut x ≡ (lexeme.closes, rest)) p.1 r.2 in
              (p.0, same_rest c (one_token i.2));
        };
  }

  pub group_stuck : (l : Lexeme) → first_lexeme mid ≡ l → l ≢ lexeme.closes → (stop : Stop) → IsStopAt l mid stop → IsStopped ends_unary (ReadsThen ReadsFormula lexeme.closes) n source stop
  group_stuck l e not_closes stop is =
      stopped ends_unary (ReadsThen ReadsFormula lexeme.closes) n source formula.tokens mid formula.begins formula.writable
      (λ tail.
      let w = written formula.tokens formula.writable (41 ∷ 32 ∷ tail) in
      (w.0, 32 ∷ 41 ∷ 32 ∷ tail, f, w.1, (32 ∷ 41 ∷ 32 ∷ tail, formula.reads (32 ∷ w.0) (32 ∷ 41 ∷ 32 ∷ tail) n (omega arith) w.1, closes_cut tail)))
      l e stop is
      (λ bytes other m le b g. record {
        none = λ h rest r k.
            let p = (formula.only bytes other m le b (g ∙ sym e)).only h r.0 r.1 (rw (first_lexeme, r.2) refl) in
            not_closes (sym g ∙ subst (λ x. first_lexeme x ≡ lexeme.closes) p.1 (rw (first_lexeme, r.2) refl));
      })

-- Quantified formulas

-- a unary formula begins with no quantifier, and so does what begins with it
unary_first : {n : ℕ} {f : FormulaTree} {bytes other : List ℕ} → ReadsUnary n bytes f other → quantifier_of (first_lexeme bytes) ≡ None
unary_first (not lt c r) = rw (first_lexeme, c) refl
unary_first (verum c) = rw (first_lexeme, c) refl
unary_first (falsum c) = rw (first_lexeme, c) refl
unary_first (group lt c r d) = rw (first_lexeme, c) refl
unary_first (atom_of lt c d r) = rw (first_lexeme, c) refl
unary_first {bytes = bytes} (statement s) = let i = statement_first s in no_quantifier (next_cut bytes).0 i.1
  where
    no_quantifier : (l : Lexeme) {u : TermTree} → first_term l ≡ Some u → quantifier_of l ≡ None
    no_quantifier (lexeme.keyword k) e = cc
    no_quantifier _ e = refl

conjunction_first : {n : ℕ} {f : FormulaTree} {bytes other : List ℕ} → ReadsConjunction n bytes f other → quantifier_of (first_lexeme bytes) ≡ None
conjunction_first (conjuncts u r) = unary_first u

disjunction_first : {n : ℕ} {f : FormulaTree} {bytes other : List ℕ} → ReadsDisjunction n bytes f other → quantifier_of (first_lexeme bytes) ≡ None
disjunction_first (disjuncts u r) = conjunction_first u

implication_first : {n : ℕ} {f : FormulaTree} {bytes other : List ℕ} → ReadsImplication n bytes f other → quantifier_of (first_lexeme bytes) ≡ None
implication_first (no_arrow d) = disjunction_first d
implication_first (arrow lt d c r) = disjunction_first d

-- a formula after a quantifier
quantified_from : {n : ℕ} {q : Quantifier} {l : Lexeme} {f : FormulaTree} {bytes a other : List ℕ} → next_cut bytes ≡ (l, a) → quantifier_of l ≡ Some q → ReadsFormula n bytes f other
    → (0 < n) × ReadsQuantified q (n - 1) a f other
quantified_from {n} {q} {l} {f} {bytes} {a} {other} c e (quantified {q = q'} {l = l'} {x = x} {f = g} {a = a'} {b = b} {c = d} lt c' e' v w r) =
    let m : l' ≡ l = same_lexeme c' c in
    let p : a' ≡ a = same_rest c' c in
    let k : q' ≡ q = (let e'' = rw m at e' in cc) in
    (lt, (x, g, b, d, rw (← p) v, w, r, rw k refl))
quantified_from c e (unquantified i) = let h = implication_first i in let h' = rw (first_lexeme, c) at h in cc

colon_writable : IsWritable lexeme.colon
colon_writable tail = (58 ∷ 32 ∷ tail, after_space (58 ∷ 32 ∷ tail) ∙ sign_cut 58 (32 ∷ tail) refl refl)

quantifier_writable : (l : Lexeme) {q : Quantifier} → quantifier_of l ≡ Some q → IsWritable l
quantifier_writable (lexeme.keyword k) e = keyword_writable k
quantifier_writable _ e = cc

quantifier_fine : (l : Lexeme) {q : Quantifier} → quantifier_of l ≡ Some q → is_malformed l ≡ false
quantifier_fine (lexeme.keyword k) e = refl
quantifier_fine _ e = cc

-- `?a : true` can be written before any other text
quantified_goes_on : (q : Quantifier) (n : ℕ) (tail : List ℕ) → (bytes : List ℕ) × ReadsQuantified q n (32 ∷ bytes) (quantify q (97 ∷ []) tree.verum) (32 ∷ tail)
quantified_goes_on q n tail =
    let u = unary_goes_on n tail in
    let c = colon_writable u.0 in
    let v = variable_writable (97 ∷ []) refl c.0 in
    (v.0, (97 ∷ [], tree.verum, 32 ∷ c.0, 32 ∷ u.0, v.1, c.1, as_formula u.1, refl))

module _ (q : Quantifier) (n : ℕ) (source : List ℕ) where
  pub quantified_no_variable : (l : Lexeme) → first_lexeme source ≡ l → ((x : List ℕ) → l ≢ lexeme.variable x) → (stop : Stop) → IsStopAt l source stop
      → IsStopped ends_formula (ReadsQuantified q) n source stop
  quantified_no_variable l e not_variable stop is =
      stopped ends_formula (ReadsQuantified q) n source [] source none tt (λ tail. let g = quantified_goes_on q n tail in (g.0, 32 ∷ g.0, quantify q (97 ∷ []) tree.verum, none, g.1)) l e stop is
      (λ bytes other m le b f.
      let first : first_lexeme bytes ≡ l = ap first_lexeme (nothing_between b) ∙ f in
      record { none = λ g rest r k. not_variable r.0 (sym first ∙ rw (first_lexeme, r.4) refl) })

  pub quantified_no_colon : (x : List ℕ) → IsName x → {a : List ℕ} → next_cut source ≡ (lexeme.variable x, a) → (l : Lexeme) → first_lexeme a ≡ l → l ≢ lexeme.colon → (stop : Stop) → IsStopAt l a stop
      → IsStopped ends_formula (ReadsQuantified q) n source stop
  quantified_no_colon x ok {a} e l i not_colon stop is =
      stopped ends_formula (ReadsQuantified q) n source (lexeme.variable x ∷ []) a (next e none) (variable_writable x ok, tt)
      (λ tail.
      let u = unary_goes_on n tail in
      let c = colon_writable u.0 in
      let v = variable_writable x ok c.0 in
      (v.0, 32 ∷ c.0, quantify q x tree.verum, next v.1 none, (x, tree.verum, 32 ∷ c.0, 32 ∷ u.0, v.1, c.1, as_formula u.1, refl)))
      l i stop is
      (λ bytes other m le b f. record {
        none = λ g rest r k.
            let s : r.2 ≡ other = same_rest r.4 (one_token b) in
            not_colon (sym f ∙ subst (λ y. first_lexeme y ≡ lexeme.colon) s (rw (first_lexeme, r.5) refl));
      })

  pub quantified_step : (x : List ℕ) → IsName x → {a b : List ℕ} → next_cut source ≡ (lexeme.variable x, a) → next_cut a ≡ (lexeme.colon, b) → Step ends_formula (ReadsMade (λ f. quantify q x f) ReadsFormula) (ReadsQuantified q) level n source b
  quantified_step x ok e f = record {
    front = lexeme.variable x ∷ lexeme.colon ∷ [];
    begins = next e (next f none);
    writable = (variable_writable x ok, (colon_writable, tt));
    levels = same_level n;
    to = λ bytes other m le b g rest r. let i = two_tokens b in (x, r.0, i.0, other, i.1, i.2, r.1, r.2);
    from = λ bytes other m le b first g rest r k.
        let i = two_tokens b in
        let l : lexeme.variable r.0 ≡ lexeme.variable x = same_lexeme r.4 i.1 in
        let p : r.0 ≡ x = cc in
        let s : r.2 ≡ i.0 = same_rest r.4 i.1 in
        let c = subst (λ y. next_cut y ≡ (lexeme.colon, r.3)) s r.5 in
        (r.1, subst (λ y. ReadsFormula m y r.1 rest) (same_rest c i.2) r.6, r.7 ∙ ap (λ y. quantify q y r.1) p);
  }

module _ (n : ℕ) (source : List ℕ) where
  pub formula_quantified : {q : Quantifier} {a : List ℕ} (l : Lexeme) → next_cut source ≡ (l, a) → quantifier_of l ≡ Some q → 0 < n → Step ends_formula (ReadsQuantified q) ReadsFormula below n source a
  formula_quantified l e f room = record {
    front = l ∷ [];
    begins = next e none;
    writable = (quantifier_writable l f, tt);
    levels = one_level n room;
    to = λ bytes other m le b g rest r. let lt : 0 < m = omega arith in rw r.7 (quantified lt (one_token b) f r.4 r.5 r.6);
    from = λ bytes other m le b first g rest r k. (quantified_from (one_token b) f r).1;
  }

  pub formula_plain : (l : Lexeme) → first_lexeme source ≡ l → quantifier_of l ≡ None → Step ends_formula ReadsImplication ReadsFormula level n source source
  formula_plain l e f = record {
    front = [];
    begins = none;
    writable = tt;
    levels = same_level n;
    to = λ bytes other m le b g rest r. unquantified (subst (λ x. ReadsImplication m x g rest) (sym (nothing_between b)) r);
    from = λ bytes other m le b first g rest r k.
        subst (λ x. ReadsImplication m x g rest) (nothing_between b) (plain_of (ap quantifier_of (ap first_lexeme (nothing_between b) ∙ first ∙ e) ∙ f) r);
  }
    where
      plain_of : {m : ℕ} {bytes : List ℕ} {g : FormulaTree} {rest : List ℕ} → quantifier_of (first_lexeme bytes) ≡ None → ReadsFormula m bytes g rest → ReadsImplication m bytes g rest
      plain_of h (quantified lt c e' v w r) = let i = rw (first_lexeme, c) at h in cc
      plain_of h (unquantified i) = i

pub formula_too_deep : (source : List ℕ) {q : Quantifier} (l : Lexeme) → first_lexeme source ≡ l → quantifier_of l ≡ Some q → (stop : Stop) → stop ≡ Refused TooDeep (length (after_blanks source))
    → IsStopped ends_formula ReadsFormula 0 source stop
formula_too_deep source {q} l e f stop is =
    stopped_deep ends_formula ReadsFormula 0 source [] source none tt (λ tail. let g = unary_goes_on 0 tail in (g.0, 32 ∷ g.0, tree.verum, none, as_formula g.1)) l e (quantifier_fine l f) stop is
    (λ bytes other b i.
    let first : first_lexeme bytes ≡ l = ap first_lexeme (nothing_between b) ∙ i in
    record { none = λ g rest r k. let z = (quantified_from (cut_of bytes first) f r).0 in omega arith })
    (λ tail.
    let g = quantified_goes_on q 0 tail in
    let k = quantifier_writable l f g.0 in
    let r = g.1 in
    (1, k.0, 32 ∷ k.0, quantify q r.0 r.1, omega arith, none, rw (first_lexeme, k.1) refl, quantified (omega arith) k.1 f r.4 r.5 r.6))

-- a reserved word but `not`, `true` and `false` begins no unary formula
pub keyword_refused : (k : Keyword) → k ≢ word.Not → k ≢ word.True → k ≢ word.False → (m : ℕ) (bytes other : List ℕ) (f : FormulaTree) (rest : List ℕ) → first_lexeme bytes ≡ lexeme.keyword k
    → UnaryFrom m bytes (lexeme.keyword k, other) f rest → ⊥
keyword_refused word.Not h i j m bytes other f rest e u = h refl
keyword_refused word.True h i j m bytes other f rest e u = i refl
keyword_refused word.False h i j m bytes other f rest e u = j refl
keyword_refused _ h i j m bytes other f rest e u = u

-- nor does a token that is such a word
pub word_refused : (l : Lexeme) (k : Keyword) → l ≡ lexeme.keyword k → k ≢ word.Not → k ≢ word.True → k ≢ word.False → (m : ℕ) (bytes other : List ℕ) (f : FormulaTree) (rest : List ℕ) → first_lexeme bytes ≡ l
    → UnaryFrom m bytes (l, other) f rest → ⊥
word_refused l k is h i j m bytes other f rest e u = keyword_refused k h i j m bytes other f rest (e ∙ is) (rw is at u)

-- nor does a token that is no term, no reserved word and no bracket
pub other_refused : (l : Lexeme) → first_term l ≡ None → ((k : Keyword) → l ≢ lexeme.keyword k) → l ≢ lexeme.opens → (m : ℕ) (bytes other : List ℕ) (f : FormulaTree) (rest : List ℕ) → first_lexeme bytes ≡ l
    → UnaryFrom m bytes (l, other) f rest → ⊥
other_refused (lexeme.keyword k) n h i m bytes other f rest e u = h k refl
other_refused lexeme.opens n h i m bytes other f rest e u = i refl
other_refused (lexeme.name p) n h i m bytes other f rest e u = cc
other_refused l n h i m bytes other f rest e u = let s = statement_first u in let g = rw (first_lexeme, e) at s.1 in cc

-- what leaves at most the rest leaves less than the whole
pub ok_shorter : {T : Type 0} (r : Result T Stop) (left m n : ℕ) → IfOk r (λ p. left ≤ m) → m < n → IfOk r (λ p. left < n)
ok_shorter (Ok p) left m n h lt = omega arith
ok_shorter (Err e) left m n h lt = h
