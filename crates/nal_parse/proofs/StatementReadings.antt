-- What the tokens at the front of a text say of the statements that it spells.
use Rattle.std.proofs.Common.{◌≡◌, ◌≢◌, ◌<◌, ◌-◌, ◌++◌, ◌∷◌, inl, inr, ℕ, List, [], length, Bool, true, false, codes, IsTrue, Option, Some, None, refl, sym, ap, subst, ◌∙◌, arith}
use Rattle.nal_term.specs.declared.formulas.Compare.{Compare}
use Rattle.nal_term.specs.declared.formulas.Compare.TheVariants.{Equal}
use Rattle.nal_term.specs.Trees.{TermTree, FormulaTree}
use Rattle.nal_term.specs.Trees as tree
use Rattle.nal_parse.specs.declared.stops.Stop.{Stop}
use Rattle.nal_parse.specs.declared.stops.Stop.TheVariants.{Refused}
use Rattle.nal_parse.specs.declared.stops.Found.TheVariants.{TooDeep}
use Rattle.nal_parse.specs.declared.tokens.Keyword.{Keyword}
use Rattle.nal_parse.specs.declared.tokens.Keyword.TheVariants as word
use Rattle.nal_parse.specs.Tokens.{Lexeme, Cut, next_cut, after_blanks, word_lexeme}
use Rattle.nal_parse.specs.Tokens as lexeme
use Rattle.nal_parse.specs.Grammar.{ReadsTerm, ReadsParts, ReadsList, ReadsScope, comparison_of, ReadsUnary, verum, ReadsStatement, subject, atom, ReadsPredicate, says, speaks_for, speaks_for_on, comparison}
use Rattle.nal_parse.specs.Grammar as grammar
use Rattle.nal_parse.specs.Errors.{none, next}
use Rattle.nal_parse.specs.Inner.Reading.{goes_on, ReadsHere, IsStopped, IsStopAt, IsWritable, Arguments, Parts, Terms, ReadsContinued, ReadsDelegation, ReadsMade, ReadsMore, ReadsRest, anything, first_lexeme, first_term, ends_term, ends_unary, ends_conjunction, ends_disjunction, ends_formula}
use Rattle.nal_parse.proofs.Readings.{Step, level, below, same_level, one_level, Handed, begins_append, begins_split, one_token, writable_append, stopped, stopped_deep, step_reads}
use Rattle.nal_parse.proofs.TermReadings.{ReadsTerm-inverted, ReadsTerm-made, nothing_between, term_goes_on, parts_end}
use Rattle.nal_parse.proofs.TokenLexemes.{same_lexeme, same_rest}
use Rattle.nal_parse.proofs.Written.{after_space, keyword_cut, sign_cut}

-- each reserved word can be written before any other text
pub keyword_writable : (k : Keyword) → IsWritable (lexeme.keyword k)
keyword_writable word.Says tail = (codes "says" ++ 32 ∷ tail, keyword_cut 115 (codes "ays") tail word.Says refl refl refl)
keyword_writable word.SpeaksFor tail = (codes "speaksfor" ++ 32 ∷ tail, keyword_cut 115 (codes "peaksfor") tail word.SpeaksFor refl refl refl)
keyword_writable word.On tail = (codes "on" ++ 32 ∷ tail, keyword_cut 111 (codes "n") tail word.On refl refl refl)
keyword_writable word.And tail = (codes "and" ++ 32 ∷ tail, keyword_cut 97 (codes "nd") tail word.And refl refl refl)
keyword_writable word.Or tail = (codes "or" ++ 32 ∷ tail, keyword_cut 111 (codes "r") tail word.Or refl refl refl)
keyword_writable word.Not tail = (codes "not" ++ 32 ∷ tail, keyword_cut 110 (codes "ot") tail word.Not refl refl refl)
keyword_writable word.Forall tail = (codes "forall" ++ 32 ∷ tail, keyword_cut 102 (codes "orall") tail word.Forall refl refl refl)
keyword_writable word.Exists tail = (codes "exists" ++ 32 ∷ tail, keyword_cut 101 (codes "xists") tail word.Exists refl refl refl)
keyword_writable word.True tail = (codes "true" ++ 32 ∷ tail, keyword_cut 116 (codes "rue") tail word.True refl refl refl)
keyword_writable word.False tail = (codes "false" ++ 32 ∷ tail, keyword_cut 102 (codes "alse") tail word.False refl refl refl)

comparison_writable : (l : Lexeme) {c : Compare} → comparison_of l ≡ Some c → IsWritable l
comparison_writable lexeme.equal e tail = (61 ∷ 32 ∷ tail, after_space (61 ∷ 32 ∷ tail) ∙ sign_cut 61 (32 ∷ tail) refl refl)
comparison_writable lexeme.less e tail = (60 ∷ 32 ∷ tail, after_space (60 ∷ 32 ∷ tail) ∙ sign_cut 60 (32 ∷ tail) refl refl)
comparison_writable lexeme.at_most e tail = (60 ∷ 61 ∷ 32 ∷ tail, after_space (60 ∷ 61 ∷ 32 ∷ tail) ∙ sign_cut 60 (61 ∷ 32 ∷ tail) refl refl)
comparison_writable _ e tail = cc

-- some unary formula can be written before any other text
pub unary_goes_on : (n : ℕ) (tail : List ℕ) → (bytes : List ℕ) × ReadsUnary n (32 ∷ bytes) tree.verum (32 ∷ tail)
unary_goes_on n tail = let k = keyword_writable word.True tail in (k.0, verum k.1)

-- what ends a longer part ends a shorter one
pub disjunction_ends : (l : Lexeme) → IsTrue (ends_formula l) → IsTrue (ends_disjunction l)
disjunction_ends lexeme.end e = refl
disjunction_ends lexeme.closes e = refl
disjunction_ends _ e = cc

pub conjunction_ends : (l : Lexeme) → IsTrue (ends_disjunction l) → IsTrue (ends_conjunction l)
conjunction_ends lexeme.end e = refl
conjunction_ends lexeme.closes e = refl
conjunction_ends lexeme.arrow e = refl
conjunction_ends _ e = cc

pub unary_ends : (l : Lexeme) → IsTrue (ends_conjunction l) → IsTrue (ends_unary l)
unary_ends lexeme.end e = refl
unary_ends lexeme.closes e = refl
unary_ends lexeme.arrow e = refl
unary_ends (lexeme.keyword word.Or) e = refl
unary_ends (lexeme.keyword word.And) e = cc
unary_ends _ e = cc

pub term_ends : (l : Lexeme) → IsTrue (ends_unary l) → IsTrue (ends_term l)
term_ends lexeme.dot e = cc
term_ends _ e = refl

-- a statement begins with a term
pub statement_first : {n : ℕ} {f : FormulaTree} {bytes other : List ℕ} → ReadsStatement n bytes f other → (u : TermTree) × (first_term (next_cut bytes).0 ≡ Some u)
statement_first (subject t p) = let i = ReadsTerm-inverted t in (i.0, i.1)
statement_first (atom c) = rw c (_, refl)

-- what a predicate is, by its first lexeme
abbrev PredicateFrom : ℕ → TermTree → Cut → FormulaTree → List ℕ → Type 0
PredicateFrom n t (lexeme.keyword word.Says, a) f rest = (0 < n) × ReadsMade (λ g. tree.says t g) ReadsUnary (n - 1) a f rest
PredicateFrom n t (lexeme.keyword word.SpeaksFor, a) f rest = ReadsDelegation t n a f rest
PredicateFrom n t (l, a) f rest = (c : Compare) × (comparison_of l ≡ Some c) × ReadsMade (λ u. tree.test c t u) Terms n a f rest

comparison_from : (n : ℕ) (t : TermTree) {k : Compare} {f : FormulaTree} {a rest : List ℕ} (l : Lexeme) → comparison_of l ≡ Some k
    → ReadsMade (λ u. tree.test k t u) Terms n a f rest → PredicateFrom n t (l, a) f rest
comparison_from n t (lexeme.keyword word.Says) q r = cc
comparison_from n t (lexeme.keyword word.SpeaksFor) q r = cc
comparison_from n t _ q r = (_, q, r)

predicate_inverted : {n : ℕ} {t : TermTree} {f : FormulaTree} {bytes rest : List ℕ} → ReadsPredicate n t bytes f rest → PredicateFrom n t (next_cut bytes) f rest
predicate_inverted (says lt c r) = rw c (lt, (_, r, refl))
predicate_inverted (speaks_for c r) = rw c (inl (_, r, refl))
predicate_inverted (speaks_for_on c r d s) = rw c (inr (_, _, _, _, r, d, s, refl))
predicate_inverted (comparison {l = l} c q r) = rw c (comparison_from _ _ l q (_, r, refl))

-- a predicate begins with `says`, `speaksfor` or a sign of comparison
abbrev pub begins_predicate : Lexeme → Bool
begins_predicate (lexeme.keyword word.Says) = true
begins_predicate (lexeme.keyword word.SpeaksFor) = true
begins_predicate lexeme.equal = true
begins_predicate lexeme.less = true
begins_predicate lexeme.at_most = true
begins_predicate _ = false

begins_by_comparison : (l : Lexeme) {c : Compare} → comparison_of l ≡ Some c → begins_predicate l ≡ true
begins_by_comparison lexeme.equal q = refl
begins_by_comparison lexeme.less q = refl
begins_by_comparison lexeme.at_most q = refl
begins_by_comparison (lexeme.keyword word.Says) q = cc
begins_by_comparison (lexeme.keyword word.SpeaksFor) q = cc
begins_by_comparison _ q = cc

pub predicate_begins : {n : ℕ} {t : TermTree} {f : FormulaTree} {bytes rest : List ℕ} → ReadsPredicate n t bytes f rest → begins_predicate (first_lexeme bytes) ≡ true
predicate_begins (says lt c r) = rw (first_lexeme, c) refl
predicate_begins (speaks_for c r) = rw (first_lexeme, c) refl
predicate_begins (speaks_for_on c r d s) = rw (first_lexeme, c) refl
predicate_begins (comparison {l = l} c q r) = rw (first_lexeme, c) (begins_by_comparison l q)

pub ends_by_predicate : (l : Lexeme) → begins_predicate l ≡ true → IsTrue (ends_term l)
ends_by_predicate lexeme.dot e = cc
ends_by_predicate _ e = refl

pub unended_by_predicate : (l : Lexeme) → begins_predicate l ≡ true → IsTrue (ends_unary l) → ⊥
unended_by_predicate (lexeme.keyword word.Says) b e = cc
unended_by_predicate (lexeme.keyword word.SpeaksFor) b e = cc
unended_by_predicate lexeme.equal b e = cc
unended_by_predicate lexeme.less b e = cc
unended_by_predicate lexeme.at_most b e = cc
unended_by_predicate _ b e = cc

-- the parts of a name are none
pub parts_of_name : {u t : TermTree} {p a rest : List ℕ} → ReadsParts u a t rest → t ≡ tree.name p → (u ≡ tree.name p) × (a ≡ rest)
parts_of_name grammar.done e = (e, refl)
parts_of_name (grammar.part c d r) e = let i = parts_of_name r e in let q = i.0 in cc

pub first_of_name : (l : Lexeme) {p : List ℕ} → first_term l ≡ Some (tree.name p) → l ≡ lexeme.name p
first_of_name (lexeme.name x) e = cc
first_of_name _ e = cc

-- a lexeme that is neither `says`, `speaksfor` nor a comparison begins no predicate
pub no_predicate : (l : Lexeme) → l ≢ lexeme.keyword word.Says → l ≢ lexeme.keyword word.SpeaksFor → None ≡ comparison_of l → begins_predicate l ≡ false
no_predicate (lexeme.keyword word.Says) a b c = absurd (a refl)
no_predicate (lexeme.keyword word.SpeaksFor) a b c = absurd (b refl)
no_predicate lexeme.equal a b c = cc
no_predicate lexeme.less a b c = cc
no_predicate lexeme.at_most a b c = cc
no_predicate _ a b c = refl

-- The arguments of an atom, and delegations

-- the whole list is one that goes on from no item
pub arguments_step : (before : List TermTree) (source : List ℕ) → before ≡ [] → Step anything (ReadsMore ReadsTerm before) Arguments level 0 source source
arguments_step before source e = rw e (record {
  front = [];
  begins = none;
  writable = tt;
  levels = same_level 0;
  to = λ bytes other m le b ts rest r. subst (λ x. ReadsList ReadsTerm 8 x ts rest) (sym (nothing_between b)) (rw r.2 r.1);
  from = λ bytes other m le b first ts rest r k. (ts, subst (λ x. ReadsList ReadsTerm 8 x ts rest) (nothing_between b) r, refl);
})

-- without a term there is no delegation
pub delegation_handed : (t : TermTree) (n : ℕ) → Handed ends_term ends_unary Terms (ReadsDelegation t) n
delegation_handed t n = record {
  nothing = λ bytes m le h. record {
    none = λ f rest d e. elim d [
      | inl i ↦ h.none i.0 rest i.1 (term_ends _ e)
      | inr i ↦ h.none i.0 i.2 i.4 (rw (first_lexeme, i.5) refl)
    ];
  };
  completes = λ tail. (tail, λ bytes m u le r. (tree.speaks_for t u, inl (u, r, refl)));
}

module _ (t : TermTree) (n : ℕ) (source : List ℕ) (u : TermTree) (rest : List ℕ) (term : ReadsHere ends_term Terms 0 source u rest) where
  -- without `on` a term ends a delegation
  pub delegation_ends : (l : Lexeme) → first_lexeme rest ≡ l → l ≢ lexeme.keyword word.On → ReadsHere ends_unary (ReadsDelegation t) n source (tree.speaks_for t u) rest
  delegation_ends l e not_on = record {
    tokens = term.tokens;
    begins = term.begins;
    writable = term.writable;
    reads = λ bytes other m le b. inl (u, term.reads bytes other 0 (omega arith) b, refl);
    only = λ bytes other m le b f.
        let o = term.only bytes other 0 (omega arith) b f in
        record {
          reads = inl (u, o.reads, refl);
          only = λ g tail d k. elim d [
            | inl i ↦ let p = o.only i.0 tail i.1 (term_ends _ k) in (i.2 ∙ ap (λ v. tree.speaks_for t v) p.0, p.1)
            | inr i ↦
                let p = o.only i.0 i.2 i.4 (rw (first_lexeme, i.5) refl) in
                absurd (not_on (sym e ∙ sym f ∙ subst (λ x. first_lexeme x ≡ lexeme.keyword word.On) p.1 (rw (first_lexeme, i.5) refl)))
          ];
        };
  }

  -- after `on` a scope
  pub delegation_on : (a : List ℕ) → next_cut rest ≡ (lexeme.keyword word.On, a) → Step ends_unary (ReadsMade (λ s. tree.speaks_for_on t u s) ReadsScope) (ReadsDelegation t) level n source a
  delegation_on a e = record {
    front = term.tokens ++ lexeme.keyword word.On ∷ [];
    begins = begins_append term.begins (next e none);
    writable = writable_append term.tokens (lexeme.keyword word.On ∷ []) term.writable (keyword_writable word.On, tt);
    levels = same_level n;
    to = λ bytes other m le b f tail r.
        let i = begins_split term.tokens b in
        inr (u, r.0, i.0, other, term.reads bytes i.0 0 (omega arith) i.1, one_token i.2, r.1, r.2);
    from = λ bytes other m le b first f tail d k.
        let i = begins_split term.tokens b in
        let o = term.only bytes i.0 0 (omega arith) i.1 (rw (first_lexeme, one_token i.2, e) refl) in
        elim d [
          | inl j ↦
              let p = o.only j.0 tail j.1 (term_ends _ k) in
              let k' = subst (λ x. IsTrue (ends_unary (first_lexeme x))) p.1 k in
              let k'' = rw (first_lexeme, one_token i.2) at k' in cc
          | inr j ↦
              let p = o.only j.0 j.2 j.4 (rw (first_lexeme, j.5) refl) in
              let c = subst (λ x. next_cut x ≡ (lexeme.keyword word.On, j.3)) p.1 j.5 in
              let q : j.3 ≡ other = same_rest c (one_token i.2) in
              (j.1, subst (λ x. ReadsScope m x j.1 tail) q j.6, j.7 ∙ ap (λ v. tree.speaks_for_on t v j.1) p.0)
        ];
  }

-- What follows a term

-- a comparison with some term can be written before any other text
pub rest_goes_on : (t : TermTree) (n : ℕ) (tail : List ℕ) → (bytes : List ℕ) × ReadsRest t n (32 ∷ bytes) (tree.test Equal t (tree.number 0)) (32 ∷ tail)
rest_goes_on t n tail =
    let u = term_goes_on tail in
    let e = comparison_writable lexeme.equal refl u.0 in
    (e.0, inl (comparison e.1 refl u.1))

-- in front of what ends it, what follows a term begins with what ends the term
rest_first : {t : TermTree} {n : ℕ} {bytes : List ℕ} {f : FormulaTree} {rest : List ℕ} → ReadsRest t n bytes f rest → IsTrue (ends_unary (first_lexeme rest)) → IsTrue (ends_term (first_lexeme bytes))
rest_first s e = elim s [ inl p ↦ ends_by_predicate _ (predicate_begins p) | inr i ↦ subst (λ x. IsTrue (ends_term (first_lexeme x))) i.3 (term_ends _ e) ]

module _ (t : TermTree) (n : ℕ) (source : List ℕ) where
  -- with the first token of a predicate in front, a predicate is read
  predicate_of : {m : ℕ} {bytes : List ℕ} {f : FormulaTree} {rest : List ℕ} (l : Lexeme) → first_lexeme bytes ≡ l → begins_predicate l ≡ true → ReadsRest t m bytes f rest → IsTrue (ends_unary (first_lexeme rest)) → ReadsPredicate m t bytes f rest
  predicate_of l first b s e = elim s [
    | inl p ↦ p
    | inr i ↦ absurd (unended_by_predicate l b (subst (λ x. IsTrue (ends_unary x)) (ap first_lexeme i.3 ∙ first) e))
  ]

  rest_from : {m : ℕ} {bytes other : List ℕ} {l : Lexeme} {f : FormulaTree} {rest : List ℕ} → next_cut bytes ≡ (l, other) → begins_predicate l ≡ true → ReadsRest t m bytes f rest → IsTrue (ends_unary (first_lexeme rest)) → PredicateFrom m t (l, other) f rest
  rest_from {l = l} c b s e = rw c at (predicate_inverted (predicate_of l (rw (first_lexeme, c) refl) b s e))

  pub rest_says : {a : List ℕ} → next_cut source ≡ (lexeme.keyword word.Says, a) → 0 < n → Step ends_unary (ReadsMade (λ f. tree.says t f) ReadsUnary) (ReadsRest t) below n source a
  rest_says e room = record {
    front = lexeme.keyword word.Says ∷ [];
    begins = next e none;
    writable = (keyword_writable word.Says, tt);
    levels = one_level n room;
    to = λ bytes other m le b f rest r. let lt : 0 < m = omega arith in inl (rw r.2 (says lt (one_token b) r.1));
    from = λ bytes other m le b first f rest r k. (rest_from (one_token b) refl r k).1;
  }

  pub rest_too_deep : first_lexeme source ≡ lexeme.keyword word.Says → (stop : Stop) → stop ≡ Refused TooDeep (length (after_blanks source)) → IsStopped ends_unary (ReadsRest t) 0 source stop
  rest_too_deep e stop is =
      stopped_deep ends_unary (ReadsRest t) 0 source [] source none tt (λ tail. let g = rest_goes_on t 0 tail in (g.0, 32 ∷ g.0, tree.test Equal t (tree.number 0), none, g.1)) (lexeme.keyword word.Says) e refl stop is
      (λ bytes other b f.
      let first : first_lexeme bytes ≡ lexeme.keyword word.Says = subst (λ x. first_lexeme x ≡ lexeme.keyword word.Says) (sym (nothing_between b)) f in
      record { none = λ g rest r k. let p = predicate_inverted (predicate_of (lexeme.keyword word.Says) first refl r k) in no_says (next_cut bytes) g rest first p })
      (λ tail.
      let u = unary_goes_on 0 tail in
      let s = keyword_writable word.Says u.0 in
      (1, s.0, 32 ∷ s.0, tree.says t tree.verum, omega arith, none, rw (first_lexeme, s.1) refl, inl (says (omega arith) s.1 u.1)))
    where
      no_says : (c : Cut) (g : FormulaTree) (rest : List ℕ) → c.0 ≡ lexeme.keyword word.Says → PredicateFrom 0 t c g rest → ⊥
      no_says (lexeme.keyword word.Says, a) g rest first p = omega (arith, p.0)
      no_says (lexeme.keyword word.SpeaksFor, a) g rest first p = cc
      no_says (l, a) g rest first p = cc

  pub rest_speaksfor : {a : List ℕ} → next_cut source ≡ (lexeme.keyword word.SpeaksFor, a) → Step ends_unary (ReadsDelegation t) (ReadsRest t) level n source a
  rest_speaksfor e = record {
    front = lexeme.keyword word.SpeaksFor ∷ [];
    begins = next e none;
    writable = (keyword_writable word.SpeaksFor, tt);
    levels = same_level n;
    to = λ bytes other m le b f rest d. elim d [
      | inl r ↦ inl (rw r.2 (speaks_for (one_token b) r.1))
      | inr r ↦ inl (rw r.7 (speaks_for_on (one_token b) r.4 r.5 r.6))
    ];
    from = λ bytes other m le b first f rest r k. rest_from (one_token b) refl r k;
  }

  compared_from : (m : ℕ) (l : Lexeme) {a : List ℕ} {c : Compare} → comparison_of l ≡ Some c → {f : FormulaTree} {other : List ℕ} → PredicateFrom m t (l, a) f other → ReadsMade (λ u. tree.test c t u) Terms m a f other
  compared_from m (lexeme.keyword word.Says) q p = cc
  compared_from m (lexeme.keyword word.SpeaksFor) q p = cc
  compared_from m l {a} {c} q {f} {other} p = let e : p.0 ≡ c = some_same p.1 q in subst (λ x. ReadsMade (λ u. tree.test x t u) Terms m a f other) e p.2
    where
      some_same : {o : Option Compare} {x y : Compare} → o ≡ Some x → o ≡ Some y → x ≡ y
      some_same d e = cc

  pub rest_compared : (l : Lexeme) {a : List ℕ} {c : Compare} → next_cut source ≡ (l, a) → comparison_of l ≡ Some c → Step ends_unary (ReadsMade (λ u. tree.test c t u) Terms) (ReadsRest t) level n source a
  rest_compared l e q = record {
    front = l ∷ [];
    begins = next e none;
    writable = (comparison_writable l q, tt);
    levels = same_level n;
    to = λ bytes other m le b f rest r. inl (rw r.2 (comparison (one_token b) q r.1));
    from = λ bytes other m le b first f rest r k. compared_from m l q (rest_from (one_token b) (begins_by_comparison l q) r k);
  }

  -- with no predicate in front, nothing follows a name
  pub rest_ends : (l : Lexeme) → first_lexeme source ≡ l → begins_predicate l ≡ false → (p : List ℕ) → t ≡ tree.name p → ReadsHere ends_unary (ReadsRest t) n source (tree.atom p []) source
  rest_ends l e no_predicate p is = record {
    tokens = [];
    begins = none;
    writable = tt;
    reads = λ bytes other m le b. inr (p, is, refl, sym (nothing_between b));
    only = λ bytes other m le b f. record {
      reads = inr (p, is, refl, sym (nothing_between b));
      only = λ g rest s k.
          let first : first_lexeme bytes ≡ l = ap first_lexeme (nothing_between b) ∙ f ∙ e in
          elim s [
            | inl r ↦ absurd (let h = predicate_begins r in apart (subst (λ x. begins_predicate x ≡ true) first h))
            | inr i ↦ (i.2 ∙ same_atom (sym i.1 ∙ is), i.3 ∙ nothing_between b)
          ];
    };
  }
    where
      apart : begins_predicate l ≡ true → ⊥
      apart h = cc

      same_atom : {x y : List ℕ} → tree.name x ≡ tree.name y → tree.atom x [] ≡ tree.atom y []
      same_atom q = cc

  -- with no predicate in front, nothing is read after another term
  pub rest_stuck : (l : Lexeme) → first_lexeme source ≡ l → begins_predicate l ≡ false → ((p : List ℕ) → t ≢ tree.name p) → (stop : Stop) → IsStopAt l source stop
      → IsStopped ends_unary (ReadsRest t) n source stop
  rest_stuck l e no_predicate not_name stop is =
      stopped ends_unary (ReadsRest t) n source [] source none tt (λ tail. let g = rest_goes_on t n tail in (g.0, 32 ∷ g.0, tree.test Equal t (tree.number 0), none, g.1)) l e stop is
      (λ bytes other m le b f.
      let first : first_lexeme bytes ≡ l = ap first_lexeme (nothing_between b) ∙ f in
      record {
        none = λ g rest s k. elim s [
          | inl r ↦ apart (subst (λ x. begins_predicate x ≡ true) first (predicate_begins r))
          | inr i ↦ not_name i.0 i.1
        ];
      })
    where
      apart : begins_predicate l ≡ true → ⊥
      apart h = cc

-- What follows the first token of a statement

pub continued_handed : (u : TermTree) (n : ℕ) → Handed ends_term ends_unary (Parts u) (ReadsContinued u) n
continued_handed u n = record {
  nothing = λ bytes m le h. record { none = λ f rest r e. h.none r.0 r.1 r.2 (rest_first r.3 e) };
  completes = λ tail.
      let z = term_goes_on tail in
      let g = comparison_writable lexeme.equal refl z.0 in
      (g.0, λ bytes m t le r. (tree.test Equal t (tree.number 0), (t, 32 ∷ g.0, r, inl (comparison g.1 refl z.1))));
}

-- after the parts of a term, what follows it
pub continued_step : (u : TermTree) (n : ℕ) (source : List ℕ) (t : TermTree) (mid : List ℕ) → ReadsHere ends_term (Parts u) 0 source t mid → Step ends_unary (ReadsRest t) (ReadsContinued u) level n source mid
continued_step u n source t mid parts = record {
  front = parts.tokens;
  begins = parts.begins;
  writable = parts.writable;
  levels = same_level n;
  to = λ bytes other m le b f rest r. (t, other, parts.reads bytes other 0 (omega arith) b, r);
  from = λ bytes other m le b first f rest r k.
      let o = (parts.only bytes other 0 (omega arith) b first).only r.0 r.1 r.2 (rest_first r.3 k) in
      subst (λ x. ReadsRest t m x f rest) o.1 (subst (λ x. ReadsRest x m r.1 f rest) o.0 r.3);
}

-- what does not go on begins no predicate
begins_none : (l : Lexeme) → goes_on l ≡ false → begins_predicate l ≡ false
begins_none (lexeme.keyword word.Says) f = cc
begins_none (lexeme.keyword word.SpeaksFor) f = cc
begins_none lexeme.equal f = cc
begins_none lexeme.less f = cc
begins_none lexeme.at_most f = cc
begins_none _ f = refl

-- with nothing behind it that goes on, a name is an atom
pub name_alone : (x : List ℕ) (n : ℕ) (source : List ℕ) (l : Lexeme) → first_lexeme source ≡ l → goes_on l ≡ false → ReadsHere ends_unary (ReadsContinued (tree.name x)) n source (tree.atom x []) source
name_alone x n source l e f =
    step_reads (continued_step (tree.name x) n source (tree.name x) source (parts_end (tree.name x) source l e (λ d. let h = rw d at f in cc)))
    (rest_ends (tree.name x) n source l e (begins_none l f) x refl)

-- a statement is its first token and what follows it
pub statement_continued : {m : ℕ} {bytes other : List ℕ} (l : Lexeme) {u : TermTree} {f : FormulaTree} {rest : List ℕ} → next_cut bytes ≡ (l, other) → first_term l ≡ Some u → ReadsStatement m bytes f rest → ReadsContinued u m other f rest
statement_continued {m} {bytes} {other} l {u} {f} {rest} e first (subject {t = t} {a = a} r p) =
    let i = ReadsTerm-inverted r in
    let g = rw e at i.1 in
    let h = rw e at i.2 in
    let q : i.0 ≡ u = cc in
    (t, a, subst (λ x. ReadsParts x other t a) q h, inl p)
statement_continued {m} {bytes} {other} l {u} {f} {rest} e first (atom {p = p} c) =
    let k : l ≡ lexeme.name p = same_lexeme e c in
    let g = rw k at first in
    let q : tree.name p ≡ u = cc in
    let s : other ≡ rest = same_rest e c in
    (u, other, grammar.done, inr (p, sym q, refl, sym s))

pub continued_statement : {m : ℕ} {bytes other : List ℕ} (l : Lexeme) {u : TermTree} {f : FormulaTree} {rest : List ℕ} → next_cut bytes ≡ (l, other) → first_term l ≡ Some u → ReadsContinued u m other f rest → ReadsStatement m bytes f rest
continued_statement {m} {bytes} {other} l {u} {f} {rest} e first r = elim r.3 [
  | inl p ↦ subject (ReadsTerm-made l e first r.2) p
  | inr i ↦
      let j = parts_of_name r.2 i.1 in
      let k : l ≡ lexeme.name i.0 = first_of_name l (first ∙ ap (λ x. Some x) j.0) in
      subst (λ g. ReadsStatement m bytes g rest) (sym i.2) (atom (e ∙ ap (λ (x : Lexeme). (x, other)) k ∙ ap (λ y. (lexeme.name i.0, y)) (j.1 ∙ sym i.3)))
]
