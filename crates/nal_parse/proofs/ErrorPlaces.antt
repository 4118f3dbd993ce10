-- Where and how a text is wrong, from where and how its reader stopped.
use Rattle.std.proofs.Common.{◌≡◌, ◌≢◌, ◌≤◌, ◌+◌, ◌-◌, ◌++◌, ◌∷◌, ◌⊎◌, inl, inr, ℕ, List, [], length, drop, take, nat_lt, Bool, true, false, ◌&&◌, ◌==◌, IsTrue, if◌then◌else◌, refl, sym, ap, subst, ◌∙◌, arith}
use Rattle.nal_term.specs.Names.{is_letter, is_digit, is_text}
use Rattle.nal_term.specs.Trees.{FormulaTree, TermTree}
use Rattle.nal_parse.specs.declared.parse.ParseError.{ParseError}
use Rattle.nal_parse.specs.declared.parse.ParseError.TheVariants as parse
use Rattle.nal_parse.specs.declared.stops.Stop.{Stop}
use Rattle.nal_parse.specs.declared.stops.Stop.TheVariants.{Refused, Memory}
use Rattle.nal_parse.specs.declared.stops.Found.{Found}
use Rattle.nal_parse.specs.declared.stops.Found.TheVariants.{Unexpected, TooDeep, BadNumber, BadName, BadText}
use Rattle.nal_parse.specs.Tokens.{Lexeme, Cut, next_cut, cut, cut_quoted, cut_sign, after_blanks, run_length, word_lexeme, number_lexeme, variable_lexeme, quoted_length}
use Rattle.nal_parse.specs.Tokens as lexeme
use Rattle.nal_parse.specs.Grammar.{ReadsFormula, quantified, unquantified, ReadsImplication, no_arrow, arrow, ReadsDisjunction, disjuncts, ReadsOrs, no_or, or, ReadsConjunction, conjuncts, ReadsAnds, no_and, and, ReadsUnary, not, verum, falsum, group, atom_of, statement, ReadsStatement, subject, atom, ReadsPredicate, says, speaks_for, speaks_for_on, comparison, ReadsScope, one, several}
use Rattle.nal_parse.specs.Errors.{BeginsWith, none, next, IsViable, IsErrorOf, IsErrorAtToken}
use Rattle.nal_parse.specs.Inner.Reading.{Readings, ReadsHere, StopsHere, IsStopAt, IsFound, error_of, first_lexeme, is_malformed}
use Rattle.std.specs.List.{prefix_len}
use Rattle.std.proofs.lemmas.List.{length-drop}
use Rattle.nal_parse.specs.Tokens.{is_blank}
use Rattle.nal_parse.proofs.Readings.{begins_append, begins_split, one_token, written}
use Rattle.nal_parse.proofs.Written.{nothing_left as ends_here, after_space}

-- What is read with some levels is read with more

scope_more : {n m : ℕ} {bytes : List ℕ} {s : List (List ℕ)} {rest : List ℕ} → n ≤ m → ReadsScope n bytes s rest → ReadsScope m bytes s rest
scope_more le (one c) = one c
scope_more le (several lt c r) = several (omega arith) c r

mutual
  pub formula_more : {n m : ℕ} {bytes : List ℕ} {f : FormulaTree} {rest : List ℕ} → n ≤ m → ReadsFormula n bytes f rest → ReadsFormula m bytes f rest
  formula_more le (quantified lt c e v w r) = quantified (omega arith) c e v w (formula_more (omega arith) r)
  formula_more le (unquantified i) = unquantified (implication_more le i)

  implication_more : {n m : ℕ} {bytes : List ℕ} {f : FormulaTree} {rest : List ℕ} → n ≤ m → ReadsImplication n bytes f rest → ReadsImplication m bytes f rest
  implication_more le (no_arrow d) = no_arrow (disjunction_more le d)
  implication_more le (arrow lt d c r) = arrow (omega arith) (disjunction_more le d) c (formula_more (omega arith) r)

  disjunction_more : {n m : ℕ} {bytes : List ℕ} {f : FormulaTree} {rest : List ℕ} → n ≤ m → ReadsDisjunction n bytes f rest → ReadsDisjunction m bytes f rest
  disjunction_more le (disjuncts u r) = disjuncts (conjunction_more le u) (ors_more le r)

  ors_more : {n m : ℕ} {f g : FormulaTree} {bytes rest : List ℕ} → n ≤ m → ReadsOrs n f bytes g rest → ReadsOrs m f bytes g rest
  ors_more le no_or = no_or
  ors_more le (or c u r) = or c (conjunction_more le u) (ors_more le r)

  conjunction_more : {n m : ℕ} {bytes : List ℕ} {f : FormulaTree} {rest : List ℕ} → n ≤ m → ReadsConjunction n bytes f rest → ReadsConjunction m bytes f rest
  conjunction_more le (conjuncts u r) = conjuncts (unary_more le u) (ands_more le r)

  ands_more : {n m : ℕ} {f g : FormulaTree} {bytes rest : List ℕ} → n ≤ m → ReadsAnds n f bytes g rest → ReadsAnds m f bytes g rest
  ands_more le no_and = no_and
  ands_more le (and c u r) = and c (unary_more le u) (ands_more le r)

  unary_more : {n m : ℕ} {bytes : List ℕ} {f : FormulaTree} {rest : List ℕ} → n ≤ m → ReadsUnary n bytes f rest → ReadsUnary m bytes f rest
  unary_more le (not lt c r) = not (omega arith) c (unary_more (omega arith) r)
  unary_more le (verum c) = verum c
  unary_more le (falsum c) = falsum c
  unary_more le (group lt c r d) = group (omega arith) c (formula_more (omega arith) r) d
  unary_more le (atom_of lt c d r) = atom_of (omega arith) c d r
  unary_more le (statement s) = statement (statement_more le s)

  statement_more : {n m : ℕ} {bytes : List ℕ} {f : FormulaTree} {rest : List ℕ} → n ≤ m → ReadsStatement n bytes f rest → ReadsStatement m bytes f rest
  statement_more le (subject t p) = subject t (predicate_more le p)
  statement_more le (atom c) = atom c

  predicate_more : {n m : ℕ} {t : TermTree} {bytes : List ℕ} {f : FormulaTree} {rest : List ℕ} → n ≤ m → ReadsPredicate n t bytes f rest → ReadsPredicate m t bytes f rest
  predicate_more le (says lt c r) = says (omega arith) c (unary_more (omega arith) r)
  predicate_more le (speaks_for c r) = speaks_for c r
  predicate_more le (speaks_for_on c r d s) = speaks_for_on c r d (scope_more le s)
  predicate_more le (comparison c q r) = comparison c q r

-- A token leaves at most the text

pick : (t : Bool) (x y : Cut) (n : ℕ) → length x.1 ≤ n → length y.1 ≤ n → length (if t then x else y).1 ≤ n
pick true x y n h k = h
pick false x y n h k = k

sign_bound : (b : ℕ) (bs : List ℕ) → length (cut_sign b bs).1 ≤ length bs
sign_bound b bs = grind (arith, length-drop 1 bs)

word_bound : (b n : ℕ) (bs : List ℕ) → length (drop n (b ∷ bs)) ≤ length (b ∷ bs)
word_bound b n bs = omega (arith, length-drop n (b ∷ bs))

variable_bound : (b n : ℕ) (bs : List ℕ) → length (drop n bs) ≤ length (b ∷ bs)
variable_bound b n bs = omega (arith, length-drop n bs)

quoted_bound : (b : ℕ) (bs : List ℕ) → length (cut_quoted bs).1 ≤ length (b ∷ bs)
quoted_bound b bs = pick (nat_lt (quoted_length bs) (length bs) && is_text (take (quoted_length bs) bs)) _ _ _ (variable_bound b (quoted_length bs + 1) bs) (omega arith)

cut_bound : (bs : List ℕ) → length (cut bs).1 ≤ length bs
cut_bound [] = omega arith
cut_bound (b ∷ bs) =
    pick (is_letter b) _ _ _ (word_bound b (run_length (b ∷ bs)) bs)
    (pick (is_digit b) _ _ _ (word_bound b (run_length (b ∷ bs)) bs)
    (pick (b == 63) _ _ _ (variable_bound b (run_length bs) bs)
    (pick (b == 34) _ _ _ (quoted_bound b bs) (omega (arith, sign_bound b bs)))))

next_bound : (bs : List ℕ) → length (next_cut bs).1 ≤ length bs
unfolding next_cut
next_bound bs = omega (arith, cut_bound (after_blanks bs), length-drop (prefix_len is_blank bs) bs)

begins_bound : {a b : List ℕ} {xs : List Lexeme} → BeginsWith a xs b → length b ≤ length a
begins_bound none = omega arith
begins_bound (next {bytes = p} {a = q} e h) = omega (arith, begins_bound h, next_bound p, ap (λ (c : Cut). length c.1) e)

blanks_bound : (bs : List ℕ) → length (after_blanks bs) ≤ length bs
blanks_bound bs = omega (arith, length-drop (prefix_len is_blank bs) bs)

-- The error of a token that is not malformed, and of one that is

fine_error : (l : Lexeme) (Deeper : Type 0) (place : ℕ) (e : ParseError) → is_malformed l ≡ false → ((e ≡ parse.TooDeep place) × Deeper) ⊎ ((e ≡ parse.Unexpected place) × ¬ Deeper) → IsErrorOf l Deeper place e
fine_error lexeme.bad_name Deeper place e h k = cc
fine_error lexeme.bad_number Deeper place e h k = cc
fine_error lexeme.bad_text Deeper place e h k = cc
fine_error _ Deeper place e h k = k

module _ {A : Type 0} (ends : Lexeme → Bool) (R : Readings A) (by_end : IsTrue (ends lexeme.end))
    (more : (n m : ℕ) (bytes : List ℕ) (a : A) (rest : List ℕ) → n ≤ m → R n bytes a rest → R m bytes a rest) where
  -- the whole text spells something
  abbrev pub Whole : ℕ → List ℕ → Type 0
  Whole n bytes = (a : A) × ((rest : List ℕ) × R n bytes a rest × ((next_cut rest).0 ≡ lexeme.end))

  -- with the token behind these, no whole text is read with any number of levels from n on
  abbrev Stuck : ℕ → List Lexeme → Lexeme → Type 0
  Stuck n tokens l = (m : ℕ) → n ≤ m → ¬ IsViable (Whole m) (tokens ++ l ∷ [])

  never_viable : (tokens : List Lexeme) (l : Lexeme) → Stuck 64 tokens l → ¬ ((n : ℕ) × IsViable (Whole n) (tokens ++ l ∷ []))
  never_viable tokens l stuck w =
      let v = w.1 in
      stuck (w.0 + 64) (omega arith) (v.0, v.1, v.2, (v.3.0, (v.3.1.0, more w.0 (w.0 + 64) v.0 v.3.0 v.3.1.0 (omega arith) v.3.1.1, v.3.1.2)))

  found_error : (found : Found) (left size : ℕ) (l : Lexeme) (Deeper : Type 0) (e : ParseError) → IsFound found l → e ≡ error_of (Refused found left) size → (found ≡ TooDeep → Deeper) → (found ≡ Unexpected → ¬ Deeper)
      → IsErrorOf l Deeper (size - left) e
  found_error Unexpected left size l Deeper e kind is deep flat = fine_error l Deeper (size - left) e kind (inr (is, flat refl))
  found_error TooDeep left size l Deeper e kind is deep flat = fine_error l Deeper (size - left) e kind (inl (is, deep refl))
  found_error BadNumber left size l Deeper e kind is deep flat = subst (λ x. IsErrorOf x Deeper (size - left) e) (sym kind) is
  found_error BadName left size l Deeper e kind is deep flat = subst (λ x. IsErrorOf x Deeper (size - left) e) (sym kind) is
  found_error BadText left size l Deeper e kind is deep flat = subst (λ x. IsErrorOf x Deeper (size - left) e) (sym kind) is

  module _ (source : List ℕ) (found : Found) (left : ℕ) (r : StopsHere ends R 64 source found left) where
    stopped_stuck : (m : ℕ) → 64 ≤ m → (found ≡ TooDeep → m ≡ 64) → ¬ IsViable (Whole m) (r.tokens ++ first_lexeme r.stop ∷ [])
    stopped_stuck m le deep v =
        let i = begins_split r.tokens v.2 in
        (r.refuses v.0 i.0 m le deep i.1 (rw (first_lexeme, one_token i.2) refl)).none v.3.0 v.3.1.0 v.3.1.1 (subst (λ x. IsTrue (ends x)) (sym v.3.1.2) by_end)

    -- a stop is the error at its token
    pub stop_error : (e : ParseError) → e ≡ error_of (Refused found left) (length source) → IsErrorAtToken Whole source e
    stop_error e is = record {
      before = r.tokens;
      token = first_lexeme r.stop;
      place = length source - left;
      stop = r.stop;
      begins = r.begins;
      first = refl;
      stands = omega (arith, r.place, begins_bound r.begins, blanks_bound r.stop);
      viable = let g = r.goes_on [] in (32 ∷ g.0, g.1, g.3, (g.2, (32 ∷ [], g.4, ap (λ (c : Cut). c.0) (after_space []) ∙ ends_here)));
      stuck = stopped_stuck 64 (omega arith) (λ t. refl);
      kind = found_error found left (length source) (first_lexeme r.stop) _ e r.kind is
          (λ t.
          let g = r.deeper t [] in
          let c : next_cut g.2 ≡ (first_lexeme r.stop, (next_cut g.2).1) = ap (λ (x : Lexeme). (x, (next_cut g.2).1)) g.6 in
          (g.0, (32 ∷ g.1, (next_cut g.2).1, begins_append g.5 (next c none), (g.3, (32 ∷ [], g.7, ap (λ (c : Cut). c.0) (after_space []) ∙ ends_here)))))
          (λ t. never_viable r.tokens (first_lexeme r.stop) (λ m le. stopped_stuck m le (λ d. absurd (let q = sym t ∙ d in cc))));
    }

    -- a text at which a reader stops spells nothing
    pub stop_refuses : (a : A) → ((rest : List ℕ) × R 64 source a rest × ((next_cut rest).0 ≡ lexeme.end)) → ⊥
    stop_refuses a w = (r.refuses source r.stop 64 (omega arith) (λ t. refl) r.begins refl).none a w.0 w.1 (subst (λ x. IsTrue (ends x)) (sym w.2) by_end)

  module _ (source : List ℕ) (a : A) (rest : List ℕ) (r : ReadsHere ends R 64 source a rest) where
    -- what is read up to the end is the only reading
    pub read_only : (next_cut rest).0 ≡ lexeme.end → (b : A) → ((other : List ℕ) × R 64 source b other × ((next_cut other).0 ≡ lexeme.end)) → b ≡ a
    read_only e b w = ((r.only source rest 64 (omega arith) r.begins refl).only b w.0 w.1 (subst (λ x. IsTrue (ends x)) (sym w.2) by_end)).0

    pub read_whole : (next_cut rest).0 ≡ lexeme.end → (other : List ℕ) × R 64 source a other × ((next_cut other).0 ≡ lexeme.end)
    read_whole e = (rest, r.reads source rest 64 (omega arith) r.begins, e)

    module _ (l : Lexeme) (first : first_lexeme rest ≡ l) (not_end : l ≢ lexeme.end) where
      trailing_stuck : (m : ℕ) → 64 ≤ m → ¬ IsViable (Whole m) (r.tokens ++ l ∷ [])
      trailing_stuck m le v =
          let i = begins_split r.tokens v.2 in
          let o = (r.only v.0 i.0 m le i.1 (rw (first_lexeme, one_token i.2) (sym first))).only v.3.0 v.3.1.0 v.3.1.1 (subst (λ x. IsTrue (ends x)) (sym v.3.1.2) by_end) in
          not_end (sym (rw (first_lexeme, one_token i.2) refl) ∙ ap first_lexeme (sym o.1) ∙ v.3.1.2)

      -- a token behind what is read is the error
      pub trailing_error : (stop : Stop) → IsStopAt l rest stop → (e : ParseError) → e ≡ error_of stop (length source) → IsErrorAtToken Whole source e
      trailing_error stop at e is = record {
        before = r.tokens;
        token = l;
        place = length source - length (after_blanks rest);
        stop = rest;
        begins = r.begins;
        first = first;
        stands = omega (arith, begins_bound r.begins, blanks_bound rest);
        viable = let w = written r.tokens r.writable [] in (32 ∷ w.0, 32 ∷ [], w.1, (a, (32 ∷ [], r.reads (32 ∷ w.0) (32 ∷ []) 64 (omega arith) w.1, ap (λ (c : Cut). c.0) (after_space []) ∙ ends_here)));
        stuck = trailing_stuck 64 (omega arith);
        kind = found_error at.0 (length (after_blanks rest)) (length source) l _ e at.1 (is ∙ ap (λ s. error_of s (length source)) at.3) (λ t. absurd (at.2 t)) (λ t. never_viable r.tokens l trailing_stuck);
      }

      pub trailing_refuses : (b : A) → ((other : List ℕ) × R 64 source b other × ((next_cut other).0 ≡ lexeme.end)) → ⊥
      trailing_refuses b w =
          let o = (r.only source rest 64 (omega arith) r.begins refl).only b w.0 w.1 (subst (λ x. IsTrue (ends x)) (sym w.2) by_end) in
          not_end (sym first ∙ ap first_lexeme (sym o.1) ∙ w.2)

-- a reader that stops for no want of memory stopped at a token
pub refused_of : (stop : Stop) (size : ℕ) (e : ParseError) → e ≡ error_of stop size → e ≢ parse.Memory → (found : Found) × (left : ℕ) × (stop ≡ Refused found left)
refused_of (Refused found left) size e is told = (found, left, refl)
refused_of Memory size e is told = absurd (told is)
