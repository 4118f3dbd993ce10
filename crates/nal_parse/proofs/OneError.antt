-- A text that is refused has one error.
use Rattle.std.proofs.Common.{◌≡◌, ◌<◌, ◌≤◌, ◌++◌, ◌⊎◌, inl, inr, arith, sym, ap, refl, subst, ◌∙◌, ℕ, List, [], ◌∷◌, length}
use Rattle.std.proofs.lemmas.List.{append_assoc, append-nil}
use Rattle.nal_term.specs.Trees.{FormulaTree}
use Rattle.nal_parse.specs.declared.parse.ParseError.{ParseError}
use Rattle.nal_parse.specs.declared.parse.ParseError.TheVariants.{TooLong, TooDeep}
use Rattle.nal_parse.specs.Tokens.{Lexeme, next_cut, after_blanks}
use Rattle.nal_parse.specs.Tokens as lexeme
use Rattle.nal_parse.specs.Canonical.{FormulaFits, formula_text, formula_levels}
use Rattle.nal_parse.specs.Errors.{BeginsWith, none, next, IsViable, SpellsSome, SpellsSomeTerm, IsErrorOf, IsErrorAtToken}
use Rattle.nal_parse.specs.Laws.{OneFormulaError, NoFormulaWithError, OneTermError, NoTermWithError}
use Rattle.nal_parse.proofs.OneSpelling.{one_formula_spelled, one_term_spelled}
use Rattle.nal_parse.proofs.Readings.{begins_append, begins_split}
use Rattle.nal_parse.proofs.TokenLexemes.{same_lexeme, same_rest}

-- of two lists of tokens with which a text begins one goes on where the other ends
abbrev GoesOn : List Lexeme → List ℕ → List Lexeme → List ℕ → Type 0
GoesOn xs r ys s = (zs : List Lexeme) × (ys ≡ xs ++ zs) × BeginsWith r zs s

begins_both : (xs ys : List Lexeme) (bytes r s : List ℕ) → BeginsWith bytes xs r → BeginsWith bytes ys s → GoesOn xs r ys s ⊎ GoesOn ys s xs r
begins_both [] ys bytes _ s none k = inl (ys, refl, k)
begins_both (x ∷ xs) [] bytes r _ h none = inr (x ∷ xs, refl, h)
begins_both (x ∷ xs) (y ∷ ys) bytes r s (next {a = a} e h) (next {a = b} f k) =
    let l : x ≡ y = same_lexeme e f in
    first l (begins_both xs ys a r s h (rw (← same_rest e f) at k))
  where
    first : x ≡ y → GoesOn xs r ys s ⊎ GoesOn ys s xs r → GoesOn (x ∷ xs) r (y ∷ ys) s ⊎ GoesOn (y ∷ ys) s (x ∷ xs) r
    first l (inl (zs, i, j)) = inl (zs, rw (l, i) refl, j)
    first l (inr (zs, i, j)) = inr (zs, rw (l, i) refl, j)

-- the tokens at the front of a viable list are viable
viable_front : (Spelling : List ℕ → Type 0) (xs ys : List Lexeme) → IsViable Spelling (xs ++ ys) → IsViable Spelling xs
viable_front Spelling xs ys (bytes, rest, h, spelled) = let i = begins_split xs h in (bytes, i.0, i.1, spelled)

none_between : {r s : List ℕ} → BeginsWith r [] s → r ≡ s
none_between none = refl

-- the limit that the canonical text of a formula breaks, and the error
abbrev IsLimit : List ℕ → FormulaTree → ParseError → Type 0
IsLimit text f error =
    ((1024 < length (formula_text f)) × (error ≡ TooLong)) ⊎ ((length (formula_text f) ≤ 1024) × (64 < formula_levels f) × (error ≡ TooDeep (length text)))

-- what goes on behind the tokens before an error is not viable
longer_is_stuck : (Spelling : ℕ → List ℕ → Type 0) (text : List ℕ) (e : ParseError) (a : IsErrorAtToken Spelling text e) (ys : List Lexeme) (s : List ℕ) (x : Lexeme) (xs : List Lexeme)
    → ys ≡ a.before ++ x ∷ xs → BeginsWith a.stop (x ∷ xs) s → ¬ IsViable (Spelling 64) ys
longer_is_stuck Spelling text e a ys s x xs i (next c h) v =
    let token : x ≡ a.token = sym (ap (λ (p : Lexeme × List ℕ). p.0) c) ∙ a.first in
    let whole : ys ≡ (a.before ++ a.token ∷ []) ++ xs = i ∙ ap (λ z. a.before ++ z ∷ xs) token ∙ sym (append_assoc a.before (a.token ∷ []) xs) in
    a.stuck (viable_front (Spelling 64) (a.before ++ a.token ∷ []) xs (subst (IsViable (Spelling 64)) whole v))

-- a token at a place has one error
kind_one : (l : Lexeme) (GoesOnDeeper : Type 0) (place : ℕ) (e f : ParseError) → IsErrorOf l GoesOnDeeper place e → IsErrorOf l GoesOnDeeper place f → e ≡ f
kind_one lexeme.bad_name P place e f a b = a ∙ sym b
kind_one lexeme.bad_number P place e f a b = a ∙ sym b
kind_one lexeme.bad_text P place e f a b = a ∙ sym b
kind_one _ P place e f (inl a) (inl b) = a.0 ∙ sym b.0
kind_one _ P place e f (inl a) (inr b) = absurd (b.1 a.1)
kind_one _ P place e f (inr a) (inl b) = absurd (a.1 b.1)
kind_one _ P place e f (inr a) (inr b) = a.0 ∙ sym b.0

-- the errors at two tokens behind the same ones are one
same_place : (Spelling : ℕ → List ℕ → Type 0) (text : List ℕ) (e f : ParseError) (a : IsErrorAtToken Spelling text e) (b : IsErrorAtToken Spelling text f)
    → b.before ≡ a.before → a.stop ≡ b.stop → e ≡ f
same_place Spelling text e f a b same stop =
    let token : b.token ≡ a.token = sym b.first ∙ ap (λ z. (next_cut z).0) (sym stop) ∙ a.first in
    let left = ap (λ z. length (after_blanks z)) stop in
    let place : b.place ≡ a.place = omega (arith, a.stands, b.stands, left) in
    kind_one a.token _ a.place e f a.kind (rw (same, token, place) at b.kind)

error_one : (Spelling : ℕ → List ℕ → Type 0) (text : List ℕ) (e f : ParseError) (a : IsErrorAtToken Spelling text e) (b : IsErrorAtToken Spelling text f) → e ≡ f
error_one Spelling text e f a b = meet (begins_both a.before b.before text a.stop b.stop a.begins b.begins)
  where
    meet : GoesOn a.before a.stop b.before b.stop ⊎ GoesOn b.before b.stop a.before a.stop → e ≡ f
    meet (inl (x ∷ xs, i, k)) = absurd (longer_is_stuck Spelling text e a b.before b.stop x xs i k b.viable)
    meet (inr (x ∷ xs, i, k)) = absurd (longer_is_stuck Spelling text f b a.before a.stop x xs i k a.viable)
    meet (inl ([], i, k)) = same_place Spelling text e f a b (i ∙ append-nil a.before) (none_between k)
    meet (inr ([], i, k)) = sym (same_place Spelling text f e b a (i ∙ append-nil b.before) (none_between k))

-- a spelling has no token that is wrong
none_wrong : (Spelling : ℕ → List ℕ → Type 0) (text : List ℕ) (e : ParseError) → IsErrorAtToken Spelling text e → ¬ Spelling 64 text
none_wrong Spelling text e a spelled = a.stuck (text, (next_cut a.stop).1, begins_append a.begins (next (rw (← a.first) refl) none), spelled)

pub one_formula_error : OneFormulaError
one_formula_error text e f (inl a) (inl b) = a.1 ∙ sym b.1
one_formula_error text e f (inl a) (inr b) = absurd (omega (arith, a.0, b.0))
one_formula_error text e f (inr a) (inl b) = absurd (omega (arith, a.0, b.0))
one_formula_error text e f (inr (le, inl a)) (inr (le2, inl b)) = error_one SpellsSome text e f a b
one_formula_error text e f (inr (le, inl a)) (inr (le2, inr (g, s, k))) = absurd (none_wrong SpellsSome text e a (g, s))
one_formula_error text e f (inr (le, inr (g, s, k))) (inr (le2, inl b)) = absurd (none_wrong SpellsSome text f b (g, s))
one_formula_error text e f (inr (le, inr (g, s, k))) (inr (le2, inr (h, t, l))) = limits (rw (← one_formula_spelled 64 text g h s t) at l) k
  where
    limits : IsLimit text g f → IsLimit text g e → e ≡ f
    limits (inl a) (inl b) = b.1 ∙ sym a.1
    limits (inl a) (inr b) = absurd (omega (arith, a.0, b.0))
    limits (inr a) (inl b) = absurd (omega (arith, a.0, b.0))
    limits (inr a) (inr b) = b.2 ∙ sym a.2

pub no_formula_with_error : NoFormulaWithError
no_formula_with_error text e f (inl a) r = omega (arith, a.0, r.length_limit)
no_formula_with_error text e f (inr (le, inl a)) r = none_wrong SpellsSome text e a (f, r.spelled)
no_formula_with_error text e f (inr (le, inr (g, s, k))) r = broken (rw (← one_formula_spelled 64 text g f s r.spelled) at r.fits) k
  where
    broken : FormulaFits g → IsLimit text g e → ⊥
    broken fits (inl a) = omega (arith, a.0, fits.length_limit)
    broken fits (inr a) = omega (arith, a.1, fits.level_limit)

pub one_term_error : OneTermError
one_term_error text e f (inl a) (inl b) = a.1 ∙ sym b.1
one_term_error text e f (inl a) (inr b) = absurd (omega (arith, a.0, b.0))
one_term_error text e f (inr a) (inl b) = absurd (omega (arith, a.0, b.0))
one_term_error text e f (inr (le, inl a)) (inr (le2, inl b)) = error_one SpellsSomeTerm text e f a b
one_term_error text e f (inr (le, inl a)) (inr (le2, inr (g, s, k, m))) = absurd (none_wrong SpellsSomeTerm text e a (g, s))
one_term_error text e f (inr (le, inr (g, s, k, m))) (inr (le2, inl b)) = absurd (none_wrong SpellsSomeTerm text f b (g, s))
one_term_error text e f (inr (le, inr (g, s, k, m))) (inr (le2, inr (h, t, l, q))) = m ∙ sym q

pub no_term_with_error : NoTermWithError
no_term_with_error text e f (inl a) r = omega (arith, a.0, r.length_limit)
no_term_with_error text e f (inr (le, inl a)) r = none_wrong SpellsSomeTerm text e a (f, r.spelled)
no_term_with_error text e f (inr (le, inr (g, s, k, m))) r =
    let same = one_term_spelled text g f s r.spelled in
    let long = rw same at k in omega (arith, long, r.fits)
