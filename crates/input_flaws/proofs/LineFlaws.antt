-- Lines by their numbers, and flaws word by word.
use Rattle.std.proofs.Common.{◌≡◌, ◌≢◌, ◌<◌, ◌≤◌, ◌+◌, ◌-◌, ◌↔◌, ◌⊎◌, inl, inr, ℕ, List, [], ◌++◌, length, drop, get_or, map, Bor, refl, subst, sym, ap, ◌∙◌, arith}
use Rattle.std.proofs.lemmas.List.{append_cancel_left, at_drop_all, drop_more, length-append}
use Rattle.nal_term.specs.Trees.{FormulaTree, TermTree}
use Rattle.nal_parse.specs.Tokens.{Lexeme}
use Rattle.nal_parse.specs.Tokens as lexeme
use Rattle.nal_parse.specs.Grammar.{IsFormulaText, IsTermText}
use Rattle.nal_parse.specs.Errors.{IsErrorAtToken, IsErrorOf, IsFormulaError, IsTermError}
use Rattle.nal_parse.specs.declared.parse.ParseError.{ParseError}
use Rattle.text_lines.specs.Lines.{first_line, after_line}
use Rattle.run_streams.specs.Flaws.{FlawTree}
use Rattle.input_flaws.specs.LineFlaws.{IsLineFlaw, IsLineOf, error_place, first, formula_flaw, later, line_flaw}
use Rattle.input_flaws.specs.LineFlaws.IsLineFlaw.{formula, no_word, right_formula, right_term, term}
use Rattle.input_flaws.specs.Inner.Flaws.{IsFormulaBehind, IsFormulaErrorBehind, IsTermBehind, IsTermErrorBehind}

-- a line of a text is its first, or a line of what follows that
abbrev pub IsFirstOrLater : List ℕ → ℕ → List ℕ → Type 0
IsFirstOrLater text k line = ((k ≡ 1) × (line ≡ first_line text)) ⊎ ((j : ℕ) × (k ≡ j + 1) × IsLineOf (after_line text) j line)

pub first_or_later : {text line : List ℕ} {k : ℕ} → IsLineOf text k line → (text ≢ []) × IsFirstOrLater text k line
first_or_later (first some) = (some, inl (refl, refl))
first_or_later (later {k = j} some l) = (some, inr (j, refl, l))

pub positive : {text line : List ℕ} {k : ℕ} → IsLineOf text k line → 0 < k
positive (first some) = omega arith
positive (later some l) = omega arith

pub no_line_0 : (text line : List ℕ) → IsLineOf text 0 line → ⊥
no_line_0 text line l = let p = positive l in omega arith

pub no_line_of_none : (k : ℕ) (line : List ℕ) → IsLineOf [] k line → ⊥
no_line_of_none k line l = (first_or_later l).0 refl

pub line_further : (text : List ℕ) (k : ℕ) → text ≢ [] → 1 < k → (line : List ℕ) → IsLineOf (after_line text) (k - 1) line ↔ IsLineOf text k line
line_further text k some h line = (on, back)
  where
    on : IsLineOf (after_line text) (k - 1) line → IsLineOf text k line
    on l = let e : k - 1 + 1 ≡ k = omega arith in subst (λ n. IsLineOf text n line) e (later some l)

    by : IsFirstOrLater text k line → IsLineOf (after_line text) (k - 1) line
    by (inl e) = absurd (let f = e.0 in omega (arith, f))
    by (inr l) = let e = l.1 in let f : l.0 ≡ k - 1 = omega (arith, e) in subst (λ n. IsLineOf (after_line text) n line) f l.2

    back : IsLineOf text k line → IsLineOf (after_line text) (k - 1) line
    back l = by (first_or_later l).1

-- ---- What stands behind a word

-- a text that is a formula's is the one that stands there, and so is one that is a term's
pub formula_behind : (word text line : List ℕ) (f : FormulaTree) → line ≡ word ++ text → IsFormulaText text f → IsFormulaBehind word line
formula_behind word text line f e spelled other o = (f, subst (λ t. IsFormulaText t f) (append_cancel_left word text other (sym e ∙ o)) spelled)

pub term_behind : (word text line : List ℕ) (t : TermTree) → line ≡ word ++ text → IsTermText text t → IsTermBehind word line
term_behind word text line t e spelled other o = (t, subst (λ u. IsTermText u t) (append_cancel_left word text other (sym e ∙ o)) spelled)

-- what is wrong with a formula or a term stands in its text, or at the text's end
at_token : (l : Lexeme) (Deeper : Type 0) (place : ℕ) (e : ParseError) → IsErrorOf l Deeper place e → error_place e ≡ place
at_token lexeme.bad_name Deeper place e k = ap error_place k
at_token lexeme.bad_number Deeper place e k = ap error_place k
at_token lexeme.bad_text Deeper place e k = ap error_place k
at_token _ Deeper place e (inl k) = ap error_place k.0
at_token _ Deeper place e (inr k) = ap error_place k.0

token_within : (Spelling : ℕ → List ℕ → Type 0) (text : List ℕ) (e : ParseError) → IsErrorAtToken Spelling text e → error_place e ≤ length text
token_within Spelling text e token = let f = at_token token.token _ token.place e token.kind in let g = token.stands in omega (arith, f, g)

place_within : (text : List ℕ) (e : ParseError) → IsFormulaError text e → error_place e ≤ length text
place_within text e (inl long) = let f = ap error_place long.1 in omega (arith, f)
place_within text e (inr (short, inl token)) = token_within _ text e token
place_within text e (inr (short, inr (f, spelled, inl long))) = let g = ap error_place long.1 in omega (arith, g)
place_within text e (inr (short, inr (f, spelled, inr deep))) = let g = ap error_place deep.2 in omega (arith, g)

term_place_within : (text : List ℕ) (e : ParseError) → IsTermError text e → error_place e ≤ length text
term_place_within text e (inl long) = let f = ap error_place long.1 in omega (arith, f)
term_place_within text e (inr (short, inl token)) = token_within _ text e token
term_place_within text e (inr (short, inr (t, spelled, long, is))) = let g = ap error_place is in omega (arith, g)

behind_within : (word text line : List ℕ) (place : ℕ) → line ≡ word ++ text → place ≤ length text → length word + place ≤ length line
behind_within word text line place is within =
    let whole : length line ≡ length word + length text = ap length is ∙ length-append word text in
    omega (arith, within, whole)

pub error_within : (word text line : List ℕ) (e : ParseError) → line ≡ word ++ text → IsFormulaError text e → length word + error_place e ≤ length line
error_within word text line e is wrong = behind_within word text line (error_place e) is (place_within text e wrong)

pub term_error_within : (word text line : List ℕ) (e : ParseError) → line ≡ word ++ text → IsTermError text e → length word + error_place e ≤ length line
term_error_within word text line e is wrong = behind_within word text line (error_place e) is (term_place_within text e wrong)

-- ---- Word by word

abbrev texts : List (Bor (List ℕ)) → List (List ℕ)
texts words = map (λ w. w.now) words

pub formula_wrong : (words : List (Bor (List ℕ))) (terms : List (List ℕ)) (i : ℕ) (d : Bor (List ℕ)) (line : List ℕ) (error : ParseError) → i < length words
    → IsFormulaErrorBehind (get_or words i d).now line error → IsLineFlaw (texts (drop i words)) terms line (formula_flaw (length (get_or words i d).now) error)
formula_wrong words terms i d line error h w = rw (drop_more words i d h) (formula w.1 w.2 w.3)

pub formula_right : (words : List (Bor (List ℕ))) (terms : List (List ℕ)) (i : ℕ) (d : Bor (List ℕ)) (line : List ℕ) → i < length words
    → IsFormulaBehind (get_or words i d).now line → (flaw : FlawTree) → IsLineFlaw (texts (drop (i + 1) words)) terms line flaw
    → IsLineFlaw (texts (drop i words)) terms line flaw
formula_right words terms i d line h right flaw behind = rw (drop_more words i d h) (right_formula right behind)

pub formulas_done : (words : List (Bor (List ℕ))) (terms : List (List ℕ)) (i : ℕ) (line : List ℕ) → length words ≤ i → (flaw : FlawTree)
    → IsLineFlaw [] terms line flaw → IsLineFlaw (texts (drop i words)) terms line flaw
formulas_done words terms i line h flaw behind = subst (λ ws. IsLineFlaw ws terms line flaw) (sym (at_drop_all texts words i h)) behind

pub term_wrong : (words : List (Bor (List ℕ))) (i : ℕ) (d : Bor (List ℕ)) (line : List ℕ) (error : ParseError) → i < length words
    → IsTermErrorBehind (get_or words i d).now line error → IsLineFlaw [] (texts (drop i words)) line (formula_flaw (length (get_or words i d).now) error)
term_wrong words i d line error h w = rw (drop_more words i d h) (term w.1 w.2 w.3)

pub term_right : (words : List (Bor (List ℕ))) (i : ℕ) (d : Bor (List ℕ)) (line : List ℕ) → i < length words → IsTermBehind (get_or words i d).now line
    → (flaw : FlawTree) → IsLineFlaw [] (texts (drop (i + 1) words)) line flaw → IsLineFlaw [] (texts (drop i words)) line flaw
term_right words i d line h right flaw behind = rw (drop_more words i d h) (right_term right behind)

pub terms_done : (words : List (Bor (List ℕ))) (i : ℕ) (line : List ℕ) → length words ≤ i → IsLineFlaw [] (texts (drop i words)) line line_flaw
terms_done words i line h = subst (λ ws. IsLineFlaw [] ws line line_flaw) (sym (at_drop_all texts words i h)) no_word
