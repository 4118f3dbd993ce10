-- A line has one flaw.
use Rattle.std.proofs.Common.{◌≡◌, ◌+◌, ◌<◌, inl, inr, ℕ, List, length, refl, sym, ap, subst, ◌∙◌, arith}
use Rattle.std.proofs.lemmas.List.{append_cancel_left}
use Rattle.nal_parse.specs.Errors.{IsFormulaError, IsTermError}
use Rattle.nal_parse.specs.Laws.{NoFormulaWithError, NoTermWithError, OneFormulaError, OneTermError}
use Rattle.text_lines.specs.Lines.{first_line, after_line}
use Rattle.run_streams.specs.Flaws.{FlawTree}
use Rattle.input_flaws.specs.LineFlaws.{IsLineFlaw, IsLineOf, first, formula_flaw, later}
use Rattle.input_flaws.specs.LineFlaws.IsLineFlaw.{formula, no_word, right_formula, right_term, term}
use Rattle.input_flaws.specs.LineFlaws.IsFlawAt.{ended, stands}
use Rattle.input_flaws.specs.Laws.{OneFlaw}
use Rattle.input_flaws.proofs.LineFlaws.{IsFirstOrLater, first_or_later, positive}

only_first : (text other : List ℕ) → IsFirstOrLater text 1 other → other ≡ first_line text
only_first text other (inl e) = e.1
only_first text other (inr l) = absurd (let p = positive l.2 in let e = l.1 in omega (arith, p, e))

behind_first : (text other : List ℕ) (j : ℕ) → 0 < j → IsFirstOrLater text (j + 1) other → IsLineOf (after_line text) j other
behind_first text other j p (inl e) = absurd (let f = e.0 in omega (arith, p, f))
behind_first text other j p (inr m) =
    let e = m.1 in let f : m.0 ≡ j = omega (arith, e) in subst (λ n. IsLineOf (after_line text) n other) f m.2

line_one : {text line other : List ℕ} {k : ℕ} → IsLineOf text k line → IsLineOf text k other → line ≡ other
line_one {other = other} (first {text = text} some) b = sym (only_first text other (first_or_later b).1)
line_one {other = other} (later {text = text} {k = j} some l) b = line_one l (behind_first text other j (positive l) (first_or_later b).1)

module _ (one : OneFormulaError) (none : NoFormulaWithError) (one_term : OneTermError) (no_term : NoTermWithError) where
  line_flaw_one : {formulas terms : List (List ℕ)} {line : List ℕ} {a b : FlawTree} → IsLineFlaw formulas terms line a → IsLineFlaw formulas terms line b
      → a ≡ b
  line_flaw_one (formula {word = word} {text = text} {error = error} e m w) (formula {text = text'} {error = error'} e' m' w') =
      let same : text ≡ text' = append_cancel_left word text text' (sym e ∙ e') in
      ap (λ err. formula_flaw (length word) err) (one text' error error' (subst (λ t. IsFormulaError t error) same w) w')
  line_flaw_one (formula {text = text} {error = error} e m w) (right_formula r b) = let f = r text e in absurd (none text error f.0 w f.1)
  line_flaw_one (right_formula r a) (formula {text = text} {error = error} e m w) = let f = r text e in absurd (none text error f.0 w f.1)
  line_flaw_one (right_formula r a) (right_formula r' b) = line_flaw_one a b
  line_flaw_one (term {word = word} {text = text} {error = error} e m w) (term {text = text'} {error = error'} e' m' w') =
      let same : text ≡ text' = append_cancel_left word text text' (sym e ∙ e') in
      ap (λ err. formula_flaw (length word) err) (one_term text' error error' (subst (λ t. IsTermError t error) same w) w')
  line_flaw_one (term {text = text} {error = error} e m w) (right_term r b) = let t = r text e in absurd (no_term text error t.0 w t.1)
  line_flaw_one (right_term r a) (term {text = text} {error = error} e m w) = let t = r text e in absurd (no_term text error t.0 w t.1)
  line_flaw_one (right_term r a) (right_term r' b) = line_flaw_one a b
  line_flaw_one no_word no_word = refl

  pub one_flaw : OneFlaw
  one_flaw formulas terms text k a b (stands l w) (stands l' w') =
      line_flaw_one w (subst (λ line. IsLineFlaw formulas terms line b) (sym (line_one l l')) w')
  one_flaw formulas terms text k a b (stands {line = line} l w) (ended not) = absurd (not line l)
  one_flaw formulas terms text k a b (ended not) (stands {line = line} l w) = absurd (not line l)
  one_flaw formulas terms text k a b (ended not) (ended not') = refl
