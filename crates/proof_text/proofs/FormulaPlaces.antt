-- Where the formula of a segment stands.
use Rattle.std.proofs.Common.{◌≡◌, ◌≤◌, ◌+◌, ℕ, suc, List, [], ◌∷◌, ◌++◌, length, drop, Bool, true, false, Option, Some, None, subst, sym, ap, ◌∙◌, arith}
use Rattle.std.specs.List.{prefix_len}
use Rattle.std.proofs.lemmas.List.{length-drop}
use Rattle.nal_parse.specs.Tokens.{after_blanks, is_blank, run_length}
use Rattle.nal_term.specs.Trees.{TermTree}
use Rattle.proof_lines.specs.Lines.{takes_term}
use Rattle.proof_text.specs.ProofText.{BeginsWithNumbers, BeginsWithOptionalTerm, BeginsWithRun, Head, HasHead, bracket_length, segments}
use Rattle.proof_text.specs.ProofText.BeginsWithNumbers.{none, number}
use Rattle.proof_text.specs.Places.{IsFormulaAt, column_of}
use Rattle.proof_text.specs.Inner.Reading.{NoForm}

drop_shorter : (n : ℕ) (bs : List ℕ) → length (drop n bs) ≤ length bs
drop_shorter n bs = subst (λ m. m ≤ length bs) (sym (length-drop n bs)) (omega arith)

blanks_shorter : (bs : List ℕ) → length (after_blanks bs) ≤ length bs
blanks_shorter bs = drop_shorter (prefix_len is_blank bs) bs

run_shorter : (bs run rest : List ℕ) → BeginsWithRun bs run rest → length rest ≤ length bs
run_shorter bs run rest h =
    let e = blanks_shorter bs in
    let f = drop_shorter (run_length (after_blanks bs)) (after_blanks bs) in
    subst (λ r. length r ≤ length bs) (sym h.1) (omega arith)

numbers_shorter : {k : ℕ} {bs ns rest : List ℕ} → BeginsWithNumbers k bs ns rest → length rest ≤ length bs
numbers_shorter none = omega arith
numbers_shorter {rest = rest} (number {bytes = bytes} {a = a} h hs) =
    let e = run_shorter bytes h.0 a h.1 in
    let f = numbers_shorter hs in
    omega arith

term_shorter : (takes : Bool) (bs : List ℕ) (t : Option TermTree) (rest : List ℕ) → BeginsWithOptionalTerm takes bs t rest → length rest ≤ length bs
term_shorter true bs (Some t) rest h =
    let e = blanks_shorter bs in
    let f : length (after_blanks bs) ≡ suc (length h.0) = ap length h.1 in
    let g = drop_shorter (bracket_length false h.0 + 1) h.0 in
    subst (λ r. length r ≤ length bs) (sym h.4) (omega arith)
term_shorter true bs None rest h = absurd h
term_shorter false bs (Some t) rest h = absurd h
term_shorter false bs None rest h = subst (λ r. length r ≤ length bs) (sym h) (omega arith)

-- the formula's text is no longer than the segment
pub formula_shorter : (segment : List ℕ) (head : Head) (rest : List ℕ) → HasHead segment head rest → length rest ≤ length segment
formula_shorter segment head rest h =
    let a = run_shorter segment h.number.0 h.after_number h.number.1 in
    let b = run_shorter h.after_number _ h.after_rule h.rule in
    let c = numbers_shorter h.references in
    let d = term_shorter (takes_term head.rule) h.after_references head.term h.after_term h.term in
    let e = blanks_shorter h.after_term in
    let f : length (after_blanks h.after_term) ≡ suc (length h.after_colon) = ap length h.colon in
    let g = blanks_shorter h.after_colon in
    subst (λ r. length r ≤ length segment) (sym h.formula) (omega arith)

-- at one number stands one segment
pub same_segment : (before others : List (List ℕ)) (x y : List ℕ) (behind rest : List (List ℕ)) → before ++ x ∷ behind ≡ others ++ y ∷ rest
    → length before ≡ length others → x ≡ y
same_segment [] [] x y behind rest e l = cc
same_segment [] (o ∷ os) x y behind rest e l = absurd (omega arith)
same_segment (b ∷ bs) [] x y behind rest e l = absurd (omega arith)
same_segment (b ∷ bs) (o ∷ os) x y behind rest e l =
    let f : bs ++ x ∷ behind ≡ os ++ y ∷ rest = cc in same_segment bs os x y behind rest f (omega arith)

few_segments : (before : List (List ℕ)) (x : List ℕ) (behind : List (List ℕ)) → length (before ++ x ∷ behind) ≤ length before → ⊥
few_segments [] x behind h = omega arith
few_segments (b ∷ bs) x behind h = few_segments bs x behind (omega arith)

-- no formula stands at a number where there is no segment
pub no_segment : (bs : List ℕ) (k : ℕ) → length (segments bs) ≤ k → (column : ℕ) (formula : List ℕ) → ¬ IsFormulaAt bs k column formula
no_segment bs k few column formula = λ w.
    few_segments w.before w.segment w.behind (subst (λ ss. length ss ≤ length w.before) w.stands (subst (λ n. length (segments bs) ≤ n) (sym w.number) few))

module _ (bs : List ℕ) (k : ℕ) (before : List (List ℕ)) (segment : List ℕ) (behind : List (List ℕ))
    (stands : segments bs ≡ before ++ segment ∷ behind) (number : length before ≡ k) where
  found : (column : ℕ) (formula : List ℕ) (w : IsFormulaAt bs k column formula) → w.segment ≡ segment
  found column formula w = same_segment w.before before w.segment segment w.behind behind (sym w.stands ∙ stands) (w.number ∙ sym number)

  -- nor where the segment has not the form
  pub no_head : NoForm (HasHead segment) → (column : ℕ) (formula : List ℕ) → ¬ IsFormulaAt bs k column formula
  no_head missing column formula = λ w. missing w.head formula (subst (λ x. HasHead x w.head formula) (found column formula w) w.formed)

  -- behind its head stands the formula
  pub formula_stands : (head : Head) (formula : List ℕ) → HasHead segment head formula → (column : ℕ) → column + length formula ≡ column_of k bs + length segment
      → IsFormulaAt bs k column formula
  formula_stands head formula formed column place = record {
    before = before;
    segment = segment;
    behind = behind;
    head = head;
    stands = stands;
    number = number;
    formed = formed;
    place = place;
  }
