-- The walk over the segments of a proof's lines, and that no text is both a proof and refused.
use Rattle.std.proofs.Common.{◌≡◌, ℕ, ◌+◌, ◌<◌, ◌≤◌, ◌⊎◌, inl, inr, List, [], ◌∷◌, ◌++◌, length, drop, Bool, true, Option, Some, None, append_assoc, refl, ap, subst, ◌∙◌, sym, arith, codes, IsTrue, false}
use Rattle.nal_parse.specs.Tokens.{is_number, after_blanks}
use Rattle.nal_parse.specs.Grammar.{IsFormulaText}
use Rattle.nal_term.specs.Trees.{TermTree}
use Rattle.proof_lines.specs.declared.lines.Line.{Line}
use Rattle.proof_lines.specs.Lines.{LineTree, line_tree, line_trees, reference_count, takes_term}
use Rattle.std.proofs.lemmas.List.{length_push}
use Rattle.proof_text.specs.declared.read.ProofError.{ProofError}
use Rattle.proof_text.specs.declared.read.ProofError.TheVariants as error
use Rattle.proof_text.specs.ProofText.{Head, HasHead, IsLineText, AreLines, IsTail, IsWrong, BeginsWithRun, BeginsWithNumbers, BeginsWithOptionalTerm, bracket_length}
use Rattle.proof_text.specs.RuleNames.{rule_name}
use Rattle.proof_text.specs.ProofText.AreLines.{end, line}
use Rattle.proof_text.specs.ProofText.IsWrong.{nothing, no_end, blank_end, after as wrong_end, bad_line, bad_number, too_many, formula as bad_formula, further}
use Rattle.proof_text.specs.Inner.Lines.{IsBody, ReadsLine, IsWrongLine}
use Rattle.proof_text.proofs.HeadParts.{same_rule}
use Rattle.proof_text.proofs.Numbers.{number_same, numbers_same}

-- neither `end` nor an empty segment begins with a number
pub end_has_no_head : (v : Head) (r : List ℕ) → HasHead (codes "end") v r → ⊥
end_has_no_head v r h = let w : IsTrue false = subst (λ x. IsTrue (is_number x)) h.number.1.0 h.number.2 in cc

pub empty_has_no_head : (v : Head) (r : List ℕ) → HasHead [] v r → ⊥
empty_has_no_head v r h = let w : IsTrue false = subst (λ x. IsTrue (is_number x)) h.number.1.0 h.number.2 in cc

pub end_has_no_line : (k : ℕ) (seg : List ℕ) (l : LineTree) → seg ≡ codes "end" → IsLineText k seg l → ⊥
end_has_no_line k seg l e t =
    let h : Head = record { number = k; rule = l.rule; refs = l.refs; term = l.term } in
    end_has_no_head h t.text (subst (λ x. HasHead x h t.text) e t.head)

pub empty_has_no_line : (k : ℕ) (seg : List ℕ) (l : LineTree) → seg ≡ [] → IsLineText k seg l → ⊥
empty_has_no_line k seg l e t =
    let h : Head = record { number = k; rule = l.rule; refs = l.refs; term = l.term } in
    empty_has_no_head h t.text (subst (λ x. HasHead x h t.text) e t.head)

-- the segments begin with line k, which other lines follow
pub record Begins (k : ℕ) (segments : List (List ℕ)) (lines : List LineTree) (after : List (List ℕ)) : Type 0 where
  pub segment : List ℕ
  pub others : List (List ℕ)
  pub first : LineTree
  pub more : List LineTree
  pub cut : segments ≡ segment ∷ others
  pub made : lines ≡ first ∷ more
  pub within : k ≤ 256
  pub text : IsLineText k segment first
  pub body : AreLines (k + 1) others more after

-- the segments begin with `end`
pub record Ends (k : ℕ) (segments : List (List ℕ)) (lines : List LineTree) (after : List (List ℕ)) : Type 0 where
  pub some : 1 < k
  pub cut : segments ≡ codes "end" ∷ after
  pub made : lines ≡ []

pub view : {k : ℕ} {ss : List (List ℕ)} {ls : List LineTree} {after : List (List ℕ)} → AreLines k ss ls after → Ends k ss ls after ⊎ Begins k ss ls after
view (end some) = inl (record { some = some; cut = refl; made = refl })
view (line {segment = seg} {line = l} {others = others} {lines = ls} le text body) =
    inr (record { segment = seg; others = others; first = l; more = ls; cut = refl; made = refl; within = le; text = text; body = body })

-- what is known of all segments once some lines are read and `rest` is left, from line k on
pub record Carries (all : List (List ℕ)) (done : List LineTree) (k : ℕ) (rest : List (List ℕ)) : Type 0 where
  pub proves : (ls : List LineTree) (after : List (List ℕ)) → AreLines k rest ls after → AreLines 1 all (done ++ ls) after
  pub refutes : (e : ProofError) → IsWrong k rest e → IsWrong 1 all e
  pub only : (ls : List LineTree) (after : List (List ℕ)) → AreLines 1 all ls after → (others : List LineTree) × (ls ≡ done ++ others) × AreLines k rest others after

pub carries_all : (all : List (List ℕ)) → Carries all [] 1 all
carries_all all = record {
  proves = λ ls after h. h;
  refutes = λ e h. h;
  only = λ ls after h. (ls, refl, h);
}

after_line : (k : ℕ) (seg : List ℕ) (rest : List (List ℕ)) (l : LineTree) (os : List LineTree) (after : List (List ℕ)) → ReadsLine k seg l → AreLines k (seg ∷ rest) os after → (more : List LineTree) × (os ≡ l ∷ more) × AreLines (k + 1) rest more after
after_line k seg rest l os after reads h =
    elim (view h) [
      | inl w ↦
          let same : seg ≡ codes "end" = cc (w.cut) in
          absurd (end_has_no_line k seg l same reads.text)
      | inr w ↦
          let same : w.segment ≡ seg = cc (w.cut) in
          let others : w.others ≡ rest = cc (w.cut) in
          let first = reads.only w.first (subst (λ x. IsLineText k x w.first) same w.text) in
          (w.more, w.made ∙ ap (λ x. x ∷ w.more) first, subst (λ x. AreLines (k + 1) x w.more after) others w.body)
    ]

pub carries_line : (all : List (List ℕ)) (done : List LineTree) (k : ℕ) (seg : List ℕ) (rest : List (List ℕ)) (l : LineTree) → Carries all done k (seg ∷ rest) → ReadsLine k seg l → Carries all (done ++ l ∷ []) (k + 1) rest
carries_line all done k seg rest l c reads = record {
  proves = λ ls after h. subst (λ x. AreLines 1 all x after) (sym (append_assoc done (l ∷ []) ls)) (c.proves (l ∷ ls) after (line reads.within reads.text h));
  refutes = λ e h. c.refutes e (further reads.within reads.text h);
  only = λ ls after h.
      let w = c.only ls after h in
      let v = after_line k seg rest l w.0 after reads w.2 in
      (v.0, w.1 ∙ (ap (λ x. done ++ x) v.1 ∙ sym (append_assoc done (l ∷ []) v.0)), v.2);
}

line_trees_push : (ps : List Line) (l : Line) → line_trees (ps ++ l ∷ []) ≡ line_trees ps ++ line_tree l ∷ []
line_trees_push [] l = refl
line_trees_push (p ∷ ps) l = ap (λ x. line_tree p ∷ x) (line_trees_push ps l)

no_more : (ls : List LineTree) → ls ++ [] ≡ ls
no_more [] = refl
no_more (l ∷ ls) = ap (λ x. l ∷ x) (no_more ls)

-- what follows where the segments left begin with this one
module _ (all : List (List ℕ)) (done : List LineTree) (k : ℕ) (rest : List (List ℕ)) (c : Carries all done k rest) (seg : List ℕ) (others : List (List ℕ)) (cut : rest ≡ seg ∷ others) where
  abbrev here : Carries all done k (seg ∷ others)
  here = subst (λ x. Carries all done k x) cut c

  abbrev ended : seg ≡ codes "end" → Carries all done k (codes "end" ∷ others)
  ended e = subst (λ x. Carries all done k (x ∷ others)) e here

  pub body_reads : 1 < k → seg ≡ codes "end" → IsTail others → IsBody all done
  body_reads lt e tail = record {
    after = others;
    body = subst (λ x. AreLines 1 all x others) (no_more done) ((ended e).proves [] others (end lt));
    tail = tail;
  }

  pub body_only : seg ≡ codes "end" → (ls : List LineTree) → IsBody all ls → ls ≡ done
  body_only e ls b =
      let w = (ended e).only ls b.after b.body in
      elim (view w.2) [
        | inl v ↦ w.1 ∙ (ap (λ x. done ++ x) v.made ∙ no_more done)
        | inr v ↦
            let same : v.segment ≡ codes "end" = cc (v.cut) in
            absurd (end_has_no_line k v.segment v.first same v.text)
      ]

  pub wrong_after : 1 < k → seg ≡ codes "end" → (IsTail others → ⊥) → IsWrong 1 all error.After
  wrong_after lt e more = (ended e).refutes error.After (wrong_end lt more)

  pub wrong_blank : 1 < k → seg ∷ others ≡ [] ∷ [] → IsWrong 1 all error.NoEnd
  wrong_blank lt e = c.refutes error.NoEnd (subst (λ x. IsWrong k x error.NoEnd) (sym (cut ∙ e)) (blank_end lt))

  pub wrong_line : (e : ProofError) → IsWrongLine k seg e → ((1 < k) × (seg ≡ codes "end") → ⊥) → ((1 < k) × (seg ∷ others ≡ [] ∷ []) → ⊥) → IsWrong 1 all e
  wrong_line e w a b = here.refutes e (w others (λ lt. (λ f. a (lt, f), λ f. b (lt, f))))

pub wrong_missing : (all : List (List ℕ)) (done : List LineTree) (k : ℕ) (rest : List (List ℕ)) → Carries all done k rest → rest ≡ [] → (e : ProofError) → IsWrong k [] e → IsWrong 1 all e
wrong_missing all done k rest c cut e w = c.refutes e (subst (λ x. IsWrong k x e) (sym cut) w)

pub carries_push : (all : List (List ℕ)) (ps : List Line) (rest : List (List ℕ)) (seg : List ℕ) (others : List (List ℕ)) (l : Line) (new : List Line) → Carries all (line_trees ps) (length ps + 1) rest → rest ≡ seg ∷ others → ReadsLine (length ps + 1) seg (line_tree l) → new ≡ ps ++ l ∷ [] → Carries all (line_trees new) (length new + 1) others
carries_push all ps rest seg others l new c cut reads made =
    let more = carries_line all (line_trees ps) (length ps + 1) seg others (line_tree l) (subst (λ x. Carries all (line_trees ps) (length ps + 1) x) cut c) reads in
    let trees : line_trees ps ++ line_tree l ∷ [] ≡ line_trees new = sym (ap line_trees made ∙ line_trees_push ps l) in
    let count : length ps + 1 ≡ length new = sym (ap length made ∙ length_push ps l) in
    subst (λ x. Carries all (line_trees new) (x + 1) others) count (subst (λ x. Carries all x (length ps + 1 + 1) others) trees more)

-- a text with a head has one number and one place of its formula
optional_rest_same : (t : Bool) (bytes : List ℕ) (v : Option TermTree) (r : List ℕ) (w : Option TermTree) (q : List ℕ) → BeginsWithOptionalTerm t bytes v r → BeginsWithOptionalTerm t bytes w q → r ≡ q
optional_rest_same true bytes None r w q h g = absurd h
optional_rest_same true bytes (Some t) r None q h g = absurd g
optional_rest_same true bytes (Some t) r (Some u) q h g =
    let e : 91 ∷ h.0 ≡ 91 ∷ g.0 = sym h.1 ∙ g.1 in
    let same : h.0 ≡ g.0 = cc in
    h.4 ∙ (ap (λ x. drop (bracket_length false x + 1) x) same ∙ sym g.4)
optional_rest_same false bytes (Some t) r w q h g = absurd h
optional_rest_same false bytes None r (Some u) q h g = absurd g
optional_rest_same false bytes None r None q h g = h ∙ sym g

head_same : (s : List ℕ) (v : Head) (r : List ℕ) (w : Head) (q : List ℕ) → HasHead s v r → HasHead s w q → (v.number ≡ w.number) × (r ≡ q)
head_same s v r w q h g =
    let n = number_same s v.number h.after_number w.number g.after_number h.number g.number in
    let run = subst (λ x. BeginsWithRun x (rule_name w.rule) g.after_rule) (sym n.1) g.rule in
    let rule = same_rule v.rule w.rule (h.rule.0 ∙ sym run.0) in
    let a = h.rule.1 ∙ sym run.1 in
    let refs = subst (λ x. BeginsWithNumbers (reference_count x) h.after_rule w.refs g.after_references) (sym rule)
    (subst (λ x. BeginsWithNumbers (reference_count w.rule) x w.refs g.after_references) (sym a) g.references) in
    let b = (numbers_same h.references refs).1 in
    let term = subst (λ x. BeginsWithOptionalTerm (takes_term x) h.after_references w.term g.after_term) (sym rule)
    (subst (λ x. BeginsWithOptionalTerm (takes_term w.rule) x w.term g.after_term) (sym b) g.term) in
    let d = optional_rest_same (takes_term v.rule) h.after_references v.term h.after_term w.term g.after_term h.term term in
    let colon : 58 ∷ h.after_colon ≡ 58 ∷ g.after_colon = sym h.colon ∙ (ap after_blanks d ∙ g.colon) in
    let e : h.after_colon ≡ g.after_colon = cc in
    (n.0, h.formula ∙ (ap after_blanks e ∙ sym g.formula))

line_head_same : (k : ℕ) (s : List ℕ) (l : LineTree) (w : Head) (q : List ℕ) (t : IsLineText k s l) → HasHead s w q → (w.number ≡ k) × (q ≡ t.text)
line_head_same k s l w q t g =
    let h : Head = record { number = k; rule = l.rule; refs = l.refs; term = l.term } in
    head_same s w q h t.text g t.head

-- segments that begin with line k, where they begin with this one
record Line_here (k : ℕ) (seg : List ℕ) (others : List (List ℕ)) (after : List (List ℕ)) : Type 0 where
  pub first : LineTree
  pub more : List LineTree
  pub within : k ≤ 256
  pub text : IsLineText k seg first
  pub body : AreLines (k + 1) others more after

first_of_lines : (k : ℕ) (seg : List ℕ) (others : List (List ℕ)) (ls : List LineTree) (after : List (List ℕ)) → AreLines k (seg ∷ others) ls after → ((1 < k) × (seg ≡ codes "end") × (others ≡ after)) ⊎ Line_here k seg others after
first_of_lines k seg others ls after h =
    elim (view h) [
      | inl w ↦ let a : seg ≡ codes "end" = cc (w.cut) in let b : others ≡ after = cc (w.cut) in inl (w.some, a, b)
      | inr w ↦
          let a : w.segment ≡ seg = cc (w.cut) in
          let b : w.others ≡ others = cc (w.cut) in
          inr (record {
            first = w.first;
            more = w.more;
            within = w.within;
            text = subst (λ x. IsLineText k x w.first) a w.text;
            body = subst (λ x. AreLines (k + 1) x w.more after) b w.body;
          })
    ]

no_lines : (k : ℕ) (ls : List LineTree) (after : List (List ℕ)) → AreLines k [] ls after → ⊥
no_lines k ls after h = elim (view h) [ inl w ↦ cc (w.cut) | inr w ↦ cc (w.cut) ]

-- no segments are both lines and wrong
pub wrong_lines : {k : ℕ} {ss : List (List ℕ)} {e : ProofError} → IsWrong k ss e → (ls : List LineTree) (after : List (List ℕ)) → AreLines k ss ls after → IsTail after → ⊥
wrong_lines (nothing {k = k} f) ls after h tail = no_lines k ls after h
wrong_lines (no_end {k = k} f) ls after h tail = no_lines k ls after h
wrong_lines (blank_end {k = k} f) ls after h tail =
    elim (first_of_lines k [] [] ls after h) [
      | inl w ↦ cc (w.1)
      | inr w ↦ empty_has_no_line k [] w.first refl w.text
    ]
wrong_lines (wrong_end {k = k} {after = others} f more) ls after h tail =
    elim (first_of_lines k (codes "end") others ls after h) [
      | inl w ↦ more (subst (λ x. IsTail x) (sym w.2) tail)
      | inr w ↦ end_has_no_line k (codes "end") w.first refl w.text
    ]
wrong_lines (bad_line {k = k} {segment = seg} {others = others} missing at) ls after h tail =
    elim (first_of_lines k seg others ls after h) [
      | inl w ↦ (at w.0).0 w.1
      | inr w ↦ missing _ w.text.text w.text.head
    ]
wrong_lines (bad_number {k = k} {segment = seg} {rest = rest} {others = others} {head = head} has ne) ls after h tail =
    elim (first_of_lines k seg others ls after h) [
      | inl w ↦ end_has_no_head head rest (subst (λ x. HasHead x head rest) w.1 has)
      | inr w ↦ ne (line_head_same k seg w.first head rest w.text has).0
    ]
wrong_lines (too_many {k = k} {segment = seg} {rest = rest} {others = others} {head = head} has same most) ls after h tail =
    elim (first_of_lines k seg others ls after h) [
      | inl w ↦ end_has_no_head head rest (subst (λ x. HasHead x head rest) w.1 has)
      | inr w ↦ absurd (omega (arith, w.within))
    ]
wrong_lines (bad_formula {k = k} {segment = seg} {rest = rest} {others = others} {head = head} le has same missing told why) ls after h tail =
    elim (first_of_lines k seg others ls after h) [
      | inl w ↦ end_has_no_head head rest (subst (λ x. HasHead x head rest) w.1 has)
      | inr w ↦ missing w.first.formula (subst (λ x. IsFormulaText x w.first.formula) (sym (line_head_same k seg w.first head rest w.text has).1) w.text.formula)
    ]
wrong_lines (further {k = k} {segment = seg} {line = l} {others = others} le text wrong) ls after h tail =
    elim (first_of_lines k seg others ls after h) [
      | inl w ↦ end_has_no_line k seg l w.1 text
      | inr w ↦ wrong_lines wrong w.more after w.body tail
    ]
