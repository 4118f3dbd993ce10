-- A text is one proof, or has one error.
use Rattle.std.proofs.Common.{◌≡◌, ◌≢◌, ◌<◌, ◌≤◌, ◌+◌, inl, inr, ℕ, List, [], ◌∷◌, drop, Bool, true, false, Option, Some, None, codes, refl, ap, subst, ◌∙◌, sym, arith}
use Rattle.nal_term.specs.Trees.{TermTree, FormulaTree}
use Rattle.nal_parse.specs.Tokens.{after_blanks}
use Rattle.nal_parse.specs.Grammar.{IsFormulaText}
use Rattle.nal_parse.specs.Errors.{IsFormulaError}
use Rattle.nal_parse.specs.declared.parse.ParseError.{ParseError}
use Rattle.nal_parse.proofs.ForCallers.{one_formula, one_term, one_formula_error}
use Rattle.proof_lines.specs.Lines.{LineTree, reference_count, takes_term}
use Rattle.proof_text.specs.declared.read.ProofError.{ProofError}
use Rattle.proof_text.specs.declared.read.ProofError.TheVariants as error
use Rattle.proof_text.specs.Laws.{OneProof, OneProofError, NoProofWithError}
use Rattle.proof_text.specs.ProofText.{Head, HasHead, IsHeader, IsLineText, AreLines, AreWrong, IsTail, IsWrong, IsMisspelled, SpellsProof, BeginsWithRun, BeginsWithNumbers, BeginsWithOptionalTerm, BeginsWithTerm, bracket_length, trimmed, segments}
use Rattle.proof_text.specs.ProofText as text
use Rattle.proof_text.specs.RuleNames.{rule_name}
use Rattle.proof_text.proofs.HeadParts.{same_rule}
use Rattle.proof_text.proofs.Numbers.{number_same, numbers_same}
use Rattle.proof_text.proofs.Walk.{end_has_no_head, empty_has_no_head, end_has_no_line, empty_has_no_line, wrong_lines}

-- a term in brackets is one, and so is what follows it
term_one : (bytes : List ℕ) (t u : TermTree) (r q : List ℕ) → BeginsWithTerm bytes t r → BeginsWithTerm bytes u q → (t ≡ u) × (r ≡ q)
term_one bytes t u r q h g =
    let e : 91 ∷ h.0 ≡ 91 ∷ g.0 = sym h.1 ∙ g.1 in
    let same : h.0 ≡ g.0 = cc in
    (one_term _ t u h.3 (rw (← same) at g.3), h.4 ∙ ap (λ x. drop (bracket_length false x + 1) x) same ∙ sym g.4)

optional_one : (takes : Bool) (bytes : List ℕ) (v w : Option TermTree) (r q : List ℕ) → BeginsWithOptionalTerm takes bytes v r → BeginsWithOptionalTerm takes bytes w q → (v ≡ w) × (r ≡ q)
optional_one true bytes (Some t) (Some u) r q h g = let i = term_one bytes t u r q h g in (ap Some i.0, i.1)
optional_one true bytes None w r q h g = absurd h
optional_one true bytes (Some t) None r q h g = absurd g
optional_one false bytes (Some t) w r q h g = absurd h
optional_one false bytes None (Some u) r q h g = absurd g
optional_one false bytes None None r q h g = (refl, h ∙ sym g)

-- a segment has one head, and one text of its formula
pub head_one : (s : List ℕ) (v w : Head) (r q : List ℕ) → HasHead s v r → HasHead s w q → (v ≡ w) × (r ≡ q)
head_one s v w r q h g =
    let n = number_same s v.number h.after_number w.number g.after_number h.number g.number in
    let run = subst (λ x. BeginsWithRun x (rule_name w.rule) g.after_rule) (sym n.1) g.rule in
    let rule = same_rule v.rule w.rule (h.rule.0 ∙ sym run.0) in
    let a = h.rule.1 ∙ sym run.1 in
    let refs = numbers_same h.references (subst (λ x. BeginsWithNumbers (reference_count x) h.after_rule w.refs g.after_references) (sym rule)
    (subst (λ x. BeginsWithNumbers (reference_count w.rule) x w.refs g.after_references) (sym a) g.references)) in
    let given = subst (λ x. BeginsWithOptionalTerm (takes_term x) h.after_references w.term g.after_term) (sym rule)
    (subst (λ x. BeginsWithOptionalTerm (takes_term w.rule) x w.term g.after_term) (sym refs.1) g.term) in
    let term = optional_one (takes_term v.rule) h.after_references v.term w.term h.after_term g.after_term h.term given in
    let colon : 58 ∷ h.after_colon ≡ 58 ∷ g.after_colon = sym h.colon ∙ (ap after_blanks term.1 ∙ g.colon) in
    let e : h.after_colon ≡ g.after_colon = cc in
    (same_heads n.0 rule refs.0 term.0, h.formula ∙ (ap after_blanks e ∙ sym g.formula))
  where
    same_heads : v.number ≡ w.number → v.rule ≡ w.rule → v.refs ≡ w.refs → v.term ≡ w.term → v ≡ w
    same_heads a b c d =
        ap (λ x. record v { number = x }) a
        ∙ (ap (λ x. record v { number = w.number; rule = x }) b
        ∙ (ap (λ x. record v { number = w.number; rule = w.rule; refs = x }) c
        ∙ ap (λ x. record v { number = w.number; rule = w.rule; refs = w.refs; term = x }) d))

-- the head of a line, as it stands in its text
abbrev head_of_line : ℕ → LineTree → Head
head_of_line k l = record { number = k; rule = l.rule; refs = l.refs; term = l.term }

-- a segment is the text of one line
line_one : (k : ℕ) (s : List ℕ) (l m : LineTree) → IsLineText k s l → IsLineText k s m → l ≡ m
line_one k s l m t u =
    let h = head_one s (head_of_line k l) (head_of_line k m) t.text u.text t.head u.head in
    let f = one_formula t.text l.formula m.formula t.formula (rw (← h.1) at u.formula) in
    same_lines h.0 f
  where
    same_lines : head_of_line k l ≡ head_of_line k m → l.formula ≡ m.formula → l ≡ m
    same_lines a b =
        ap (λ (x : Head). let y : LineTree = record { rule = x.rule; refs = x.refs; term = x.term; formula = l.formula } in y) a
        ∙ ap (λ x. let y : LineTree = record { rule = m.rule; refs = m.refs; term = m.term; formula = x } in y) b

-- the segments from line k on, in the order in which they are looked at
data Lines (k : ℕ) (ss : List (List ℕ)) (ls : List LineTree) (after : List (List ℕ)) : Type 0 where
  stop : ss ≡ codes "end" ∷ after → ls ≡ [] → Lines k ss ls after
  go : (seg : List ℕ) (others : List (List ℕ)) (l : LineTree) (more : List LineTree) → ss ≡ seg ∷ others → ls ≡ l ∷ more → IsLineText k seg l → AreLines (k + 1) others more after → Lines k ss ls after

lines_of : {k : ℕ} {ss : List (List ℕ)} {ls : List LineTree} {after : List (List ℕ)} → AreLines k ss ls after → Lines k ss ls after
lines_of (text.end lt) = stop refl refl
lines_of (text.line {segment = seg} {line = l} {others = others} {lines = more} le t b) = go seg others l more refl refl t b

-- two lists with one member in front
front_one : {A : Type 0} {x y : A} {xs ys zs : List A} → zs ≡ x ∷ xs → zs ≡ y ∷ ys → (x ≡ y) × (xs ≡ ys)
front_one {x = x} {y = y} {xs = xs} {ys = ys} e f = let first : x ≡ y = cc in let others : xs ≡ ys = cc in (first, others)

-- a line in front of others, whose reading is one, is read in one way
line_first_one : (k : ℕ) (seg : List ℕ) (others : List (List ℕ)) (l : LineTree) (more ms : List LineTree) (after other : List (List ℕ)) → IsLineText k seg l
    → ((ns : List LineTree) → AreLines (k + 1) others ns other → (more ≡ ns) × (after ≡ other)) → Lines k (seg ∷ others) ms other → (l ∷ more ≡ ms) × (after ≡ other)
line_first_one k seg others l more ms after other t again (stop e f) = absurd (end_has_no_line k seg l (front_one refl e).0 t)
line_first_one k seg others l more ms after other t again (go seg2 others2 l2 more2 e f t2 c) =
    let cut = front_one refl e in
    let same = line_one k seg l l2 t (rw (← cut.0) at t2) in
    let rest = again more2 (rw (← cut.1) at c) in
    (rw (same, rest.0) (sym f), rest.1)

end_first_one : (k : ℕ) (ms : List LineTree) (after other : List (List ℕ)) → Lines k (codes "end" ∷ after) ms other → ([] ≡ ms) × (after ≡ other)
end_first_one k ms after other (stop e f) = (sym f, (front_one refl e).1)
end_first_one k ms after other (go seg others l more e f t c) = absurd (end_has_no_line k seg l (sym (front_one refl e).0) t)

lines_one : (k : ℕ) (ss : List (List ℕ)) (ls ms : List LineTree) (after other : List (List ℕ)) → AreLines k ss ls after → AreLines k ss ms other → (ls ≡ ms) × (after ≡ other)
lines_one k _ _ ms after other (text.end lt) b = end_first_one k ms after other (lines_of b)
lines_one k _ _ ms after other (text.line {segment = seg} {line = l} {others = others} {lines = more} le t a) b =
    line_first_one k seg others l more ms after other t (λ ns c. lines_one (k + 1) others more ns after other a c) (lines_of b)

pub one_proof : OneProof
one_proof bytes ps qs a b =
    let cut = front_one a.spelled.cut b.spelled.cut in
    (lines_one 1 a.spelled.others ps qs a.spelled.after b.spelled.after a.spelled.body (rw (← cut.1) at b.spelled.body)).0

-- What is wrong

-- a segment that is no line: it has no head, or a head that is wrong, or a formula that is refused
data LineFault (k : ℕ) (seg : List ℕ) (others : List (List ℕ)) (e : ProofError) : Type 0 where
  headless : e ≡ error.BadLine k → ((head : Head) (rest : List ℕ) → ¬ HasHead seg head rest) → (1 < k → (seg ≢ codes "end") × (seg ∷ others ≢ [] ∷ [])) → LineFault k seg others e
  misnumbered : (head : Head) (rest : List ℕ) → e ≡ error.BadNumber k → HasHead seg head rest → head.number ≢ k → LineFault k seg others e
  too_many : (head : Head) (rest : List ℕ) → e ≡ error.TooManyLines → HasHead seg head rest → head.number ≡ k → k ≡ 257 → LineFault k seg others e
  refused : (head : Head) (rest : List ℕ) (told : ParseError) → e ≡ error.Formula k told → k ≤ 256 → HasHead seg head rest → head.number ≡ k
      → ((f : FormulaTree) → ¬ IsFormulaText rest f) → IsFormulaError rest told → LineFault k seg others e

-- what is wrong from line k on
data Wrong (k : ℕ) (ss : List (List ℕ)) (e : ProofError) : Type 0 where
  missing : ss ≡ [] → k ≡ 1 → e ≡ error.BadLine 1 → Wrong k ss e
  endless : ss ≡ [] → 1 < k → e ≡ error.NoEnd → Wrong k ss e
  blank : ss ≡ [] ∷ [] → 1 < k → e ≡ error.NoEnd → Wrong k ss e
  followed : (after : List (List ℕ)) → ss ≡ codes "end" ∷ after → 1 < k → e ≡ error.After → Wrong k ss e
  here : (seg : List ℕ) (others : List (List ℕ)) → ss ≡ seg ∷ others → LineFault k seg others e → Wrong k ss e
  later : (seg : List ℕ) (others : List (List ℕ)) (l : LineTree) → ss ≡ seg ∷ others → k ≤ 256 → IsLineText k seg l → IsWrong (k + 1) others e → Wrong k ss e

wrong_of : {k : ℕ} {ss : List (List ℕ)} {e : ProofError} → IsWrong k ss e → Wrong k ss e
wrong_of (text.nothing f) = missing refl f refl
wrong_of (text.no_end f) = endless refl f refl
wrong_of (text.blank_end f) = blank refl f refl
wrong_of (text.after {after = after} f more) = followed after refl f refl
wrong_of (text.bad_line {segment = seg} {others = others} none at) = here seg others refl (headless refl none at)
wrong_of (text.bad_number {segment = seg} {rest = rest} {others = others} {head = head} has ne) = here seg others refl (misnumbered head rest refl has ne)
wrong_of (text.too_many {segment = seg} {rest = rest} {others = others} {head = head} has same most) = here seg others refl (too_many head rest refl has same most)
wrong_of (text.formula {segment = seg} {rest = rest} {others = others} {head = head} {error = told} le has same none known why) =
    here seg others refl (refused head rest told refl le has same none why)
wrong_of (text.further {segment = seg} {line = l} {others = others} le t w) = later seg others l refl le t w

-- the head of a line that is wrong is its own
fault_one : (k : ℕ) (seg : List ℕ) (others : List (List ℕ)) (e f : ProofError) → LineFault k seg others e → LineFault k seg others f → e ≡ f
fault_one k seg others e f (headless i none at) (headless j none2 at2) = i ∙ sym j
fault_one k seg others e f (headless i none at) (misnumbered head rest j has ne) = absurd (none head rest has)
fault_one k seg others e f (headless i none at) (too_many head rest j has same most) = absurd (none head rest has)
fault_one k seg others e f (headless i none at) (refused head rest told j le has same unread why) = absurd (none head rest has)
fault_one k seg others e f (misnumbered head rest i has ne) (headless j none at) = absurd (none head rest has)
fault_one k seg others e f (misnumbered head rest i has ne) (misnumbered head2 rest2 j has2 ne2) = i ∙ sym j
fault_one k seg others e f (misnumbered head rest i has ne) (too_many head2 rest2 j has2 same most) = absurd (ne (ap (λ (h : Head). h.number) (head_one seg head head2 rest rest2 has has2).0 ∙ same))
fault_one k seg others e f (misnumbered head rest i has ne) (refused head2 rest2 told j le has2 same unread why) = absurd (ne (ap (λ (h : Head). h.number) (head_one seg head head2 rest rest2 has has2).0 ∙ same))
fault_one k seg others e f (too_many head rest i has same most) (headless j none at) = absurd (none head rest has)
fault_one k seg others e f (too_many head rest i has same most) (misnumbered head2 rest2 j has2 ne) = absurd (ne (ap (λ (h : Head). h.number) (head_one seg head2 head rest2 rest has2 has).0 ∙ same))
fault_one k seg others e f (too_many head rest i has same most) (too_many head2 rest2 j has2 same2 most2) = i ∙ sym j
fault_one k seg others e f (too_many head rest i has same most) (refused head2 rest2 told j le has2 same2 unread why) = absurd (omega (arith, most, le))
fault_one k seg others e f (refused head rest told i le has same unread why) (headless j none at) = absurd (none head rest has)
fault_one k seg others e f (refused head rest told i le has same unread why) (misnumbered head2 rest2 j has2 ne) = absurd (ne (ap (λ (h : Head). h.number) (head_one seg head2 head rest2 rest has2 has).0 ∙ same))
fault_one k seg others e f (refused head rest told i le has same unread why) (too_many head2 rest2 j has2 same2 most) = absurd (omega (arith, most, le))
fault_one k seg others e f (refused head rest told i le has same unread why) (refused head2 rest2 told2 j le2 has2 same2 unread2 why2) =
    let place = (head_one seg head head2 rest rest2 has has2).1 in
    let one = one_formula_error rest told told2 why (rw (← place) at why2) in
    i ∙ ap (λ z. error.Formula k z) one ∙ sym j

-- neither a blank segment at the end, nor `end`, nor a line is wrong in itself
blank_fault : (k : ℕ) (seg : List ℕ) (others : List (List ℕ)) (e : ProofError) → seg ∷ others ≡ [] ∷ [] → 1 < k → ¬ LineFault k seg others e
blank_fault k seg others e cut lt (headless i none at) = (at lt).1 cut
blank_fault k seg others e cut lt (misnumbered head rest i has ne) = empty_has_no_head head rest (rw (front_one refl cut).0 at has)
blank_fault k seg others e cut lt (too_many head rest i has same most) = empty_has_no_head head rest (rw (front_one refl cut).0 at has)
blank_fault k seg others e cut lt (refused head rest told i le has same unread why) = empty_has_no_head head rest (rw (front_one refl cut).0 at has)

end_fault : (k : ℕ) (seg : List ℕ) (others : List (List ℕ)) (e : ProofError) → seg ≡ codes "end" → 1 < k → ¬ LineFault k seg others e
end_fault k seg others e cut lt (headless i none at) = (at lt).0 cut
end_fault k seg others e cut lt (misnumbered head rest i has ne) = end_has_no_head head rest (subst (λ x. HasHead x head rest) cut has)
end_fault k seg others e cut lt (too_many head rest i has same most) = end_has_no_head head rest (subst (λ x. HasHead x head rest) cut has)
end_fault k seg others e cut lt (refused head rest told i le has same unread why) = end_has_no_head head rest (subst (λ x. HasHead x head rest) cut has)

line_fault : (k : ℕ) (seg : List ℕ) (others : List (List ℕ)) (l : LineTree) (e : ProofError) → k ≤ 256 → IsLineText k seg l → ¬ LineFault k seg others e
line_fault k seg others l e le t (headless i none at) = none _ _ t.head
line_fault k seg others l e le t (misnumbered head rest i has ne) = ne (ap (λ (h : Head). h.number) (head_one seg head (head_of_line k l) rest t.text has t.head).0)
line_fault k seg others l e le t (too_many head rest i has same most) = omega (arith, most, le)
line_fault k seg others l e le t (refused head rest told i le2 has same unread why) =
    unread l.formula (rw (← (head_one seg head (head_of_line k l) rest t.text has t.head).1) at t.formula)

-- what is wrong stands behind line k
abbrev IsLater : {k : ℕ} {ss : List (List ℕ)} {e : ProofError} → Wrong k ss e → Type 0
IsLater (later seg others l i le t w) = Unit {0}
IsLater _ = ⊥

-- what is wrong from line k on, where this is not one of the lines behind it, is one
first_wrong_one : (k : ℕ) (ss : List (List ℕ)) (e f : ProofError) → (a : Wrong k ss e) → (IsLater a → (seg : List ℕ) (others : List (List ℕ)) → ss ≡ seg ∷ others → IsWrong (k + 1) others e → IsWrong (k + 1) others f → e ≡ f)
    → Wrong k ss f → e ≡ f
first_wrong_one k ss e f (missing i n a) again (missing j m b) = a ∙ sym b
first_wrong_one k ss e f (missing i n a) again (endless j lt b) = absurd (omega (arith, n, lt))
first_wrong_one k ss e f (missing i n a) again (blank j lt b) = cc
first_wrong_one k ss e f (missing i n a) again (followed after j lt b) = cc
first_wrong_one k ss e f (missing i n a) again (here seg others j b) = cc
first_wrong_one k ss e f (missing i n a) again (later seg others l j le t w) = cc
first_wrong_one k ss e f (endless i lt a) again (missing j m b) = absurd (omega (arith, m, lt))
first_wrong_one k ss e f (endless i lt a) again (endless j lt2 b) = a ∙ sym b
first_wrong_one k ss e f (endless i lt a) again (blank j lt2 b) = cc
first_wrong_one k ss e f (endless i lt a) again (followed after j lt2 b) = cc
first_wrong_one k ss e f (endless i lt a) again (here seg others j b) = cc
first_wrong_one k ss e f (endless i lt a) again (later seg others l j le t w) = cc
first_wrong_one k ss e f (blank i lt a) again (missing j m b) = cc
first_wrong_one k ss e f (blank i lt a) again (endless j lt2 b) = cc
first_wrong_one k ss e f (blank i lt a) again (blank j lt2 b) = a ∙ sym b
first_wrong_one k ss e f (blank i lt a) again (followed after j lt2 b) = absurd (let z : [] ≡ codes "end" = (front_one i j).0 in cc)
first_wrong_one k ss e f (blank i lt a) again (here seg others j b) = absurd (blank_fault k seg others f (sym j ∙ i) lt b)
first_wrong_one k ss e f (blank i lt a) again (later seg others l j le t w) = absurd (empty_has_no_line k seg l (front_one j i).0 t)
first_wrong_one k ss e f (followed after i lt a) again (missing j m b) = cc
first_wrong_one k ss e f (followed after i lt a) again (endless j lt2 b) = cc
first_wrong_one k ss e f (followed after i lt a) again (blank j lt2 b) = absurd (let z : [] ≡ codes "end" = (front_one j i).0 in cc)
first_wrong_one k ss e f (followed after i lt a) again (followed after2 j lt2 b) = a ∙ sym b
first_wrong_one k ss e f (followed after i lt a) again (here seg others j b) = absurd (end_fault k seg others f (front_one j i).0 lt b)
first_wrong_one k ss e f (followed after i lt a) again (later seg others l j le t w) = absurd (end_has_no_line k seg l (front_one j i).0 t)
first_wrong_one k ss e f (here seg others i a) again (missing j m b) = cc
first_wrong_one k ss e f (here seg others i a) again (endless j lt2 b) = cc
first_wrong_one k ss e f (here seg others i a) again (blank j lt b) = absurd (blank_fault k seg others e (sym i ∙ j) lt a)
first_wrong_one k ss e f (here seg others i a) again (followed after j lt b) = absurd (end_fault k seg others e (front_one i j).0 lt a)
first_wrong_one k ss e f (here seg others i a) again (here seg2 others2 j b) =
    let cut = front_one i j in fault_one k seg others e f a (rw (← cut.0, ← cut.1) at b)
first_wrong_one k ss e f (here seg others i a) again (later seg2 others2 l j le t w) =
    let cut = front_one i j in absurd (line_fault k seg others l e le (rw (← cut.0) at t) a)
first_wrong_one k ss e f (later seg others l i le t w) again (missing j m b) = cc
first_wrong_one k ss e f (later seg others l i le t w) again (endless j lt2 b) = cc
first_wrong_one k ss e f (later seg others l i le t w) again (blank j lt b) = absurd (empty_has_no_line k seg l (front_one i j).0 t)
first_wrong_one k ss e f (later seg others l i le t w) again (followed after j lt b) = absurd (end_has_no_line k seg l (front_one i j).0 t)
first_wrong_one k ss e f (later seg others l i le t w) again (here seg2 others2 j b) =
    let cut = front_one i j in absurd (line_fault k seg others2 l f le t (rw (← cut.0) at b))
first_wrong_one k ss e f (later seg others l i le t w) again (later seg2 others2 l2 j le2 t2 w2) =
    let cut = front_one i j in again tt seg others i w (rw (← cut.1) at w2)

-- what is wrong is one
wrong_one : (k : ℕ) (ss : List (List ℕ)) (e f : ProofError) → IsWrong k ss e → IsWrong k ss f → e ≡ f
wrong_one k _ e f (text.nothing a) b = first_wrong_one k [] e f (missing refl a refl) (λ never. absurd never) (wrong_of b)
wrong_one k _ e f (text.no_end a) b = first_wrong_one k [] e f (endless refl a refl) (λ never. absurd never) (wrong_of b)
wrong_one k _ e f (text.blank_end a) b = first_wrong_one k _ e f (blank refl a refl) (λ never. absurd never) (wrong_of b)
wrong_one k _ e f (text.after {after = after} a more) b = first_wrong_one k _ e f (followed after refl a refl) (λ never. absurd never) (wrong_of b)
wrong_one k _ e f (text.bad_line {segment = seg} {others = others} none at) b =
    first_wrong_one k _ e f (here seg others refl (headless refl none at)) (λ never. absurd never) (wrong_of b)
wrong_one k _ e f (text.bad_number {segment = seg} {rest = rest} {others = others} {head = head} has ne) b =
    first_wrong_one k _ e f (here seg others refl (misnumbered head rest refl has ne)) (λ never. absurd never) (wrong_of b)
wrong_one k _ e f (text.too_many {segment = seg} {rest = rest} {others = others} {head = head} has same most) b =
    first_wrong_one k _ e f (here seg others refl (too_many head rest refl has same most)) (λ never. absurd never) (wrong_of b)
wrong_one k _ e f (text.formula {segment = seg} {rest = rest} {others = others} {head = head} {error = told} le has same none known why) b =
    first_wrong_one k _ e f (here seg others refl (refused head rest told refl le has same none why)) (λ never. absurd never) (wrong_of b)
wrong_one k _ e f (text.further {segment = seg} {line = l} {others = others} le t w) b =
    first_wrong_one k (seg ∷ others) e f (later seg others l refl le t w)
    (λ _ seg2 others2 i w2 v2. let same = (front_one i refl).1 in wrong_one (k + 1) others e f w (rw same at v2)) (wrong_of b)

wrong_header : (ss : List (List ℕ)) (e f : ProofError) → AreWrong ss e → AreWrong ss f → e ≡ f
wrong_header _ e f (text.header a) (text.header b) = refl
wrong_header _ e f (text.header a) (text.body h b) = absurd (a h)
wrong_header _ e f (text.body h a) (text.header b) = absurd (b h)
wrong_header _ e f (text.body {others = others} h a) (text.body h2 b) = wrong_one 1 others e f a b

-- a text that spells a proof is not misspelled
spelled_not_wrong : (header : List ℕ) (others ss : List (List ℕ)) (after : List (List ℕ)) (ps : List LineTree) (e : ProofError) → IsHeader header → AreLines 1 others ps after → IsTail after
    → ss ≡ header ∷ others → ¬ AreWrong ss e
spelled_not_wrong header others _ after ps e is body tail cut (text.header {segment = seg} not_header) = not_header (rw (front_one cut refl).0 at is)
spelled_not_wrong header others _ after ps e is body tail cut (text.body {others = rest} h w) = wrong_lines w ps after (rw (front_one cut refl).1 at body) tail

spelled_or_wrong : (bytes : List ℕ) (ps : List LineTree) (e : ProofError) → SpellsProof bytes ps → ¬ IsMisspelled bytes e
spelled_or_wrong bytes ps e s (inl a) = omega (arith, a.0, s.length_limit)
spelled_or_wrong bytes ps e s (inr a) = spelled_not_wrong s.header s.others (segments bytes) s.after ps e s.header_form s.body s.tail s.cut a.1

pub one_proof_error : OneProofError
one_proof_error bytes e f (inl (inl a)) (inl (inl b)) = a.1 ∙ sym b.1
one_proof_error bytes e f (inl (inl a)) (inl (inr b)) = absurd (omega (arith, a.0, b.0))
one_proof_error bytes e f (inl (inr a)) (inl (inl b)) = absurd (omega (arith, a.0, b.0))
one_proof_error bytes e f (inl (inr a)) (inl (inr b)) = wrong_header (segments bytes) e f a.1 b.1
one_proof_error bytes e f (inl a) (inr (ps, s, long, b)) = absurd (spelled_or_wrong bytes ps e s a)
one_proof_error bytes e f (inr (ps, s, long, a)) (inl b) = absurd (spelled_or_wrong bytes ps f s b)
one_proof_error bytes e f (inr (ps, s, long, a)) (inr (qs, t, long2, b)) = a ∙ sym b

pub no_proof_with_error : NoProofWithError
no_proof_with_error bytes e ps (inl a) b = spelled_or_wrong bytes ps e b.spelled a
no_proof_with_error bytes e ps (inr (qs, s, long, a)) b =
    let cut = front_one s.cut b.spelled.cut in
    let same = (lines_one 1 s.others qs ps s.after b.spelled.after s.body (rw (← cut.1) at b.spelled.body)).0 in
    let still = rw same at long in omega (arith, still, b.canonical_limit)
