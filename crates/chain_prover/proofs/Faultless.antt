-- The proof of a chain has no fault, and its label lines are labels.
use Rattle.std.proofs.Common.{◌≡◌, ◌<◌, ◌+◌, ◌⊎◌, inl, inr, ℕ, zero, suc, List, [], ◌∷◌, ◌++◌, Bool, Some, All, length, refl, sym, ap, ◌∙◌, subst, arith, length-append}
use Rattle.std.specs.List.{Contains, filter, slice_get}
use Rattle.std.proofs.lemmas.List.{map-append}
use Rattle.std.proofs.lemmas.List.Elements.{All-append, All-nil, All-cons, All-contains, filter-append}
use Rattle.std.proofs.lemmas.Option.{same_Some}
use Rattle.nal_term.specs.Trees.{TermTree, subprincipal, FormulaTree, says, speaks_for, speaks_for_on}
use Rattle.nal_term.specs.Free.{IsClosed}
use Rattle.proof_lines.specs.declared.rules.Rule.TheVariants.{Label, Ask, Hyp, Arith, SfSub, SfE, SfOnE, Handoff, HandoffOn}
use Rattle.proof_lines.specs.Lines.{LineTree}
use Rattle.nal_rules.specs.Scope.{IsInScope}
use Rattle.nal_rules.specs.Faults.{Applies, IsFaultless, IsOutOfScope, RestsOn, itself, through, formula_at, formulas_at, formulas_where, line_at}
use Rattle.nal_rules.specs.Faults.{is_label as is_label_line}
use Rattle.nal_rules.specs.declared.verdicts.Fault.TheVariants.{NoSuchRef, NotHyp, WrongShape, Capture, NotFresh, OutOfScope, NotTrue, TooManyAsks, NotAsk, NotClosed, StillOpen, NotGoal}
use Rattle.chain_prover.specs.Chains.{Step, delegation, restricted, part, Chain, start, onward, last_of, IsStep, IsChain, line, step_lines, chain_lines}
use Rattle.chain_prover.proofs.Places.{got_left, got_right, got_cases}

-- an earlier line has the formula
abbrev IsEarlier : List LineTree → ℕ → ℕ → FormulaTree → Type 0
IsEarlier lines k i g = (0 < i) × (i < k) × ((l : LineTree) × (line_at lines i ≡ Some l) × (l.formula ≡ g))

-- line k is as its rule asks
data IsRight (labels : List FormulaTree) (lines : List LineTree) (k : ℕ) : LineTree → Type 0 where
  is_label : {g : FormulaTree} → Contains labels g → IsRight labels lines k (line Label [] g)
  is_part : {x : TermTree} {n : List ℕ} → IsRight labels lines k (line SfSub [] (speaks_for x (subprincipal x n)))
  is_handoff : {i : ℕ} {x y : TermTree} → IsEarlier lines k i (says y (speaks_for x y)) → IsRight labels lines k (line Handoff (i ∷ []) (speaks_for x y))
  is_handoff_on : {i : ℕ} {x y : TermTree} {names : List (List ℕ)} → IsEarlier lines k i (says y (speaks_for_on x y names)) → IsRight labels lines k (line HandoffOn (i ∷ []) (speaks_for_on x y names))
  is_said : {i j : ℕ} {x y : TermTree} {f : FormulaTree} → IsEarlier lines k i (speaks_for x y) → IsEarlier lines k j (says x f) → IsRight labels lines k (line SfE (i ∷ j ∷ []) (says y f))
  is_said_on : {i j : ℕ} {x y : TermTree} {names : List (List ℕ)} {f : FormulaTree} → IsEarlier lines k i (speaks_for_on x y names) → IsEarlier lines k j (says x f) → IsInScope names f
      → IsRight labels lines k (line SfOnE (i ∷ j ∷ []) (says y f))

abbrev AreRight : List FormulaTree → List LineTree → Type 0
AreRight labels lines = (k : ℕ) (l : LineTree) → line_at lines k ≡ Some l → IsRight labels lines k l

-- ---- the lines of a chain are right

at_left : (lines more : List LineTree) (i : ℕ) (l : LineTree) → line_at lines i ≡ Some l → line_at (lines ++ more) i ≡ Some l
at_left lines more zero l e = absurd (cc e)
at_left lines more (suc i) l e = got_left lines more i l e

earlier_left : (lines more : List LineTree) (k i : ℕ) (g : FormulaTree) → IsEarlier lines k i g → IsEarlier (lines ++ more) k i g
earlier_left lines more k i g (positive, less, (l, e, is)) = (positive, less, (l, at_left lines more i l e, is))

right_left : (labels : List FormulaTree) (lines more : List LineTree) (k : ℕ) (l : LineTree) → IsRight labels lines k l → IsRight labels (lines ++ more) k l
right_left labels lines more k _ (is_label c) = is_label c
right_left labels lines more k _ is_part = is_part
right_left labels lines more k _ (is_handoff {i = i} e) = is_handoff (earlier_left lines more k i _ e)
right_left labels lines more k _ (is_handoff_on {i = i} e) = is_handoff_on (earlier_left lines more k i _ e)
right_left labels lines more k _ (is_said {i = i} {j = j} e d) = is_said (earlier_left lines more k i _ e) (earlier_left lines more k j _ d)
right_left labels lines more k _ (is_said_on {i = i} {j = j} e d s) = is_said_on (earlier_left lines more k i _ e) (earlier_left lines more k j _ d) s

module _ (labels : List FormulaTree) (f : FormulaTree) where
  -- what an added line has as its formula
  added : (lines more : List LineTree) (j i k : ℕ) (l : LineTree) → slice_get more j ≡ Some l → i ≡ suc (length lines + j) → i < k → IsEarlier (lines ++ more) k i l.formula
  added lines more j i k l e at less =
      (omega (arith, at), less, (l, rw at (got_right lines more j l e), refl))

  -- the last line of a chain
  last_line : (c : Chain) (k : ℕ) → length (chain_lines f c) < k → IsEarlier (chain_lines f c) k (length (chain_lines f c)) (says (last_of c) f)
  last_line (start a) k less = (omega arith, less, (line Label [] (says a f), refl, refl))
  last_line (onward c s) k less = of s less
    where
      of : (s : Step) → length (chain_lines f (onward c s)) < k → IsEarlier (chain_lines f (onward c s)) k (length (chain_lines f (onward c s))) (says (last_of (onward c s)) f)
      of (delegation y) less = added (chain_lines f c) (step_lines f (length (chain_lines f c)) (last_of c) (delegation y)) 2 _ k _ refl (omega (arith, length-append (chain_lines f c) (step_lines f (length (chain_lines f c)) (last_of c) (delegation y)))) less
      of (restricted y names) less = added (chain_lines f c) (step_lines f (length (chain_lines f c)) (last_of c) (restricted y names)) 2 _ k _ refl (omega (arith, length-append (chain_lines f c) (step_lines f (length (chain_lines f c)) (last_of c) (restricted y names)))) less
      of (part n) less = added (chain_lines f c) (step_lines f (length (chain_lines f c)) (last_of c) (part n)) 1 _ k _ refl (omega (arith, length-append (chain_lines f c) (step_lines f (length (chain_lines f c)) (last_of c) (part n)))) less

  -- in the lines of a chain with one more step, the last line before the step
  before_step : (c : Chain) (s : Step) (k : ℕ) → length (chain_lines f c) < k → IsEarlier (chain_lines f (onward c s)) k (length (chain_lines f c)) (says (last_of c) f)
  before_step c s k less =
      earlier_left (chain_lines f c) (step_lines f (length (chain_lines f c)) (last_of c) s) k (length (chain_lines f c)) (says (last_of c) f) (last_line c k less)

  -- the lines of a step are right
  step_right : (c : Chain) (s : Step) → IsStep labels f (last_of c) s → (j : ℕ) (l : LineTree) → slice_get (step_lines f (length (chain_lines f c)) (last_of c) s) j ≡ Some l
      → IsRight labels (chain_lines f (onward c s)) (suc (length (chain_lines f c) + j)) l
  step_right c (delegation y) step zero l e = subst (IsRight labels _ _) (same_Some _ l e) (is_label step)
  step_right c (delegation y) step (suc zero) l e =
      let k = length (chain_lines f c) in
      let more = step_lines f k (last_of c) (delegation y) in
      subst (IsRight labels _ _) (same_Some _ l e) (is_handoff (added (chain_lines f c) more 0 (k + 1) (suc (k + 1)) _ refl (omega arith) (omega arith)))
  step_right c (delegation y) step (suc (suc zero)) l e =
      let k = length (chain_lines f c) in
      let more = step_lines f k (last_of c) (delegation y) in
      subst (IsRight labels _ _) (same_Some _ l e)
      (is_said (added (chain_lines f c) more 1 (k + 2) (suc (k + 2)) _ refl (omega arith) (omega arith)) (before_step c (delegation y) (suc (k + 2)) (omega arith)))
  step_right c (delegation y) step (suc (suc (suc j))) l e = absurd (cc e)
  step_right c (restricted y names) step zero l e = subst (IsRight labels _ _) (same_Some _ l e) (is_label step.0)
  step_right c (restricted y names) step (suc zero) l e =
      let k = length (chain_lines f c) in
      let more = step_lines f k (last_of c) (restricted y names) in
      subst (IsRight labels _ _) (same_Some _ l e) (is_handoff_on (added (chain_lines f c) more 0 (k + 1) (suc (k + 1)) _ refl (omega arith) (omega arith)))
  step_right c (restricted y names) step (suc (suc zero)) l e =
      let k = length (chain_lines f c) in
      let more = step_lines f k (last_of c) (restricted y names) in
      subst (IsRight labels _ _) (same_Some _ l e)
      (is_said_on (added (chain_lines f c) more 1 (k + 2) (suc (k + 2)) _ refl (omega arith) (omega arith)) (before_step c (restricted y names) (suc (k + 2)) (omega arith)) step.1)
  step_right c (restricted y names) step (suc (suc (suc j))) l e = absurd (cc e)
  step_right c (part n) step zero l e = subst (IsRight labels _ _) (same_Some _ l e) is_part
  step_right c (part n) step (suc zero) l e =
      let k = length (chain_lines f c) in
      let more = step_lines f k (last_of c) (part n) in
      subst (IsRight labels _ _) (same_Some _ l e)
      (is_said (added (chain_lines f c) more 0 (k + 1) (suc (k + 1)) _ refl (omega arith) (omega arith)) (before_step c (part n) (suc (k + 1)) (omega arith)))
  step_right c (part n) step (suc (suc j)) l e = absurd (cc e)

  -- all lines of a chain are right
  chain_right : (c : Chain) → IsChain labels f c → AreRight labels (chain_lines f c)
  chain_right (start a) said zero l e = absurd (cc e)
  chain_right (start a) said (suc zero) l e = subst (IsRight labels _ _) (same_Some _ l e) (is_label said)
  chain_right (start a) said (suc (suc k)) l e = absurd (cc e)
  chain_right (onward c s) (stands, step) zero l e = absurd (cc e)
  chain_right (onward c s) (stands, step) (suc k) l e = of (chain_right c stands (suc k) l) (got_cases (chain_lines f c) (step_lines f (length (chain_lines f c)) (last_of c) s) k l e)
    where
      of : (line_at (chain_lines f c) (suc k) ≡ Some l → IsRight labels (chain_lines f c) (suc k) l)
          → (slice_get (chain_lines f c) k ≡ Some l) ⊎ ((j : ℕ) × (k ≡ length (chain_lines f c) + j) × (slice_get (step_lines f (length (chain_lines f c)) (last_of c) s) j ≡ Some l))
          → IsRight labels (chain_lines f (onward c s)) (suc k) l
      of before (inl there) = right_left labels (chain_lines f c) (step_lines f (length (chain_lines f c)) (last_of c) s) (suc k) l (before there)
      of before (inr (j, at, there)) = rw at (step_right c s step j l there)

-- ---- a right line has no fault

module _ (labels : List FormulaTree) (lines : List LineTree) (closed : All IsClosed labels) where
  -- the references are to earlier lines
  refs_earlier : (k : ℕ) (l : LineTree) → IsRight labels lines k l → All (λ i. (0 < i) × (i < k)) l.refs
  refs_earlier k _ (is_label c) = All-nil (λ i. (0 < i) × (i < k))
  refs_earlier k _ is_part = All-nil (λ i. (0 < i) × (i < k))
  refs_earlier k _ (is_handoff {i = i} e) = All-cons (λ i. (0 < i) × (i < k)) i [] (e.0, e.1) (All-nil (λ i. (0 < i) × (i < k)))
  refs_earlier k _ (is_handoff_on {i = i} e) = All-cons (λ i. (0 < i) × (i < k)) i [] (e.0, e.1) (All-nil (λ i. (0 < i) × (i < k)))
  refs_earlier k _ (is_said {i = i} {j = j} e d) =
      All-cons (λ i. (0 < i) × (i < k)) i (j ∷ []) (e.0, e.1) (All-cons (λ i. (0 < i) × (i < k)) j [] (d.0, d.1) (All-nil (λ i. (0 < i) × (i < k))))
  refs_earlier k _ (is_said_on {i = i} {j = j} e d s) =
      All-cons (λ i. (0 < i) × (i < k)) i (j ∷ []) (e.0, e.1) (All-cons (λ i. (0 < i) × (i < k)) j [] (d.0, d.1) (All-nil (λ i. (0 < i) × (i < k))))

  no_such_ref : (k : ℕ) (l : LineTree) (goal : FormulaTree) → IsRight labels lines k l → Applies lines goal k l NoSuchRef → ⊥
  no_such_ref k l goal r (i, among, inl none) = let e = All-contains (λ i. (0 < i) × (i < k)) l.refs i (refs_earlier k l r) among in omega (arith, e.0, none)
  no_such_ref k l goal r (i, among, inr late) = let e = All-contains (λ i. (0 < i) × (i < k)) l.refs i (refs_earlier k l r) among in omega (arith, e.1, late)

  not_hyp : (k : ℕ) (l : LineTree) (goal : FormulaTree) → IsRight labels lines k l → Applies lines goal k l NotHyp → ⊥
  not_hyp k _ goal (is_label c) (h, among, n) = omega (arith, among.1)
  not_hyp k _ goal is_part (h, among, n) = omega (arith, among.1)
  not_hyp k _ goal (is_handoff e) (h, among, n) = omega (arith, among.1)
  not_hyp k _ goal (is_handoff_on e) (h, among, n) = omega (arith, among.1)
  not_hyp k _ goal (is_said e d) (h, among, n) = omega (arith, among.1)
  not_hyp k _ goal (is_said_on e d s) (h, among, n) = omega (arith, among.1)

  formula_is : (k i : ℕ) (g : FormulaTree) → IsEarlier lines k i g → formula_at lines i ≡ Some g
  formula_is k i g (positive, less, (l, at, is)) = rw at (ap (λ g. Some g) is)

  one_premise : (k i : ℕ) (g : FormulaTree) → IsEarlier lines k i g → formulas_at lines (i ∷ []) ≡ Some (g ∷ [])
  one_premise k i g e = rw (formula_is k i g e) refl

  two_premises : (k i j : ℕ) (g h : FormulaTree) → IsEarlier lines k i g → IsEarlier lines k j h → formulas_at lines (i ∷ j ∷ []) ≡ Some (g ∷ h ∷ [])
  two_premises k i j g h e d = rw (formula_is k i g e, formula_is k j h d) refl

  wrong_shape : (k : ℕ) (l : LineTree) (goal : FormulaTree) → IsRight labels lines k l → Applies lines goal k l WrongShape → ⊥
  wrong_shape k _ goal (is_label c) n = n [] refl tt
  wrong_shape k _ goal (is_part {x = x} {n = p}) n = n [] refl (x, p, refl)
  wrong_shape k _ goal (is_handoff {i = i} {x = x} {y = y} e) n = n _ (one_premise k i _ e) (x, y, refl, refl)
  wrong_shape k _ goal (is_handoff_on {i = i} {x = x} {y = y} {names = names} e) n = n _ (one_premise k i _ e) (x, y, names, refl, refl)
  wrong_shape k _ goal (is_said {i = i} {j = j} {x = x} {y = y} {f = f} e d) n = n _ (two_premises k i j _ _ e d) (x, y, f, refl, refl, refl)
  wrong_shape k _ goal (is_said_on {i = i} {j = j} {x = x} {y = y} {names = names} {f = f} e d s) n = n _ (two_premises k i j _ _ e d) (x, y, names, f, refl, refl, refl)

  capture : (k : ℕ) (l : LineTree) (goal : FormulaTree) → IsRight labels lines k l → Applies lines goal k l Capture → ⊥
  capture k _ goal (is_label c) (ps, at, n) = n
  capture k _ goal is_part (ps, at, n) = n
  capture k _ goal (is_handoff e) (ps, at, n) = n
  capture k _ goal (is_handoff_on e) (ps, at, n) = n
  capture k _ goal (is_said e d) (ps, at, n) = n
  capture k _ goal (is_said_on e d s) (ps, at, n) = n

  not_fresh : (k : ℕ) (l : LineTree) (goal : FormulaTree) → IsRight labels lines k l → Applies lines goal k l NotFresh → ⊥
  not_fresh k _ goal (is_label c) n = n
  not_fresh k _ goal is_part n = n
  not_fresh k _ goal (is_handoff e) n = n
  not_fresh k _ goal (is_handoff_on e) n = n
  not_fresh k _ goal (is_said e d) n = n
  not_fresh k _ goal (is_said_on e d s) n = n

  out_of_scope : (k : ℕ) (l : LineTree) (goal : FormulaTree) → IsRight labels lines k l → Applies lines goal k l OutOfScope → ⊥
  out_of_scope k _ goal (is_label c) (ps, at, n) = n
  out_of_scope k _ goal is_part (ps, at, n) = n
  out_of_scope k _ goal (is_handoff e) (ps, at, n) = n
  out_of_scope k _ goal (is_handoff_on e) (ps, at, n) = n
  out_of_scope k _ goal (is_said e d) (ps, at, n) = n
  out_of_scope k _ goal (is_said_on {i = i} {j = j} {x = x} {y = y} {names = names} {f = f} e d s) (ps, at, n) =
      outside (subst (IsOutOfScope SfOnE) (same_Some ps _ (sym at ∙ two_premises k i j _ _ e d)) n)
    where
      outside : IsOutOfScope SfOnE (speaks_for_on x y names ∷ says x f ∷ []) → ⊥
      outside (p, q, ns, a, is, said, out) =
          let same_names : names ≡ ns = cc is in
          let same_formula : f ≡ a = cc said in
          out (subst (λ ns. IsInScope ns a) same_names (subst (λ a. IsInScope names a) same_formula s))

  not_closed : (k : ℕ) (l : LineTree) (goal : FormulaTree) → IsRight labels lines k l → Applies lines goal k l NotClosed → ⊥
  not_closed k _ goal (is_label {g = g} c) (either, n) = n (All-contains IsClosed labels g closed c)
  not_closed k _ goal is_part (inl e, n) = cc e
  not_closed k _ goal is_part (inr e, n) = cc e
  not_closed k _ goal (is_handoff e) (inl r, n) = cc r
  not_closed k _ goal (is_handoff e) (inr r, n) = cc r
  not_closed k _ goal (is_handoff_on e) (inl r, n) = cc r
  not_closed k _ goal (is_handoff_on e) (inr r, n) = cc r
  not_closed k _ goal (is_said e d) (inl r, n) = cc r
  not_closed k _ goal (is_said e d) (inr r, n) = cc r
  not_closed k _ goal (is_said_on e d s) (inl r, n) = cc r
  not_closed k _ goal (is_said_on e d s) (inr r, n) = cc r

  -- the rule of a right line is none of these
  not_arith : (k : ℕ) (l : LineTree) → IsRight labels lines k l → l.rule ≡ Arith → ⊥
  not_arith k _ (is_label c) r = cc r
  not_arith k _ is_part r = cc r
  not_arith k _ (is_handoff e) r = cc r
  not_arith k _ (is_handoff_on e) r = cc r
  not_arith k _ (is_said e d) r = cc r
  not_arith k _ (is_said_on e d s) r = cc r

  not_ask : (k : ℕ) (l : LineTree) → IsRight labels lines k l → l.rule ≡ Ask → ⊥
  not_ask k _ (is_label c) r = cc r
  not_ask k _ is_part r = cc r
  not_ask k _ (is_handoff e) r = cc r
  not_ask k _ (is_handoff_on e) r = cc r
  not_ask k _ (is_said e d) r = cc r
  not_ask k _ (is_said_on e d s) r = cc r

  no_hyp : (k : ℕ) (l : LineTree) → IsRight labels lines k l → l.rule ≡ Hyp → ⊥
  no_hyp k _ (is_label c) r = cc r
  no_hyp k _ is_part r = cc r
  no_hyp k _ (is_handoff e) r = cc r
  no_hyp k _ (is_handoff_on e) r = cc r
  no_hyp k _ (is_said e d) r = cc r
  no_hyp k _ (is_said_on e d s) r = cc r

  module _ (right : AreRight labels lines) where
    -- no line rests on a hypothesis
    rests_on_none : {k h : ℕ} → RestsOn lines k h → ⊥
    rests_on_none (itself {k = k} (l, at, r)) = no_hyp k l (right k l at) r
    rests_on_none (through at among less rests other) = rests_on_none rests

    faultless : (goal : FormulaTree) → ((l : LineTree) → line_at lines (length lines) ≡ Some l → l.formula ≡ goal) → (k : ℕ) → IsFaultless lines goal k
    faultless goal last k l at NoSuchRef a = no_such_ref k l goal (right k l at) a
    faultless goal last k l at NotHyp a = not_hyp k l goal (right k l at) a
    faultless goal last k l at WrongShape a = wrong_shape k l goal (right k l at) a
    faultless goal last k l at Capture a = capture k l goal (right k l at) a
    faultless goal last k l at NotFresh a = not_fresh k l goal (right k l at) a
    faultless goal last k l at OutOfScope a = out_of_scope k l goal (right k l at) a
    faultless goal last k l at NotTrue a = not_arith k l (right k l at) a.0
    faultless goal last k l at TooManyAsks a = not_ask k l (right k l at) a.0
    faultless goal last k l at NotAsk a = not_ask k l (right k l at) a.0
    faultless goal last k l at NotClosed a = not_closed k l goal (right k l at) a
    faultless goal last k l at StillOpen a = rests_on_none a.1.1
    faultless goal last k l at NotGoal a = a.1 (last l (subst (λ k. line_at lines k ≡ Some l) a.0 at))

-- the proof of a chain has no fault
pub chain_faultless : (labels : List FormulaTree) (f : FormulaTree) (c : Chain) → All IsClosed labels → IsChain labels f c → (k : ℕ) → IsFaultless (chain_lines f c) (says (last_of c) f) k
chain_faultless labels f c closed stands = faultless labels (chain_lines f c) closed (chain_right labels f c stands) (says (last_of c) f) last
  where
    last : (l : LineTree) → line_at (chain_lines f c) (length (chain_lines f c)) ≡ Some l → l.formula ≡ says (last_of c) f
    last l at =
        let (positive, less, (m, there, is)) = last_line labels f c (length (chain_lines f c) + 1) (omega arith) in
        ap (λ (l : LineTree). l.formula) (same_Some l m (sym at ∙ there)) ∙ is

-- its label lines are labels
step_labels : (labels : List FormulaTree) (f : FormulaTree) (k : ℕ) (x : TermTree) (s : Step) → IsStep labels f x s → All (Contains labels) (formulas_where is_label_line (step_lines f k x s))
step_labels labels f k x (delegation y) step = All-cons (Contains labels) _ [] step (All-nil (Contains labels))
step_labels labels f k x (restricted y names) step = All-cons (Contains labels) _ [] step.0 (All-nil (Contains labels))
step_labels labels f k x (part n) step = All-nil (Contains labels)

where_append : (p : LineTree → Bool) (ls ms : List LineTree) → formulas_where p (ls ++ ms) ≡ formulas_where p ls ++ formulas_where p ms
where_append p ls ms = rw (filter-append p ls ms) (map-append (λ (l : LineTree). l.formula) (filter p ls) (filter p ms))

pub chain_labels : (labels : List FormulaTree) (f : FormulaTree) (c : Chain) → IsChain labels f c → All (Contains labels) (formulas_where is_label_line (chain_lines f c))
chain_labels labels f (start a) said = All-cons (Contains labels) _ [] said (All-nil (Contains labels))
chain_labels labels f (onward c s) (stands, step) =
    rw (where_append is_label_line (chain_lines f c) (step_lines f (length (chain_lines f c)) (last_of c) s))
    (All-append (Contains labels) (formulas_where is_label_line (chain_lines f c)) (formulas_where is_label_line (step_lines f (length (chain_lines f c)) (last_of c) s))
    (chain_labels labels f c stands) (step_labels labels f (length (chain_lines f c)) (last_of c) s step))
