-- What is known of principals while labels are read.
use Rattle.std.proofs.Common.{◌≡◌, ◌<◌, ◌+◌, ◌⊎◌, inl, inr, ℕ, List, [], ◌∷◌, ◌++◌, Bool, true, false, Some, Result, Ok, Err, length, map, set, refl, sym, ap, ◌∙◌, subst, arith, length-append}
use Rattle.std.specs.Borrow.{Bor}
use Rattle.std.specs.Result.{OnOk}
use Rattle.std.specs.List.{Contains, slice_get}
use Rattle.std.proofs.lemmas.List.{length-set}
use Rattle.std.proofs.lemmas.Option.{slice_get_within}
use Rattle.nal_term.specs.declared.terms.Term.{Term}
use Rattle.nal_term.specs.Trees.{TermTree, FormulaTree, formula_tree, says}
use Rattle.chain_prover.specs.declared.facts.Facts.{Facts}
use Rattle.chain_prover.specs.declared.facts.Delegation.{Delegation}
use Rattle.chain_prover.specs.Chains.{Step, delegation, restricted, part, next, IsStep}
use Rattle.chain_prover.specs.Inner.Numbers.{AreNumbered, IsNumber}
use Rattle.chain_prover.specs.Inner.Paths.{Grants, grant_step}
use Rattle.chain_prover.specs.Inner.Knowing.{AreRight, Covers, IsDelegated, IsRightDelegation, IsStating, Keeps, labels_of, statement_of, terms_of}
use Rattle.chain_prover.proofs.Numbering.{number_left, number_within, one_principal}
use Rattle.chain_prover.proofs.Places.{got_cases, got_left, got_one, got_right, got_set, got_set_here, got_set_true}

pub keeps_none : (facts : Facts) → Keeps facts facts
keeps_none facts = record { labels = refl; statement = refl; number = λ i x n. n; stating = λ i s. s; delegations = λ j d at. at }

pub keeps_twice : (before between after : Facts) → Keeps before between → Keeps between after → Keeps before after
keeps_twice before between after h k = record {
  labels = k.labels ∙ h.labels;
  statement = k.statement ∙ h.statement;
  number = λ i x n. k.number i x (h.number i x n);
  stating = λ i s. k.stating i (h.stating i s);
  delegations = λ j d at. k.delegations j d (h.delegations j d at);
}

pub keeps_next : {T E : Type 0} (before between after : Facts) (r : Result T E) → Keeps before between → OnOk r (Keeps between after) → OnOk r (Keeps before after)
keeps_next before between after (Ok x) h k = keeps_twice before between after h k
keeps_next before between after (Err e) h k = k

module _ (before after : Facts) (k : Keeps before after) where
  pub delegated_after : (y x : TermTree) → IsDelegated before y x → IsDelegated after y x
  delegated_after y x (j, d, at, owner, speaker) = (j, d, k.delegations j d at, k.number d.owner y owner, k.number d.speaker x speaker)

  pub stating_after : (y : TermTree) → IsStating before y → IsStating after y
  stating_after y (i, n, s) = (i, k.number i y n, k.stating i s)

  pub covers_after : (label : FormulaTree) → Covers before label → Covers after label
  covers_after label h = record {
    states = λ y e. stating_after y (h.states y (e ∙ ap (λ f. says y f) k.statement));
    grants = λ x s g. delegated_after (next x s) x (h.grants x s (subst (λ f. Grants f label x s) k.statement g));
  }

  pub right_told : (d : Delegation) (y x : TermTree) → IsNumber (terms_of before) d.owner y → IsNumber (terms_of before) d.speaker x → IsStep (labels_of before) (statement_of before) x (grant_step y d.scope)
      → slice_get after.granting.items d.owner ≡ Some true → IsRightDelegation after d
  right_told d y x owner speaker step marked = record {
    owner = y;
    speaker = x;
    owner_is = k.number d.owner y owner;
    speaker_is = k.number d.speaker x speaker;
    step = subst (λ ls. IsStep ls (statement_of after) x (grant_step y d.scope)) (sym k.labels) (subst (λ f. IsStep (labels_of before) f x (grant_step y d.scope)) (sym k.statement) step);
    marked = marked;
  }

  pub right_delegation_after : (d : Delegation) → IsRightDelegation before d → slice_get after.granting.items d.owner ≡ Some true → IsRightDelegation after d
  right_delegation_after d h marked = right_told d h.owner h.speaker h.owner_is h.speaker_is h.step marked

-- one that has a number below another's end had it before
number_before : (terms more : List (Bor Term)) (i : ℕ) (x : TermTree) → i < length terms → IsNumber (terms ++ more) i x → IsNumber terms i x
number_before terms more i x within (t, at, e) = of (got_cases terms more i t at)
  where
    of : (slice_get terms i ≡ Some t) ⊎ ((j : ℕ) × (i ≡ length terms + j) × (slice_get more j ≡ Some t)) → IsNumber terms i x
    of (inl there) = (t, there, e)
    of (inr (j, far, there)) = absurd (omega (arith, within, far))

-- no mark is among these
abbrev HasNoMark : List Bool → Type 0
HasNoMark marks = (j : ℕ) → slice_get marks j ≡ Some true → ⊥

pub no_mark : HasNoMark []
no_mark j e = absurd (cc e)

pub one_unmarked : HasNoMark (false ∷ [])
one_unmarked j e = let s : false ≡ true = got_one false j true e in absurd (cc s)

-- principals were numbered
module _ (before after : Facts) (more : List (Bor Term)) (marks marks' : List Bool)
    (labels : after.labels.now ≡ before.labels.now) (statement : after.statement.now ≡ before.statement.now) (terms : terms_of after ≡ terms_of before ++ more)
    (stating : after.stating.items ≡ before.stating.items ++ marks) (granting : after.granting.items ≡ before.granting.items ++ marks') (delegations : after.delegations.items ≡ before.delegations.items) where
  pub keeps_numbering : Keeps before after
  keeps_numbering = record {
    labels = ap (λ ls. map formula_tree ls) labels;
    statement = ap formula_tree statement;
    number = λ i x n. subst (λ ts. IsNumber ts i x) (sym terms) (number_left (terms_of before) more i x n);
    stating = λ i s. subst (λ ms. slice_get ms i ≡ Some true) (sym stating) (got_left before.stating.items marks i true s);
    delegations = λ j d at. subst (λ ds. slice_get ds j ≡ Some d) (sym delegations) at;
  }

  pub right_numbering : AreRight before → AreNumbered (terms_of after) after.principals.numbers after.principals.sizes.items → HasNoMark marks → length marks ≡ length more → length marks' ≡ length more → AreRight after
  right_numbering h numbered none count count' = record {
    numbered = numbered;
    stating_count = ap length stating ∙ length-append before.stating.items marks ∙ (let c = h.stating_count in let s : length before.stating.items + length marks ≡ length (terms_of before) + length more = omega (arith, c, count) in s) ∙ sym (length-append (terms_of before) more) ∙ sym (ap length terms);
    granting_count = ap length granting ∙ length-append before.granting.items marks' ∙ (let c = h.granting_count in let s : length before.granting.items + length marks' ≡ length (terms_of before) + length more = omega (arith, c, count') in s) ∙ sym (length-append (terms_of before) more) ∙ sym (ap length terms);
    stating = λ i x n s. of i x (subst (λ ts. IsNumber ts i x) terms n) (got_cases before.stating.items marks i true (subst (λ ms. slice_get ms i ≡ Some true) stating s));
    delegations = λ j d at. let r = h.delegations j d (subst (λ ds. slice_get ds j ≡ Some d) delegations at) in
        right_delegation_after before after keeps_numbering d r (subst (λ ms. slice_get ms d.owner ≡ Some true) (sym granting) (got_left before.granting.items marks' d.owner true r.marked));
  }
    where
      of : (i : ℕ) (x : TermTree) → IsNumber (terms_of before ++ more) i x → (slice_get before.stating.items i ≡ Some true) ⊎ ((j : ℕ) × (i ≡ length before.stating.items + j) × (slice_get marks j ≡ Some true))
          → Contains (labels_of after) (says x (statement_of after))
      of i x n (inl there) =
          let w = slice_get_within before.stating.items i true there in
          let c = h.stating_count in
          let k = keeps_numbering in
          subst (λ ls. Contains ls (says x (statement_of after))) (sym k.labels) (subst (λ f. Contains (labels_of before) (says x f)) (sym k.statement)
          (h.stating i x (number_before (terms_of before) more i x (omega (arith, w, c)) n) there))
      of i x n (inr (j, far, there)) = absurd (none j there)

-- a principal is marked as one who states the statement
module _ (before after : Facts) (i : ℕ) (y : TermTree) (n : IsNumber (terms_of before) i y) (labels : after.labels.now ≡ before.labels.now) (statement : after.statement.now ≡ before.statement.now)
    (principals : after.principals ≡ before.principals) (stating : after.stating.items ≡ set before.stating.items i true) (granting : after.granting.items ≡ before.granting.items)
    (delegations : after.delegations.items ≡ before.delegations.items) where
  pub keeps_stating : Keeps before after
  keeps_stating = record {
    labels = ap (λ ls. map formula_tree ls) labels;
    statement = ap formula_tree statement;
    number = λ j x n. subst (λ ps. IsNumber ps.terms.items j x) (sym principals) n;
    stating = λ j s. subst (λ ms. slice_get ms j ≡ Some true) (sym stating) (got_set_true before.stating.items i j s);
    delegations = λ j d at. subst (λ ds. slice_get ds j ≡ Some d) (sym delegations) at;
  }

  pub right_stating : AreRight before → Contains (labels_of before) (says y (statement_of before)) → AreRight after
  right_stating h states = record {
    numbered = subst (λ ps. AreNumbered ps.terms.items ps.numbers ps.sizes.items) (sym principals) h.numbered;
    stating_count = ap length stating ∙ length-set before.stating.items i true ∙ h.stating_count ∙ ap (λ ps. length ps.terms.items) (sym principals);
    granting_count = ap length granting ∙ h.granting_count ∙ ap (λ ps. length ps.terms.items) (sym principals);
    stating = λ j x m s. let k = keeps_stating in
        subst (λ ls. Contains ls (says x (statement_of after))) (sym k.labels) (subst (λ f. Contains (labels_of before) (says x f)) (sym k.statement)
        (of j x (subst (λ ps. IsNumber ps.terms.items j x) principals m) (got_set before.stating.items i true j true (subst (λ ms. slice_get ms j ≡ Some true) stating s))));
    delegations = λ j d at. let r = h.delegations j d (subst (λ ds. slice_get ds j ≡ Some d) delegations at) in
        right_delegation_after before after keeps_stating d r (subst (λ ms. slice_get ms d.owner ≡ Some true) (sym granting) r.marked);
  }
    where
      of : (j : ℕ) (x : TermTree) → IsNumber (terms_of before) j x → (j ≡ i) ⊎ (slice_get before.stating.items j ≡ Some true) → Contains (labels_of before) (says x (statement_of before))
      of j x m (inl same) = subst (λ x. Contains (labels_of before) (says x (statement_of before))) (one_principal (terms_of before) i y x n (subst (λ j. IsNumber (terms_of before) j x) same m)) states
      of j x m (inr there) = h.stating j x m there

  pub stating_told : AreRight before → IsStating after y
  stating_told h = (
    i,
    subst (λ ps. IsNumber ps.terms.items i y) (sym principals) n,
    subst (λ ms. slice_get ms i ≡ Some true) (sym stating) (got_set_here before.stating.items i (let w = number_within (terms_of before) i y n in let c = h.stating_count in omega (arith, w, c))),
  )

-- a delegation was added
module _ (before after : Facts) (e : Delegation) (y x : TermTree) (owner : IsNumber (terms_of before) e.owner y) (speaker : IsNumber (terms_of before) e.speaker x)
    (labels : after.labels.now ≡ before.labels.now) (statement : after.statement.now ≡ before.statement.now) (principals : after.principals ≡ before.principals)
    (stating : after.stating.items ≡ before.stating.items) (granting : after.granting.items ≡ set before.granting.items e.owner true) (delegations : after.delegations.items ≡ before.delegations.items ++ e ∷ []) where
  pub keeps_delegating : Keeps before after
  keeps_delegating = record {
    labels = ap (λ ls. map formula_tree ls) labels;
    statement = ap formula_tree statement;
    number = λ j x n. subst (λ ps. IsNumber ps.terms.items j x) (sym principals) n;
    stating = λ j s. subst (λ ms. slice_get ms j ≡ Some true) (sym stating) s;
    delegations = λ j d at. subst (λ ds. slice_get ds j ≡ Some d) (sym delegations) (got_left before.delegations.items (e ∷ []) j d at);
  }

  pub right_delegating : AreRight before → IsStep (labels_of before) (statement_of before) x (grant_step y e.scope) → AreRight after
  right_delegating h step = record {
    numbered = subst (λ ps. AreNumbered ps.terms.items ps.numbers ps.sizes.items) (sym principals) h.numbered;
    stating_count = ap length stating ∙ h.stating_count ∙ ap (λ ps. length ps.terms.items) (sym principals);
    granting_count = ap length granting ∙ length-set before.granting.items e.owner true ∙ h.granting_count ∙ ap (λ ps. length ps.terms.items) (sym principals);
    stating = λ j x m s. let k = keeps_delegating in
        subst (λ ls. Contains ls (says x (statement_of after))) (sym k.labels) (subst (λ f. Contains (labels_of before) (says x f)) (sym k.statement)
        (h.stating j x (subst (λ ps. IsNumber ps.terms.items j x) principals m) (subst (λ ms. slice_get ms j ≡ Some true) stating s)));
    delegations = λ j d at. of d (got_cases before.delegations.items (e ∷ []) j d (subst (λ ds. slice_get ds j ≡ Some d) delegations at));
  }
    where
      here : slice_get after.granting.items e.owner ≡ Some true
      here = let w = number_within (terms_of before) e.owner y owner in let c = h.granting_count in
          subst (λ ms. slice_get ms e.owner ≡ Some true) (sym granting) (got_set_here before.granting.items e.owner (omega (arith, w, c)))

      of : {j : ℕ} → (d : Delegation) → (slice_get before.delegations.items j ≡ Some d) ⊎ ((l : ℕ) × (j ≡ length before.delegations.items + l) × (slice_get (e ∷ []) l ≡ Some d)) → IsRightDelegation after d
      of {j = j} d (inl there) = let r = h.delegations j d there in
          right_delegation_after before after keeps_delegating d r (subst (λ ms. slice_get ms d.owner ≡ Some true) (sym granting) (got_set_true before.granting.items e.owner d.owner r.marked))
      of d (inr (l, far, there)) =
          subst (λ d. IsRightDelegation after d) (got_one e l d there)
          (right_told before after keeps_delegating e y x owner speaker step here)

  pub delegation_told : IsDelegated after y x
  delegation_told = (
    length before.delegations.items + 0,
    e,
    subst (λ ds. slice_get ds (length before.delegations.items + 0) ≡ Some e) (sym delegations) (got_right before.delegations.items (e ∷ []) 0 e refl),
    keeps_delegating.number e.owner y owner,
    keeps_delegating.number e.speaker x speaker,
  )

-- whoever says a delegation by which a statement goes on is the one to whom it goes
pub granting_owner : (f g : FormulaTree) (y x : TermTree) (s : Step) → Grants f (says y g) x s → next x s ≡ y
granting_owner f g y x (delegation z) h = cc h
granting_owner f g y x (restricted z names) h = let e = h.0 in cc e
granting_owner f g y x (part n) h = absurd h

pub step_after : (before after : Facts) → Keeps before after → (x : TermTree) (s : Step) → IsStep (labels_of before) (statement_of before) x s → IsStep (labels_of after) (statement_of after) x s
step_after before after k x s step =
    subst (λ ls. IsStep ls (statement_of after) x s) (sym k.labels) (subst (λ f. IsStep (labels_of before) f x s) (sym k.statement) step)

pub among_after : (before after : Facts) → Keeps before after → (g : FormulaTree) → Contains (labels_of before) g → Contains (labels_of after) g
among_after before after k g among = subst (λ ls. Contains ls g) (sym k.labels) among
