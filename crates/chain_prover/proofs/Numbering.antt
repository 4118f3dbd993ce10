-- Principals and their numbers.
use Rattle.std.proofs.Common.{◌≡◌, ◌<◌, ◌+◌, ◌⊎◌, inl, inr, ℕ, List, [], ◌∷◌, ◌++◌, Bool, true, false, cond, Option, Some, None, ◌%◌, length, set, refl, sym, ap, ◌∙◌, subst, arith}
use Rattle.std.specs.Borrow.{Bor}
use Rattle.std.specs.List.{slice_get}
use Rattle.std.specs.Option.{MatchOption}
use Rattle.std.specs.HashMap.{HashMap}
use Rattle.std.proofs.lemmas.Option.{same_Some, slice_get_within}
use Rattle.std.proofs.lemmas.List.{length-set}
use Rattle.nal_term.specs.declared.terms.Term.{Term}
use Rattle.nal_term.specs.Trees.{TermTree, term_tree}
use Rattle.nal_term.specs.TreeKeys.{same_terms, same_terms-Decides}
use Rattle.chain_prover.specs.Inner.Numbers.{AreNumbered, AreWith, IsNumber, number_in, size_of, with_one_more}
use Rattle.chain_prover.specs.declared.principals.OfSize.{OfSize}
use Rattle.chain_prover.specs.declared.principals.OfSize.TheVariants.{Nobody, One, Several}
use Rattle.chain_prover.proofs.Places.{got_cases, got_left, got_one, got_right, got_set, got_written}

-- one principal has a number
pub one_principal : (terms : List (Bor Term)) (i : ℕ) (x y : TermTree) → IsNumber terms i x → IsNumber terms i y → x ≡ y
one_principal terms i x y (t, at, e) (u, at', d) = let s : t ≡ u = same_Some t u (sym at ∙ at') in sym e ∙ ap (λ (v : Bor Term). term_tree v.now) s ∙ d

-- what was read at a number
pub number_of_read : (terms : List (Bor Term)) (i : ℕ) (t : Bor Term) (x : TermTree) → slice_get terms i ≡ Some t → IsNumber terms i x → term_tree t.now ≡ x
number_of_read terms i t x at n = one_principal terms i (term_tree t.now) x (t, at, refl) n

pub number_left : (terms more : List (Bor Term)) (i : ℕ) (x : TermTree) → IsNumber terms i x → IsNumber (terms ++ more) i x
number_left terms more i x (t, at, e) = (t, got_left terms more i t at, e)

pub number_within : (terms : List (Bor Term)) (i : ℕ) (x : TermTree) → IsNumber terms i x → i < length terms
number_within terms i x (t, at, e) = slice_get_within terms i t at

-- the principal that was added last
last : (terms : List (Bor Term)) (t : Bor Term) → slice_get (terms ++ t ∷ []) (length terms) ≡ Some t
last terms t = let s : length terms + 0 ≡ length terms = omega arith in subst (λ i. slice_get (terms ++ t ∷ []) i ≡ Some t) s (got_right terms (t ∷ []) 0 t refl)

pub number_pushed : (terms : List (Bor Term)) (t : Bor Term) → IsNumber (terms ++ t ∷ []) (length terms) (term_tree t.now)
number_pushed terms t = (t, last terms t, refl)

still_with : (those : OfSize) (n i : ℕ) → AreWith those i → AreWith (with_one_more those n) i
still_with Nobody n i h = absurd h
still_with (One j) n i h = tt
still_with Several n i h = tt

now_with : (those : OfSize) (n : ℕ) → AreWith (with_one_more those n) n
now_with Nobody n = refl
now_with (One j) n = tt
now_with Several n = tt

module _ {S : Type 0} (terms : List (Bor Term)) (m : HashMap (Bor Term) ℕ S) (sizes : List OfSize) (h : AreNumbered terms m sizes) where
  -- a principal has one number
  pub one_number : (i j : ℕ) (x : TermTree) → IsNumber terms i x → IsNumber terms j x → i ≡ j
  one_number i j x (t, at, e) n = same_Some i j (sym (h.all t i (t, at, refl)) ∙ h.all t j (subst (λ y. IsNumber terms j y) (sym e) n))

  -- what the map tells
  pub found_told : (r : Option ℕ) (q : Bor Term) → r ≡ number_in m q → MatchOption r ((i : ℕ) → IsNumber terms i (term_tree q.now) → ⊥) (λ i. IsNumber terms i (term_tree q.now))
  found_told None q e = λ i n. absurd (cc (e, h.all q i n))
  found_told (Some i) q e = h.right q i (sym e)

  -- a principal of the size that nobody has, or that another one alone has, has no number
  pub nobody_told : (k : ℕ) (q : Bor Term) → k ≡ size_of (term_tree q.now) → slice_get sizes (k % 512) ≡ Some Nobody → (i : ℕ) → IsNumber terms i (term_tree q.now) → ⊥
  nobody_told k q size read i (t, at, e) = h.sized i t at Nobody (subst (λ s. slice_get sizes (s % 512) ≡ Some Nobody) (size ∙ ap size_of (sym e)) read)

  pub other_told : (k : ℕ) (q : Bor Term) (j : ℕ) → k ≡ size_of (term_tree q.now) → slice_get sizes (k % 512) ≡ Some (One j) → (IsNumber terms j (term_tree q.now) → ⊥) → (i : ℕ) → IsNumber terms i (term_tree q.now) → ⊥
  other_told k q j size read other i (t, at, e) =
      let same : i ≡ j = h.sized i t at (One j) (subst (λ s. slice_get sizes (s % 512) ≡ Some (One j)) (size ∙ ap size_of (sym e)) read) in
      other (subst (λ i. IsNumber terms i (term_tree q.now)) same (t, at, e))

  module _ (n : HashMap (Bor Term) ℕ S) (t : Bor Term) (k : ℕ) (new : number_in m t ≡ None)
      (updated : (q : Bor Term) → number_in n q ≡ cond (same_terms (term_tree t.now) (term_tree q.now)) (Some (length terms)) (number_in m q)) (size : k ≡ size_of (term_tree t.now)) where
    right : (q : Bor Term) (i : ℕ) → number_in n q ≡ Some i → IsNumber (terms ++ t ∷ []) i (term_tree q.now)
    right q i e = of (same_terms (term_tree t.now) (term_tree q.now)) refl (sym (updated q) ∙ e)
      where
        of : (b : Bool) → same_terms (term_tree t.now) (term_tree q.now) ≡ b → cond b (Some (length terms)) (number_in m q) ≡ Some i → IsNumber (terms ++ t ∷ []) i (term_tree q.now)
        of true same is =
            let here : length terms ≡ i = same_Some (length terms) i is in
            subst (λ i. IsNumber (terms ++ t ∷ []) i (term_tree q.now)) here (t, last terms t, (same_terms-Decides (term_tree t.now) (term_tree q.now)).0 same)
        of false same is = number_left terms (t ∷ []) i (term_tree q.now) (h.right q i is)

    all : (q : Bor Term) (i : ℕ) → IsNumber (terms ++ t ∷ []) i (term_tree q.now) → number_in n q ≡ Some i
    all q i (u, at, e) = updated q ∙ of (got_cases terms (t ∷ []) i u at) (same_terms (term_tree t.now) (term_tree q.now)) refl
      where
        of : (slice_get terms i ≡ Some u) ⊎ ((j : ℕ) × (i ≡ length terms + j) × (slice_get (t ∷ []) j ≡ Some u)) → (b : Bool) → same_terms (term_tree t.now) (term_tree q.now) ≡ b
            → cond b (Some (length terms)) (number_in m q) ≡ Some i
        of (inl there) true same =
            let is : term_tree t.now ≡ term_tree q.now = (same_terms-Decides (term_tree t.now) (term_tree q.now)).0 same in
            absurd (cc (new, h.all t i (u, there, e ∙ sym is)))
        of (inl there) false same = h.all q i (u, there, e)
        of (inr (j, far, there)) true same = let within = slice_get_within (t ∷ []) j u there in let here : length terms ≡ i = omega (arith, within, far) in ap (λ k. Some k) here
        of (inr (j, far, there)) false same =
            let is : term_tree t.now ≡ term_tree q.now = ap (λ (v : Bor Term). term_tree v.now) (got_one t j u there) ∙ e in
            absurd (cc (same, (same_terms-Decides (term_tree t.now) (term_tree q.now)).1 is))

    -- those of its size, before
    module _ (those : OfSize) (read : slice_get sizes (k % 512) ≡ Some those) where
      written : slice_get (set sizes (k % 512) (with_one_more those (length terms))) (k % 512) ≡ Some (with_one_more those (length terms))
      written = let c = h.count in got_written sizes (k % 512) (with_one_more those (length terms)) (omega (arith, c))

      sized : (i : ℕ) (u : Bor Term) → slice_get (terms ++ t ∷ []) i ≡ Some u → (now : OfSize) → slice_get (set sizes (k % 512) (with_one_more those (length terms))) (size_of (term_tree u.now) % 512) ≡ Some now → AreWith now i
      sized i u at now is = of (got_cases terms (t ∷ []) i u at)
        where
          of : (slice_get terms i ≡ Some u) ⊎ ((j : ℕ) × (i ≡ length terms + j) × (slice_get (t ∷ []) j ≡ Some u)) → AreWith now i
          of (inl there) = old (got_set sizes (k % 512) (with_one_more those (length terms)) (size_of (term_tree u.now) % 512) now is)
            where
              old : (size_of (term_tree u.now) % 512 ≡ k % 512) ⊎ (slice_get sizes (size_of (term_tree u.now) % 512) ≡ Some now) → AreWith now i
              old (inl same) =
                  let before = h.sized i u there those (subst (λ j. slice_get sizes j ≡ Some those) (sym same) read) in
                  let e : with_one_more those (length terms) ≡ now = same_Some (with_one_more those (length terms)) now (sym written ∙ subst (λ j. slice_get (set sizes (k % 512) (with_one_more those (length terms))) j ≡ Some now) same is) in
                  subst (λ o. AreWith o i) e (still_with those (length terms) i before)
              old (inr as_before) = h.sized i u there now as_before
          of (inr (j, far, there)) =
              let within = slice_get_within (t ∷ []) j u there in
              let here : length terms ≡ i = omega (arith, within, far) in
              let its : size_of (term_tree u.now) ≡ k = ap (λ (v : Bor Term). size_of (term_tree v.now)) (sym (got_one t j u there)) ∙ sym size in
              let e : with_one_more those (length terms) ≡ now = same_Some (with_one_more those (length terms)) now (sym written ∙ subst (λ s. slice_get (set sizes (k % 512) (with_one_more those (length terms))) (s % 512) ≡ Some now) its is) in
              subst (λ o. AreWith o i) e (subst (λ i. AreWith (with_one_more those (length terms)) i) here (now_with those (length terms)))

      pub numbered_push : AreNumbered (terms ++ t ∷ []) n (set sizes (k % 512) (with_one_more those (length terms)))
      numbered_push = record { right = right; all = all; sized = sized; count = length-set sizes (k % 512) (with_one_more those (length terms)) ∙ h.count }
