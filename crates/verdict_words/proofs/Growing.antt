-- Histories that grow.
use Rattle.std.proofs.Common.{◌≡◌, ◌≢◌, ◌⊎◌, ℕ, zero, suc, ◌≤◌, List, [], ◌∷◌, ◌++◌, length, take, refl, sym, ap, ◌∙◌, subst, inl, inr, ⊎_elim, arith, length-append}
use Rattle.std.specs.Prelude.{All, cond, ◌==◌, not}
use Rattle.std.proofs.lemmas.List.{append-nil, append_assoc, take-append-le}
use Rattle.std.proofs.lemmas.List.Elements.{All-cons, All-nil}
use Rattle.std.proofs.lemmas.Bool.{ne_eqb, eq-eqb}
use mathlib.Core.Logic.{dite}
use native.Mathlib.Decide.{ℕ_discrete}
use Rattle.verdict_words.specs.Histories.{IsPrefix, EachFrom, own}
use Rattle.verdict_words.specs.Settling.{without}

module _ {E : Type 0} where
  pub prefix_whole : (xs : List E) → IsPrefix xs xs
  prefix_whole xs = ([], sym (append-nil xs))

  pub prefix_grows : (xs ys more : List E) → IsPrefix xs ys → IsPrefix xs (ys ++ more)
  prefix_grows xs ys more p = (p.0 ++ more, ap (λ l. l ++ more) p.1 ∙ append_assoc xs p.0 more)

  pub prefix_through : (xs ys zs : List E) → IsPrefix xs ys → IsPrefix ys zs → IsPrefix xs zs
  prefix_through xs ys zs p q = (p.0 ++ q.0, q.1 ∙ ap (λ l. l ++ q.0) p.1 ∙ append_assoc xs p.0 q.0)

  pub prefix_length : (xs ys : List E) → IsPrefix xs ys → length xs ≤ length ys
  prefix_length xs ys p = omega (arith, ap length p.1, length-append xs p.0)

  pub prefix_take : (xs ys : List E) (n : ℕ) → IsPrefix xs ys → n ≤ length xs → take n ys ≡ take n xs
  prefix_take xs ys n p h = ap (take n) p.1 ∙ take-append-le n xs p.0 h

  pub take_whole : (xs : List E) (n : ℕ) → n ≡ length xs → take n xs ≡ xs
  take_whole [] zero e = refl
  take_whole [] (suc n) e = refl
  take_whole (x ∷ xs) zero e = absurd (omega arith)
  take_whole (x ∷ xs) (suc n) e = ap (λ l. x ∷ l) (take_whole xs n (omega arith))

  -- an entry of a list with one more at its end is the last one, or stands in the list
  pub last_or_before : (xs : List E) (e : E) (before : List E) (x : E) (after : List E) → xs ++ e ∷ [] ≡ before ++ x ∷ after
      → ((before ≡ xs) × (x ≡ e)) ⊎ ((rest : List E) × (xs ≡ before ++ x ∷ rest))
  last_or_before [] e [] x after eq = inl (refl, cc)
  last_or_before [] e (b ∷ bs) x after eq = absurd (omega (arith, ap length eq, length-append bs (x ∷ after)))
  last_or_before (y ∷ ys) e [] x after eq = inr (ys, cc)
  last_or_before (y ∷ ys) e (b ∷ bs) x after eq =
      ⊎_elim (λ t. inl (let t₀ = t.0 in cc, t.1)) (λ t. inr (t.0, let t₁ = t.1 in cc)) (last_or_before ys e bs x after cc)

  module _ (F : List E → E → Type 0) where
    pub each_prefix : (from : ℕ) (xs ys : List E) → IsPrefix xs ys → EachFrom from ys F → EachFrom from xs F
    each_prefix from xs ys p each before e after eq =
        each before e (after ++ p.0) (p.1 ∙ ap (λ l. l ++ p.0) eq ∙ append_assoc before (e ∷ after) p.0)

    pub each_none : (from : ℕ) (xs : List E) → length xs ≤ from → EachFrom from xs F
    each_none from xs long before e after eq far = absurd (omega (arith, ap length eq, length-append before (e ∷ after)))

    pub each_later : (from later : ℕ) (xs : List E) → from ≤ later → EachFrom from xs F → EachFrom later xs F
    each_later from later xs le each before e after eq far = each before e after eq (omega arith)

    pub each_snoc : (from : ℕ) (xs : List E) (e : E) → EachFrom from xs F → F xs e → EachFrom from (xs ++ e ∷ []) F
    each_snoc from xs e each last before x after eq far =
        ⊎_elim (λ (t : (before ≡ xs) × (x ≡ e)). subst (λ (z : List E × E). F z.0 z.1) (λ i. (sym t.0 i, sym t.1 i)) last) (λ (t : (rest : List E) × (xs ≡ before ++ x ∷ rest)). each before x t.0 t.1 far)
        (last_or_before xs e before x after eq)

  pub each_of_all : (P : E → Type 0) (xs : List E) → All P xs → EachFrom 0 xs (λ before e. P e)
  each_of_all P xs all before e after eq far = go before (subst (All P) eq all)
    where
      go : (bs : List E) → All P (bs ++ e ∷ after) → P e
      go [] h = h 0 e (omega arith)
      go (b ∷ bs) h = go bs (λ k d lt. h (suc k) d (omega arith))

  pub all_of_each : (P : E → Type 0) (xs : List E) → EachFrom 0 xs (λ before e. P e) → All P xs
  all_of_each P [] each = All-nil P
  all_of_each P (x ∷ xs) each = All-cons P x xs (each [] x xs refl (omega arith)) (all_of_each P xs (λ before e after eq far. each (x ∷ before) e after (ap (λ l. x ∷ l) eq) (omega arith)))

  own_none : (session : E → ℕ) (xs : List E) (s : ℕ) → EachFrom 0 xs (λ before e. session e ≢ s) → own session xs s ≡ []
  own_none session [] s each = refl
  own_none session (x ∷ xs) s each = rw (ne_eqb (session x) s (each [] x xs refl (omega arith)))
      (own_none session xs s (λ before e after eq far. each (x ∷ before) e after (ap (λ l. x ∷ l) eq) (omega arith)))

  -- where no entry of a session stands behind the first m, all of them stand among these
  pub own_before : (session : E → ℕ) (xs : List E) (m s : ℕ) → EachFrom m xs (λ before e. session e ≢ s) → own session xs s ≡ own session (take m xs) s
  own_before session xs zero s each = own_none session xs s each
  own_before session [] (suc m) s each = refl
  own_before session (x ∷ xs) (suc m) s each = ap (λ l. cond (session x == s) (x ∷ l) l)
      (own_before session xs m s (λ before e after eq far. each (x ∷ before) e after (ap (λ l. x ∷ l) eq) (omega arith)))

-- what differs from s and is not among the others is not among all
pub all_of_without : (t s : ℕ) (lag : List ℕ) → t ≢ s → All (λ x. x ≢ s) (without t lag) → All (λ x. x ≢ s) lag
all_of_without t s [] apart all = All-nil (λ x. x ≢ s)
all_of_without t s (x ∷ lag) apart all = dite (ℕ_discrete x t)
    (λ e. let rest : All (λ y. y ≢ s) (without t lag) = subst (λ b. All (λ y. y ≢ s) (cond (not b) (x ∷ without t lag) (without t lag))) (eq-eqb x t e) all in
    All-cons (λ y. y ≢ s) x lag (λ q. apart (sym e ∙ q)) (all_of_without t s lag apart rest))
    (λ ne. let rest : All (λ y. y ≢ s) (x ∷ without t lag) = subst (λ b. All (λ y. y ≢ s) (cond (not b) (x ∷ without t lag) (without t lag))) (ne_eqb x t ne) all in
    All-cons (λ y. y ≢ s) x lag (rest 0 x (omega arith)) (all_of_without t s lag apart (λ k d lt. rest (suc k) d (omega arith))))
