-- Two lists of bytes, compared from the front on.
use Rattle.std.proofs.Common.{◌≡◌, ◌≢◌, ◌↔◌, ◌<◌, ◌+◌, ◌&&◌, ℕ, Bool, true, false, List, [], ◌∷◌, ◌++◌, length, take, get_or, nat_eq, IsTrue, refl, sym, ap, ◌∙◌, subst, arith}
use Rattle.std.specs.Cmp.{unsigned_Decides}
use Rattle.std.proofs.lemmas.List.{same_from_push, take_all, take_more}
use Rattle.nal_term.specs.TreeKeys.{same_bytes, same_bytes-Decides}

-- one byte more
pub same_on : (same : Bool) (xs ys : List ℕ) (n x y : ℕ) → n < length xs → n < length ys → x ≡ get_or xs n 0 → y ≡ get_or ys n 0
    → IsTrue same ↔ (take n xs ≡ take n ys) → IsTrue (same && nat_eq x y) ↔ (take (n + 1) xs ≡ take (n + 1) ys)
same_on same xs ys n x y first second x_is y_is so_far = (to same (nat_eq x y) refl refl, from)
  where
    left : take (n + 1) xs ≡ take n xs ++ x ∷ []
    left = take_more xs n 0 first ∙ ap (λ z. take n xs ++ z ∷ []) (sym x_is)

    right : take (n + 1) ys ≡ take n ys ++ y ∷ []
    right = take_more ys n 0 second ∙ ap (λ z. take n ys ++ z ∷ []) (sym y_is)

    to : (a b : Bool) → same ≡ a → nat_eq x y ≡ b → IsTrue (a && b) → take (n + 1) xs ≡ take (n + 1) ys
    to true true a b held = left ∙ (λ i. so_far.0 a i ++ (unsigned_Decides x y).0 b i ∷ []) ∙ sym right
    to true false a b held = absurd (cc held)
    to false b a e held = absurd (cc held)

    from : take (n + 1) xs ≡ take (n + 1) ys → IsTrue (same && nat_eq x y)
    from e =
        let parts = same_from_push (take n xs) (take n ys) x y (sym left ∙ e ∙ right) in
        rw (so_far.1 parts.0, (unsigned_Decides x y).1 parts.1) refl

-- all bytes
pub same_at_end : (same : Bool) (xs ys : List ℕ) (n : ℕ) → length xs ≡ length ys → n ≡ length ys → IsTrue same ↔ (take n xs ≡ take n ys) → same ≡ same_bytes xs ys
same_at_end same xs ys n long all is = of same (same_bytes xs ys) refl refl
  where
    whole : (zs : List ℕ) → n ≡ length zs → take n zs ≡ zs
    whole zs e = take_all n zs (omega (arith, e))

    left : take n xs ≡ xs
    left = whole xs (all ∙ sym long)

    right : take n ys ≡ ys
    right = whole ys all

    of : (a b : Bool) → same ≡ a → same_bytes xs ys ≡ b → a ≡ b
    of true true e f = refl
    of false false e f = refl
    of true false e f = absurd (cc (f, (same_bytes-Decides xs ys).1 (sym left ∙ is.0 e ∙ right)))
    of false true e f = absurd (cc (e, is.1 (left ∙ (same_bytes-Decides xs ys).0 f ∙ sym right)))

-- two of which one is longer
pub other_length : (xs ys : List ℕ) → length xs ≢ length ys → false ≡ same_bytes xs ys
other_length xs ys longer = of (same_bytes xs ys) refl
  where
    of : (b : Bool) → same_bytes xs ys ≡ b → false ≡ b
    of false e = refl
    of true e = absurd (longer (ap (λ zs. length zs) ((same_bytes-Decides xs ys).0 e)))
