-- Laws of the sessions of entries, which the proofs of other crates may cite.
use Rattle.std.proofs.Common.{◌≡◌, ◌<◌, ◌≤◌, ℕ, List, [], ◌∷◌, ◌++◌, max, refl, arith}
use Rattle.std.proofs.lemmas.List.Elements.{All-cons, All-head, All-nil, All-tail}
use Rattle.policy_history.specs.Events.{EntryTree}
use Rattle.policy_history.specs.Values.{greatest_from, greatest_of}
use Rattle.journal_text.specs.PolicyFronts.{AreBelow}

-- the greatest session of entries that are all below a bound is below it
at_most : (most n : ℕ) (es : List EntryTree) → n ≤ most → AreBelow most es → greatest_from n es ≤ most
at_most most n [] h all = h
at_most most n (e ∷ es) h all =
    let first : e.session ≤ most = All-head (λ (x : EntryTree). x.session ≤ most) e es all in
    at_most most (max n e.session) es (omega arith) (All-tail (λ (x : EntryTree). x.session ≤ most) e es all)

pub greatest_at_most : (most : ℕ) (es : List EntryTree) → AreBelow most es → greatest_of es ≤ most
greatest_at_most most es all = at_most most 0 es (omega arith) all

-- and entries whose greatest session is below a bound are all below it
from_greatest : (n : ℕ) (es : List EntryTree) → n ≤ greatest_from n es
from_greatest n [] = omega arith
from_greatest n (e ∷ es) = let h = from_greatest (max n e.session) es in omega (arith, h)

below_from : (most n : ℕ) (es : List EntryTree) → greatest_from n es ≤ most → AreBelow most es
below_from most n [] h = All-nil (λ (x : EntryTree). x.session ≤ most)
below_from most n (e ∷ es) h =
    let least = from_greatest (max n e.session) es in
    All-cons (λ (x : EntryTree). x.session ≤ most) e es (omega (arith, least, h)) (below_from most (max n e.session) es h)

pub greatest_below : (most : ℕ) (es : List EntryTree) → greatest_of es ≤ most → AreBelow most es
greatest_below most es h = below_from most 0 es h

-- of one entry more
greatest_last : (n : ℕ) (es : List EntryTree) (e : EntryTree) → greatest_from n (es ++ e ∷ []) ≡ max (greatest_from n es) e.session
greatest_last n [] e = refl
greatest_last n (x ∷ es) e = greatest_last (max n x.session) es e

pub above_last : (most : ℕ) (es : List EntryTree) (e : EntryTree) → AreBelow most es → most < greatest_of (es ++ e ∷ []) → most < e.session
above_last most es e all above =
    let bound = greatest_at_most most es all in
    let last = greatest_last 0 es e in
    omega (arith, bound, last, above)
