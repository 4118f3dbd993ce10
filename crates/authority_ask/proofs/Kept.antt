-- Laws of what a panel has reached and what it keeps of it.
use Rattle.std.proofs.Common.{◌≡◌, ◌<◌, ℕ, zero, suc, List, [], ◌∷◌, ◌++◌, length, slice_set, Option, Some, cond, nat_eq, ◌≤◌, lt_of_not-le, refl, sym, ap, ◌∙◌, arith}
use Prim.Native.Nat.compare
use Rattle.std.proofs.lemmas.List.{append-nil, flat_map_more}
use Rattle.std.proofs.lemmas.List.Sums.{fold-append}
use Rattle.nx_io.specs.declared.streams.Reach.{Reach}
use Rattle.nx_io.specs.declared.streams.Reach.TheVariants.{Ready, Failed}
use Rattle.authority_ask.specs.Inner.Addresses.{IsKept, Kept, kept_after, kept_at}
use Rattle.authority_ask.specs.PanelCalls.{PanelCall, PanelHistory, Placed, address_at, not_reached, place_in, reach_call, reached, reached_in, with_call}

-- one call more
reached_more : (history : PanelHistory) (call : PanelCall) → reached_in (with_call history call) ≡ reached_in history ++ place_in call
reached_more history call = sym (flat_map_more place_in history.origin.reached_at history.calls call)

-- what is kept at a port where one of them was set
set_at : (kept : Kept) (p q : ℕ) (address : List ℕ) → p < length kept → kept_at (slice_set kept p (Some address)) q ≡ cond (nat_eq p q) (Some address) (kept_at kept q)
set_at [] p q address h = absurd (omega (arith, h))
set_at (x ∷ xs) zero zero address h = refl
set_at (x ∷ xs) zero (suc q) address h = rw compare.zero-suc refl
set_at (x ∷ xs) (suc p) zero address h = rw compare.suc-zero refl
set_at (x ∷ xs) (suc p) (suc q) address h = rw compare.suc-suc (set_at xs p q address (omega (arith, h)))

-- no port from 16 on is reached
pub within_of : (reach : Reach) (port count : ℕ) → count ≡ 16 → (16 ≤ port → reach ≡ Failed) → reach ≡ Ready → port < count
within_of reach port count many outside ready =
    let low : port < 16 = lt_of_not-le (λ (high : 16 ≤ port). let failed = outside high in cc (ready, failed)) in
    omega (arith, low, many)

-- what is kept follows what is reached
pub kept_reach : (history : PanelHistory) (kept : Kept) (reach : Reach) (port : ℕ) (address : List ℕ) → IsKept history kept → (reach ≡ Ready → port < length kept)
    → IsKept (with_call history (reach_call port address reach)) (kept_after reach port address kept)
kept_reach history kept Ready port address so_far within q =
    ap (λ (places : List Placed). address_at places q) (reached_more history (reached port address))
    ∙ fold-append _ _ (reached_in history) _
    ∙ ap (λ (at : Option (List ℕ)). cond (nat_eq port q) (Some address) at) (so_far q)
    ∙ sym (set_at kept port q address (within refl))
kept_reach history kept Failed port address so_far within q =
    ap (λ (places : List Placed). address_at places q) (reached_more history (not_reached port address) ∙ append-nil (reached_in history)) ∙ so_far q
