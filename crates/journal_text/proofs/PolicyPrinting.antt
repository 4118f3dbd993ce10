-- The lists that a policy's text is printed from.
use Rattle.std.proofs.Common.{◌≡◌, ◌<◌, ◌+◌, ℕ, zero, suc, List, [], ◌∷◌, ◌++◌, length, take, get_or, map, Some, sym, ap, ◌∙◌, arith}
use Rattle.std.specs.Prelude.{slice_get}
use Rattle.std.proofs.lemmas.List.{take_more}
use Rattle.std.proofs.lemmas.Option.{get_or_from_slice_get, slice_get_within}
use Rattle.policy_history.specs.declared.heads.Head.{Head}
use Rattle.policy_history.specs.declared.events.Entry.{Entry}
use Rattle.policy_history.specs.Events.{entry_tree}
use Rattle.policy_history.specs.Machine.{IsLegalFrom, after}
use Rattle.policy_history.specs.States.{State}

-- one item more of a list
pub one_more : {X : Type 0} (xs : List X) (k : ℕ) (x : X) → Some x ≡ slice_get xs k → take (k + 1) xs ≡ take k xs ++ x ∷ []
one_more xs k x e =
    let within = slice_get_within xs k x (sym e) in
    take_more xs k x within ∙ ap (λ y. take k xs ++ y ∷ []) (get_or_from_slice_get xs k x x (sym e))

-- each entry of a legal list is of one of the principals
pub entry_known : (h : Head) (s : State) (es : List Entry) → IsLegalFrom h s (map entry_tree es) → (k : ℕ) (d : Entry) → k < length es → (get_or es k d).principal < length h.principals
entry_known h s [] legal k d below = absurd (omega (arith, below))
entry_known h s (e ∷ es) legal zero d below = legal.0.0
entry_known h s (e ∷ es) legal (suc k) d below = entry_known h (after h s (entry_tree e)) es legal.1 k d (omega (arith, below))
