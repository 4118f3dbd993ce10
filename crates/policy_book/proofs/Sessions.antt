-- The sessions of entries are at most the greatest.
use Rattle.std.proofs.Common.{◌<◌, ◌≤◌, ℕ, List, [], ◌∷◌, max, arith}
use Rattle.std.specs.List.{All}
use Rattle.std.proofs.lemmas.List.Elements.{All-nil, All-cons}
use Rattle.policy_history.specs.declared.events.Entry.{Entry}
use Rattle.policy_history.specs.Values.{entry_trees, greatest_from, greatest_of}

at_least : (n : ℕ) (es : List Entry) → n ≤ greatest_from n (entry_trees es)
at_least n [] = omega arith
at_least n (e ∷ es) = let later = at_least (max n e.session) es in omega (arith, later)

below_from : (n most : ℕ) (es : List Entry) → greatest_from n (entry_trees es) < most → All (λ (e : Entry). e.session < most) es
below_from n most [] bound = All-nil (λ (e : Entry). e.session < most)
below_from n most (e ∷ es) bound =
    let here : e.session < most = (let later = at_least (max n e.session) es in omega (arith, later, bound)) in
    All-cons (λ (e : Entry). e.session < most) e es here (below_from (max n e.session) most es bound)

pub sessions_below : (most : ℕ) (es : List Entry) → greatest_of (entry_trees es) < most → All (λ (e : Entry). e.session < most) es
sessions_below most es bound = below_from 0 most es bound
