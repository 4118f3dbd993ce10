-- Look-ups in lists: a formula among formulas, and the port of a principal.
use Rattle.std.proofs.Common.{◌≡◌, ◌<◌, ◌≤◌, ◌↔◌, ℕ, zero, suc, List, [], ◌∷◌, length, Bool, true, false, IsTrue, Contains, slice_index_or, Option, Some, None, map, refl, sym, ap, ◌∙◌, arith}
use Rattle.std.proofs.lemmas.List.{length-map}
use Rattle.nal_term.specs.declared.formulas.Formula.{Formula}
use Rattle.nal_term.specs.Trees.{TermTree, FormulaTree, formula_tree, term_tree}
use Rattle.nal_term.specs.TreeKeys.{same_terms, same_terms-Decides}
use Rattle.nal_rules.specs.Asking.{binding_tree, port_in}
use Rattle.nal_rules.specs.declared.cases.Binding.{Binding}

-- a formula that none of a list's is equal to is not among its trees
pub not_among : (fs : List Formula) (f : Formula) (n : ℕ) → length fs ≤ n
    → ((k : ℕ) (d : Formula) → k < n → formula_tree (slice_index_or fs k d) ≡ formula_tree f → ⊥) → IsTrue false ↔ Contains (map formula_tree fs) (formula_tree f)
not_among fs f n h inv = (
  (λ t. absurd (cc t)),
  λ c.
      let s = length-map fs formula_tree in
      let short : c.0 < length fs = omega (arith, c.1, s) in
      absurd (inv c.0 f (omega (arith, short, h)) (get_tree fs c.0 f ∙ c.2)),
)
  where
    get_tree : (fs : List Formula) (k : ℕ) (f : Formula) → formula_tree (slice_index_or fs k f) ≡ slice_index_or (map formula_tree fs) k (formula_tree f)
    get_tree [] k f = refl
    get_tree (g ∷ gs) zero f = refl
    get_tree (g ∷ gs) (suc k) f = get_tree gs k f

-- whether two terms are the same, told by a test of their trees
same_as_told : (p t : TermTree) (told same : Bool) → same_terms p t ≡ same → IsTrue told ↔ (p ≡ t) → same ≡ told
same_as_told p t true true e test = refl
same_as_told p t false false e test = refl
same_as_told p t true false e test = let found = (same_terms-Decides p t).1 (test.0 refl) in absurd (cc (e, found))
same_as_told p t false true e test = absurd (cc (test.1 ((same_terms-Decides p t).0 e)))

pub told_same : (p t : TermTree) (told : Bool) → IsTrue told ↔ (p ≡ t) → same_terms p t ≡ told
told_same p t told test = same_as_told p t told (same_terms p t) refl test

-- the port of the first binding, where it is the principal's, and else that of a later one
pub port_here : (p : TermTree) (b : Binding) (rest : List Binding) → same_terms p (term_tree b.principal) ≡ true → port_in (map binding_tree (b ∷ rest)) p ≡ Some b.port
port_here p b rest e = rw e refl

pub port_later : (p : TermTree) (b : Binding) (rest : List Binding) → same_terms p (term_tree b.principal) ≡ false → port_in (map binding_tree (b ∷ rest)) p ≡ port_in (map binding_tree rest) p
port_later p b rest e = rw e refl

-- a principal without a port is bound to none
pub no_port : (bound : List (TermTree × ℕ)) (p : TermTree) → port_in bound p ≡ None → (port : ℕ) → Contains bound (p, port) → ⊥
no_port [] p e port c = absurd (omega (arith, c.1))
no_port (b ∷ bs) p e port c = of (same_terms p b.0) refl c (no_port bs p)
  where
    of : (same : Bool) → same_terms p b.0 ≡ same → Contains (b ∷ bs) (p, port) → (port_in bs p ≡ None → (port : ℕ) → Contains bs (p, port) → ⊥) → ⊥
    of true q c later = absurd (cc (rw q at e))
    of false q (zero, within, read) later = let here : same_terms p b.0 ≡ true = (same_terms-Decides p b.0).1 (sym (ap (λ (x : TermTree × ℕ). x.0) read)) in absurd (cc (q, here))
    of false q (suc i, within, read) later = later (rw q at e) port (i, omega (arith, within), read)

-- a principal with a port is bound to it
pub some_port : (bound : List (TermTree × ℕ)) (p : TermTree) (port : ℕ) → port_in bound p ≡ Some port → Contains bound (p, port)
some_port [] p port e = absurd (cc e)
some_port (b ∷ bs) p port e = of (same_terms p b.0) refl (some_port bs p port)
  where
    of : (same : Bool) → same_terms p b.0 ≡ same → (port_in bs p ≡ Some port → Contains bs (p, port)) → Contains (b ∷ bs) (p, port)
    of true q later =
        let at : Some b.1 ≡ Some port = rw q at e in
        let port_is : b.1 ≡ port = cc at in
        let principal_is : p ≡ b.0 = (same_terms-Decides p b.0).0 q in
        (0, omega arith, λ i. (sym principal_is i, port_is i))
    of false q later = let there = later (rw q at e) in (suc there.0, omega (arith, there.1), there.2)
