-- The answer for an atom, from those for its predicate and for its arguments.
use Rattle.std.proofs.Common.{◌≡◌, ◌↔◌, ℕ, List, Bool, true, false, Some, IsTrue, refl, if◌then◌else◌}
use Rattle.nal_subst.specs.declared.instances.Match.{Match}
use Rattle.nal_subst.specs.declared.instances.Match.TheVariants.{Yes, No}
use Rattle.nal_term.specs.Trees.{TermTree, atom}

yes_is : (same : Bool) → (if same then Yes else No) ≡ Yes → same ≡ true
yes_is true e = cc
yes_is false e = absurd (cc e)

pub atom_joint : (r : Match) (same args : Bool) (p q : List ℕ) (m us : List TermTree) →
    ((r ≡ Yes) ↔ (((if same then Yes else No) ≡ Yes) × ((if args then Yes else No) ≡ Yes))) →
    (IsTrue same ↔ (p ≡ q)) → (IsTrue args ↔ (m ≡ us)) → (r ≡ Yes) ↔ (Some (atom p m) ≡ Some (atom q us))
atom_joint r same args p q m us j s a = (
  λ e.
      let h = j.0 e in
      let e1 : p ≡ q = s.0 (yes_is same h.0) in
      let e2 : m ≡ us = a.0 (yes_is args h.1) in
      cc,
  λ (e : Some (atom p m) ≡ Some (atom q us)).
      let e1 : p ≡ q = cc e in
      let e2 : m ≡ us = cc e in
      let t1 : same ≡ true = s.1 e1 in
      let t2 : args ≡ true = a.1 e2 in
      j.1 (rw t1 refl, rw t2 refl),
)
