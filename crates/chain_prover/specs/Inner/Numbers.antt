-- The numbers of principals.
use Rattle.std.specs.Prelude.{◌≡◌, ◌-◌, ◌^◌, ◌%◌, ℕ, List, Option, Some, length, min, slice_get}
use Rattle.std.specs.Borrow.{Bor}
use Rattle.std.specs.HashMap.{HashMap, get}
use Rattle.nal_term.specs.declared.terms.Term.{Term}
use Rattle.chain_prover.specs.declared.principals.OfSize.{OfSize}
use Rattle.chain_prover.specs.declared.principals.OfSize.TheVariants.{Nobody, One, Several}
use Rattle.nal_term.specs.Size.{term_node_count}
use Rattle.nal_term.specs.Trees.{TermTree, term_tree}
use Rattle.nal_term.specs.TreeKeys.{same_terms}

-- the size of the term, 2^64 - 1 where it is larger
abbrev pub size_of : TermTree → ℕ
size_of t = min (term_node_count t) (2 ^ 64 - 1)

-- the number is that of the principal
abbrev pub IsNumber : List (Bor Term) → ℕ → TermTree → Type 0
IsNumber terms i x = (t : Bor Term) × (slice_get terms i ≡ Some t) × (term_tree t.now ≡ x)

-- what the map has at the term
abbrev pub number_in : {S : Type 0} → HashMap (Bor Term) ℕ S → Bor Term → Option ℕ
number_in numbers q = get (λ t u. same_terms (term_tree t.now) (term_tree u.now)) numbers q

-- the principal with this number is among those of a size
abbrev pub AreWith : OfSize → ℕ → Type 0
AreWith Nobody i = ⊥
AreWith (One j) i = i ≡ j
AreWith Several i = Unit {0}

-- those of a size, and the principal with this number
abbrev pub with_one_more : OfSize → ℕ → OfSize
with_one_more Nobody i = One i
with_one_more (One j) i = Several
with_one_more Several i = Several

-- the map has the numbers of the principals, and each is among those of its size
pub record AreNumbered {S : Type 0} (terms : List (Bor Term)) (numbers : HashMap (Bor Term) ℕ S) (sizes : List OfSize) : Type 0 where
  pub right : (q : Bor Term) (i : ℕ) → number_in numbers q ≡ Some i → IsNumber terms i (term_tree q.now)
  pub all : (q : Bor Term) (i : ℕ) → IsNumber terms i (term_tree q.now) → number_in numbers q ≡ Some i
  pub sized : (i : ℕ) (t : Bor Term) → slice_get terms i ≡ Some t → (those : OfSize) → slice_get sizes (size_of (term_tree t.now) % 512) ≡ Some those → AreWith those i
  pub count : length sizes ≡ 512
