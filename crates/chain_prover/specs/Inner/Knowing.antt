-- What is known of the principals that labels name.
use Rattle.std.specs.Prelude.{◌≡◌, ℕ, List, true, Some, Contains, length, map, slice_get}
use Rattle.std.specs.Borrow.{Bor}
use Rattle.nal_term.specs.declared.terms.Term.{Term}
use Rattle.nal_term.specs.Trees.{TermTree, FormulaTree, formula_tree, says}
use Rattle.chain_prover.specs.declared.facts.Facts.{Facts}
use Rattle.chain_prover.specs.declared.facts.Delegation.{Delegation}
use Rattle.chain_prover.specs.Chains.{Step, next, IsStep}
use Rattle.chain_prover.specs.Inner.Numbers.{AreNumbered, IsNumber}
use Rattle.chain_prover.specs.Inner.Paths.{Grants, grant_step}

abbrev pub labels_of : Facts → List FormulaTree
labels_of facts = map formula_tree facts.labels.now

abbrev pub statement_of : Facts → FormulaTree
statement_of facts = formula_tree facts.statement.now

-- the principals, by their numbers
abbrev pub terms_of : Facts → List (Bor Term)
terms_of facts = facts.principals.terms.items

-- by a label the owner lets the speaker state the statement, and the owner is marked as one who does so
pub record IsRightDelegation (facts : Facts) (d : Delegation) : Type 0 where
  pub owner : TermTree
  pub speaker : TermTree
  pub owner_is : IsNumber (terms_of facts) d.owner owner
  pub speaker_is : IsNumber (terms_of facts) d.speaker speaker
  pub step : IsStep (labels_of facts) (statement_of facts) speaker (grant_step owner d.scope)
  pub marked : slice_get facts.granting.items d.owner ≡ Some true

-- all that is known is so
pub record AreRight (facts : Facts) : Type 0 where
  pub numbered : AreNumbered (terms_of facts) facts.principals.numbers facts.principals.sizes.items
  pub stating_count : length facts.stating.items ≡ length (terms_of facts)
  pub granting_count : length facts.granting.items ≡ length (terms_of facts)
  pub stating : (i : ℕ) (x : TermTree) → IsNumber (terms_of facts) i x → slice_get facts.stating.items i ≡ Some true → Contains (labels_of facts) (says x (statement_of facts))
  pub delegations : (j : ℕ) (d : Delegation) → slice_get facts.delegations.items j ≡ Some d → IsRightDelegation facts d

-- it is known that the principal states the statement
abbrev pub IsStating : Facts → TermTree → Type 0
IsStating facts y = (i : ℕ) × IsNumber (terms_of facts) i y × (slice_get facts.stating.items i ≡ Some true)

-- it is known that `y` lets `x` state it
abbrev pub IsDelegated : Facts → TermTree → TermTree → Type 0
IsDelegated facts y x = (j : ℕ) × (d : Delegation) × (slice_get facts.delegations.items j ≡ Some d) × IsNumber (terms_of facts) d.owner y × IsNumber (terms_of facts) d.speaker x

-- what the label tells is known
pub record Covers (facts : Facts) (label : FormulaTree) : Type 0 where
  pub states : (y : TermTree) → label ≡ says y (statement_of facts) → IsStating facts y
  pub grants : (x : TermTree) (s : Step) → Grants (statement_of facts) label x s → IsDelegated facts (next x s) x

-- what was known still is
pub record Keeps (before after : Facts) : Type 0 where
  pub labels : labels_of after ≡ labels_of before
  pub statement : statement_of after ≡ statement_of before
  pub number : (i : ℕ) (x : TermTree) → IsNumber (terms_of before) i x → IsNumber (terms_of after) i x
  pub stating : (i : ℕ) → slice_get before.stating.items i ≡ Some true → slice_get after.stating.items i ≡ Some true
  pub delegations : (j : ℕ) (d : Delegation) → slice_get before.delegations.items j ≡ Some d → slice_get after.delegations.items j ≡ Some d

-- what is known is so, and is all that the labels tell
pub record AreFacts (facts : Facts) : Type 0 where
  pub right : AreRight facts
  pub all : (k : ℕ) (label : FormulaTree) → slice_get (labels_of facts) k ≡ Some label → Covers facts label
