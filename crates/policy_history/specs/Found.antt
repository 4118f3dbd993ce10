-- What the guard finds under an operation and the name of an object.
use Rattle.std.specs.Prelude.{◌≡◌, ℕ, List, Some, None}
use Rattle.nal_rules.specs.Asking.{case_tree}
use Rattle.object_table.specs.Objects.{number_of}
use Rattle.proof_store.specs.Cases.{number_of as case_number}
use Rattle.policy_history.specs.declared.heads.Head.{Head}
use Rattle.policy_history.specs.declared.events.Found.{Found}
use Rattle.policy_history.specs.declared.events.Found.TheVariants.{NoObject, Case}
use Rattle.policy_history.specs.States.{State}
use Rattle.policy_history.specs.Judged.{case_at}

-- no object has the name; or the object's number, the case of the subject and the operation on it, and its number
abbrev pub IsFound : Head → State → ℕ → List ℕ → List ℕ → Found → Type 0
IsFound h s p op object NoObject = number_of s.objects object ≡ None
IsFound h s p op object (Case case number n) = (number_of s.objects object ≡ Some n) × (case_tree case ≡ case_at h s p op n) × (number ≡ case_number s.cases p op n)
