-- The event that a request asks for.
use Rattle.std.specs.Prelude.{◌≡◌, ℕ, List, Option, Some, None}
use Rattle.nal_parse.specs.Grammar.{IsFormulaText, IsTermText}
use Rattle.proof_text.specs.ProofText.{IsProofText}
use Rattle.policy_history.specs.Events.{EventTree}
use Rattle.policy_history.specs.Events as event
use Rattle.session_wire.specs.declared.requests.Request.{Request}
use Rattle.session_wire.specs.declared.requests.Request.TheVariants.{Hello, Say, Transfer, Delete, NewObject, SetGoal, ClearGoal, SetProof, ClearProof, Bind, Unbind, Call, See}

-- what a text spells, where `Spells` says which values it does: a value, or none where it spells nothing
abbrev pub IsSpelled : {A : Type 0} → (List ℕ → A → Type 0) → List ℕ → Option A → Type 0
IsSpelled {A} Spells text None = (x : A) → ¬ Spells text x
IsSpelled Spells text (Some x) = Spells text x

-- the event has the parts of the request, each text replaced by what it spells; `hello`, `call` and `see` ask for none
abbrev pub IsEventOf : Request → EventTree → Type 0
IsEventOf (Say principal formula) (event.say t f) = IsSpelled IsTermText principal t × IsSpelled IsFormulaText formula f
IsEventOf (Transfer number to) e = e ≡ event.transfer number to
IsEventOf (Delete number) e = e ≡ event.delete number
IsEventOf (NewObject name) e = e ≡ event.new_object name
IsEventOf (SetGoal op object formula) (event.set_goal op2 object2 g) = (op2 ≡ op) × (object2 ≡ object) × IsSpelled IsFormulaText formula g
IsEventOf (ClearGoal op object) e = e ≡ event.clear_goal op object
IsEventOf (SetProof op object proof) (event.set_proof op2 object2 ls) = (op2 ≡ op) × (object2 ≡ object) × IsSpelled IsProofText proof ls
IsEventOf (ClearProof op object) e = e ≡ event.clear_proof op object
IsEventOf (Bind principal port) (event.bind t port2) = IsSpelled IsTermText principal t × (port2 ≡ port)
IsEventOf (Unbind principal) (event.unbind t) = IsSpelled IsTermText principal t
IsEventOf _ _ = ⊥

-- the request asks for a change of the policy
abbrev pub IsChange : Request → Type 0
IsChange (Hello name secret) = ⊥
IsChange (Call op object arg) = ⊥
IsChange (See number) = ⊥
IsChange _ = Unit {0}
