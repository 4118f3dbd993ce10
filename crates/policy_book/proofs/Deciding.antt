-- What a decision says.
use Rattle.std.proofs.Common.{◌≡◌, ℕ, List, Ok, None, IsOk, refl, sym, subst}
use Rattle.std.specs.declared.result.Result.{Result}
use Rattle.policy_history.specs.declared.events.Due.{Due}
use Rattle.policy_history.specs.declared.events.Refusal.{Refusal}
use Rattle.policy_history.specs.declared.heads.Head.{Head}
use Rattle.policy_history.specs.Events.{EntryTree, EventTree}
use Rattle.policy_history.specs.Machine.{refusal_of, replay}
use Rattle.policy_history.specs.States.{State}
use Rattle.policy_history.specs.Values.{decision}
use Rattle.policy_history.proofs.ForCallers.{accepted_where}

-- an event of which a number is told is refused by nothing
pub free_where : (h : Head) (s : State) (session p : ℕ) (e : EventTree) (due : Due) → decision h s session p e ≡ Ok due → refusal_of h s session p e ≡ None
free_where h s session p e due is = accepted_where h s session p e (subst (λ (r : Result Due Refusal). IsOk r) (sym is) refl)

-- one decision of equal journals
pub same_decision : (h h' : Head) (es es' : List EntryTree) (session session' p : ℕ) (e : EventTree) → h ≡ h' → es ≡ es' → session ≡ session'
    → decision h (replay h es) session p e ≡ decision h' (replay h' es') session' p e
same_decision h h' es es' session session' p e head entries same = λ i. decision (head i) (replay (head i) (entries i)) (same i) p e
