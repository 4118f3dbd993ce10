-- What moving an entry changes of it: the number of the label that it transfers, and nothing else.
use Rattle.std.proofs.Common.{◌≡◌, ℕ, List, refl}
use Rattle.policy_history.specs.Events.{EventTree, EntryTree, say, transfer, delete, new_object, set_goal, clear_goal, set_proof, clear_proof, bind, unbind}
use Rattle.policy_compaction.specs.Kept.{Numbered, moved, renumbered}
use Rattle.policy_compaction.specs.Slots.{SlotTree, object_slot, goal_slot, proof_slot, port_slot, label_slot, undoes}

-- an entry of this session and principal
abbrev pub entry_of : ℕ → ℕ → EventTree → EntryTree
entry_of session principal v = record { session = session; principal = principal; event = v }

-- what tells the same of all transfers to one principal tells the same of an event that is renumbered
pub by_event : {V : Type 0} (look : EventTree → V) (ks : List Numbered) → ((k j : ℕ) (to : List ℕ) → look (transfer k to) ≡ look (transfer j to))
    → (v : EventTree) → look (renumbered ks v) ≡ look v
by_event look ks gives (transfer k to) = gives _ k to
by_event look ks gives (say t f) = refl
by_event look ks gives (delete n) = refl
by_event look ks gives (new_object x) = refl
by_event look ks gives (set_goal o x g) = refl
by_event look ks gives (clear_goal o x) = refl
by_event look ks gives (set_proof o x ls) = refl
by_event look ks gives (clear_proof o x) = refl
by_event look ks gives (bind t port) = refl
by_event look ks gives (unbind t) = refl

-- a moved entry undoes what it did
pub undoes_moved : (slot : SlotTree) (ks : List Numbered) (x : Numbered) → undoes slot (moved ks x) ≡ undoes slot x.1
undoes_moved (object_slot y) ks x = refl
undoes_moved (goal_slot op y) ks x = by_event (λ (v : EventTree). undoes (goal_slot op y) (entry_of x.1.session x.1.principal v)) ks (λ k j to. refl) x.1.event
undoes_moved (proof_slot p op y) ks x = by_event (λ (v : EventTree). undoes (proof_slot p op y) (entry_of x.1.session x.1.principal v)) ks (λ k j to. refl) x.1.event
undoes_moved (port_slot t) ks x = by_event (λ (v : EventTree). undoes (port_slot t) (entry_of x.1.session x.1.principal v)) ks (λ k j to. refl) x.1.event
undoes_moved (label_slot n) ks x = by_event (λ (v : EventTree). undoes (label_slot n) (entry_of x.1.session x.1.principal v)) ks (λ k j to. refl) x.1.event
