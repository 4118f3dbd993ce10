-- What an entry that undoes a slot of a goal, a proof or a port leaves there.
use Rattle.std.proofs.Common.{◌≡◌, ◌&&◌, ◌⊎◌, inl, inr, ℕ, Bool, true, false, nat_eq, List, Option, Some, None, refl, sym}
use Rattle.std.specs.Cmp.{unsigned_Decides}
use Rattle.std.proofs.lemmas.Bool.{and_parts}
use Rattle.nal_term.specs.Trees.{TermTree}
use Rattle.nal_term.specs.TreeKeys.{same_bytes, same_bytes-Decides, same_terms-Decides}
use Rattle.policy_history.specs.Events.{EventTree, EntryTree, say, transfer, delete, new_object, set_goal, clear_goal, set_proof, clear_proof, bind, unbind}
use Rattle.case_reasons.proofs.ForCallers.{goal_in, proof_of_event}
use Rattle.policy_compaction.specs.Slots.{SlotTree, goal_slot, proof_slot, port_slot, left_by, undoes}
use Rattle.policy_compaction.proofs.LastKept.{Fills}
use Rattle.policy_compaction.proofs.MovedEntries.{entry_of}
use Rattle.policy_compaction.proofs.Ports.{port_in}

-- an event of another kind changes no proof
no_other : (a : Bool) → (a && false) ≡ true → ⊥
no_other true e = cc e
no_other false e = cc e

-- the entry fills the slot, or leaves nothing and tells of no value
abbrev Filled : {V : Type 0} → SlotTree → (EventTree → Option V) → ℕ → EntryTree → Type 0
Filled slot value k e = (left_by k e ≡ Some slot) ⊎ ((left_by k e ≡ None) × (value e.event ≡ None))

module _ (op object o x : List ℕ) (both : (same_bytes op o && same_bytes object x) ≡ true) where
  op_is : o ≡ op
  op_is = sym ((same_bytes-Decides op o).0 ((and_parts (same_bytes op o) (same_bytes object x) both).0))

  object_is : x ≡ object
  object_is = sym ((same_bytes-Decides object x).0 ((and_parts (same_bytes op o) (same_bytes object x) both).1))

goal_by_event : (op object : List ℕ) (k session q : ℕ) (v : EventTree) → undoes (goal_slot op object) (entry_of session q v) ≡ true
    → Filled (goal_slot op object) goal_in k (entry_of session q v)
goal_by_event op object k session q (set_goal o x g) passes = inl (λ i. Some (goal_slot (op_is op object o x passes i) (object_is op object o x passes i)))
goal_by_event op object k session q (clear_goal o x) passes = inr (refl, refl)
goal_by_event op object k session q (say t f) passes = absurd (cc passes)
goal_by_event op object k session q (transfer n to) passes = absurd (cc passes)
goal_by_event op object k session q (delete n) passes = absurd (cc passes)
goal_by_event op object k session q (new_object x) passes = absurd (cc passes)
goal_by_event op object k session q (set_proof o x ls) passes = absurd (cc passes)
goal_by_event op object k session q (clear_proof o x) passes = absurd (cc passes)
goal_by_event op object k session q (bind t port) passes = absurd (cc passes)
goal_by_event op object k session q (unbind t) passes = absurd (cc passes)

proof_by_event : (p : ℕ) (op object : List ℕ) (k session q : ℕ) (v : EventTree) → undoes (proof_slot p op object) (entry_of session q v) ≡ true
    → Filled (proof_slot p op object) proof_of_event k (entry_of session q v)
proof_by_event p op object k session q (set_proof o x ls) passes =
    let parts = and_parts (nat_eq p q) (same_bytes op o && same_bytes object x) passes in
    let who : q ≡ p = sym ((unsigned_Decides p q).0 parts.0) in
    inl (λ i. Some (proof_slot (who i) (op_is op object o x parts.1 i) (object_is op object o x parts.1 i)))
proof_by_event p op object k session q (clear_proof o x) passes = inr (refl, refl)
proof_by_event p op object k session q (say t f) passes = absurd (no_other (nat_eq p q) passes)
proof_by_event p op object k session q (transfer n to) passes = absurd (no_other (nat_eq p q) passes)
proof_by_event p op object k session q (delete n) passes = absurd (no_other (nat_eq p q) passes)
proof_by_event p op object k session q (new_object x) passes = absurd (no_other (nat_eq p q) passes)
proof_by_event p op object k session q (set_goal o x g) passes = absurd (no_other (nat_eq p q) passes)
proof_by_event p op object k session q (clear_goal o x) passes = absurd (no_other (nat_eq p q) passes)
proof_by_event p op object k session q (bind t port) passes = absurd (no_other (nat_eq p q) passes)
proof_by_event p op object k session q (unbind t) passes = absurd (no_other (nat_eq p q) passes)

port_by_event : (t : TermTree) (k session q : ℕ) (v : EventTree) → undoes (port_slot t) (entry_of session q v) ≡ true → Filled (port_slot t) port_in k (entry_of session q v)
port_by_event t k session q (bind (Some u) port) passes = inl (λ i. Some (port_slot (sym ((same_terms-Decides t u).0 passes) i)))
port_by_event t k session q (unbind (Some u)) passes = inr (refl, refl)
port_by_event t k session q (bind None port) passes = absurd (cc passes)
port_by_event t k session q (unbind None) passes = absurd (cc passes)
port_by_event t k session q (say u f) passes = absurd (cc passes)
port_by_event t k session q (transfer n to) passes = absurd (cc passes)
port_by_event t k session q (delete n) passes = absurd (cc passes)
port_by_event t k session q (new_object x) passes = absurd (cc passes)
port_by_event t k session q (set_goal o x g) passes = absurd (cc passes)
port_by_event t k session q (clear_goal o x) passes = absurd (cc passes)
port_by_event t k session q (set_proof o x ls) passes = absurd (cc passes)
port_by_event t k session q (clear_proof o x) passes = absurd (cc passes)

pub goal_fills : (op object : List ℕ) → Fills (goal_slot op object) goal_in
goal_fills op object k e = goal_by_event op object k e.session e.principal e.event

pub proof_fills : (p : ℕ) (op object : List ℕ) → Fills (proof_slot p op object) proof_of_event
proof_fills p op object k e = proof_by_event p op object k e.session e.principal e.event

pub port_fills : (t : TermTree) → Fills (port_slot t) port_in
port_fills t k e = port_by_event t k e.session e.principal e.event
