-- Whose earlier deeds an entry undoes: the slot that is read from it.
use Rattle.std.proofs.Common.{◌≡◌, ◌∷◌, ◌&&◌, ◌||◌, ℕ, Bool, true, false, cond, nat_eq, List, Option, Some, None, refl, sym, ap, ◌∙◌}
use Rattle.std.specs.List.{list_any}
use Rattle.policy_history.specs.Events.{EventTree, EntryTree, say, transfer, delete, new_object, set_goal, clear_goal, set_proof, clear_proof, bind, unbind}
use Rattle.policy_compaction.specs.declared.slots.Slot.{Slot}
use Rattle.policy_compaction.specs.Slots.{SlotTree, object_slot, goal_slot, proof_slot, port_slot, label_slot, undoes}
use Rattle.policy_compaction.specs.Inner.Marking.{AreUndone}
use Rattle.policy_compaction.specs.Inner.SlotKeys.{same_slots, slot_tree, slots_equiv}
use Rattle.policy_compaction.specs.Inner.Undoing.{undone_by}

-- the slot is the one that is undone
abbrev pub is_undone : SlotTree → Option SlotTree → Bool
is_undone slot None = false
is_undone slot (Some u) = same_slots slot u

and_false : (b : Bool) → (b && false) ≡ false
and_false true = refl
and_false false = refl

-- an entry undoes what was left there exactly where that is its slot
module _ (session principal : ℕ) where
  abbrev entry : EventTree → EntryTree
  entry v = record { session = session; principal = principal; event = v }

  undoes_event : (slot : SlotTree) (v : EventTree) → undoes slot (entry v) ≡ is_undone slot (undone_by (entry v))
  undoes_event (object_slot x) (say t f) = refl
  undoes_event (object_slot x) (transfer k to) = refl
  undoes_event (object_slot x) (delete k) = refl
  undoes_event (object_slot x) (new_object y) = refl
  undoes_event (object_slot x) (set_goal o y g) = refl
  undoes_event (object_slot x) (clear_goal o y) = refl
  undoes_event (object_slot x) (set_proof o y ls) = refl
  undoes_event (object_slot x) (clear_proof o y) = refl
  undoes_event (object_slot x) (bind None port) = refl
  undoes_event (object_slot x) (bind (Some t) port) = refl
  undoes_event (object_slot x) (unbind None) = refl
  undoes_event (object_slot x) (unbind (Some t)) = refl
  undoes_event (goal_slot op x) (say t f) = refl
  undoes_event (goal_slot op x) (transfer k to) = refl
  undoes_event (goal_slot op x) (delete k) = refl
  undoes_event (goal_slot op x) (new_object y) = refl
  undoes_event (goal_slot op x) (set_goal o y g) = refl
  undoes_event (goal_slot op x) (clear_goal o y) = refl
  undoes_event (goal_slot op x) (set_proof o y ls) = refl
  undoes_event (goal_slot op x) (clear_proof o y) = refl
  undoes_event (goal_slot op x) (bind None port) = refl
  undoes_event (goal_slot op x) (bind (Some t) port) = refl
  undoes_event (goal_slot op x) (unbind None) = refl
  undoes_event (goal_slot op x) (unbind (Some t)) = refl
  undoes_event (proof_slot p op x) (say t f) = and_false (nat_eq p principal)
  undoes_event (proof_slot p op x) (transfer k to) = and_false (nat_eq p principal)
  undoes_event (proof_slot p op x) (delete k) = and_false (nat_eq p principal)
  undoes_event (proof_slot p op x) (new_object y) = and_false (nat_eq p principal)
  undoes_event (proof_slot p op x) (set_goal o y g) = and_false (nat_eq p principal)
  undoes_event (proof_slot p op x) (clear_goal o y) = and_false (nat_eq p principal)
  undoes_event (proof_slot p op x) (set_proof o y ls) = refl
  undoes_event (proof_slot p op x) (clear_proof o y) = refl
  undoes_event (proof_slot p op x) (bind None port) = and_false (nat_eq p principal)
  undoes_event (proof_slot p op x) (bind (Some t) port) = and_false (nat_eq p principal)
  undoes_event (proof_slot p op x) (unbind None) = and_false (nat_eq p principal)
  undoes_event (proof_slot p op x) (unbind (Some t)) = and_false (nat_eq p principal)
  undoes_event (port_slot u) (say t f) = refl
  undoes_event (port_slot u) (transfer k to) = refl
  undoes_event (port_slot u) (delete k) = refl
  undoes_event (port_slot u) (new_object y) = refl
  undoes_event (port_slot u) (set_goal o y g) = refl
  undoes_event (port_slot u) (clear_goal o y) = refl
  undoes_event (port_slot u) (set_proof o y ls) = refl
  undoes_event (port_slot u) (clear_proof o y) = refl
  undoes_event (port_slot u) (bind None port) = refl
  undoes_event (port_slot u) (bind (Some t) port) = refl
  undoes_event (port_slot u) (unbind None) = refl
  undoes_event (port_slot u) (unbind (Some t)) = refl
  undoes_event (label_slot n) (say t f) = refl
  undoes_event (label_slot n) (transfer k to) = refl
  undoes_event (label_slot n) (delete k) = refl
  undoes_event (label_slot n) (new_object y) = refl
  undoes_event (label_slot n) (set_goal o y g) = refl
  undoes_event (label_slot n) (clear_goal o y) = refl
  undoes_event (label_slot n) (set_proof o y ls) = refl
  undoes_event (label_slot n) (clear_proof o y) = refl
  undoes_event (label_slot n) (bind None port) = refl
  undoes_event (label_slot n) (bind (Some t) port) = refl
  undoes_event (label_slot n) (unbind None) = refl
  undoes_event (label_slot n) (unbind (Some t)) = refl

undoes_slot : (slot : SlotTree) (e : EntryTree) → undoes slot e ≡ is_undone slot (undone_by e)
undoes_slot slot e = undoes_event e.session e.principal slot e.event

or_if : (b c : Bool) → cond b true c ≡ (b || c)
or_if true c = refl
or_if false c = refl

-- one entry more in front, which undoes what was left in the slot that joins the keys
module _ (keys : List Slot) (e : EntryTree) (later : List EntryTree) (before : AreUndone keys later) where
  pub one_more : (keys' : List Slot) (u : Slot) → Some (slot_tree u) ≡ undone_by e
      → ((slot : Slot) → list_any (λ k. same_slots (slot_tree slot) (slot_tree k)) keys'
      ≡ cond (same_slots (slot_tree u) (slot_tree slot)) true (list_any (λ k. same_slots (slot_tree slot) (slot_tree k)) keys))
      → AreUndone keys' (e ∷ later)
  one_more keys' u some added slot =
      let here : same_slots (slot_tree u) (slot_tree slot) ≡ undoes (slot_tree slot) e = slots_equiv.symm u slot ∙ sym (undoes_slot (slot_tree slot) e ∙ ap (is_undone (slot_tree slot)) (sym some)) in
      added slot ∙ or_if (same_slots (slot_tree u) (slot_tree slot)) (list_any (λ k. same_slots (slot_tree slot) (slot_tree k)) keys) ∙ (λ i. here i || before slot i)
