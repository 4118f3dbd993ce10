-- Slots as the keys of a set: whether two are the same, and what a hash reads of one.
use Rattle.std.specs.Prelude.{◌≡◌, ◌++◌, Bool, true, false, ◌&&◌, nat_eq}
use Rattle.std.proofs.Common.{refl, ap}
use Rattle.std.specs.Bool.{Decides}
use Rattle.std.specs.Cmp.{decided, IsEquivalence, unsigned_Decides}
use Rattle.std.specs.Hash as fed
use Rattle.std.specs.Hash.{HashWrites}
use Rattle.nal_term.specs.Trees.{term_tree}
use Rattle.nal_term.specs.TreeKeys.{same_bytes, same_bytes-Decides, same_terms, same_terms-Decides, term_writes}
use Rattle.policy_compaction.specs.declared.slots.Slot.{Slot}
use Rattle.policy_compaction.specs.declared.slots.Slot.TheVariants.{Object, Goal, Proof, Port, Label}
use Rattle.policy_compaction.specs.Slots.{SlotTree, object_slot, goal_slot, proof_slot, port_slot, label_slot}

-- the plain value of a slot
abbrev pub slot_tree : Slot → SlotTree
slot_tree (Object x) = object_slot x
slot_tree (Goal op x) = goal_slot op x
slot_tree (Proof p op x) = proof_slot p op x
slot_tree (Port t) = port_slot (term_tree t)
slot_tree (Label k) = label_slot k

abbrev pub same_slots : SlotTree → SlotTree → Bool
same_slots (object_slot x) (object_slot y) = same_bytes x y
same_slots (goal_slot op x) (goal_slot o y) = same_bytes op o && same_bytes x y
same_slots (proof_slot p op x) (proof_slot q o y) = nat_eq p q && (same_bytes op o && same_bytes x y)
same_slots (port_slot t) (port_slot u) = same_terms t u
same_slots (label_slot k) (label_slot n) = nat_eq k n
same_slots _ _ = false

-- what a hash reads of a slot: its kind, and its parts
abbrev pub slot_writes : SlotTree → HashWrites
slot_writes (object_slot x) = fed.u8 0 ++ fed.slice fed.u8 x
slot_writes (goal_slot op x) = fed.u8 1 ++ fed.slice fed.u8 op ++ fed.slice fed.u8 x
slot_writes (proof_slot p op x) = fed.u8 2 ++ fed.u32 p ++ fed.slice fed.u8 op ++ fed.slice fed.u8 x
slot_writes (port_slot t) = fed.u8 3 ++ term_writes t
slot_writes (label_slot k) = fed.u8 4 ++ fed.u64 k

-- ---- `same` decides whether the slots are equal

both : (a b : Bool) → a ≡ true → b ≡ true → (a && b) ≡ true
both a b p q = cc (p, q)

first_of : (a b : Bool) → (a && b) ≡ true → a ≡ true
first_of true b e = refl
first_of false b e = e

second_of : (a b : Bool) → (a && b) ≡ true → b ≡ true
second_of true b e = e
second_of false b e = absurd (cc e)

slots_from : (a b : SlotTree) → same_slots a b ≡ true → a ≡ b
slots_from (object_slot x) (object_slot y) e = ap object_slot ((same_bytes-Decides x y).0 e)
slots_from (goal_slot op x) (goal_slot o y) e = λ i. goal_slot ((same_bytes-Decides op o).0 (first_of _ _ e) i) ((same_bytes-Decides x y).0 (second_of _ _ e) i)
slots_from (proof_slot p op x) (proof_slot q o y) e =
    let names = second_of (nat_eq p q) (same_bytes op o && same_bytes x y) e in
    λ i. proof_slot ((unsigned_Decides p q).0 (first_of _ _ e) i) ((same_bytes-Decides op o).0 (first_of _ _ names) i) ((same_bytes-Decides x y).0 (second_of _ _ names) i)
slots_from (port_slot t) (port_slot u) e = ap port_slot ((same_terms-Decides t u).0 e)
slots_from (label_slot k) (label_slot n) e = ap label_slot ((unsigned_Decides k n).0 e)
slots_from _ _ e = absurd (cc e)

slots_itself : (a : SlotTree) → same_slots a a ≡ true
slots_itself (object_slot x) = (same_bytes-Decides x x).1 refl
slots_itself (goal_slot op x) = both _ _ ((same_bytes-Decides op op).1 refl) ((same_bytes-Decides x x).1 refl)
slots_itself (proof_slot p op x) = both _ _ ((unsigned_Decides p p).1 refl) (both _ _ ((same_bytes-Decides op op).1 refl) ((same_bytes-Decides x x).1 refl))
slots_itself (port_slot t) = (same_terms-Decides t t).1 refl
slots_itself (label_slot k) = (unsigned_Decides k k).1 refl

pub same_slots-Decides : (a b : SlotTree) → Decides (same_slots a b) (a ≡ b)
same_slots-Decides a b = (slots_from a b, λ e. rw e (slots_itself b))

-- ---- the laws that a set asks of its keys

pub slots_equiv : IsEquivalence (λ (a b : Slot). same_slots (slot_tree a) (slot_tree b))
slots_equiv = let e = decided same_slots same_slots-Decides in
    record { refl = λ a. e.refl (slot_tree a); symm = λ a b. e.symm (slot_tree a) (slot_tree b); congr = λ a b c. e.congr (slot_tree a) (slot_tree b) (slot_tree c) }

pub same_slots-writes : (a b : Slot) → same_slots (slot_tree a) (slot_tree b) ≡ true → slot_writes (slot_tree a) ≡ slot_writes (slot_tree b)
same_slots-writes a b e = ap slot_writes (slots_from (slot_tree a) (slot_tree b) e)
