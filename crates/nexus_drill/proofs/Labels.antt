-- Which label a journal of the load holds after each of its steps.
use Rattle.std.proofs.Common.{◌≡◌, ◌≤◌, ◌+◌, ◌⊎◌, inl, inr, ℕ, zero, suc, Bool, true, false, nat_eq, List, [], ◌∷◌, ◌++◌, length, map, Option, Some, None, refl, sym, ap, ◌∙◌, subst, arith, length-append, codes}
use Rattle.std.specs.List.{slice_get, last_or}
use Rattle.std.specs.Cmp.{unsigned_Decides}
use Rattle.std.proofs.lemmas.List.{map-append}
use Rattle.label_store.specs.LabelRows.{LabelRow, has_number}
use Rattle.policy_history.specs.declared.heads.Head.{Head}
use Rattle.nal_term.specs.Trees.{FormulaTree, TermTree, says}
use Rattle.proof_lines.specs.Lines.{LineTree}
use Rattle.policy_history.specs.Events.{EntryTree, EventTree, delete, new_object, say, set_goal, set_proof}
use Rattle.policy_history.specs.Machine.{IsAccepted, IsLegal, IsLegalFrom, accepted, after, replay, replay_from}
use Rattle.policy_history.specs.Rows.{take_out}
use Rattle.policy_history.specs.States.{State, empty_state}
use Rattle.policy_history.proofs.ForCallers.{accepted_after, replay_accepted}
use Rattle.cache_machine.specs.States.{ActorTree, MachineState}
use Rattle.cache_machine.specs.Moves.{IsStep, MoveTree, MovesAt, StepTree, after_move, write, store, idle, goes, tells, fills, raises, writes}
use Rattle.cache_machine.proofs.ForCallers.{writes_own}
use Rattle.nexus_drill.specs.Inner.{IsHeld, numbers_of, held_after}
use Rattle.nexus_drill.specs.Loads.{act_of, alice, change_of, label, label_proof, last_label, ok, opening, opening_head}

-- ---- What a step adds to the journal: nothing, or one entry with its own event

pub record AddsOne (s : MachineState) (step : StepTree) (t : MachineState) : Type 0 where
  pub actor : ActorTree
  pub event : EventTree
  pub act_is : step.act ≡ write event
  pub entries : t.entries ≡ s.entries ++ record { session = actor.session; principal = actor.principal; event = event } ∷ []

pub adds : (s : MachineState) (step : StepTree) (move : MoveTree) (t : MachineState) → IsStep s step move t → (t.entries ≡ s.entries) ⊎ AddsOne s step t
adds s step move t (m, e) = of move m (ap (λ (z : MachineState). z.entries) e)
  where
    of : (move : MoveTree) → MovesAt s step.actor (slice_get s.actors step.actor) step.act move → t.entries ≡ (after_move s step.actor move).entries → (t.entries ≡ s.entries) ⊎ AddsOne s step t
    of idle m e = inl e
    of (goes stage) m e = inl e
    of (tells told stage) m e = inl e
    of (fills kept stage) m e = inl e
    of (raises region event) m e = inl e
    of (writes event) m e = of_actor (slice_get s.actors step.actor) refl m
      where
        of_actor : (o : Option ActorTree) → slice_get s.actors step.actor ≡ o → MovesAt s step.actor o step.act (writes event) → (t.entries ≡ s.entries) ⊎ AddsOne s step t
        of_actor None at m = absurd (cc m)
        of_actor (Some x) at m = inr (record { actor = x; event = event; act_is = writes_own s step.actor x step.act (writes event) m event refl; entries = e ∙ rw at refl })

-- ---- The labels after an entry

last_accepted : (h : Head) (s : State) (es : List EntryTree) (e : EntryTree) → IsLegalFrom h s (es ++ e ∷ []) → IsAccepted h (replay_from h s es) e
last_accepted h s [] e legal = legal.0
last_accepted h s (x ∷ es) e legal = last_accepted h (after h s x) es e legal.1

-- the label that is said last is the one that is held
pub last_is_held : (es : List EntryTree) (held : Option ℕ) → IsHeld es held → last_label es ≡ held
last_is_held es held is = ap (last_or None) is ∙ of held
  where
    of : (held : Option ℕ) → last_or None (numbers_of held) ≡ held
    of None = refl
    of (Some number) = refl

-- without its own number the one row is gone
taken_out : (rows : List LabelRow) (number : ℕ) → map (λ (row : LabelRow). row.0) rows ≡ number ∷ [] → take_out (has_number number) rows ≡ []
taken_out [] number is = absurd (cc is)
taken_out (row ∷ []) number is = let same : row.0 ≡ number = cc is in rw (same, (unsigned_Decides number number).1 refl) refl
taken_out (row ∷ other ∷ rows) number is = absurd (cc is)

module _ (es : List EntryTree) (e : EntryTree) (legal : IsLegal opening_head (es ++ e ∷ [])) (count_is : (replay opening_head es).entries ≡ length es) where
  abbrev s : State
  s = replay opening_head es

  leads : replay opening_head (es ++ e ∷ []) ≡ accepted opening_head s e.session e.principal e.event
  leads = replay_accepted opening_head es e (last_accepted opening_head (empty_state opening_head) es e legal)

  other_length : length (es ++ e ∷ []) ≡ length es + 1 → nat_eq (length es) (length (es ++ e ∷ [])) ≡ false
  other_length long = of (nat_eq (length es) (length (es ++ e ∷ []))) refl
    where
      of : (b : Bool) → nat_eq (length es) (length (es ++ e ∷ [])) ≡ b → nat_eq (length es) (length (es ++ e ∷ [])) ≡ false
      of true q = let same = (unsigned_Decides (length es) (length (es ++ e ∷ []))).0 q in absurd (omega (arith, same, long))
      of false q = q

  pub held_then : (held : Option ℕ) → IsHeld es held → e.event ≡ change_of held → IsHeld (es ++ e ∷ []) (held_after held (length es) (length (es ++ e ∷ [])))
  held_then None is event_is =
      let long = length-append es (e ∷ []) in
      let next : replay opening_head (es ++ e ∷ []) ≡ accepted opening_head s e.session e.principal (say (Some alice) (Some ok)) = leads ∙ ap (accepted opening_head s e.session e.principal) event_is in
      let rows : map (λ (row : LabelRow). row.0) (replay opening_head (es ++ e ∷ [])).labels ≡ map (λ (row : LabelRow). row.0) (s.labels ++ (s.entries + 1, e.principal, label) ∷ []) =
      ap (λ (z : State). map (λ (row : LabelRow). row.0) z.labels) next in
      let last : s.entries + 1 ≡ length (es ++ e ∷ []) = omega (arith, long, count_is) in
      rw (other_length long) (rows ∙ map-append (λ (row : LabelRow). row.0) s.labels ((s.entries + 1, e.principal, label) ∷ []) ∙ rw (is, last) refl)
  held_then (Some number) is event_is =
      let long = length-append es (e ∷ []) in
      let next : replay opening_head (es ++ e ∷ []) ≡ accepted opening_head s e.session e.principal (delete number) = leads ∙ ap (accepted opening_head s e.session e.principal) event_is in
      rw (other_length long) (ap (λ (z : State). map (λ (row : LabelRow). row.0) z.labels) next ∙ ap (map (λ (row : LabelRow). row.0)) (taken_out s.labels number is))

-- the acts by their numbers write no other event
write_is : (n : ℕ) (e event : EventTree) → act_of n e ≡ write event → event ≡ e
write_is zero e event is = let same : e ≡ event = cc is in sym same
write_is (suc zero) e event is = absurd (cc is)
write_is (suc (suc zero)) e event is = absurd (cc is)
write_is (suc (suc (suc zero))) e event is = absurd (cc is)
write_is (suc (suc (suc (suc zero)))) e event is = absurd (cc is)
write_is (suc (suc (suc (suc (suc zero))))) e event is = absurd (cc is)
write_is (suc (suc (suc (suc (suc (suc zero)))))) e event is = absurd (cc is)
write_is (suc (suc (suc (suc (suc (suc (suc zero))))))) e event is = absurd (cc is)
write_is (suc (suc (suc (suc (suc (suc (suc (suc zero)))))))) e event is = absurd (cc is)
write_is (suc (suc (suc (suc (suc (suc (suc (suc (suc zero))))))))) e event is = absurd (cc is)
write_is (suc (suc (suc (suc (suc (suc (suc (suc (suc (suc n)))))))))) e event is = absurd (cc is)

-- from 9 on the act is Store
pub store_from : (n : ℕ) (e : EventTree) → 9 ≤ n → act_of n e ≡ store
store_from zero e high = absurd (omega (arith, high))
store_from (suc zero) e high = absurd (omega (arith, high))
store_from (suc (suc zero)) e high = absurd (omega (arith, high))
store_from (suc (suc (suc zero))) e high = absurd (omega (arith, high))
store_from (suc (suc (suc (suc zero)))) e high = absurd (omega (arith, high))
store_from (suc (suc (suc (suc (suc zero))))) e high = absurd (omega (arith, high))
store_from (suc (suc (suc (suc (suc (suc zero)))))) e high = absurd (omega (arith, high))
store_from (suc (suc (suc (suc (suc (suc (suc zero))))))) e high = absurd (omega (arith, high))
store_from (suc (suc (suc (suc (suc (suc (suc (suc zero)))))))) e high = absurd (omega (arith, high))
store_from (suc (suc (suc (suc (suc (suc (suc (suc (suc zero))))))))) e high = refl
store_from (suc (suc (suc (suc (suc (suc (suc (suc (suc (suc n)))))))))) e high = refl

-- the label that is held after a step of the load
pub held_step : (s t : MachineState) (actor n : ℕ) (held : Option ℕ) (move : MoveTree) → IsStep s (record { actor = actor; act = act_of n (change_of held) }) move t → IsHeld s.entries held
    → IsLegal opening_head t.entries → (replay opening_head s.entries).entries ≡ length s.entries → IsHeld t.entries (held_after held (length s.entries) (length t.entries))
held_step s t actor n held move step is legal count_is = elim (adds s (record { actor = actor; act = act_of n (change_of held) }) move t step) [
  | inl same ↦ rw (same, (unsigned_Decides (length s.entries) (length s.entries)).1 refl) is
  | inr one ↦
      let e : EntryTree = record { session = one.actor.session; principal = one.actor.principal; event = one.event } in
      subst (λ (es : List EntryTree). IsHeld es (held_after held (length s.entries) (length es))) (sym one.entries)
      (held_then s.entries e (subst (IsLegal opening_head) one.entries legal) count_is held is (write_is n (change_of held) one.event one.act_is))
]

-- ---- The label at the start

-- after an object, a goal, a statement and a proof, all accepted, the labels are the statement alone, with the number 3
labels_of_four : (h : Head) (a b c d : EntryTree) (x op object : List ℕ) (g : FormulaTree) (t : TermTree) (f : FormulaTree) (ls : List LineTree) → a.event ≡ new_object x → b.event ≡ set_goal op object (Some g)
    → c.event ≡ say (Some t) (Some f) → d.event ≡ set_proof op object (Some ls) → IsLegal h (a ∷ b ∷ c ∷ d ∷ []) → map (λ (row : LabelRow). row.0) (replay h (a ∷ b ∷ c ∷ d ∷ [])).labels ≡ 3 ∷ []
labels_of_four h a b c d x op object g t f ls a_is b_is c_is d_is legal =
    let s0 = empty_state h in
    let s1 = after h s0 a in
    let s2 = after h s1 b in
    let s3 = after h s2 c in
    let r1 : s1 ≡ accepted h s0 a.session a.principal (new_object x) = accepted_after h s0 a legal.0 ∙ ap (accepted h s0 a.session a.principal) a_is in
    let r2 : s2 ≡ accepted h s1 b.session b.principal (set_goal op object (Some g)) = accepted_after h s1 b legal.1.0 ∙ ap (accepted h s1 b.session b.principal) b_is in
    let r3 : s3 ≡ accepted h s2 c.session c.principal (say (Some t) (Some f)) = accepted_after h s2 c legal.1.1.0 ∙ ap (accepted h s2 c.session c.principal) c_is in
    let r4 : after h s3 d ≡ accepted h s3 d.session d.principal (set_proof op object (Some ls)) = accepted_after h s3 d legal.1.1.1.0 ∙ ap (accepted h s3 d.session d.principal) d_is in
    let l1 : s1.labels ≡ [] = ap (λ (s : State). s.labels) r1 in
    let l2 : s2.labels ≡ s1.labels = ap (λ (s : State). s.labels) r2 in
    let l3 : s3.labels ≡ s2.labels ++ (s2.entries + 1, c.principal, says t f) ∷ [] = ap (λ (s : State). s.labels) r3 in
    let l4 : (after h s3 d).labels ≡ s3.labels = ap (λ (s : State). s.labels) r4 in
    let n1 : s1.entries ≡ 0 + 1 = ap (λ (s : State). s.entries) r1 in
    let n2 : s2.entries ≡ s1.entries + 1 = ap (λ (s : State). s.entries) r2 in
    let third : s2.entries + 1 ≡ 3 = omega (arith, n1, n2) in
    ap (map (λ (row : LabelRow). row.0)) (l4 ∙ l3 ∙ ap (λ (rows : List LabelRow). rows ++ (s2.entries + 1, c.principal, says t f) ∷ []) (l2 ∙ l1)) ∙ ap (λ (n : ℕ). n ∷ []) third

pub held_at_start : (es : List EntryTree) → es ≡ opening → IsLegal opening_head es → IsHeld es (Some 3)
held_at_start es same legal = of es same legal
  where
    of : (es : List EntryTree) → es ≡ opening → IsLegal opening_head es → IsHeld es (Some 3)
    of (a ∷ b ∷ c ∷ d ∷ []) q legal =
        let a_is : a ≡ record { session = 1; principal = 0; event = new_object (codes "f") } = cc q in
        let b_is : b ≡ record { session = 1; principal = 0; event = set_goal (codes "read") (codes "f") (Some label) } = cc q in
        let c_is : c ≡ record { session = 1; principal = 0; event = say (Some alice) (Some ok) } = cc q in
        let d_is : d ≡ record { session = 1; principal = 0; event = set_proof (codes "read") (codes "f") (Some label_proof) } = cc q in
        labels_of_four opening_head a b c d (codes "f") (codes "read") (codes "f") label alice ok label_proof (ap (λ (z : EntryTree). z.event) a_is) (ap (λ (z : EntryTree). z.event) b_is) (ap (λ (z : EntryTree). z.event) c_is) (ap (λ (z : EntryTree). z.event) d_is) legal
    of [] q legal = absurd (cc q)
    of (a ∷ []) q legal = absurd (cc q)
    of (a ∷ b ∷ []) q legal = absurd (cc q)
    of (a ∷ b ∷ c ∷ []) q legal = absurd (cc q)
    of (a ∷ b ∷ c ∷ d ∷ e ∷ es) q legal = absurd (cc q)
