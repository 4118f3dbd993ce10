-- A compacted history sets the same goals, registers the same proofs and binds the same principals.
use Rattle.std.proofs.Common.{◌≡◌, ℕ, Bool, false, List, Option, Some, None, refl, sym, ap, ◌∙◌}
use Rattle.std.specs.Option.{option_and_then}
use Rattle.nal_term.specs.Trees.{TermTree}
use Rattle.proof_lines.specs.Lines.{LineTree}
use Rattle.object_table.specs.Objects.{ObjectRow, number_of}
use Rattle.goal_store.specs.GoalRows.{goal_of, port_of}
use Rattle.proof_store.specs.Cases.{proof_of, number_of as case_number}
use Rattle.policy_history.specs.declared.heads.Head.{Head}
use Rattle.policy_history.specs.Events.{EventTree, EntryTree}
use Rattle.policy_history.specs.Judged.{proof_for}
use Rattle.policy_history.specs.Machine.{IsLegal, replay}
use Rattle.policy_history.specs.States.{State, goal_named, proof_named}
use Rattle.label_holdings.specs.Entries.{IsLast, entry_at}
use Rattle.case_reasons.specs.Origins.{changes_goal, changes_proof}
use Rattle.case_reasons.proofs.ForCallers.{goal_at, goal_in, no_goal, no_proof, proof_at, proof_of_event}
use Rattle.policy_compaction.specs.Kept.{compacted}
use Rattle.policy_compaction.specs.Slots.{changes_port, goal_slot, port_slot, proof_slot}
use Rattle.policy_compaction.proofs.Fillings.{goal_fills, port_fills, proof_fills}
use Rattle.policy_compaction.proofs.LastKept.{is_last, last_of, none_of, told_same}
use Rattle.policy_compaction.proofs.Ports.{no_port, port_at, port_in}

-- what is in force is what the last entry that changes it tells, and nothing where none does
by_last : {V : Type 0} (passes : EntryTree → Bool) (value : EventTree → Option V) (es : List EntryTree) (in_force : Option V)
    → ((n : ℕ) (e : EntryTree) → IsLast passes es n e → in_force ≡ value e.event)
    → (((m : ℕ) (e : EntryTree) → entry_at es m ≡ Some e → passes e ≡ false) → in_force ≡ None)
    → in_force ≡ option_and_then (λ (e : EntryTree). value e.event) (last_of passes es)
by_last passes value es in_force some none = of (last_of passes es) refl
  where
    of : (o : Option EntryTree) → last_of passes es ≡ o → in_force ≡ option_and_then (λ (e : EntryTree). value e.event) (last_of passes es)
    of (Some e) s = rw s (let l = is_last passes es e s in some l.0 e l.1)
    of None s = rw s (none (none_of passes es s))

module _ (h : Head) (es : List EntryTree) (legal : IsLegal h es) where
  module _ (op object : List ℕ) (k : ℕ) (there : number_of (replay h es).objects object ≡ Some k) where
    goal_by_last : goal_of (replay h es).goals op k ≡ option_and_then (λ (e : EntryTree). goal_in e.event) (last_of (changes_goal op object) es)
    goal_by_last = by_last (changes_goal op object) goal_in es (goal_of (replay h es).goals op k) (goal_at h es legal op object k there) (no_goal h es legal op object k there)

    proof_by_last : (p : ℕ) → proof_for (replay h es) p op k ≡ option_and_then (λ (e : EntryTree). proof_of_event e.event) (last_of (changes_proof p op object) es)
    proof_by_last p = by_last (changes_proof p op object) proof_of_event es (proof_for (replay h es) p op k) (proof_at h es legal p op object k there) (no_proof h es legal p op object k there)

  port_by_last : (t : TermTree) → port_of (replay h es).ports t ≡ option_and_then (λ (e : EntryTree). port_in e.event) (last_of (changes_port t) es)
  port_by_last t = by_last (changes_port t) port_in es (port_of (replay h es).ports t) (port_at h es legal t) (no_port h es legal t)

-- the proof of a principal for an operation on the object with this number
abbrev proof_by : State → ℕ → List ℕ → Option ℕ → Option (List LineTree)
proof_by s p op number = option_and_then (proof_of s.cases) (option_and_then (case_number s.cases p op) number)

module _ (h : Head) (es : List EntryTree) (legal : IsLegal h es) (legal_now : IsLegal h (compacted es)) where
  pub same_ports : (t : TermTree) → port_of (replay h es).ports t ≡ port_of (replay h (compacted es)).ports t
  same_ports t = port_by_last h es legal t ∙ told_same (port_slot t) port_in (port_fills t) (λ k j to. refl) es ∙ sym (port_by_last h (compacted es) legal_now t)

  module _ (objects : (replay h es).objects ≡ (replay h (compacted es)).objects) where
    number_now : (object : List ℕ) → number_of (replay h (compacted es)).objects object ≡ number_of (replay h es).objects object
    number_now object = ap (λ (rows : List ObjectRow). number_of rows object) (sym objects)

    pub same_goals : (op object : List ℕ) → goal_named (replay h es) op object ≡ goal_named (replay h (compacted es)) op object
    same_goals op object = of (number_of (replay h es).objects object) refl
      where
        of : (o : Option ℕ) → number_of (replay h es).objects object ≡ o → goal_named (replay h es) op object ≡ goal_named (replay h (compacted es)) op object
        of None there = ap (option_and_then (goal_of (replay h es).goals op)) there ∙ sym (ap (option_and_then (goal_of (replay h (compacted es)).goals op)) (number_now object ∙ there))
        of (Some k) there =
            ap (option_and_then (goal_of (replay h es).goals op)) there ∙ goal_by_last h es legal op object k there
            ∙ told_same (goal_slot op object) goal_in (goal_fills op object) (λ k j to. refl) es
            ∙ sym (ap (option_and_then (goal_of (replay h (compacted es)).goals op)) (number_now object ∙ there)
            ∙ goal_by_last h (compacted es) legal_now op object k (number_now object ∙ there))

    pub same_proofs : (p : ℕ) (op object : List ℕ) → proof_named (replay h es) p op object ≡ proof_named (replay h (compacted es)) p op object
    same_proofs p op object = of (number_of (replay h es).objects object) refl
      where
        of : (o : Option ℕ) → number_of (replay h es).objects object ≡ o → proof_named (replay h es) p op object ≡ proof_named (replay h (compacted es)) p op object
        of None there = ap (proof_by (replay h es) p op) there ∙ sym (ap (proof_by (replay h (compacted es)) p op) (number_now object ∙ there))
        of (Some k) there =
            ap (proof_by (replay h es) p op) there ∙ proof_by_last h es legal op object k there p
            ∙ told_same (proof_slot p op object) proof_of_event (proof_fills p op object) (λ k j to. refl) es
            ∙ sym (ap (proof_by (replay h (compacted es)) p op) (number_now object ∙ there) ∙ proof_by_last h (compacted es) legal_now op object k (number_now object ∙ there) p)
