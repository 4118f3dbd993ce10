-- What is told of a goal and of a proof, by the last entries that change them.
use Rattle.std.proofs.Common.{◌≡◌, ℕ, Bool, false, List, Option, Some, None, IsNone, IfSome, refl, sym, ap, ◌∙◌, subst}
use Rattle.std.specs.Option.{option_and_then}
use Rattle.std.specs.Prelude.{codes}
use Rattle.nal_term.specs.Trees.{FormulaTree, name}
use Rattle.nal_subst.specs.Substitution.{formula_with}
use Rattle.proof_lines.specs.Lines.{LineTree, line_trees}
use Rattle.object_table.specs.Objects.{number_of}
use Rattle.goal_store.specs.GoalRows.{goal_of}
use Rattle.policy_history.specs.declared.heads.Head.{Head}
use Rattle.policy_history.specs.Events.{EntryTree, set_goal, set_proof, name_of}
use Rattle.policy_history.specs.Judged.{case_at, goal_for, proof_for}
use Rattle.policy_history.specs.Machine.{IsLegal, replay}
use Rattle.label_holdings.specs.Entries.{IsLast, entry_at}
use Rattle.case_reasons.specs.declared.explanations.ProofReason.{ProofReason}
use Rattle.case_reasons.specs.declared.lines.LineReason.{LineReason}
use Rattle.case_reasons.specs.Explanations.{IsProofReason}
use Rattle.case_reasons.specs.LineReasons.{AreLineReasons}
use Rattle.case_reasons.specs.Origins.{IsRegisteredBy, changes_goal, changes_proof}
use Rattle.case_reasons.proofs.Goals.{goal_at, goal_event, no_goal}
use Rattle.case_reasons.proofs.Proofs.{proof_at, proof_event}

-- what is made of something is made of what is there
made_of : {X Y : Type 0} (f : X → Option Y) (o : Option X) (y : Y) → option_and_then f o ≡ Some y → (x : X) × (o ≡ Some x)
made_of f None y e = absurd (cc e)
made_of f (Some x) y e = (x, refl)

module _ (h : Head) (es : List EntryTree) (legal : IsLegal h es) (p : ℕ) (op object : List ℕ) (k : ℕ) (there : number_of (replay h es).objects object ≡ Some k) where
  -- the goal in force was set by the last entry that changes it
  pub set_by : (n : ℕ) (e : EntryTree) (f : FormulaTree) → IsLast (changes_goal op object) es n e → goal_for h (replay h es) p op k ≡ Some f
      → (g : FormulaTree) × (e.event ≡ set_goal op object (Some g)) × (goal_of (replay h es).goals op k ≡ Some g)
  set_by n e f last told =
      let found = made_of (formula_with (codes "subject") (name (name_of h.principals p))) (goal_of (replay h es).goals op k) f told in
      (found.0, goal_event op object e.event e refl last.passing found.0 (sym (goal_at h es legal op object k there n e last) ∙ found.1), found.1)

  pub goal_unset : ((m : ℕ) (e : EntryTree) → entry_at es m ≡ Some e → changes_goal op object e ≡ false) → goal_for h (replay h es) p op k ≡ None
  goal_unset none = ap (option_and_then (formula_with (codes "subject") (name (name_of h.principals p)))) (no_goal h es legal op object k there none)

  -- the proof was registered by the last entry that changes it
  pub registered_by : (n : ℕ) (e : EntryTree) (ls : List LineTree) → IsLast (changes_proof p op object) es n e → proof_for (replay h es) p op k ≡ Some ls → e.event ≡ set_proof op object (Some ls)
  registered_by n e ls last told = proof_event p op object e.event e refl last.passing ls (sym (proof_at h es legal p op object k there n e last) ∙ told)

-- where it comes from, and what its lines rest on
pub proof_told : (h : Head) (es : List EntryTree) (p : ℕ) (op object : List ℕ) (k : ℕ) (answers : List Bool) (items : List LineReason) (o : Option ProofReason)
    → (IsNone o → proof_for (replay h es) p op k ≡ None) → IfSome o (IsRegisteredBy h es p op object k) → IfSome o (λ r. r.lines.items ≡ items)
    → ((proof : List LineTree) → proof_for (replay h es) p op k ≡ Some proof → AreLineReasons h es p (case_at h (replay h es) p op k) answers proof items)
    → IsProofReason h es p op object k answers o
proof_told h es p op object k answers items None none registered same reasons = none refl
proof_told h es p op object k answers items (Some r) none registered same reasons =
    (registered, subst (AreLineReasons h es p (case_at h (replay h es) p op k) answers (line_trees r.proof)) (sym same) (reasons (line_trees r.proof) registered.told))
