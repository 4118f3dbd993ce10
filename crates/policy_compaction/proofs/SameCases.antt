-- States of one standing have the same cases.
use Rattle.std.proofs.Common.{◌≡◌, ◌||◌, ℕ, Bool, true, false, nat_eq, List, [], ◌∷◌, filter, Option, Some, unwrap_or, refl, sym, ap, ◌∙◌, codes}
use Rattle.std.specs.List.{flat_map, list_any}
use Rattle.std.specs.Option.{option_and_then}
use Rattle.nal_term.specs.Trees.{FormulaTree, name, verum, falsum, atom, test, and, or, implies, forall, exists, says, speaks_for, speaks_for_on}
use Rattle.nal_term.specs.TreeKeys.{same_formulas}
use Rattle.nal_subst.specs.Substitution.{formula_with}
use Rattle.nal_rules.specs.Faults.{formulas_where, is_ask, is_label}
use Rattle.object_table.specs.Objects.{ObjectRow, number_of}
use Rattle.goal_store.specs.GoalRows.{goal_of}
use Rattle.proof_store.specs.Cases.{proof_of, number_of as case_number}
use Rattle.label_store.specs.LabelRows.{LabelRow, is_held, labels_of}
use Rattle.policy_history.specs.declared.heads.Head.{Head}
use Rattle.policy_history.specs.Events.{name_of}
use Rattle.policy_history.specs.Judged.{binding_for, case_at, proof_for}
use Rattle.policy_history.specs.States.{State}
use Rattle.policy_compaction.specs.Compactions.{SameCases}
use Rattle.policy_compaction.specs.Standing.{SameStanding}

-- what a principal holds is among its labels
held_is : (rows : List LabelRow) (p : ℕ) (f : FormulaTree) → is_held rows p f ≡ list_any (same_formulas f) (labels_of rows p)
held_is [] p f = refl
held_is (row ∷ rows) p f = of (nat_eq p row.1) refl (held_is rows p f)
  where
    of : (b : Bool) → nat_eq p row.1 ≡ b → is_held rows p f ≡ list_any (same_formulas f) (labels_of rows p)
        → is_held (row ∷ rows) p f ≡ list_any (same_formulas f) (labels_of (row ∷ rows) p)
    of true e rest = rw e (ap (λ (b : Bool). same_formulas f row.2 || b) rest)
    of false e rest = rw e rest

module _ (h : Head) (s t : State) (same : SameStanding s t) where
  same_held : (p : ℕ) (f : FormulaTree) → is_held s.labels p f ≡ is_held t.labels p f
  same_held p f = held_is s.labels p f ∙ ap (list_any (same_formulas f)) (same.labels p) ∙ sym (held_is t.labels p f)

  same_binding : (f : FormulaTree) → binding_for s.ports f ≡ binding_for t.ports f
  same_binding (says u f) = rw (same.ports u) refl
  same_binding verum = refl
  same_binding falsum = refl
  same_binding (atom p ts) = refl
  same_binding (test c u v) = refl
  same_binding (and f g) = refl
  same_binding (or f g) = refl
  same_binding (implies f g) = refl
  same_binding (forall x f) = refl
  same_binding (exists x f) = refl
  same_binding (speaks_for u v) = refl
  same_binding (speaks_for_on u v xs) = refl

  -- what is named by an object with a number is that of the number
  module _ (op object : List ℕ) (number : ℕ) (there : number_of s.objects object ≡ Some number) where
    there_too : number_of t.objects object ≡ Some number
    there_too = ap (λ (rows : List ObjectRow). number_of rows object) (sym same.objects) ∙ there

    same_goal : goal_of s.goals op number ≡ goal_of t.goals op number
    same_goal = sym (ap (option_and_then (goal_of s.goals op)) there) ∙ same.goals op object ∙ ap (option_and_then (goal_of t.goals op)) there_too

    same_proof : (p : ℕ) → proof_for s p op number ≡ proof_for t p op number
    same_proof p =
        sym (ap (λ (o : Option ℕ). option_and_then (proof_of s.cases) (option_and_then (case_number s.cases p op) o)) there) ∙ same.proofs p op object
        ∙ ap (λ (o : Option ℕ). option_and_then (proof_of t.cases) (option_and_then (case_number t.cases p op) o)) there_too

    same_case : (p : ℕ) → case_at h s p op number ≡ case_at h t p op number
    same_case p = λ i. record {
      goal = ap (option_and_then (formula_with (codes "subject") (name (name_of h.principals p)))) same_goal i;
      proof = same_proof p i;
      labels = filter (λ (f : FormulaTree). same_held p f i) (formulas_where is_label (unwrap_or (same_proof p i) []));
      bound = flat_map (λ (f : FormulaTree). same_binding f i) (formulas_where is_ask (unwrap_or (same_proof p i) []));
    }

pub same_cases : (h : Head) (s t : State) → SameStanding s t → SameCases h s t
same_cases h s t same p op object number there = same_case h s t same op object number there p
