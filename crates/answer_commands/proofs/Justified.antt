-- What is allowed is derived from what is held.
use Rattle.std.proofs.Common.{◌≡◌, ℕ, suc, List, [], ◌∷◌, Bool, true, false, Contains, Some, codes, refl}
use Rattle.std.specs.List.{slice_get, All}
use Rattle.std.proofs.lemmas.List.Elements.{All-nil, All-cons}
use Rattle.nal_term.specs.Trees.{TermTree, FormulaTree}
use Rattle.nal_term.specs.Trees as tree
use Rattle.nal_subst.specs.Substitution.{formula_with}
use Rattle.proof_lines.specs.declared.rules.Rule.{Rule}
use Rattle.proof_lines.specs.declared.rules.Rule.TheVariants.{Label, Ask}
use Rattle.proof_lines.specs.Lines.{LineTree}
use Rattle.nal_rules.specs.Faults.{is_ask, is_label, formulas_where}
use Rattle.nal_rules.specs.Derivation.{Derives}
use Rattle.nal_rules.specs.Verdicts.{IsMissingLabel}
use Rattle.nal_rules.specs.declared.verdicts.Verdict.{Verdict}
use Rattle.nal_rules.specs.declared.verdicts.Verdict.TheVariants.{Allowed, Denied}
use Rattle.answer_commands.proofs.Verdicts.{in_list, filter_first, filter_later}
use Rattle.answer_commands.specs.CheckForm.{CheckForm}
use Rattle.answer_commands.specs.CheckVerdicts.{IsJustifiedIfAllowed}
use Rattle.answer_commands.specs.Inner.Support.{IsUnanswered, IsSupportVerdict}

label_rule : (r : Rule) (refs : List ℕ) (l : LineTree) → l.rule ≡ r → is_label l ≡ true → r ≡ Label
label_rule Label refs l e q = refl
label_rule _ refs l e q = absurd (cc (rw e at q))

ask_rule : (r : Rule) (refs : List ℕ) (l : LineTree) → l.rule ≡ r → is_ask l ≡ true → r ≡ Ask
ask_rule Ask refs l e q = refl
ask_rule _ refs l e q = absurd (cc (rw e at q))

-- the formulas of the lines that pass are in a list where each of them is
formulas_in : (passes : LineTree → Bool) (among : List FormulaTree) (ls : List LineTree)
    → ((i : ℕ) (l : LineTree) → slice_get ls i ≡ Some l → passes l ≡ true → Contains among l.formula) → All (Contains among) (formulas_where passes ls)
formulas_in passes among [] h = All-nil (Contains among)
formulas_in passes among (x ∷ ls) h = first (passes x) refl (formulas_in passes among ls (λ i l. h (suc i) l))
  where
    first : (b : Bool) → passes x ≡ b → All (Contains among) (formulas_where passes ls) → All (Contains among) (formulas_where passes (x ∷ ls))
    first true q rest =
        rw (filter_first passes x ls q) (All-cons (Contains among) x.formula (formulas_where passes ls) (h 0 x refl q) rest)
    first false q rest = rw (filter_later passes x ls q) rest

labels_held : (held : List FormulaTree) (ls : List LineTree) → ((k : ℕ) → IsMissingLabel ls held k → ⊥) → All (Contains held) (formulas_where is_label ls)
labels_held held ls missing =
    formulas_in is_label held ls (λ i l e q. in_list held l.formula (λ n. missing (suc i) (l, e, label_rule l.rule [] l refl q, n)))

asks_affirmed : (ys : List FormulaTree) (ls : List LineTree) → ((k : ℕ) → IsUnanswered ls ys k → ⊥) → All (Contains ys) (formulas_where is_ask ls)
asks_affirmed ys ls unanswered =
    formulas_in is_ask ys ls (λ i l e q. in_list ys l.formula (λ n. unanswered (suc i) (l, e, ask_rule l.rule [] l refl q, n)))

-- what an accepted proof comes to is justified
pub justified : (form : CheckForm) (g : FormulaTree) (v : Verdict) → formula_with (codes "subject") (tree.name form.subject) form.goal ≡ Some g
    → Derives (formulas_where is_label form.proof) (formulas_where is_ask form.proof) g → IsSupportVerdict form v → IsJustifiedIfAllowed form v
justified form g Allowed e d s = record {
  goal = g;
  labels = formulas_where is_label form.proof;
  answers = formulas_where is_ask form.proof;
  formed = e;
  held = labels_held form.labels form.proof s.0;
  affirmed = asks_affirmed form.yes form.proof s.1;
  derived = d;
}
justified form g (Denied cause) e d s = tt
