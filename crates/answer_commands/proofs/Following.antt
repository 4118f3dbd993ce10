-- Which line may follow at a stage, from the word with which it begins.
use Rattle.std.proofs.Common.{◌≡◌, ◌≢◌, ◌<◌, ◌++◌, ◌∷◌, [], ℕ, List, length, get_or, codes, eqb, false, refl, sym, ap, ◌∙◌}
use Rattle.std.proofs.lemmas.Bool.Decides.{Decides-eqb}
use Rattle.nal_term.specs.Names.{IsName}
use Rattle.nal_term.specs.Trees.{FormulaTree}
use Rattle.answer_commands.specs.declared.keys.FormulaKey.{FormulaKey}
use Rattle.form_lines.specs.Statements.{IsGoal, IsStatement}
use Rattle.answer_commands.specs.CheckForm.{Stage, header_due, subject_due, labels_due, yes_due, proof_due, Follows, header, subject, label, first_yes, next_yes, goal, goal_after_yes}
use Rattle.answer_commands.specs.Inner.Forms.{formula_trees}

-- the header alone follows at the beginning
pub header_wrong : {line : List ℕ} {next : Stage} → line ≢ codes "nexus check 1" → Follows header_due line next → ⊥
header_wrong other (header e) = other e

-- after the proof's beginning no line is read in this way
pub proof_wrong : {line x : List ℕ} {ls ys : List FormulaTree} {g : FormulaTree} {next : Stage} → Follows (proof_due x ls ys g) line next → ⊥
proof_wrong f = elim f [ ]

pub subject_follows : {line x y : List ℕ} {ls : List FormulaKey} → line ≡ codes "subject " ++ x → IsName x → y ≡ x → ls ≡ [] → Follows subject_due line (labels_due y (formula_trees ls))
subject_follows e n q l = rw (q, l) (subject e n)

pub subject_wrong : {line : List ℕ} {next : Stage} → ((x : List ℕ) → line ≡ codes "subject " ++ x → IsName x → ⊥) → Follows subject_due line next → ⊥
subject_wrong bad (subject e n) = bad _ e n

-- one text after a word
pub same_after_subject : {line x y : List ℕ} → line ≡ codes "subject " ++ x → line ≡ codes "subject " ++ y → x ≡ y
same_after_subject e f = cc

pub same_after_label : {line x y : List ℕ} → line ≡ codes "label " ++ x → line ≡ codes "label " ++ y → x ≡ y
same_after_label e f = cc

pub same_after_yes : {line x y : List ℕ} → line ≡ codes "yes " ++ x → line ≡ codes "yes " ++ y → x ≡ y
same_after_yes e f = cc

pub same_after_goal : {line x y : List ℕ} → line ≡ codes "goal " ++ x → line ≡ codes "goal " ++ y → x ≡ y
same_after_goal e f = cc

-- two numbers that differ
numbers_apart : (m n : ℕ) → m ≡ n → eqb m n ≡ false → ⊥
numbers_apart m n e f = let t = (Decides-eqb m n).1 e in cc

-- a line begins with one word
pub label_not_yes : {line x y : List ℕ} → line ≡ codes "label " ++ x → line ≡ codes "yes " ++ y → ⊥
label_not_yes e f = numbers_apart 108 121 (ap (λ (bs : List ℕ). get_or bs 0 0) (sym e ∙ f)) refl

pub label_not_goal : {line x y : List ℕ} → line ≡ codes "label " ++ x → line ≡ codes "goal " ++ y → ⊥
label_not_goal e f = numbers_apart 108 103 (ap (λ (bs : List ℕ). get_or bs 0 0) (sym e ∙ f)) refl

pub yes_not_goal : {line x y : List ℕ} → line ≡ codes "yes " ++ x → line ≡ codes "goal " ++ y → ⊥
yes_not_goal e f = numbers_apart 121 103 (ap (λ (bs : List ℕ). get_or bs 0 0) (sym e ∙ f)) refl

pub label_follows : {line text x : List ℕ} {ls : List FormulaTree} (longer : List FormulaKey) → line ≡ codes "label " ++ text → length ls < 4096
    → ((f : FormulaTree) × IsStatement text f × (formula_trees longer ≡ ls ++ f ∷ [])) → Follows (labels_due x ls) line (labels_due x (formula_trees longer))
label_follows longer e room m = rw m.2 (label e room m.1)

pub first_yes_follows : {line text x : List ℕ} {ls : List FormulaTree} {none : List FormulaKey} (longer : List FormulaKey) → line ≡ codes "yes " ++ text → none ≡ []
    → ((f : FormulaTree) × IsStatement text f × (formula_trees longer ≡ formula_trees none ++ f ∷ [])) → Follows (labels_due x ls) line (yes_due x ls (formula_trees longer))
first_yes_follows longer e n m = let q = rw n at m.2 in rw q (first_yes e m.1)

pub next_yes_follows : {line text x : List ℕ} {ls ys : List FormulaTree} (longer : List FormulaKey) → line ≡ codes "yes " ++ text → length ys < 4096
    → ((f : FormulaTree) × IsStatement text f × (formula_trees longer ≡ ys ++ f ∷ [])) → Follows (yes_due x ls ys) line (yes_due x ls (formula_trees longer))
next_yes_follows longer e room m = rw m.2 (next_yes e room m.1)

pub goal_follows : {line text x : List ℕ} {ls : List FormulaTree} {g : FormulaTree} {none : List FormulaKey} → line ≡ codes "goal " ++ text → IsGoal text g → none ≡ []
    → Follows (labels_due x ls) line (proof_due x ls (formula_trees none) g)
goal_follows e g n = rw n (goal e g)

-- no line follows among the labels where none of the three words does
pub labels_wrong : {line x : List ℕ} {ls : List FormulaTree} {next : Stage}
    → ((t : List ℕ) (f : FormulaTree) → line ≡ codes "label " ++ t → length ls < 4096 → IsStatement t f → ⊥)
    → ((t : List ℕ) (f : FormulaTree) → line ≡ codes "yes " ++ t → IsStatement t f → ⊥)
    → ((t : List ℕ) (g : FormulaTree) → line ≡ codes "goal " ++ t → IsGoal t g → ⊥)
    → Follows (labels_due x ls) line next → ⊥
labels_wrong a b c (label e room s) = a _ _ e room s
labels_wrong a b c (first_yes e s) = b _ _ e s
labels_wrong a b c (goal e g) = c _ _ e g

-- no line follows among the yes formulas where neither word does
pub yes_wrong : {line x : List ℕ} {ls ys : List FormulaTree} {next : Stage}
    → ((t : List ℕ) (f : FormulaTree) → line ≡ codes "yes " ++ t → length ys < 4096 → IsStatement t f → ⊥)
    → ((t : List ℕ) (g : FormulaTree) → line ≡ codes "goal " ++ t → IsGoal t g → ⊥)
    → Follows (yes_due x ls ys) line next → ⊥
yes_wrong b c (next_yes e room s) = b _ _ e room s
yes_wrong b c (goal_after_yes e g) = c _ _ e g

-- one stage follows the header, and one a name
pub header_only : {line : List ℕ} {next : Stage} → Follows header_due line next → next ≡ subject_due
header_only (header e) = refl

pub subject_only : {line x y : List ℕ} {ls : List FormulaKey} {next : Stage} → line ≡ codes "subject " ++ x → y ≡ x → ls ≡ [] → Follows subject_due line next → next ≡ labels_due y (formula_trees ls)
subject_only e q l (subject f n) = rw (q, l, same_after_subject f e) refl

-- one stage follows a label
pub label_only : {line text x : List ℕ} {ls : List FormulaTree} {next : Stage} (longer : List FormulaKey) → line ≡ codes "label " ++ text
    → ((f : FormulaTree) → IsStatement text f → formula_trees longer ≡ ls ++ f ∷ []) → Follows (labels_due x ls) line next → next ≡ labels_due x (formula_trees longer)
label_only {x = x} longer e only (label d room s) = ap (labels_due x) (sym (only _ (rw (same_after_label e d) s)))
label_only longer e only (first_yes d s) = absurd (label_not_yes e d)
label_only longer e only (goal d g) = absurd (label_not_goal e d)

-- one stage follows the first yes formula
pub first_yes_only : {line text x : List ℕ} {ls : List FormulaTree} {none : List FormulaKey} {next : Stage} (longer : List FormulaKey) → line ≡ codes "yes " ++ text → none ≡ []
    → ((f : FormulaTree) → IsStatement text f → formula_trees longer ≡ formula_trees none ++ f ∷ []) → Follows (labels_due x ls) line next → next ≡ yes_due x ls (formula_trees longer)
first_yes_only longer e n only (label d room s) = absurd (label_not_yes d e)
first_yes_only {x = x} {ls = ls} longer e n only (first_yes d s) = ap (yes_due x ls) (sym (rw n at only _ (rw (same_after_yes e d) s)))
first_yes_only longer e n only (goal d g) = absurd (yes_not_goal e d)

-- one stage follows a further yes formula
pub next_yes_only : {line text x : List ℕ} {ls ys : List FormulaTree} {next : Stage} (longer : List FormulaKey) → line ≡ codes "yes " ++ text
    → ((f : FormulaTree) → IsStatement text f → formula_trees longer ≡ ys ++ f ∷ []) → Follows (yes_due x ls ys) line next → next ≡ yes_due x ls (formula_trees longer)
next_yes_only {x = x} {ls = ls} longer e only (next_yes d room s) = ap (yes_due x ls) (sym (only _ (rw (same_after_yes e d) s)))
next_yes_only longer e only (goal_after_yes d g) = absurd (yes_not_goal e d)

-- one stage follows the goal
pub goal_only : {line text x : List ℕ} {ls : List FormulaTree} {g : FormulaTree} {none : List FormulaKey} {next : Stage} → line ≡ codes "goal " ++ text → none ≡ []
    → ((f : FormulaTree) → IsGoal text f → f ≡ g) → Follows (labels_due x ls) line next → next ≡ proof_due x ls (formula_trees none) g
goal_only e n only (label d room s) = absurd (label_not_goal d e)
goal_only e n only (first_yes d s) = absurd (yes_not_goal d e)
goal_only {x = x} {ls = ls} e n only (goal d s) = rw n (ap (proof_due x ls []) (only _ (rw (same_after_goal e d) s)))

pub goal_after_yes_only : {line text x : List ℕ} {ls ys : List FormulaTree} {g : FormulaTree} {next : Stage} → line ≡ codes "goal " ++ text
    → ((f : FormulaTree) → IsGoal text f → f ≡ g) → Follows (yes_due x ls ys) line next → next ≡ proof_due x ls ys g
goal_after_yes_only e only (next_yes d room s) = absurd (yes_not_goal d e)
goal_after_yes_only {x = x} {ls = ls} {ys = ys} e only (goal_after_yes d s) = ap (proof_due x ls ys) (only _ (rw (same_after_goal e d) s))
