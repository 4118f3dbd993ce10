-- An event that is accepted is spelled whole.
use Rattle.std.proofs.Common.{◌≡◌, ℕ, Bool, true, false, not, ◌&&◌, List, Option, Some, None, refl}
use Rattle.nal_term.specs.Trees.{TermTree, FormulaTree}
use Rattle.nal_parse.specs.Canonical.{FormulaFits, TermFits}
use Rattle.proof_lines.specs.Lines.{LineTree}
use Rattle.proof_text.specs.CanonicalProof.{ProofFits}
use Rattle.policy_history.specs.declared.heads.Head.{Head}
use Rattle.policy_history.specs.declared.events.Refusal.TheVariants.{BadFormula, BadProof}
use Rattle.policy_history.specs.Events.{EventTree, say, transfer, delete, new_object, set_goal, clear_goal, set_proof, clear_proof, bind, unbind}
use Rattle.policy_history.specs.Machine.{is_goal_formula, is_proof, is_stated, is_statement, label_fits, refusal_of}
use Rattle.policy_history.specs.PolicyTexts.{IsGiven, IsSpelledWhole}
use Rattle.policy_history.specs.States.{State}
use Rattle.policy_history.proofs.ForCallers.{none_applies, plain_tests}

is_so : (a : Bool) → not a ≡ false → a ≡ true
is_so true e = refl
is_so false e = absurd (cc e)

and_left : (a b : Bool) → (a && b) ≡ true → a ≡ true
and_left true b e = refl
and_left false b e = e

and_right : (a b : Bool) → (a && b) ≡ true → b ≡ true
and_right true b e = e
and_right false b e = absurd (cc e)

term_given : (t : Option TermTree) → is_stated t ≡ true → IsGiven TermFits t
term_given None e = absurd (cc e)
term_given (Some t) e = ((plain_tests.terms t).0 e).0

formula_given : (f : Option FormulaTree) → is_statement f ≡ true → IsGiven FormulaFits f
formula_given None e = absurd (cc e)
formula_given (Some f) e = ((plain_tests.formulas f).0 e).0

goal_given : (f : Option FormulaTree) → is_goal_formula f ≡ true → IsGiven FormulaFits f
goal_given None e = absurd (cc e)
goal_given (Some f) e = ((plain_tests.goals f).0 e).0

proof_given : (ls : Option (List LineTree)) → is_proof ls ≡ true → IsGiven ProofFits ls
proof_given None e = absurd (cc e)
proof_given (Some ls) e = (plain_tests.proofs ls).0 e

pub accepted_is_spelled : (h : Head) (s : State) (session p : ℕ) (e : EventTree) → refusal_of h s session p e ≡ None → IsSpelledWhole e
accepted_is_spelled h s session p (say t f) free =
    let all = is_so (is_stated t && (is_statement f && label_fits t f)) (none_applies h s session p (say t f) free BadFormula) in
    let rest = and_right (is_stated t) (is_statement f && label_fits t f) all in
    (term_given t (and_left (is_stated t) (is_statement f && label_fits t f) all), formula_given f (and_left (is_statement f) (label_fits t f) rest))
accepted_is_spelled h s session p (set_goal op object g) free = goal_given g (is_so (is_goal_formula g) (none_applies h s session p (set_goal op object g) free BadFormula))
accepted_is_spelled h s session p (set_proof op object ls) free = proof_given ls (is_so (is_proof ls) (none_applies h s session p (set_proof op object ls) free BadProof))
accepted_is_spelled h s session p (bind t port) free = term_given t (is_so (is_stated t) (none_applies h s session p (bind t port) free BadFormula))
accepted_is_spelled h s session p (unbind t) free = term_given t (is_so (is_stated t) (none_applies h s session p (unbind t) free BadFormula))
accepted_is_spelled h s session p (transfer k to) free = tt
accepted_is_spelled h s session p (delete k) free = tt
accepted_is_spelled h s session p (new_object x) free = tt
accepted_is_spelled h s session p (clear_goal op object) free = tt
accepted_is_spelled h s session p (clear_proof op object) free = tt
