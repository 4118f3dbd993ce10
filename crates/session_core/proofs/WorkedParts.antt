-- What the worked sessions are made of: texts that are read, verdicts, states, and what is decided in them.
use Rattle.std.proofs.Common.{◌≡◌, ◌≤◌, ◌<◌, ◌^◌, ℕ, List, [], ◌∷◌, length, Option, Some, None, codes, refl, ap, arith, Bool}
use Rattle.std.specs.Prelude.{Ok, Err}
use Rattle.std.specs.Fmt.{decimal}
use Rattle.std.proofs.lemmas.Fmt.{decimal_digit}
use Rattle.std.proofs.lemmas.List.Elements.{All-cons, All-nil}
use Rattle.std.proofs.Math.Dec.{lit≤}
use Rattle.nal_term.specs.Trees.{FormulaTree, verum}
use Rattle.nal_term.specs.Free.{IsClosed}
use Rattle.nal_parse.specs.Canonical.{IsSpellable, IsSpellableTerm, formula_text, term_text}
use Rattle.nal_parse.specs.Grammar.{IsFormulaText, IsTermText}
use Rattle.proof_lines.specs.Lines.{HasRuleForm, LineTree}
use Rattle.proof_lines.specs.declared.rules.Rule.TheVariants.{Label, TrueI}
use Rattle.proof_text.specs.CanonicalProof.{IsSpellableLine, IsSpellableProof, proof_text}
use Rattle.proof_text.specs.ProofText.{IsProofText}
use Rattle.proof_text.proofs.ForCallers.{printed_formula, printed_proof, printed_term}
use Rattle.nal_rules.specs.Faults.{Applies, fault_number}
use Rattle.nal_rules.specs.Verdicts.{CaseTree, IsVerdict}
use Rattle.nal_rules.specs.declared.verdicts.Fault.{Fault}
use Rattle.nal_rules.specs.declared.verdicts.Fault.TheVariants.{NotGoal}
use Rattle.nal_rules.specs.declared.verdicts.Cause.TheVariants.{GoalUnset, LabelMissing, Line}
use Rattle.nal_rules.specs.declared.verdicts.Verdict.TheVariants.{Allowed as AllowedVerdict, Denied as DeniedVerdict}
use Rattle.policy_history.specs.declared.events.Due.{Due}
use Rattle.policy_history.specs.declared.events.Refusal.TheVariants.{NoSuchLabel}
use Rattle.policy_history.specs.Events.{delete}
use Rattle.policy_history.specs.States.{State, empty_state}
use Rattle.policy_history.specs.Values.{decision}
use Rattle.policy_history.proofs.ForCallers.{plain_tests}
use Rattle.verdict_words.specs.Answers.{MakesHit}
use Rattle.verdict_words.specs.Words.{spelling}
use Rattle.verdict_words.specs.declared.places.Held.{Held}
use Rattle.session_core.specs.Standing.{Triple}
use Rattle.session_core.specs.Inner.ToldRows.{read, f, alice, make_f, want_ok, say_ok, show_label, say_other, show_truth, clear, want_truth, head, ok, alice_says_ok, by_label, by_truth, other}
use Rattle.session_core.proofs.OneLineVerdicts.{allowed_line, denied_line, label_fault, line, missing_line, truth_fault, unset_goal}
use Rattle.session_core.proofs.WorkedTurns.{behind}

-- ---- Texts

pub one : decimal 1 ≡ codes "1"
one = decimal_digit 1 (omega arith)

pub three : decimal 3 ≡ codes "3"
three = decimal_digit 3 (omega arith)

pub alice_read : IsTermText (term_text alice) alice
alice_read = printed_term alice refl (lit≤ tt)

pub ok_read : IsFormulaText (formula_text ok) ok
ok_read = printed_formula ok (refl, All-nil IsSpellableTerm, lit≤ tt) ((plain_tests.formulas ok).0 refl).0

pub alice_says_ok_spelled : IsSpellable alice_says_ok
alice_says_ok_spelled = (refl, (refl, All-nil IsSpellableTerm, lit≤ tt))

pub other_read : IsFormulaText (formula_text other) other
other_read = printed_formula other (refl, All-nil IsSpellableTerm, lit≤ tt) ((plain_tests.formulas other).0 refl).0

pub truth_read : IsFormulaText (formula_text verum) verum
truth_read = printed_formula verum tt ((plain_tests.formulas verum).0 refl).0

pub alice_says_ok_read : IsFormulaText (formula_text alice_says_ok) alice_says_ok
alice_says_ok_read = printed_formula alice_says_ok alice_says_ok_spelled ((plain_tests.formulas alice_says_ok).0 refl).0

pub one_spelled : (l : LineTree) → HasRuleForm l → IsSpellableLine l → IsSpellableProof (l ∷ [])
one_spelled l form parts = record {
  few = omega arith;
  forms = All-cons HasRuleForm l [] form (All-nil HasRuleForm);
  parts = All-cons IsSpellableLine l [] parts (All-nil IsSpellableLine);
}

pub by_label_read : IsProofText (proof_text by_label) by_label
by_label_read =
    printed_proof by_label (one_spelled (line Label alice_says_ok) (record { references = refl; term = refl })
    (record { references = All-nil (λ (r : ℕ). r < 2 ^ 64); term = tt; formula = alice_says_ok_spelled })) ((plain_tests.proofs by_label).0 (rw one))

pub by_truth_read : IsProofText (proof_text by_truth) by_truth
by_truth_read =
    printed_proof by_truth (one_spelled (line TrueI verum) (record { references = refl; term = refl })
    (record { references = All-nil (λ (r : ℕ). r < 2 ^ 64); term = tt; formula = tt })) ((plain_tests.proofs by_truth).0 (rw one))

-- ---- Verdicts

pub alice_says_ok_closed : IsClosed alice_says_ok
alice_says_ok_closed = ((plain_tests.formulas alice_says_ok).0 refl).1

abbrev pub one_line : Option FormulaTree → LineTree → List FormulaTree → CaseTree
one_line goal l labels = record { goal = goal; proof = Some (l ∷ []); labels = labels; bound = [] }

pub label_right : (fault : Fault) → Applies by_label alice_says_ok 1 (line Label alice_says_ok) fault → ⊥
label_right fault a = (label_fault alice_says_ok alice_says_ok alice_says_ok_closed fault a).1 refl

pub truth_right : (fault : Fault) → Applies by_truth verum 1 (line TrueI verum) fault → ⊥
truth_right fault a = (truth_fault verum fault a).1 refl

pub label_allowed : (answers : List Bool) → IsVerdict (one_line (Some alice_says_ok) (line Label alice_says_ok) (alice_says_ok ∷ [])) answers AllowedVerdict
label_allowed answers = allowed_line (line Label alice_says_ok) alice_says_ok (alice_says_ok ∷ []) [] (λ e. cc e) answers label_right (λ label. (0, omega arith, refl))

pub label_missing : IsVerdict (one_line (Some alice_says_ok) (line Label alice_says_ok) []) [] (DeniedVerdict (LabelMissing 1))
label_missing = missing_line (line Label alice_says_ok) alice_says_ok [] [] label_right refl (λ c. omega (arith, c.1))

pub truth_wrong : IsVerdict (one_line (Some alice_says_ok) (line TrueI verum) []) [] (DeniedVerdict (Line 1 NotGoal))
truth_wrong =
    denied_line (line TrueI verum) alice_says_ok [] [] NotGoal (refl, λ e. cc e)
    (λ other less a. let is = ap fault_number (truth_fault alice_says_ok other a).0 in omega (arith, less, is))

pub goal_unset : IsVerdict (one_line None (line TrueI verum) []) [] (DeniedVerdict GoalUnset)
goal_unset = unset_goal (one_line None (line TrueI verum) []) refl

pub truth_allowed : IsVerdict (one_line (Some verum) (line TrueI verum) []) [] AllowedVerdict
truth_allowed = allowed_line (line TrueI verum) verum [] [] (λ e. cc e) [] truth_right (λ label. absurd (cc label))

-- ---- States, and what is decided in them

abbrev pub f_made : State
f_made = behind head (empty_state head) 0 make_f 17

abbrev pub goal_set : State
goal_set = behind head f_made 0 want_ok 36

abbrev pub ok_said : State
ok_said = behind head goal_set 0 say_ok 23

abbrev pub label_shown : State
label_shown = behind head ok_said 0 show_label 63

abbrev pub due : ℕ → ℕ → Due
due number bytes = record { number = number; bytes = bytes }

pub f_due : decision head (empty_state head) 1 0 make_f ≡ Ok (due 0 17)
f_due = rw (one, one)

pub goal_due : decision head f_made 1 0 want_ok ≡ Ok (due 0 36)
goal_due = rw (one, one)

pub say_due : decision head goal_set 1 0 say_ok ≡ Ok (due 3 23)
say_due = rw (one, one)

pub label_due : decision head ok_said 1 0 show_label ≡ Ok (due 0 63)
label_due = rw (one, one)

pub delete_due : decision head label_shown 1 0 (delete 3) ≡ Ok (due 0 17)
delete_due = rw (one, three, one, three)

abbrev pub label_deleted : State
label_deleted = behind head label_shown 0 (delete 3) 17

pub again_refused : decision head label_deleted 1 0 (delete 3) ≡ Err NoSuchLabel
again_refused = refl

pub other_due : decision head label_shown 1 0 say_other ≡ Ok (due 5 26)
other_due = rw (one, one)

abbrev pub other_said : State
other_said = behind head label_shown 0 say_other 26

pub truth_due : decision head goal_set 1 0 show_truth ≡ Ok (due 0 55)
truth_due = rw (one, one)

abbrev pub truth_shown : State
truth_shown = behind head goal_set 0 show_truth 55

pub clear_due : decision head truth_shown 1 0 clear ≡ Ok (due 0 22)
clear_due = rw (one, one)

abbrev pub goal_cleared : State
goal_cleared = behind head truth_shown 0 clear 22

pub truth_goal_due : decision head goal_cleared 1 0 want_truth ≡ Ok (due 0 27)
truth_goal_due = rw (one, one)

abbrev pub truth_wanted : State
truth_wanted = behind head goal_cleared 0 want_truth 27

-- ---- What the calls have in common

pub low : 0 < length head.principals
low = lit≤ tt

-- what the session knows behind its first call
abbrev pub known : List Triple
known = (read, f) ∷ []

abbrev pub allowed_held : Held
allowed_held = record { code = 1; line = 0; fault = 0 }

-- ---- Words

-- a slot that spells something of case 0 spells it at one point
one_point : (slot point at : ℕ) (held other : Held) → slot ≡ spelling 0 point held → slot ≡ spelling 0 at other → point ≤ 262144 → at ≤ 262144 → at ≡ point
one_point slot point at held other is also small below = omega (arith, is, also, small, below)

-- and so makes no hit where the word of a region is above that
pub no_hit : (slot point of_object of_store : ℕ) (held : Held) → slot ≡ spelling 0 point held → point ≤ 262144 → (of_object ≤ point → of_store ≤ point → ⊥) → (other : Held)
    → MakesHit 0 slot of_object of_store other → ⊥
no_hit slot point of_object of_store held is small above other (at, (fits, below, ok, also), first, second) =
    let same = one_point slot point at held other is also small below in
    above (omega (arith, same, first)) (omega (arith, same, second))
