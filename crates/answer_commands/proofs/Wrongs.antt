-- Why a text has no answer, where what is wrong with a line of it was to be told.
use Rattle.std.proofs.Common.{◌≡◌, ◌≢◌, ◌+◌, ℕ, List, Result, Ok, Err, IfOk, refl, subst, sym}
use Rattle.std.specs.declared.alloc.AllocError.{AllocError}
use Rattle.policy_history.specs.declared.heads.Head.{Head}
use Rattle.policy_history.specs.Events.{EntryTree}
use Rattle.journal_text.specs.CutPolicies.{IsCutErrorOf, ReadsCut}
use Rattle.journal_text.specs.PolicyText.{IsErrorOf, ReadsAs, formless, refusal}
use Rattle.journal_text.specs.declared.policy_reader.PolicyError.{PolicyError}
use Rattle.journal_text.specs.declared.policy_reader.PolicyError.TheVariants.{Bad, Refused, TooLong, Memory as NoPolicyMemory}
use Rattle.proof_text.specs.ProofText.{IsRefused}
use Rattle.proof_text.specs.declared.read.ProofError.{ProofError}
use Rattle.run_streams.specs.Flaws.{FlawTree, flaw_tree}
use Rattle.run_streams.specs.Refusals.{form_of}
use Rattle.run_streams.specs.declared.flaws.Flaw.{Flaw}
use Rattle.input_flaws.specs.ProofFlaws.{IsProofFlaw}
use Rattle.answer_commands.specs.declared.answering.AnswerError.{AnswerError}
use Rattle.answer_commands.specs.declared.answering.AnswerError.TheVariants.{Wrong, Memory}
use Rattle.answer_commands.specs.Answers.{IsAnswerError}
use Rattle.answer_commands.specs.CheckForm.{IsLineOfError}
use Rattle.answer_commands.specs.Exports.{HasPolicyForm, IsWrongPolicyLine}
use Rattle.answer_commands.specs.Recovers.{HasCutForm, IsWrongCutLine}
use Rattle.answer_commands.specs.Inner.Forms.{IsWrongProof}
use Rattle.answer_commands.specs.Inner.Wrongs.{IsWrongBy, IsWrongPolicyBy, wrong_by}

-- a line that is wrong, and what was told of it
pub line_wrong_by : (formed : List ℕ → Type 0) (wrong : List ℕ → ℕ → Type 0) (flawed : List ℕ → ℕ → FlawTree → Type 0) (text : List ℕ) (k : ℕ) (told : Result Flaw AllocError)
    → wrong text k → IfOk told (λ flaw. flawed text k (flaw_tree flaw)) → ¬ formed text
    → IsAnswerError (form_of formed (λ t n f. wrong t n × flawed t n f)) text (wrong_by k told)
line_wrong_by formed wrong flawed text k (Ok flaw) w is none = ((w, is), none)
line_wrong_by formed wrong flawed text k (Err e) w is none = tt

pub by_is : (IsFlaw : FlawTree → Type 0) (k : ℕ) (told : Result Flaw AllocError) → IfOk told (λ flaw. IsFlaw (flaw_tree flaw)) → IsWrongBy IsFlaw k (wrong_by k told)
by_is IsFlaw k (Ok flaw) is = (refl, is)
by_is IsFlaw k (Err e) is = tt

-- a proof's text that is refused
pub proof_wrong_by : (rest : List ℕ) (lines k j : ℕ) (error : ProofError) (told : Result Flaw AllocError) → IsRefused rest error → IsLineOfError rest error j → k ≡ lines + j
    → IfOk told (λ flaw. IsProofFlaw rest error (flaw_tree flaw)) → IsWrongProof rest lines (wrong_by k told)
proof_wrong_by rest lines k j error (Ok flaw) refused line e is = (error, j, refused, line, e, is)
proof_wrong_by rest lines k j error (Err none) refused line e is = tt

-- a policy's text that is refused, and one that may be cut
pub policy_wrong : (text : List ℕ) (error : PolicyError) (why : AnswerError) → IsErrorOf text error
    → (error ≢ NoPolicyMemory → (h : Head) (es : List EntryTree) → ¬ ReadsAs text h es) → IsWrongPolicyBy text error why
    → IsAnswerError (form_of HasPolicyForm IsWrongPolicyLine) text why
policy_wrong text (Bad k) (Wrong j flaw) is none by =
    (subst (λ n. IsWrongPolicyLine text n (flaw_tree flaw)) (sym by.0) (formless, is.1, by.1), λ has. none (λ m. cc m) has.0 has.1 has.2)
policy_wrong text (Bad k) Memory is none by = tt
policy_wrong text (Refused k number) (Wrong j flaw) is none by =
    (subst (λ n. IsWrongPolicyLine text n (flaw_tree flaw)) (sym by.0) (refusal is.1, is.3, by.1 is.1 is.2), λ has. none (λ m. cc m) has.0 has.1 has.2)
policy_wrong text (Refused k number) Memory is none by = tt
policy_wrong text TooLong why is none by = absurd by
policy_wrong text NoPolicyMemory why is none by = rw by tt

pub cut_wrong : (text : List ℕ) (error : PolicyError) (why : AnswerError) → IsCutErrorOf text error
    → (error ≢ NoPolicyMemory → (h : Head) (es : List EntryTree) → ¬ ReadsCut text h es) → IsWrongPolicyBy text error why
    → IsAnswerError (form_of HasCutForm IsWrongCutLine) text why
cut_wrong text (Bad k) (Wrong j flaw) is none by =
    (subst (λ n. IsWrongCutLine text n (flaw_tree flaw)) (sym by.0) (formless, is, by.1), λ has. none (λ m. cc m) has.0.head has.0.entries has.1)
cut_wrong text (Bad k) Memory is none by = tt
cut_wrong text (Refused k number) (Wrong j flaw) is none by =
    (subst (λ n. IsWrongCutLine text n (flaw_tree flaw)) (sym by.0) (refusal is.0, is.2, by.1 is.0 is.1), λ has. none (λ m. cc m) has.0.head has.0.entries has.1)
cut_wrong text (Refused k number) Memory is none by = tt
cut_wrong text TooLong why is none by = absurd by
cut_wrong text NoPolicyMemory why is none by = rw by tt
