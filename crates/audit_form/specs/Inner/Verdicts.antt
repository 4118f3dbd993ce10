-- How the text of an answer is read: by the words with which it begins.
use Rattle.std.specs.Prelude.{◌≡◌, ◌≤◌, ℕ, List, [], ◌∷◌, codes, Option}
use Rattle.std.specs.List.{find}
use Rattle.std.specs.Str.{bytes_eq}
use Rattle.std.specs.Fmt.{decimal}
use Rattle.nal_rules.specs.declared.verdicts.Cause.TheVariants as cause
use Rattle.nal_rules.specs.declared.verdicts.Fault.{Fault}
use Rattle.nal_rules.specs.declared.verdicts.Fault.TheVariants as fault
use Rattle.nal_rules.specs.declared.verdicts.Verdict.TheVariants as verdict
use Rattle.audit_check.specs.declared.records.Recorded.{Recorded}
use Rattle.audit_check.specs.declared.records.Recorded.TheVariants as recorded
use Rattle.policy_history.specs.PolicyLines.{spaced}
use Rattle.audit_form.specs.declared.verdict_texts.Word.{Word}
use Rattle.audit_form.specs.declared.verdict_texts.Word.TheVariants.{Allowed, NoObject, Down, GoalUnset, NoProof, Line, LabelMissing, NotBound, AuthorityNo}
use Rattle.audit_form.specs.VerdictTexts.{IsLineNumber, fault_name}

-- each, with the space behind it where more follows
abbrev pub word_text : Word → List ℕ
word_text Allowed = codes "allowed"
word_text NoObject = codes "refused NoSuchObject"
word_text Down = codes "down "
word_text GoalUnset = codes "denied GoalUnset"
word_text NoProof = codes "denied NoProof"
word_text Line = codes "denied Line "
word_text LabelMissing = codes "denied LabelMissing "
word_text NotBound = codes "denied NotBound "
word_text AuthorityNo = codes "denied AuthorityNo "

-- the number of a line follows
abbrev pub IsNumber : List ℕ → ℕ → Type 0
IsNumber rest k = IsLineNumber k × (rest ≡ decimal k)

-- what follows the words tells the answer
abbrev pub Tells : Word → List ℕ → Recorded → Type 0
Tells Allowed rest v = (rest ≡ []) × (v ≡ recorded.Told verdict.Allowed)
Tells NoObject rest v = (rest ≡ []) × (v ≡ recorded.NoObject)
Tells Down rest v = (k : ℕ) × IsNumber rest k × (k ≤ 256) × (v ≡ recorded.Down k)
Tells GoalUnset rest v = (rest ≡ []) × (v ≡ recorded.Told (verdict.Denied cause.GoalUnset))
Tells NoProof rest v = (rest ≡ []) × (v ≡ recorded.Told (verdict.Denied cause.NoProof))
Tells Line rest v = (k : ℕ) × (f : Fault) × IsLineNumber k × (rest ≡ spaced (decimal k) (fault_name f)) × (v ≡ recorded.Told (verdict.Denied (cause.Line k f)))
Tells LabelMissing rest v = (k : ℕ) × IsNumber rest k × (v ≡ recorded.Told (verdict.Denied (cause.LabelMissing k)))
Tells NotBound rest v = (k : ℕ) × IsNumber rest k × (v ≡ recorded.Told (verdict.Denied (cause.NotBound k)))
Tells AuthorityNo rest v = (k : ℕ) × IsNumber rest k × (v ≡ recorded.Told (verdict.Denied (cause.AuthorityNo k)))

-- the faults, and the one with this name
abbrev pub all_faults : List Fault
all_faults =
    fault.NoSuchRef ∷ fault.NotHyp ∷ fault.WrongShape ∷ fault.Capture ∷ fault.NotFresh ∷ fault.OutOfScope ∷ fault.NotTrue ∷ fault.TooManyAsks
    ∷ fault.NotAsk ∷ fault.NotClosed ∷ fault.StillOpen ∷ fault.NotGoal ∷ []

unfoldable pub fault_named : List ℕ → Option Fault
fault_named text = find (λ f. bytes_eq (fault_name f) text) all_faults
