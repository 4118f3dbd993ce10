-- What is wrong with the line by which a policy is refused.
use Rattle.std.specs.Prelude.{◌≡◌, ◌⊎◌, ℕ, List, []}
use Rattle.run_streams.specs.Flaws.{FlawTree, flaw_named}
use Rattle.input_flaws.specs.LineFlaws.{IsFlawAt}
use Rattle.policy_history.specs.declared.events.Refusal.{Refusal}
use Rattle.policy_history.specs.declared.heads.Head.{Head}
use Rattle.policy_history.specs.Events.{EntryTree}
use Rattle.policy_history.specs.Laws.{refusal_number}
use Rattle.journal_text.specs.PolicyFronts.{IsAboveIn, IsFront, IsWrongIn}
use Rattle.journal_text.specs.PolicyText.{Fault, formless, header_due, refusal}
use Rattle.journal_text.specs.ReplyLines.{named, refusal_names}
use Rattle.journal_text.specs.declared.policy_reader.PolicyError.{PolicyError}
use Rattle.journal_text.specs.declared.policy_reader.PolicyError.TheVariants.{Bad, Refused, TooLong, Memory}

-- the flaw of the line of an entry that is refused: the name of its refusal
abbrev pub refusal_flaw : Refusal → FlawTree
refusal_flaw r = flaw_named 1 (named refusal_names (refusal_number r))

-- the flaw of line k of a policy's text, with which this is wrong: the name of its refusal, or that it may not stand there, or that the text ends
abbrev pub IsFaultFlaw : List ℕ → ℕ → Fault → FlawTree → Type 0
IsFaultFlaw text k formless flaw = IsFlawAt [] [] text k flaw
IsFaultFlaw text k (refusal r) flaw = flaw ≡ refusal_flaw r

-- the flaw of the line that is told by the error of a policy's text; of a text that is too long, and of want of memory, nothing is said
abbrev pub IsPolicyFlaw : List ℕ → PolicyError → FlawTree → Type 0
IsPolicyFlaw text (Refused k number) flaw = (r : Refusal) → number ≡ refusal_number r → IsFaultFlaw text k (refusal r) flaw
IsPolicyFlaw text (Bad k) flaw = IsFaultFlaw text k formless flaw
IsPolicyFlaw text TooLong flaw = Unit {0}
IsPolicyFlaw text Memory flaw = Unit {0}

-- The flaw of line k of a text in which `part` begins with a policy, whose sessions have no number above the bound: where an entry of that is refused,
-- the name of its refusal; and else, in the policy and behind it, that the line may not stand there, or that the text ends.
pub data IsFrontFlaw (most : ℕ) (part text : List ℕ) (k : ℕ) : FlawTree → Type 0 where
  refused : {r : Refusal} {j : ℕ} → IsWrongIn most header_due part j (refusal r) → IsFrontFlaw most part text k (refusal_flaw r)
  unformed : {j : ℕ} {flaw : FlawTree} → IsWrongIn most header_due part j formless ⊎ IsAboveIn most header_due part j → IsFlawAt [] [] text k flaw
      → IsFrontFlaw most part text k flaw
  behind : {h : Head} {es : List EntryTree} {n : ℕ} {rest : List ℕ} {flaw : FlawTree} → IsFront most part h es n rest → IsFlawAt [] [] text k flaw
      → IsFrontFlaw most part text k flaw
