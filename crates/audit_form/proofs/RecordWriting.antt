-- The line of a record, by the numbers of a reply.
use Rattle.std.proofs.Common.{◌≡◌, ◌<◌, ◌≤◌, ◌^◌, ◌++◌, ℕ, zero, suc, List, [], ◌∷◌, Bool, nat_le, IsTrue, codes, length, slice_get, unwrap_or, refl, sym, ap, ◌∙◌, arith, append_assoc}
use Rattle.std.specs.Fmt.{decimal}
use Rattle.std.specs.List.{list_all}
use Rattle.std.proofs.lemmas.Bool.{and_parts, leb-true}
use Rattle.std.proofs.lemmas.Fmt.{length-decimal-le}
use Rattle.nal_rules.specs.Numbers.{cause_numbers, line_number, named_fault}
use Rattle.nal_rules.specs.Verdicts.{cause_number}
use Rattle.nal_rules.specs.declared.verdicts.Cause.{Cause}
use Rattle.nal_rules.specs.declared.verdicts.Cause.TheVariants.{GoalUnset, NoProof, Line, LabelMissing, NotBound, AuthorityNo}
use Rattle.session_wire.specs.declared.replies.Reply.{Reply}
use Rattle.session_wire.specs.declared.replies.Reply.TheVariants.{Allowed, Denied, Refused, Down}
use Rattle.audit_check.specs.declared.records.Recorded.{Recorded}
use Rattle.journal_text.specs.ReplyLines.{cause_names, fault_names, named}
use Rattle.policy_history.specs.PolicyLines.{spaced}
use Rattle.policy_history.specs.PolicyTexts.{ended}
use Rattle.audit_check.specs.declared.records.Answers.TheVariants.{Known}
use Rattle.audit_form.specs.RecordLines.{given_text, record_text}
use Rattle.audit_form.specs.VerdictTexts.{cause_text, verdict_text}
use Rattle.audit_form.specs.ReplyRecords.{Records, record_of}
use Rattle.audit_form.specs.Inner.Writing.{cause_words, point_of, told_words}

-- ---- Names are short

abbrev is_short : List ℕ → Bool
is_short name = nat_le (length name) 20

found_short : (names : List (List ℕ)) (k : ℕ) (other : List ℕ) → IsTrue (list_all is_short names) → length other ≤ 20 → length (unwrap_or (slice_get names k) other) ≤ 20
found_short [] k other each short = short
found_short (x ∷ names) zero other each short = leb-true (length x) 20 (and_parts (is_short x) (list_all is_short names) each).0
found_short (x ∷ names) (suc k) other each short = found_short names k other (and_parts (is_short x) (list_all is_short names) each).1 short

named_short : (names : List (List ℕ)) (k : ℕ) → IsTrue (list_all is_short names) → k < 2 ^ 64 → length (named names k) ≤ 20
named_short names zero each bound = length-decimal-le 20 0 (omega arith) (omega arith) (omega arith)
named_short names (suc k) each bound = found_short names k (decimal (suc k)) each (length-decimal-le 20 (suc k) (omega arith) (omega (arith, bound)) bound)

pub short_cause : (k : ℕ) (name : List ℕ) → named cause_names k ≡ name → k < 2 ^ 64 → length name ≤ 20
short_cause k name is bound = rw (sym is) (named_short cause_names k refl bound)

pub short_fault : (k : ℕ) (name : List ℕ) → named fault_names k ≡ name → k < 2 ^ 64 → length name ≤ 20
short_fault k name is bound = rw (sym is) (named_short fault_names k refl bound)

-- ---- What a reply records

-- the words of a cause's numbers are those of the cause
cause_told : (c : Cause) → cause_words (cause_number c) (line_number c) (named_fault c) ≡ cause_text c
cause_told GoalUnset = refl
cause_told NoProof = refl
cause_told (Line k fault) = refl
cause_told (LabelMissing k) = refl
cause_told (NotBound k) = refl
cause_told (AuthorityNo k) = refl

numbers_told : (c : Cause) (cause line fault : ℕ) → cause_numbers c ≡ (cause, line, fault) → cause_words cause line fault ≡ cause_text c
numbers_told c cause line fault e = ap (λ (n : ℕ × ℕ × ℕ). cause_words n.0 n.1 n.2) (sym e) ∙ cause_told c

recorded : (reply : Reply) (at : ℕ) (v : Recorded) → Records reply at v → (point_of reply ≡ at) × (told_words reply ≡ verdict_text v)
recorded (Allowed n hit value) at v (point, is) = (sym point, ap verdict_text (sym is))
recorded (Denied n cause line fault) at v (c, numbers, point, is) = (sym point, ap (spaced (codes "denied")) (numbers_told c cause line fault numbers) ∙ ap verdict_text (sym is))
recorded (Refused n refusal) at v (unknown, point, is) = (sym point, ap verdict_text (sym is))
recorded (Down n line) at v (point, is) = (sym point, ap verdict_text (sym is))
recorded _ at v none = absurd none

-- ---- The line

regrouped : (point name op object letters told : List ℕ)
    → point ++ codes " " ++ spaced name [] ++ spaced op [] ++ spaced object [] ++ letters ++ codes " : " ++ told ++ 10 ∷ []
    ≡ ended (spaced point (spaced name (spaced op (spaced object (spaced letters (spaced (codes ":") told))))))
regrouped point name op object letters told = simp append_assoc

-- the parts that are written one behind the other are the line of the record
pub line_written : (name op object : List ℕ) (answers : List Bool) (reply : Reply) (p at : ℕ) (v : Recorded) → Records reply at v
    → decimal (point_of reply) ++ codes " " ++ spaced name [] ++ spaced op [] ++ spaced object [] ++ given_text answers ++ codes " : " ++ told_words reply ++ 10 ∷ []
    ≡ ended (record_text name (record_of p op object at (Known answers) v))
line_written name op object answers reply p at v r =
    let is = recorded reply at v r in
    regrouped (decimal (point_of reply)) name op object (given_text answers) (told_words reply)
    ∙ ap (λ (n : ℕ). ended (spaced (decimal n) (spaced name (spaced op (spaced object (spaced (given_text answers) (spaced (codes ":") (told_words reply)))))))) is.0
    ∙ ap (λ (told : List ℕ). ended (spaced (decimal at) (spaced name (spaced op (spaced object (spaced (given_text answers) (spaced (codes ":") told))))))) is.1
