-- What the reply of a call records.
use Rattle.std.specs.Prelude.{◌≡◌, ℕ, List}
use Rattle.nal_rules.specs.Numbers.{cause_numbers}
use Rattle.nal_rules.specs.declared.verdicts.Cause.{Cause}
use Rattle.nal_rules.specs.declared.verdicts.Verdict.TheVariants.{Allowed as AllowedVerdict, Denied as DeniedVerdict}
use Rattle.session_wire.specs.declared.replies.Reply.{Reply}
use Rattle.session_wire.specs.declared.replies.Reply.TheVariants.{Allowed, Denied, Refused, Down}
use Rattle.audit_check.specs.declared.records.Answers.{Answers as Given}
use Rattle.audit_check.specs.declared.records.Record.{Record}
use Rattle.audit_check.specs.declared.records.Recorded.{Recorded}
use Rattle.audit_check.specs.declared.records.Recorded.TheVariants as recorded

-- what the reply of a call records, and at which point: its verdict, that no object has the name, or that an authority was down. A
-- reply of another kind records nothing
abbrev pub Records : Reply → ℕ → Recorded → Type 0
Records (Allowed n hit value) at v = (at ≡ n) × (v ≡ recorded.Told AllowedVerdict)
Records (Denied n cause line fault) at v = (c : Cause) × (cause_numbers c ≡ (cause, line, fault)) × (at ≡ n) × (v ≡ recorded.Told (DeniedVerdict c))
Records (Refused n refusal) at v = (refusal ≡ 8) × (at ≡ n) × (v ≡ recorded.NoObject)
Records (Down n line) at v = (at ≡ n) × (v ≡ recorded.Down line)
Records _ at v = ⊥

-- the record of a call
abbrev pub record_of : ℕ → List ℕ → List ℕ → ℕ → Given → Recorded → Record
record_of p op object at answers v = record { at = at; principal = p; op = op; object = object; answers = answers; verdict = v }
