-- What is right of an open case, by its ask lines alone.
use Rattle.std.specs.Prelude.{◌++◌, ◌∷◌, List, [], true, false, filter, length, replicate}
use Rattle.proof_lines.specs.Lines.{LineTree}
use Rattle.nal_rules.specs.Faults.{is_ask}
use Rattle.nal_rules.specs.declared.verdicts.Cause.TheVariants.{AuthorityNo}
use Rattle.nal_rules.specs.declared.verdicts.Verdict.TheVariants.{Allowed, Denied}
use Rattle.case_verdict.specs.OpenCases.{IsAskLine}
use Rattle.audit_check.specs.declared.records.Answers.{Answers}
use Rattle.audit_check.specs.declared.records.Recorded.{Recorded}
use Rattle.audit_check.specs.declared.records.Recorded.TheVariants.{NoObject, Told, Down}
use Rattle.audit_check.specs.Records.{MayBe, yes_before}

abbrev pub IsRightOpen : List LineTree → Answers → Recorded → Type 0
IsRightOpen proof given (Told Allowed) = MayBe given (replicate (length (filter is_ask proof)) true)
IsRightOpen proof given (Told (Denied (AuthorityNo k))) = IsAskLine proof k × MayBe given (yes_before proof k ++ false ∷ [])
IsRightOpen proof given (Told (Denied _)) = ⊥
IsRightOpen proof given (Down k) = IsAskLine proof k × MayBe given (yes_before proof k)
IsRightOpen proof given NoObject = ⊥
