-- The answers with which what was recorded is right, by the ask lines of the case alone.
use Rattle.std.specs.Prelude.{◌++◌, ◌∷◌, List, [], Bool, true, false, filter, length, replicate}
use Rattle.proof_lines.specs.Lines.{LineTree}
use Rattle.nal_rules.specs.Faults.{is_ask}
use Rattle.nal_rules.specs.declared.verdicts.Cause.TheVariants.{AuthorityNo}
use Rattle.nal_rules.specs.declared.verdicts.Verdict.TheVariants.{Allowed, Denied}
use Rattle.audit_check.specs.declared.records.Recorded.{Recorded}
use Rattle.audit_check.specs.declared.records.Recorded.TheVariants.{NoObject, Told, Down}
use Rattle.audit_check.specs.Records.{yes_before}

abbrev pub answers_for : List LineTree → Recorded → List Bool
answers_for proof (Told Allowed) = replicate (length (filter is_ask proof)) true
answers_for proof (Told (Denied (AuthorityNo k))) = yes_before proof k ++ false ∷ []
answers_for proof (Told (Denied _)) = []
answers_for proof (Down k) = yes_before proof k
answers_for proof NoObject = []
