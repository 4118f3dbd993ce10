-- What an entry is looked for by.
use Rattle.std.specs.Prelude.{Bool}
use Rattle.policy_history.specs.Events.{EntryTree}
use Rattle.case_reasons.specs.Origins.{changes_goal, changes_proof, makes}
use Rattle.case_reasons.specs.declared.entries.Deed.{Deed}
use Rattle.case_reasons.specs.declared.entries.Deed.TheVariants.{Makes, ChangesGoal, ChangesProof}

abbrev pub passes : Deed → EntryTree → Bool
passes (Makes object) e = makes object.now e
passes (ChangesGoal op object) e = changes_goal op.now object.now e
passes (ChangesProof p op object) e = changes_proof p op.now object.now e
