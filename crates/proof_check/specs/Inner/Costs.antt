-- How many steps the test for each fault of a line may take, of a proof with n lines whose formulas and
-- terms have at most z nodes.
use Rattle.std.specs.Prelude.{ℕ, zero, suc, ◌+◌, ◌*◌}
use Rattle.nal_rules.specs.declared.verdicts.Fault.{Fault}
use Rattle.nal_rules.specs.declared.verdicts.Fault.TheVariants.{WrongShape, NotFresh, OutOfScope, NotClosed, NotGoal}
use Rattle.proof_check.specs.Inner.Numbered.{fault_at}

-- the most steps of the test for the fault
abbrev pub fault_steps : ℕ → ℕ → Fault → ℕ
fault_steps n z WrongShape = 3 * z
fault_steps n z NotFresh = z + (n + 1) * z
fault_steps n z OutOfScope = z
fault_steps n z NotClosed = z
fault_steps n z NotGoal = z
fault_steps n z _ = 0

-- the most steps of the tests for the faults before this place
abbrev pub steps_before : ℕ → ℕ → ℕ → ℕ
steps_before n z zero = 0
steps_before n z (suc place) = steps_before n z place + fault_steps n z (fault_at place)
