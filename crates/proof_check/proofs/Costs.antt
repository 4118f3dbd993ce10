-- The steps of the tests for the faults of a line, together.
use Rattle.std.proofs.Common.{◌≡◌, ℕ, suc, ◌+◌, ◌*◌, ◌≤◌, List, refl, arith}
use Rattle.std.proofs.Math.Nat.{add-le-add, le-max_right, mul-le-mul, mul-le-mul_left, mul-le-mul_right}
use Rattle.nal_term.specs.Trees.{FormulaTree}
use Rattle.nal_term.specs.Size.{node_count}
use Rattle.proof_lines.specs.Lines.{LineTree}
use Rattle.proof_check.specs.Sizes.{greatest_in, greatest_size, proof_steps}
use Rattle.proof_check.specs.Inner.Costs.{fault_steps, steps_before}
use Rattle.proof_check.specs.Inner.Numbered.{fault_at}

-- with the next test there are at most its steps more
pub next_before : (n z place : ℕ) → steps_before n z (place + 1) ≡ steps_before n z place + fault_steps n z (fault_at place)
next_before n z place = let e : place + 1 ≡ suc place = omega arith in rw e refl

-- after the line with this number the steps are within those of the lines
pub until_number : (old now most number n : ℕ) → now ≤ old + number * most → number ≤ n → now ≤ old + n * most
until_number old now most number n h within =
    let more = mul-le-mul_right most within in
    omega (arith, h, more)

-- with a goal beside the proof there are no fewer steps
pub steps_with_goal : (n : ℕ) (lines : List LineTree) (target : FormulaTree) → proof_steps n (greatest_in lines) ≤ proof_steps n (greatest_size lines target)
steps_with_goal n lines target =
    let z = greatest_in lines in
    let more : z ≤ greatest_size lines target = le-max_right (node_count target) z in
    mul-le-mul_left n (add-le-add (mul-le-mul more more) (mul-le-mul_left (n + 8) more))
