-- No formula and no term of a proof is greater than the greatest.
use Rattle.std.proofs.Common.{◌≡◌, ℕ, zero, suc, ◌<◌, ◌≤◌, List, [], ◌∷◌, length, get_or, arith}
use Rattle.std.proofs.Math.Nat.{le-max_left, le-max_right}
use Rattle.proof_lines.specs.declared.lines.Line.{Line}
use Rattle.proof_lines.specs.Lines.{line_tree, line_trees}
use Rattle.proof_check.specs.Sizes.{line_size, greatest_in}

-- each line is at most as large as the greatest
pub line_within : (ls : List Line) (k : ℕ) (l : Line) → k < length ls → l ≡ get_or ls k l → line_size (line_tree l) ≤ greatest_in (line_trees ls)
line_within [] k l p e = absurd (omega arith)
line_within (x ∷ ls) zero l p e =
    let first = le-max_left (line_size (line_tree x)) (greatest_in (line_trees ls)) in
    rw e first
line_within (x ∷ ls) (suc k) l p e =
    let rest = line_within ls k l (omega arith) e in
    let more = le-max_right (line_size (line_tree x)) (greatest_in (line_trees ls)) in
    omega (arith, rest, more)
