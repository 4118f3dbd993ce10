use Rattle.std.proofs.Common.{◌≡◌, ◌-◌, length, get_or, ap, arith}
use Rattle.proof_check.proofs.Found.{line_at_tree}
use Rattle.proof_check.proofs.Greatest.{line_within}
use Rattle.proof_check.proofs.premises.line_at.Goals as goal

pub returns-clause-line : goal.returns-clause-line
returns-clause-line c =
    let l = c.index-lines-number.result in
    let read : l ≡ get_or c.args.proof.now (c.args.number - 1) l = cc (c.as_slice-lines.ensures.items, c.index-lines-number.is) in
    let same = ap length c.as_slice-lines.ensures.items in
    line_at_tree c.args.proof.now c.args.number l (λ e. omega (arith, e)) (omega (arith, same)) read

pub returns-clause-size : goal.returns-clause-size
returns-clause-size c =
    let l = c.index-lines-number.result in
    let read : l ≡ get_or c.args.proof.now (c.args.number - 1) l = cc (c.as_slice-lines.ensures.items, c.index-lines-number.is) in
    let same = ap length c.as_slice-lines.ensures.items in
    line_within c.args.proof.now (c.args.number - 1) l (omega (arith, same)) read
