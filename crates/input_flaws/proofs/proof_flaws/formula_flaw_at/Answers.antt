use Rattle.std.proofs.Common.{◌≢◌}
use Rattle.nal_parse.specs.declared.parse.ParseError.TheVariants.{Memory}
use Rattle.input_flaws.specs.ProofFlaws.{nowhere, right, wrong}
use Rattle.input_flaws.proofs.proof_flaws.formula_flaw_at.Goals.{in-Memory, in_default-matches}
use Rattle.input_flaws.proofs.proof_flaws.formula_flaw_at.Goals as goal

pub returns-in_default : goal.returns-in_default
returns-in_default c = rw c.segment_flaw.ensures (nowhere (rw c.in_default.is at c.in_ok-before.ensures.found))

pub returns-in_default-parse_formula : goal.returns-in_default-parse_formula
returns-in_default-parse_formula c =
    rw c.segment_flaw-in_default-parse_formula.ensures (right (rw c.in-Some.is at c.in_ok-before.ensures.found) c.in_default-parse_formula.ensures.ok)

pub returns : goal.returns
returns c =
    let told : c.in-Err.error ≢ Memory = elim c.match-matches.branch [
      | in-Memory w ↦ absurd (cc (w.matches-is, c.if-matches.false))
      | in_default-matches w ↦ w.in_default-matches.not-Memory
    ] in
    rw c.formula_flaw.ensures (wrong (rw c.in-Some.is at c.in_ok-before.ensures.found) told (c.in-Err.ensures.error told))
