use Rattle.std.proofs.Common.{◌≡◌, ◌<◌, ◌≤◌, ◌-◌, ◌^◌, ℕ, length, min, subst, arith}
use Rattle.proof_text.specs.CanonicalProof.{proof_text}
use Rattle.proof_text.proofs.read.read_proof.Goals as goal

-- a length that is told to be beyond the limit is
beyond_limit : (n told : ℕ) → told ≡ min n (2 ^ 64 - 1) → 32768 < told → n ≤ 32768 → ⊥
beyond_limit n told e h le = omega arith

pub returns-in-Err-clause-refused : goal.returns-in-Err-clause-refused
returns-in-Err-clause-refused c = λ told ls p. c.in-Err.ensures.refused told ls p.spelled

pub returns-then-proof_length-gt-MOST_BYTES-clause-refused : goal.returns-then-proof_length-gt-MOST_BYTES-clause-refused
returns-then-proof_length-gt-MOST_BYTES-clause-refused c = λ told ls p.
    let same = c.in-Ok.ensures.only ls p.spelled in
    beyond_limit _ c.proof_length.result c.proof_length.ensures (omega arith) (subst (λ x. length (proof_text x) ≤ 32768) same p.canonical_limit)

pub returns-clause-only : goal.returns-clause-only
returns-clause-only c = λ ls p. c.in-Ok.ensures.only ls p.spelled
