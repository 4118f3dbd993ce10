-- The errors of a proof's text that are no want of memory.
use Rattle.std.specs.Prelude.{◌≢◌}
use Rattle.nal_parse.specs.declared.parse.ParseError.TheVariants as parse
use Rattle.proof_text.specs.declared.read.ProofError.{ProofError}
use Rattle.proof_text.specs.declared.read.ProofError.TheVariants.{Formula}

-- the error of a formula is not that there was no memory
abbrev pub NoInnerMemory : ProofError → Type 0
NoInnerMemory (Formula k e) = e ≢ parse.Memory
NoInnerMemory _ = Unit {0}
