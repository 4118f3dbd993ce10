-- What follows of a flaw that was told.
use Rattle.std.proofs.Common.{Result, Ok, Err, IfOk}
use Rattle.std.specs.declared.alloc.AllocError.{AllocError}
use Rattle.run_streams.specs.declared.flaws.Flaw.{Flaw}

-- what follows of each flaw follows of the one that was told
pub each_flaw : {P Q : Flaw → Type 0} (told : Result Flaw AllocError) → ((flaw : Flaw) → P flaw → Q flaw) → IfOk told P → IfOk told Q
each_flaw (Ok flaw) on p = on flaw p
each_flaw (Err e) on p = tt
