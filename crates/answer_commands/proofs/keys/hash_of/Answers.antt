use Rattle.std.proofs.Common.{refl}
use Rattle.answer_commands.specs.Inner.Hashes.{hash_of}
use Rattle.answer_commands.proofs.keys.hash_of.Goals as goal

pub returns : goal.returns
unfolding hash_of
returns c = rw (c.finish.ensures, c.write.ensures, c.new-state.ensures) refl
