use Rattle.std.proofs.Common.{arith}
use Rattle.std.proofs.lemmas.Grind.{common_steps}
use Rattle.nal_parse.specs.Tokens.{next_cut}
use Rattle.nal_parse.proofs.tokens.Token.next.Goals as goal

pub returns : goal.returns
unfolding next_cut
returns c = grind (arith, common_steps)
