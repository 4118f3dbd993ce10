use Rattle.std.proofs.Common.{arith}
use Rattle.answer_commands.proofs.Wrongs.{policy_wrong}
use Rattle.answer_commands.proofs.answers.policy_of.Goals as goal

pub wrong_policy-requires : goal.wrong_policy-requires
wrong_policy-requires c = λ long. omega (arith, c.requires, rw long at c.in-Err.ensures.err)

pub returns-in-Err-clause-wrong : goal.returns-in-Err-clause-wrong
returns-in-Err-clause-wrong c = policy_wrong c.args.text.now c.in-Err.error c.wrong_policy.result c.in-Err.ensures.err c.in-Err.ensures.refused c.wrong_policy.ensures
