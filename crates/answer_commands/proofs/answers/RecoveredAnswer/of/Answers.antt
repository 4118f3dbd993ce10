use Rattle.std.proofs.Common.{arith}
use Rattle.policy_history.specs.Values.{entry_trees}
use Rattle.answer_commands.specs.Recovers.{PolicyTree}
use Rattle.answer_commands.proofs.Wrongs.{cut_wrong}
use Rattle.answer_commands.proofs.answers.RecoveredAnswer.of.Goals as goal

pub returns-in-Ok-clause-formed : goal.returns-in-Ok-clause-formed
returns-in-Ok-clause-formed c =
    let policy : PolicyTree = record { head = c.in-Ok.journal.head; entries = entry_trees c.in-Ok.journal.entries } in
    (policy, c.in-Ok.ensures.ok)

pub wrong_policy-requires : goal.wrong_policy-requires
wrong_policy-requires c = λ long. omega (arith, c.requires, rw long at c.in-Err.ensures.err)

pub returns-in-Err-clause-wrong : goal.returns-in-Err-clause-wrong
returns-in-Err-clause-wrong c = cut_wrong c.args.text.now c.in-Err.error c.wrong_policy.result c.in-Err.ensures.err c.in-Err.ensures.refused c.wrong_policy.ensures
