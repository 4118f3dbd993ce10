use Rattle.journal_text.specs.declared.policy_reader.PolicyError.TheVariants.{Bad, Refused}
use Rattle.input_flaws.specs.PolicyFlaws.{IsPolicyFlaw}
use Rattle.answer_commands.proofs.Wrongs.{by_is}
use Rattle.answer_commands.proofs.answers.wrong_policy.Goals as goal

pub returns-in-Bad : goal.returns-in-Bad
returns-in-Bad c =
    rw (c.in-Bad.is, c.by.ensures) (by_is (IsPolicyFlaw c.args.text.now (Bad c.in-Bad.line)) c.in-Bad.line c.policy_flaw.result c.policy_flaw.ensures)

pub returns-in-Refused : goal.returns-in-Refused
returns-in-Refused c =
    rw (c.in-Refused.is, c.by-in-Refused.ensures)
    (by_is (IsPolicyFlaw c.args.text.now (Refused c.in-Refused.line c.in-Refused.number)) c.in-Refused.line c.policy_flaw-in-Refused.result c.policy_flaw-in-Refused.ensures)
