use Rattle.trust_form.proofs.givens.Givens.with.Goals as goal

pub returns-in-Label-clause-only : goal.returns-in-Label-clause-only
returns-in-Label-clause-only c = rw c.in-Label.is c.with_label.ensures.only

pub returns-in-Label-clause-wrong : goal.returns-in-Label-clause-wrong
returns-in-Label-clause-wrong c = rw c.in-Label.is c.with_label.ensures.wrong

pub returns-in-Untrusted-clause-only : goal.returns-in-Untrusted-clause-only
returns-in-Untrusted-clause-only c = rw c.in-Untrusted.is c.with_untrusted.ensures.only

pub returns-in-Untrusted-clause-wrong : goal.returns-in-Untrusted-clause-wrong
returns-in-Untrusted-clause-wrong c = rw c.in-Untrusted.is c.with_untrusted.ensures.wrong

pub returns-in-Fact-clause-only : goal.returns-in-Fact-clause-only
returns-in-Fact-clause-only c = rw c.in-Fact.is c.with_fact.ensures.only

pub returns-in-Fact-clause-wrong : goal.returns-in-Fact-clause-wrong
returns-in-Fact-clause-wrong c = rw c.in-Fact.is c.with_fact.ensures.wrong
