use Rattle.policy_history.specs.Values.{entry_trees}
use Rattle.journal_text.proofs.OneFront.{no_front, sole_front}
use Rattle.journal_text.proofs.policy_reader.read_front.Goals as goal

pub returns-clause-only : goal.returns-clause-only
returns-clause-only c =
    sole_front c.args.most_session c.args.text.now (λ front. front.journal.head) (λ front. entry_trees front.journal.entries) (λ front. front.lines) (λ front. front.rest.now) c.read_to_end.result
    c.read_to_end.ensures.ok

pub returns-clause-refused : goal.returns-clause-refused
returns-clause-refused c = no_front c.args.most_session c.args.text.now c.read_to_end.result c.read_to_end.ensures.err
