use Rattle.policy_history.specs.Values.{entry_trees}
use Rattle.journal_text.proofs.WordsForCallers.{read_sessions}
use Rattle.answer_commands.proofs.answers.CompactedAnswer.of.Goals as goal

pub returns-in-Ok-clause-told : goal.returns-in-Ok-clause-told
returns-in-Ok-clause-told c =
    let es = entry_trees c.in_ok-journal.journal.entries in
    record {
      head = c.in_ok-journal.journal.head;
      entries = es;
      policy = c.in_ok-journal.ensures.policy;
      compaction = c.in-Ok.ensures.stands;
      text_is = c.in-Ok.ensures.text;
      read_again = c.in-Ok.ensures.read_again (read_sessions c.args.text.now c.in_ok-journal.journal.head es c.in_ok-journal.ensures.policy);
      numbers_are = c.in-Ok.ensures.numbers;
    }
