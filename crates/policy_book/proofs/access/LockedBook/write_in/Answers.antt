use Rattle.std.proofs.Common.{sym, subst}
use Rattle.policy_history.specs.declared.events.Entry.{Entry}
use Rattle.policy_history.specs.declared.heads.Head.{Head}
use Rattle.verdict_words.specs.Values.{Identity, PassValue}
use Rattle.policy_book.specs.Access.{IsAnswered}
use Rattle.policy_book.specs.Inner.Visits.{IsFinished}
use Rattle.policy_book.specs.declared.writing.Written.{Written}
use Rattle.policy_book.proofs.Accessing.{answered_pass, finished_answer}
use Rattle.policy_book.proofs.access.LockedBook.write_in.Goals.{in-Answered, in-Accepted}
use Rattle.policy_book.proofs.access.LockedBook.write_in.Goals as goal

pub returns-clause-answered : goal.returns-clause-answered
returns-clause-answered g c = elim c.match-begin.branch [
  | in-Answered w ↦ subst (λ (r : PassValue Entry Head × Written). IsAnswered c.args.self.now.board c.args.pass r.0 c.args.principal c.args.event r.1) (sym w.result-is) w.in-Answered.ensures.begun
  | in-Accepted w ↦ subst (λ (r : PassValue Entry Head × Written). IsAnswered c.args.self.now.board c.args.pass r.0 c.args.principal c.args.event r.1) (sym w.result-is)
      (finished_answer c.args.self.now.board c.args.pass w.finish.result.0 c.args.principal c.args.event w.in-Accepted.draft w.write.new.self.is_broken w.finish.result.1 w.in-Accepted.ensures.begun.0 w.in-Accepted.ensures.begun.1
      (subst (λ (b : Identity Entry Head). IsFinished b w.in-Accepted.draft w.finish.result.0 w.write.new.self.is_broken w.finish.result.1) c.begin.ensures.board w.finish.ensures.finished))
]

pub returns-clause-pass : goal.returns-clause-pass
returns-clause-pass g c = answered_pass c.args.self.now.board c.args.pass c.match-begin.result.0 c.args.principal c.args.event c.match-begin.result.1 c.requires.pass (returns-clause-answered g c)
