use Rattle.std.proofs.Common.{All, ◌∙◌, ap, sym, subst}
use Rattle.verdict_words.specs.Settling.{all_of}
use Rattle.nexus_serve.specs.Means.{means_history}
use Rattle.nexus_serve.specs.Inner.Gathering.{gathered_all}
use Rattle.nexus_serve.specs.Inner.Reporting.{IsReported}
use Rattle.nexus_serve.proofs.Gathering.{IsOfBoard, all_of_board}
use Rattle.nexus_serve.proofs.Finishing.{finished}
use Rattle.nexus_serve.proofs.closing.finish.Goals as goal

pub report-requires-clause-passes : goal.report-requires-clause-passes
report-requires-clause-passes g c =
    let is = c.gather.ensures.gathered ∙ ap (λ r. gathered_all r c.args.workers.items) c.requires.room.empty in
    subst (λ r. All (IsOfBoard c.args.board.now) (all_of r.used r.unused)) (sym is) (all_of_board c.args.board.now c.args.room.places c.args.workers.items c.requires.used)

pub returns : goal.returns
returns g c =
    let room = c.args.room in
    let is = c.gather.ensures.gathered ∙ ap (λ r. gathered_all r c.args.workers.items) c.requires.room.empty in
    let reported = subst (λ r. IsReported c.args.book r c.report.result) is c.report.ensures.reported in
    let first = rw (← c.requires.board) at c.requires.first in
    rw (← c.requires.board)
    (record {
      served = λ most synced hired stopped numbers.
          finished (means_history g.P.Panel.history) c.what_was_told_stays_told.ensures.noted c.args.book synced c.report.result most hired c.args.workers.items room.places stopped numbers reported c.args.total.now.amount c.gather.ensures.counted c.requires.failed first;
    })
