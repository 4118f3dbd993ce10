use Rattle.std.proofs.Common.{[], ◌∷◌, refl}
use Rattle.authority_ask.proofs.ForCallers.{since_nothing}
use Rattle.policy_history.specs.Values.{entry_trees}
use Rattle.session_core.specs.Ends.{at_first, no_memory}
use Rattle.session_core.proofs.serving.serve_on.Goals.{in-Ok, in-Err}
use Rattle.session_core.proofs.serving.serve_on.Goals as goal

pub returns-clause-served : goal.returns-clause-served
returns-clause-served g c =
    elim c.match-new.branch [
      | in-Ok w ↦ rw (c.close.ensures.coming.taken_is, c.close.ensures.sent, c.close.ensures.admitted, w.end-is, w.journal-is, w.link-is, w.panel-is) (
          let sat = w.serve_sitting.ensures.served in
          record {
            requests = sat.requests;
            replies = sat.replies;
            last = record { entries = entry_trees w.serve_sitting.new.book.entries; admitted = w.serve_sitting.result.0.principal ∷ [] };
            ended = sat.ended;
            told = sat.told.told;
            entries = refl;
            admitted_is = w.serve_sitting.ensures.admitted;
          })
      | in-Err w ↦ rw (c.close.ensures.coming.taken_is, c.close.ensures.sent, c.close.ensures.admitted, w.end-is, w.journal-is, w.link-is, w.panel-is) (record {
        requests = [];
        replies = [];
        last = at_first (entry_trees c.args.journal.now.entries);
        ended = no_memory refl c.requires.taken c.requires.sent refl refl;
        told = (since_nothing (g.P.Panel.history c.args.panel.now), refl);
        entries = refl;
        admitted_is = c.requires.admitted;
      })
    ]
