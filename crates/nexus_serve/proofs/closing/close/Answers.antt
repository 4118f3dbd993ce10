use Rattle.std.proofs.Common.{refl}
use Rattle.nexus_serve.proofs.closing.close.Goals as goal

pub returns : goal.returns
returns g c =
    let e = c.write_end-journal.ensures in
    record {
      closed = record {
        journal = e.journal;
        sink_now = record { sent = g.K.Sink.sent c.write_end-journal.result.1; synced = g.K.Sink.synced c.write_end-journal.result.1; faults = g.K.Sink.faults c.write_end-journal.result.1 };
        sink = refl;
        text = e.text;
        failed = e.failed;
        lasts = e.lasts;
        reports_are = refl;
        doors_are = refl;
        means_are = refl;
        end_is = refl;
        legal = e.legal;
        numbered = e.numbered;
      };
    }
