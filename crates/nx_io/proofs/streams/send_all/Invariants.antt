use Rattle.std.proofs.Common.{◌≡◌, ◌-◌, length}
use Rattle.nx_io.proofs.Told.{IsSending}
use Rattle.nx_io.proofs.streams.send_all.Given as goal

abbrev pub invariant-loop-done : goal.invariant-loop-done
invariant-loop-done g l =
    IsSending (g.K.Sink.sent l.fn.sink) (g.K.Sink.sent l.sink) (g.K.Sink.faults l.fn.sink) (g.K.Sink.faults l.sink) l.piece l.done
    × (g.K.Sink.synced l.sink ≡ g.K.Sink.synced l.fn.sink)

abbrev pub decreases-loop-done : goal.decreases-loop-done
decreases-loop-done g l = length l.piece - l.done
