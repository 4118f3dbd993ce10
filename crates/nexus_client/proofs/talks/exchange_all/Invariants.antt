use Rattle.std.proofs.Common.{◌≡◌, drop, false}
use Rattle.nx_io.specs.Links.{KeepsOrigin}
use Rattle.nexus_client.proofs.Talking.{IsTalking}
use Rattle.nexus_client.proofs.talks.exchange_all.Given as goal

abbrev pub invariant-loop-request : goal.invariant-loop-request
invariant-loop-request g l = record {
  talking : IsTalking l.requests (drop l.request-index l.requests) (g.L.Link.sent l.fn.link) (g.L.Link.sent l.link) (g.L.Link.taken l.fn.link) (g.L.Link.taken l.link)
      (g.K.Sink.sent l.fn.output) (g.K.Sink.sent l.output);
  over : g.L.Link.over l.link ≡ false;
  is_open : g.L.Link.closed l.link ≡ false;
  origin : KeepsOrigin (g.L.Link.place l.fn.link) (g.L.Link.place l.link) (g.L.Link.toward l.fn.link) (g.L.Link.toward l.link);
  admitted : g.L.Link.admitted l.link ≡ g.L.Link.admitted l.fn.link;
  link_count : g.L.Link.faults l.link ≡ g.L.Link.faults l.fn.link;
  output_count : g.K.Sink.faults l.output ≡ g.K.Sink.faults l.fn.output;
}
