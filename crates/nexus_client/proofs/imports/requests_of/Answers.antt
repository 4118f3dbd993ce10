use Rattle.std.proofs.Common.{sym}
use Rattle.std.proofs.lemmas.List.{take_all}
use Rattle.nexus_client.proofs.Lengths.{hello_fits}
use Rattle.nexus_client.proofs.Peers.{label_fits, one_request_more}
use Rattle.nexus_client.proofs.imports.requests_of.Goals as goal

pub write_request-requires : goal.write_request-requires
write_request-requires c = hello_fits c.args.name c.args.secret c.requires.name c.requires.secret

pub label_frame-requires-clause-label : goal.label_frame-requires-clause-label
label_frame-requires-clause-label c =
    label_fits c.deref-label-items.result.now c.label-item.result c.loop-label.label-index c.loop-label-test.true c.label-item.is (rw (c.deref-label-items.ensures.value, c.labels.ensures.labels) c.labels.ensures.each)

pub loop-label-preserved : goal.loop-label-preserved
loop-label-preserved c =
    rw (c.in_ok-push-2.ensures.ok, c.in_ok-label_frame.ensures, c.in_ok-peer.ensures, c.as_slice.ensures.bytes, c.loop-label.invariant)
    (sym (one_request_more c.args.name c.args.secret c.deref-label-items.result.now c.label-item.result c.loop-label.label-index c.loop-label-test.true c.label-item.is))

pub returns : goal.returns
returns c = rw (take_all c.loop-label.label-index c.deref-label-items.result.now c.loop-label-test.false, c.deref-label-items.ensures.value, c.labels.ensures.labels) at c.loop-label.invariant
