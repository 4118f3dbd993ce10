use Rattle.std.proofs.Common.{◌+◌, drop, ◌∙◌, refl}
use Rattle.std.proofs.lemmas.List.{drop_all}
use Rattle.nexus_client.proofs.Talking.{next_request, talking_done, talking_first, talking_more}
use Rattle.nexus_client.proofs.talks.exchange_all.Goals as goal

pub loop-request-init : goal.loop-request-init
loop-request-init g c = record {
  talking = talking_first c.args.requests.now _ _ _;
  over = c.requires.over;
  is_open = c.requires.is_open;
  origin = record { place_is = refl; toward_is = refl };
  admitted = refl;
  link_count = refl;
  output_count = refl;
}

pub loop-request-preserved : goal.loop-request-preserved
loop-request-preserved g c =
    let was = c.loop-request.invariant in
    let e = c.in-None.ensures in
    let requests = c.args.requests.now in
    let i = c.loop-request.request-index in
    let next = next_request requests i c.request-item.result c.loop-request-test.true c.request-item.is in
    record {
      talking = talking_more requests (drop (i + 1) requests) c.request-item.result _ _ _ _ _ _ _ _ _ _ (rw next at was.talking) (rw c.as_slice.ensures at e.passes);
      over = e.passes.passes.over_is;
      is_open = e.is_open;
      origin = record { place_is = e.origin.place_is ∙ was.origin.place_is; toward_is = e.origin.toward_is ∙ was.origin.toward_is };
      admitted = e.admitted ∙ was.admitted;
      link_count = e.link_count ∙ was.link_count;
      output_count = e.output_count ∙ was.output_count;
    }

pub returns-clause-talks : goal.returns-clause-talks
returns-clause-talks g c =
    let was = c.loop-request.invariant in
    talking_done c.args.requests.now _ _ _ _ _ _ _ (rw (drop_all c.loop-request.request-index c.args.requests.now c.loop-request-test.false) at was.talking) was.over
