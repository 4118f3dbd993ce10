use Rattle.nexus_client.proofs.Talking.{talks_told}
use Rattle.nexus_client.proofs.talks.talk.Goals as goal

pub returns-in-Link-clause-in_order : goal.returns-in-Link-clause-in_order
returns-in-Link-clause-in_order g c =
    c.talks_keep_their_order.ensures _ _ _ _ _ _
    (talks_told c.exchange_all-end.result c.args.requests.now _ _ _ _ _ _ _ _ _ _ (rw c.as_slice.ensures at c.exchange_all-end.ensures.talks) c.in-Link.ensures.fresh.sent_is c.in-Link.ensures.fresh.taken_is
    c.close.ensures.sent c.close.ensures.coming.taken_is c.close.ensures.coming.over_is)
