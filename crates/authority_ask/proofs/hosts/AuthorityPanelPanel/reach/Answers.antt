use Rattle.std.proofs.Common.{◌≡◌, length, map, ◌∙◌}
use Rattle.std.proofs.lemmas.List.{length-map}
use Rattle.authority_ask.specs.Inner.Addresses.{address_bytes}
use Rattle.authority_ask.proofs.Kept.{kept_reach, within_of}
use Rattle.authority_ask.proofs.hosts.AuthorityPanelPanel.reach.Goals as goal

-- What is kept follows what was reached.
pub invariant_of-self : goal.invariant_of-self
invariant_of-self g c =
    let kept = map address_bytes c.self.inside.addresses.items in
    let many : length kept ≡ 16 = length-map c.self.inside.addresses.items address_bytes ∙ c.self.invariant.0 in
    let follows = kept_reach c.self.inside.history kept c.connect-reach.result c.args.port c.args.address.now c.self.invariant.1 (within_of c.connect-reach.result c.args.port (length kept) many c.connect-reach.ensures.outside) in
    (c.connect-reach.ensures.count, rw (c.add.ensures, c.reached.ensures, c.connect-reach.ensures.kept) follows)
