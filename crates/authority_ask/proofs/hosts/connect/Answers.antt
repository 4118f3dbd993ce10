use Rattle.std.proofs.Common.{ap, ◌∙◌, set, Some, map}
use Rattle.std.proofs.lemmas.List.{map-set}
use Rattle.authority_ask.specs.Inner.Addresses.{address_bytes}
use Rattle.authority_ask.proofs.hosts.connect.Goals as goal

-- The address of this port is the new one.
pub returns-clause-kept : goal.returns-clause-kept
returns-clause-kept g c =
    map-set address_bytes c.args.addresses.now.items c.args.port (Some c.in-Some.place)
    ∙ ap (λ bytes. set (map address_bytes c.args.addresses.now.items) c.args.port (Some bytes)) c.in-Some.ensures.made
