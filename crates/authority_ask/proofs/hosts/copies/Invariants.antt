use Rattle.std.proofs.Common.{◌≡◌, map, take}
use Rattle.authority_ask.specs.Inner.Addresses.{address_bytes}
use Rattle.authority_ask.proofs.hosts.copies.Given as goal

abbrev pub invariant-loop-address : goal.invariant-loop-address
invariant-loop-address l = map address_bytes l.copies.items ≡ map address_bytes (take l.address-index l.addresses)
