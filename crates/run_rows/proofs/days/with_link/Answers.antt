use Rattle.std.proofs.Common.{List, sym, subst}
use Rattle.std.proofs.lemmas.List.Elements.{All-push}
use Rattle.std.specs.List.{All}
use Rattle.nx_io.specs.MemoryLinks.{Wire}
use Rattle.nx_io.specs.MemoryDoors.{IsFreshWire}
use Rattle.run_rows.proofs.days.with_link.Goals as goal

pub returns : goal.returns
returns c = subst (λ (links : List Wire). All IsFreshWire links) (sym c.in_ok-push.ensures.items) (All-push IsFreshWire c.args.links.items c.args.link c.requires.links c.requires.link)
