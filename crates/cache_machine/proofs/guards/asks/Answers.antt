use Rattle.std.proofs.Common.{ap, Option, List, refl}
use Rattle.std.specs.Option.{option_map}
use Rattle.proof_lines.specs.declared.lines.Line.{Line}
use Rattle.proof_lines.specs.Lines.{line_trees}
use Rattle.cache_machine.proofs.Plans.{any_ask}
use Rattle.cache_machine.proofs.guards.asks.Goals as goal

pub returns-in-Some : goal.returns-in-Some
returns-in-Some c = rw (c.has_ask.ensures, c.as_slice.ensures.items, any_ask, ap (λ (o : Option (List Line)). option_map line_trees o) c.in-Some.is) refl
