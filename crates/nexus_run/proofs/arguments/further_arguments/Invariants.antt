use Rattle.std.proofs.Common.{◌≡◌, ◌++◌, map}
use Rattle.nexus_run.proofs.arguments.further_arguments.Given as goal

abbrev pub invariant-loop : goal.invariant-loop
invariant-loop g l = g.A.Arguments.told l.arguments ≡ g.A.Arguments.told l.fn.arguments ++ map (λ w. w.items) l.words.items
