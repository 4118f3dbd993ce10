use Rattle.std.proofs.Common.{◌≡◌, map, take}
use Rattle.nexus_run.proofs.arguments.texts.Given as goal

abbrev pub invariant-loop-word : goal.invariant-loop-word
invariant-loop-word l = map (λ t. t.now) l.texts.items ≡ take l.word-index (map (λ w. w.items) l.words)
