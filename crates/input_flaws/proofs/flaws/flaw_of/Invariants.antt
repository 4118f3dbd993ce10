use Rattle.std.proofs.Common.{drop, map}
use Rattle.run_streams.specs.Flaws.{FlawTree}
use Rattle.input_flaws.specs.LineFlaws.{IsLineFlaw}
use Rattle.input_flaws.proofs.flaws.flaw_of.Given as goal

abbrev pub invariant-loop-word : goal.invariant-loop-word
invariant-loop-word l =
    (flaw : FlawTree) → IsLineFlaw (map (λ w. w.now) (drop l.word-index l.formulas)) (map (λ w. w.now) l.terms) l.line flaw
    → IsLineFlaw (map (λ w. w.now) l.formulas) (map (λ w. w.now) l.terms) l.line flaw
