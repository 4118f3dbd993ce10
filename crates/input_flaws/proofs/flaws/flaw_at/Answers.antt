use Rattle.std.proofs.Common.{map}
use Rattle.std.proofs.lemmas.Result.{IfOk-weaker}
use Rattle.run_streams.specs.Flaws.{flaw_tree}
use Rattle.input_flaws.specs.LineFlaws.{IsFlawAt, IsLineFlaw}
use Rattle.input_flaws.specs.LineFlaws.IsFlawAt.{ended, stands}
use Rattle.input_flaws.proofs.flaws.flaw_at.Goals as goal

pub returns-in-Some : goal.returns-in-Some
returns-in-Some c =
    IfOk-weaker c.flaw_of.result
    (λ flaw. IsLineFlaw (map (λ w. w.now) c.args.formulas.now) (map (λ w. w.now) c.args.terms.now) c.in-Some.line.now (flaw_tree flaw))
    (λ flaw. IsFlawAt (map (λ w. w.now) c.args.formulas.now) (map (λ w. w.now) c.args.terms.now) c.args.text.now c.args.number (flaw_tree flaw))
    (λ flaw is. stands c.in-Some.ensures is) c.flaw_of.ensures

pub returns-in-None : goal.returns-in-None
returns-in-None c = rw c.end_flaw.ensures (ended c.in-None.ensures)
