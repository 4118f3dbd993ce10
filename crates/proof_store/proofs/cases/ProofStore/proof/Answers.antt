use Rattle.std.proofs.Common.{◌∙◌, sym, ap}
use Rattle.std.specs.Option.{option_map}
use Rattle.proof_lines.specs.Lines.{line_trees}
use Rattle.proof_store.proofs.HeldCases.{proof_at}
use Rattle.proof_store.proofs.cases.ProofStore.proof.Goals as goal

pub returns : goal.returns
returns c =
    let at = proof_at c.self.inside.ops.keys c.self.inside.cases.entries c.args.case c.index.result.now c.index.ensures in
    rw (← c.self.view_is) (ap (option_map line_trees) c.as_ref.ensures.value ∙ sym at)
