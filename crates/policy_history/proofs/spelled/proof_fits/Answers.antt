use Rattle.proof_lines.specs.Lines.{line_trees}
use Rattle.policy_history.specs.Machine.{proof_fits}
use Rattle.policy_history.proofs.Limits.{proof_fits_decides, same_test}
use Rattle.policy_history.proofs.spelled.proof_fits.Goals as goal

pub returns : goal.returns
returns c = same_test c.proof_fits.result (proof_fits (line_trees c.args.proof.now)) c.proof_fits.ensures (proof_fits_decides (line_trees c.args.proof.now))
