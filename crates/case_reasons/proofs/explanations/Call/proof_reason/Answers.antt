use Rattle.std.proofs.Common.{sym, ap, ◌∙◌}
use Rattle.std.specs.Prelude.{option_map}
use Rattle.proof_lines.specs.Lines.{line_trees}
use Rattle.policy_history.specs.Events.{entry_tree}
use Rattle.policy_history.specs.Values.{entry_trees}
use Rattle.case_reasons.proofs.Proofs.{no_proof}
use Rattle.case_reasons.proofs.Told.{registered_by}
use Rattle.case_reasons.proofs.explanations.Call.proof_reason.Goals as goal

pub returns-in_err-entry-clause-none : goal.returns-in_err-entry-clause-none
returns-in_err-entry-clause-none c =
    let call = c.args.self.now in
    λ none. no_proof call.journal.now.head (entry_trees call.journal.now.entries) c.in_err-entry.ensures.legal call.principal call.op.now call.object.now call.number c.requires.there c.in_err-entry.ensures.last

pub returns-clause-some : goal.returns-clause-some
returns-clause-some c =
    let call = c.args.self.now in
    let entry = entry_tree c.in_ok-entry.field-0-1.now in
    let last = c.in_ok-entry.ensures.last in
    let told = sym c.requires.proof ∙ ap (option_map line_trees) c.in_ok-proof.was in
    record {
      entry = entry;
      last = last;
      registered = registered_by call.journal.now.head (entry_trees call.journal.now.entries) c.in_ok-entry.ensures.legal call.principal call.op.now call.object.now call.number c.requires.there c.in_ok-entry.entry entry (line_trees c.in_ok-proof.proof) last told;
      told = told;
    }
