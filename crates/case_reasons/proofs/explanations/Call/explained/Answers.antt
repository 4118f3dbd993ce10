use Rattle.std.proofs.Common.{◌≡◌, List, Some, subst}
use Rattle.proof_lines.specs.Lines.{LineTree}
use Rattle.nal_rules.specs.Verdicts.{CaseTree, IsVerdict}
use Rattle.policy_history.specs.Values.{entry_trees}
use Rattle.case_reasons.specs.LineReasons.{AreLineReasons}
use Rattle.case_reasons.proofs.Told.{proof_told}
use Rattle.case_reasons.proofs.explanations.Call.explained.Goals as goal

pub returns : goal.returns
returns c =
    let call = c.args.self.now in
    let h = call.journal.now.head in
    let es = entry_trees call.journal.now.entries in
    let answers = c.args.answers.now in
    let items = c.in_ok-lines.lines.items in
    let of_case : CaseTree → Type 0 = λ case. (proof : List LineTree) → case.proof ≡ Some proof → AreLineReasons h es call.principal case answers proof items in
    let proof = c.proof_reason.ensures in
    record {
      verdict = subst (λ (case : CaseTree). IsVerdict case answers c.verdict-verdict.result) c.requires.case c.verdict-verdict.ensures;
      object_reason = c.requires.made;
      goal_reason = c.goal_reason.ensures;
      proof_reason = proof_told h es call.principal call.op.now call.object.now call.number answers items c.proof_reason.result proof.none proof.some proof.lines (subst of_case c.requires.case c.in_ok-lines.ensures);
    }
