use Rattle.std.proofs.Common.{◌≡◌, ◌+◌, ◌∙◌, ℕ, suc, List, [], ◌∷◌, length, length-append, ap, sym, arith}
use Rattle.std.specs.List.{slice_get}
use Rattle.proof_lines.specs.Lines.{LineTree, line_tree, line_trees}
use Rattle.nal_rules.specs.Asking.{case_tree}
use Rattle.nal_rules.specs.Faults.{line_at}
use Rattle.policy_history.specs.Values.{entry_trees}
use Rattle.case_reasons.specs.LineReasons.{IsLineReason}
use Rattle.case_reasons.specs.declared.lines.LineReason.{LineReason}
use Rattle.case_reasons.proofs.LineLists.{each_more, line_here}
use Rattle.case_reasons.proofs.lines.Judged.reasons_of.Goals as goal

pub reason-requires-clause-line : goal.reason-requires-clause-line
reason-requires-clause-line c = line_here c.as_slice-lines.result.now c.args.proof.now c.loop-index.index c.index-lines-index.result c.as_slice-lines.ensures.items c.loop-index-test.true c.index-lines-index.is

pub loop-index-preserved : goal.loop-index-preserved
loop-index-preserved c =
    let call = c.args.self.now in
    let lines = line_trees c.args.proof.now in
    let items = c.in_ok-push.ensures.items in
    let longer = length-append c.loop-index.reasons.items (c.reason.result ∷ []) in
    let count = c.loop-index.invariant.count in
    let all = ap length items in
    let number : c.loop-index.index + 1 ≡ suc c.loop-index.index = omega arith in
    let here = sym (ap (line_at lines) number) ∙ line_here c.as_slice-lines.result.now c.args.proof.now c.loop-index.index c.index-lines-index.result c.as_slice-lines.ensures.items c.loop-index-test.true c.index-lines-index.is in
    record {
      count = omega (arith, all, longer, count);
      each = λ i line reason stands at.
          each_more (λ (k : ℕ) (l : LineTree) (r : LineReason). IsLineReason call.journal.now.head (entry_trees call.journal.now.entries) call.principal (case_tree call.case.now) call.answers.now lines k l r)
          lines c.loop-index.reasons.items c.reason.result (line_tree c.index-lines-index.result) c.loop-index.index count here c.reason.ensures c.loop-index.invariant.each i line reason stands (sym (ap (λ (xs : List LineReason). slice_get xs i) items) ∙ at);
    }
