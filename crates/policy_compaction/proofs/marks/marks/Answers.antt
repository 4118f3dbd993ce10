use Rattle.std.proofs.Common.{◌∙◌, drop, length-set, sym, subst}
use Rattle.policy_history.specs.Values.{entry_trees}
use Rattle.policy_compaction.specs.Inner.Marking.{AreUndone}
use Rattle.policy_compaction.proofs.Marked.{here_on, marked_on}
use Rattle.policy_compaction.proofs.marks.marks.Goals as goal

pub loop-index-preserved : goal.loop-index-preserved
loop-index-preserved c =
    let xs = c.as_slice-entries.result.now in
    let n = c.loop-index.index in
    let x = c.index-entries-index.result in
    let later = drop n (entry_trees xs) in
    record {
      long = length-set c.loop-index.marks.items _ _ ∙ c.loop-index.invariant.long;
      done = marked_on xs n x c.loop-index-test.true c.loop-index.auto.index c.index-entries-index.is c.loop-index.marks.items c.in_ok-marks-2.field-0
          c.loop-index.invariant.long (c.in_ok-marks-2.ensures later c.loop-index.invariant.undone) c.loop-index.invariant.done;
      undone = subst (AreUndone c.undo.new.undone.keys) (sym (here_on xs n x c.loop-index-test.true c.loop-index.auto.index c.index-entries-index.is))
          (c.in_ok-undo.ensures later c.loop-index.invariant.undone);
    }
