use Rattle.std.proofs.Common.{◌≡◌, ◌+◌, ◌++◌, List, length, map, false, refl, sym, ap, ◌∙◌, subst, arith}
use Rattle.std.proofs.lemmas.List.{length-map}
use Rattle.std.specs.List.{All, flat_map}
use Rattle.journal_text.specs.declared.policy_printer.PolicyPrinter.{PolicyPrinter}
use Rattle.journal_text.specs.PolicyLaws.{IsKeptEntry}
use Rattle.policy_history.specs.declared.events.Entry.{Entry}
use Rattle.policy_history.specs.Events.{entry_tree}
use Rattle.policy_history.specs.Machine.{IsLegal}
use Rattle.policy_history.specs.PolicyTexts.{line_of}
use Rattle.policy_history.specs.Values.{entry_trees}
use Rattle.policy_compaction.specs.Kept.{Numbered, compacted, kept, moved}
use Rattle.policy_compaction.specs.Inner.Marking.{marks_of}
use Rattle.policy_compaction.specs.Inner.Printing.{IsPrintable, kept_as}
use Rattle.policy_compaction.proofs.Counting.{length-marks}
use Rattle.policy_compaction.proofs.Keeping.{all_later, all_more, written_later, written_more}
use Rattle.policy_compaction.proofs.Printing.{printable}
use Rattle.policy_compaction.proofs.compaction.Kept.print_entries.Goals as goal
use Rattle.policy_compaction.proofs.compaction.Kept.print_entries.Goals.{then-self-index+in_ok-print, else-self-index}

pub bounds-self-index : goal.bounds-self-index
bounds-self-index c =
    let there : c.as_slice-entries.result.now ≡ c.args.self.now.journal.now.entries = c.as_slice-entries.ensures.value ∙ c.entries.ensures in
    let same = ap (λ (xs : List Entry). length xs) there in
    let long = ap length c.args.self.now.marked ∙ length-marks 0 (entry_trees c.args.self.now.journal.now.entries) in
    let all = length-map c.args.self.now.journal.now.entries entry_tree in
    omega (arith, c.loop-index-test.true, same, long, all)

pub print-requires : goal.print-requires
print-requires c =
    let h = c.args.self.now.journal.now.head in
    let xs = c.as_slice-entries.result.now in
    let there : c.as_slice-entries.result.now ≡ c.args.self.now.journal.now.entries = c.as_slice-entries.ensures.value ∙ c.entries.ensures in
    let legal : IsLegal h (entry_trees xs) = subst (λ (ys : List Entry). IsLegal h (entry_trees ys)) (sym there) c.count-legal.ensures.legal in
    subst (λ (ys : List Entry). IsPrintable h (entry_trees ys) (entry_tree c.index-entries-index.result)) there
    (printable h xs legal c.loop-index.index c.index-entries-index.result c.loop-index-test.true c.index-entries-index.is)

pub loop-index-preserved : goal.loop-index-preserved
loop-index-preserved c =
    let h = c.args.self.now.journal.now.head in
    let xs = c.as_slice-entries.result.now in
    let there : c.as_slice-entries.result.now ≡ c.args.self.now.journal.now.entries = c.as_slice-entries.ensures.value ∙ c.entries.ensures in
    let es = entry_trees xs in
    let i = c.loop-index.index in
    let x = c.index-entries-index.result in
    let marked = c.args.self.now.marked ∙ ap (λ (ys : List Entry). marks_of (entry_trees ys)) (sym there) in
    let written = λ (ks : List Numbered). flat_map (line_of h) (map (moved (kept es)) ks) in
    let whole = c.args.printer.now.text ++ flat_map (line_of h) (compacted es) in
    elim c.if-self-index.branch [
      | then-self-index+in_ok-print w ↦
          record {
            text = written_more xs i x c.loop-index-test.true c.index-entries-index.is c.args.self.now.marks.now marked false written
                c.loop-index.printer.text c.if-self-index.printer.text whole c.loop-index.invariant.text
                (line_of h (moved (kept es) (i + 1, entry_tree x))) w.if-self-index.true refl
                (ap (λ (p : PolicyPrinter). p.text) w.printer-is ∙ w.in_ok-print.ensures.text
                ∙ ap (λ (ys : List Entry). c.loop-index.printer.text ++ line_of h (kept_as (entry_trees ys) (entry_tree x))) (sym there));
            kept = all_more xs i x c.loop-index-test.true c.index-entries-index.is c.args.self.now.marks.now marked false
                IsKeptEntry (moved (kept es)) (All IsKeptEntry (compacted es)) c.loop-index.invariant.kept
                w.if-self-index.true (subst (λ (ys : List Entry). IsKeptEntry (kept_as (entry_trees ys) (entry_tree x))) (sym there) w.in_ok-print.ensures.kept);
          }
      | else-self-index w ↦
          record {
            text = written_later xs i x c.loop-index-test.true c.index-entries-index.is c.args.self.now.marks.now marked false written
                c.loop-index.printer.text c.if-self-index.printer.text whole c.loop-index.invariant.text
                w.if-self-index.false (ap (λ (p : PolicyPrinter). p.text) w.printer-is);
            kept = all_later xs i x c.loop-index-test.true c.index-entries-index.is c.args.self.now.marks.now marked false
                IsKeptEntry (moved (kept es)) (All IsKeptEntry (compacted es)) c.loop-index.invariant.kept
                w.if-self-index.false;
          }
    ]
