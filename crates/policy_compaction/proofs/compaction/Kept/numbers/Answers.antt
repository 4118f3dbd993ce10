use Rattle.std.proofs.Common.{◌≡◌, ◌+◌, List, [], length, drop, get_or, false, sym, ap, ◌∙◌, arith, append-nil}
use Rattle.std.proofs.lemmas.List.{length-map}
use Rattle.std.specs.List.{flat_map}
use Rattle.policy_history.specs.declared.events.Entry.{Entry}
use Rattle.policy_history.specs.Events.{entry_tree}
use Rattle.policy_history.specs.Values.{entry_trees}
use Rattle.policy_compaction.specs.Kept.{Numbered, kept, kept_from, number_line, numbers_of, numbers_text}
use Rattle.policy_compaction.specs.Inner.Marking.{counts_from, marks_of}
use Rattle.policy_compaction.proofs.Counting.{length-kept_counts, length-marks, new_number_at}
use Rattle.policy_compaction.proofs.Keeping.{written_later, written_more}
use Rattle.policy_compaction.proofs.Printing.{no_line, numbers_line}
use Rattle.policy_compaction.proofs.compaction.Kept.numbers.Goals as goal
use Rattle.policy_compaction.proofs.compaction.Kept.numbers.Goals.{then-self-index+then-is_say+in_ok-add_numbers, else-self-index, else-self-index-via-then-self-index+else-is_say, else-self-index-via-else-self-index}

pub bounds-self-index : goal.bounds-self-index
bounds-self-index c =
    let there : c.as_slice-entries.result.now ≡ c.args.self.now.journal.now.entries = c.as_slice-entries.ensures.value ∙ c.entries.ensures in
    let same = ap (λ (xs : List Entry). length xs) there in
    let long = ap length c.args.self.now.marked ∙ length-marks 0 (entry_trees c.args.self.now.journal.now.entries) in
    let all = length-map c.args.self.now.journal.now.entries entry_tree in
    omega (arith, c.loop-index-test.true, same, long, all)

pub bounds-self-index-then-is_say : goal.bounds-self-index-then-is_say
bounds-self-index-then-is_say c =
    let there : c.as_slice-entries.result.now ≡ c.args.self.now.journal.now.entries = c.as_slice-entries.ensures.value ∙ c.entries.ensures in
    let same = ap (λ (xs : List Entry). length xs) there in
    let long = length-kept_counts (entry_trees c.args.self.now.journal.now.entries) c.args.self.now.counts.now c.args.self.now.counted in
    let all = length-map c.args.self.now.journal.now.entries entry_tree in
    omega (arith, c.loop-index-test.true, same, long, all)

pub loop-index-preserved : goal.loop-index-preserved
loop-index-preserved c =
    let xs = c.as_slice-entries.result.now in
    let there : xs ≡ c.args.self.now.journal.now.entries = c.as_slice-entries.ensures.value ∙ c.entries.ensures in
    let es = entry_trees xs in
    let i = c.loop-index.index in
    let x = c.index-entries-index.result in
    let e = entry_tree x in
    let marked = c.args.self.now.marked ∙ ap (λ (ys : List Entry). marks_of (entry_trees ys)) (sym there) in
    let counted = c.args.self.now.counted ∙ ap (λ (ys : List Entry). counts_from 0 (marks_of (entry_trees ys))) (sym there) in
    let rest = kept_from (i + 1) (drop (i + 1) es) in
    let written = λ (ks : List Numbered). flat_map number_line (flat_map (numbers_of (kept es)) ks) in
    let number = new_number_at es c.args.self.now.counts.now counted i 0 (let all = length-map xs entry_tree in omega (arith, c.loop-index-test.true, all)) in
    elim c.if-self-index.branch [
      | then-self-index+then-is_say+in_ok-add_numbers w ↦
          written_more xs i x c.loop-index-test.true c.index-entries-index.is c.args.self.now.marks.now marked false written
          c.loop-index.text c.if-self-index.text (numbers_text es) c.loop-index.invariant
          (number_line (i + 1, get_or c.args.self.now.counts.now i 0)) w.if-self-index.true
          (numbers_line (kept es) (i + 1) (get_or c.args.self.now.counts.now i 0) e rest (sym w.if-is_say.ensures) number) (w.text-is ∙ w.in_ok-add_numbers.ensures)
      | else-self-index w ↦ elim w.else-self-index.branch [
        | else-self-index-via-then-self-index+else-is_say v ↦
            written_more xs i x c.loop-index-test.true c.index-entries-index.is c.args.self.now.marks.now marked false written
            c.loop-index.text c.if-self-index.text (numbers_text es) c.loop-index.invariant
            [] v.if-self-index.true (no_line (kept es) (i + 1) e rest (sym v.if-is_say.ensures)) (w.text-is ∙ sym (append-nil c.loop-index.text))
        | else-self-index-via-else-self-index v ↦
            written_later xs i x c.loop-index-test.true c.index-entries-index.is c.args.self.now.marks.now marked false written
            c.loop-index.text c.if-self-index.text (numbers_text es) c.loop-index.invariant
            v.if-self-index.false w.text-is
      ]
    ]
