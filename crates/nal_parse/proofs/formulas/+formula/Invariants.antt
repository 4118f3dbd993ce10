use Rattle.std.proofs.Common.{length, ◌+◌, ◌*◌}
use Rattle.nal_parse.specs.Grammar.{ReadsConjunction, ReadsDisjunction}
use Rattle.nal_parse.specs.Inner.Reading.{Ands, Ors, ends_conjunction, ends_disjunction, part_tree}
use Rattle.nal_parse.proofs.Readings.{Reached}
use Rattle.nal_parse.proofs.formulas.+formula.Given as goal

abbrev pub decreases-read_formula : goal.decreases-read_formula
decreases-read_formula l = 10 * length l.reader.now.text.now + 9

abbrev pub decreases-read_quantified : goal.decreases-read_quantified
decreases-read_quantified l = 10 * length l.reader.now.text.now + 9

abbrev pub decreases-read_implication : goal.decreases-read_implication
decreases-read_implication l = 10 * length l.reader.now.text.now + 8

abbrev pub decreases-read_disjunction : goal.decreases-read_disjunction
decreases-read_disjunction l = 10 * length l.reader.now.text.now + 7

abbrev pub decreases-read_conjunction : goal.decreases-read_conjunction
decreases-read_conjunction l = 10 * length l.reader.now.text.now + 6

abbrev pub decreases-read_unary : goal.decreases-read_unary
decreases-read_unary l = 10 * length l.reader.now.text.now + 5

abbrev pub decreases-read_statement : goal.decreases-read_statement
decreases-read_statement l = 10 * length l.reader.now.text.now + 4

abbrev pub decreases-read_word : goal.decreases-read_word
decreases-read_word l = 10 * length l.reader.now.text.now + 4

abbrev pub decreases-read_negated : goal.decreases-read_negated
decreases-read_negated l = 10 * length l.reader.now.text.now + 6

abbrev pub decreases-read_group : goal.decreases-read_group
decreases-read_group l = 10 * length l.reader.now.text.now + 10

abbrev pub decreases-read_subject : goal.decreases-read_subject
decreases-read_subject l = 10 * length l.reader.now.text.now + 10

abbrev pub decreases-read_continued : goal.decreases-read_continued
decreases-read_continued l = 10 * length l.reader.now.text.now + 8

abbrev pub decreases-read_longer : goal.decreases-read_longer
decreases-read_longer l = 10 * length l.reader.now.text.now + 7

abbrev pub decreases-read_saying : goal.decreases-read_saying
decreases-read_saying l = 10 * length l.reader.now.text.now + 9

abbrev pub decreases-read_rest : goal.decreases-read_rest
decreases-read_rest l = 10 * length l.reader.now.text.now + 6

abbrev pub decreases-read_said : goal.decreases-read_said
decreases-read_said l = 10 * length l.reader.now.text.now + 6

abbrev pub invariant-read_conjunction-loop-alloc : goal.invariant-read_conjunction-loop-alloc
invariant-read_conjunction-loop-alloc l = Reached ends_conjunction (Ands (part_tree l.left)) ReadsConjunction l.fn.levels l.fn.reader.text.now l.reader.text.now 1

abbrev pub decreases-read_conjunction-loop-alloc : goal.decreases-read_conjunction-loop-alloc
decreases-read_conjunction-loop-alloc l = length l.reader.text.now

abbrev pub invariant-read_disjunction-loop-alloc : goal.invariant-read_disjunction-loop-alloc
invariant-read_disjunction-loop-alloc l = Reached ends_disjunction (Ors (part_tree l.left)) ReadsDisjunction l.fn.levels l.fn.reader.text.now l.reader.text.now 1

abbrev pub decreases-read_disjunction-loop-alloc : goal.decreases-read_disjunction-loop-alloc
decreases-read_disjunction-loop-alloc l = length l.reader.text.now
