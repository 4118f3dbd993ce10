use Rattle.std.proofs.Common.{◌∙◌, [], Err, ap, refl, sym, subst, arith}
use Rattle.nal_term.specs.Trees.{formula_tree, term_tree, term_trees}
use Rattle.nal_term.specs.Trees as tree
use Rattle.nal_parse.specs.Tokens as lexeme
use Rattle.nal_parse.specs.Tokens.{lexeme_of}
use Rattle.nal_parse.specs.Grammar.{ReadsFormula, ReadsUnary, ReadsImplication, quantify}
use Rattle.nal_parse.specs.Inner.Reading.{Ands, Arguments, IsStopped, Ors, Parts, ReadsContinued, ReadsHere, ReadsMade, ReadsRest, anything, ends_conjunction, ends_disjunction, ends_formula, ends_term, ends_unary, part_tree}
use Rattle.nal_parse.proofs.Fronts.{cut_on, first, well_formed}
use Rattle.nal_parse.proofs.Readings.{Step, level, steps, step_reads, step_reading, step_stopped, made_reads, made_handed, handed_stop, narrow_reading, at_level}
use Rattle.nal_parse.proofs.TermReadings.{parts_end}
use Rattle.nal_parse.proofs.TokenLexemes.{no_arrow, no_close, no_colon, no_dot, no_open, no_variable}
use Rattle.nal_parse.proofs.StatementReadings.{continued_handed, continued_step, name_alone, rest_says, rest_too_deep}
use Rattle.nal_parse.proofs.FormulaReadings.{AfterAnd, AfterOr, conjunction_handed, conjunction_step, ands_end, and_step, after_and_handed, after_and_step, disjunction_handed, disjunction_step, ors_end, or_step, after_or_handed, after_or_step, implication_handed, implication_left, implication_step, implication_too_deep, unary_true, unary_false, unary_not, unary_group, unary_atom, unary_name, unary_other, unary_stuck, unary_not_too_deep, unary_group_too_deep, unary_atom_too_deep, group_handed, group_closed, group_stuck, quantified_no_variable, quantified_no_colon, quantified_step, formula_quantified, formula_plain, formula_too_deep, word_refused, other_refused, ok_shorter}
use Rattle.nal_parse.proofs.formulas.+formula.Goals as goal

-- Conjunctions

pub read_conjunction-returns-in-Err-clause-reading : goal.read_conjunction-returns-in-Err-clause-reading
read_conjunction-returns-in-Err-clause-reading t c = handed_stop c.args.reader.now.text.now (conjunction_handed c.args.levels) c.in-Err.stop c.in-Err.ensures.reading

pub read_conjunction-loop-alloc-init : goal.read_conjunction-loop-alloc-init
read_conjunction-loop-alloc-init t c = record {
  step = conjunction_step c.args.levels c.args.reader.now.text.now _ _ c.in-Ok.ensures.reading;
  within = omega (arith, c.in-Ok.ensures.shorter);
}

pub read_conjunction-returns-in-Err-read_unary-clause-reading : goal.read_conjunction-returns-in-Err-read_unary-clause-reading
read_conjunction-returns-in-Err-read_unary-clause-reading t c =
    let left = part_tree c.loop-alloc.left in
    let cut = cut_on c.loop-alloc.reader.front (c.loop-alloc-test.ensures.0 refl) c.advance.ensures.text in
    step_stopped c.loop-alloc.invariant.step c.in-Err-read_unary.stop
    (step_stopped (and_step left c.args.levels c.loop-alloc.reader.text.now cut) c.in-Err-read_unary.stop
    (handed_stop c.advance.new.self.text.now (after_and_handed left c.args.levels) c.in-Err-read_unary.stop c.in-Err-read_unary.ensures.reading))

pub read_conjunction-loop-alloc-preserved : goal.read_conjunction-loop-alloc-preserved
read_conjunction-loop-alloc-preserved t c =
    let left = part_tree c.loop-alloc.left in
    let cut = cut_on c.loop-alloc.reader.front (c.loop-alloc-test.ensures.0 refl) c.advance.ensures.text in
    let part : Step ends_conjunction (Ands (part_tree c.in-Ok-and.part)) (AfterAnd left) level c.args.levels c.advance.new.self.text.now c.read_unary-in-loop-alloc.new.reader.text.now =
    subst (λ f. Step ends_conjunction (Ands f) (AfterAnd left) level c.args.levels c.advance.new.self.text.now c.read_unary-in-loop-alloc.new.reader.text.now) (sym c.in-Ok-and.ensures)
    (after_and_step left c.args.levels c.advance.new.self.text.now _ _ c.in-Ok-read_unary.ensures.reading) in
    record {
      step = steps c.loop-alloc.invariant.step (steps (and_step left c.args.levels c.loop-alloc.reader.text.now cut) part);
      within = omega (arith, c.loop-alloc.invariant.within, c.advance.ensures.bound, c.in-Ok-read_unary.ensures.shorter);
    }

pub read_conjunction-returns-clause-reading : goal.read_conjunction-returns-clause-reading
read_conjunction-returns-clause-reading t c =
    step_reads c.loop-alloc.invariant.step
    (ands_end (part_tree c.loop-alloc.left) c.args.levels c.loop-alloc.reader.text.now _ (first c.loop-alloc.reader.front) (λ e. let h = c.loop-alloc-test.ensures.1 e in cc))

-- Disjunctions

pub read_disjunction-returns-in-Err-clause-reading : goal.read_disjunction-returns-in-Err-clause-reading
read_disjunction-returns-in-Err-clause-reading t c = handed_stop c.args.reader.now.text.now (disjunction_handed c.args.levels) c.in-Err.stop c.in-Err.ensures.reading

pub read_disjunction-loop-alloc-init : goal.read_disjunction-loop-alloc-init
read_disjunction-loop-alloc-init t c = record {
  step = disjunction_step c.args.levels c.args.reader.now.text.now _ _ c.in-Ok.ensures.reading;
  within = omega (arith, c.in-Ok.ensures.shorter);
}

pub read_disjunction-returns-in-Err-read_conjunction-clause-reading : goal.read_disjunction-returns-in-Err-read_conjunction-clause-reading
read_disjunction-returns-in-Err-read_conjunction-clause-reading t c =
    let left = part_tree c.loop-alloc.left in
    let cut = cut_on c.loop-alloc.reader.front (c.loop-alloc-test.ensures.0 refl) c.advance.ensures.text in
    step_stopped c.loop-alloc.invariant.step c.in-Err-read_conjunction.stop
    (step_stopped (or_step left c.args.levels c.loop-alloc.reader.text.now cut) c.in-Err-read_conjunction.stop
    (handed_stop c.advance.new.self.text.now (after_or_handed left c.args.levels) c.in-Err-read_conjunction.stop c.in-Err-read_conjunction.ensures.reading))

pub read_disjunction-loop-alloc-preserved : goal.read_disjunction-loop-alloc-preserved
read_disjunction-loop-alloc-preserved t c =
    let left = part_tree c.loop-alloc.left in
    let cut = cut_on c.loop-alloc.reader.front (c.loop-alloc-test.ensures.0 refl) c.advance.ensures.text in
    let part : Step ends_disjunction (Ors (part_tree c.in-Ok-or.part)) (AfterOr left) level c.args.levels c.advance.new.self.text.now c.read_conjunction-in-loop-alloc.new.reader.text.now =
    subst (λ f. Step ends_disjunction (Ors f) (AfterOr left) level c.args.levels c.advance.new.self.text.now c.read_conjunction-in-loop-alloc.new.reader.text.now) (sym c.in-Ok-or.ensures)
    (after_or_step left c.args.levels c.advance.new.self.text.now _ _ c.in-Ok-read_conjunction.ensures.reading) in
    record {
      step = steps c.loop-alloc.invariant.step (steps (or_step left c.args.levels c.loop-alloc.reader.text.now cut) part);
      within = omega (arith, c.loop-alloc.invariant.within, c.advance.ensures.bound, c.in-Ok-read_conjunction.ensures.shorter);
    }

pub read_disjunction-returns-clause-reading : goal.read_disjunction-returns-clause-reading
read_disjunction-returns-clause-reading t c =
    step_reads c.loop-alloc.invariant.step
    (ors_end (part_tree c.loop-alloc.left) c.args.levels c.loop-alloc.reader.text.now _ (first c.loop-alloc.reader.front) (λ e. let h = c.loop-alloc-test.ensures.1 e in cc))

-- Implications

pub read_implication-returns-in-Err-clause-reading : goal.read_implication-returns-in-Err-clause-reading
read_implication-returns-in-Err-clause-reading t c = handed_stop c.args.reader.now.text.now (implication_handed c.args.levels) c.in-Err.stop c.in-Err.ensures.reading

pub read_implication-returns-in_default : goal.read_implication-returns-in_default
read_implication-returns-in_default t c = record {
  reading = implication_left c.args.levels c.args.reader.now.text.now _ _ c.in-Ok.ensures.reading _ (first c.read_disjunction.new.reader.front) (no_arrow _ c.in_default.not-Arrow);
  shorter = c.in-Ok.ensures.shorter;
}

pub read_implication-returns-then-levels-eq0-clause-reading : goal.read_implication-returns-then-levels-eq0-clause-reading
read_implication-returns-then-levels-eq0-clause-reading t c =
    let reading = rw c.if-levels-eq0.true at c.in-Ok.ensures.reading in
    subst (λ n. IsStopped ends_formula ReadsImplication n c.args.reader.now.text.now c.too_deep.result) (sym c.if-levels-eq0.true)
    (implication_too_deep c.args.reader.now.text.now _ _ reading (first c.read_disjunction.new.reader.front ∙ ap lexeme_of c.in-Arrow.is) c.too_deep.result c.too_deep.ensures)

pub read_implication-returns-in-Ok-implies-clause-reading : goal.read_implication-returns-in-Ok-implies-clause-reading
read_implication-returns-in-Ok-implies-clause-reading t c =
    let cut = cut_on c.read_disjunction.new.reader.front (ap lexeme_of c.in-Arrow.is) c.advance.ensures.text in
    step_reads (implication_step c.args.levels c.args.reader.now.text.now _ _ c.in-Ok.ensures.reading cut (omega arith))
    (made_reads (λ g. tree.implies (part_tree c.in-Ok.left) g) _ c.in-Ok-implies.ensures c.in-Ok-read_formula.ensures.reading)

pub read_implication-returns-in-Err-read_formula-clause-reading : goal.read_implication-returns-in-Err-read_formula-clause-reading
read_implication-returns-in-Err-read_formula-clause-reading t c =
    let cut = cut_on c.read_disjunction.new.reader.front (ap lexeme_of c.in-Arrow.is) c.advance.ensures.text in
    step_stopped (implication_step c.args.levels c.args.reader.now.text.now _ _ c.in-Ok.ensures.reading cut (omega arith)) c.in-Err-read_formula.stop
    (handed_stop c.advance.new.self.text.now (made_handed (λ g. tree.implies (part_tree c.in-Ok.left) g) ends_formula ReadsFormula _) c.in-Err-read_formula.stop c.in-Err-read_formula.ensures.reading)

-- Whole formulas

pub read_formula-returns-then-levels-eq0-clause-reading : goal.read_formula-returns-then-levels-eq0-clause-reading
read_formula-returns-then-levels-eq0-clause-reading t c =
    subst (λ n. IsStopped ends_formula ReadsFormula n c.args.reader.now.text.now c.too_deep.result) (sym c.if-levels-eq0.true)
    (formula_too_deep c.args.reader.now.text.now _ (first c.args.reader.now.front) (sym c.in-Some.ensures) c.too_deep.result c.too_deep.ensures)

pub read_formula-returns-else-levels-eq0-clause-reading : goal.read_formula-returns-else-levels-eq0-clause-reading
read_formula-returns-else-levels-eq0-clause-reading t c =
    let cut = cut_on c.args.reader.now.front refl c.advance.ensures.text in
    step_reading (formula_quantified c.args.levels c.args.reader.now.text.now _ cut (sym c.in-Some.ensures) (omega arith)) part_tree c.read_quantified.new.reader.text.now c.read_quantified.result c.read_quantified.ensures.reading

pub read_formula-returns-in-None-clause-reading : goal.read_formula-returns-in-None-clause-reading
read_formula-returns-in-None-clause-reading t c =
    step_reading (formula_plain c.args.levels c.args.reader.now.text.now _ (first c.args.reader.now.front) (sym c.in-None.ensures)) part_tree c.read_implication.new.reader.text.now c.read_implication.result c.read_implication.ensures.reading

pub read_quantified-returns-in_default : goal.read_quantified-returns-in_default
read_quantified-returns-in_default t c = record {
  reading = quantified_no_variable c.args.quantifier c.args.levels c.args.reader.now.text.now _ (first c.args.reader.now.front) (no_variable _ c.in_default.not-Variable) _ c.stop.ensures;
  shorter = tt;
}

pub read_quantified-returns-in_default-token : goal.read_quantified-returns-in_default-token
read_quantified-returns-in_default-token t c =
    let cut = cut_on c.args.reader.now.front (ap lexeme_of c.in-Variable.is) c.advance.ensures.text in
    let ok = well_formed c.args.reader.now.front (ap lexeme_of c.in-Variable.is) in
    record {
      reading = quantified_no_colon c.args.quantifier c.args.levels c.args.reader.now.text.now c.in-Variable.variable.now ok cut _ (first c.advance.new.self.front) (no_colon _ c.in_default-token.not-Colon) _ c.stop-in_default-token.ensures;
      shorter = tt;
    }

pub read_quantified-returns-in-Ok-quantified-clause-reading : goal.read_quantified-returns-in-Ok-quantified-clause-reading
read_quantified-returns-in-Ok-quantified-clause-reading t c =
    let cut = cut_on c.args.reader.now.front (ap lexeme_of c.in-Variable.is) c.advance.ensures.text in
    let ok = well_formed c.args.reader.now.front (ap lexeme_of c.in-Variable.is) in
    let colon = cut_on c.advance.new.self.front (ap lexeme_of c.in-Colon.is) c.advance-2.ensures.text in
    step_reads (quantified_step c.args.quantifier c.args.levels c.args.reader.now.text.now c.in-Variable.variable.now ok cut colon)
    (made_reads (λ f. quantify c.args.quantifier c.in-Variable.variable.now f) _ c.in-Ok-quantified.ensures c.in-Ok.ensures.reading)

pub read_quantified-returns-in-Err-clause-reading : goal.read_quantified-returns-in-Err-clause-reading
read_quantified-returns-in-Err-clause-reading t c =
    let cut = cut_on c.args.reader.now.front (ap lexeme_of c.in-Variable.is) c.advance.ensures.text in
    let ok = well_formed c.args.reader.now.front (ap lexeme_of c.in-Variable.is) in
    let colon = cut_on c.advance.new.self.front (ap lexeme_of c.in-Colon.is) c.advance-2.ensures.text in
    step_stopped (quantified_step c.args.quantifier c.args.levels c.args.reader.now.text.now c.in-Variable.variable.now ok cut colon) c.in-Err.stop
    (handed_stop c.advance-2.new.self.text.now (made_handed (λ f. quantify c.args.quantifier c.in-Variable.variable.now f) ends_formula ReadsFormula c.args.levels) c.in-Err.stop c.in-Err.ensures.reading)

-- Statements

pub read_longer-returns-in-Err-clause-reading : goal.read_longer-returns-in-Err-clause-reading
read_longer-returns-in-Err-clause-reading t c =
    handed_stop c.args.reader.now.text.now (continued_handed (term_tree c.args.first) c.args.levels) c.in-Err.stop
    (at_level term_tree ends_term (Parts (term_tree c.args.first)) (λ m k bytes a rest r. r) 0 c.args.levels c.args.reader.now.text.now [] (Err c.in-Err.stop) c.in-Err.ensures.reading)

pub read_continued-returns-in_default : goal.read_continued-returns-in_default
read_continued-returns-in_default t c =
    let first = parts_end (term_tree c.args.first) c.args.reader.now.text.now _ (first c.args.reader.now.front) (no_dot _ c.in_default.not-Dot) in
    record {
      reading = step_reading (continued_step (term_tree c.args.first) c.args.levels c.args.reader.now.text.now _ _ first) part_tree c.read_rest.new.reader.text.now c.read_rest.result c.read_rest.ensures.reading;
      bound = c.read_rest.ensures.bound;
    }

pub read_longer-returns-in-Ok-clause-reading : goal.read_longer-returns-in-Ok-clause-reading
read_longer-returns-in-Ok-clause-reading t c =
    step_reading (continued_step (term_tree c.args.first) c.args.levels c.args.reader.now.text.now _ _ c.in-Ok.ensures.reading) part_tree c.read_rest.new.reader.text.now c.read_rest.result c.read_rest.ensures.reading

pub read_rest-returns-then-levels-eq0-clause-reading : goal.read_rest-returns-then-levels-eq0-clause-reading
read_rest-returns-then-levels-eq0-clause-reading t c =
    subst (λ n. IsStopped ends_unary (ReadsRest (term_tree c.args.term)) n c.args.reader.now.text.now c.too_deep.result) (sym c.if-levels-eq0.true)
    (rest_too_deep (term_tree c.args.term) 0 c.args.reader.now.text.now (first c.args.reader.now.front ∙ c.if-is.ensures.0 refl) c.too_deep.result c.too_deep.ensures)

pub read_rest-returns-then-is-clause-reading : goal.read_rest-returns-then-is-clause-reading
read_rest-returns-then-is-clause-reading t c =
    let cut = cut_on c.args.reader.now.front (c.if-is.ensures.0 refl) c.advance.ensures.text in
    step_reading (rest_says (term_tree c.args.term) c.args.levels c.args.reader.now.text.now cut (omega arith)) part_tree c.read_said.new.reader.text.now c.read_said.result c.read_said.ensures.reading

pub read_said-returns-in-Ok-says-clause-reading : goal.read_said-returns-in-Ok-says-clause-reading
read_said-returns-in-Ok-says-clause-reading t c = made_reads (λ f. tree.says (term_tree c.args.speaker) f) _ c.in-Ok-says.ensures c.in-Ok.ensures.reading

pub read_said-returns-in-Err-clause-reading : goal.read_said-returns-in-Err-clause-reading
read_said-returns-in-Err-clause-reading t c =
    handed_stop c.args.reader.now.text.now (made_handed (λ f. tree.says (term_tree c.args.speaker) f) ends_unary ReadsUnary c.args.levels) c.in-Err.stop c.in-Err.ensures.reading

-- Unary formulas

pub read_negated-returns-in-Ok-negated-clause-reading : goal.read_negated-returns-in-Ok-negated-clause-reading
read_negated-returns-in-Ok-negated-clause-reading t c = made_reads (λ f. tree.implies f tree.falsum) _ c.in-Ok-negated.ensures c.in-Ok.ensures.reading

pub read_negated-returns-in-Err-clause-reading : goal.read_negated-returns-in-Err-clause-reading
read_negated-returns-in-Err-clause-reading t c =
    handed_stop c.args.reader.now.text.now (made_handed (λ f. tree.implies f tree.falsum) ends_unary ReadsUnary c.args.levels) c.in-Err.stop c.in-Err.ensures.reading

pub read_group-returns-in-Err-clause-reading : goal.read_group-returns-in-Err-clause-reading
read_group-returns-in-Err-clause-reading t c = handed_stop c.args.reader.now.text.now (group_handed c.args.levels) c.in-Err.stop c.in-Err.ensures.reading

pub read_group-returns-clause-reading : goal.read_group-returns-clause-reading
read_group-returns-clause-reading t c =
    let cut = cut_on c.read_formula.new.reader.front (ap lexeme_of c.in-Close.is) c.advance.ensures.text in
    group_closed c.args.levels c.args.reader.now.text.now _ _ c.in-Ok.ensures.reading cut

pub read_group-returns-in_default : goal.read_group-returns-in_default
read_group-returns-in_default t c = record {
  reading = group_stuck c.args.levels c.args.reader.now.text.now _ _ c.in-Ok.ensures.reading _ (first c.read_formula.new.reader.front) (no_close _ c.in_default.not-Close) _ c.stop.ensures;
  shorter = tt;
}

pub read_word-returns-in-Ok-clause-reading : goal.read_word-returns-in-Ok-clause-reading
read_word-returns-in-Ok-clause-reading t c =
    let cut = cut_on c.args.reader.now.front (c.requires ∙ ap lexeme.keyword c.in-True.is) c.advance.ensures.text in
    subst (λ f. ReadsHere ends_unary ReadsUnary c.args.levels c.args.reader.now.text.now f c.advance.new.self.text.now) (sym c.in-Ok.ensures) (unary_true c.args.levels c.args.reader.now.text.now cut)

pub read_word-returns-in-Ok-leaf-clause-reading : goal.read_word-returns-in-Ok-leaf-clause-reading
read_word-returns-in-Ok-leaf-clause-reading t c =
    let cut = cut_on c.args.reader.now.front (c.requires ∙ ap lexeme.keyword c.in-False.is) c.advance-in-False.ensures.text in
    subst (λ f. ReadsHere ends_unary ReadsUnary c.args.levels c.args.reader.now.text.now f c.advance-in-False.new.self.text.now) (sym c.in-Ok-leaf.ensures) (unary_false c.args.levels c.args.reader.now.text.now cut)

pub read_word-returns-then-levels-eq0-clause-reading : goal.read_word-returns-then-levels-eq0-clause-reading
read_word-returns-then-levels-eq0-clause-reading t c =
    subst (λ n. IsStopped ends_unary ReadsUnary n c.args.reader.now.text.now c.too_deep.result) (sym c.if-levels-eq0.true)
    (unary_not_too_deep c.args.reader.now.text.now c.too_deep.result (first c.args.reader.now.front ∙ c.requires ∙ ap lexeme.keyword c.in-Not.is) c.too_deep.ensures)

pub read_word-returns-else-levels-eq0-clause-reading : goal.read_word-returns-else-levels-eq0-clause-reading
read_word-returns-else-levels-eq0-clause-reading t c =
    let cut = cut_on c.args.reader.now.front (c.requires ∙ ap lexeme.keyword c.in-Not.is) c.advance-in-Not.ensures.text in
    step_reading (unary_not c.args.levels c.args.reader.now.text.now cut (omega arith)) part_tree c.read_negated.new.reader.text.now c.read_negated.result c.read_negated.ensures.reading

pub read_word-returns-in_default : goal.read_word-returns-in_default
read_word-returns-in_default t c = record {
  reading = unary_stuck c.args.levels c.args.reader.now.text.now _ (first c.args.reader.now.front)
      (word_refused _ c.args.keyword c.requires c.in_default.not-Not c.in_default.not-True c.in_default.not-False) _ c.stop.ensures;
  shorter = tt;
}

pub read_unary-returns-then-levels-eq0-clause-reading : goal.read_unary-returns-then-levels-eq0-clause-reading
read_unary-returns-then-levels-eq0-clause-reading t c =
    subst (λ n. IsStopped ends_unary ReadsUnary n c.args.reader.now.text.now c.too_deep.result) (sym c.if-levels-eq0.true)
    (unary_group_too_deep c.args.reader.now.text.now c.too_deep.result (first c.args.reader.now.front ∙ ap lexeme_of c.in-Open.is) c.too_deep.ensures)

pub read_unary-returns-else-levels-eq0-clause-reading : goal.read_unary-returns-else-levels-eq0-clause-reading
read_unary-returns-else-levels-eq0-clause-reading t c =
    let cut = cut_on c.args.reader.now.front (ap lexeme_of c.in-Open.is) c.advance.ensures.text in
    step_reading (unary_group c.args.levels c.args.reader.now.text.now cut (omega arith)) part_tree c.read_group.new.reader.text.now c.read_group.result c.read_group.ensures.reading

pub read_unary-returns-in_default-token : goal.read_unary-returns-in_default-token
read_unary-returns-in_default-token t c =
    let cut = cut_on c.args.reader.now.front (ap lexeme_of c.in-Name.is) c.advance-in-Name.ensures.text in
    let ok = well_formed c.args.reader.now.front (ap lexeme_of c.in-Name.is) in
    record {
      reading = step_reading (unary_name c.args.levels c.args.reader.now.text.now c.in-Name.name.now ok cut _ (first c.advance-in-Name.new.self.front) (no_open _ c.in_default-token.not-Open)) part_tree c.read_subject.new.reader.text.now c.read_subject.result
          c.read_subject.ensures.reading;
      shorter = ok_shorter c.read_subject.result _ _ _ c.read_subject.ensures.bound (c.advance-in-Name.ensures.shorter (rw c.in-Name.is (λ e. cc)));
    }

pub read_unary-returns-then-levels-eq0-2-clause-reading : goal.read_unary-returns-then-levels-eq0-2-clause-reading
read_unary-returns-then-levels-eq0-2-clause-reading t c =
    let cut = cut_on c.args.reader.now.front (ap lexeme_of c.in-Name.is) c.advance-in-Name.ensures.text in
    let ok = well_formed c.args.reader.now.front (ap lexeme_of c.in-Name.is) in
    subst (λ n. IsStopped ends_unary ReadsUnary n c.args.reader.now.text.now c.too_deep-then-levels-eq0-2.result) (sym c.if-levels-eq0-2.true)
    (unary_atom_too_deep c.args.reader.now.text.now c.in-Name.name.now ok cut (first c.advance-in-Name.new.self.front ∙ ap lexeme_of c.in-Open-token.is) c.too_deep-then-levels-eq0-2.result c.too_deep-then-levels-eq0-2.ensures)

pub read_unary-returns-else-levels-eq0-2-clause-reading : goal.read_unary-returns-else-levels-eq0-2-clause-reading
read_unary-returns-else-levels-eq0-2-clause-reading t c =
    let cut = cut_on c.args.reader.now.front (ap lexeme_of c.in-Name.is) c.advance-in-Name.ensures.text in
    let ok = well_formed c.args.reader.now.front (ap lexeme_of c.in-Name.is) in
    let second = cut_on c.advance-in-Name.new.self.front (ap lexeme_of c.in-Open-token.is) c.advance-in-Name-2.ensures.text in
    step_reading (unary_atom c.args.levels c.args.reader.now.text.now c.in-Name.name.now ok cut second (omega arith)) part_tree c.read_atom.new.reader.text.now c.read_atom.result
    (at_level part_tree ends_unary (ReadsMade (λ ts. tree.atom c.in-Name.name.now ts) Arguments) (λ m k bytes a rest r. r) 0 c.args.levels _ c.read_atom.new.reader.text.now c.read_atom.result
    (narrow_reading part_tree anything ends_unary (ReadsMade (λ ts. tree.atom c.in-Name.name.now ts) Arguments) 0 _ c.read_atom.new.reader.text.now c.read_atom.result (λ l e. refl) c.read_atom.ensures.reading))

-- Statements that no name begins

pub read_statement-returns-in-Ok-Some-clause-reading : goal.read_statement-returns-in-Ok-Some-clause-reading
read_statement-returns-in-Ok-Some-clause-reading t c =
    let f = rw c.in-Ok-Some.field-0-is at c.in-Ok-Some.ensures in
    let cut = cut_on c.args.reader.now.front refl c.advance.ensures.text in
    step_reading (unary_other c.args.levels c.args.reader.now.text.now _ cut (sym f) c.requires.name c.args.reader.now.front.form) part_tree c.read_continued.new.reader.text.now c.read_continued.result c.read_continued.ensures.reading

pub read_statement-returns-in-Ok-None-clause-reading : goal.read_statement-returns-in-Ok-None-clause-reading
read_statement-returns-in-Ok-None-clause-reading t c =
    let f = rw c.in-Ok-None.field-0-is at c.in-Ok-None.ensures in
    unary_stuck c.args.levels c.args.reader.now.text.now _ (first c.args.reader.now.front) (other_refused _ (sym f) c.requires.word c.requires.bracket) _ c.stop.ensures

pub read_subject-returns-in-Ok-clause-reading : goal.read_subject-returns-in-Ok-clause-reading
read_subject-returns-in-Ok-clause-reading t c =
    subst (λ f. ReadsHere ends_unary (ReadsContinued (tree.name c.args.name.now)) c.args.levels c.args.reader.now.text.now f c.args.reader.now.text.now) (sym c.in-Ok.ensures)
    (name_alone c.args.name.now c.args.levels c.args.reader.now.text.now _ (first c.args.reader.now.front) (sym c.if-goes_on.ensures))
