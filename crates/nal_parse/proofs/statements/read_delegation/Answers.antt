use Rattle.std.proofs.Common.{List, ℕ, [], Err, refl, sym, subst}
use Rattle.nal_term.specs.Trees.{term_tree}
use Rattle.nal_term.specs.Trees as tree
use Rattle.nal_parse.specs.Grammar.{ReadsScope}
use Rattle.nal_parse.specs.Inner.Reading.{ReadsDelegation, ReadsHere, Terms, anything, ends_term, ends_unary}
use Rattle.nal_parse.proofs.Fronts.{cut_on, first}
use Rattle.nal_parse.proofs.Readings.{step_reads, step_stopped, made_reads, made_handed, handed_stop, narrow_reads, narrow_reading, at_level}
use Rattle.nal_parse.proofs.StatementReadings.{delegation_handed, delegation_ends, delegation_on}
use Rattle.nal_parse.proofs.statements.read_delegation.Goals as goal

pub returns-in-Err-clause-reading : goal.returns-in-Err-clause-reading
returns-in-Err-clause-reading c =
    handed_stop c.args.reader.now.text.now (delegation_handed (term_tree c.args.delegate) c.args.levels) c.in-Err.stop
    (at_level term_tree ends_term Terms (λ m k bytes a rest r. r) 0 c.args.levels c.args.reader.now.text.now [] (Err c.in-Err.stop) c.in-Err.ensures.reading)

pub returns-in-Ok-leaf-clause-reading : goal.returns-in-Ok-leaf-clause-reading
returns-in-Ok-leaf-clause-reading c =
    subst (λ f. ReadsHere ends_unary (ReadsDelegation (term_tree c.args.delegate)) c.args.levels c.args.reader.now.text.now f c.read_term.new.reader.text.now) (sym c.in-Ok-leaf.ensures)
    (delegation_ends (term_tree c.args.delegate) c.args.levels c.args.reader.now.text.now _ _ c.in-Ok.ensures.reading _ (first c.read_term.new.reader.front) (λ e. let h = c.if-not-is.ensures.1 e in cc))

pub returns-in-Ok-leaf-2-clause-reading : goal.returns-in-Ok-leaf-2-clause-reading
returns-in-Ok-leaf-2-clause-reading c =
    let cut = cut_on c.read_term.new.reader.front (c.if-not-is.ensures.0 refl) c.advance.ensures.text in
    step_reads (delegation_on (term_tree c.args.delegate) c.args.levels c.args.reader.now.text.now (term_tree c.in-Ok.delegator) c.read_term.new.reader.text.now c.in-Ok.ensures.reading c.advance.new.self.text.now cut)
    (made_reads (λ s. tree.speaks_for_on (term_tree c.args.delegate) (term_tree c.in-Ok.delegator) s) _ c.in-Ok-leaf-2.ensures (narrow_reads (λ l e. refl) c.in-Ok-read_scope.ensures.reading))

pub returns-in-Err-read_scope-clause-reading : goal.returns-in-Err-read_scope-clause-reading
returns-in-Err-read_scope-clause-reading c =
    let cut = cut_on c.read_term.new.reader.front (c.if-not-is.ensures.0 refl) c.advance.ensures.text in
    step_stopped (delegation_on (term_tree c.args.delegate) c.args.levels c.args.reader.now.text.now (term_tree c.in-Ok.delegator) c.read_term.new.reader.text.now c.in-Ok.ensures.reading c.advance.new.self.text.now cut)
    c.in-Err-read_scope.stop
    (handed_stop c.advance.new.self.text.now (made_handed (λ s. tree.speaks_for_on (term_tree c.args.delegate) (term_tree c.in-Ok.delegator) s) ends_unary ReadsScope c.args.levels) c.in-Err-read_scope.stop
    (narrow_reading {T = List (List ℕ)} (λ s. s) anything ends_unary ReadsScope c.args.levels c.advance.new.self.text.now [] (Err c.in-Err-read_scope.stop) (λ l e. refl) c.in-Err-read_scope.ensures.reading))
