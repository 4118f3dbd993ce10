use Rattle.std.proofs.Common.{◌∙◌, refl, sym, subst}
use Rattle.nal_term.specs.Trees.{term_tree}
use Rattle.nal_term.specs.Trees as tree
use Rattle.nal_parse.specs.Inner.Reading.{ReadsHere, ReadsMade, ReadsRest, Terms, ends_unary, part_tree}
use Rattle.nal_parse.proofs.Fronts.{cut_on, first}
use Rattle.nal_parse.proofs.Readings.{at_level, step_reading}
use Rattle.nal_parse.proofs.StatementReadings.{no_predicate, rest_compared, rest_ends, rest_speaksfor, rest_stuck}
use Rattle.nal_parse.proofs.statements.read_judged.Goals as goal

pub returns-then-is-clause-reading : goal.returns-then-is-clause-reading
returns-then-is-clause-reading c =
    let cut = cut_on c.args.reader.now.front (c.if-is.ensures.0 refl) c.advance.ensures.text in
    step_reading (rest_speaksfor (term_tree c.args.term) c.args.levels c.args.reader.now.text.now cut) part_tree c.read_delegation.new.reader.text.now c.read_delegation.result c.read_delegation.ensures.reading

pub returns-in-Some-clause-reading : goal.returns-in-Some-clause-reading
returns-in-Some-clause-reading c =
    let cut = cut_on c.args.reader.now.front refl c.advance-in-Some.ensures.text in
    step_reading (rest_compared (term_tree c.args.term) c.args.levels c.args.reader.now.text.now _ cut (sym c.in-Some.ensures)) part_tree c.read_compared.new.reader.text.now c.read_compared.result
    (at_level part_tree ends_unary (ReadsMade (λ u. tree.test c.in-Some.compare (term_tree c.args.term) u) Terms) (λ m k bytes a rest r. r) 0 c.args.levels _ c.read_compared.new.reader.text.now c.read_compared.result c.read_compared.ensures.reading)

pub returns-in-Ok-clause-reading : goal.returns-in-Ok-clause-reading
returns-in-Ok-clause-reading c =
    let none = no_predicate _ c.requires (λ e. let h = c.if-is.ensures.1 e in cc) c.in-None.ensures in
    let name = c.in-Some-atom.ensures in
    subst (λ f. ReadsHere ends_unary (ReadsRest (term_tree c.args.term)) c.args.levels c.args.reader.now.text.now f c.args.reader.now.text.now) (sym (c.in-Ok.ensures ∙ name.2))
    (rest_ends (term_tree c.args.term) c.args.levels c.args.reader.now.text.now _ (first c.args.reader.now.front) none name.0 name.1)

pub returns-in-None-atom-clause-reading : goal.returns-in-None-atom-clause-reading
returns-in-None-atom-clause-reading c =
    let none = no_predicate _ c.requires (λ e. let h = c.if-is.ensures.1 e in cc) c.in-None.ensures in
    rest_stuck (term_tree c.args.term) c.args.levels c.args.reader.now.text.now _ (first c.args.reader.now.front) none c.in-None-atom.ensures _ c.stop.ensures
