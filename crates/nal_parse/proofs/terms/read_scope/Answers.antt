use Rattle.std.proofs.Common.{◌∙◌, [], ap, sym, subst, arith}
use Rattle.nal_parse.specs.Tokens.{lexeme_of}
use Rattle.nal_parse.specs.Grammar.{ReadsName, ReadsScope}
use Rattle.nal_parse.specs.Inner.Reading.{anything, IsStopped, ReadsHere, ReadsMore}
use Rattle.nal_parse.proofs.Fronts.{cut_on, first, well_formed}
use Rattle.nal_parse.proofs.Readings.{step_reading, at_level}
use Rattle.nal_parse.proofs.TokenLexemes.{no_open, no_name}
use Rattle.nal_parse.proofs.ScopeReadings.{scope_one, scope_several, scope_nothing, scope_too_deep}
use Rattle.nal_parse.proofs.terms.read_scope.Goals as goal

pub returns-in-Ok-clause-reading : goal.returns-in-Ok-clause-reading
returns-in-Ok-clause-reading c =
    let front = c.args.reader.now.front in
    let name = cut_on front (ap lexeme_of c.in-Name.is) c.advance.ensures.text in
    let ok = well_formed front (ap lexeme_of c.in-Name.is) in
    subst (λ ns. ReadsHere anything ReadsScope c.args.levels c.args.reader.now.text.now ns c.advance.new.self.text.now) (sym c.in-Ok.ensures) (scope_one c.args.levels c.args.reader.now.text.now c.in-Name.name.now ok name)

pub returns-else-levels-eq0-clause-reading : goal.returns-else-levels-eq0-clause-reading
returns-else-levels-eq0-clause-reading c =
    let cut = cut_on c.args.reader.now.front (ap lexeme_of c.in-Open.is) c.advance-in-Open.ensures.text in
    step_reading (scope_several c.args.levels c.args.reader.now.text.now cut (omega arith)) (λ s. s) c.read_names.new.reader.text.now c.read_names.result
    (at_level (λ s. s) anything (ReadsMore ReadsName []) (λ m k bytes a rest r. r) 0 _ _ c.read_names.new.reader.text.now c.read_names.result c.read_names.ensures.reading)

pub returns-then-levels-eq0-clause-reading : goal.returns-then-levels-eq0-clause-reading
returns-then-levels-eq0-clause-reading c =
    subst (λ n. IsStopped anything ReadsScope n c.args.reader.now.text.now c.too_deep.result) (sym c.if-levels-eq0.true)
    (scope_too_deep c.args.reader.now.text.now (first c.args.reader.now.front ∙ ap lexeme_of c.in-Open.is) c.too_deep.result c.too_deep.ensures)

pub returns-in_default : goal.returns-in_default
returns-in_default c = record {
  reading = scope_nothing c.args.levels c.args.reader.now.text.now _ (first c.args.reader.now.front) (no_name _ c.in_default.not-Name) (no_open _ c.in_default.not-Open) _ c.stop.ensures;
  shorter = tt;
}
