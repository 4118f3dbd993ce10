use Rattle.std.proofs.Common.{ap, arith}
use Rattle.nal_term.specs.Trees.{term_tree}
use Rattle.nal_parse.specs.Tokens.{lexeme_of}
use Rattle.nal_parse.specs.Inner.Reading.{Parts}
use Rattle.nal_parse.proofs.Fronts.{cut_on, first, well_formed}
use Rattle.nal_parse.proofs.Readings.{no_step, step_reads, step_stopped, steps}
use Rattle.nal_parse.proofs.TermReadings.{parts_end, parts_dot, parts_no_name}
use Rattle.nal_parse.proofs.TokenLexemes.{no_dot, no_name}
use Rattle.nal_parse.proofs.terms.read_parts.Goals as goal

pub loop-reader-init : goal.loop-reader-init
loop-reader-init c = record { step = no_step (Parts (term_tree c.args.first)) 0 c.args.reader.now.text.now; within = omega arith }

pub returns-in_default-token : goal.returns-in_default-token
returns-in_default-token c =
    let dot = cut_on c.loop-reader.reader.front (ap lexeme_of c.in-Dot.is) c.advance.ensures.text in
    record {
      reading = step_stopped c.loop-reader.invariant.step c.stop.result
          (parts_no_name (term_tree c.loop-reader.term) _ _ dot _ (first c.advance.new.self.front) (no_name _ c.in_default-token.not-Name) _ c.stop.ensures);
      bound = tt;
    }

pub loop-reader-preserved : goal.loop-reader-preserved
loop-reader-preserved c =
    let dot = cut_on c.loop-reader.reader.front (ap lexeme_of c.in-Dot.is) c.advance.ensures.text in
    let name = cut_on c.advance.new.self.front (ap lexeme_of c.in-Name.is) c.advance-in-Dot.ensures.text in
    let ok = well_formed c.advance.new.self.front (ap lexeme_of c.in-Name.is) in
    let part = parts_dot (term_tree c.loop-reader.term) c.in-Name.name.now ok dot name in
    record {
      step = steps c.loop-reader.invariant.step (rw c.in-Ok.ensures part);
      within = omega (arith, c.loop-reader.invariant.within, c.advance.ensures.bound, c.advance-in-Dot.ensures.bound);
    }

pub returns : goal.returns
returns c = record {
  reading = step_reads c.loop-reader.invariant.step (parts_end (term_tree c.loop-reader.term) _ _ (first c.loop-reader.reader.front) (no_dot _ c.in_default.not-Dot));
  bound = omega (arith, c.loop-reader.invariant.within);
}
