use Rattle.std.proofs.Common.{refl, sym}
use Rattle.nal_term.specs.Trees.{term_tree}
use Rattle.nal_parse.proofs.Fronts.{cut_on, first}
use Rattle.nal_parse.proofs.Readings.{step_reading, step_reads}
use Rattle.nal_parse.proofs.TermReadings.{parts_end, term_first, term_not_end, term_nothing}
use Rattle.nal_parse.proofs.TokenLexemes.{no_dot}
use Rattle.nal_parse.proofs.terms.read_term.Goals as goal

pub returns-in_default : goal.returns-in_default
returns-in_default c =
    let f = rw c.in-Ok-Some.field-0-is at c.in-Ok-Some.ensures in
    let front = c.args.reader.now.front in
    record {
      reading = step_reads (term_first _ (cut_on front refl c.advance.ensures.text) (sym f) front.form)
          (parts_end (term_tree c.in-Ok-Some.first) _ _ (first c.advance.new.self.front) (no_dot _ c.in_default.not-Dot));
      shorter = c.advance.ensures.shorter (term_not_end _ (sym f));
    }

pub returns-in-Dot-clause-reading : goal.returns-in-Dot-clause-reading
returns-in-Dot-clause-reading c =
    let f = rw c.in-Ok-Some.field-0-is at c.in-Ok-Some.ensures in
    let front = c.args.reader.now.front in
    step_reading (term_first _ (cut_on front refl c.advance.ensures.text) (sym f) front.form) term_tree c.read_parts.new.reader.text.now c.read_parts.result c.read_parts.ensures.reading

pub returns-in-Ok-None-clause-reading : goal.returns-in-Ok-None-clause-reading
returns-in-Ok-None-clause-reading c =
    let f = rw c.in-Ok-None.field-0-is at c.in-Ok-None.ensures in
    term_nothing c.args.reader.now.text.now _ (first c.args.reader.now.front) (sym f) _ c.stop.ensures
