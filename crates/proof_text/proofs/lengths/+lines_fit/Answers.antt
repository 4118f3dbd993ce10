use Rattle.std.proofs.Common.{refl}
use Rattle.proof_text.proofs.Fits.{first_fits, first_unfit}
use Rattle.proof_text.proofs.lengths.+lines_fit.Goals as goal

pub returns-then-line_fits : goal.returns-then-line_fits
returns-then-line_fits t c =
    first_fits c.in-Some.first.now c.in-Some.rest.now c.args.lines.now c.lines_fit.result c.in-Some.ensures.cases.0 (c.if-line_fits.ensures.0 refl) c.lines_fit.ensures

pub returns-else-line_fits : goal.returns-else-line_fits
returns-else-line_fits t c =
    first_unfit c.in-Some.first.now c.in-Some.rest.now c.args.lines.now c.line_fits.result c.in-Some.ensures.cases.0 c.if-line_fits.false c.line_fits.ensures
