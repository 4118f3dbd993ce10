use Rattle.nal_term.specs.Trees.{formula_tree}
use Rattle.nal_parse.proofs.PrintedFormulas.{formula_text_spells}
use Rattle.nal_parse.proofs.printer.print_formula.Goals as goal

pub returns-clause-spelled : goal.returns-clause-spelled
returns-clause-spelled c =
    rw (c.finish.ensures, c.in_ok-formula.ensures.text, c.new-printer.ensures) (formula_text_spells (formula_tree c.args.f.now) c.in_ok-formula.ensures.spellable)

pub returns-clause-read_again : goal.returns-clause-read_again
returns-clause-read_again c fits =
    rw (c.finish.ensures, c.in_ok-formula.ensures.text, c.new-printer.ensures) (record {
      length_limit = fits.length_limit;
      spelled = formula_text_spells (formula_tree c.args.f.now) c.in_ok-formula.ensures.spellable 64 fits.level_limit;
      fits = fits;
    })
