use Rattle.nal_term.specs.Trees.{term_tree}
use Rattle.nal_parse.proofs.PrintedTerms.{term_text_spells}
use Rattle.nal_parse.proofs.printer.print_term.Goals as goal

pub returns-clause-spelled : goal.returns-clause-spelled
returns-clause-spelled c =
    rw (c.finish.ensures, c.in_ok-term.ensures.text, c.new-printer.ensures) (term_text_spells (term_tree c.args.t.now) c.in_ok-term.ensures.spellable)

pub returns-clause-read_again : goal.returns-clause-read_again
returns-clause-read_again c fits =
    rw (c.finish.ensures, c.in_ok-term.ensures.text, c.new-printer.ensures) (record {
      length_limit = fits;
      spelled = term_text_spells (term_tree c.args.t.now) c.in_ok-term.ensures.spellable;
      fits = fits;
    })
