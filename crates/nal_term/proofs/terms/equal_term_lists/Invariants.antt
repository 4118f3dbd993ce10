use Rattle.nal_term.proofs.terms.equal_term_lists.Given as goal

abbrev pub ghosts-equal_term_lists_uncounted : goal.ghosts-equal_term_lists_uncounted
ghosts-equal_term_lists_uncounted a = record { name = a.blank.name; parts = a.blank.parts }
