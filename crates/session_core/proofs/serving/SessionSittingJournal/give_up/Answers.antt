use Rattle.session_core.proofs.Alone.{alone_given_up}
use Rattle.session_core.proofs.serving.SessionSittingJournal.give_up.Goals as goal

pub returns-clause-told : goal.returns-clause-told
returns-clause-told g c = λ first book_first book panel_first panel request wants requests replies told. alone_given_up _ _ requests replies request wants told
