use Rattle.session_core.proofs.BoardGoing.{gone_given_up}
use Rattle.session_core.proofs.board_serving.SharingSitting.give_up.Goals as goal

pub returns-clause-told : goal.returns-clause-told
returns-clause-told g c = λ first book_first book panel_first panel request wants requests replies told. gone_given_up _ _ _ _ _ _ _ _ requests replies request wants told
