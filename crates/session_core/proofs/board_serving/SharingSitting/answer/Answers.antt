use Rattle.session_core.proofs.BoardGoing.{gone_more}
use Rattle.session_core.proofs.Staying.{turn_stays}
use Rattle.session_core.proofs.board_serving.SharingSitting.answer.Goals as goal

pub returns-clause-told : goal.returns-clause-told
returns-clause-told g c = λ first book_first panel_first requests replies told.
    let e = c.answer-session.ensures in
    gone_more _ _ _ _ _ _ _ _ _ _ _ _ requests replies _ _ told e.turn e.asked e.noted (λ broken call. e.idle call broken) e.counted

pub returns-clause-stays : goal.returns-clause-stays
returns-clause-stays g c = turn_stays _ _ _ _ _ c.answer-session.ensures.turn
