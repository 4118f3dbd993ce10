use Rattle.session_core.proofs.Alone.{alone_more}
use Rattle.session_core.proofs.Staying.{outcome_stays}
use Rattle.session_core.proofs.serving.SessionSittingJournal.answer.Goals as goal

pub returns-clause-told : goal.returns-clause-told
returns-clause-told g c = λ first book_first panel_first requests replies told.
    let e = c.answer-reply.ensures in
    alone_more _ _ _ requests replies _ _ told e.outcome e.number e.head e.grows e.asked

pub returns-clause-stays : goal.returns-clause-stays
returns-clause-stays g c = outcome_stays _ _ _ _ _ _ c.answer-reply.ensures.outcome
