use Rattle.explain_form.proofs.answers.answer_to.Goals as goal

pub tell-told-requires : goal.tell-told-requires
tell-told-requires c = rw c.in_ok-part.ensures.head c.requires.principal

pub returns : goal.returns
returns c = rw (c.in_ok-part.ensures.head, c.in_ok-part.ensures.entries) at c.tell-told.ensures
