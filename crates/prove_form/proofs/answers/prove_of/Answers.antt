use Rattle.prove_form.proofs.Following.{said_form}
use Rattle.prove_form.proofs.answers.prove_of.Goals as goal

pub answer-requires : goal.answer-requires
answer-requires c = said_form c.in_ok-read.ensures.ok.1
