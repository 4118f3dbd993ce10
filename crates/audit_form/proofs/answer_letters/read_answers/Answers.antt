use Rattle.audit_form.proofs.AnswerLetters.{given_some}
use Rattle.audit_form.proofs.answer_letters.read_answers.Goals as goal

pub returns-in-None : goal.returns-in-None
returns-in-None c = λ a t.
    let g = given_some c.args.text.now a t (λ q. let yes = c.is_text.ensures.1 q in let no = c.if-is_text.false in cc (yes, no)) (λ q. let yes = c.is_text-2.ensures.1 q in let no = c.if-is_text-2.false in cc (yes, no)) in
    c.in-None.ensures g.0 g.1
