use Rattle.audit_form.proofs.VerdictTexts.{through, wordless}
use Rattle.audit_form.proofs.verdict_texts.read_verdict.Goals as goal

pub returns-in-Some : goal.returns-in-Some
returns-in-Some c = through c.in-Some.word c.args.text.now c.in-Some.rest.now c.read_told.result c.in-Some.ensures c.read_told.ensures

pub returns-in-None : goal.returns-in-None
returns-in-None c = λ v t. wordless c.args.text.now v c.in-None.ensures t
