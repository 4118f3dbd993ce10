use Rattle.nal_term.specs.Trees.{term_tree}
use Rattle.proof_text.proofs.HeadParts.{term_reads, no_term_text, no_bracket}
use Rattle.proof_text.proofs.heads.bracketed_term.Goals as goal

pub returns-in_default : goal.returns-in_default
returns-in_default c = no_bracket c.args.text.now c.in_default.ensures

pub returns-in-Ok : goal.returns-in-Ok
returns-in-Ok c =
    term_reads c.args.text.now c.in-Some.inner.now c.in-Some.rest.now c.in-Some.ensures (term_tree c.in-Ok.term) c.in-Ok.ensures.ok c.in-Ok.ensures.only

pub returns-in_default-error : goal.returns-in_default-error
returns-in_default-error c =
    no_term_text c.args.text.now c.in-Some.inner.now c.in-Some.rest.now c.in-Some.ensures (c.in-Err.ensures.err c.in_default-error.not-Memory)
