use Rattle.std.proofs.Common.{sym, subst, Some}
use Rattle.nal_term.specs.Trees.{term_tree}
use Rattle.proof_text.specs.ProofText.{BeginsWithOptionalTerm}
use Rattle.proof_text.specs.Inner.Reading.{Reads, NoForm}
use Rattle.proof_text.proofs.HeadParts.{optional_reads, no_optional}
use Rattle.proof_text.proofs.heads.optional_term.Goals as goal

pub returns-in-Ok-None : goal.returns-in-Ok-None
returns-in-Ok-None c =
    subst (λ t. NoForm (BeginsWithOptionalTerm t c.args.text.now)) (sym c.if-not-takes.false)
    (no_optional c.args.text.now (rw c.in-Ok-None.field-0-is at c.in-Ok-None.ensures))

pub returns-in-Ok-Some : goal.returns-in-Ok-Some
returns-in-Ok-Some c =
    subst (λ t. Reads (BeginsWithOptionalTerm t c.args.text.now) (Some (term_tree c.in-Ok-Some.term)) c.in-Ok-Some.rest.now) (sym c.if-not-takes.false)
    (optional_reads c.args.text.now (term_tree c.in-Ok-Some.term) c.in-Ok-Some.rest.now (rw c.in-Ok-Some.field-0-is at c.in-Ok-Some.ensures))
