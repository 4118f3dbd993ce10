use Rattle.std.proofs.Common.{sym, subst, ◌∙◌, option_map}
use Rattle.nal_term.specs.Trees.{term_tree}
use Rattle.proof_text.specs.ProofText.{BeginsWithOptionalTerm}
use Rattle.proof_text.specs.Inner.Reading.{Reads, NoForm}
use Rattle.proof_text.proofs.HeadParts as parts
use Rattle.proof_text.proofs.heads.head.Goals as goal

pub returns-in_default : goal.returns-in_default
returns-in_default c = λ v r h. c.in_default.ensures v.number h.after_number h.number

pub returns-in-None : goal.returns-in-None
returns-in-None c =
    let term = subst (λ t. Reads (BeginsWithOptionalTerm t c.in-Some-references.after_references.now) (option_map term_tree c.in-Ok-Some.term) c.in-Ok-Some.after_term.now) c.takes_term.ensures
    (rw c.in-Ok-Some.field-0-is at c.in-Ok-Some.ensures) in
    parts.no_colon c.args.segment.now c.in-Some.number c.in-Some.after_number.now c.in-Some.ensures c.run.result.0.now c.run.result.1.now c.run.ensures
    c.in-Some-rule_of.rule (sym c.rule_of.ensures ∙ c.in-Some-rule_of.is) c.in-Some-references.refs c.in-Some-references.after_references.now c.in-Some-references.ensures
    (option_map term_tree c.in-Ok-Some.term) c.in-Ok-Some.after_term.now term c.in-None.ensures

pub returns-in-Some-after_colon : goal.returns-in-Some-after_colon
returns-in-Some-after_colon c =
    let term = subst (λ t. Reads (BeginsWithOptionalTerm t c.in-Some-references.after_references.now) (option_map term_tree c.in-Ok-Some.term) c.in-Ok-Some.after_term.now) c.takes_term.ensures
    (rw c.in-Ok-Some.field-0-is at c.in-Ok-Some.ensures) in
    parts.head_reads c.args.segment.now c.in-Some.number c.in-Some.after_number.now c.in-Some.ensures c.run.result.0.now c.run.result.1.now c.run.ensures
    c.in-Some-rule_of.rule (sym c.rule_of.ensures ∙ c.in-Some-rule_of.is) c.in-Some-references.refs c.in-Some-references.after_references.now c.in-Some-references.ensures
    (option_map term_tree c.in-Ok-Some.term) c.in-Ok-Some.after_term.now term c.in-Some-after_colon.text.now c.in-Some-after_colon.ensures

pub returns-in_default-rule_of : goal.returns-in_default-rule_of
returns-in_default-rule_of c =
    parts.no_rule c.args.segment.now c.in-Some.number c.in-Some.after_number.now c.in-Some.ensures c.run.result.0.now c.run.result.1.now c.run.ensures
    (sym c.rule_of.ensures ∙ c.in_default-rule_of.is)

pub returns-in_default-references : goal.returns-in_default-references
returns-in_default-references c =
    parts.no_references c.args.segment.now c.in-Some.number c.in-Some.after_number.now c.in-Some.ensures c.run.result.0.now c.run.result.1.now c.run.ensures
    c.in-Some-rule_of.rule (sym c.rule_of.ensures ∙ c.in-Some-rule_of.is) c.in_default-references.ensures

pub returns-in-Ok-None : goal.returns-in-Ok-None
returns-in-Ok-None c =
    let missing = subst (λ t. NoForm (BeginsWithOptionalTerm t c.in-Some-references.after_references.now)) c.takes_term.ensures
    (rw c.in-Ok-None.field-0-is at c.in-Ok-None.ensures) in
    parts.no_term c.args.segment.now c.in-Some.number c.in-Some.after_number.now c.in-Some.ensures c.run.result.0.now c.run.result.1.now c.run.ensures
    c.in-Some-rule_of.rule (sym c.rule_of.ensures ∙ c.in-Some-rule_of.is) c.in-Some-references.refs c.in-Some-references.after_references.now c.in-Some-references.ensures
    missing
