use Rattle.std.proofs.Common.{◌∙◌, ap}
use Rattle.std.specs.List.{list_any}
use Rattle.proof_check.specs.Inner.LineSets.{column_of}
use Rattle.proof_check.specs.Inner.Rests.{reaches}
use Rattle.proof_check.proofs.Reached.{plain_leads}
use Rattle.proof_check.proofs.hypothesis_sets.hypotheses_through.Goals as goal

pub returns-in_default : goal.returns-in_default
returns-in_default c =
    λ h. let column = column_of c.args.sets.now h in
    c.through_all.ensures h ∙ ap (λ refs. list_any (reaches column c.args.number) refs) c.as_slice-refs.ensures.items ∙ plain_leads column h c.args.number c.args.line.now.rule c.args.line.now.refs c.in_default.not-OrE c.in_default.not-ImpI c.in_default.not-ExistsE
