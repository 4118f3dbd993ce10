use Rattle.std.proofs.Common.{sym, ◌∙◌, arith}
use Rattle.std.proofs.lemmas.Bool.{ltb-true}
use Rattle.proof_check.proofs.Reached.{column_at, column_past}
use Rattle.proof_check.proofs.hypothesis_sets.rests_on.Goals as goal

pub returns-then-number-sets : goal.returns-then-number-sets
returns-then-number-sets c =
    let right = c.requires.sets c.args.hypothesis c.args.number in
    let same = column_at c.args.sets.now c.args.number c.args.hypothesis _ c.if-number-sets.true ∙ sym c.holds.ensures in
    (λ t. right.0 (same ∙ t), λ r. sym same ∙ right.1 r)

pub returns-else-number-sets : goal.returns-else-number-sets
returns-else-number-sets c =
    let right = c.requires.sets c.args.hypothesis c.args.number in
    let past = c.if-number-sets.false in
    let none = column_past c.args.sets.now c.args.number c.args.hypothesis past in (
      λ t. let low = ltb-true c.args.number _ t in absurd (omega (arith, past, low)),
      λ r. let some = right.1 r in absurd (cc (none, some)),
    )
