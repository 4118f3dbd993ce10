use Rattle.session_wire.specs.declared.fields.Sort.TheVariants.{Name}
use Rattle.session_wire.proofs.Judging.{bad_field_at, fields_more}
use Rattle.session_wire.proofs.fields.judge.Goals as goal

pub returns-in-None : goal.returns-in-None
returns-in-None c =
    bad_field_at c.args.payload.now c.in-Some.body.now c.loop-sort.rest.now c.in-Some.kind.now c.in-Some-sorts_of_kind.sorts.now c.loop-sort.sort-index Name c.in-Some.ensures.cases.0
    c.in-Some-sorts_of_kind.ensures c.loop-sort-test.true c.loop-sort.invariant.fields c.loop-sort.invariant.within c.in-None.ensures

pub loop-sort-preserved : goal.loop-sort-preserved
loop-sort-preserved c =
    let more = fields_more c.in-Some-sorts_of_kind.sorts.now c.loop-sort.sort-index Name c.in-Some.body.now c.loop-sort.rest.now c.in-Some-after_field.more.now c.loop-sort-test.true
    c.loop-sort.invariant.fields c.loop-sort.invariant.within c.in-Some-after_field.ensures in
    record { fields = more.0; within = more.1 }
