use Rattle.std.proofs.Common.{◌∙◌, sym, ap, arith, ◌+◌, ◌&&◌, cond, take, length-take}
use Rattle.label_store.specs.Inner.Kept.{same_key, counted}
use Rattle.label_store.proofs.HeldCounts.{key_of, one_if, counted_more, counted_le}
use Rattle.label_store.proofs.counts.recount.Goals.{then-row, else-row}
use Rattle.label_store.proofs.counts.recount.Goals as goal

pub add_one-requires-clause-fits : goal.add_one-requires-clause-fits
add_one-requires-clause-fits c =
    let w = c.index-row.result.now in
    let first = take c.loop-place.place c.args.rows.now.entries in
    let number = c.loop-place.invariant.0 (key_of w) in
    let most = counted_le first (key_of w) in
    let taken = length-take c.loop-place.place c.args.rows.now.entries in
    omega (arith, number, most, taken, c.len-place-end.ensures.small, c.len-place-end.ensures.len)

pub loop-place-preserved : goal.loop-place-preserved
loop-place-preserved c =
    let invariant = c.loop-place.invariant in
    let w = c.index-row.result.now in
    let more = counted_more c.args.rows.now.entries c.loop-place.place w c.index-row.ensures in
    elim c.if-row.branch [
      | then-row v ↦
          let one = v.add_one.ensures in
          rw v.counts-is ((
            λ k. one.numbers k ∙ ap (λ n. n + cond (same_key (key_of w) k) 1 0) (invariant.0 k) ∙ sym (more k ∙ ap (λ b. counted (take c.loop-place.place c.args.rows.now.entries) k + one_if (b && same_key (key_of w) k)) v.if-row.true),
            omega (arith, invariant.1, one.len),
            omega (arith, invariant.2, one.room),
            invariant.3,
          ))
      | else-row v ↦
          rw v.counts-is ((
            λ k. invariant.0 k ∙ sym (more k ∙ ap (λ b. counted (take c.loop-place.place c.args.rows.now.entries) k + one_if (b && same_key (key_of w) k)) v.if-row.false ∙ omega arith),
            omega (arith, invariant.1),
            invariant.2,
            invariant.3,
          ))
    ]
