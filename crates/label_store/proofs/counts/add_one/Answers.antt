use Rattle.std.proofs.Common.{◌∙◌, sym, arith, ◌+◌}
use Rattle.indexmap.proofs.CallerLemmas.{index_map_len-with_value_at}
use Rattle.label_store.proofs.HeldCounts.{one_more_number}
use Rattle.label_store.proofs.counts.add_one.Goals as goal

pub returns-in-Some-clause-numbers : goal.returns-in-Some-clause-numbers
returns-in-Some-clause-numbers c =
    let found = c.in-Some.ensures in
    let at = sym c.get_index_of.ensures.index ∙ c.in-Some.is in
    let value = c.index_mut.ensures.value in
    one_more_number c.args.counts.now found.unique c.args.key c.in-Some.index c.index_mut.result.now at value (sym found.value ∙ value)

pub returns-in-Some-clause-len : goal.returns-in-Some-clause-len
returns-in-Some-clause-len c =
    let same = index_map_len-with_value_at c.args.counts.now c.in-Some.index (c.index_mut.result.now + 1) in
    omega (arith, same)

pub returns-in-Some-clause-room : goal.returns-in-Some-clause-room
returns-in-Some-clause-room c =
    let same = index_map_len-with_value_at c.args.counts.now c.in-Some.index (c.index_mut.result.now + 1) in
    omega (arith, same)
