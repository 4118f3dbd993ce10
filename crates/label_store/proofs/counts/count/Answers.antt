use Rattle.std.proofs.Common.{◌≡◌, ap, arith, refl}
use Rattle.label_store.specs.Inner.Kept.{same_key}
use Rattle.label_store.proofs.HeldCounts.{same_key-Decides, counted_le, one_if}
use Rattle.label_store.proofs.counts.count.Goals as goal

pub add_one-requires-clause-fits : goal.add_one-requires-clause-fits
add_one-requires-clause-fits c =
    let key = c.args.key in
    let number = c.requires.one_less key in
    let own : one_if (same_key key key) ≡ 1 = ap one_if ((same_key-Decides key key).1 refl) in
    let most = counted_le c.args.rows.now.entries key in
    omega (arith, number, own, most, c.len-len.ensures.small, c.len-len.ensures.len)
