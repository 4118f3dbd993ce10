use Rattle.std.proofs.Common.{◌≡◌, length, get_or, arith, subst}
use Rattle.std.proofs.lemmas.Option.{slice_get-get_or}
use Rattle.std.proofs.lemmas.List.Sorted.{IsNonDecreasingBy-from_sort_by_key}
use Rattle.std.proofs.Common.{rules}
use Rattle.audit_check.specs.declared.audits.Place.{Place}
use Rattle.audit_check.proofs.Ordered.{ArePlaces, one_placed, ordered}
use Rattle.audit_check.proofs.audits.in_order.Goals as goal

pub loop-index-preserved : goal.loop-index-preserved
loop-index-preserved c =
    let r = get_or c.args.records.now c.loop-index.index c.index-records-index.result in
    let here = slice_get-get_or c.args.records.now c.loop-index.index c.index-records-index.result c.loop-index-test.true in
    rw c.in_ok-push.ensures.items (one_placed c.args.records.now c.loop-index.places.items c.loop-index.index r c.loop-index.invariant here)

pub returns : goal.returns
returns c =
    let all : c.loop-index.index ≡ length c.args.records.now = omega (arith, c.loop-index-test.false, c.loop-index.auto.index-end) in
    ordered c.args.records.now c.loop-index.places.items c.sort_unstable_by_key.new.self.items
    (subst (ArePlaces c.args.records.now c.loop-index.places.items) all c.loop-index.invariant)
    c.sort_unstable_by_key.ensures.permutation
    (IsNonDecreasingBy-from_sort_by_key (λ (p : Place). p.at) _ c.sort_unstable_by_key.ensures.sorted (λ a r q k. search rules))
