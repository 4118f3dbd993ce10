use Rattle.std.proofs.Common.{get_or, sym, subst, arith}
use Rattle.std.proofs.lemmas.Option.{get_or_from_slice_get, slice_get-get_or, slice_get_within}
use Rattle.std.proofs.lemmas.List.{length-map}
use Rattle.policy_history.specs.Events.{entry_tree}
use Rattle.audit_check.specs.Audits.{IsWithin}
use Rattle.audit_check.specs.Beginnings.{IsBeginning}
use Rattle.audit_check.proofs.audits.lowest_wrong.Goals.{After-nth-recorded, else-not-branch, then-not-branch}
use Rattle.policy_history.specs.Values.{entry_trees}
use Rattle.audit_check.specs.declared.audits.Place.{Place}
use Rattle.audit_check.proofs.Ordered.{one_right, one_wrong, place_of, point_is, right_below, right_in, right_out, rises}
use Rattle.audit_check.proofs.audits.lowest_wrong.Goals as goal

pub nth-recorded-requires : goal.nth-recorded-requires
nth-recorded-requires c =
    let p = get_or c.args.places.now c.loop-place.place-index (record { at = 0; index = 0 }) in
    let at = slice_get-get_or c.args.places.now c.loop-place.place-index (record { at = 0; index = 0 }) c.loop-place-test.true in
    let q = place_of c.args.records.now c.args.places.now c.loop-place.place-index p c.requires.order at in
    slice_get_within c.args.records.now p.index q.0 q.1

pub replay_to-requires-clause-later : goal.replay_to-requires-clause-later
replay_to-requires-clause-later c =
    let d : Place = record { at = 0; index = 0 } in
    let p = get_or c.args.places.now c.loop-place.place-index d in
    let at = slice_get-get_or c.args.places.now c.loop-place.place-index d c.loop-place-test.true in
    let point = point_is c.args.records.now c.args.places.now c.loop-place.place-index p c.nth-recorded.result.now c.requires.order at c.nth-recorded.ensures in
    let later = c.loop-place.invariant.1 c.loop-place.place-index d (omega arith) c.loop-place-test.true in
    rw point at later

-- the record is one of the journal and of its principals
within_is : (c : After-nth-recorded) → IsWithin c.args.whole.now.head (entry_trees c.args.whole.now.entries) c.nth-recorded.result.now
within_is c =
    let i = (get_or c.args.places.now c.loop-place.place-index (record { at = 0; index = 0 })).index in
    let r = c.nth-recorded.result.now in
    subst (IsWithin c.args.whole.now.head (entry_trees c.args.whole.now.entries)) (get_or_from_slice_get c.args.records.now i r r c.nth-recorded.ensures)
    (c.requires.within i r (slice_get_within c.args.records.now i r c.nth-recorded.ensures))

pub replay_to-requires-clause-within : goal.replay_to-requires-clause-within
replay_to-requires-clause-within c =
    let w = within_is (goal.at.replay_to-requires-clause-within c).After-nth-recorded in
    let point = w.point in
    let long = length-map c.args.whole.now.entries entry_tree in
    omega (arith, point, long)

pub is_right-requires : goal.is_right-requires
is_right-requires c =
    let w = within_is (goal.at.is_right-requires c).After-nth-recorded in
    rw c.in_ok-replay_to.ensures.head w.principal

pub loop-place-preserved : goal.loop-place-preserved
loop-place-preserved c =
    let d0 : Place = record { at = 0; index = 0 } in
    let p = get_or c.args.places.now c.loop-place.place-index d0 in
    let r = c.nth-recorded.result.now in
    let at = slice_get-get_or c.args.places.now c.loop-place.place-index d0 c.loop-place-test.true in
    let point = point_is c.args.records.now c.args.places.now c.loop-place.place-index p r c.requires.order at c.nth-recorded.ensures in
    let begun = c.in_ok-replay_to.ensures in
    let count = begun.count in
    let h = c.args.whole.now.head in
    let es = entry_trees c.args.whole.now.entries in (
      subst (IsBeginning c.replay_to.new.part c.args.whole.now) (sym count) begun,
      λ j d low below.
          let rise = rises c.args.records.now c.args.places.now c.loop-place.place-index p c.requires.order at j d (omega (arith, low)) below in
          omega (arith, rise, count, point),
      elim c.if-not-branch.branch [
        | then-not-branch w ↦
            rw w.lowest-is (rw w.min-lowest.ensures (one_wrong h es c.args.records.now c.args.places.now c.loop-place.place-index c.loop-place.lowest p r c.loop-place.invariant.2 at c.nth-recorded.ensures
            (λ right. let yes = c.in_ok-is_right.ensures.1 (right_out c.replay_to.new.part c.args.whole.now r begun right) in let no = w.if-not-branch.true in absurd (cc (yes, no)))))
        | else-not-branch w ↦
            rw w.lowest-is (one_right h es c.args.records.now c.args.places.now c.loop-place.place-index c.loop-place.lowest p r c.loop-place.invariant.2 at c.nth-recorded.ensures
            (right_in c.replay_to.new.part c.args.whole.now r begun (c.in_ok-is_right.ensures.0 w.if-not-branch.false)))
      ],
    )

pub returns-clause-wrong : goal.returns-clause-wrong
returns-clause-wrong c = c.loop-place.invariant.2.wrong

pub returns-clause-right : goal.returns-clause-right
returns-clause-right c =
    right_below c.args.whole.now.head (entry_trees c.args.whole.now.entries) c.args.records.now c.args.places.now c.loop-place.place-index c.loop-place.lowest
    c.requires.order c.loop-place-test.false c.loop-place.invariant.2
