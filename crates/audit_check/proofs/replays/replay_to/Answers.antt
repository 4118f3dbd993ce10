use Rattle.std.proofs.Common.{◌≡◌, List, [], ◌∷◌, ◌++◌, Some, length, sym, ap, ◌∙◌, refl, subst, arith}
use Rattle.std.specs.List.{slice_get}
use Rattle.std.proofs.lemmas.Option.{slice_get-map, slice_get_read}
use Rattle.policy_history.specs.declared.events.Entry.{Entry}
use Rattle.policy_history.specs.declared.heads.Head.{Head}
use Rattle.policy_history.specs.Events.{EntryTree, entry_tree}
use Rattle.policy_history.specs.Machine.{IsAccepted, replay}
use Rattle.policy_history.specs.Values.{entry_trees}
use Rattle.policy_history.proofs.ForCallers.{accepted_at, take_one_more}
use Rattle.audit_check.proofs.replays.replay_to.Goals.{After-index-entries-index}
use Rattle.audit_check.proofs.replays.replay_to.Goals as goal

-- the entry that comes next
entry_here : (c : After-index-entries-index) → slice_get (entry_trees c.args.whole.now.entries) c.loop-index.index ≡ Some (entry_tree c.index-entries-index.result)
entry_here c =
    let same : c.as_slice-entries.result.now ≡ c.args.whole.now.entries = c.as_slice-entries.ensures.value ∙ c.entries.ensures in
    let read = slice_get_read c.as_slice-entries.result.now (length c.args.whole.now.entries) c.loop-index.index c.index-entries-index.result (ap length (sym same)) (omega arith) c.index-entries-index.is in
    let here : slice_get c.args.whole.now.entries c.loop-index.index ≡ Some c.index-entries-index.result = subst (λ (xs : List Entry). slice_get xs c.loop-index.index ≡ Some c.index-entries-index.result) same read in
    slice_get-map entry_tree c.args.whole.now.entries c.loop-index.index ∙ rw here refl

pub append_copy-requires : goal.append_copy-requires
append_copy-requires c =
    let whole = c.args.whole.now in
    let e = entry_tree c.index-entries-index.result in
    let es = entry_trees whole.entries in
    let accepted = accepted_at whole.head es c.loop-index.index e c.count-legal.ensures.legal (entry_here c) in
    subst (λ (x : Head). IsAccepted x (replay x (entry_trees c.loop-index.part.entries)) e) (sym c.loop-index.invariant.head)
    (subst (λ (xs : List EntryTree). IsAccepted whole.head (replay whole.head xs) e) (sym c.loop-index.invariant.entries) accepted)

pub loop-index-preserved : goal.loop-index-preserved
loop-index-preserved c =
    let d = (goal.at.loop-index-preserved c).After-index-entries-index in
    let e = entry_tree c.index-entries-index.result in
    let made = c.in_ok-append_copy.ensures in
    let count = c.loop-index.invariant.count in
    record {
      head = made.head ∙ c.loop-index.invariant.head;
      entries = made.entries ∙ ap (λ (xs : List EntryTree). xs ++ e ∷ []) c.loop-index.invariant.entries ∙ sym (take_one_more (entry_trees c.args.whole.now.entries) c.loop-index.index e (entry_here d));
      count = omega (arith, made.count, count);
    }
