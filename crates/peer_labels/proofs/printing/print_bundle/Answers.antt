use Rattle.std.proofs.Common.{◌≤◌, [], ◌∷◌, ◌++◌, length, map, sym, ap, ◌∙◌, subst, arith, append_assoc}
use Rattle.std.specs.List.{flat_map}
use Rattle.std.proofs.lemmas.List.{length-map}
use Rattle.std.proofs.lemmas.List.Elements.{All-cons, All-nil, All-same}
use Rattle.nal_term.specs.Trees.{formula_tree}
use Rattle.nal_parse.specs.Canonical.{IsSpellable}
use Rattle.label_store.specs.LabelRows.{labels_of}
use Rattle.policy_history.specs.Events.{entry_tree}
use Rattle.policy_history.specs.Values.{entry_trees, state_after}
use Rattle.run_streams.specs.Runs.{most_bytes}
use Rattle.peer_labels.specs.Bundles.{IsBundle}
use Rattle.peer_labels.proofs.HeldLabels.{held_labels, label_line}
use Rattle.peer_labels.proofs.LabelLines.{bundle_led, bundle_short, next_label, no_label, whole_text}
use Rattle.peer_labels.proofs.printing.print_bundle.Goals as goal

pub loop-label-preserved : goal.loop-label-preserved
loop-label-preserved c =
    let i = c.loop-label.invariant in
    let f = formula_tree c.in-Some.label.now in
    let rest = map formula_tree c.next.new.self in
    let all = next_label (map formula_tree c.loop-label.labels) rest f c.in-Some.ensures.label c.in-Some.ensures.rest in
    record {
      text = ap (λ t. t ++ flat_map label_line rest) c.in_ok-push_label.ensures.text ∙ append_assoc c.loop-label.text (label_line f) (flat_map label_line rest)
          ∙ ap (λ fs. c.loop-label.text ++ flat_map label_line fs) (sym all) ∙ i.text;
      spellable = λ each. i.spellable (All-same IsSpellable (map formula_tree c.loop-label.labels) (f ∷ rest) all (All-cons IsSpellable f rest c.in_ok-push_label.ensures.spellable each));
    }

pub returns : goal.returns
returns c =
    let entries = c.args.journal.now.entries in
    let left = map formula_tree c.loop-label.labels in
    let labels = labels_of (state_after c.args.journal.now).labels c.args.holder in
    let i = c.loop-label.invariant in
    let none = no_label left c.in_default.ensures.label in
    let text = whole_text c.loop-label.text c.extend.new.self left labels none i.text c.in_ok-extend.ensures.ok in
    let count = c.count-entries.ensures in
    let short : length (entry_trees entries) ≤ 262144 = omega (arith, length-map entries entry_tree, count.count, count.bound) in
    let held = held_labels c.args.journal.now.head (entry_trees entries) c.args.holder count.legal short in
    let spellable = i.spellable (All-same IsSpellable left [] none (All-nil IsSpellable)) in
    record {
      text = text;
      read_again = subst (λ t. IsBundle t labels) (sym text) (bundle_led labels held spellable);
      short = subst (λ t. length t ≤ most_bytes) (sym text) (bundle_short labels held);
    }
