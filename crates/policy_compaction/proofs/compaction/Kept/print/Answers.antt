use Rattle.std.proofs.Common.{◌≡◌, ◌-◌, ◌++◌, ap, ◌∙◌, get_or, arith}
use Rattle.std.proofs.lemmas.List.{length-map}
use Rattle.std.proofs.lemmas.Result.{on_ok_weaker}
use Rattle.policy_history.specs.declared.heads.Head.{Head}
use Rattle.policy_history.specs.Events.{event_tree, entry_tree, name_of}
use Rattle.policy_history.specs.PolicyLines.{entry_line}
use Rattle.policy_history.specs.Values.{entry_trees}
use Rattle.policy_compaction.specs.Kept.{kept}
use Rattle.policy_compaction.proofs.Counting.{length-kept_counts, moved_number}
use Rattle.policy_compaction.proofs.Printing.{kept_transfer, transferred}
use Rattle.policy_compaction.proofs.compaction.Kept.print.Goals as goal

pub offset_bounds-self-number : goal.offset_bounds-self-number
offset_bounds-self-number c =
    let low = c.requires.number c.in-Transfer.number c.in-Transfer.to (ap event_tree c.in-Transfer.is) in
    let long = length-map c.args.self.now.journal.now.entries entry_tree in
    omega (arith, low.1, long, c.count-count.ensures.count, c.count-count.ensures.bound)

pub bounds-self-number : goal.bounds-self-number
bounds-self-number c =
    let low = c.requires.number c.in-Transfer.number c.in-Transfer.to (ap event_tree c.in-Transfer.is) in
    let long = length-kept_counts (entry_trees c.args.self.now.journal.now.entries) c.args.self.now.counts.now c.args.self.now.counted in
    omega (arith, low.0, low.1, long)

pub returns-in-Transfer-clause-text : goal.returns-in-Transfer-clause-text
returns-in-Transfer-clause-text c =
    let h = c.args.self.now.journal.now.head in
    let ks = kept (entry_trees c.args.self.now.journal.now.entries) in
    let e = c.args.entry.now in
    let event = ap event_tree c.in-Transfer.is in
    let low = c.requires.number c.in-Transfer.number c.in-Transfer.to event in
    let number = moved_number (entry_trees c.args.self.now.journal.now.entries) c.args.self.now.counts.now c.args.self.now.counted c.in-Transfer.number low.0 low.1 in
    let named : c.name-name.result.now ≡ name_of h.principals e.principal = c.name-name.ensures ∙ ap (λ (g : Head). name_of g.principals e.principal) c.head.ensures in
    on_ok_weaker c.print_transfer.result
    (λ text. text ∙ (λ i.
    c.args.printer.now.text ++ entry_line e.session (named i)
    (transferred ks (event_tree e.event) c.in-Transfer.number (get_or c.args.self.now.counts.now (c.in-Transfer.number - 1) 0) c.in-Transfer.to event number i)))
    c.print_transfer.ensures.text

pub returns-in-Transfer-clause-kept : goal.returns-in-Transfer-clause-kept
returns-in-Transfer-clause-kept c =
    let ks = kept (entry_trees c.args.self.now.journal.now.entries) in
    let e = c.args.entry.now in
    let event = ap event_tree c.in-Transfer.is in
    let low = c.requires.number c.in-Transfer.number c.in-Transfer.to event in
    let number = moved_number (entry_trees c.args.self.now.journal.now.entries) c.args.self.now.counts.now c.args.self.now.counted c.in-Transfer.number low.0 low.1 in
    on_ok_weaker c.print_transfer.result
    (λ known. kept_transfer ks (entry_tree e) c.in-Transfer.number (get_or c.args.self.now.counts.now (c.in-Transfer.number - 1) 0) c.in-Transfer.to event number known)
    c.print_transfer.ensures.kept
