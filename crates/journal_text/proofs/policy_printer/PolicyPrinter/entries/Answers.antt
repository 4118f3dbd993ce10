use Rattle.std.proofs.Common.{◌≡◌, ◌+◌, ◌++◌, ◌∷◌, [], take, take_all, ap, sym, ◌∙◌, arith, subst}
use Rattle.std.specs.List.{All, flat_map}
use Rattle.std.proofs.lemmas.List.{flat_map_more, map-append, take_more}
use Rattle.std.proofs.lemmas.List.Elements.{All-map, All-more}
use Rattle.policy_history.specs.declared.events.Entry.{Entry}
use Rattle.policy_history.specs.declared.heads.Head.{Head}
use Rattle.policy_history.specs.Events.{entry_tree, event_tree, name_of}
use Rattle.policy_history.specs.PolicyLines.{entry_line}
use Rattle.policy_history.specs.Values.{entry_trees}
use Rattle.policy_history.specs.States.{empty_state}
use Rattle.journal_text.specs.PolicyLaws.{IsKeptEntry}
use Rattle.policy_history.specs.PolicyTexts.{line_of}
use Rattle.journal_text.proofs.PolicyPrinting.{entry_known}
use Rattle.journal_text.proofs.policy_printer.PolicyPrinter.entries.Goals as goal

pub name-requires : goal.name-requires
name-requires c =
    let h = c.args.journal.now.head in
    let below = rw (c.deref-entry-items.ensures.value, c.entries.ensures) at c.loop-entry-test.true in
    rw (c.head.ensures, c.entry-item.is, c.deref-entry-items.ensures.value, c.entries.ensures)
    (entry_known h (empty_state h) c.args.journal.now.entries c.count-count.ensures.legal c.loop-entry.entry-index c.entry-item.result below)

pub loop-entry-preserved : goal.loop-entry-preserved
loop-entry-preserved c =
    let h = c.args.journal.now.head in
    let items = c.deref-entry-items.result.now in
    let k = c.loop-entry.entry-index in
    let e = c.entry-item.result in
    let named : c.name.result.now ≡ name_of h.principals e.principal = c.name.ensures ∙ ap (λ (g : Head). name_of g.principals e.principal) c.head.ensures in
    let next : entry_trees (take (k + 1) items) ≡ entry_trees (take k items) ++ entry_tree e ∷ [] =
    ap entry_trees (take_more items k e c.loop-entry-test.true ∙ ap (λ x. take k items ++ x ∷ []) (sym c.entry-item.is)) ∙ map-append entry_tree (take k items) (e ∷ []) in
    record {
      text = c.in_ok-entry.ensures.text ∙ ap (λ n. c.loop-entry.self.text ++ entry_line e.session n (event_tree e.event)) named
          ∙ ap (λ t. t ++ line_of h (entry_tree e)) c.loop-entry.invariant.text ∙ flat_map_more (line_of h) c.args.self.now.text (entry_trees (take k items)) (entry_tree e)
          ∙ sym (ap (λ xs. c.args.self.now.text ++ flat_map (line_of h) xs) next);
      kept = All-more (λ (x : Entry). IsKeptEntry (entry_tree x)) items k e c.loop-entry-test.true c.loop-entry.invariant.kept
          (subst (λ (x : Entry). IsKeptEntry (entry_tree x)) c.entry-item.is (record { session = c.in_ok-entry.ensures.kept.0; event = c.in_ok-entry.ensures.kept.1 }));
    }

pub returns-clause-kept : goal.returns-clause-kept
returns-clause-kept c =
    let items = c.deref-entry-items.result.now in
    let each = subst (All (λ (e : Entry). IsKeptEntry (entry_tree e))) (take_all c.loop-entry.entry-index items (omega (arith, c.loop-entry-test.false))) c.loop-entry.invariant.kept in
    rw (c.deref-entry-items.ensures.value, c.entries.ensures) at (All-map IsKeptEntry entry_tree items each)
