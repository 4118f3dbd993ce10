use Rattle.std.proofs.Common.{◌≡◌, ℕ, List, refl, sym, ap, ◌∙◌, arith}
use Rattle.policy_history.specs.Events.{event_tree, transfer, delete}
use Rattle.policy_history.specs.declared.events.Event.{Event}
use Rattle.policy_history.specs.declared.events.Event.TheVariants.{Delete, Transfer}
use Rattle.label_holdings.proofs.Journals.{deleted_fits, deleted_within, given_fits, given_within, over_deleted, over_given, over_left}
use Rattle.label_holdings.proofs.label_tenures.hand_over.Goals as goal

no_transfer : (v : Event) → ((x : ℕ) (to : List ℕ) → v ≡ Transfer x to → ⊥) → (k : ℕ) (to : List ℕ) → event_tree v ≡ transfer k to → ⊥
no_transfer (Transfer x to) never k name is = never x to refl
no_transfer _ never k to is = cc is

no_delete : (v : Event) → ((x : ℕ) → v ≡ Delete x → ⊥) → (k : ℕ) → event_tree v ≡ delete k → ⊥
no_delete (Delete x) never k is = never x refl
no_delete _ never k is = cc is

pub overflow_sub-place : goal.overflow_sub-place
overflow_sub-place c = (given_within c.args.journal.now.head c.args.journal.now.entries c.count-legal.ensures.legal c.args.index c.index-entry.result.now c.requires.within (rw c.entries.ensures at c.index-entry.ensures) _ _ (ap event_tree c.in-Transfer.is)).0

pub index-tenure-requires : goal.index-tenure-requires
index-tenure-requires c = omega (arith, given_fits c.args.journal.now.head c.args.journal.now.entries c.count-legal.ensures.legal c.args.index c.index-entry.result.now c.requires.within (rw c.entries.ensures at c.index-entry.ensures) c.args.tenures.now.items c.requires.before _ _ (ap event_tree c.in-Transfer.is))

pub index_mut-requires : goal.index_mut-requires
index_mut-requires c = omega (arith, given_fits c.args.journal.now.head c.args.journal.now.entries c.count-legal.ensures.legal c.args.index c.index-entry.result.now c.requires.within (rw c.entries.ensures at c.index-entry.ensures) c.args.tenures.now.items c.requires.before _ _ (ap event_tree c.in-Transfer.is))

pub overflow_sub-number : goal.overflow_sub-number
overflow_sub-number c = (deleted_within c.args.journal.now.head c.args.journal.now.entries c.count-legal.ensures.legal c.args.index c.index-entry.result.now c.requires.within (rw c.entries.ensures at c.index-entry.ensures) _ (ap event_tree c.in-Delete.is)).0

pub index_mut-requires-in-Delete : goal.index_mut-requires-in-Delete
index_mut-requires-in-Delete c = omega (arith, deleted_fits c.args.journal.now.head c.args.journal.now.entries c.count-legal.ensures.legal c.args.index c.index-entry.result.now c.requires.within (rw c.entries.ensures at c.index-entry.ensures) c.args.tenures.now.items c.requires.before _ (ap event_tree c.in-Delete.is))

pub returns-in-Transfer : goal.returns-in-Transfer
returns-in-Transfer c =
    let known = rw c.head.ensures at c.number_of-holder.ensures.number in
    over_given c.args.journal.now.head c.args.journal.now.entries c.count-legal.ensures.legal c.args.index c.index-entry.result.now c.requires.within (rw c.entries.ensures at c.index-entry.ensures) c.args.tenures.now.items c.requires.before
    _ _ c.index-tenure.result.now _ (ap event_tree c.in-Transfer.is) c.index-tenure.ensures (c.transferred.ensures.holder ∙ known)
    (λ same. c.transferred.ensures.kept (known ∙ same)) (λ apart. c.transferred.ensures.moved (λ same. apart (sym known ∙ same)))

pub returns-in-Delete : goal.returns-in-Delete
returns-in-Delete c = over_deleted c.args.journal.now.head c.args.journal.now.entries c.count-legal.ensures.legal c.args.index c.index-entry.result.now c.requires.within (rw c.entries.ensures at c.index-entry.ensures) c.args.tenures.now.items c.requires.before _ _ (ap event_tree c.in-Delete.is) refl

pub returns-in_default : goal.returns-in_default
returns-in_default c =
    over_left c.args.journal.now.head c.args.journal.now.entries c.count-legal.ensures.legal c.args.index c.index-entry.result.now c.requires.within (rw c.entries.ensures at c.index-entry.ensures) c.args.tenures.now.items c.requires.before
    (no_transfer c.index-entry.result.now.event c.in_default.not-Transfer) (no_delete c.index-entry.result.now.event c.in_default.not-Delete)
