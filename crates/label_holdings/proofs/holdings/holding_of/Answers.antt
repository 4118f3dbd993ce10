use Rattle.std.proofs.Common.{◌<◌, length, None, refl, ap, ◌∙◌, arith}
use Rattle.std.proofs.lemmas.List.{length-map}
use Rattle.std.proofs.lemmas.Option.{slice_get-get_or}
use Rattle.policy_history.specs.Events.{entry_tree}
use Rattle.policy_history.specs.Values.{entry_trees}
use Rattle.nal_term.specs.Trees.{formula_tree}
use Rattle.label_holdings.proofs.Held.{held_by, none_at_all, none_first, none_more}
use Rattle.label_holdings.proofs.Journals.{entry_there}
use Rattle.label_holdings.proofs.holdings.holding_of.Goals as goal

pub loop-index-init : goal.loop-index-init
loop-index-init c = none_first c.args.journal.now.head (entry_trees c.args.journal.now.entries) c.count-legal.ensures.legal c.args.principal (formula_tree c.args.formula.now)

pub loop-index-preserved : goal.loop-index-preserved
loop-index-preserved c =
    let i = c.loop-index.index in
    let at = rw (c.as_slice-entries.ensures.value ∙ c.entries.ensures) at (entry_there c.as_slice-entries.result.now i c.index-entries-index.result c.loop-index-test.true c.index-entries-index.is) in
    let count = length-map c.args.journal.now.entries entry_tree in
    let same = ap length (c.as_slice-entries.ensures.value ∙ c.entries.ensures) in
    let within : i < length c.args.tenures.now = omega (arith, count, same, c.requires.tenures.count) in
    none_more c.args.journal.now.head (entry_trees c.args.journal.now.entries) c.count-legal.ensures.legal c.args.principal (formula_tree c.args.formula.now) i (entry_tree c.index-entries-index.result)
    _ at (c.requires.tenures.each i _ (slice_get-get_or c.args.tenures.now i (record { holder = None; received = 0 }) within)) c.loop-index.invariant (λ holds says. cc (c.holds.ensures.1 (holds, says), c.if-holds.false))

pub returns : goal.returns
returns c =
    let count = length-map c.args.journal.now.entries entry_tree in
    let same = ap length (c.as_slice-entries.ensures.value ∙ c.entries.ensures) in
    none_at_all c.args.journal.now.head (entry_trees c.args.journal.now.entries) c.count-legal.ensures.legal c.args.principal (formula_tree c.args.formula.now) (λ j low there. c.loop-index.invariant j (omega (arith, low, count, same)) there)

pub returns-then-holds : goal.returns-then-holds
returns-then-holds c =
    let i = c.loop-index.index in
    let at = rw (c.as_slice-entries.ensures.value ∙ c.entries.ensures) at (entry_there c.as_slice-entries.result.now i c.index-entries-index.result c.loop-index-test.true c.index-entries-index.is) in
    let count = length-map c.args.journal.now.entries entry_tree in
    let same = ap length (c.as_slice-entries.ensures.value ∙ c.entries.ensures) in
    let within : i < length c.args.tenures.now = omega (arith, count, same, c.requires.tenures.count) in
    let told = c.holds.ensures.0 c.if-holds.true in
    held_by c.args.journal.now.head (entry_trees c.args.journal.now.entries) c.count-legal.ensures.legal c.args.principal (formula_tree c.args.formula.now) i (entry_tree c.index-entries-index.result)
    _ at (c.requires.tenures.each i _ (slice_get-get_or c.args.tenures.now i (record { holder = None; received = 0 }) within)) _ refl refl told.0 told.1 c.loop-index.invariant
