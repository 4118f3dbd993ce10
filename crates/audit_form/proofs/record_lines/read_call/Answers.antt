use Rattle.std.proofs.Common.{◌≡◌, ◌<◌, ◌≤◌, ◌^◌, ℕ, length, refl, sym, ap, subst, ◌∙◌, arith}
use Rattle.std.proofs.lemmas.Fmt.{decimal_injective}
use Rattle.std.proofs.lemmas.List.{length-map}
use Rattle.nal_term.specs.Names.{IsName}
use Rattle.policy_history.specs.Events.{entry_tree, numbered}
use Rattle.policy_history.specs.Values.{History, entry_trees}
use Rattle.audit_form.proofs.RecordLines.{call_made, cut_in, one_call, words_in}
use Rattle.audit_form.proofs.record_lines.read_call.Goals as goal

short : (journal : History) (count : ℕ) → count ≡ length journal.entries → count ≤ 262144 → length (entry_trees journal.entries) < 2 ^ 64
short journal count is few = let long = length-map journal.entries entry_tree in omega (arith, is, few, long)

pub returns-in_default-clause-wrong : goal.returns-in_default-clause-wrong
returns-in_default-clause-wrong c = λ n other rest l.
    let journal = c.args.journal.now in
    c.in_default.ensures _ _ _ _ _ (words_in journal.head (entry_trees journal.entries) (short journal c.count-count.result c.count-count.ensures.count c.count-count.ensures.bound) c.args.line.now other rest l)

pub returns-in_default-read_number-clause-wrong : goal.returns-in_default-read_number-clause-wrong
returns-in_default-read_number-clause-wrong c = λ n other rest l.
    let journal = c.args.journal.now in
    let few = short journal c.count-count.result c.count-count.ensures.count c.count-count.ensures.bound in
    let w = cut_in journal.head (entry_trees journal.entries) few c.args.line.now other rest l _ _ _ _ _ c.in-Some.ensures in
    let point = l.point in
    c.in_default-read_number.ensures.none refl other.at (omega (arith, point, few)) w.at_is

pub returns-then-at-count-clause-wrong : goal.returns-then-at-count-clause-wrong
returns-then-at-count-clause-wrong c = λ n other rest l.
    let journal = c.args.journal.now in
    let few = short journal c.count-count.result c.count-count.ensures.count c.count-count.ensures.bound in
    let w = cut_in journal.head (entry_trees journal.entries) few c.args.line.now other rest l _ _ _ _ _ c.in-Some.ensures in
    let point = l.point in
    let long = length-map journal.entries entry_tree in
    let same : c.in-Some-read_number.at ≡ other.at = decimal_injective c.in-Some-read_number.at other.at (omega arith) (omega (arith, point, few)) (sym c.in-Some-read_number.ensures.value ∙ w.at_is) in
    omega (arith, same, point, long, c.count-count.ensures.count, c.if-at-count.true)

pub returns-in-Err-clause-wrong : goal.returns-in-Err-clause-wrong
returns-in-Err-clause-wrong c = λ n other rest l.
    let journal = c.args.journal.now in
    let few = short journal c.count-count.result c.count-count.ensures.count c.count-count.ensures.bound in
    let w = cut_in journal.head (entry_trees journal.entries) few c.args.line.now other rest l _ _ _ _ _ c.in-Some.ensures in
    c.in-Err.ensures.wrong n other.principal (subst IsName (sym w.name_is) l.named) (rw c.head.ensures (ap (numbered journal.head.principals) w.name_is ∙ l.principal))

pub returns-in-Err-name-clause-wrong : goal.returns-in-Err-name-clause-wrong
returns-in-Err-name-clause-wrong c = λ n other rest l.
    let journal = c.args.journal.now in
    let few = short journal c.count-count.result c.count-count.ensures.count c.count-count.ensures.bound in
    let w = cut_in journal.head (entry_trees journal.entries) few c.args.line.now other rest l _ _ _ _ _ c.in-Some.ensures in
    c.in-Err-name.ensures.wrong n (subst IsName (sym w.op_is) l.op)

pub returns-in-Err-name-2-clause-wrong : goal.returns-in-Err-name-2-clause-wrong
returns-in-Err-name-2-clause-wrong c = λ n other rest l.
    let journal = c.args.journal.now in
    let few = short journal c.count-count.result c.count-count.ensures.count c.count-count.ensures.bound in
    let w = cut_in journal.head (entry_trees journal.entries) few c.args.line.now other rest l _ _ _ _ _ c.in-Some.ensures in
    c.in-Err-name-2.ensures.wrong n (subst IsName (sym w.object_is) l.object)

pub returns : goal.returns
returns c =
    let journal = c.args.journal.now in
    let long = length-map journal.entries entry_tree in
    let l =
    call_made journal.head (entry_trees journal.entries) c.args.line.now c.in-Some.words.at.now c.in-Some.words.name.now c.in-Some.words.op.now c.in-Some.words.object.now c.in-Some.words.told.now
    (record { at = c.in-Some-read_number.at; principal = c.in-Ok.principal; op = c.in-Ok-name.op; object = c.in-Ok-name-2.object })
    c.in-Some.ensures c.in-Some-read_number.ensures.value (rw c.head.ensures at c.in-Ok.ensures.ok)
    (omega (arith, long, c.count-count.ensures.count, c.if-at-count.false)) (rw c.head.ensures at c.in-Ok.ensures.within)
    c.in-Ok.ensures.named c.in-Ok-name.ensures.ok c.in-Ok-name.ensures.name c.in-Ok-name-2.ensures.ok c.in-Ok-name-2.ensures.name in
    record {
      ok = l;
      only = λ other rest m.
          one_call journal.head (entry_trees journal.entries) (short journal c.count-count.result c.count-count.ensures.count c.count-count.ensures.bound) c.args.line.now _ other _ rest l m;
      wrong = tt;
    }
