use Rattle.std.proofs.Common.{◌≡◌, ℕ, List, [], sym, subst}
use Rattle.policy_history.specs.Values.{entry_trees}
use Rattle.journal_text.specs.PolicyText.{Leads, ended_with, header_due}
use Rattle.journal_text.proofs.PolicyReading.{empty_of, some_of, wrong_behind}
use Rattle.journal_text.proofs.policy_reader.read_lines.Goals as goal

pub returns-then-is_empty-clause-ok : goal.returns-then-is_empty-clause-ok
returns-then-is_empty-clause-ok c =
    let front = c.in-Ok.field-0 in
    let none : front.rest.now ≡ [] = empty_of front.rest.now (sym c.if-is_empty.ensures) in
    let led : Leads header_due c.args.text.now front.lines (ended_with front.journal.head (entry_trees front.journal.entries)) [] =
    subst (λ (rest : List ℕ). Leads header_due c.args.text.now front.lines (ended_with front.journal.head (entry_trees front.journal.entries)) rest) none c.in-Ok.ensures.ok.led in
    (c.requires, front.lines, led)

pub returns-else-is_empty-clause-err : goal.returns-else-is_empty-clause-err
returns-else-is_empty-clause-err c = (c.requires, wrong_behind c.in-Ok.ensures.ok.led (some_of c.in-Ok.field-0.rest.now (sym c.if-is_empty.ensures)))
