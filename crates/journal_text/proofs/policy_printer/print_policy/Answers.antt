use Rattle.std.proofs.Common.{rules, ◌≡◌, subst, sym}
use Rattle.policy_history.specs.Values.{entry_trees}
use Rattle.journal_text.specs.PolicyLaws.{IsKeptHead}
use Rattle.policy_history.specs.PolicyTexts.{policy_text}
use Rattle.journal_text.specs.PolicyText.{ReadsAs}
use Rattle.journal_text.proofs.PrintedPolicies.{printed_is_read}
use Rattle.journal_text.proofs.policy_printer.print_policy.Goals as goal

pub returns-clause-read_again : goal.returns-clause-read_again
returns-clause-read_again c =
    let h = c.args.journal.now.head in
    let es = entry_trees c.args.journal.now.entries in
    let whole : c.piece.new.self.text ≡ policy_text h es = search rules in
    λ told. subst (λ t. ReadsAs t h es) (sym whole) (printed_is_read h es (subst IsKeptHead c.head.ensures c.in_ok-head.ensures.kept) c.in_ok-entries.ensures.kept told c.count-count.ensures.legal)
