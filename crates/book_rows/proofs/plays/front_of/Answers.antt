use Rattle.std.proofs.Common.{◌≡◌, ◌-◌, ℕ, List, length, take, IfSome, ap, subst, ◌∙◌}
use Rattle.policy_history.specs.Values.{entry_trees}
use Rattle.policy_book.proofs.ForCallers.{front_of_text}
use Rattle.book_rows.proofs.plays.front_of.Goals as goal

-- the front of a text is the text without its last line, which has four bytes
pub returns-in-Ok-clause-text : goal.returns-in-Ok-clause-text
returns-in-Ok-clause-text c =
    let short =
    ap (λ (text : List ℕ). take (length text - 4) text) (c.as_slice.ensures ∙ c.in-Ok.ensures.text)
    ∙ front_of_text c.args.journal.now.head (entry_trees c.args.journal.now.entries) in
    subst (λ bytes. IfSome c.without_end.result (λ made. made.items ≡ bytes)) short c.without_end.ensures
