-- What was snapped, by what the pass has then seen.
use Rattle.std.proofs.Common.{◌≡◌, ℕ, List, sym, ap, subst}
use Rattle.policy_history.specs.declared.events.Entry.{Entry}
use Rattle.policy_history.specs.declared.heads.Head.{Head}
use Rattle.policy_history.specs.Values.{entry_trees}
use Rattle.verdict_words.specs.Values.{Identity, PassValue}
use Rattle.policy_book.specs.Access.{HasSnapped}
use Rattle.policy_book.specs.Snaps.{IsSnap}
use Rattle.policy_book.specs.declared.snapping.Snapped.{Snapped}

pub snapped_in_seen : (there board : Identity Entry Head) (pass met : PassValue Entry Head) (subject : ℕ) (op object : List ℕ) (snapped : Snapped) → there ≡ board → HasSnapped there subject op object pass met snapped
    → IsSnap board.origin.setting (entry_trees met.seen) subject op object snapped
snapped_in_seen there board pass met subject op object snapped same snap =
    subst (λ (b : Identity Entry Head). IsSnap b.origin.setting (entry_trees met.seen) subject op object snapped) same
    (subst (λ (es : List Entry). IsSnap there.origin.setting (entry_trees es) subject op object snapped) (sym (ap (λ (p : PassValue Entry Head). p.seen) snap.met.pass_is)) snap.snap)
