-- A compacted history is of the sessions of the history.
use Rattle.std.proofs.Common.{◌≡◌, ◌+◌, ℕ, List, [], ◌∷◌, map, Bool, true, false, refl}
use Rattle.std.specs.List.{All}
use Rattle.std.proofs.lemmas.List.Elements.{All-cons, All-head, All-nil, All-tail}
use Rattle.policy_history.specs.Events.{EntryTree}
use Rattle.journal_text.specs.PolicyLaws.{IsInSession}
use Rattle.policy_compaction.specs.Kept.{Numbered, compacted, kept, kept_from, matters, moved}

sessions_from : (ks : List Numbered) (n : ℕ) (es : List EntryTree) → All IsInSession es → All IsInSession (map (moved ks) (kept_from n es))
sessions_from ks n [] all = All-nil IsInSession
sessions_from ks n (e ∷ es) all = of (matters (n + 1) e es) refl (sessions_from ks (n + 1) es (All-tail IsInSession e es all))
  where
    of : (b : Bool) → matters (n + 1) e es ≡ b → All IsInSession (map (moved ks) (kept_from (n + 1) es)) → All IsInSession (map (moved ks) (kept_from n (e ∷ es)))
    of true is rest = rw is (All-cons IsInSession (moved ks (n + 1, e)) (map (moved ks) (kept_from (n + 1) es)) (All-head IsInSession e es all) rest)
    of false is rest = rw is rest

pub sessions_kept : (es : List EntryTree) → All IsInSession es → All IsInSession (compacted es)
sessions_kept es all = sessions_from (kept es) 0 es all
