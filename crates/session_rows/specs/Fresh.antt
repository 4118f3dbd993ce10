-- Passes of sessions that were not served yet.
use Rattle.std.specs.Prelude.{◌≡◌, ◌≢◌, [], All}
use Rattle.policy_history.specs.declared.events.Entry.{Entry}
use Rattle.policy_history.specs.declared.heads.Head.{Head}
use Rattle.verdict_words.specs.Values.{Identity, PassValue}

-- the pass has made no step over this board, and its session has no entry
abbrev pub IsNew : Identity Entry Head → PassValue Entry Head → Type 0
IsNew board pass = (pass.board ≡ board) × (pass.trail ≡ []) × All (λ (e : Entry). e.session ≢ pass.session) pass.seen
