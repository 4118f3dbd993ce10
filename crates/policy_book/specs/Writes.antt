-- What goes out for a change that is handed to a book.
use Rattle.std.specs.Prelude.{◌≡◌, ℕ, List, []}
use Rattle.policy_history.specs.declared.heads.Head.{Head}
use Rattle.policy_history.specs.Events.{EntryTree}
use Rattle.policy_history.specs.PolicyTexts.{IsSpelledWhole, line_of}

-- the line that goes out for a change: that of its entry where the event is spelled whole, else none
abbrev pub IsLineFor : Head → EntryTree → List ℕ → Type 0
IsLineFor h e line = (IsSpelledWhole e.event → line ≡ line_of h e) × (¬ IsSpelledWhole e.event → line ≡ [])
