-- What the parts of a record's line are, by the numbers of a reply.
use Rattle.std.specs.Prelude.{ℕ, List, [], ◌==◌, nat_le, codes, if◌then◌else◌}
use Rattle.std.specs.Fmt.{decimal}
use Rattle.session_wire.specs.declared.replies.Reply.{Reply}
use Rattle.session_wire.specs.declared.replies.Reply.TheVariants.{Allowed, Denied, Refused, Down}
use Rattle.policy_history.specs.PolicyLines.{spaced}
use Rattle.journal_text.specs.ReplyLines.{cause_names, fault_names, named}

-- the point of a reply that records something
abbrev pub point_of : Reply → ℕ
point_of (Allowed n hit value) = n
point_of (Denied n cause line fault) = n
point_of (Refused n refusal) = n
point_of (Down n line) = n
point_of _ = 0

-- what stands behind the name of a cause that names a line
abbrev pub place_text : ℕ → ℕ → ℕ → List ℕ
place_text cause line fault = if cause == 3 then spaced (decimal line) (named fault_names fault) else decimal line

-- the words of a cause that is told by its number, that of its line and that of its fault: the first two causes name no line, and the
-- third alone names a fault
abbrev pub cause_words : ℕ → ℕ → ℕ → List ℕ
cause_words cause line fault = if nat_le cause 2 then named cause_names cause else spaced (named cause_names cause) (place_text cause line fault)

-- the words of what a reply records
abbrev pub told_words : Reply → List ℕ
told_words (Allowed n hit value) = codes "allowed"
told_words (Denied n cause line fault) = spaced (codes "denied") (cause_words cause line fault)
told_words (Refused n refusal) = codes "refused NoSuchObject"
told_words (Down n line) = spaced (codes "down") (decimal line)
told_words _ = []
