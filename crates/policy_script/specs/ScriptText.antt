-- What `script` writes.
use Rattle.std.specs.Prelude.{ℕ, List, ◌++◌}
use Rattle.std.specs.List.{flat_map}
use Rattle.policy_history.specs.declared.heads.Head.{Head}
use Rattle.policy_history.specs.Events.{EntryTree}
use Rattle.session_wire.specs.declared.replies.Reply.{Reply}
use Rattle.journal_text.specs.ReplyLines.{reply_text}
use Rattle.policy_history.specs.PolicyTexts.{policy_text, ended}

-- the lines of replies, each with its line feed
abbrev pub reply_lines : List Reply → List ℕ
reply_lines replies = flat_map (λ (reply : Reply). ended (reply_text reply)) replies

-- the lines of the replies, and then the text of the policy
abbrev pub script_text : List Reply → Head → List EntryTree → List ℕ
script_text replies h es = reply_lines replies ++ policy_text h es
