-- What the parts of a session's answer come to.
use Rattle.std.specs.Prelude.{◌≡◌, ℕ, List}
use Rattle.nal_rules.specs.Verdicts.{CaseTree}
use Rattle.nx_io.specs.Streams.{Grows, gained}
use Rattle.policy_history.specs.declared.heads.Head.{Head}
use Rattle.policy_history.specs.Events.{EventTree, EntryTree}
use Rattle.policy_history.specs.Machine.{replay}
use Rattle.policy_history.specs.Values.{decision}
use Rattle.authority_ask.specs.Panels.{Told}
use Rattle.guard_core.specs.declared.findings.Finding.{Finding}
use Rattle.guard_core.specs.declared.findings.GuardError.TheVariants.{Down as DownError, Memory as MemoryError}
use Rattle.guard_core.specs.Judging.{IsJudged, IsBrokenOff}
use Rattle.session_wire.specs.declared.requests.Request.{Request}
use Rattle.session_wire.specs.declared.requests.Request.TheVariants.{Hello}
use Rattle.session_wire.specs.declared.replies.Reply.{Reply}
use Rattle.session_wire.specs.declared.replies.Reply.TheVariants.{Down, NoMemory}
use Rattle.journal_text.specs.RequestEvents.{IsEventOf}
use Rattle.session_core.specs.Answers.{AreGivenUp, IsCalled, called, changed, found_reply}

-- the request is a hello
abbrev pub IsHello : Request → Type 0
IsHello (Hello name secret) = Unit {0}
IsHello _ = ⊥

-- what the journal decides of an event was done and replied, or there was no memory
pub data IsDecided (h : Head) (es es_now : List EntryTree) (session p : ℕ) (e : EventTree) (reply : Reply) : Type 0 where
  decided : Grows es es_now → reply ≡ (changed es session p e (decision h (replay h es) session p e)).reply
      → gained es es_now ≡ (changed es session p e (decision h (replay h es) session p e)).added → IsDecided h es es_now session p e reply
  no_memory : reply ≡ NoMemory → es_now ≡ es → IsDecided h es es_now session p e reply

-- the event of the request was decided, or there was no memory
pub data IsChanged (h : Head) (es es_now : List EntryTree) (session p : ℕ) (request : Request) (reply : Reply) : Type 0 where
  asked : (e : EventTree) → IsEventOf request e → IsDecided h es es_now session p e reply → IsChanged h es es_now session p request reply
  no_memory : reply ≡ NoMemory → es_now ≡ es → IsChanged h es es_now session p request reply

-- the case of a call was judged, or the guard broke off
pub data IsJudgedReply (at : ℕ) (c : CaseTree) (asks : List Told) (reply : Reply) : Type 0 where
  found : (finding : Finding) → IsJudged c asks finding → reply ≡ found_reply at finding → IsJudgedReply at c asks reply
  down : (k : ℕ) → IsBrokenOff c asks (DownError k) → reply ≡ Down at k → IsJudgedReply at c asks reply
  no_memory : IsBrokenOff c asks MemoryError → reply ≡ NoMemory → IsJudgedReply at c asks reply

-- a call was answered, or given up
pub data IsCallReply (h : Head) (es : List EntryTree) (p : ℕ) (op object : List ℕ) (asks : List Told) (reply : Reply) : Type 0 where
  answered : IsCalled h es p op object (called p asks reply) → IsCallReply h es p op object asks reply
  given_up : reply ≡ NoMemory → AreGivenUp h es p op object asks → IsCallReply h es p op object asks reply
