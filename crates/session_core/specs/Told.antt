-- What a session over a shared board is told. Each answer is placed among the session's own steps: what the answer is
-- comes from the history and from what authorities said.
use Rattle.std.specs.Prelude.{◌≡◌, ◌≢◌, ℕ, List, [], ◌∷◌, ◌++◌, take, Some, None}
use Rattle.policy_history.specs.declared.heads.Head.{Head}
use Rattle.policy_history.specs.Events.{EventTree, EntryTree, admitted}
use Rattle.authority_ask.specs.Panels.{Told as Ask}
use Rattle.session_wire.specs.Answers.{WantsMemory}
use Rattle.session_wire.specs.declared.requests.Request.{Request}
use Rattle.session_wire.specs.declared.requests.Request.TheVariants.{Hello, Call, See}
use Rattle.session_wire.specs.declared.replies.Reply.{Reply}
use Rattle.session_wire.specs.declared.replies.Reply.TheVariants.{Refused, NoMemory}
use Rattle.journal_text.specs.RequestEvents.{IsEventOf}
use Rattle.verdict_words.specs.declared.views.Item.{Item}
use Rattle.verdict_words.specs.declared.views.Item.TheVariants.{Met}
use Rattle.verdict_words.specs.Histories.{own}
use Rattle.verdict_words.specs.Rule.{last_met}
use Rattle.session_core.specs.Answers.{Outcome, greeted}
use Rattle.session_core.specs.Standing.{Standing, beginning}
use Rattle.session_core.specs.Refusals.{not_open}
use Rattle.session_core.specs.Calls.{Turn, plain, IsSeen, Calls}
use Rattle.session_core.specs.Unanswered.{GivesUp, GoesUnrecorded}
use Rattle.session_core.specs.Changes.{Changes, Sees}

-- session s over this history
module _ (h : Head) (es : List EntryTree) (s : ℕ) where
  -- The session, which is so far, comes to this turn by the request. A hello is welcomed exactly where its name and its secret are a
  -- principal's and nobody is admitted yet; else it is refused. Before one every other request is refused. Any request that wants memory
  -- may be given up for want of it. A call may be refused since its record could not be sent: when that is, `Records` says
  pub data Answers (before : Standing) (request : Request) (turn : Turn) : Type 0 where
    hello : (name secret : List ℕ) (greeting : Outcome) → request ≡ Hello name secret
        → greeting ≡ greeted before.low s before.who (admitted h.principals name secret)
        → turn ≡ plain (record before { who = greeting.who }) greeting.reply → Answers before request turn
    early : before.who ≡ None → ((name secret : List ℕ) → request ≢ Hello name secret)
        → turn ≡ plain before (Refused before.low not_open) → Answers before request turn
    change : (p : ℕ) (e : EventTree) → before.who ≡ Some p → IsEventOf request e → Changes h es s before p e turn
        → Answers before request turn
    call : (p : ℕ) (op object : List ℕ) (arg : ℕ) → before.who ≡ Some p → request ≡ Call op object arg
        → Calls h es before p op object arg turn → Answers before request turn
    given_up : WantsMemory request → turn ≡ plain before NoMemory → Answers before request turn
    call_given_up : (p : ℕ) (op object : List ℕ) (arg : ℕ) → before.who ≡ Some p → request ≡ Call op object arg
        → GivesUp h es before p op object turn → Answers before request turn
    call_unrecorded : (p : ℕ) (op object : List ℕ) (arg : ℕ) → before.who ≡ Some p → request ≡ Call op object arg
        → GoesUnrecorded h es before p op object turn → Answers before request turn
    see : (p k : ℕ) → before.who ≡ Some p → request ≡ See k → Sees es before k turn → Answers before request turn

  -- The requests, in order, got these replies; authorities were asked so for them, the pass made these steps, and these entries were
  -- made, each request taking its own from the front; and they led from one standing to the other
  abbrev pub Leads : Standing → List Request → List Reply → List Ask → List Item → List EntryTree → Standing → Type 0
  Leads before [] [] asks steps added last = (asks ≡ []) × (steps ≡ []) × (added ≡ []) × (last ≡ before)
  Leads before (request ∷ requests) (reply ∷ replies) asks steps added last =
      (turn : Turn) × (later_asks : List Ask) × (later_steps : List Item) × (later_added : List EntryTree)
      × Answers before request turn × (turn.reply ≡ reply)
      × (asks ≡ turn.asks ++ later_asks) × (steps ≡ turn.steps ++ later_steps) × (added ≡ turn.added ++ later_added)
      × Leads turn.after requests replies later_asks later_steps later_added last
  Leads before _ _ asks steps added last = ⊥

  -- The session, whose history had at least `low` entries as it began, was told these replies to these requests. Its pass was met before
  -- the first of them. Its own entries, up to its last meeting, are those of its Done replies, in order
  pub record IsTold (low : ℕ) (requests : List Request) (replies : List Reply) (asks : List Ask) (trail : List Item) (last : Standing) : Type 0 where
    pub first : ℕ
    pub steps : List Item
    pub added : List EntryTree
    pub met : trail ≡ Met first ∷ steps
    pub seen : IsSeen es low first
    pub leads : Leads (beginning first) requests replies asks steps added last
    pub entries : own (λ (e : EntryTree). e.session) (take (last_met trail) es) s ≡ added
