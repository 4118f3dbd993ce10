-- A journal as contracts see it.
use Rattle.std.specs.Prelude.{ℕ, List, [], ◌∷◌, map, length, Option, Some, None, Result, Ok, Err, max}
use Rattle.policy_history.specs.declared.heads.Head.{Head}
use Rattle.policy_history.specs.declared.events.Entry.{Entry}
use Rattle.policy_history.specs.declared.events.Due.{Due}
use Rattle.policy_history.specs.declared.events.Refusal.{Refusal}
use Rattle.policy_history.specs.Events.{EntryTree, EventTree, entry_tree, name_of}
use Rattle.policy_history.specs.PolicyLines.{entry_line}
use Rattle.policy_history.specs.States.{State}
use Rattle.policy_history.specs.Machine.{refusal_of, replay, reply_number}

-- its head, its entries, and how many more entries it has memory for
pub record History : Type 0 where
  pub head : Head
  pub entries : List Entry
  pub room : ℕ

-- the plain values of the entries
abbrev pub entry_trees : List Entry → List EntryTree
entry_trees es = map entry_tree es

-- the state that the entries lead to
abbrev pub state_after : History → State
state_after j = replay j.head (entry_trees j.entries)

-- the greatest session number of some entries, or 0
abbrev pub greatest_from : ℕ → List EntryTree → ℕ
greatest_from n [] = n
greatest_from n (e ∷ es) = greatest_from (max n e.session) es

abbrev pub greatest_of : List EntryTree → ℕ
greatest_of es = greatest_from 0 es

-- what is answered to an event: its refusal, or the reply number and the length of its line
abbrev pub decision : Head → State → ℕ → ℕ → EventTree → Result Due Refusal
decision h s session p e = answer (refusal_of h s session p e)
  where
    answer : Option Refusal → Result Due Refusal
    answer (Some refusal) = Err refusal
    answer None = Ok (record { number = reply_number s p e; bytes = length (entry_line session (name_of h.principals p) e) })
