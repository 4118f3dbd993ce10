-- What the machine holds: the journal, the words that actors share, who holds the lock, and how far each actor is.
use Rattle.std.specs.Prelude.{ℕ, List, Option}
use Rattle.nal_rules.specs.Verdicts.{CaseTree}
use Rattle.policy_history.specs.declared.heads.Head.{Head}
use Rattle.policy_history.specs.Events.{EntryTree, EventTree}
use Rattle.cache_machine.specs.declared.stages.Kept.{Kept}
use Rattle.cache_machine.specs.declared.stages.Place.{Place}

-- how far an actor is
pub data StageTree : Type 0 where
  -- it rests; after a denial that may be kept, with what it may still keep
  resting : Option Kept → StageTree
  -- it copied the word of its case's slot
  looked : Place → Option Kept → StageTree
  -- and then the length of the journal
  counted : Place → Option Kept → ℕ → StageTree
  -- and then the word of its object's region
  half : Place → Option Kept → ℕ → ℕ → StageTree
  -- it found no verdict in the slot
  missed : StageTree
  -- it holds the lock, and raised the region that this event touches
  raised : EventTree → StageTree
  -- it copied a case, with the case's number, if it had one, at this length of the journal
  holding : CaseTree → Option ℕ → ℕ → StageTree
  -- its call is allowed; by a guard and where the verdict may be kept, with what it may still keep
  allowed : Option Kept → StageTree

-- an actor: the number of its principal, its session, and how far it is
pub record ActorTree : Type 0 where
  pub principal : ℕ
  pub session : ℕ
  pub stage : StageTree

-- A slot is empty or keeps a verdict. The regions are numbered as those of the policy. The lock is held by an actor or by none
pub record MachineState : Type 0 where
  pub head : Head
  pub entries : List EntryTree
  pub slots : List (Option Kept)
  pub regions : List ℕ
  pub holder : Option ℕ
  pub actors : List ActorTree
