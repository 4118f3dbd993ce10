-- What always holds of a journal's parts.
use Rattle.std.specs.Prelude.{◌≡◌, ℕ, List}
use Rattle.policy_history.specs.declared.heads.Head.{Head}
use Rattle.policy_history.specs.declared.events.Entry.{Entry}
use Rattle.policy_history.specs.declared.tables.Policy.{Policy}
use Rattle.policy_history.specs.Machine.{IsLegal, replay}
use Rattle.policy_history.specs.Tables.{state_of}
use Rattle.policy_history.specs.Values.{entry_trees, greatest_of}

-- the tables hold the state that the entries lead to, and each entry was accepted in its place
pub record IsKept (head : Head) (entries : List Entry) (policy : Policy) (greatest : ℕ) : Type 0 where
  pub state : state_of policy ≡ replay head (entry_trees entries)
  pub legal : IsLegal head (entry_trees entries)
  pub session : greatest ≡ greatest_of (entry_trees entries)
