-- The call with which a line begins.
use Rattle.std.specs.Prelude.{◌≡◌, ◌≤◌, ◌<◌, ℕ, List, Some, length}
use Rattle.std.specs.Fmt.{decimal}
use Rattle.nal_term.specs.Names.{IsName}
use Rattle.policy_history.specs.declared.heads.Head.{Head}
use Rattle.policy_history.specs.Events.{EntryTree, numbered}
use Rattle.policy_history.specs.PolicyLines.{spaced}
use Rattle.audit_form.specs.declared.record_lines.Call.{Call}

-- the line begins with this call: the point, the principal's name, the operation and the object. `rest` follows. The point is one of the
-- journal, and the principal one of the head's
pub record IsCallLine (h : Head) (es : List EntryTree) (line : List ℕ) (c : Call) (rest : List ℕ) : Type 0 where
  pub name : List ℕ
  pub formed : line ≡ spaced (decimal c.at) (spaced name (spaced c.op (spaced c.object rest)))
  pub principal : numbered h.principals name ≡ Some c.principal
  pub point : c.at ≤ length es
  pub within : c.principal < length h.principals
  pub named : IsName name
  pub op : IsName c.op
  pub object : IsName c.object
