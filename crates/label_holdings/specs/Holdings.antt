-- By which entries a principal holds a formula.
use Rattle.std.specs.Prelude.{◌≡◌, ◌<◌, ℕ, List, Option, Some, None, Contains}
use Rattle.nal_term.specs.Trees.{FormulaTree, says}
use Rattle.policy_history.specs.declared.heads.Head.{Head}
use Rattle.policy_history.specs.Events.{EntryTree, EventTree, say}
use Rattle.policy_history.specs.Machine.{replay}
use Rattle.label_holdings.specs.Entries.{entry_at}
use Rattle.label_holdings.specs.Tenures.{IsReceivedBy}
use Rattle.label_holdings.specs.declared.holdings.Holding.{Holding}

-- the label that an event says
abbrev pub label_of : EventTree → Option FormulaTree
label_of (say (Some t) (Some f)) = Some (says t f)
label_of _ = None

-- principal p holds the formula by this label: it was said by the entry of its number, p holds it, and holds no other of this formula
-- with a lower number; and this is the entry by which it came to p
pub record IsHeldBy (h : Head) (es : List EntryTree) (p : ℕ) (f : FormulaTree) (by : Holding) : Type 0 where
  pub entry : EntryTree
  pub stands : entry_at es by.said ≡ Some entry
  pub said : label_of entry.event ≡ Some f
  pub held : Contains (replay h es).labels (by.said, p, f)
  pub lowest : (j : ℕ) → j < by.said → ¬ Contains (replay h es).labels (j, p, f)
  pub received : IsReceivedBy h es by.said p by.received
