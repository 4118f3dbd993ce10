-- What is told of an ask of a panel, and what a share has.
use Rattle.std.specs.Prelude.{ℕ}
use Rattle.nal_term.specs.Trees.{FormulaTree}
use Rattle.nx_io.specs.declared.streams.Shared.{Shared}
use Rattle.nx_io.specs.declared.streams.Shared.TheVariants.{Made as SharedMade, Failed as SharedFailed, NoMemory as SharedNoMemory}
use Rattle.authority_ask.specs.declared.panels.Ask.{Ask}

-- one ask: its port, the statement, and the answer
pub record Told : Type 0 where
  pub port : ℕ
  pub statement : FormulaTree
  pub answer : Ask

-- what was made for a share has this property, where one was made
abbrev pub IfMade : {A : Type 0} → Shared A → (A → Type 0) → Type 0
IfMade (SharedMade share) Property = Property share
IfMade SharedFailed Property = Unit {0}
IfMade SharedNoMemory Property = Unit {0}
