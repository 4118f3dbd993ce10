-- What a worker has of its own beside its door, by what it tells.
use Rattle.authority_ask.specs.PanelCalls.{PanelHistory}
use Rattle.session_core.specs.Records.{Kept}
use Rattle.nexus_serve.specs.declared.means.Means.{Means}

-- what the means of a worker tell: what its panel was asked, and what was recorded of the calls of its sessions
pub record MeansHistory : Type 0 where
  pub panel : PanelHistory
  pub kept : Kept

abbrev pub means_history : {P C : Type 0} → (P → PanelHistory) → Means P C → MeansHistory
means_history panel means = record { panel = panel means.panel; kept = means.records }
