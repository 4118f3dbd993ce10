-- Authorities in memory, as contracts see them.
use Rattle.std.specs.Prelude.{ℕ, List, slice_get, unwrap_or}
use Rattle.authority_ask.specs.PanelCalls.{PanelHistory, new_history}
use Rattle.authority_ask.specs.declared.panels.Ask.{Ask}
use Rattle.authority_ask.specs.declared.panels.Ask.TheVariants.{No}

-- a panel: its answers from the first on, the numbers of the reaches and of the shares that fail, how many of each there
-- were, and its history
pub record Rehearsed : Type 0 where
  pub answers : List Ask
  pub reach_fails : List ℕ
  pub share_fails : List ℕ
  pub reaches : ℕ
  pub shares : ℕ
  pub history : PanelHistory

-- a panel with these answers and failing calls, and this history, of which nothing else was asked
abbrev pub rehearsed : List Ask → List ℕ → List ℕ → PanelHistory → Rehearsed
rehearsed answers reach_fails share_fails history = record {
  answers = answers;
  reach_fails = reach_fails;
  share_fails = share_fails;
  reaches = 0;
  shares = 0;
  history = history;
}

-- a new one
abbrev pub rehearsal : List Ask → List ℕ → List ℕ → Rehearsed
rehearsal answers reach_fails share_fails = rehearsed answers reach_fails share_fails new_history

-- the answer to the ask with this number, from 0: No after the last
abbrev pub answer_at : List Ask → ℕ → Ask
answer_at answers k = unwrap_or (slice_get answers k) No
