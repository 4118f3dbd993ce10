use Rattle.std.proofs.Common.{◌≡◌, length, replicate, All}
use Rattle.std.specs.Vec.{vec_capacity}
use Rattle.authority_ask.specs.PanelCalls.{shared}
use Rattle.session_core.specs.Records.{unwanted}
use Rattle.nexus_serve.specs.Hosting.{HasCalledPanel, IsPanelShare, kept_of}
use Rattle.nexus_serve.proofs.shares.share_panel.Given as goal

abbrev pub invariant-loop : goal.invariant-loop
invariant-loop g l = record {
  count : length l.means.items ≡ l.counter;
  capacity : vec_capacity l.means ≡ vec_capacity l.fn.means;
  are_shares : All (λ own. IsPanelShare (g.P.Panel.history l.panel) (g.P.Panel.history own.panel)) l.means.items;
  calls : HasCalledPanel (replicate l.counter shared) (g.P.Panel.history l.fn.panel) (g.P.Panel.history l.panel);
  keepers : kept_of l.means.items ≡ replicate l.counter unwanted;
}
