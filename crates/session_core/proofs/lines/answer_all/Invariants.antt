use Rattle.std.proofs.Common.{◌≡◌, ◌≤◌, length, take, IfSome, ◌<◌}
use Rattle.std.specs.List.{All}
use Rattle.std.specs.Vec.{vec_capacity}
use Rattle.authority_ask.specs.PanelCalls.{HasOnlyAsked, asked_since}
use Rattle.policy_history.specs.Values.{entry_trees}
use Rattle.session_core.specs.Sessions.{Told1, at_start}
use Rattle.session_core.proofs.lines.answer_all.Given as goal

abbrev pub invariant-loop-asking : goal.invariant-loop-asking
invariant-loop-asking g l = record {
  told : Told1 l.fn.journal.head l.first (at_start (entry_trees l.fn.journal.entries)) (take l.asking-index l.askings) l.replies.items
      (asked_since (g.P.Panel.history l.fn.panel) (g.P.Panel.history l.panel)) (record { entries = entry_trees l.journal.entries; admitted = l.admitted });
  head : l.journal.head ≡ l.fn.journal.head;
  asked : HasOnlyAsked (g.P.Panel.history l.fn.panel) (g.P.Panel.history l.panel);
  within : All (λ w. IfSome w (λ p. p < length l.journal.head.principals)) l.admitted;
  sessions : length l.admitted ≡ 64;
  many : length l.replies.items ≡ l.asking-index;
  room : length l.askings ≤ vec_capacity l.replies;
}
