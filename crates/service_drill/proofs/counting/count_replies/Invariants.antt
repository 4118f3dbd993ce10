use Rattle.std.proofs.Common.{◌≡◌, false}
use Rattle.service_drill.proofs.Tallying.{IsCounting}
use Rattle.service_drill.proofs.counting.count_replies.Given as goal

abbrev pub invariant-loop-turn : goal.invariant-loop-turn
invariant-loop-turn l = record {
  is_open : l.link.closed ≡ false;
  counting : IsCounting l.sent l.link.supply.left l.link.supply.given l._turn l.allowed l.denied;
}
