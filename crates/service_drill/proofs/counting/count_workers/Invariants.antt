use Rattle.std.proofs.Common.{take}
use Rattle.verdict_words.specs.Settling.{flat}
use Rattle.service_drill.specs.Inner.{CountsLinks, sent_over}
use Rattle.service_drill.proofs.counting.count_workers.Given as goal

abbrev pub invariant-loop-reports : goal.invariant-loop-reports
invariant-loop-reports l = CountsLinks (sent_over (flat (take l.reports-index l.workers))) (l.allowed, l.denied)
