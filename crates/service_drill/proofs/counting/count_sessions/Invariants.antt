use Rattle.std.proofs.Common.{take}
use Rattle.service_drill.specs.Inner.{CountsLinks, sent_in}
use Rattle.service_drill.proofs.counting.count_sessions.Given as goal

abbrev pub invariant-loop-session : goal.invariant-loop-session
invariant-loop-session l = CountsLinks (sent_in (take l.session-index l.sessions)) (l.allowed, l.denied)
