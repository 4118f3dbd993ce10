use Rattle.std.proofs.Common.{ℕ, List, subst}
use Rattle.service_drill.specs.Inner.{CountsReplies}
use Rattle.service_drill.proofs.Tallying.{sessions_more}
use Rattle.service_drill.proofs.counting.count_sessions.Goals as goal

pub loop-session-preserved : goal.loop-session-preserved
loop-session-preserved c =
    sessions_more c.args.sessions.now c.loop-session.session-index c.session-item.result c.loop-session.allowed c.loop-session.denied c.in_ok-allowed.allowed c.in_ok-denied.denied
    (c.in_ok-more_allowed.more_allowed, c.in_ok-more_allowed.more_denied) c.loop-session-test.true c.session-item.is c.loop-session.invariant
    (subst (λ (bytes : List ℕ). CountsReplies bytes (c.in_ok-more_allowed.more_allowed, c.in_ok-more_allowed.more_denied)) c.sent.ensures c.in_ok-more_allowed.ensures) c.in_ok-allowed.ensures c.in_ok-denied.ensures
