use Rattle.std.proofs.Common.{◌+◌, ◌∙◌, ap, arith}
use Rattle.std.specs.Prelude.{cond}
use Rattle.service_drill.proofs.Tallying.{few_counted, reply_counted}
use Rattle.service_drill.proofs.counting.count_replies.Goals as goal

pub loop-turn-preserved : goal.loop-turn-preserved
loop-turn-preserved c =
    let few = few_counted c.args.sent.now c.loop-turn.link.supply.left c.loop-turn.link.supply.given c.loop-turn._turn c.loop-turn.allowed c.loop-turn.denied c.loop-turn.invariant.counting in
    let low = few.0 in
    let low_denied = few.1 in
    let end = c.saturating_add-turn-end.type_inv in
    let below = c.loop-turn-test.true in
    record {
      is_open = c.in-Reply.ensures.going.closed_is ∙ c.loop-turn.invariant.is_open;
      counting = reply_counted c.args.sent.now c.loop-turn.link.supply.left c.read_reply.new.link.supply.left c.loop-turn.link.supply.given c.read_reply.new.link.supply.given c.loop-turn._turn c.loop-turn.allowed c.loop-turn.denied
          c.loop-turn.invariant.counting c.in-Reply.ensures.bytes c.in-Reply.reply c.more-allowed.result c.more-denied.result c.in-Reply.ensures.front
          (c.more-allowed.ensures (omega (arith, low, end, below)) ∙ ap (λ b. c.loop-turn.allowed + cond b 1 0) c.allows.ensures)
          (c.more-denied.ensures (omega (arith, low_denied, end, below)) ∙ ap (λ b. c.loop-turn.denied + cond b 1 0) c.denies.ensures);
    }
