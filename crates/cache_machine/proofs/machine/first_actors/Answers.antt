use Rattle.std.proofs.Common.{arith, refl}
use Rattle.cache_machine.proofs.Starting.{begun_with}
use Rattle.cache_machine.proofs.machine.first_actors.Goals as goal

pub overflow_add-session : goal.overflow_add-session
overflow_add-session c = let b = c.loop-principal.invariant.session_is in omega (arith, b, c.requires, c.loop-principal-test.true)

pub loop-principal-preserved : goal.loop-principal-preserved
loop-principal-preserved c =
    begun_with c.args.last c.args.principals.now c.loop-principal.actors.items c.push.new.self.items _ c.loop-principal.session c.loop-principal.principal-index 0
    c.loop-principal.invariant c.loop-principal-test.true refl c.in_ok-push.ensures.items
