use Rattle.std.proofs.Common.{List, ap}
use Rattle.cache_machine.specs.States.{ActorTree}
use Rattle.cache_machine.specs.Views.{state_of}
use Rattle.cache_machine.proofs.Plans.{gone, staged}
use Rattle.cache_machine.proofs.stages.World.go_on.Goals as goal

pub returns : goal.returns
returns c =
    ap (λ (xs : List ActorTree). record (state_of c.args.self.now) { actors = xs })
    (gone c.args.self.now.actors.items c.args.number c.index_mut.result.now _ _ c.requires (staged _ _ c.index_mut.ensures.value c.replace.new.dest c.args.stage c.replace.ensures.after))
