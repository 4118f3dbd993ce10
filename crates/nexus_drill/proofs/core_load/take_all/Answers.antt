use Rattle.std.proofs.Common.{◌≡◌, arith, refl}
use Rattle.nexus_drill.proofs.Loading.{all_loaded, next_loaded, none_loaded}
use Rattle.nexus_drill.proofs.core_load.take_all.Goals as goal

pub loop-place-init : goal.loop-place-init
loop-place-init c = (refl, c.requires, none_loaded c.args.number c.args.machine.now)

pub take-requires : goal.take-requires
take-requires c = c.loop-place.invariant.1

pub loop-place-preserved : goal.loop-place-preserved
loop-place-preserved c =
    next_loaded c.args.number c.args.machine.now c.loop-place.machine c.take.new.machine c.loop-place._place c.loop-place.x c.next-x.result c.draw_of.result c.take.new.held
    c.loop-place.invariant.0 c.next-x.ensures c.draw_of.ensures c.loop-place.invariant.2 c.in_ok-take.ensures

pub returns : goal.returns
returns c =
    let all : c.loop-place._place ≡ c.args.count = omega (arith, c.loop-place-test.false, c.loop-place.auto._place-end) in
    all_loaded c.args.number c.args.count c.loop-place._place c.args.machine.now c.loop-place.machine all c.loop-place.invariant.2
