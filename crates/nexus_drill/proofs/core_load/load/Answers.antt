use Rattle.nexus_drill.proofs.Loading.{first_ready, load_of}
use Rattle.nexus_drill.proofs.core_load.load.Goals as goal

pub take_all-requires : goal.take_all-requires
take_all-requires c = first_ready c.in_ok-machine.machine c.journal.result.now c.in_ok-machine.ensures.state c.journal.ensures c.count-legal.ensures.legal

pub returns-in-Ok : goal.returns-in-Ok
returns-in-Ok c =
    load_of c.args.number c.args.steps c.in_ok-machine.machine c.take_all.new.machine c.finish.result c.in_ok-machine.ensures.state c.in_ok-machine.ensures.told c.in_ok-machine.ensures.idle c.in-Ok.ensures
    c.finish.ensures.journal c.finish.ensures.told c.finish.ensures.idle
