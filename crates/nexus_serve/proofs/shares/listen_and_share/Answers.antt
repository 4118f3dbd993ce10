use Rattle.std.proofs.Common.{◌∷◌, ◌++◌, [], ◌∙◌, ap, append_assoc, length}
use Rattle.nx_io.specs.DoorCalls.{listened}
use Rattle.nexus_serve.proofs.Readiness.{readies, shares_of}
use Rattle.nexus_serve.proofs.shares.listen_and_share.Goals as goal

pub returns-in-Ready-clause-shared : goal.returns-in-Ready-clause-shared
returns-in-Ready-clause-shared g c =
    let e = c.share_door.ensures in
    shares_of g.D.Door.origin g.D.Door.calls c.share_door.result c.listen.new.self c.share_door.new.door c.share_door.new.shares.items c.args.count (length c.share_door.new.shares.items) e.calls.0 e.origin e.calls.1 e.calls.2 e.shared

pub returns-in-Ready-clause-calls : goal.returns-in-Ready-clause-calls
returns-in-Ready-clause-calls g c =
    let e = c.share_door.ensures in (
      listened (record { address = c.args.address.now; patience = c.args.patience }) ∷ e.calls.0,
      e.calls.1 ∙ ap (λ cs. cs ++ e.calls.0) c.in-Ready.ensures.calls ∙ append_assoc (g.D.Door.calls c.args.door.now) (listened (record { address = c.args.address.now; patience = c.args.patience }) ∷ []) e.calls.0,
      readies c.share_door.result (record { address = c.args.address.now; patience = c.args.patience }) c.args.count (length c.share_door.new.shares.items) e.calls.0 e.calls.2,
    )
