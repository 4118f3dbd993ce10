use Rattle.std.proofs.Common.{sym, subst, slice_index_or, length}
use Rattle.std.proofs.Crossing.{crosses}
use denote.Param.{param}
use denote.Param.Send.{IsSend, IsSync, param_sync, sendable}
use denote.Param.SendFields.{declared_sync}
use Rattle.nexus_serve.specs.Means.{means_history}
use Rattle.nexus_serve.proofs.threads.let_work.Lts.{arg-1-2}
use Rattle.nexus_serve.specs.Inner.Working.{IsDone, IsHired}
use Rattle.nexus_serve.proofs.Crossing.{nal_board_sync, shelf_sync, turn_sync}
use Rattle.nexus_serve.proofs.threads.let_work.Goals as goal

pub for_each_mut-requires-sync-F : goal.for_each_mut-requires-sync-F
for_each_mut-requires-sync-F g c κs within =
    let r : IsSync (param 8 g.row.R) = c.type_bounds.sync-R in
    let q : IsSync (param 4 g.row.G) = c.type_bounds.sync-G in
    let k : IsSend (param 3 g.row.K) = c.type_bounds.send-K in
    param_sync 2 (arg-1-2 g.row.D g.row.P g.row.C g.row.K g.row.G g.row.N g.row.T g.row.W g.row.R g.row.D-Link g.D.laws g.P.laws g.C.laws g.K.laws g.G.laws g.N.laws g.T.laws g.W.laws g.R.laws g.D.Link.laws g.D.Door g.D.Door-dict g.D.Link.Link g.D.Link.Link-dict g.P.Panel g.P.Panel-dict g.C.Sink g.C.Sink-dict g.K.Sink g.K.Sink-dict g.G.Gate g.G.Gate-dict g.N.BookNaming g.N.BookNaming-dict g.T.Ledger g.T.Ledger-dict g.W.Ledger g.W.Ledger-dict g.R.Net g.R.Net-dict g.bound-11 g.bound-11-dict g.bound-12 g.bound-12-dict g.bound-13 g.bound-13-dict g.bound-14 g.bound-14-dict g.bound-15 g.bound-15-dict g.bound-16 g.bound-16-dict g.R.Clock g.R.Clock-dict g.R.Wait g.R.Wait-dict g.R.Threads g.R.Threads-dict g.D.Destruct-dict g.P.Destruct-dict g.C.Destruct-dict g.K.Destruct-dict g.D.Link.Destruct-dict κs) (search (shelf_sync, turn_sync, nal_board_sync, declared_sync, crosses, sendable) depth 20)

pub for_each_mut-requires-clause-accepts : goal.for_each_mut-requires-clause-accepts
for_each_mut-requires-clause-accepts g c κs within = λ i x below is. (c.requires.named, subst (λ w. IsHired c.args.board.now w.first (length w.passes) w) (sym is) (c.requires.hired i x.now below))

pub returns-clause-done : goal.returns-clause-done
returns-clause-done g c = λ i d below.
    let given = (c.for_each_mut.ensures i d below).1 in
    subst (λ w. IsDone (means_history g.P.Panel.history) c.args.board.now (slice_index_or c.for_each_mut.new.s i d).unrecorded w (slice_index_or c.for_each_mut.new.s i d)) given.argument_is
    (subst (λ w. IsDone (means_history g.P.Panel.history) c.args.board.now w.unrecorded given.argument.now w) given.left given.call)
