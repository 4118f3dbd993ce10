use Rattle.std.proofs.Common.{◌<◌, ◌+◌, ◌*◌, ℕ, length, slice_index_or, sym, ◌∙◌, ap, subst}
use Rattle.std.proofs.lemmas.List.{with_items_is}
use Rattle.std.specs.Prelude.{All}
use Rattle.nexus_serve.specs.Means.{means_history}
use Rattle.nexus_serve.specs.declared.means.Means.{Means}
use Rattle.nexus_serve.specs.Inner.Gathering.{IsRoomFor}
use Rattle.nexus_serve.specs.Inner.Serving.{AreDone, AreOfBoard}
use Rattle.nexus_serve.specs.Inner.Working.{IsDone, WorkerValue}
use Rattle.nexus_serve.proofs.Numbering.{all_done, done_of_board}
use Rattle.nexus_serve.proofs.Seating.{room_done}
use Rattle.nexus_serve.proofs.threads.serve_hired.Goals as goal

pub finish-requires-clause-used : goal.finish-requires-clause-used
finish-requires-clause-used g c =
    let e = c.let_work-book.ensures in
    let is = with_items_is c.args.workers c.let_work-book.new.workers (e.count ∙ c.as_mut_slice.ensures.len) in
    subst (All (AreOfBoard c.args.board.now)) (sym is) (done_of_board (means_history g.P.Panel.history) c.args.board.now c.as_mut_slice.result.now c.let_work-book.new.workers e.count e.done)

pub finish-requires-clause-room : goal.finish-requires-clause-room
finish-requires-clause-room g c =
    let e = c.let_work-book.ensures in
    let is = with_items_is c.args.workers c.let_work-book.new.workers (e.count ∙ c.as_mut_slice.ensures.len) in
    let count = e.count ∙ ap length c.as_mut_slice.ensures.value in
    subst (λ workers. IsRoomFor workers c.args.room) (sym is) (room_done c.args.workers.items c.let_work-book.new.workers c.args.room count c.requires.room)

pub returns : goal.returns
returns g c =
    let e = c.let_work-book.ensures in
    let named = e.book.1 in
    let lent = c.as_mut_slice.ensures.value in
    let is = with_items_is c.args.workers c.let_work-book.new.workers (e.count ∙ c.as_mut_slice.ensures.len) in
    let count = e.count ∙ ap length lent in
    let done = subst (λ workers. (i : ℕ) (d : WorkerValue (Means g.row.P.Denot g.row.C.Denot)) → i < length workers → IsDone (means_history g.P.Panel.history) c.args.board.now (slice_index_or c.let_work-book.new.workers i d).unrecorded (slice_index_or workers i d) (slice_index_or c.let_work-book.new.workers i d)) lent e.done in
    record {
      served = λ most synced hired next.
          rw (named.2, named.3)
          (c.finish.ensures.served most synced c.args.workers.items
          (subst (AreDone (means_history g.P.Panel.history) c.args.board.now c.args.board.now.origin.first most c.args.workers.items) (sym is) (all_done (means_history g.P.Panel.history) c.args.board.now c.args.board.now.origin.first most c.args.workers.items c.let_work-book.new.workers hired count done))
          (sym named.1 ∙ next ∙ ap (λ n. c.args.board.now.origin.first + n * most) (sym (ap length is ∙ count))));
    }
