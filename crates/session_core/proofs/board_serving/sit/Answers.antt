use Rattle.std.proofs.Common.{[], refl, sym, ◌∙◌}
use Rattle.session_core.specs.Ends.{no_memory}
use Rattle.session_core.proofs.BoardGoing.{gone_first}
use Rattle.session_core.proofs.board_serving.sit.Goals as goal

pub serve_sitting-sharing-requires-clause-told : goal.serve_sitting-sharing-requires-clause-told
serve_sitting-sharing-requires-clause-told g c = gone_first _ _ _ _

pub returns-in-Ok-clause-ready : goal.returns-in-Ok-clause-ready
returns-in-Ok-clause-ready g c =
    let ready = c.serve_sitting-sharing.ensures.ready in
    let told = c.serve_sitting-sharing.ensures.served.told in
    let same = sym ready.1.board_is ∙ told.board_is ∙ c.requires.ready.board_is in
    rw same at ready.1

pub returns-in-Ok-clause-book : goal.returns-in-Ok-clause-book
returns-in-Ok-clause-book g c =
    let ready = c.serve_sitting-sharing.ensures.ready in
    let told = c.serve_sitting-sharing.ensures.served.told in
    ready.0 ∙ sym ready.1.board_is ∙ told.board_is ∙ c.requires.ready.board_is

pub returns-in-Err-clause-sat : goal.returns-in-Err-clause-sat
returns-in-Err-clause-sat g c = record { requests = []; replies = []; ended = no_memory refl c.requires.taken c.requires.sent refl refl; told = gone_first _ _ _ _ }
