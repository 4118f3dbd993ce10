use Rattle.std.proofs.Common.{ap, sym, ◌∙◌, subst}
use Rattle.nx_io.specs.Streams.{Rose}
use Rattle.policy_book.specs.Books.{head_of, trees_of}
use Rattle.nx_io.specs.Views.{SinkView, sink_view}
use Rattle.nexus_serve.proofs.Texts.{text_lasts, text_sent}
use Rattle.nexus_serve.proofs.closing.write_end.Goals as goal

pub returns-clause-text : goal.returns-clause-text
returns-clause-text g c =
    let written = c.broken-is_broken.ensures.written in
    let value = c.broken-is_broken.ensures.value in
    let kept = rw (c.into_parts-journal.ensures.sink) at c.end_unless-sink.ensures in
    let view : g.row.K.Denot → SinkView = sink_view g.K.Sink in
    text_sent (head_of c.args.book) (trees_of c.args.book) c.args.book.start c.args.book.start_faults (view c.args.book.sink) (view c.end_unless-sink.result.0)
    c.end_unless-sink.result.1 c.broken-is_broken.result (rw (c.requires.opened, ← value) at written.text) (λ is. written.failed (sym value ∙ is)) (λ is. written.unbroken (sym value ∙ is))
    (λ is. (ap view (kept.broken is).0, (kept.broken is).1)) (λ is. kept.sent is)

pub returns-clause-failed : goal.returns-clause-failed
returns-clause-failed g c = λ is.
    let written = c.broken-is_broken.ensures.written in
    let value = c.broken-is_broken.ensures.value in
    let kept = rw (c.into_parts-journal.ensures.sink) at c.end_unless-sink.ensures in
    subst (λ k. Rose c.args.book.start_faults (g.K.Sink.faults k)) (sym (kept.broken (value ∙ is)).0) (written.failed is)

pub returns-clause-lasts : goal.returns-clause-lasts
returns-clause-lasts g c =
    let written = c.broken-is_broken.ensures.written in
    let value = c.broken-is_broken.ensures.value in
    let kept = rw (c.into_parts-journal.ensures.sink) at c.end_unless-sink.ensures in
    let view : g.row.K.Denot → SinkView = sink_view g.K.Sink in
    text_lasts (head_of c.args.book) c.args.book.board.origin.opening c.args.book.entries c.args.book.start (view c.args.book.sink) (view c.end_unless-sink.result.0)
    c.end_unless-sink.result.1 c.broken-is_broken.result (rw (c.requires.opened, ← value) at written.text) written.lasts
    (λ is. (ap view (kept.broken is).0, (kept.broken is).1)) (λ is. kept.sent is)
