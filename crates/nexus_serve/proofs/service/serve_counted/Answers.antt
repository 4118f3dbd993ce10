use Rattle.std.proofs.Common.{◌≡◌, Some, length, ap, ◌∙◌}
use Rattle.std.proofs.lemmas.List.{length-map}
use Rattle.nx_io.specs.Views.{SinkView, door_view, sink_view}
use Rattle.policy_history.specs.Values.{entry_trees}
use Rattle.policy_book.specs.Books.{head_of}
use Rattle.nexus_serve.specs.Means.{means_history}
use Rattle.nexus_serve.specs.Services.{no_memory}
use Rattle.nexus_serve.proofs.AuditOfRecords.{serves_audited, unserved_audited}
use Rattle.nexus_serve.proofs.TruthOfReports.{none_true, same_between, serves_true}
use Rattle.nexus_serve.proofs.service.serve_counted.Goals as goal

pub returns-in-Ok-prepare : goal.returns-in-Ok-prepare
returns-in-Ok-prepare g c =
    let kept : c.prepare.new.book.sink ≡ c.args.sink = ap (λ book. book.sink) c.in-Ok-prepare.ensures.book ∙ ap (λ book. book.sink) c.in-Ok-make.ensures.book in
    let served = rw (kept, c.in-Ok-make.ensures.board) at c.serve_book.ensures.served in
    record {
      served = served;
      earned = λ es is. serves_true es served is;
      audited = λ written fresh sink_now is. serves_audited written (length c.args.doors.items) (length-map c.args.doors.items (door_view g.D.Door g.D.Link.Link)) c.requires.numbers fresh served sink_now is;
    }

pub returns-in-Ok-make : goal.returns-in-Ok-make
returns-in-Ok-make g c =
    let made = c.in-Ok-make.ensures in
    let kept = c.in-Err-prepare.ensures.kept in
    let parts = c.into_parts-journal.ensures in
    let e = c.unserved-in-Err-prepare.ensures in
    let head : c.into_parts-journal.result.0.head ≡ c.args.journal.head = parts.head ∙ ap (λ book. head_of book) kept ∙ ap (λ book. head_of book) made.book ∙ ap (λ origin. origin.setting) made.board in
    let entries : c.into_parts-journal.result.0.entries ≡ c.args.journal.entries = parts.entries ∙ ap (λ book. book.entries) kept ∙ ap (λ book. book.entries) made.book ∙ ap (λ origin. origin.opening) made.board in
    let sink : c.into_parts-journal.result.1 ≡ c.args.sink = parts.sink ∙ ap (λ book. book.sink) kept ∙ ap (λ book. book.sink) made.book in
    let journal = rw (head, entries) at e.journal in
    let view : g.row.K.Denot → SinkView = sink_view g.K.Sink in
    let served = no_memory journal (e.sink ∙ ap (λ k. Some (view k)) sink) e.back.reports e.back.doors_are e.back.means_are e.back.written e.end in
    record {
      served = served;
      audited = λ written fresh sink_now is. serves_audited written (length c.args.doors.items) (length-map c.args.doors.items (door_view g.D.Door g.D.Link.Link)) c.requires.numbers fresh served sink_now is;
      earned = λ es is. none_true c.args.journal.head (entry_trees es) (length c.args.journal.entries) _ _ e.back.reports (same_between (means_history g.P.Panel.history) _ _ e.back.means_are);
    }

pub returns-in_default-clause-audited : goal.returns-in_default-clause-audited
returns-in_default-clause-audited g c = λ written fresh sink_now is. unserved_audited (sink_view g.K.Sink c.args.sink) sink_now _ _ c.unserved.ensures.back.means_are fresh

pub returns-clause-audited : goal.returns-clause-audited
returns-clause-audited g c = λ written fresh sink_now is. unserved_audited (sink_view g.K.Sink c.args.sink) sink_now _ _ c.unserved-in-Err.ensures.back.means_are fresh

pub returns-in_default-clause-earned : goal.returns-in_default-clause-earned
returns-in_default-clause-earned g c = λ es is.
    none_true c.args.journal.head (entry_trees es) (length c.args.journal.entries) _ _ c.unserved.ensures.back.reports (same_between (means_history g.P.Panel.history) _ _ c.unserved.ensures.back.means_are)

pub returns-clause-earned : goal.returns-clause-earned
returns-clause-earned g c = λ es is.
    none_true c.args.journal.head (entry_trees es) (length c.args.journal.entries) _ _ c.unserved-in-Err.ensures.back.reports (same_between (means_history g.P.Panel.history) _ _ c.unserved-in-Err.ensures.back.means_are)
