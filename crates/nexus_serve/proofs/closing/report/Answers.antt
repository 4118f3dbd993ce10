use Rattle.std.proofs.Common.{◌≡◌, ◌∙◌, map, sym, ap}
use Rattle.verdict_words.specs.Settling.{all_met, flat, items_of}
use Rattle.nexus_serve.specs.Inner.Gathering.{joined_each}
use Rattle.nexus_serve.proofs.Gathering.{lengths_met}
use Rattle.nexus_serve.proofs.closing.report.Goals as goal

pub settle-passes-requires-clause-passes : goal.settle-passes-requires-clause-passes
settle-passes-requires-clause-passes g c = rw (← c.gathered.view_is) at c.requires.passes

pub with_passes-reports-requires-clause-pairs : goal.with_passes-reports-requires-clause-pairs
with_passes-reports-requires-clause-pairs g c =
    c.gathered.invariant.10 ∙ sym (lengths_met c.args.board.now c.args.book.entries c.settle-passes.new.self.known c.gathered.inside.used.items c.settle-passes.result.items c.settle-passes.ensures.passes)

pub returns : goal.returns
returns g c =
    let closed = rw (c.settle-passes.ensures.book) at c.close.ensures.closed in
    let settled = c.settle-passes.ensures in
    let met : items_of c.settle-passes.result.items ≡ map (all_met c.args.book.board c.args.book.entries c.settle-passes.new.self.known) (items_of c.gathered.inside.used.items) =
    settled.passes ∙ ap (λ b. map (all_met b c.args.book.entries c.settle-passes.new.self.known) (items_of c.gathered.inside.used.items)) (sym c.requires.board) in
    rw (← c.gathered.view_is)
    (record {
      reported = record {
        journal = closed.journal;
        sink_now = closed.sink_now;
        sink = closed.sink;
        text = closed.text;
        failed = closed.failed;
        lasts = closed.lasts;
        known = c.settle-passes.new.self.known;
        reports = closed.reports_are ∙ ap flat (c.with_passes-reports.ensures ∙ ap (joined_each _) met);
        doors = closed.doors_are;
        means = closed.means_are;
        end = closed.end_is ∙ c.end_of.ensures;
        met = settled.met;
        order = settled.known;
        legal = closed.legal;
        numbered = closed.numbered;
      };
    })
