use Rattle.std.proofs.Common.{List, ◌∙◌, ap, subst, sym}
use Rattle.nexus_serve.specs.Views.{ReportView}
use Rattle.verdict_words.specs.Settling.{flat}
use Rattle.service_drill.specs.Inner.{CountsLinks, sent_over}
use Rattle.service_drill.specs.Runs.{LeftView}
use Rattle.service_drill.proofs.Tallying.{counts_of}
use Rattle.service_drill.proofs.counting.count_in.Goals as goal

pub returns : goal.returns
returns c =
    counts_of c.args.served.now c.served.inside.reports.items c.in-Some.journal c.in_ok-allowed.allowed c.in_ok-allowed.denied c.count-entries.result
    (ap (λ (s : LeftView). s.journal) (sym c.served.view_is) ∙ c.in-Some.is) (ap (λ (s : LeftView). s.reports) (sym c.served.view_is))
    (subst (λ (workers : List (List ReportView)). CountsLinks (sent_over (flat workers)) (c.in_ok-allowed.allowed, c.in_ok-allowed.denied)) c.as_slice.ensures.value c.in_ok-allowed.ensures) c.count-entries.ensures.count
