use Rattle.std.proofs.Common.{ℕ, List, ◌∙◌, ap, subst}
use Rattle.std.specs.Prelude.{IfOk}
use Rattle.service_drill.specs.Inner.{CountsLinks, sent_in, sent_over}
use Rattle.service_drill.proofs.Tallying.{joined_links}
use Rattle.service_drill.proofs.counting.count_reports.Goals as goal

pub returns : goal.returns
returns c =
    subst (λ (links : List (List ℕ)). IfOk c.count_sessions.result (CountsLinks links))
    (ap sent_in c.as_slice.ensures.value ∙ joined_links c.reports.inside.sessions.items c.reports.inside.passes.items c.reports.invariant ∙ ap sent_over c.reports.view_is) c.count_sessions.ensures
