-- The reports of all workers, each pass met once more.
use Rattle.std.specs.Prelude.{◌≡◌, List, flat_map}
use Rattle.policy_history.specs.declared.events.Entry.{Entry}
use Rattle.policy_history.specs.declared.heads.Head.{Head}
use Rattle.verdict_words.specs.Histories.{IsPrefix, own}
use Rattle.verdict_words.specs.Settling.{met_of}
use Rattle.verdict_words.specs.declared.views.AtomicStep.{AtomicStep}
use Rattle.verdict_words.specs.Values.{Identity, PassValue, met_seen}
use Rattle.policy_book.specs.Books.{session_of}
use Rattle.nexus_serve.specs.Views.{ReportView}
use Rattle.nexus_serve.specs.Inner.Working.{WorkerValue}

-- a report whose pass was met once more, the journal having these entries, and these steps being known
abbrev pub met_report : Identity Entry Head → List Entry → List AtomicStep → ReportView → ReportView
met_report board es known report = record report { pass = met_of board es known report.pass.session report.pass.trail }

-- the reports of all workers, in order
abbrev pub reports_of : {P : Type 0} → List (WorkerValue P) → List ReportView
reports_of workers = flat_map (λ worker. worker.reports) workers

-- the passes that no worker has used
abbrev pub unused_of : {P : Type 0} → List (WorkerValue P) → List (PassValue Entry Head)
unused_of workers = flat_map (λ worker. worker.passes) workers

-- what is learnt of a pass as it is met: what it had seen begins the journal, and no entry of its session stands behind its last meeting
pub record IsMetBy (es : List Entry) (pass : PassValue Entry Head) : Type 0 where
  pub seen : IsPrefix pass.seen es
  pub own_is : own session_of es pass.session ≡ own session_of (met_seen pass) pass.session
