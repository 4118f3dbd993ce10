-- What the reports of a service tell, as plain values.
use Rattle.std.specs.Prelude.{ℕ, List, [], ◌∷◌, Option}
use Rattle.nx_io.specs.Views.{LinkView}
use Rattle.policy_history.specs.declared.events.Entry.{Entry}
use Rattle.policy_history.specs.declared.heads.Head.{Head}
use Rattle.policy_history.specs.Values.{entry_trees}
use Rattle.verdict_words.specs.Values.{PassValue}
use Rattle.session_core.specs.declared.ends.SessionEnd.{SessionEnd}
use Rattle.session_core.specs.Served.{Reported}
use Rattle.nexus_serve.specs.declared.reporting.ServedSession.{ServedSession}

-- what is reported of a session
pub record ReportView : Type 0 where
  pub session : ℕ
  pub who : Option ℕ
  pub end : SessionEnd
  pub link : LinkView
  pub pass : PassValue Entry Head

-- what is reported of a session beside its pass
pub record SessionView : Type 0 where
  pub session : ℕ
  pub who : Option ℕ
  pub end : SessionEnd
  pub link : LinkView

-- the report of a session and its pass
abbrev pub with_pass : SessionView → PassValue Entry Head → ReportView
with_pass session pass = record { session = session.session; who = session.who; end = session.end; link = session.link; pass = pass }

-- the reports of these sessions, each with the pass at its place
abbrev pub joined : List SessionView → List (PassValue Entry Head) → List ReportView
joined [] passes = []
joined (session ∷ sessions) [] = []
joined (session ∷ sessions) (pass ∷ passes) = with_pass session pass ∷ joined sessions passes

-- what a report says of what its session was told
abbrev pub reported : ReportView → Reported
reported report = record {
  session = report.session;
  end = report.end;
  who = report.who;
  taken = report.link.taken;
  sent = report.link.sent;
  seen = entry_trees report.pass.seen;
  trail = report.pass.trail;
}

-- what is reported of a session beside its pass, its link by what it tells
abbrev pub session_view : {L : Type 0} → (L → LinkView) → ServedSession L → SessionView
session_view view session = record {
  session = session.session;
  who = session.principal;
  end = session.end;
  link = view session.link;
}
