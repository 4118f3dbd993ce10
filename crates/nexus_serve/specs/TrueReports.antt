-- What a service promises of its replies: each session was told what is true of the one journal.
use Rattle.std.specs.Prelude.{◌≡◌, ℕ, List, [], ◌∷◌, ◌++◌, flat_map, map}
use Rattle.policy_history.specs.declared.heads.Head.{Head}
use Rattle.policy_history.specs.Events.{EntryTree}
use Rattle.authority_ask.specs.PanelCalls.{PanelHistory, asked_since, said_in}
use Rattle.authority_ask.specs.Panels.{Told}
use Rattle.session_core.specs.Earned.{IsTrueReport}
use Rattle.nexus_serve.specs.declared.means.Means.{Means}
use Rattle.nexus_serve.specs.Means.{MeansHistory, means_history}
use Rattle.nexus_serve.specs.Views.{ReportView, reported}

-- what the panels of workers were asked between two moments, worker by worker
abbrev pub asked_between : List MeansHistory → List MeansHistory → List Told
asked_between (own ∷ means) (own_now ∷ means_now) = asked_since own.panel own_now.panel ++ asked_between means means_now
asked_between _ _ = []

-- all that these panels were asked, worker by worker
abbrev pub asked_of : List MeansHistory → List Told
asked_of means = flat_map (λ own. said_in own.panel.calls) means

-- the same, of what is handed back of a service
abbrev pub asked_by : {P C : Type 0} → (P → PanelHistory) → List (Means P C) → List Told
asked_by panel means = asked_of (map (means_history panel) means)

-- Each report is true of the journal with this head and these entries, of which there were so many as the service began; and what was asked in these sessions,
-- session by session, is exactly what was asked of the panels
abbrev pub AreTrue : Head → List EntryTree → ℕ → List Told → List ReportView → Type 0
AreTrue h es low asks [] = asks ≡ []
AreTrue h es low asks (report ∷ reports) =
    (mine : List Told) × (others : List Told) × (asks ≡ mine ++ others) × IsTrueReport h es low (reported report) mine × AreTrue h es low others reports
