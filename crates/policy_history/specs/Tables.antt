-- What the tables of the policy hold.
use Rattle.std.specs.Prelude.{ℕ, min}
use Rattle.goal_store.specs.GoalRows.{goals, ports}
use Rattle.proof_store.specs.Cases.{rows as case_rows}
use Rattle.label_store.specs.LabelRows.{rows as label_rows}
use Rattle.policy_history.specs.declared.tables.Policy.{Policy}
use Rattle.policy_history.specs.States.{State}

-- the rows of the tables, and the tallies
abbrev pub state_of : Policy → State
state_of p = record {
  labels = label_rows p.labels;
  goals = goals p.goals;
  ports = ports p.goals;
  cases = case_rows p.cases;
  objects = p.objects.rows;
  entries = p.entries;
  bytes = p.bytes;
  tallies = p.tallies.items;
}

-- how many more rows of each table there is memory for
abbrev pub spare_of : Policy → ℕ
spare_of p = min (min p.labels.spare p.goals.spare) (min p.cases.spare p.objects.spare)
