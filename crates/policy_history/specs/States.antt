-- The state of the policy: five tables of rows, and how much each principal has added to the journal.
use Rattle.std.specs.Prelude.{ℕ, List, [], map, Option, option_and_then, unwrap_or, slice_get}
use Rattle.nal_term.specs.Trees.{FormulaTree}
use Rattle.proof_lines.specs.Lines.{LineTree}
use Rattle.object_table.specs.Objects.{ObjectRow, number_of, owner_of}
use Rattle.goal_store.specs.GoalRows.{GoalRow, PortRow, goal_of}
use Rattle.proof_store.specs.Cases.{CaseRow, proof_of, number_of as case_number}
use Rattle.label_store.specs.LabelRows.{LabelRow}
use Rattle.policy_history.specs.declared.heads.Head.{Head}
use Rattle.policy_history.specs.declared.heads.Principal.{Principal}
use Rattle.policy_history.specs.declared.tallies.Tally.{Tally}

-- the rows of labels (number, holder, label), of goals (operation, object, goal), of bindings (principal, port), of
-- proofs (subject, operation, object, proof or none) and of objects (name, owner); how many entries were accepted, with
-- the bytes of their lines; and for each principal, in the order of their numbers, how many of these are its own, with
-- the bytes of their lines
pub record State : Type 0 where
  pub labels : List LabelRow
  pub goals : List GoalRow
  pub ports : List PortRow
  pub cases : List CaseRow
  pub objects : List ObjectRow
  pub entries : ℕ
  pub bytes : ℕ
  pub tallies : List Tally

-- nothing was said, set, registered or bound yet
abbrev pub empty_state : Head → State
empty_state h = record {
  labels = [];
  goals = [];
  ports = [];
  cases = [];
  objects = [];
  entries = 0;
  bytes = 0;
  tallies = map (λ (x : Principal). record { entries = 0; bytes = 0 }) h.principals;
}

-- what the principal with this number has added
abbrev pub tally_of : State → ℕ → Tally
tally_of s p = unwrap_or (slice_get s.tallies p) (record { entries = 0; bytes = 0 })

-- the number of the object with this name, or 0
abbrev pub object_or_0 : State → List ℕ → ℕ
object_or_0 s object = unwrap_or (number_of s.objects object) 0

-- the owner of the object with this name
abbrev pub owner_named : State → List ℕ → Option ℕ
owner_named s object = option_and_then (owner_of s.objects) (number_of s.objects object)

-- the goal of an operation on the object with this name
abbrev pub goal_named : State → List ℕ → List ℕ → Option FormulaTree
goal_named s op object = option_and_then (goal_of s.goals op) (number_of s.objects object)

-- the case number of a subject, an operation and the object with this name
abbrev pub case_named : State → ℕ → List ℕ → List ℕ → Option ℕ
case_named s p op object = option_and_then (case_number s.cases p op) (number_of s.objects object)

-- the proof of a subject, an operation and the object with this name
abbrev pub proof_named : State → ℕ → List ℕ → List ℕ → Option (List LineTree)
proof_named s p op object = option_and_then (proof_of s.cases) (case_named s p op object)
