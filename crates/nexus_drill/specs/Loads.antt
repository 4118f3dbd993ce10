-- The generated load of the machine of the cache: the journal and the actors at its start, its steps, and its line.
use Rattle.std.specs.Prelude.{◌≡◌, ◌%◌, ◌/◌, ℕ, List, [], ◌∷◌, ◌++◌, length, map, take, Bool, true, false, Option, Some, None, slice_get, unwrap_or, codes, count_by}
use Rattle.std.specs.Fmt.{decimal}
use Rattle.std.specs.List.{join_with_byte, last_or}
use Rattle.nal_term.specs.Trees.{FormulaTree, TermTree, atom, name, says}
use Rattle.proof_lines.specs.Lines.{LineTree}
use Rattle.proof_lines.specs.declared.rules.Rule.TheVariants.{Label}
use Rattle.nal_rules.specs.declared.verdicts.Verdict.{Verdict}
use Rattle.nal_rules.specs.declared.verdicts.Verdict.TheVariants.{Allowed, Denied}
use Rattle.label_store.specs.LabelRows.{LabelRow}
use Rattle.policy_history.specs.declared.heads.Head.{Head}
use Rattle.policy_history.specs.Events.{EntryTree, EventTree, delete, new_object, say, set_goal, set_proof}
use Rattle.policy_history.specs.Machine.{replay}
use Rattle.policy_history.specs.Values.{entry_trees}
use Rattle.cache_machine.specs.declared.steps.Outcome.{Outcome}
use Rattle.cache_machine.specs.declared.steps.Told.{Told}
use Rattle.cache_machine.specs.Machines.{IsOutcomeAs, first_state}
use Rattle.cache_machine.specs.Moves.{ActTree, StepTree, write, look, count, snap, answer, fill, run, raise, object, store}
use Rattle.cache_machine.specs.Runs.{Happened, entries_of}
use Rattle.cache_machine.specs.States.{MachineState}
use Rattle.nexus_drill.specs.Draws.{draw}

-- ---- The start

-- the label `alice says ok`
abbrev pub alice : TermTree
alice = name (codes "alice")

abbrev pub ok : FormulaTree
ok = atom (codes "ok") []

abbrev pub label : FormulaTree
label = says alice ok

-- the proof of one line, which is the label
abbrev pub label_proof : List LineTree
label_proof = record { rule = Label; refs = []; term = None; formula = label } ∷ []

-- alice is the only principal
abbrev pub opening_head : Head
opening_head = record { principals = record { name = codes "alice"; secret = codes "pa" } ∷ []; authorities = [] }

-- alice owns the object `f`; its goal for `read` is the label, which she holds and has registered as a proof
abbrev pub opening_events : List EventTree
opening_events =
    new_object (codes "f") ∷ set_goal (codes "read") (codes "f") (Some label) ∷ say (Some alice) (Some ok)
    ∷ set_proof (codes "read") (codes "f") (Some label_proof) ∷ []

abbrev pub opening : List EntryTree
opening = map (λ (e : EventTree). record { session = 1; principal = 0; event = e }) opening_events

-- four actors, all alice
abbrev pub start : MachineState
start = first_state opening_head opening (0 ∷ 0 ∷ 0 ∷ 0 ∷ [])

-- ---- The steps

-- a change deletes the label with this number, if there is one, and says it again otherwise
abbrev pub change_of : Option ℕ → EventTree
change_of None = say (Some alice) (Some ok)
change_of (Some number) = delete number

-- the number of the label that was said last of those that a journal holds
abbrev pub last_label : List EntryTree → Option ℕ
last_label es = last_or None (map (λ (row : LabelRow). row.0) (replay opening_head es).labels)

-- the acts in the order of their numbers, from 0, with the event of a change
abbrev pub acts : EventTree → List ActTree
acts e =
    write e ∷ look (codes "read") (codes "f") ∷ count ∷ snap (codes "read") (codes "f") ∷ answer [] ∷ fill ∷ run ∷ raise e ∷ object ∷ store ∷ []

abbrev pub act_of : ℕ → EventTree → ActTree
act_of number e = unwrap_or (slice_get (acts e) number) store

-- the step of a draw, after these entries
abbrev pub step_of : ℕ → List EntryTree → StepTree
step_of h es = record { actor = h % 4; act = act_of ((h / 4) % 10) (change_of (last_label es)) }

-- Each step is that of its draw, after the journal before it
abbrev pub AreDrawn : ℕ → List EntryTree → List Happened → Type 0
AreDrawn number es happened = (place : ℕ) (x : Happened) → slice_get happened place ≡ Some x → x.step ≡ step_of (draw number place) (take x.at es)

-- The machine takes as many steps as this, drawn from a number, and leaves this
pub record IsLoad (number total : ℕ) (happened : List Happened) (outcome : Outcome) : Type 0 where
  pub steps : List StepTree
  pub many : length steps ≡ total
  pub outcome_is : IsOutcomeAs start steps happened outcome
  pub drawn : AreDrawn number (entry_trees outcome.journal.entries) happened

-- ---- The line

abbrev pub is_allowed : Told → Bool
is_allowed told = allows told.verdict
  where
    allows : Verdict → Bool
    allows Allowed = true
    allows (Denied cause) = false

abbrev pub is_denied : Told → Bool
is_denied told = denies told.verdict
  where
    denies : Verdict → Bool
    denies Allowed = false
    denies (Denied cause) = true

-- the line of these numbers, with its line feed: of steps, of idle ones, of writes, of verdicts that allow and that deny, and of
-- entries at the end
abbrev pub line_of : ℕ → ℕ → ℕ → ℕ → ℕ → ℕ → List ℕ
line_of steps idle writes allowed denied entries =
    join_with_byte 32 (
    codes "steps" ∷ decimal steps ∷ codes "idle" ∷ decimal idle ∷ codes "writes" ∷ decimal writes ∷ codes "allowed" ∷ decimal allowed
    ∷ codes "denied" ∷ decimal denied ∷ codes "length" ∷ decimal entries ∷ [])
    ++ 10 ∷ []

-- the line of what happened and what is left
abbrev pub load_line : ℕ → List Happened → Outcome → List ℕ
load_line total happened outcome =
    line_of total outcome.idle (length (entries_of start.actors happened)) (count_by is_allowed outcome.told) (count_by is_denied outcome.told) (length outcome.journal.entries)

-- The line of the load of a number and as many steps as this
abbrev pub IsCoreLine : ℕ → ℕ → List ℕ → Type 0
IsCoreLine number total line = (happened : List Happened) × (outcome : Outcome) × IsLoad number total happened outcome × (line ≡ load_line total happened outcome)
