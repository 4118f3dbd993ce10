-- The policy machine: which events are refused and why, what an accepted one changes, and the state that a list of
-- entries leads to.
use Rattle.std.specs.Prelude.{◌≡◌, ◌<◌, ◌+◌, ℕ, List, [], ◌∷◌, ◌++◌, length, Bool, true, false, not, ◌&&◌, ◌||◌, nat_eq, nat_lt, nat_le, Option, Some, None, is_some, is_none, unwrap_or, codes, Result, Ok, Err, if◌then◌else◌, slice_set}
use Rattle.std.specs.List.{find, list_all, list_any}
use Rattle.nal_term.specs.Trees.{TermTree, FormulaTree, name, subprincipal, says}
use Rattle.nal_term.specs.TreeKeys.{same_bytes}
use Rattle.nal_term.specs.Closed.{covers, covers_term}
use Rattle.nal_parse.specs.Canonical.{formula_text, formula_levels, term_text, most_levels, most_text_bytes}
use Rattle.proof_lines.specs.Lines.{LineTree}
use Rattle.proof_text.specs.CanonicalProof.{proof_text, most_proof_bytes}
use Rattle.object_table.specs.Objects.{number_of}
use Rattle.goal_store.specs.GoalRows.{is_goal, is_port, port_of}
use Rattle.proof_store.specs.Cases.{CaseRow, is_case}
use Rattle.label_store.specs.LabelRows.{LabelRow, has_number, holder_of}
use Rattle.policy_history.specs.declared.heads.Head.{Head}
use Rattle.policy_history.specs.declared.heads.Authority.{Authority}
use Rattle.policy_history.specs.declared.tallies.Tally.{Tally}
use Rattle.policy_history.specs.declared.events.Refusal.{Refusal}
use Rattle.policy_history.specs.declared.events.Refusal.TheVariants.{NoSuchPrincipal, NotYourPrincipal, NoSuchLabel, NotHolder, NoSuchObject, NameTaken, NotOwner, NoGoal, NoSuchProof, NoBinding, BadPort, BadFormula, BadProof, Quota, JournalFull, ObjectsFull, CasesFull}
use Rattle.policy_history.specs.Events.{EventTree, EntryTree, say, transfer, delete, new_object, set_goal, clear_goal, set_proof, clear_proof, bind, unbind, name_of, numbered}
use Rattle.policy_history.specs.PolicyLines.{entry_line}
use Rattle.policy_history.specs.Rows.{put, alter, take_out}
use Rattle.policy_history.specs.States.{State, empty_state, tally_of, object_or_0, owner_named, goal_named, case_named, proof_named}

-- ---- How much there may be: of one principal's entries and their lines, of all together, of objects, and of rows of proofs

abbrev pub most_entries_of_one : ℕ
most_entries_of_one = 4096

abbrev pub most_bytes_of_one : ℕ
most_bytes_of_one = 524288

abbrev pub most_entries : ℕ
most_entries = 262144

abbrev pub most_journal_bytes : ℕ
most_journal_bytes = 33554432

abbrev pub most_objects : ℕ
most_objects = 65536

abbrev pub most_rows : ℕ
most_rows = 262144

-- ---- What is spelled: given, and within the limits of its canonical text

abbrev pub term_fits : TermTree → Bool
term_fits t = nat_le (length (term_text t)) most_text_bytes

abbrev pub formula_fits : FormulaTree → Bool
formula_fits f = nat_le (length (formula_text f)) most_text_bytes && nat_le (formula_levels f) most_levels

abbrev pub bracket_fits : Option TermTree → Bool
bracket_fits None = true
bracket_fits (Some t) = term_fits t

abbrev pub line_fits : LineTree → Bool
line_fits l = formula_fits l.formula && bracket_fits l.term

abbrev pub proof_fits : List LineTree → Bool
proof_fits ls = nat_lt 0 (length ls) && (nat_le (length (proof_text ls)) most_proof_bytes && list_all line_fits ls)

-- a term that is spelled and closed
abbrev pub is_stated : Option TermTree → Bool
is_stated None = false
is_stated (Some t) = term_fits t && covers_term [] t

-- a formula that is spelled and closed
abbrev pub is_statement : Option FormulaTree → Bool
is_statement None = false
is_statement (Some f) = formula_fits f && covers [] f

-- a formula that is spelled, with no free variable but `?subject`
abbrev pub is_goal_formula : Option FormulaTree → Bool
is_goal_formula None = false
is_goal_formula (Some f) = formula_fits f && covers (codes "subject" ∷ []) f

-- the label `principal says formula` is within the limits
abbrev pub label_fits : Option TermTree → Option FormulaTree → Bool
label_fits (Some t) (Some f) = formula_fits (says t f)
label_fits _ _ = false

-- a proof that is spelled
abbrev pub is_proof : Option (List LineTree) → Bool
is_proof None = false
is_proof (Some ls) = proof_fits ls

-- ---- The refusals, each with the events that it is of

-- the term is the caller's name, or a part of the caller
abbrev pub is_own : List ℕ → TermTree → Bool
is_own caller (name x) = same_bytes caller x
is_own caller (subprincipal t x) = is_own caller t
is_own caller _ = false

-- the principal is spelled and closed, and is not the caller's own
abbrev pub is_foreign : List ℕ → Option TermTree → Bool
is_foreign caller None = false
is_foreign caller (Some t) = is_stated (Some t) && not (is_own caller t)

-- there is someone here, and it is another
abbrev pub is_another : Option ℕ → ℕ → Bool
is_another None p = false
is_another (Some q) p = not (nat_eq q p)

-- the principal is spelled and closed, and has no port
abbrev pub is_portless : State → Option TermTree → Bool
is_portless s None = false
is_portless s (Some t) = is_stated (Some t) && is_none (port_of s.ports t)

-- one more line of this length is more than a principal may add
abbrev pub is_spent : Tally → ℕ → Bool
is_spent tally bytes = nat_le most_entries_of_one tally.entries || nat_lt most_bytes_of_one (tally.bytes + bytes)

-- one more line of this length is more than the journal may have
abbrev pub is_full : State → ℕ → Bool
is_full s bytes = nat_le most_entries s.entries || nat_lt most_journal_bytes (s.bytes + bytes)

-- `applies h s session p e refusal`: in the state s, the event e of principal p in this session has this against it
abbrev pub applies : Head → State → ℕ → ℕ → EventTree → Refusal → Bool
applies h s session p (transfer k to) NoSuchPrincipal = is_none (numbered h.principals to)
applies h s session p (say t f) NotYourPrincipal = is_foreign (name_of h.principals p) t
applies h s session p (bind t port) NotYourPrincipal = is_foreign (name_of h.principals p) t
applies h s session p (unbind t) NotYourPrincipal = is_foreign (name_of h.principals p) t
applies h s session p (transfer k to) NoSuchLabel = is_none (holder_of s.labels k)
applies h s session p (delete k) NoSuchLabel = is_none (holder_of s.labels k)
applies h s session p (transfer k to) NotHolder = is_another (holder_of s.labels k) p
applies h s session p (delete k) NotHolder = is_another (holder_of s.labels k) p
applies h s session p (set_goal op object g) NoSuchObject = is_none (number_of s.objects object)
applies h s session p (clear_goal op object) NoSuchObject = is_none (number_of s.objects object)
applies h s session p (set_proof op object ls) NoSuchObject = is_none (number_of s.objects object)
applies h s session p (clear_proof op object) NoSuchObject = is_none (number_of s.objects object)
applies h s session p (new_object x) NameTaken = is_some (number_of s.objects x)
applies h s session p (set_goal op object g) NotOwner = is_another (owner_named s object) p
applies h s session p (clear_goal op object) NotOwner = is_another (owner_named s object) p
applies h s session p (clear_goal op object) NoGoal = is_none (goal_named s op object)
applies h s session p (clear_proof op object) NoSuchProof = is_none (proof_named s p op object)
applies h s session p (unbind t) NoBinding = is_portless s t
applies h s session p (bind t port) BadPort = not (list_any (λ (a : Authority). nat_eq port a.port) h.authorities)
applies h s session p (say t f) BadFormula = not (is_stated t && (is_statement f && label_fits t f))
applies h s session p (bind t port) BadFormula = not (is_stated t)
applies h s session p (unbind t) BadFormula = not (is_stated t)
applies h s session p (set_goal op object g) BadFormula = not (is_goal_formula g)
applies h s session p (set_proof op object ls) BadProof = not (is_proof ls)
applies h s session p e Quota = is_spent (tally_of s p) (length (entry_line session (name_of h.principals p) e))
applies h s session p e JournalFull = is_full s (length (entry_line session (name_of h.principals p) e))
applies h s session p (new_object x) ObjectsFull = nat_le most_objects (length s.objects)
applies h s session p (set_proof op object ls) CasesFull = is_none (case_named s p op object) && nat_le most_rows (length s.cases)
applies h s session p _ _ = false

-- the refusals of the machine in their order; `NotRecorded` is none of them
abbrev pub refusals : List Refusal
refusals =
    NoSuchPrincipal ∷ NotYourPrincipal ∷ NoSuchLabel ∷ NotHolder ∷ NoSuchObject ∷ NameTaken ∷ NotOwner ∷ NoGoal
    ∷ NoSuchProof ∷ NoBinding ∷ BadPort ∷ BadFormula ∷ BadProof ∷ Quota ∷ JournalFull ∷ ObjectsFull ∷ CasesFull ∷ []

-- the refusal of an event: the first that applies; none where it is accepted
abbrev pub refusal_of : Head → State → ℕ → ℕ → EventTree → Option Refusal
refusal_of h s session p e = find (applies h s session p e) refusals

-- ---- What an accepted event does

-- the rows after an event of principal p
abbrev pub changed : Head → State → ℕ → EventTree → State
changed h s p (say (Some t) (Some f)) = record s { labels = s.labels ++ (s.entries + 1, p, says t f) ∷ [] }
changed h s p (transfer k to) = record s { labels = alter (has_number k) (λ (row : LabelRow). (row.0, unwrap_or (numbered h.principals to) p, row.2)) s.labels }
changed h s p (delete k) = record s { labels = take_out (has_number k) s.labels }
changed h s p (new_object x) = record s { objects = s.objects ++ (x, p) ∷ [] }
changed h s p (set_goal op object (Some g)) = record s { goals = put (is_goal op (object_or_0 s object)) (op, object_or_0 s object, g) s.goals }
changed h s p (clear_goal op object) = record s { goals = take_out (is_goal op (object_or_0 s object)) s.goals }
changed h s p (set_proof op object (Some ls)) = record s { cases = put (is_case p op (object_or_0 s object)) (p, op, object_or_0 s object, Some ls) s.cases }
changed h s p (clear_proof op object) = record s { cases = alter (is_case p op (object_or_0 s object)) (λ (row : CaseRow). (row.0, row.1, row.2, None)) s.cases }
changed h s p (bind (Some t) port) = record s { ports = put (is_port t) (t, port) s.ports }
changed h s p (unbind (Some t)) = record s { ports = take_out (is_port t) s.ports }
changed h s p _ = s

-- one more entry of principal p, whose line has this length
abbrev pub counted : State → ℕ → ℕ → State
counted s p bytes = record s {
  entries = s.entries + 1;
  bytes = s.bytes + bytes;
  tallies = slice_set s.tallies p (record { entries = (tally_of s p).entries + 1; bytes = (tally_of s p).bytes + bytes });
}

-- the number that is replied to an accepted event: of a label, an object or a case; else 0
abbrev pub reply_number : State → ℕ → EventTree → ℕ
reply_number s p (say t f) = s.entries + 1
reply_number s p (new_object x) = length s.objects
reply_number s p (set_proof op object ls) = unwrap_or (case_named s p op object) (length s.cases)
reply_number s p _ = 0

-- the state after an accepted event
abbrev pub accepted : Head → State → ℕ → ℕ → EventTree → State
accepted h s session p e = counted (changed h s p e) p (length (entry_line session (name_of h.principals p) e))

-- ---- Steps, and lists of them

-- one event of principal p: refused, or the reply number and the new state
abbrev pub step : Head → State → ℕ → ℕ → EventTree → Result (ℕ × State) Refusal
step h s session p e = answer (refusal_of h s session p e)
  where
    answer : Option Refusal → Result (ℕ × State) Refusal
    answer (Some refusal) = Err refusal
    answer None = Ok (reply_number s p e, accepted h s session p e)

-- the state after an entry: one that is refused, or whose principal is none of the head's, leaves it
abbrev pub after : Head → State → EntryTree → State
after h s e = if nat_lt e.principal (length h.principals) then left (refusal_of h s e.session e.principal e.event) else s
  where
    left : Option Refusal → State
    left (Some refusal) = s
    left None = accepted h s e.session e.principal e.event

-- the state after a list of entries, from a state and from the beginning
abbrev pub replay_from : Head → State → List EntryTree → State
replay_from h s [] = s
replay_from h s (e ∷ es) = replay_from h (after h s e) es

abbrev pub replay : Head → List EntryTree → State
replay h es = replay_from h (empty_state h) es

-- the entry is of a principal of the head, and is accepted
abbrev pub IsAccepted : Head → State → EntryTree → Type 0
IsAccepted h s e = (e.principal < length h.principals) × (refusal_of h s e.session e.principal e.event ≡ None)

-- each entry of the list is accepted in its place
abbrev pub IsLegalFrom : Head → State → List EntryTree → Type 0
IsLegalFrom h s [] = Unit {0}
IsLegalFrom h s (e ∷ es) = IsAccepted h s e × IsLegalFrom h (after h s e) es

abbrev pub IsLegal : Head → List EntryTree → Type 0
IsLegal h es = IsLegalFrom h (empty_state h) es
