-- The text of a policy at the front of a longer text, where no session may have a number above a bound.
use Rattle.std.specs.Prelude.{◌≡◌, ◌≢◌, ◌<◌, ◌≤◌, ◌+◌, ◌⊎◌, ℕ, List, []}
use Rattle.std.specs.List.{All}
use Rattle.policy_history.specs.declared.heads.Head.{Head}
use Rattle.policy_history.specs.declared.events.Refusal.{Refusal}
use Rattle.policy_history.specs.Events.{EntryTree}
use Rattle.policy_history.specs.Laws.{refusal_number}
use Rattle.policy_history.specs.Machine.{IsAccepted, replay}
use Rattle.text_lines.specs.Lines.{first_line}
use Rattle.journal_text.specs.PolicyText.{Stage, header_due, open_with, ended_with, Leads, Fault, formless, refusal, IsEntryLine, IsFaultAt, IsUnended}
use Rattle.journal_text.specs.declared.policy_reader.PolicyError.{PolicyError}
use Rattle.journal_text.specs.declared.policy_reader.PolicyError.TheVariants.{Bad, Refused, TooLong, Memory}

-- no entry has a session above this number
abbrev pub AreBelow : ℕ → List EntryTree → Type 0
AreBelow most es = All (λ (e : EntryTree). e.session ≤ most) es

-- the same of the entries that were read
abbrev pub IsBelow : ℕ → Stage → Type 0
IsBelow most header_due = Unit {0}
IsBelow most (open_with h es) = AreBelow most es
IsBelow most (ended_with h es) = AreBelow most es

-- the first n lines of the text are the text of a policy with this head and these entries, and `rest` follows
pub record IsFront (most : ℕ) (text : List ℕ) (h : Head) (es : List EntryTree) (n : ℕ) (rest : List ℕ) : Type 0 where
  pub led : Leads header_due text n (ended_with h es) rest
  pub below : AreBelow most es

-- Of the lines of the policy line k is the lowest that is wrong, and this is wrong with it; where the text ends before the policy
-- does, k is the number after that of its last line.
pub record IsWrongIn (most : ℕ) (stage : Stage) (text : List ℕ) (k : ℕ) (fault : Fault) : Type 0 where
  pub before : ℕ
  pub last : Stage
  pub rest : List ℕ
  pub number : k ≡ before + 1
  pub led : Leads stage text before last rest
  pub unended : IsUnended last
  pub below : IsBelow most last
  pub wrong : IsFaultAt last rest fault

-- line k is the first that is of an entry which is accepted, but whose session is above the bound, and no line before it is wrong
pub record IsAboveIn (most : ℕ) (stage : Stage) (text : List ℕ) (k : ℕ) : Type 0 where
  pub before : ℕ
  pub head : Head
  pub entries : List EntryTree
  pub rest : List ℕ
  pub last : EntryTree
  pub number : k ≡ before + 1
  pub led : Leads stage text before (open_with head entries) rest
  pub below : AreBelow most entries
  pub some : rest ≢ []
  pub line : IsEntryLine head (first_line rest) last
  pub accepted : IsAccepted head (replay head entries) last
  pub above : most < last.session

-- line k is the lowest that is wrong, or whose session is above the bound
pub data IsWrongFront (most : ℕ) (text : List ℕ) (k : ℕ) : Type 0 where
  wrong : (fault : Fault) → IsWrongIn most header_due text k fault → IsWrongFront most text k
  above : IsAboveIn most header_due text k → IsWrongFront most text k

-- the error of a text that has no such front; want of memory says nothing of it
abbrev pub IsFrontError : ℕ → List ℕ → PolicyError → Type 0
IsFrontError most text (Bad k) = IsWrongIn most header_due text k formless ⊎ IsAboveIn most header_due text k
IsFrontError most text (Refused k number) = (r : Refusal) × (number ≡ refusal_number r) × IsWrongIn most header_due text k (refusal r)
IsFrontError most text TooLong = ⊥
IsFrontError most text Memory = Unit {0}
