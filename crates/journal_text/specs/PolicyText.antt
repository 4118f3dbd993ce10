-- What a text reads as: the head of a policy, and its accepted changes.
use Rattle.std.specs.Prelude.{◌≡◌, ◌≢◌, ◌<◌, ◌≤◌, ◌+◌, ◌^◌, ◌⊎◌, ℕ, List, [], ◌∷◌, ◌++◌, length, codes, Some}
use Rattle.std.specs.Fmt.{decimal}
use Rattle.nal_term.specs.Names.{IsName}
use Rattle.nal_term.specs.Secrets.{IsSecret}
use Rattle.policy_history.specs.declared.heads.Head.{Head}
use Rattle.policy_history.specs.declared.heads.Principal.{Principal}
use Rattle.policy_history.specs.declared.heads.Authority.{Authority}
use Rattle.policy_history.specs.declared.events.Refusal.{Refusal}
use Rattle.policy_history.specs.Heads.{ArePrincipals, AreAuthorities}
use Rattle.policy_history.specs.Events.{EventTree, EntryTree, numbered}
use Rattle.policy_history.specs.PolicyLines.{spaced}
use Rattle.policy_history.specs.PolicyTexts.{authority_text, principal_text}
use Rattle.policy_history.specs.Machine.{IsAccepted, refusal_of, replay}
use Rattle.policy_history.specs.Laws.{refusal_number}
use Rattle.session_wire.specs.declared.requests.Request.{Request}
use Rattle.text_lines.specs.Lines.{first_line, after_line}
use Rattle.journal_text.specs.RequestLines.{IsRequestText}
use Rattle.journal_text.specs.RequestEvents.{IsEventOf}
use Rattle.journal_text.specs.declared.policy_reader.PolicyError.{PolicyError}
use Rattle.journal_text.specs.declared.policy_reader.PolicyError.TheVariants.{Bad, Refused, TooLong, Memory}

-- how much of a text stands: nothing yet, this head and these entries, or all of them with the line `end`
pub data Stage : Type 0 where
  header_due : Stage
  open_with : Head → List EntryTree → Stage
  ended_with : Head → List EntryTree → Stage

-- a head of these principals and authorities
abbrev pub head_of : List Principal → List Authority → Head
head_of ps qs = record { principals = ps; authorities = qs }

-- the text is that of a request which asks for this event
abbrev pub IsEventText : List ℕ → EventTree → Type 0
IsEventText text e = (request : Request) × IsRequestText text request × IsEventOf request e

-- the line `SESSION NAME EVENT` of an entry: NAME is that of one of the head's principals
pub record IsEntryLine (h : Head) (line : List ℕ) (e : EntryTree) : Type 0 where
  pub name : List ℕ
  pub text : List ℕ
  pub formed : line ≡ spaced (decimal e.session) (spaced name text)
  pub named : IsName name
  pub session : (1 ≤ e.session) × (e.session < 2 ^ 64)
  pub principal : numbered h.principals name ≡ Some e.principal
  pub event : IsEventText text e.event

-- `Follows stage line next`: the line may stand at this stage, and leads to the next
pub data Follows : Stage → List ℕ → Stage → Type 0 where
  header : {line : List ℕ} → (line ≡ codes "nexus 1") ⊎ (line ≡ codes "nexus 2") → Follows header_due line (open_with (head_of [] []) [])
  principal : {line : List ℕ} {ps : List Principal} (p : Principal) → line ≡ principal_text p → IsName p.name → IsSecret p.secret → ArePrincipals (ps ++ p ∷ [])
      → Follows (open_with (head_of ps []) []) line (open_with (head_of (ps ++ p ∷ []) []) [])
  authority : {line : List ℕ} {ps : List Principal} {qs : List Authority} (a : Authority) → line ≡ authority_text a → AreAuthorities (qs ++ a ∷ [])
      → Follows (open_with (head_of ps qs) []) line (open_with (head_of ps (qs ++ a ∷ [])) [])
  entry : {line : List ℕ} {h : Head} {es : List EntryTree} (e : EntryTree) → IsEntryLine h line e → IsAccepted h (replay h es) e
      → Follows (open_with h es) line (open_with h (es ++ e ∷ []))
  end : {line : List ℕ} {h : Head} {es : List EntryTree} → line ≡ codes "end" → Follows (open_with h es) line (ended_with h es)

-- `Leads stage text n last rest`: the first n lines of the text lead from one stage to another, and `rest` follows them
pub data Leads : Stage → List ℕ → ℕ → Stage → List ℕ → Type 0 where
  here : {stage : Stage} {text : List ℕ} → Leads stage text 0 stage text
  on : {stage next last : Stage} {text rest : List ℕ} {n : ℕ} → text ≢ [] → Follows stage (first_line text) next → Leads next (after_line text) n last rest
      → Leads stage text (n + 1) last rest

-- how many bytes the text of a policy may have
abbrev pub most_bytes : ℕ
most_bytes = 67108864

-- the text reads as this head and these entries
abbrev pub ReadsAs : List ℕ → Head → List EntryTree → Type 0
ReadsAs text h es = (length text ≤ most_bytes) × (n : ℕ) × Leads header_due text n (ended_with h es) []

-- ---- What is told of a text that reads as none

-- what is wrong in a line: its form, or the event of an entry, which the machine refuses
pub data Fault : Type 0 where
  formless : Fault
  refusal : Refusal → Fault

-- the line is that of an entry, and its event is refused at this stage
abbrev pub IsRefusedAt : Stage → List ℕ → Refusal → Type 0
IsRefusedAt (open_with h es) line r = (e : EntryTree) × IsEntryLine h line e × (refusal_of h (replay h es) e.session e.principal e.event ≡ Some r)
IsRefusedAt _ line r = ⊥

-- the policy is not ended by a line `end`
abbrev pub IsUnended : Stage → Type 0
IsUnended (ended_with h es) = ⊥
IsUnended _ = Unit {0}

-- the text that is left begins with no line that may stand at this stage: it is empty and the policy is not ended, or its
-- first line neither leads on nor is that of a refused entry
abbrev pub IsFormlessAt : Stage → List ℕ → Type 0
IsFormlessAt stage rest =
    ((rest ≡ []) × IsUnended stage)
    ⊎ ((rest ≢ []) × ((next : Stage) → ¬ Follows stage (first_line rest) next) × ((r : Refusal) → ¬ IsRefusedAt stage (first_line rest) r))

-- this is wrong with the first line of the text that is left
abbrev pub IsFaultAt : Stage → List ℕ → Fault → Type 0
IsFaultAt stage rest formless = IsFormlessAt stage rest
IsFaultAt stage rest (refusal r) = (rest ≢ []) × IsRefusedAt stage (first_line rest) r

-- `IsWrongFrom stage text k fault`: of the text that is left at this stage, line k is the lowest that is wrong, and this is
-- wrong with it; where the text ends too early, k is the number after that of its last line
pub record IsWrongFrom (stage : Stage) (text : List ℕ) (k : ℕ) (fault : Fault) : Type 0 where
  pub before : ℕ
  pub last : Stage
  pub rest : List ℕ
  pub number : k ≡ before + 1
  pub led : Leads stage text before last rest
  pub wrong : IsFaultAt last rest fault

-- the error of a text; want of memory says nothing of it
abbrev pub IsErrorOf : List ℕ → PolicyError → Type 0
IsErrorOf text TooLong = most_bytes < length text
IsErrorOf text (Bad k) = (length text ≤ most_bytes) × IsWrongFrom header_due text k formless
IsErrorOf text (Refused k number) = (length text ≤ most_bytes) × (r : Refusal) × (number ≡ refusal_number r) × IsWrongFrom header_due text k (refusal r)
IsErrorOf text Memory = Unit {0}
