-- Words of the contracts by which a policy's text is read.
use Rattle.std.specs.Prelude.{◌≡◌, ◌≢◌, ◌<◌, ◌≤◌, ◌+◌, ◌^◌, ◌⊎◌, ℕ, List, [], ◌++◌, ◌∷◌, length, codes, Some, Bool, true, false}
use Rattle.std.specs.List.{All}
use Rattle.std.specs.Fmt.{decimal}
use Rattle.nal_term.specs.Names.{IsName}
use Rattle.nal_term.specs.Secrets.{IsSecret}
use Rattle.policy_history.specs.declared.heads.Head.{Head}
use Rattle.policy_history.specs.declared.heads.Principal.{Principal}
use Rattle.policy_history.specs.declared.heads.Authority.{Authority}
use Rattle.policy_history.specs.declared.events.Refusal.{Refusal}
use Rattle.policy_history.specs.Events.{EntryTree}
use Rattle.policy_history.specs.PolicyLines.{spaced}
use Rattle.policy_history.specs.Laws.{refusal_number}
use Rattle.policy_history.specs.Machine.{IsAccepted, refusal_of}
use Rattle.policy_history.specs.Values.{History, entry_trees, state_after}
use Rattle.text_lines.specs.Lines.{first_line}
use Rattle.journal_text.specs.CutPolicies.{IsWrongOpen}
use Rattle.journal_text.specs.PolicyFronts.{AreBelow, IsAboveIn, IsWrongIn}
use Rattle.journal_text.specs.PolicyText.{Fault, Stage, header_due, open_with, ended_with, Leads, IsEntryLine, formless, refusal}
use Rattle.journal_text.specs.declared.policy_reader.PolicyError.{PolicyError}
use Rattle.journal_text.specs.declared.policy_reader.PolicyError.TheVariants.{Bad, Refused, TooLong, Memory}

-- no byte of the word is a space
abbrev pub IsUnspaced : List ℕ → Type 0
IsUnspaced word = All (λ b. b ≢ 32) word

-- the line begins as that of a principal or of an authority does
abbrev pub IsHeadLine : List ℕ → Type 0
IsHeadLine line = ((rest : List ℕ) × (line ≡ codes "principal " ++ rest)) ⊎ ((rest : List ℕ) × (line ≡ codes "authority " ++ rest))

-- what follows the word in front of a principal's line, and of an authority's
pub record IsPrincipalOf (text : List ℕ) (p : Principal) : Type 0 where
  pub formed : text ≡ spaced p.name p.secret
  pub name : IsName p.name
  pub secret : IsSecret p.secret

pub record IsAuthorityOf (text : List ℕ) (a : Authority) : Type 0 where
  pub formed : text ≡ spaced (decimal a.port) a.address
  pub port : a.port < 2 ^ 64

-- the first n lines of the text are the header and all lines of this head
pub record IsHeadRead (text : List ℕ) (h : Head) (rest : List ℕ) (n : ℕ) : Type 0 where
  pub led : Leads header_due text n (open_with h []) rest
  pub past : ¬ IsHeadLine (first_line rest)
  pub fewer : n + length rest ≤ length text

-- the entry of the line is accepted, and is added
pub record IsLineAdded (old new : History) (line : List ℕ) : Type 0 where
  pub entry : EntryTree
  pub read : IsEntryLine old.head line entry
  pub accepted : IsAccepted old.head (state_after old) entry
  pub added : entry_trees new.entries ≡ entry_trees old.entries ++ entry ∷ []

-- the entry of the line is refused
pub record IsLineRefused (old : History) (line : List ℕ) (r : Refusal) : Type 0 where
  pub entry : EntryTree
  pub read : IsEntryLine old.head line entry
  pub refused : refusal_of old.head (state_after old) entry.session entry.principal entry.event ≡ Some r

-- line k is the lowest that is wrong, and it is there: none is missed behind the last
pub record IsLineWrong (most : ℕ) (stage : Stage) (text : List ℕ) (k : ℕ) (fault : Fault) : Type 0 where
  pub wrong : IsWrongIn most stage text k fault
  pub there : wrong.rest ≢ []

-- the error of the text that is left at this stage, so many lines having been read before
abbrev pub IsErrorFrom : ℕ → ℕ → Stage → List ℕ → PolicyError → Type 0
IsErrorFrom most before stage text (Bad k) = (j : ℕ) × (k ≡ before + j) × (IsLineWrong most stage text j formless ⊎ IsAboveIn most stage text j)
IsErrorFrom most before stage text (Refused k number) = (r : Refusal) × (number ≡ refusal_number r) × (j : ℕ) × (k ≡ before + j) × IsLineWrong most stage text j (refusal r)
IsErrorFrom most before stage text TooLong = ⊥
IsErrorFrom most before stage text Memory = Unit {0}

-- the same of a whole text, whose first line may be missed where it is empty
pub record IsFirstWrong (most : ℕ) (text : List ℕ) (k : ℕ) (fault : Fault) : Type 0 where
  pub wrong : IsWrongIn most header_due text k fault
  pub there : (wrong.rest ≢ []) ⊎ (text ≡ [])

-- the error of a text whose head is wrong, whatever the bound on sessions
abbrev pub IsHeadError : List ℕ → PolicyError → Type 0
IsHeadError text (Bad k) = (most : ℕ) → IsFirstWrong most text k formless
IsHeadError text Memory = Unit {0}
IsHeadError text _ = ⊥

-- the error of a text one of whose lines is wrong
abbrev pub IsLineError : ℕ → List ℕ → PolicyError → Type 0
IsLineError most text (Bad k) = IsFirstWrong most text k formless ⊎ IsAboveIn most header_due text k
IsLineError most text (Refused k number) = (r : Refusal) × (number ≡ refusal_number r) × IsFirstWrong most text k (refusal r)
IsLineError most text TooLong = ⊥
IsLineError most text Memory = Unit {0}

-- the stage to which lines lead that end the policy, or leave it open
abbrev pub reached : Bool → Head → List EntryTree → Stage
reached true h es = ended_with h es
reached false h es = open_with h es

-- the text that is left at this stage reads on to this head and these entries: its lines up to the end of the policy, and `rest`
-- behind them, or all its lines where it ends before; so many lines were read before, and so many are then
pub record ReadsOn (most before : ℕ) (stage : Stage) (text : List ℕ) (h : Head) (es : List EntryTree) (lines : ℕ) (rest : List ℕ) (ended : Bool) : Type 0 where
  pub n : ℕ
  pub lines_are : lines ≡ before + n
  pub led : Leads stage text n (reached ended h es) rest
  pub below : AreBelow most es
  pub over : ended ≡ false → rest ≡ []

-- the same of a whole text
pub record IsRead (most : ℕ) (text : List ℕ) (h : Head) (es : List EntryTree) (lines : ℕ) (rest : List ℕ) (ended : Bool) : Type 0 where
  pub led : Leads header_due text lines (reached ended h es) rest
  pub below : AreBelow most es
  pub over : ended ≡ false → rest ≡ []

-- the error of lines that read as no policy, open or ended
abbrev pub IsOpenError : List ℕ → PolicyError → Type 0
IsOpenError kept (Bad k) = IsWrongOpen kept k formless
IsOpenError kept (Refused k number) = (r : Refusal) × (number ≡ refusal_number r) × IsWrongOpen kept k (refusal r)
IsOpenError kept TooLong = ⊥
IsOpenError kept Memory = Unit {0}
