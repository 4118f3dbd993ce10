-- The text of a policy that may be cut anywhere: what is kept of it, what that reads as, and what is told where it reads as nothing.
use Rattle.std.specs.Prelude.{◌≡◌, ◌≢◌, ◌<◌, ◌≤◌, ◌⊎◌, ℕ, List, [], ◌∷◌, ◌++◌, length, codes}
use Rattle.proof_text.specs.Laws.{IsOneLine}
use Rattle.policy_history.specs.declared.heads.Head.{Head}
use Rattle.policy_history.specs.declared.events.Refusal.{Refusal}
use Rattle.policy_history.specs.Events.{EntryTree}
use Rattle.policy_history.specs.Laws.{refusal_number}
use Rattle.journal_text.specs.PolicyText.{Fault, formless, refusal, IsWrongFrom, Leads, ended_with, header_due, most_bytes, open_with}
use Rattle.journal_text.specs.declared.policy_reader.PolicyError.{PolicyError}
use Rattle.journal_text.specs.declared.policy_reader.PolicyError.TheVariants.{Bad, Refused, TooLong, Memory}

-- ---- What is kept

-- each line of the text has its line feed: it is empty or ends with one
abbrev pub AreWholeLines : List ℕ → Type 0
AreWholeLines lines = (lines ≡ []) ⊎ ((before : List ℕ) × (lines ≡ before ++ 10 ∷ []))

-- the text is whole lines and then a last line without its line feed, which may be empty
pub record IsCutInto (text lines last : List ℕ) : Type 0 where
  pub parts : text ≡ lines ++ last
  pub whole : AreWholeLines lines
  pub unfed : IsOneLine last

-- what is kept of a text: all of it where its last line is `end` without the line feed, else its whole lines
pub record IsKept (text kept : List ℕ) : Type 0 where
  pub lines : List ℕ
  pub last : List ℕ
  pub cut : IsCutInto text lines last
  pub choice : ((last ≡ codes "end") × (kept ≡ text)) ⊎ ((last ≢ codes "end") × (kept ≡ lines))

-- ---- What it reads as

-- the lines read as this head and these entries, whether or not the line `end` stands behind them
abbrev pub ReadsOpen : List ℕ → Head → List EntryTree → Type 0
ReadsOpen kept h es = (n : ℕ) × (Leads header_due kept n (open_with h es) [] ⊎ Leads header_due kept n (ended_with h es) [])

-- what is kept of the text reads so
pub record ReadsCut (text : List ℕ) (h : Head) (es : List EntryTree) : Type 0 where
  pub short : length text ≤ most_bytes
  pub kept : List ℕ
  pub keeps : IsKept text kept
  pub reads : ReadsOpen kept h es

-- ---- What is told of a text that reads as nothing

-- of these lines, line k is the lowest that is wrong, and this is wrong with it; behind the last line none is missed, but where
-- there is no line the first is
pub record IsWrongOpen (kept : List ℕ) (k : ℕ) (fault : Fault) : Type 0 where
  pub wrong : IsWrongFrom header_due kept k fault
  pub there : (wrong.rest ≢ []) ⊎ (kept ≡ [])

-- the same of what is kept of the text
pub record IsWrongCut (text : List ℕ) (k : ℕ) (fault : Fault) : Type 0 where
  pub short : length text ≤ most_bytes
  pub kept : List ℕ
  pub keeps : IsKept text kept
  pub wrong : IsWrongOpen kept k fault

-- the error of a text that may be cut; want of memory says nothing of it
abbrev pub IsCutErrorOf : List ℕ → PolicyError → Type 0
IsCutErrorOf text TooLong = most_bytes < length text
IsCutErrorOf text (Bad k) = IsWrongCut text k formless
IsCutErrorOf text (Refused k number) = (r : Refusal) × (number ≡ refusal_number r) × IsWrongCut text k (refusal r)
IsCutErrorOf text Memory = Unit {0}
