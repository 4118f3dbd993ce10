-- The lines of replies.
use Rattle.std.specs.Prelude.{ℕ, zero, suc, List, [], ◌∷◌, ◌++◌, ◌==◌, codes, slice_get, unwrap_or, if◌then◌else◌}
use Rattle.std.specs.List.{join_with_byte}
use Rattle.std.specs.Fmt.{decimal}
use Rattle.session_wire.specs.declared.replies.Reply.{Reply}
use Rattle.session_wire.specs.declared.replies.Reply.TheVariants.{Welcome, Done, Allowed, Denied, Refused, Down, NoMemory, Bad, Seen}

-- the names of the causes of a denial, in the order of their numbers from 1
abbrev pub cause_names : List (List ℕ)
cause_names =
    codes "GoalUnset" ∷ codes "NoProof" ∷ codes "Line" ∷ codes "LabelMissing" ∷ codes "NotBound" ∷ codes "AuthorityNo" ∷ []

-- the names of the faults of a proof's line, in the order of their numbers from 1
abbrev pub fault_names : List (List ℕ)
fault_names =
    codes "NoSuchRef" ∷ codes "NotHyp" ∷ codes "WrongShape" ∷ codes "Capture" ∷ codes "NotFresh" ∷ codes "OutOfScope"
    ∷ codes "NotTrue" ∷ codes "TooManyAsks" ∷ codes "NotAsk" ∷ codes "NotClosed" ∷ codes "StillOpen" ∷ codes "NotGoal" ∷ []

-- the names of the refusals, in the order of their numbers from 1
abbrev pub refusal_names : List (List ℕ)
refusal_names =
    codes "NotOpen" ∷ codes "AlreadyOpen" ∷ codes "BadSecret" ∷ codes "NoSuchPrincipal" ∷ codes "NotYourPrincipal"
    ∷ codes "NoSuchLabel" ∷ codes "NotHolder" ∷ codes "NoSuchObject" ∷ codes "NameTaken" ∷ codes "NotOwner" ∷ codes "NoGoal"
    ∷ codes "NoSuchProof" ∷ codes "NoBinding" ∷ codes "BadPort" ∷ codes "BadFormula" ∷ codes "BadProof" ∷ codes "Quota"
    ∷ codes "ObjectsFull" ∷ codes "CasesFull" ∷ codes "NotRecorded" ∷ codes "ReadOnly" ∷ codes "JournalFull"
    ∷ codes "NotYet" ∷ []

-- the name with this number in such a list; a number that names none is written as the number
abbrev pub named : List (List ℕ) → ℕ → List ℕ
named names zero = decimal 0
named names (suc k) = unwrap_or (slice_get names k) (decimal (suc k))

-- the word, unless its number is 0, which stands for none
abbrev pub if_any : ℕ → List ℕ → List (List ℕ)
if_any number word = if number == 0 then [] else word ∷ []

-- the words of a cause that is told by its number, that of its line and that of its fault: the cause's name, then the line
-- where there is one, then the fault's name where there is one
abbrev pub cause_words : ℕ → ℕ → ℕ → List (List ℕ)
cause_words cause line fault = named cause_names cause ∷ (if_any line (decimal line) ++ if_any fault (named fault_names fault))

-- the words of a reply
abbrev pub reply_words : Reply → List (List ℕ)
reply_words (Welcome session at) = codes "welcome" ∷ decimal session ∷ decimal at ∷ []
reply_words (Done at number) = codes "done" ∷ decimal at ∷ decimal number ∷ []
reply_words (Allowed at hit value) = codes "allowed" ∷ decimal at ∷ decimal hit ∷ decimal value ∷ []
reply_words (Denied at cause line fault) = codes "denied" ∷ decimal at ∷ cause_words cause line fault
reply_words (Refused at number) = codes "refused" ∷ decimal at ∷ named refusal_names number ∷ []
reply_words (Down at line) = codes "down" ∷ decimal at ∷ decimal line ∷ []
reply_words NoMemory = codes "nomemory" ∷ []
reply_words (Bad place) = codes "bad" ∷ decimal place ∷ []
reply_words (Seen at) = codes "seen" ∷ decimal at ∷ []

-- the words with a space between them
abbrev pub spaced_words : List (List ℕ) → List ℕ
spaced_words words = join_with_byte 32 words

-- the line of a reply, without a line feed
abbrev pub reply_text : Reply → List ℕ
reply_text reply = spaced_words (reply_words reply)

-- the text of a cause
abbrev pub cause_text : ℕ → ℕ → ℕ → List ℕ
cause_text cause line fault = spaced_words (cause_words cause line fault)
