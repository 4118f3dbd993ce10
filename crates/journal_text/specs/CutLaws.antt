-- The laws of policy texts that may be cut anywhere.
use Rattle.std.specs.Prelude.{◌≡◌, ◌≢◌, ◌≤◌, ◌^◌, ℕ, List, [], ◌++◌, length, codes}
use Rattle.std.specs.List.{All}
use Rattle.proof_text.specs.Laws.{IsOneLine}
use Rattle.policy_history.specs.declared.heads.Authority.{Authority}
use Rattle.policy_history.specs.declared.heads.Head.{Head}
use Rattle.policy_history.specs.declared.heads.Principal.{Principal}
use Rattle.policy_history.specs.Events.{EntryTree}
use Rattle.policy_history.specs.Machine.{IsAccepted, IsLegal, replay}
use Rattle.policy_history.specs.PolicyTexts.{ended, front, line_of}
use Rattle.journal_text.specs.CutPolicies.{IsCutErrorOf, IsKept, ReadsCut}
use Rattle.journal_text.specs.PolicyLaws.{IsInSession, IsKeptEntry, IsKeptHead}
use Rattle.journal_text.specs.PolicyText.{ReadsAs, most_bytes}
use Rattle.journal_text.specs.declared.policy_reader.PolicyError.{PolicyError}
use Rattle.journal_text.specs.declared.policy_reader.PolicyError.TheVariants.{Memory}

-- one text is kept of each
abbrev pub OneKept : Type 0
OneKept = (text kept other : List ℕ) → IsKept text kept → IsKept text other → kept ≡ other

-- no text is cut to two policies
abbrev pub OneCutPolicy : Type 0
OneCutPolicy = (text : List ℕ) (h g : Head) (es fs : List EntryTree) → ReadsCut text h es → ReadsCut text g fs → (h ≡ g) × (es ≡ fs)

-- a text that has an error, want of memory apart, is cut to none
abbrev pub NoCutPolicyWithError : Type 0
NoCutPolicyWithError = (text : List ℕ) (error : PolicyError) (h : Head) (es : List EntryTree) → error ≢ Memory → IsCutErrorOf text error → ¬ ReadsCut text h es

-- and it has no other
abbrev pub OneCutError : Type 0
OneCutError = (text : List ℕ) (a b : PolicyError) → a ≢ Memory → b ≢ Memory → IsCutErrorOf text a → IsCutErrorOf text b → a ≡ b

-- a text that is not cut reads as it does whole
abbrev pub WholeIsRecovered : Type 0
WholeIsRecovered = (text : List ℕ) (h : Head) (es : List EntryTree) → ReadsAs text h es → ReadsCut text h es

-- ---- What is written is recovered, wherever the writing stopped

-- a legal policy, as the program keeps one, each of whose entries has a session
pub record IsWritten (h : Head) (es : List EntryTree) : Type 0 where
  pub head : IsKeptHead h
  pub entries : All IsKeptEntry es
  pub sessions : All IsInSession es
  pub legal : IsLegal h es

-- whatever line without a line feed follows the text of a policy without its last line, the policy is recovered
abbrev pub LastLineIsLeftOut : Type 0
LastLineIsLeftOut = (h : Head) (es : List EntryTree) (last : List ℕ) → IsWritten h es → IsOneLine last → length (front h es ++ last) ≤ most_bytes → ReadsCut (front h es ++ last) h es

-- so it is where that line has at most 2^24 bytes
abbrev pub ShortLineIsLeftOut : Type 0
ShortLineIsLeftOut = (h : Head) (es : List EntryTree) (last : List ℕ) → IsWritten h es → IsOneLine last → length last ≤ 2 ^ 24 → ReadsCut (front h es ++ last) h es

-- so it is where the line of one more entry, which is accepted, is cut before its line feed
abbrev pub CutEntryIsLeftOut : Type 0
CutEntryIsLeftOut = (h : Head) (es : List EntryTree) (e : EntryTree) (part missing : List ℕ) → IsWritten h es → IsKeptEntry e → IsAccepted h (replay h es) e
    → line_of h e ≡ part ++ missing → missing ≢ [] → ReadsCut (front h es ++ part) h es

-- and where the last line is cut anywhere
abbrev pub CutEndIsRecovered : Type 0
CutEndIsRecovered = (h : Head) (es : List EntryTree) (part missing : List ℕ) → IsWritten h es → ended (codes "end") ≡ part ++ missing → ReadsCut (front h es ++ part) h es

-- ---- What else is recovered

-- of the policy there are these principals, authorities and entries, and others behind them
pub record IsFrontOf (g h : Head) (fs es : List EntryTree) : Type 0 where
  pub principals : (more : List Principal) × (h.principals ≡ g.principals ++ more)
  pub authorities : (more : List Authority) × (h.authorities ≡ g.authorities ++ more)
  pub entries : (more : List EntryTree) × (es ≡ fs ++ more)

-- wherever the text of a policy is cut behind its first line feed, a front of the policy is recovered
abbrev pub CutAnywhereIsRecovered : Type 0
CutAnywhereIsRecovered = (text missing : List ℕ) (h : Head) (es : List EntryTree) → ReadsAs (text ++ missing) h es → ¬ IsOneLine text
    → (g : Head) × (fs : List EntryTree) × IsFrontOf g h fs es × ReadsCut text g fs
