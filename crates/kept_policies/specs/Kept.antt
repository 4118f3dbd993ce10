-- What is read is kept: a value that a text spells has a text that is read as it, and a policy that is read is one that the program
-- writes, and reads again as it was.
use Rattle.std.specs.Prelude.{◌≡◌, ◌≢◌, ◌⊎◌, ℕ, List, [], ◌++◌, codes}
use Rattle.nal_term.specs.Trees.{FormulaTree, TermTree}
use Rattle.nal_parse.specs.Canonical.{IsSpellable, IsSpellableTerm}
use Rattle.nal_parse.specs.Grammar.{IsFormulaText, IsTermText}
use Rattle.proof_lines.specs.Lines.{LineTree}
use Rattle.proof_text.specs.CanonicalProof.{IsSpellableProof}
use Rattle.proof_text.specs.ProofText.{IsProofText}
use Rattle.policy_history.specs.declared.heads.Head.{Head}
use Rattle.policy_history.specs.Events.{EntryTree, EventTree}
use Rattle.policy_history.specs.PolicyTexts.{ended, front, line_of}
use Rattle.session_wire.specs.declared.requests.Request.{Request}
use Rattle.session_wire.specs.Frames.{HasFittingParts}
use Rattle.journal_text.specs.CutLaws.{IsFrontOf, IsWritten}
use Rattle.journal_text.specs.CutPolicies.{ReadsCut}
use Rattle.journal_text.specs.PolicyFronts.{IsFront}
use Rattle.journal_text.specs.PolicyLaws.{IsKeptEvent}
use Rattle.journal_text.specs.RequestEvents.{IsEventOf}

-- what a text spells keeps the limits of its parts, so its canonical text is read as it
abbrev pub SpelledTerms : Type 0
SpelledTerms = (text : List ℕ) (t : TermTree) → IsTermText text t → IsSpellableTerm t

abbrev pub SpelledFormulas : Type 0
SpelledFormulas = (text : List ℕ) (f : FormulaTree) → IsFormulaText text f → IsSpellable f

abbrev pub SpelledProofs : Type 0
SpelledProofs = (text : List ℕ) (ls : List LineTree) → IsProofText text ls → IsSpellableProof ls

-- the event that a request asks for is kept, where the parts of the request keep the bounds of a frame
abbrev pub AskedEvents : Type 0
AskedEvents = (request : Request) (e : EventTree) → HasFittingParts request → IsEventOf request e → IsKeptEvent e

-- a policy at the front of a text is one that the program writes
abbrev pub FrontIsWritten : Type 0
FrontIsWritten = (most : ℕ) (text : List ℕ) (h : Head) (es : List EntryTree) (n : ℕ) (rest : List ℕ) → IsFront most text h es n rest → IsWritten h es

-- so is one that is recovered from a text that may be cut
abbrev pub RecoveredIsWritten : Type 0
RecoveredIsWritten = (text : List ℕ) (h : Head) (es : List EntryTree) → ReadsCut text h es → IsWritten h es

-- Whatever follows what was written of a policy without its last line: what is recovered has its principals, authorities and entries, and maybe
-- others behind them; and just its head where there is an entry, since behind one no line of a head may stand
abbrev pub RecoveredGrows : Type 0
RecoveredGrows =
    (h g : Head) (es fs : List EntryTree) (more : List ℕ) → IsWritten h es → ReadsCut (front h es ++ more) g fs
    → IsFrontOf h g es fs × (es ≢ [] → g ≡ h)

-- what is written next of a policy: the line of one more entry, or the last line
abbrev pub IsNextLine : Head → List ℕ → Type 0
IsNextLine h line = ((entry : EntryTree) × (line ≡ line_of h entry)) ⊎ (line ≡ ended (codes "end"))

-- where what follows begins with such a line, or is a front of one, maybe all of it: what is recovered has its head, and begins with its entries
abbrev pub RecoveredBegins : Type 0
RecoveredBegins =
    (h g : Head) (es fs : List EntryTree) (line after more missing : List ℕ) → IsWritten h es → IsNextLine h line → line ++ after ≡ more ++ missing
    → ReadsCut (front h es ++ more) g fs → (g ≡ h) × (later : List EntryTree) × (fs ≡ es ++ later)
