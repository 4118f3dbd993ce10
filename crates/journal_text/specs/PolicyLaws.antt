-- The laws of policy texts.
use Rattle.std.specs.Prelude.{◌≡◌, ◌≢◌, ◌<◌, ◌≤◌, ◌^◌, ℕ, List, Some}
use Rattle.std.specs.List.{All}
use Rattle.nal_term.specs.Names.{IsName}
use Rattle.nal_term.specs.Secrets.{IsSecret}
use Rattle.nal_parse.specs.Canonical.{IsSpellable, IsSpellableTerm}
use Rattle.proof_text.specs.CanonicalProof.{IsSpellableProof}
use Rattle.policy_history.specs.declared.heads.Head.{Head}
use Rattle.policy_history.specs.declared.heads.Principal.{Principal}
use Rattle.policy_history.specs.Heads.{AreAuthorities, ArePrincipals}
use Rattle.policy_history.specs.Events.{EntryTree, EventTree, say, transfer, delete, new_object, set_goal, clear_goal, set_proof, clear_proof, bind, unbind}
use Rattle.policy_history.specs.Machine.{IsLegal}
use Rattle.journal_text.specs.RequestLines.{IsNumber64}
use Rattle.policy_history.specs.PolicyTexts.{policy_text}
use Rattle.journal_text.specs.PolicyText.{IsErrorOf, ReadsAs}
use Rattle.journal_text.specs.declared.policy_reader.PolicyError.{PolicyError}
use Rattle.journal_text.specs.declared.policy_reader.PolicyError.TheVariants.{Memory}

-- no text reads as two policies
abbrev pub OnePolicy : Type 0
OnePolicy = (text : List ℕ) (h g : Head) (es fs : List EntryTree) → ReadsAs text h es → ReadsAs text g fs → (h ≡ g) × (es ≡ fs)

-- a text that has an error, want of memory apart, reads as none
abbrev pub NoPolicyWithError : Type 0
NoPolicyWithError = (text : List ℕ) (error : PolicyError) (h : Head) (es : List EntryTree) → error ≢ Memory → IsErrorOf text error → ¬ ReadsAs text h es

-- and it has no other
abbrev pub OnePolicyError : Type 0
OnePolicyError = (text : List ℕ) (a b : PolicyError) → a ≢ Memory → b ≢ Memory → IsErrorOf text a → IsErrorOf text b → a ≡ b

-- ---- What is written is read again

-- an event as the program keeps one; where a part is missing it is in no legal list, and nothing is asked of it
abbrev pub IsKeptEvent : EventTree → Type 0
IsKeptEvent (say (Some t) (Some f)) = IsSpellableTerm t × IsSpellable f
IsKeptEvent (transfer number to) = IsNumber64 number × IsName to
IsKeptEvent (delete number) = IsNumber64 number
IsKeptEvent (new_object x) = IsName x
IsKeptEvent (set_goal op object (Some g)) = IsName op × IsName object × IsSpellable g
IsKeptEvent (clear_goal op object) = IsName op × IsName object
IsKeptEvent (set_proof op object (Some ls)) = IsName op × IsName object × IsSpellableProof ls
IsKeptEvent (clear_proof op object) = IsName op × IsName object
IsKeptEvent (bind (Some t) port) = IsSpellableTerm t × IsNumber64 port
IsKeptEvent (unbind (Some t)) = IsSpellableTerm t
IsKeptEvent _ = Unit {0}

-- an entry as the program keeps one
pub record IsKeptEntry (e : EntryTree) : Type 0 where
  pub session : e.session < 2 ^ 64
  pub event : IsKeptEvent e.event

-- the entry has a session: 0 is the number of none
abbrev pub IsInSession : EntryTree → Type 0
IsInSession e = 1 ≤ e.session

-- a principal, and a head, as the program keeps them
abbrev pub IsKeptPrincipal : Principal → Type 0
IsKeptPrincipal p = IsName p.name × IsSecret p.secret

pub record IsKeptHead (h : Head) : Type 0 where
  pub each : All IsKeptPrincipal h.principals
  pub principals : ArePrincipals h.principals
  pub authorities : AreAuthorities h.authorities

-- the text of a legal policy each of whose entries has a session is read as it
abbrev pub PrintedIsRead : Type 0
PrintedIsRead = (h : Head) (es : List EntryTree) → IsKeptHead h → All IsKeptEntry es → All IsInSession es → IsLegal h es → ReadsAs (policy_text h es) h es
