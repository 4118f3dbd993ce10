-- The text of a policy: its head, and a line for each accepted change.
use Rattle.std.specs.Prelude.{ℕ, List, [], ◌∷◌, ◌++◌, codes, Option, Some, None}
use Rattle.std.specs.List.{flat_map}
use Rattle.std.specs.Fmt.{decimal}
use Rattle.nal_parse.specs.Canonical.{FormulaFits, TermFits}
use Rattle.proof_text.specs.CanonicalProof.{ProofFits}
use Rattle.policy_history.specs.declared.heads.Head.{Head}
use Rattle.policy_history.specs.declared.heads.Principal.{Principal}
use Rattle.policy_history.specs.declared.heads.Authority.{Authority}
use Rattle.policy_history.specs.Events.{EventTree, EntryTree, say, set_goal, set_proof, bind, unbind, name_of}
use Rattle.policy_history.specs.PolicyLines.{spaced, entry_line}

-- the line of a principal, and that of an authority, without the line feed
abbrev pub principal_text : Principal → List ℕ
principal_text p = spaced (codes "principal") (spaced p.name p.secret)

abbrev pub authority_text : Authority → List ℕ
authority_text a = spaced (codes "authority") (spaced (decimal a.port) a.address)

-- a line with its line feed
abbrev pub ended : List ℕ → List ℕ
ended line = line ++ 10 ∷ []

-- the lines of a head
abbrev pub head_text : Head → List ℕ
head_text h =
    ended (codes "nexus 2") ++ flat_map (λ (p : Principal). ended (principal_text p)) h.principals
    ++ flat_map (λ (a : Authority). ended (authority_text a)) h.authorities

-- the line of an entry, with its line feed
abbrev pub line_of : Head → EntryTree → List ℕ
line_of h e = entry_line e.session (name_of h.principals e.principal) e.event

-- the part is given, and keeps the limits of its text
abbrev pub IsGiven : {A : Type 0} → (A → Type 0) → Option A → Type 0
IsGiven Fits None = ⊥
IsGiven Fits (Some x) = Fits x

-- the event is spelled whole: each part of it that is written as a text is given, and keeps the limits of its text
abbrev pub IsSpelledWhole : EventTree → Type 0
IsSpelledWhole (say t f) = IsGiven TermFits t × IsGiven FormulaFits f
IsSpelledWhole (set_goal op object g) = IsGiven FormulaFits g
IsSpelledWhole (set_proof op object ls) = IsGiven ProofFits ls
IsSpelledWhole (bind t port) = IsGiven TermFits t
IsSpelledWhole (unbind t) = IsGiven TermFits t
IsSpelledWhole _ = Unit {0}

-- the text of a policy without its last line
abbrev pub front : Head → List EntryTree → List ℕ
front h es = head_text h ++ flat_map (line_of h) es

-- the text of a policy
abbrev pub policy_text : Head → List EntryTree → List ℕ
policy_text h es = front h es ++ ended (codes "end")
