-- The line of an entry in a policy text.
use Rattle.std.specs.Prelude.{ℕ, List, [], ◌∷◌, ◌++◌, codes, Some}
use Rattle.std.specs.Fmt.{decimal}
use Rattle.nal_parse.specs.Canonical.{formula_text, term_text}
use Rattle.proof_text.specs.CanonicalProof.{proof_text}
use Rattle.policy_history.specs.Events.{EventTree, say, transfer, delete, new_object, set_goal, clear_goal, set_proof, clear_proof, bind, unbind}

-- two words with a space between them
abbrev pub spaced : List ℕ → List ℕ → List ℕ
spaced first rest = first ++ codes " " ++ rest

-- the text of an event; one of which a part is missing has none
abbrev pub event_text : EventTree → List ℕ
event_text (say (Some t) (Some f)) = spaced (codes "say") (term_text t ++ codes " : " ++ formula_text f)
event_text (transfer number to) = spaced (codes "transfer") (spaced (decimal number) to)
event_text (delete number) = spaced (codes "delete") (decimal number)
event_text (new_object name) = spaced (codes "object") name
event_text (set_goal op object (Some g)) = spaced (codes "goal") (spaced op object ++ codes " : " ++ formula_text g)
event_text (clear_goal op object) = spaced (codes "nogoal") (spaced op object)
event_text (set_proof op object (Some ls)) = spaced (codes "proof") (spaced op object ++ codes " : " ++ proof_text ls)
event_text (clear_proof op object) = spaced (codes "noproof") (spaced op object)
event_text (bind (Some t) port) = spaced (codes "bind") (spaced (term_text t) (decimal port))
event_text (unbind (Some t)) = spaced (codes "unbind") (term_text t)
event_text _ = []

-- the line of an entry, with its line feed: the session, the principal's name and the event
abbrev pub entry_line : ℕ → List ℕ → EventTree → List ℕ
entry_line session name e = spaced (decimal session) (spaced name (event_text e)) ++ 10 ∷ []
