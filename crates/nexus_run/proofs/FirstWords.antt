-- Which command words are those of is told by the first of them.
use Rattle.std.proofs.Common.{◌≡◌, ◌∷◌, ℕ, List, [], refl, sym, subst, ap, codes, if◌then◌else◌, Bor}
use Rattle.std.specs.Prelude.{Bool, Option}
use Rattle.std.specs.Str.{bytes_eq}
use Rattle.nexus_client.specs.declared.inputs.TalkInput.{TalkInput}
use Rattle.nexus_client.specs.declared.inputs.TalkInput.TheVariants.{RequestLines, PeerBundle}
use Rattle.nexus_run.specs.Commands.{command_words, serve_words, talk_words}
use Rattle.nexus_run.specs.declared.commands.Command.{Command}
use Rattle.nexus_run.specs.declared.commands.Command.TheVariants as rust

pub data Kind : Type 0 where
  check : Kind
  script : Kind
  trust : Kind
  prove : Kind
  audit : Kind
  explain : Kind
  recover : Kind
  compact : Kind
  export : Kind
  core : Kind
  drill : Kind
  serve : Kind
  client : Kind
  import : Kind
  none : Kind

-- which command is called by a first word
abbrev kind_by : List ℕ → Kind
kind_by w =
    if bytes_eq w (codes "check") then check else
    (if bytes_eq w (codes "script") then script else
    (if bytes_eq w (codes "trust") then trust else
    (if bytes_eq w (codes "prove") then prove else
    (if bytes_eq w (codes "audit") then audit else
    (if bytes_eq w (codes "explain") then explain else
    (if bytes_eq w (codes "recover") then recover else
    (if bytes_eq w (codes "compact") then compact else
    (if bytes_eq w (codes "export") then export else
    (if bytes_eq w (codes "core") then core else
    (if bytes_eq w (codes "drill") then drill else
    (if bytes_eq w (codes "serve") then serve else
    (if bytes_eq w (codes "client") then client else
    (if bytes_eq w (codes "import") then import else none)))))))))))))

abbrev pub kind_of : List (List ℕ) → Kind
kind_of (w ∷ ws) = kind_by w
kind_of [] = none

-- a command that is neither a service nor a talk is of this kind
abbrev pub OfKind : Kind → Command → Type 0
OfKind check command = command ≡ rust.Check
OfKind script command = command ≡ rust.Script
OfKind trust command = command ≡ rust.Trust
OfKind prove command = command ≡ rust.Prove
OfKind audit command = command ≡ rust.Audit
OfKind explain command = command ≡ rust.Explain
OfKind recover command = command ≡ rust.Recover
OfKind compact command = command ≡ rust.Compact
OfKind export command = (name : Bor (List ℕ)) × (command ≡ rust.Export name)
OfKind core command = (number : ℕ) × (steps : ℕ) × (command ≡ rust.Core number steps)
OfKind drill command = (number : ℕ) × (workers : ℕ) × (calls : ℕ) × (command ≡ rust.Drill number workers calls)
OfKind _ command = ⊥

of_kind : (command : Command) → OfKind (kind_of (command_words command)) command
of_kind rust.Check = refl
of_kind rust.Script = refl
of_kind rust.Trust = refl
of_kind rust.Prove = refl
of_kind rust.Audit = refl
of_kind rust.Explain = refl
of_kind rust.Recover = refl
of_kind rust.Compact = refl
of_kind (rust.Export name) = (name, refl)
of_kind (rust.Core number steps) = (number, steps, refl)
of_kind (rust.Drill number workers calls) = (number, workers, calls, refl)

pub told : (words : List (List ℕ)) (command : Command) → words ≡ command_words command → OfKind (kind_of words) command
told words command are = subst (λ ws. OfKind (kind_of ws) command) (sym are) (of_kind command)

-- the words of a talk tell its input and the address, and are not those of another command
pub talk_same : (input other : TalkInput) {address other_address : List ℕ} → talk_words input address ≡ talk_words other other_address → (input ≡ other) × (address ≡ other_address)
talk_same RequestLines RequestLines e = (refl, cc e)
talk_same PeerBundle PeerBundle e = (refl, cc e)
talk_same RequestLines PeerBundle e = let t : client ≡ import = ap kind_of e in cc t
talk_same PeerBundle RequestLines e = let t : import ≡ client = ap kind_of e in cc t

pub talk_not_plain : (input : TalkInput) (address : List ℕ) (command : Command) → talk_words input address ≡ command_words command → ⊥
talk_not_plain RequestLines address command e = told (talk_words RequestLines address) command e
talk_not_plain PeerBundle address command e = told (talk_words PeerBundle address) command e

-- nor are those of a service
pub serve_not_plain : (address : List ℕ) (workers sessions : ℕ) (patience : Option ℕ) (records : Bool) (command : Command) → serve_words address workers sessions patience records ≡ command_words command → ⊥
serve_not_plain a m n p r command e = told (serve_words a m n p r) command e

pub serve_not_talk : (address : List ℕ) (workers sessions : ℕ) (patience : Option ℕ) (records : Bool) (input : TalkInput) (other : List ℕ) → serve_words address workers sessions patience records ≡ talk_words input other → ⊥
serve_not_talk a m n p r RequestLines other e = let t : serve ≡ client = ap kind_of e in cc t
serve_not_talk a m n p r PeerBundle other e = let t : serve ≡ import = ap kind_of e in cc t
