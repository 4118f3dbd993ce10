-- What is found of the fields of a payload.
use Rattle.std.specs.Prelude.{◌≡◌, ◌∷◌, ℕ, List, [], Option, Some, None}
use Rattle.nal_term.specs.Names.{IsName}
use Rattle.nal_term.specs.Secrets.{IsSecret}
use Rattle.session_wire.specs.declared.requests.Request.{Request}
use Rattle.session_wire.specs.declared.fields.Sort.{Sort}
use Rattle.session_wire.specs.declared.fields.Sort.TheVariants.{Name, Secret, Text, Number}
use Rattle.session_wire.specs.Frames.{HasFittingParts, request_payload}
use Rattle.session_wire.specs.Fields.{BeginsField, BeginsFields}

-- a field of this sort, which is not that of numbers, may hold the bytes
abbrev pub MayHold : Sort → List ℕ → Type 0
MayHold Name bytes = IsName bytes
MayHold Secret bytes = IsSecret bytes
MayHold Text bytes = Unit {0}
MayHold Number bytes = Unit {0}

-- the bytes begin with a field of this sort
abbrev pub BeginsSomeField : Sort → List ℕ → Type 0
BeginsSomeField sort bytes = (rest : List ℕ) × BeginsField sort bytes rest

-- the bytes are fields of these sorts, of which there are any
abbrev pub AreFields : Option (List Sort) → List ℕ → Type 0
AreFields None body = ⊥
AreFields (Some sorts) body = BeginsFields sorts body []

-- the request has this payload
pub record IsPayloadOf (kind : ℕ) (body : List ℕ) (q : Request) : Type 0 where
  pub fit : HasFittingParts q
  pub bytes : kind ∷ body ≡ request_payload q
