-- The fields of a payload by its kind, and the faults of a payload.
use Rattle.std.specs.Prelude.{◌≡◌, ◌≢◌, ◌+◌, ℕ, zero, suc, List, [], ◌∷◌, ◌++◌, length, Option, Some, None, slice_get}
use Rattle.nal_term.specs.Names.{IsName}
use Rattle.nal_term.specs.Secrets.{IsSecret}
use Rattle.session_wire.specs.declared.fields.Sort.{Sort}
use Rattle.session_wire.specs.declared.fields.Sort.TheVariants.{Name, Secret, Text, Number}
use Rattle.session_wire.specs.declared.fields.FrameFault.{FrameFault}
use Rattle.session_wire.specs.declared.fields.FrameFault.TheVariants.{TooLong, BadKind, BadField, Trailing}
use Rattle.session_wire.specs.Frames.{IsNumber64, IsShort, number_bytes, text_bytes}

-- the sorts of the fields of a request, in the order of the kinds from 1
abbrev pub sorts_by_kind : List (List Sort)
sorts_by_kind =
    (Name ∷ Secret ∷ []) ∷ (Text ∷ Text ∷ []) ∷ (Number ∷ Name ∷ []) ∷ (Number ∷ []) ∷ (Name ∷ [])
    ∷ (Name ∷ Name ∷ Text ∷ []) ∷ (Name ∷ Name ∷ []) ∷ (Name ∷ Name ∷ Text ∷ []) ∷ (Name ∷ Name ∷ [])
    ∷ (Text ∷ Number ∷ []) ∷ (Text ∷ []) ∷ (Name ∷ Name ∷ Number ∷ []) ∷ (Number ∷ []) ∷ []

-- the sorts of the fields of this kind; none for an unknown kind
unfoldable pub sorts_of_kind : ℕ → Option (List Sort)
sorts_of_kind zero = None
sorts_of_kind (suc k) = slice_get sorts_by_kind k

-- the bytes begin with a field of this sort, and `rest` follows
abbrev pub BeginsField : Sort → List ℕ → List ℕ → Type 0
BeginsField Name bytes rest = (name : List ℕ) × IsName name × (bytes ≡ text_bytes name ++ rest)
BeginsField Secret bytes rest = (secret : List ℕ) × IsSecret secret × (bytes ≡ text_bytes secret ++ rest)
BeginsField Text bytes rest = (text : List ℕ) × IsShort text × (bytes ≡ text_bytes text ++ rest)
BeginsField Number bytes rest = (number : ℕ) × IsNumber64 number × (bytes ≡ number_bytes number ++ rest)

-- the bytes begin with no field of this sort
abbrev pub BeginsNoField : Sort → List ℕ → Type 0
BeginsNoField sort bytes = (rest : List ℕ) → ¬ BeginsField sort bytes rest

-- the bytes begin with fields of these sorts, one after another, and `rest` follows
abbrev pub BeginsFields : List Sort → List ℕ → List ℕ → Type 0
BeginsFields [] bytes rest = bytes ≡ rest
BeginsFields (sort ∷ sorts) bytes rest = (more : List ℕ) × BeginsField sort bytes more × BeginsFields sorts more rest

-- a payload is a byte of kind and the fields of that kind, and nothing else
pub record IsGoodPayload (payload : List ℕ) : Type 0 where
  pub kind : ℕ
  pub body : List ℕ
  pub sorts : List Sort
  pub whole : payload ≡ kind ∷ body
  pub known : sorts_of_kind kind ≡ Some sorts
  pub fields : BeginsFields sorts body []

-- there is no byte of kind, or no such kind
abbrev pub HasBadKind : List ℕ → Type 0
HasBadKind [] = Unit {0}
HasBadKind (kind ∷ body) = sorts_of_kind kind ≡ None

-- The field at this place is the first that is none: those before it stand there, and what follows begins with no field
-- of the sort that is due. A field runs past the payload, or its bytes are no name or no secret where one is due.
pub record HasBadField (payload : List ℕ) (place : ℕ) : Type 0 where
  pub kind : ℕ
  pub body : List ℕ
  pub before : List Sort
  pub sort : Sort
  pub after : List Sort
  pub rest : List ℕ
  pub whole : payload ≡ kind ∷ body
  pub known : sorts_of_kind kind ≡ Some (before ++ sort ∷ after)
  pub fields : BeginsFields before body rest
  pub none : BeginsNoField sort rest
  pub at : place + length rest ≡ length payload

-- all fields stand in the payload, and at this place something follows
pub record HasTrailing (payload : List ℕ) (place : ℕ) : Type 0 where
  pub kind : ℕ
  pub body : List ℕ
  pub sorts : List Sort
  pub rest : List ℕ
  pub whole : payload ≡ kind ∷ body
  pub known : sorts_of_kind kind ≡ Some sorts
  pub fields : BeginsFields sorts body rest
  pub more : rest ≢ []
  pub at : place + length rest ≡ length payload

-- the payload has this fault at this place, counted from its first byte; its length is no fault of its own
abbrev pub HasFault : FrameFault → List ℕ → ℕ → Type 0
HasFault TooLong payload place = ⊥
HasFault BadKind payload place = (place ≡ 0) × HasBadKind payload
HasFault BadField payload place = HasBadField payload place
HasFault Trailing payload place = HasTrailing payload place
