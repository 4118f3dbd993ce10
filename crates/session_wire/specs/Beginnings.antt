-- What stands first in the bytes of a connection.
use Rattle.std.specs.Prelude.{◌≡◌, ◌≢◌, ◌<◌, ◌≤◌, ◌+◌, ◌^◌, ℕ, List, [], ◌++◌, length, ◌⊎◌}
use Rattle.std.specs.List.{All}
use Rattle.session_wire.specs.declared.requests.Request.{Request}
use Rattle.session_wire.specs.declared.fields.FrameFault.{FrameFault}
use Rattle.session_wire.specs.declared.fields.FrameFault.TheVariants.{TooLong}
use Rattle.session_wire.specs.Frames.{HasFrame, framed, length_bytes, most_payload, request_frame, request_frames}
use Rattle.session_wire.specs.Fields.{HasFault}

-- what stands first in bytes: a request, nothing at all, a part of a frame, or bytes that no request has, with their fault
-- and its place
pub data Beginning : Type 0 where
  request : Request → Beginning
  edge : Beginning
  torn : Beginning
  bad : FrameFault → ℕ → Beginning

-- a frame that is not whole, or no byte of one: fewer than four bytes, or the length of a payload and less than so many
-- bytes
abbrev pub IsPart : List ℕ → Type 0
IsPart bytes = (length bytes < 4) ⊎ ((n : ℕ) × (more : List ℕ) × (bytes ≡ length_bytes n ++ more) × (n ≤ most_payload) × (length more < n))

-- a length that no payload has, which is at the frame's first byte
pub record IsTooLong (start : ℕ) (bytes : List ℕ) (place : ℕ) : Type 0 where
  pub n : ℕ
  pub long : most_payload < n
  pub fits : n < 2 ^ 32
  pub whole : bytes ≡ length_bytes n
  pub at : place ≡ start

-- a frame whose payload has this fault; its payload begins four bytes behind the frame's first
pub record IsFaulty (start : ℕ) (bytes : List ℕ) (fault : FrameFault) (place : ℕ) : Type 0 where
  pub payload : List ℕ
  pub within : ℕ
  pub short : length payload ≤ most_payload
  pub whole : bytes ≡ framed payload
  pub has : HasFault fault payload within
  pub at : place ≡ start + 4 + within

-- The bytes, whose first is at `start` of the connection, are what has to be taken until it is known that this is no
-- request's frame: four bytes where the length is at fault, else the whole frame.
abbrev pub IsBad : ℕ → List ℕ → FrameFault → ℕ → Type 0
IsBad start bytes TooLong place = IsTooLong start bytes place
IsBad start bytes fault place = IsFaulty start bytes fault place

-- the bytes, whose first is at `start` of the connection, begin so, and `rest` follows
abbrev pub Begins : ℕ → List ℕ → Beginning → List ℕ → Type 0
Begins start bytes (request q) rest = HasFrame q × (bytes ≡ request_frame q ++ rest)
Begins start bytes edge rest = (bytes ≡ []) × (rest ≡ [])
Begins start bytes torn rest = (bytes ≢ []) × IsPart bytes × (rest ≡ [])
Begins start bytes (bad fault place) rest = (front : List ℕ) × IsBad start front fault place × (bytes ≡ front ++ rest)

-- the bytes of a connection begin with the frames of these requests, and `rest` follows
pub record Spells (bytes : List ℕ) (requests : List Request) (rest : List ℕ) : Type 0 where
  pub fit : All HasFrame requests
  pub frames : bytes ≡ request_frames requests ++ rest

-- The bytes of a connection are the frames of these requests, and what follows them is none: they end there, or with a part of
-- a frame, or what follows is at fault. Places count from the first of the bytes.
pub record AreRequests (bytes : List ℕ) (requests : List Request) (last : Beginning) : Type 0 where
  pub rest : List ℕ
  pub more : List ℕ
  pub spelled : Spells bytes requests rest
  pub then : Begins (length (request_frames requests)) rest last more
  pub none : (q : Request) → last ≢ request q
