-- The frames of requests and replies, as bytes. In contracts a request is plain: its names, secrets and texts are lists of bytes.
use Rattle.std.specs.Prelude.{◌≡◌, ◌<◌, ◌≤◌, ◌^◌, ℕ, List, [], ◌∷◌, ◌++◌, length}
use Rattle.std.specs.List.{flat_map}
use Rattle.byteorder.specs.Endian.{big_bytes}
use Rattle.nal_term.specs.Names.{IsName}
use Rattle.nal_term.specs.Secrets.{IsSecret}
use Rattle.session_wire.specs.declared.requests.Request.{Request}
use Rattle.session_wire.specs.declared.requests.Request.TheVariants.{Hello, Say, Transfer, Delete, NewObject, SetGoal, ClearGoal, SetProof, ClearProof, Bind, Unbind, Call, See}
use Rattle.session_wire.specs.declared.replies.Reply.{Reply}
use Rattle.session_wire.specs.declared.replies.Reply.TheVariants.{Welcome, Done, Allowed, Denied, Refused, Down, NoMemory, Bad, Seen}

-- the length that a frame begins with: four bytes
unfoldable pub length_bytes : ℕ → List ℕ
length_bytes n = big_bytes 4 n

-- a number in a frame: eight bytes
unfoldable pub number_bytes : ℕ → List ℕ
number_bytes n = big_bytes 8 n

-- a text in a frame: its length in two bytes, then its bytes
unfoldable pub text_bytes : List ℕ → List ℕ
text_bytes text = big_bytes 2 (length text) ++ text

-- a frame: the length of the payload, then the payload
abbrev pub framed : List ℕ → List ℕ
framed payload = length_bytes (length payload) ++ payload

-- the payload of a request: a byte of kind, then the fields
abbrev pub request_payload : Request → List ℕ
request_payload (Hello name secret) = 1 ∷ (text_bytes name ++ text_bytes secret)
request_payload (Say principal formula) = 2 ∷ (text_bytes principal ++ text_bytes formula)
request_payload (Transfer number to) = 3 ∷ (number_bytes number ++ text_bytes to)
request_payload (Delete number) = 4 ∷ number_bytes number
request_payload (NewObject name) = 5 ∷ text_bytes name
request_payload (SetGoal op object formula) = 6 ∷ (text_bytes op ++ (text_bytes object ++ text_bytes formula))
request_payload (ClearGoal op object) = 7 ∷ (text_bytes op ++ text_bytes object)
request_payload (SetProof op object proof) = 8 ∷ (text_bytes op ++ (text_bytes object ++ text_bytes proof))
request_payload (ClearProof op object) = 9 ∷ (text_bytes op ++ text_bytes object)
request_payload (Bind principal port) = 10 ∷ (text_bytes principal ++ number_bytes port)
request_payload (Unbind principal) = 11 ∷ text_bytes principal
request_payload (Call op object arg) = 12 ∷ (text_bytes op ++ (text_bytes object ++ number_bytes arg))
request_payload (See number) = 13 ∷ number_bytes number

-- the frame of a request
abbrev pub request_frame : Request → List ℕ
request_frame request = framed (request_payload request)

-- the kind of a reply
abbrev pub reply_kind : Reply → ℕ
reply_kind (Welcome session at) = 65
reply_kind (Done at number) = 66
reply_kind (Allowed at hit value) = 67
reply_kind (Denied at cause line fault) = 68
reply_kind (Refused at number) = 69
reply_kind (Down at line) = 70
reply_kind NoMemory = 71
reply_kind (Bad place) = 72
reply_kind (Seen at) = 73

-- the fields of a reply, which are all numbers
abbrev pub reply_numbers : Reply → List ℕ
reply_numbers (Welcome session at) = session ∷ at ∷ []
reply_numbers (Done at number) = at ∷ number ∷ []
reply_numbers (Allowed at hit value) = at ∷ hit ∷ value ∷ []
reply_numbers (Denied at cause line fault) = at ∷ cause ∷ line ∷ fault ∷ []
reply_numbers (Refused at number) = at ∷ number ∷ []
reply_numbers (Down at line) = at ∷ line ∷ []
reply_numbers NoMemory = []
reply_numbers (Bad place) = place ∷ []
reply_numbers (Seen at) = at ∷ []

-- the payload of a reply
abbrev pub reply_payload : Reply → List ℕ
reply_payload reply = reply_kind reply ∷ flat_map number_bytes (reply_numbers reply)

-- the frame of a reply
abbrev pub reply_frame : Reply → List ℕ
reply_frame reply = framed (reply_payload reply)

-- the frames of replies, one after another
abbrev pub reply_frames : List Reply → List ℕ
reply_frames replies = flat_map reply_frame replies

-- the frames of requests, one after another
abbrev pub request_frames : List Request → List ℕ
request_frames requests = flat_map request_frame requests

-- a number of 64 bits
abbrev pub IsNumber64 : ℕ → Type 0
IsNumber64 n = n < 2 ^ 64

-- a text whose length two bytes can tell
abbrev pub IsShort : List ℕ → Type 0
IsShort text = length text < 2 ^ 16

-- the parts of a request keep their bounds
abbrev pub HasFittingParts : Request → Type 0
HasFittingParts (Hello name secret) = IsName name × IsSecret secret
HasFittingParts (Say principal formula) = IsShort principal × IsShort formula
HasFittingParts (Transfer number to) = IsNumber64 number × IsName to
HasFittingParts (Delete number) = IsNumber64 number
HasFittingParts (NewObject name) = IsName name
HasFittingParts (SetGoal op object formula) = IsName op × IsName object × IsShort formula
HasFittingParts (ClearGoal op object) = IsName op × IsName object
HasFittingParts (SetProof op object proof) = IsName op × IsName object × IsShort proof
HasFittingParts (ClearProof op object) = IsName op × IsName object
HasFittingParts (Bind principal port) = IsShort principal × IsNumber64 port
HasFittingParts (Unbind principal) = IsShort principal
HasFittingParts (Call op object arg) = IsName op × IsName object × IsNumber64 arg
HasFittingParts (See number) = IsNumber64 number

-- the greatest length of a payload
abbrev pub most_payload : ℕ
most_payload = 33792

-- the request has a frame: its parts keep their bounds, and so does its payload
abbrev pub HasFrame : Request → Type 0
HasFrame request = HasFittingParts request × (length (request_payload request) ≤ most_payload)

-- the bytes are the frame of this request
abbrev pub IsFrameOf : Request → List ℕ → Type 0
IsFrameOf request bytes = HasFrame request × (bytes ≡ request_frame request)

-- the numbers of a reply are of 64 bits
abbrev pub HasFittingNumbers : Reply → Type 0
HasFittingNumbers (Welcome session at) = IsNumber64 session × IsNumber64 at
HasFittingNumbers (Done at number) = IsNumber64 at × IsNumber64 number
HasFittingNumbers (Allowed at hit value) = IsNumber64 at × IsNumber64 hit × IsNumber64 value
HasFittingNumbers (Denied at cause line fault) = IsNumber64 at × IsNumber64 cause × IsNumber64 line × IsNumber64 fault
HasFittingNumbers (Refused at number) = IsNumber64 at × IsNumber64 number
HasFittingNumbers (Down at line) = IsNumber64 at × IsNumber64 line
HasFittingNumbers NoMemory = Unit {0}
HasFittingNumbers (Bad place) = IsNumber64 place
HasFittingNumbers (Seen at) = IsNumber64 at

-- the bytes are the frame of this reply
abbrev pub IsReplyFrameOf : Reply → List ℕ → Type 0
IsReplyFrameOf reply bytes = HasFittingNumbers reply × (bytes ≡ reply_frame reply)
