-- The line of a request.
use Rattle.std.specs.Prelude.{◌≡◌, ◌≢◌, ◌<◌, ◌≤◌, ◌^◌, ℕ, List, [], ◌++◌, length, codes}
use Rattle.std.specs.List.{All}
use Rattle.std.specs.Fmt.{decimal}
use Rattle.nal_term.specs.Names.{IsName}
use Rattle.nal_term.specs.Secrets.{IsSecret}
use Rattle.policy_history.specs.PolicyLines.{spaced}
use Rattle.session_wire.specs.declared.requests.Request.{Request}
use Rattle.session_wire.specs.declared.requests.Request.TheVariants.{Hello, Say, Transfer, Delete, NewObject, SetGoal, ClearGoal, SetProof, ClearProof, Bind, Unbind, Call, See}

-- the line of a request, without a line feed
abbrev pub request_text : Request → List ℕ
request_text (Hello name secret) = spaced (codes "hello") (spaced name secret)
request_text (Say principal formula) = spaced (codes "say") (principal ++ codes " : " ++ formula)
request_text (Transfer number to) = spaced (codes "transfer") (spaced (decimal number) to)
request_text (Delete number) = spaced (codes "delete") (decimal number)
request_text (NewObject name) = spaced (codes "object") name
request_text (SetGoal op object formula) = spaced (codes "goal") (spaced op object ++ codes " : " ++ formula)
request_text (ClearGoal op object) = spaced (codes "nogoal") (spaced op object)
request_text (SetProof op object proof) = spaced (codes "proof") (spaced op object ++ codes " : " ++ proof)
request_text (ClearProof op object) = spaced (codes "noproof") (spaced op object)
request_text (Bind principal port) = spaced (codes "bind") (spaced principal (decimal port))
request_text (Unbind principal) = spaced (codes "unbind") principal
request_text (Call op object arg) = spaced (codes "call") (spaced op (spaced object (decimal arg)))
request_text (See number) = spaced (codes "see") (decimal number)

-- one word: at least one byte, and no space
abbrev pub IsOneWord : List ℕ → Type 0
IsOneWord bytes = (bytes ≢ []) × All (λ b. b ≢ 32) bytes

-- a number of 64 bits
abbrev pub IsNumber64 : ℕ → Type 0
IsNumber64 n = n < 2 ^ 64

-- the parts of a request are what its line can hold
abbrev pub IsWritable : Request → Type 0
IsWritable (Hello name secret) = IsName name × IsSecret secret
IsWritable (Say principal formula) = IsOneWord principal
IsWritable (Transfer number to) = IsNumber64 number × IsName to
IsWritable (Delete number) = IsNumber64 number
IsWritable (NewObject name) = IsName name
IsWritable (SetGoal op object formula) = IsName op × IsName object
IsWritable (ClearGoal op object) = IsName op × IsName object
IsWritable (SetProof op object proof) = IsName op × IsName object
IsWritable (ClearProof op object) = IsName op × IsName object
IsWritable (Bind principal port) = IsOneWord principal × IsNumber64 port
IsWritable (Unbind principal) = IsOneWord principal
IsWritable (Call op object arg) = IsName op × IsName object × IsNumber64 arg
IsWritable (See number) = IsNumber64 number

-- the bytes are the text of this request
abbrev pub IsRequestText : List ℕ → Request → Type 0
IsRequestText text request = IsWritable request × (text ≡ request_text request)

-- the bytes are the line of this request: its text, in at most 33,700 bytes
abbrev pub IsRequestLine : List ℕ → Request → Type 0
IsRequestLine line request = (length line ≤ 33700) × IsRequestText line request

-- no bytes are the text of two requests
abbrev pub OneRequest : Type 0
OneRequest = (text : List ℕ) (q r : Request) → IsRequestText text q → IsRequestText text r → q ≡ r
