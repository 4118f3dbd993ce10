-- What stands first in the bytes that a service sends.
use Rattle.std.specs.Prelude.{◌≡◌, ◌≢◌, ◌<◌, ◌≤◌, ◌+◌, ◌-◌, ◌*◌, ◌^◌, ℕ, List, [], ◌∷◌, ◌++◌, length, Option, Some, None, nat_lt, slice_get, if◌then◌else◌}
use Rattle.session_wire.specs.declared.replies.Reply.{Reply}
use Rattle.session_wire.specs.Frames.{HasFittingNumbers, length_bytes, reply_frame}

-- how many numbers the replies of each kind hold, in the order of the kinds from 65
abbrev pub counts_by_kind : List ℕ
counts_by_kind = 2 ∷ 2 ∷ 3 ∷ 4 ∷ 2 ∷ 2 ∷ 0 ∷ 1 ∷ 1 ∷ []

-- how many numbers the replies of this kind hold; none for an unknown kind
unfoldable pub count_of_kind : ℕ → Option ℕ
count_of_kind kind = if nat_lt kind 65 then None else slice_get counts_by_kind (kind - 65)

-- the length of the payload of a reply: a byte of kind and at most four numbers
abbrev pub IsReplyLength : ℕ → Type 0
IsReplyLength n = (k : ℕ) × (k ≤ 4) × (n ≡ 1 + 8 * k)

-- the length of the payloads of this kind
abbrev pub IsLengthOf : ℕ → ℕ → Type 0
IsLengthOf kind n = (k : ℕ) × (count_of_kind kind ≡ Some k) × (n ≡ 1 + 8 * k)

-- A reply that is not whole, or no byte of one: fewer than four bytes; the length of a reply alone; or a kind of this length,
-- and less bytes than it tells.
pub data IsReplyPart (bytes : List ℕ) : Type 0 where
  few : length bytes < 4 → IsReplyPart bytes
  without_kind : (n : ℕ) → IsReplyLength n → bytes ≡ length_bytes n → IsReplyPart bytes
  cut : (n kind : ℕ) (more : List ℕ) → IsLengthOf kind n → bytes ≡ length_bytes n ++ kind ∷ more → length more + 1 < n → IsReplyPart bytes

-- The bytes are what has to be taken until it is known that this is no reply: four where no reply has this length, and five
-- where the kind is unknown or has another length.
pub data IsNoReply (bytes : List ℕ) : Type 0 where
  bad_length : (n : ℕ) → n < 2 ^ 32 → ¬ IsReplyLength n → bytes ≡ length_bytes n → IsNoReply bytes
  bad_kind : (n kind : ℕ) → IsReplyLength n → ¬ IsLengthOf kind n → bytes ≡ length_bytes n ++ kind ∷ [] → IsNoReply bytes

-- what stands first in bytes: a reply, nothing at all, a part of a reply, or bytes that no reply has
pub data ReplyBeginning : Type 0 where
  reply : Reply → ReplyBeginning
  edge : ReplyBeginning
  torn : ReplyBeginning
  bad : ReplyBeginning

-- the bytes begin so, and `rest` follows
abbrev pub BeginsReply : List ℕ → ReplyBeginning → List ℕ → Type 0
BeginsReply bytes (reply r) rest = HasFittingNumbers r × (bytes ≡ reply_frame r ++ rest)
BeginsReply bytes edge rest = (bytes ≡ []) × (rest ≡ [])
BeginsReply bytes torn rest = (bytes ≢ []) × IsReplyPart bytes × (rest ≡ [])
BeginsReply bytes bad rest = (front : List ℕ) × IsNoReply front × (bytes ≡ front ++ rest)
