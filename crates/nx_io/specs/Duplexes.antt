-- Streams both ways, as contracts see them, and what their calls leave as it was.
use Rattle.std.specs.Prelude.{◌≡◌, ℕ, List, [], Bool, false, None, Some}
use Rattle.std.specs.declared.option.Option.{Option}

-- a stream of std: the bytes that it has left and those that it holds, where std knows them; those that it gave and took, whether
-- it was shut, whether it was told that its peer is admitted, and the faults
pub record Stream : Type 0 where
  pub remaining : Option (List ℕ)
  pub contents : Option (List ℕ)
  pub given : List ℕ
  pub sent : List ℕ
  pub shut : Bool
  pub admitted : Bool
  pub faults : ℕ

-- the bytes that std knows of what may be there
abbrev pub known_of : {S : Type 0} → (S → Option (List ℕ)) → Option S → Option (List ℕ)
known_of known None = None
known_of known (Some stream) = known stream

-- a stream of which nothing was asked yet
abbrev pub new_stream : Option (List ℕ) → Option (List ℕ) → Stream
new_stream remaining contents = record { remaining = remaining; contents = contents; given = []; sent = []; shut = false; admitted = false; faults = 0 }

-- the bytes that went the other way, whether a stream was shut, and whether its peer is admitted
pub record AreSame (bytes bytes_now : List ℕ) (shut shut_now admitted admitted_now : Bool) : Type 0 where
  pub bytes_are : bytes_now ≡ bytes
  pub shut_is : shut_now ≡ shut
  pub admitted_is : admitted_now ≡ admitted
