-- What calls of a link leave as it was.
use Rattle.std.specs.Prelude.{◌≡◌, ℕ, List, [], Bool, false}
use Rattle.std.specs.declared.option.Option.{Option}

-- which link it is: the number under which a door gave it, and the address that was dialed
pub record KeepsOrigin (place place_now : ℕ) (toward toward_now : Option (List ℕ)) : Type 0 where
  pub place_is : place_now ≡ place
  pub toward_is : toward_now ≡ toward

-- what came from the peer: the bytes to come, those that were taken, and whether they are over
pub record KeepsComing (left left_now : Option (List ℕ)) (taken taken_now : List ℕ) (over over_now : Bool) : Type 0 where
  pub left_is : left_now ≡ left
  pub taken_is : taken_now ≡ taken
  pub over_is : over_now ≡ over

-- what goes to the peer: the bytes that were sent, and whether the link is closed
pub record KeepsGoing (sent sent_now : List ℕ) (closed closed_now : Bool) : Type 0 where
  pub sent_is : sent_now ≡ sent
  pub closed_is : closed_now ≡ closed

-- nothing was taken or sent, and the link is neither over nor closed, its peer is not admitted, and it has not failed
pub record IsFreshLink (taken sent : List ℕ) (over closed admitted : Bool) (faults : ℕ) : Type 0 where
  pub taken_is : taken ≡ []
  pub sent_is : sent ≡ []
  pub over_is : over ≡ false
  pub closed_is : closed ≡ false
  pub admitted_is : admitted ≡ false
  pub faults_is : faults ≡ 0
