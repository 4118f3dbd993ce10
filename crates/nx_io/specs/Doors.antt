-- What calls of a door answer, and what they do to the links that come.
use Rattle.std.specs.Prelude.{◌≡◌, List, [], ◌∷◌, None, Some}
use Rattle.std.specs.declared.option.Option.{Option}
use Rattle.nx_io.specs.declared.streams.Shared.{Shared}
use Rattle.nx_io.specs.declared.streams.Shared.TheVariants.{Made as SharedMade, Failed as SharedFailed, NoMemory as SharedNoMemory}
use Rattle.nx_io.specs.declared.doors.Next.{Next}
use Rattle.nx_io.specs.declared.doors.Next.TheVariants.{Link as NextLink, NoMore as NextNoMore, Failed as NextFailed}
use Rattle.nx_io.specs.declared.doors.Dial.{Dial}
use Rattle.nx_io.specs.declared.doors.Dial.TheVariants.{Link as DialLink, Failed as DialFailed}

-- this link, and then the known ones
abbrev pub first_of : {L : Type 0} → L → Option (List L) → Option (List L)
first_of link None = None
first_of link (Some known) = Some (link ∷ known)

-- no link is known to come
abbrev pub HasNone : {L : Type 0} → Option (List L) → Type 0
HasNone None = Unit {0}
HasNone (Some known) = known ≡ []

-- The links to come, before and after a `next`, where they are known: the one that is given comes off their front, `NoMore` is
-- answered only where none is left, and nothing else changes them.
abbrev pub Gives : {L : Type 0} → Next L → Option (List L) → Option (List L) → Type 0
Gives (NextLink link) old new = old ≡ first_of link new
Gives NextNoMore old new = (new ≡ old) × HasNone old
Gives NextFailed old new = new ≡ old

-- what was given by `next` has this property, where a link was given
abbrev pub IfGiven : {L : Type 0} → Next L → (L → Type 0) → Type 0
IfGiven (NextLink link) Property = Property link
IfGiven NextNoMore Property = Unit {0}
IfGiven NextFailed Property = Unit {0}

-- what was dialed has this property, where there is a link
abbrev pub IfDialed : {L : Type 0} → Dial L → (L → Type 0) → Type 0
IfDialed (DialLink link) Property = Property link
IfDialed DialFailed Property = Unit {0}

-- what was made for a share has this property, where one was made
abbrev pub IfMade : {A : Type 0} → Shared A → (A → Type 0) → Type 0
IfMade (SharedMade share) Property = Property share
IfMade SharedFailed Property = Unit {0}
IfMade SharedNoMemory Property = Unit {0}
