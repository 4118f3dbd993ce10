-- What reads and writes answer, and what they do to the histories of a source and of a sink.
use Rattle.std.specs.Prelude.{◌≡◌, ◌⊎◌, ℕ, ◌+◌, ◌-◌, ◌^◌, ◌≤◌, ◌<◌, min, List, ◌++◌, length, take, drop, None, Some, Bool, true, false}
use Rattle.std.specs.Io.KnownBytes.{IsAtEnd}
use Rattle.std.specs.declared.option.Option.{Option}
use Rattle.nx_io.specs.declared.streams.Got.{Got}
use Rattle.nx_io.specs.declared.streams.Got.TheVariants.{Bytes as GotBytes, End as GotEnd, Failed as GotFailed}
use Rattle.nx_io.specs.declared.streams.Put.{Put}
use Rattle.nx_io.specs.declared.streams.Put.TheVariants.{Bytes as PutBytes, Failed as PutFailed}
use Rattle.nx_io.specs.declared.streams.Reach.{Reach}
use Rattle.nx_io.specs.declared.streams.Reach.TheVariants.{Ready as ReachReady, Failed as ReachFailed}

-- one more, up to the end of a count's type
abbrev pub one_more : ℕ → ℕ
one_more count = min (count + 1) (2 ^ 64 - 1)

-- a count rose, or stands at the end of its type
abbrev pub Rose : ℕ → ℕ → Type 0
Rose before now = one_more before ≤ now

-- a count stands still or rises by one
abbrev pub MayRise : ℕ → ℕ → Type 0
MayRise before now = (now ≡ before) ⊎ (now ≡ one_more before)

-- the count of faults after a read: one more at `Failed`, the same at any other answer
abbrev pub faults_after_read : Got → ℕ → ℕ
faults_after_read (GotBytes n) faults = faults
faults_after_read GotEnd faults = faults
faults_after_read GotFailed faults = one_more faults

-- the count of faults after a write: one more at `Failed`, the same at any other answer
abbrev pub faults_after_write : Put → ℕ → ℕ
faults_after_write (PutBytes n) faults = faults
faults_after_write PutFailed faults = one_more faults

-- the count of faults after a call that is done as a whole: one more at `Failed`, the same at `Ready`
abbrev pub faults_after_reach : Reach → ℕ → ℕ
faults_after_reach ReachReady faults = faults
faults_after_reach ReachFailed faults = one_more faults

-- how many bytes of a sink's front last, after a sync: all at `Ready`, and as many as before at `Failed`
abbrev pub synced_after : Reach → List ℕ → ℕ → ℕ
synced_after ReachReady sent synced = length sent
synced_after ReachFailed sent synced = synced

-- what a history gained between two moments
abbrev pub gained : {A : Type 0} → List A → List A → List A
gained before now = drop (length before) now

-- a history grew, or stayed as it was: all that it held it still holds
abbrev pub Grows : {A : Type 0} → List A → List A → Type 0
Grows before now = now ≡ before ++ gained before now

-- a read of bytes gives at least one, and no more than the buffer holds
abbrev pub ReadsWithin : Got → List ℕ → Type 0
ReadsWithin (GotBytes n) into = (1 ≤ n) × (n ≤ length into)
ReadsWithin GotEnd into = Unit {0}
ReadsWithin GotFailed into = Unit {0}

-- a write of bytes takes at least one, and no more than the piece has
abbrev pub WritesWithin : Put → List ℕ → Type 0
WritesWithin (PutBytes n) piece = (1 ≤ n) × (n ≤ length piece)
WritesWithin PutFailed piece = Unit {0}

-- these bytes, and then the known ones
abbrev pub prepended : List ℕ → Option (List ℕ) → Option (List ℕ)
prepended bytes None = None
prepended bytes (Some known) = Some (bytes ++ known)

-- The bytes still to come, before and after a read, where they are known: the first n of the buffer come off their
-- front, the end is answered only where none is left, and nothing else changes them.
abbrev pub Reads : Got → Option (List ℕ) → Option (List ℕ) → List ℕ → Type 0
Reads (GotBytes n) old new into = old ≡ prepended (take n into) new
Reads GotEnd old new into = (new ≡ old) × IsAtEnd old
Reads GotFailed old new into = new ≡ old

-- the bytes given so far, after a read: the first n of the buffer come last
abbrev pub given_after : Got → List ℕ → List ℕ → List ℕ
given_after (GotBytes n) given into = given ++ take n into
given_after GotEnd given into = given
given_after GotFailed given into = given

-- whether a source is over, after a read: the end makes it so, bytes end that, and a failure changes nothing
abbrev pub over_after : Got → Bool → Bool
over_after (GotBytes n) over = false
over_after GotEnd over = true
over_after GotFailed over = over

-- what a source did over some time: the bytes that its history gained came off the front of those to come
pub record Gave (left left_now : Option (List ℕ)) (given given_now : List ℕ) : Type 0 where
  pub grows : Grows given given_now
  pub taken : left ≡ prepended (gained given given_now) left_now

-- the piece is appended to the bytes that were sent
abbrev pub Sends : List ℕ → List ℕ → List ℕ → Type 0
Sends old new piece = new ≡ old ++ piece

-- a proper part of the piece is appended: a front of it, and not all
abbrev pub SendsPart : List ℕ → List ℕ → List ℕ → Type 0
SendsPart old new piece = (n : ℕ) × (n < length piece) × Sends old new (take n piece)

-- the bytes that were sent, before and after a write: the first n of the piece are appended, or nothing
abbrev pub Writes : Put → List ℕ → List ℕ → List ℕ → Type 0
Writes (PutBytes n) old new piece = Sends old new (take n piece)
Writes PutFailed old new piece = new ≡ old

-- the bytes that were sent, before and after a whole piece was to be: all of it is appended, or a proper part of it
abbrev pub SendsAll : Reach → List ℕ → List ℕ → List ℕ → Type 0
SendsAll ReachReady old new piece = Sends old new piece
SendsAll ReachFailed old new piece = SendsPart old new piece
