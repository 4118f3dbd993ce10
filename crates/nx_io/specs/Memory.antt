-- Sources and sinks in memory, as contracts see them, and what their calls do.
use Rattle.std.specs.Prelude.{◌≡◌, ◌↔◌, ◌⊎◌, ℕ, ◌-◌, min, List, [], length, Bool}
use Rattle.std.specs.List.{Contains}
use Rattle.nx_io.specs.Streams.{faults_after_read, faults_after_write, one_more}
use Rattle.nx_io.specs.declared.streams.Got.{Got}
use Rattle.nx_io.specs.declared.streams.Got.TheVariants.{Bytes as GotBytes, End as GotEnd, Failed as GotFailed}
use Rattle.nx_io.specs.declared.streams.Put.{Put}
use Rattle.nx_io.specs.declared.streams.Put.TheVariants.{Bytes as PutBytes, Failed as PutFailed}

-- a source: the bytes to come, those that were given, whether it is over, the greatest size of a piece, the numbers of
-- the calls that fail, the calls so far, and the faults
pub record Supply : Type 0 where
  pub left : List ℕ
  pub given : List ℕ
  pub over : Bool
  pub piece : ℕ
  pub fails : List ℕ
  pub calls : ℕ
  pub faults : ℕ

-- a sink: the bytes that it holds and their greatest number, the greatest size of a piece, the numbers of the writes
-- that fail, the writes so far; how many bytes were synced, the numbers of the syncs that fail, the syncs so far; and the faults of
-- both
pub record Store : Type 0 where
  pub sent : List ℕ
  pub room : ℕ
  pub piece : ℕ
  pub fails : List ℕ
  pub calls : ℕ
  pub synced : ℕ
  pub sync_fails : List ℕ
  pub syncs : ℕ
  pub faults : ℕ

-- a sink with this room and greatest size of a piece, and these numbers of writes and of syncs that fail, of which nothing was asked
-- yet
abbrev pub new_store : ℕ → ℕ → List ℕ → List ℕ → Store
new_store room piece fails sync_fails = record {
  sent = [];
  room = room;
  piece = piece;
  fails = fails;
  calls = 0;
  synced = 0;
  sync_fails = sync_fails;
  syncs = 0;
  faults = 0;
}

-- a read of bytes gives this many
abbrev pub ReadsCount : Got → ℕ → Type 0
ReadsCount (GotBytes n) count = n ≡ count
ReadsCount GotEnd count = Unit {0}
ReadsCount GotFailed count = Unit {0}

-- a write of bytes takes this many
abbrev pub WritesCount : Put → ℕ → Type 0
WritesCount (PutBytes n) count = n ≡ count
WritesCount PutFailed count = Unit {0}

-- a read: it fails where its number is listed and nowhere else, and gives as many bytes as it may
pub record Supplies (got : Got) (old new : Supply) (into : List ℕ) : Type 0 where
  pub piece : new.piece ≡ old.piece
  pub fails : new.fails ≡ old.fails
  pub calls : new.calls ≡ one_more old.calls
  pub faults : new.faults ≡ faults_after_read got old.faults
  pub failed : (got ≡ GotFailed) ↔ Contains old.fails new.calls
  pub count : ReadsCount got (min (min (length old.left) old.piece) (length into))

-- a write: it fails where its number is listed or no room is left, and nowhere else, and takes as many bytes as it may
pub record Stores (put : Put) (old new : Store) (given : List ℕ) : Type 0 where
  pub room : new.room ≡ old.room
  pub piece : new.piece ≡ old.piece
  pub fails : new.fails ≡ old.fails
  pub calls : new.calls ≡ one_more old.calls
  pub synced : new.synced ≡ old.synced
  pub sync_fails : new.sync_fails ≡ old.sync_fails
  pub syncs : new.syncs ≡ old.syncs
  pub faults : new.faults ≡ faults_after_write put old.faults
  pub failed : (put ≡ PutFailed) ↔ (Contains old.fails new.calls ⊎ (length old.sent ≡ old.room))
  pub count : WritesCount put (min (min (length given) old.piece) (old.room - length old.sent))
