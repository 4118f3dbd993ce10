-- Sources over readers and sinks over writers of std, as contracts see them, and what their calls do.
use Rattle.std.specs.Prelude.{ℕ, List, [], take, Bool}
use Rattle.std.specs.Io.KnownBytes.{Appends, Consumes, IsAtEnd, Keeps}
use Rattle.std.specs.declared.option.Option.{Option}
use Rattle.nx_io.specs.declared.streams.Got.{Got}
use Rattle.nx_io.specs.declared.streams.Got.TheVariants.{Bytes as GotBytes, End as GotEnd, Failed as GotFailed}
use Rattle.nx_io.specs.declared.streams.Put.{Put}
use Rattle.nx_io.specs.declared.streams.Put.TheVariants.{Bytes as PutBytes, Failed as PutFailed}

-- a source: the bytes that its reader has left, where std knows them, those that it gave, whether it is over, and the
-- faults
pub record Reading : Type 0 where
  pub remaining : Option (List ℕ)
  pub given : List ℕ
  pub over : Bool
  pub faults : ℕ

-- a sink: the bytes that its writer holds, where std knows them, those that were sent, how many of them were synced, and the faults
pub record Writing : Type 0 where
  pub contents : Option (List ℕ)
  pub sent : List ℕ
  pub synced : ℕ
  pub faults : ℕ

-- a sink that keeps nothing: the bytes that were sent, and how many of them were synced
pub record Discarded : Type 0 where
  pub sent : List ℕ
  pub synced : ℕ

-- what a read does to the known bytes of the reader: it hands them on
abbrev pub HandsOn : Got → Option (List ℕ) → Option (List ℕ) → List ℕ → Type 0
HandsOn (GotBytes n) old new into = Consumes old new (take n into)
HandsOn GotEnd old new into = Consumes old new [] × IsAtEnd new
HandsOn GotFailed old new into = Keeps old new

-- what a write does to the known bytes of the writer: it hands them the front of the piece
abbrev pub HandsTo : Put → Option (List ℕ) → Option (List ℕ) → List ℕ → Type 0
HandsTo (PutBytes n) old new piece = Appends old new (take n piece)
HandsTo PutFailed old new piece = Keeps old new
