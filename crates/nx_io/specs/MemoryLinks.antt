-- Links in memory, as contracts see them.
use Rattle.std.specs.Prelude.{ℕ, List, [], Bool, false, None}
use Rattle.std.specs.declared.option.Option.{Option}
use Rattle.nx_io.specs.Memory.{Supply, Store, new_store}

-- a link: a source of the bytes that are taken and a sink of those that are sent, which count their calls apart; whether it is
-- closed, whether its peer is admitted, where it came from, and the faults of both
pub record Wire : Type 0 where
  pub supply : Supply
  pub store : Store
  pub closed : Bool
  pub admitted : Bool
  pub place : ℕ
  pub toward : Option (List ℕ)
  pub faults : ℕ

-- a link with these bytes to come, this room and greatest size of a piece, and these numbers of takes and of sends that fail, of
-- which nothing was asked yet
abbrev pub new_wire : List ℕ → ℕ → ℕ → List ℕ → List ℕ → Wire
new_wire left room piece take_fails send_fails = record {
  supply = record { left = left; given = []; over = false; piece = piece; fails = take_fails; calls = 0; faults = 0 };
  store = new_store room piece send_fails [];
  closed = false;
  admitted = false;
  place = 0;
  toward = None;
  faults = 0;
}
