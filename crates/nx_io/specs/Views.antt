-- What links, doors, sources, sinks and recorders tell, as plain values, and what of it grows or stays. Each word takes the ghost members of
-- a trait as a whole: `link_view L.Link link` is what a link of type L tells.
use Rattle.std.specs.Prelude.{ℕ, List, Bool, Option, map, option_map}
use Rattle.nx_io.specs.DoorCalls.{DoorCall, DoorOrigin}
use Rattle.nx_io.specs.Links.{KeepsOrigin}
use Rattle.nx_io.specs.Streams.{Gave}
use Rattle.nx_io.specs.declared.doors.Door.{Ghosts as DoorGhosts}
use Rattle.nx_io.specs.declared.doors.Next.{Next}
use Rattle.nx_io.specs.declared.doors.Next.TheVariants.{Link as NextLink, NoMore as NextNoMore, Failed as NextFailed}
use Rattle.nx_io.specs.declared.links.Link.{Ghosts as LinkGhosts}
use Rattle.nx_io.specs.declared.recorders.Recorder.{Ghosts as RecorderGhosts}
use Rattle.nx_io.specs.declared.streams.Sink.{Ghosts as SinkGhosts}
use Rattle.nx_io.specs.declared.streams.Source.{Ghosts as SourceGhosts}

-- ---- Links and doors

-- what a link tells; it is told to be admitted where its peer was
pub record LinkView : Type 0 where
  pub left : Option (List ℕ)
  pub taken : List ℕ
  pub sent : List ℕ
  pub over : Bool
  pub closed : Bool
  pub admitted : Bool
  pub place : ℕ
  pub toward : Option (List ℕ)
  pub faults : ℕ

abbrev pub link_view : {L : Type 0} → LinkGhosts L → L → LinkView
link_view link l = record {
  left = link.left l;
  taken = link.taken l;
  sent = link.sent l;
  over = link.over l;
  closed = link.closed l;
  admitted = link.admitted l;
  place = link.place l;
  toward = link.toward l;
  faults = link.faults l;
}

-- the bytes that a link's takes gave came off the front of those to come
abbrev pub HasTaken : {L : Type 0} → LinkGhosts L → L → L → Type 0
HasTaken link old new = Gave (link.left old) (link.left new) (link.taken old) (link.taken new)

-- a link is the one that a door gave, or that was dialed, as before
abbrev pub IsSameLink : {L : Type 0} → LinkGhosts L → L → L → Type 0
IsSameLink link old new = KeepsOrigin (link.place old) (link.place new) (link.toward old) (link.toward new)

-- what a door tells
pub record DoorView : Type 0 where
  pub links : Option (List LinkView)
  pub origin : DoorOrigin
  pub calls : List DoorCall

abbrev pub door_view : {D L : Type 0} → DoorGhosts D L → LinkGhosts L → D → DoorView
door_view door link d = record {
  links = option_map (map (link_view link)) (door.links d);
  origin = door.origin d;
  calls = door.calls d;
}

-- what a door answered, the link by what it tells
abbrev pub next_view : {L : Type 0} → LinkGhosts L → Next L → Next LinkView
next_view link (NextLink l) = NextLink (link_view link l)
next_view link NextNoMore = NextNoMore
next_view link NextFailed = NextFailed

-- ---- Sources and sinks

-- the bytes that a source gave came off the front of those to come
abbrev pub HasGiven : {S : Type 0} → SourceGhosts S → S → S → Type 0
HasGiven source old new = Gave (source.left old) (source.left new) (source.given old) (source.given new)

-- what a sink tells: what it was sent, how many bytes of its front a sync has brought to where they last, and how often it has failed
pub record SinkView : Type 0 where
  pub sent : List ℕ
  pub synced : ℕ
  pub faults : ℕ

abbrev pub sink_view : {K : Type 0} → SinkGhosts K → K → SinkView
sink_view sink k = record { sent = sink.sent k; synced = sink.synced k; faults = sink.faults k }

-- what a recorder tells: what it was sent itself, how much of that a sync has brought to where it lasts, how often it has failed, and how often
-- it was asked for a share
pub record RecorderView : Type 0 where
  pub sent : List ℕ
  pub synced : ℕ
  pub faults : ℕ
  pub shares : ℕ

abbrev pub recorder_view : {C : Type 0} → SinkGhosts C → RecorderGhosts C → C → RecorderView
recorder_view sink recorder c = record { sent = sink.sent c; synced = sink.synced c; faults = sink.faults c; shares = recorder.shares c }
