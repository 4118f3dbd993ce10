-- Words that only the contracts of private functions use. No statement about a run rests on them.
use Rattle.std.specs.Prelude.{◌≡◌, ℕ, List, map, Some}
use Rattle.std.specs.List.{count_by, sum_by}
use Rattle.nx_io.specs.MemoryDoors.{Doorway}
use Rattle.nx_io.specs.MemoryLinks.{Wire}
use Rattle.nx_io.specs.Views.{DoorView, LinkView}
use Rattle.session_wire.specs.declared.replies.Reply.{Reply}
use Rattle.session_wire.specs.Frames.{reply_frames}
use Rattle.nexus_serve.specs.declared.reporting.ServedSession.{ServedSession}
use Rattle.nexus_serve.specs.Views.{ReportView}
use Rattle.service_drill.specs.Runs.{allows, denies}

-- what a link in memory tells, and a door
abbrev pub wire_view : Wire → LinkView
wire_view l = record {
  left = Some l.supply.left;
  taken = l.supply.given;
  sent = l.store.sent;
  over = l.supply.over;
  closed = l.closed;
  admitted = l.admitted;
  place = l.place;
  toward = l.toward;
  faults = l.faults;
}

abbrev pub view_of : Doorway → DoorView
view_of d = record { links = Some (map wire_view d.links); origin = d.origin; calls = d.calls }

-- the bytes are the frames of replies, of which so many allow a call and so many deny one
pub record CountsReplies (sent : List ℕ) (counts : ℕ × ℕ) : Type 0 where
  pub replies : List Reply
  pub replies_are : sent ≡ reply_frames replies
  pub allowed : counts.0 ≡ count_by allows replies
  pub denied : counts.1 ≡ count_by denies replies

-- the bytes that the links of reports were sent
abbrev pub sent_over : List ReportView → List (List ℕ)
sent_over reports = map (λ (report : ReportView). report.link.sent) reports

-- the bytes that the links of sessions were sent
abbrev pub sent_in : List (ServedSession Wire) → List (List ℕ)
sent_in sessions = map (λ (session : ServedSession Wire). session.link.store.sent) sessions

-- so of several links, all together
pub record CountsLinks (links : List (List ℕ)) (counts : ℕ × ℕ) : Type 0 where
  pub replies : List (List Reply)
  pub replies_are : links ≡ map reply_frames replies
  pub allowed : counts.0 ≡ sum_by (count_by allows) replies
  pub denied : counts.1 ≡ sum_by (count_by denies) replies
