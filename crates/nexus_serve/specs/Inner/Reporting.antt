-- What is handed back behind the workers.
use Rattle.std.specs.Prelude.{◌≡◌, List, [], length, map, All, Some, Bool, true, false, codes}
use Rattle.nx_io.specs.Streams.{Rose, Sends}
use Rattle.nx_io.specs.Views.{DoorView, SinkView}
use Rattle.policy_history.specs.PolicyTexts.{ended}
use Rattle.verdict_words.specs.Settling.{all_met, all_of, flat}
use Rattle.verdict_words.specs.declared.views.AtomicStep.{AtomicStep}
use Rattle.policy_book.specs.Books.{AreGatheredIn, AreLasting, BookValue, IsLegalBook, IsMetIn, IsNumbered, SendsFront, head_of, trees_of}
use Rattle.nexus_serve.specs.declared.closing.ServeEnd.{ServeEnd}
use Rattle.nexus_serve.specs.Views.{ReportView}
use Rattle.nexus_serve.specs.Services.{IsJournal, IsTextSent, ServedView}
use Rattle.nexus_serve.specs.Inner.Gathering.{GatheredValue, joined_each}
use Rattle.nexus_serve.specs.Inner.Working.{end_of}

-- the text was ended, and the journal of the book is handed back with what was gathered
pub record IsClosed {K M : Type 0} (book : BookValue K) (doors : List DoorView) (means : List M) (reports : List ReportView) (end : ServeEnd) (served : ServedView M) : Type 0 where
  pub journal : IsJournal served.journal (head_of book) book.entries
  pub sink_now : SinkView
  pub sink : served.sink ≡ Some sink_now
  pub text : IsTextSent (head_of book) (trees_of book) served.written book.start book.start_faults sink_now
  pub failed : book.is_broken ≡ true → Rose book.start_faults sink_now.faults
  pub lasts : AreLasting (head_of book) book.board.origin.opening book.entries book.start sink_now.synced
  pub reports_are : served.reports ≡ reports
  pub doors_are : served.doors ≡ doors
  pub means_are : served.means ≡ means
  pub end_is : served.end ≡ end
  pub legal : IsLegalBook book
  pub numbered : IsNumbered book

-- all passes were met once more, and what was gathered is handed back with the journal of the book
pub record IsReported {K M : Type 0} (book : BookValue K) (gathered : GatheredValue M) (served : ServedView M) : Type 0 where
  pub journal : IsJournal served.journal (head_of book) book.entries
  pub sink_now : SinkView
  pub sink : served.sink ≡ Some sink_now
  pub text : IsTextSent (head_of book) (trees_of book) served.written book.start book.start_faults sink_now
  pub failed : book.is_broken ≡ true → Rose book.start_faults sink_now.faults
  pub lasts : AreLasting (head_of book) book.board.origin.opening book.entries book.start sink_now.synced
  pub known : List AtomicStep
  pub reports : served.reports ≡ flat (joined_each gathered.sessions (map (all_met book.board book.entries known) gathered.used))
  pub doors : served.doors ≡ gathered.doors
  pub means : served.means ≡ gathered.means
  pub end : served.end ≡ end_of gathered.has_failed gathered.lacks_room
  pub met : All (IsMetIn book) (all_of gathered.used gathered.unused)
  pub order : AreGatheredIn book (all_of gathered.used gathered.unused) known
  pub legal : IsLegalBook book
  pub numbered : IsNumbered book

-- the last line of the text was sent and synced, where the sink did not fail, or a front of it was sent, maybe all of it, since the sink failed
abbrev pub IsEnded : Bool → SinkView → SinkView → Type 0
IsEnded true sink sink_now = Sends sink.sent sink_now.sent (ended (codes "end")) × (sink_now.synced ≡ length sink_now.sent) × (sink_now.faults ≡ sink.faults)
IsEnded false sink sink_now = SendsFront sink.sent sink_now.sent (ended (codes "end")) × (sink_now.synced ≡ sink.synced) × Rose sink.faults sink_now.faults

-- nobody was served, and the doors and means are handed back
pub record IsHandedBack {M : Type 0} (doors : List DoorView) (means : List M) (served : ServedView M) : Type 0 where
  pub reports : served.reports ≡ []
  pub doors_are : served.doors ≡ doors
  pub means_are : served.means ≡ means
  pub written : served.written ≡ false
