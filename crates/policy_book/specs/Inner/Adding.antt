-- How a journal and the seat of its board change with an entry.
use Rattle.std.specs.Prelude.{◌≡◌, ℕ, ◌<◌, ◌≤◌, List, [], ◌∷◌, ◌++◌, length, None}
use Rattle.policy_history.specs.declared.events.Entry.{Entry}
use Rattle.policy_history.specs.declared.heads.Head.{Head}
use Rattle.verdict_words.specs.Histories.{IsPrefix, own}
use Rattle.verdict_words.specs.Orders.{publishes}
use Rattle.verdict_words.specs.declared.views.AtomicStep.{AtomicStep}
use Rattle.verdict_words.specs.Values.{Identity, PassValue, SeatValue, met_seen}
use Rattle.verdict_words.specs.declared.views.Item.TheVariants.{Met}
use Rattle.policy_book.specs.Books.{session_of}

-- a pass that was met, and met again after an entry
abbrev pub met_twice : Identity Entry Head → List Entry → List Entry → List AtomicStep → PassValue Entry Head → PassValue Entry Head
met_twice board entries entries_new known pass = record pass { board = board; seen = entries_new; trail = (pass.trail ++ Met (length entries) ∷ []) ++ Met (length entries_new) ∷ []; known = known }

-- the entry was added, by the session of the pass
pub record IsAdded (old new : SeatValue Entry Head) (pass : PassValue Entry Head) (entry : Entry) : Type 0 where
  pub seat : new ≡ record old { entries = old.entries ++ entry ∷ []; turn = pass.session; lag = []; raised = None; known = new.known }
  pub seen : IsPrefix pass.seen old.entries
  pub above : old.board.origin.first ≤ pass.session
  pub below : pass.session < old.next
  pub own_seen : own session_of old.entries pass.session ≡ own session_of pass.seen pass.session
  pub own_met : own session_of old.entries pass.session ≡ own session_of (met_seen pass) pass.session

-- The entry behind so many was published, behind all that the book and the pass knew, and this is known since
pub record IsPublished (known mine : List AtomicStep) (count : ℕ) (known_then : List AtomicStep) : Type 0 where
  pub before : List AtomicStep
  pub after : List AtomicStep
  pub behind_book : IsPrefix known before
  pub behind_pass : IsPrefix mine before
  pub is : known_then ≡ before ++ publishes count ∷ after
