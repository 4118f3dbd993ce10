-- Whoever is admitted in a session stays so.
use Rattle.std.proofs.Common.{◌≡◌, inl, inr, ℕ, List, true, true≢false, Option, Some, None, refl, sym, ap, ◌∙◌}
use Rattle.std.specs.Prelude.{Result, Ok, Err}
use Rattle.std.specs.Option.{is_some}
use Rattle.object_table.specs.Objects.{number_of}
use Rattle.policy_history.specs.declared.events.Due.{Due}
use Rattle.policy_history.specs.declared.events.Refusal.{Refusal}
use Rattle.policy_history.specs.declared.heads.Head.{Head}
use Rattle.policy_history.specs.Events.{EntryTree, EventTree}
use Rattle.policy_history.specs.Machine.{replay}
use Rattle.policy_history.specs.Values.{decision}
use Rattle.authority_ask.specs.Panels.{Told as Ask}
use Rattle.session_wire.specs.declared.requests.Request.{Request}
use Rattle.session_wire.specs.declared.requests.Request.TheVariants.{Call, Hello, See}
use Rattle.session_wire.specs.declared.replies.Reply.{Reply}
use Rattle.session_core.specs.Answers.{HasOutcome, IsAnswer, IsCalledOn, IsGivenUp, Outcome, answered, changed, down, found, given_up}
use Rattle.session_core.specs.Standing.{Standing}
use Rattle.session_core.specs.declared.board_session.BoardSession.{BoardSession}
use Rattle.session_core.specs.Inner.Boarding.{IsTurn, who_of}
use Rattle.session_core.proofs.ToldRefusals.{stays}

-- ---- Over a journal

module _ (h : Head) (es : List EntryTree) (session p : ℕ) (outcome : Outcome) where
  called_stays : (op object : List ℕ) (number : Option ℕ) → IsCalledOn h es p op number outcome → outcome.who ≡ Some p
  called_stays op object None is = ap (λ (o : Outcome). o.who) is
  called_stays op object (Some n) (found finding judged is) = ap (λ (o : Outcome). o.who) is
  called_stays op object (Some n) (down k broken is) = ap (λ (o : Outcome). o.who) is

  changed_stays : (e : EventTree) (r : Result Due Refusal) → (changed es session p e r).who ≡ Some p
  changed_stays e (Ok due) = refl
  changed_stays e (Err refusal) = refl

  answered_stays : (request : Request) → IsAnswer h es session (Some p) request outcome → outcome.who ≡ Some p
  answered_stays (Hello name secret) is = ap (λ (o : Outcome). o.who) is
  answered_stays (Call op object arg) is = called_stays op object (number_of (replay h es).objects object) is
  answered_stays (See k) (inl is) = ap (λ (o : Outcome). o.who) is.1
  answered_stays (See k) (inr is) = ap (λ (o : Outcome). o.who) is.1
  answered_stays request is = ap (λ (o : Outcome). o.who) is.2 ∙ changed_stays is.0 (decision h (replay h es) session p is.0)

  given_up_stays : (request : Request) → IsGivenUp h es (Some p) request outcome → outcome.who ≡ Some p
  given_up_stays (Call op object arg) is = ap (λ (o : Outcome). o.who) is.1
  given_up_stays request is = ap (λ (o : Outcome). o.who) is

pub outcome_stays : (h : Head) (es : List EntryTree) (session : ℕ) (who : Option ℕ) (request : Request) (outcome : Outcome) → HasOutcome h es session who request outcome → is_some who ≡ true
    → is_some outcome.who ≡ true
outcome_stays h es session None request outcome is some = absurd (true≢false (sym some))
outcome_stays h es session (Some p) request outcome (answered is) some = ap is_some (answered_stays h es session p outcome request is)
outcome_stays h es session (Some p) request outcome (given_up wants is) some = ap is_some (given_up_stays h es session p outcome request is)

-- ---- Over a shared board

pub turn_stays : (s t : BoardSession) (asks : List Ask) (request : Request) (reply : Reply) → IsTurn s t asks request reply → is_some (who_of s) ≡ true → is_some (who_of t) ≡ true
turn_stays s t asks request reply turn some = of (who_of s) refl some
  where
    of : (who : Option ℕ) → who_of s ≡ who → is_some who ≡ true → is_some (who_of t) ≡ true
    of None who_is some = absurd (true≢false (sym some))
    of (Some p) who_is some = ap is_some (sym (ap (λ (x : Standing). x.who) turn.after) ∙ stays who_is turn.answers)
