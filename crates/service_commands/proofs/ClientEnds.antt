-- How the ends of a run of `client` come from those of its parts.
use Rattle.std.specs.Prelude.{IfOk, IfSome, Result, option_map}
use Rattle.std.specs.declared.alloc.AllocError.{AllocError}
use Rattle.std.proofs.Common.{◌≡◌, ◌≢◌, ◌≤◌, ◌↔◌, ◌⊎◌, ◌∷◌, inl, inr, Bool, true, ℕ, List, [], length, IsTrue, Option, Some, None, refl, sym, subst, ap, ◌∙◌, arith}
use Rattle.std.specs.Io.KnownBytes.{IsAtEnd}
use Rattle.nx_io.specs.Streams.{MayRise, one_more, prepended}
use Rattle.run_streams.specs.Runs.{SinkRun, SourceRun, most_bytes}
use Rattle.run_streams.proofs.ForCallers.{apart, not_refused, read_whole, unanswered_memory, unanswered_refuses}
use Rattle.nexus_client.specs.declared.ends.TalkEnd.{TalkEnd}
use Rattle.nexus_client.specs.declared.ends.TalkEnd.TheVariants.{Done, Unreached, Broken, Ended, Unwritten, Memory}
use Rattle.nexus_client.specs.declared.requests.RequestsError.{RequestsError}
use Rattle.nexus_client.specs.declared.requests.RequestsError.TheVariants.{Wrong, Memory as NoRoom}
use Rattle.nexus_client.specs.declared.inputs.TalkInput.{TalkInput}
use Rattle.nexus_client.specs.Inner.Reading.{IsWrongInputOf}
use Rattle.nexus_client.specs.TalkInputs.{AreFramesOf}
use Rattle.nx_io.specs.DoorCalls.{faults_in, not_dialed}
use Rattle.nx_io.proofs.DoorCalls.{faults_more}
use Rattle.nexus_client.specs.TalkLaws.{IsInOrder}
use Rattle.nexus_client.specs.Talks.{link_faults_after, sink_faults_after, talk_call, Talks, done, answered, unsent, untaken, cut_off, no_reply, unwritten, no_memory as no_room}
use Rattle.nexus_serve.specs.Hosting.{HasCalled}
use Rattle.nx_io.specs.Views.{DoorView, LinkView}
use Rattle.input_flaws.specs.LineFlaws.{IsFlawAt}
use Rattle.input_flaws.proofs.ForCallers.{each_flaw}
use Rattle.run_streams.specs.Flaws.{flaw_tree}
use Rattle.run_streams.specs.declared.flaws.Flaw.{Flaw}
use Rattle.run_streams.specs.Refusals.{RefusesExactly}
use Rattle.service_commands.specs.Clients.{AreRequestsOf, EndsClient, IsCompleteClient, RunsClient, client_status, formula_words, requests_form, talked, undialed, unreached}

-- an input in its form, as the source gave it
pub requests_given : (input : TalkInput) (source : SourceRun) (left_now : Option (List ℕ)) (frames : List (List ℕ)) (bytes : List ℕ) → source.known ≡ prepended source.given left_now → source.given ≡ bytes
    → IsTrue source.over → IsAtEnd left_now → length bytes ≤ most_bytes → AreFramesOf input bytes frames → AreRequestsOf input source frames
requests_given input source left_now frames bytes taken same over end few form = record {
  small = subst (λ (b : List ℕ). length b ≤ most_bytes) (sym same) few;
  form = subst (λ (b : List ℕ). AreFramesOf input b frames) (sym same) form;
  whole = read_whole source left_now taken over end;
}

-- a text in which a line is wrong, and what was told of it
pub wrong_told : (input : TalkInput) (text : List ℕ) (error : RequestsError) (k : ℕ) (told : Result Flaw AllocError) → error ≡ Wrong k → IsWrongInputOf input text error
    → IfOk told (λ flaw. IsFlawAt (formula_words input) [] text k (flaw_tree flaw)) → IfOk told (λ flaw. (requests_form input).wrong text k (flaw_tree flaw))
wrong_told input text error k told e w is = each_flaw told (λ flaw at. (subst (IsWrongInputOf input text) e w, at)) is

pub no_requests : (input : TalkInput) (text : List ℕ) (error : RequestsError) (k : ℕ) → error ≡ Wrong k → (error ≢ NoRoom → (frames : List (List ℕ)) → ¬ AreFramesOf input text frames)
    → ¬ (requests_form input).formed text
no_requests input text error k e no_form = λ has. no_form (λ m. cc (sym e ∙ m)) has.0 has.1

-- ---- The talk

-- where nobody was reached the status is 7, and none else
pub unreached_status : {end : TalkEnd} {status : ℕ} → status ≡ client_status end → end ≡ Unreached → status ≡ 7
unreached_status s is = s ∙ ap client_status is

pub unreached_failed : {end : TalkEnd} {status : ℕ} → status ≡ client_status end → end ≡ Unreached → (status ≡ 4) ⊎ (status ≡ 6) → ⊥
unreached_failed {status = status} s is (inl e) = apart status 7 4 (s ∙ ap client_status is) e refl
unreached_failed {status = status} s is (inr e) = apart status 7 6 (s ∙ ap client_status is) e refl

-- what a talk left ends the run
pub talk_ends : {L : Type 0} (view : L → LinkView) {input : TalkInput} {address : List ℕ} {source : SourceRun} {sink : SinkRun} {door door_now : DoorView} (frames : List (List ℕ)) (dialed : Option L) (end : TalkEnd)
    (status : ℕ) → AreRequestsOf input source frames → source.faults_now ≡ source.faults → status ≡ client_status end → (dialed ≡ None) ↔ (end ≡ Unreached) → (dialed ≡ None → sink.sent ≡ [])
    → IfSome dialed (λ link. Talks frames (view link).sent (view link).taken sink.sent (view link).over end)
    → IfSome dialed (λ link. IsInOrder frames (view link).sent (view link).taken sink.sent (view link).over end) → IfSome dialed (λ link. (view link).closed ≡ true)
    → IfSome dialed (λ link. (view link).toward ≡ Some address) → IfSome dialed (λ link. (view link).place ≡ 0) → IfSome dialed (λ link. MayRise (link_faults_after end 0) (view link).faults)
    → sink.faults_now ≡ sink_faults_after end sink.faults → HasCalled (talk_call address dialed ∷ []) door door_now → EndsClient input address source sink door door_now (option_map view dialed) status
talk_ends view {sink = sink} {door = door} {door_now = door_now} frames None end status are still s u silent talks ordered closed toward place count sank called =
    let is = u.0 refl in
    unreached frames refl (s ∙ ap client_status is) are
    called (silent refl) still (sank ∙ ap (λ e. sink_faults_after e sink.faults) is)
talk_ends view {door = door} frames (Some link) end status are still s u silent talks ordered closed toward place count sank called =
    talked frames (view link) end refl s are (record { talks = talks; in_order = ordered; toward = toward; closed = closed; place = place; link_count = count; sink_count = sank })
    called still

-- ---- The run

-- a talk is had over a link, so it does not end without one
never_unreached : {requests : List (List ℕ)} {sent taken written : List ℕ} {over : Bool} {end : TalkEnd} → Talks requests sent taken written over end → end ≡ Unreached → ⊥
never_unreached done e = cc e
never_unreached (answered request reply fits behind) e = never_unreached behind e
never_unreached (unsent request n few) e = cc e
never_unreached (untaken request piece is) e = cc e
never_unreached (cut_off request piece is) e = cc e
never_unreached (no_reply request bytes is) e = cc e
never_unreached (unwritten request reply n fits few) e = cc e
never_unreached (no_room request reply fits) e = cc e

-- a link that failed has a count
has_failed : (faults : ℕ) → MayRise (one_more 0) faults → faults ≡ 0 → ⊥
has_failed faults (inl e) zero = omega (arith, e, zero)
has_failed faults (inr e) zero = omega (arith, e, zero)

pub never_three : (end : TalkEnd) → client_status end ≡ 3 → ⊥
never_three Done e = apart (client_status Done) 0 3 refl e refl
never_three Unwritten e = apart (client_status Unwritten) 5 3 refl e refl
never_three Memory e = apart (client_status Memory) 6 3 refl e refl
never_three Unreached e = apart (client_status Unreached) 7 3 refl e refl
never_three Broken e = apart (client_status Broken) 7 3 refl e refl
never_three Ended e = apart (client_status Ended) 9 3 refl e refl

module _ {input : TalkInput} {address : List ℕ} {source : SourceRun} {sink : SinkRun} {door door_now : DoorView} {dialed : Option LinkView} {status : ℕ} where
  complete_client : EndsClient input address source sink door door_now dialed status → IsCompleteClient input address source sink door door_now dialed status
  complete_client (talked frames link Done d s are talk kept still) = λ p q r t form. inr (inl (frames, link, d, are, talk, s))
  complete_client (talked frames link Ended d s are talk kept still) = λ p q r t form. inr (inr (frames, link, d, are, talk, s))
  complete_client (talked frames link Memory d s are talk kept still) = λ p q r t form. inl s
  complete_client (talked frames link Unwritten d s are talk kept still) = λ p q r t form. absurd (q (rw talk.sink_count (omega arith)))
  complete_client (talked frames link Broken d s are talk kept still) = λ p q r t form. absurd (has_failed link.faults talk.link_count (t link d))
  complete_client (talked frames link Unreached d s are talk kept still) = λ p q r t form. absurd (never_unreached talk.talks refl)
  complete_client (unreached frames d s are refused_it sent f g) = λ p q r t form. absurd (r (let risen = ap (λ (d : DoorView). faults_in d.calls) refused_it ∙ faults_more door.calls (not_dialed address) in omega (arith, risen)))
  complete_client (undialed d kept ends) = λ p q r t form. inl (unanswered_memory (requests_form input) source sink status ends p q form)

  refuses_client : EndsClient input address source sink door door_now dialed status → RefusesExactly (requests_form input) source status
  refuses_client (talked frames link end d s are talk kept still) = λ x y z.
      ((λ h. absurd (never_three end (sym s ∙ h))), λ r. absurd (not_refused (requests_form input) source.given are.small (frames, are.form) r))
  refuses_client (unreached frames d s are refused_it sent f g) = λ x y z.
      ((λ h. absurd (apart status 7 3 s h refl)), λ r. absurd (not_refused (requests_form input) source.given are.small (frames, are.form) r))
  refuses_client (undialed d kept ends) = unanswered_refuses (requests_form input) source sink status ends

  -- what ends a run of `client` is a run of `client`
  pub runs_client : EndsClient input address source sink door door_now dialed status → RunsClient input address source sink door door_now dialed status
  runs_client e = record { ends = e; complete = complete_client e; refuses = refuses_client e }
