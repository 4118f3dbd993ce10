-- The entries that come of the frames of a session are kept.
use Rattle.std.proofs.Common.{◌≡◌, ℕ, List, [], ◌∷◌, refl, sym, subst}
use Rattle.std.specs.List.{All}
use Rattle.std.proofs.lemmas.List.Elements.{All-append, All-cons, All-head, All-nil, All-tail}
use Rattle.policy_history.specs.declared.heads.Head.{Head}
use Rattle.policy_history.specs.Events.{EntryTree}
use Rattle.authority_ask.specs.Panels.{Told as Ask}
use Rattle.session_wire.specs.declared.requests.Request.{Request}
use Rattle.session_wire.specs.declared.replies.Reply.{Reply}
use Rattle.session_wire.specs.Frames.{HasFrame}
use Rattle.verdict_words.specs.declared.views.Item.{Item}
use Rattle.kept_policies.proofs.ForCallers.{asked_events}
use Rattle.session_core.specs.Standing.{Standing, beginning}
use Rattle.session_core.specs.Calls.{Judges, Turn}
use Rattle.session_core.specs.Told.{Answers, Leads}
use Rattle.session_core.specs.Calls as calling
use Rattle.session_core.specs.Unanswered as unanswered
use Rattle.session_core.specs.Changes as changing
use Rattle.session_core.specs.Told as told
use Rattle.told_records.specs.Audited.{AddedAreKept, IsKeptOf}

module _ (h : Head) (es : List EntryTree) (s : ℕ) where
  -- nothing was added
  none_kept : (turn left : Turn) → turn ≡ left → left.added ≡ [] → All (IsKeptOf s) turn.added
  none_kept turn left is none = subst (λ (t : Turn). All (IsKeptOf s) t.added) (sym is) (subst (All (IsKeptOf s)) (sym none) (All-nil (IsKeptOf s)))

  judged_kept : {before : Standing} {p arg n : ℕ} {op object : List ℕ} {looked : List Item} (turn : Turn) → Judges h (calling.state_at h es n) before p op object arg n looked turn → All (IsKeptOf s) turn.added
  judged_kept turn (calling.no_object none is) = none_kept turn _ is refl
  judged_kept turn (calling.judged k value finding kept ran found j keeps runs is) = none_kept turn _ is refl
  judged_kept turn (calling.down k line found broken is) = none_kept turn _ is refl

  turn_kept : (before : Standing) (request : Request) (turn : Turn) → HasFrame request → Answers h es s before request turn → All (IsKeptOf s) turn.added
  turn_kept before request turn framed (told.hello name secret greeting is greets same) = none_kept turn _ same refl
  turn_kept before request turn framed (told.early nobody other same) = none_kept turn _ same refl
  turn_kept before request turn framed (told.change p e who is (changing.refused m refusal met seen refuses meets same)) = none_kept turn _ same refl
  turn_kept before request turn framed (told.change p e who is (changing.not_recorded m due met seen accepts meets same)) = none_kept turn _ same refl
  turn_kept before request turn framed (told.change p e who is (changing.done m due met seen accepts at meets same)) =
      let entry : EntryTree = record { session = s; principal = p; event = e } in
      subst (λ (t : Turn). All (IsKeptOf s) t.added) (sym same) (All-cons (IsKeptOf s) entry [] (refl, asked_events request e framed.0 is) (All-nil (IsKeptOf s)))
  turn_kept before request turn framed (told.call p op object arg who is (calling.hit n place slot of_object of_store value held verdict ran looks makes stands right runs same)) = none_kept turn _ same refl
  turn_kept before request turn framed (told.call p op object arg who is (calling.snapped low n looked misses seen judges)) = judged_kept turn judges
  turn_kept before request turn framed (told.given_up wants same) = none_kept turn _ same refl
  turn_kept before request turn framed (told.call_given_up p op object arg who is (unanswered.looked low steps misses same)) = none_kept turn _ same refl
  turn_kept before request turn framed (told.call_given_up p op object arg who is (unanswered.met low n steps misses seen vain same)) = none_kept turn _ same refl
  turn_kept before request turn framed (told.call_unrecorded p op object arg who is (unanswered.hit_unrecorded n place slot of_object of_store held looks makes same)) = none_kept turn _ same refl
  turn_kept before request turn framed (told.call_unrecorded p op object arg who is (unanswered.snap_unrecorded low n steps misses seen asked same)) = none_kept turn _ same refl
  turn_kept before request turn framed (told.call_unrecorded p op object arg who is (unanswered.later_unrecorded same)) = none_kept turn _ same refl
  turn_kept before request turn framed (told.see p k who is (changing.seen m seen there same)) = none_kept turn _ same refl
  turn_kept before request turn framed (told.see p k who is (changing.not_yet m seen far same)) = none_kept turn _ same refl

  leads_kept : (before : Standing) (requests : List Request) (replies : List Reply) (asks : List Ask) (steps : List Item) (added : List EntryTree) (last : Standing)
      → All HasFrame requests → Leads h es s before requests replies asks steps added last → All (IsKeptOf s) added
  leads_kept before [] [] asks steps added last framed led = subst (All (IsKeptOf s)) (sym led.2) (All-nil (IsKeptOf s))
  leads_kept before (q ∷ qs) (r ∷ rs) asks steps added last framed led =
      let first = turn_kept before q led.0 (All-head HasFrame q qs framed) led.4 in
      let others = leads_kept led.0.after qs rs led.1 led.2 led.3 last (All-tail HasFrame q qs framed) led.9 in
      subst (All (IsKeptOf s)) (sym led.8) (All-append (IsKeptOf s) led.0.added led.3 first others)
  leads_kept before [] (r ∷ rs) asks steps added last framed led = absurd led
  leads_kept before (q ∷ qs) [] asks steps added last framed led = absurd led

pub added_are_kept : AddedAreKept
added_are_kept h es s low requests replies asks trail last framed t = leads_kept h es s (beginning t.first) requests replies asks t.steps t.added last framed t.leads
