-- One more of a list of authorities, and one more of a list of requests.
use Rattle.std.proofs.Common.{◌≡◌, ◌+◌, ◌<◌, ℕ, List, [], ◌∷◌, ◌++◌, take, map, length, get_or, Option, Some, None, sym, ap, subst, ◌∙◌, append_assoc}
use Rattle.std.specs.Prelude.{slice_get, slice_set}
use Rattle.std.proofs.lemmas.List.{map-append, take_more}
use Rattle.std.proofs.lemmas.Option.{get_or_from_slice_get, slice_get_within, unwrap_or-slice_get}
use Rattle.nx_io.specs.declared.streams.Reach.TheVariants.{Failed}
use Rattle.nx_io.specs.Streams.{Grows}
use Rattle.policy_history.specs.declared.heads.Authority.{Authority}
use Rattle.policy_history.specs.declared.heads.Head.{Head}
use Rattle.policy_history.specs.Events.{EntryTree}
use Rattle.authority_ask.specs.PanelCalls.{PanelCall, PanelHistory, not_reached, reached, with_call}
use Rattle.authority_ask.specs.Panels.{Told}
use Rattle.session_wire.specs.declared.replies.Reply.{Reply}
use Rattle.session_core.specs.declared.lines.Asking.{Asking}
use Rattle.session_core.specs.Answers.{HasOutcome, outcome_of}
use Rattle.session_core.specs.Reaching.{HaveReached, reached_at}
use Rattle.session_core.specs.Sessions.{Answers, Point, Told1, admitted_in}
use Rattle.session_core.proofs.ForCallers.{told-then}

-- one authority more
module _ (before then now : PanelHistory) (authorities : List Authority) (k : ℕ) (a : Authority) (stands : slice_get authorities k ≡ Some a)
    (so_far : then ≡ record before { calls = before.calls ++ map reached_at (take k authorities) }) where
  one_call : (call : PanelCall) → now ≡ with_call then call → now ≡ record before { calls = before.calls ++ (map reached_at (take k authorities) ++ call ∷ []) }
  one_call call is =
      is ∙ ap (λ (h : PanelHistory). with_call h call) so_far
      ∙ ap (λ (calls : List PanelCall). record before { calls = calls }) (append_assoc before.calls (map reached_at (take k authorities)) (call ∷ []))

  pub reached_more : now ≡ with_call then (reached a.port a.address) → now ≡ record before { calls = before.calls ++ map reached_at (take (k + 1) authorities) }
  reached_more is =
      let within : k < length authorities = slice_get_within authorities k a stands in
      let more : take (k + 1) authorities ≡ take k authorities ++ a ∷ [] =
      take_more authorities k a within ∙ ap (λ b. take k authorities ++ b ∷ []) (get_or_from_slice_get authorities k a a stands) in
      one_call (reached_at a) is ∙ ap (λ (calls : List PanelCall). record before { calls = before.calls ++ calls }) (sym (ap (map reached_at) more ∙ map-append reached_at (take k authorities) (a ∷ [])))

  pub reached_no_more : now ≡ with_call then (not_reached a.port a.address) → HaveReached Failed authorities before now
  reached_no_more is = (k, a, stands, one_call (not_reached a.port a.address) is)

-- one request more, by what a call of the session's answer ensures
pub told_next : (h : Head) (first : ℕ) (start : Point) (askings : List Asking) (asking : Asking) (replies : List Reply) (reply : Reply) (who who_now : Option ℕ)
    (asks more : List Told) (es es_now : List EntryTree) (admitted : List (Option ℕ))
    → who ≡ admitted_in (record { entries = es; admitted = admitted }) asking.place
    → Told1 h first start askings replies asks (record { entries = es; admitted = admitted })
    → HasOutcome h es (first + asking.place) who asking.request (outcome_of reply who_now more es es_now)
    → Grows es es_now
    → Told1 h first start (askings ++ asking ∷ []) (replies ++ reply ∷ []) (asks ++ more) (record { entries = es_now; admitted = slice_set admitted asking.place who_now })
told_next h first start askings asking replies reply who who_now asks more es es_now admitted in_place told outcome grown =
    let point : Point = record { entries = es; admitted = admitted } in
    let answers : Answers h first point asking (outcome_of reply who_now more es es_now) =
    subst (λ (w : Option ℕ). HasOutcome h es (first + asking.place) w asking.request (outcome_of reply who_now more es es_now)) in_place outcome in
    subst (λ (xs : List EntryTree). Told1 h first start (askings ++ asking ∷ []) (replies ++ reply ∷ []) (asks ++ more) (record { entries = xs; admitted = slice_set admitted asking.place who_now })) (sym grown)
    (told-then h first start askings replies asks point asking (outcome_of reply who_now more es es_now) told answers)

-- one request more of a list
pub told_more : (h : Head) (first : ℕ) (start : Point) (askings : List Asking) (i : ℕ) (asking : Asking) (replies : List Reply) (reply : Reply) (who who_now : Option ℕ)
    (asks more : List Told) (es es_now : List EntryTree) (admitted : List (Option ℕ))
    → i < length askings → asking ≡ get_or askings i asking → who ≡ get_or admitted asking.place None
    → Told1 h first start (take i askings) replies asks (record { entries = es; admitted = admitted })
    → HasOutcome h es (first + asking.place) who asking.request (outcome_of reply who_now more es es_now)
    → Grows es es_now
    → Told1 h first start (take (i + 1) askings) (replies ++ reply ∷ []) (asks ++ more) (record { entries = es_now; admitted = slice_set admitted asking.place who_now })
told_more h first start askings i asking replies reply who who_now asks more es es_now admitted room at who_is told outcome grown =
    let in_place : who ≡ admitted_in (record { entries = es; admitted = admitted }) asking.place = who_is ∙ sym (unwrap_or-slice_get admitted asking.place None) in
    let longer : take (i + 1) askings ≡ take i askings ++ asking ∷ [] = take_more askings i asking room ∙ ap (λ a. take i askings ++ a ∷ []) (sym at) in
    subst (λ (xs : List Asking). Told1 h first start xs (replies ++ reply ∷ []) (asks ++ more) (record { entries = es_now; admitted = slice_set admitted asking.place who_now })) (sym longer)
    (told_next h first start (take i askings) asking replies reply who who_now asks more es es_now admitted in_place told outcome grown)
