-- A session that is alone over a journal, by one request more.
use Rattle.std.proofs.Common.{◌≡◌, ◌+◌, ℕ, List, [], ◌∷◌, ◌++◌, Option, None, refl, sym, ap, subst, arith, ◌∙◌}
use Rattle.std.proofs.lemmas.List.{map-append}
use Rattle.nx_io.specs.Streams.{Grows}
use Rattle.nx_io.proofs.ForCallers.{grows-nothing}
use Rattle.policy_history.specs.declared.heads.Head.{Head}
use Rattle.policy_history.specs.Events.{EntryTree}
use Rattle.authority_ask.specs.PanelCalls.{HasOnlyAsked, asked_since}
use Rattle.authority_ask.specs.Panels.{Told}
use Rattle.authority_ask.proofs.ForCallers.{only_nothing, only_through, since_nothing, since_through}
use Rattle.session_wire.specs.Answers.{WantsMemory}
use Rattle.session_wire.specs.declared.requests.Request.{Request}
use Rattle.session_wire.specs.declared.replies.Reply.{Reply}
use Rattle.session_core.specs.declared.lines.Asking.{Asking}
use Rattle.session_wire.specs.declared.replies.Reply.TheVariants.{NoMemory}
use Rattle.session_core.specs.Answers.{HasOutcome, outcome_of}
use Rattle.session_core.specs.Inner.Serving.{Course, IsAlone}
use Rattle.session_core.specs.Ends.{askings_of, at_first}
use Rattle.session_core.specs.Sessions.{Told1}
use Rattle.session_core.proofs.Answering.{given_up_outcome}
use Rattle.session_core.proofs.Turns.{told_next}

told_one : (h : Head) (session : ℕ) (es0 es es_now : List EntryTree) (who who_now : Option ℕ) (asks more : List Told) (requests : List Request) (replies : List Reply) (q : Request) (reply : Reply)
    → Told1 h session (at_first es0) (askings_of requests) replies asks (record { entries = es; admitted = who ∷ [] })
    → HasOutcome h es session who q (outcome_of reply who_now more es es_now) → Grows es es_now
    → Told1 h session (at_first es0) (askings_of (requests ++ q ∷ [])) (replies ++ reply ∷ []) (asks ++ more) (record { entries = es_now; admitted = who_now ∷ [] })
told_one h session es0 es es_now who who_now asks more requests replies q reply told outcome grown =
    let asking : Asking = record { place = 0; request = q } in
    let same : session ≡ session + 0 = omega arith in
    let here : HasOutcome h es (session + 0) who q (outcome_of reply who_now more es es_now) =
    subst (λ (n : ℕ). HasOutcome h es n who q (outcome_of reply who_now more es es_now)) same outcome in
    let longer : askings_of (requests ++ q ∷ []) ≡ askings_of requests ++ asking ∷ [] = map-append (λ (r : Request). record { place = 0; request = r }) requests (q ∷ []) in
    subst (λ (xs : List Asking). Told1 h session (at_first es0) xs (replies ++ reply ∷ []) (asks ++ more) (record { entries = es_now; admitted = who_now ∷ [] })) (sym longer)
    (told_next h session (at_first es0) (askings_of requests) asking replies reply who who_now asks more es es_now (who ∷ []) refl told here grown)

-- one request more, by what its answer ensures
pub alone_more : (b c now : Course) (requests : List Request) (replies : List Reply) (q : Request) (reply : Reply) → IsAlone b c requests replies
    → HasOutcome c.head c.es c.number c.who q (outcome_of reply now.who (asked_since c.asked now.asked) c.es now.es) → now.number ≡ c.number
    → now.head ≡ c.head → Grows c.es now.es → HasOnlyAsked c.asked now.asked → IsAlone b now (requests ++ q ∷ []) (replies ++ reply ∷ [])
alone_more b c now requests replies q reply alone outcome number head grown asked =
    let here : HasOutcome b.head c.es b.number c.who q (outcome_of reply now.who (asked_since c.asked now.asked) c.es now.es) = rw (alone.head_is, alone.number_is) at outcome in
    record {
      told = subst (λ (xs : List Told). Told1 b.head b.number (at_first b.es) (askings_of (requests ++ q ∷ [])) (replies ++ reply ∷ []) xs (record { entries = now.es; admitted = now.who ∷ [] }))
          (sym (since_through b.asked c.asked now.asked alone.only_asked asked))
          (told_one b.head b.number b.es c.es now.es c.who now.who (asked_since b.asked c.asked) (asked_since c.asked now.asked) requests replies q reply alone.told here grown);
      number_is = number ∙ alone.number_is;
      head_is = head ∙ alone.head_is;
      only_asked = only_through b.asked c.asked now.asked alone.only_asked asked;
    }

-- one request more that was given up
pub alone_given_up : (b c : Course) (requests : List Request) (replies : List Reply) (q : Request) → WantsMemory q → IsAlone b c requests replies
    → IsAlone b c (requests ++ q ∷ []) (replies ++ NoMemory ∷ [])
alone_given_up b c requests replies q wants alone =
    alone_more b c c requests replies q NoMemory alone
    (subst (λ (xs : List Told). HasOutcome c.head c.es c.number c.who q (outcome_of NoMemory c.who xs c.es c.es)) (sym (since_nothing c.asked)) (given_up_outcome c.head c.es c.number c.who q wants))
    refl refl (grows-nothing c.es) (only_nothing c.asked)

-- nothing was told yet
pub alone_first : (b : Course) → b.who ≡ None → IsAlone b b [] []
alone_first b nobody = record {
  told = (since_nothing b.asked, ap (λ (who : Option ℕ). record { entries = b.es; admitted = who ∷ [] }) nobody);
  number_is = refl;
  head_is = refl;
  only_asked = only_nothing b.asked;
}
