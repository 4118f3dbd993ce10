-- Turns of a session whose history and states are known: changes, and calls that ask nobody.
use Rattle.std.proofs.Common.{◌≡◌, ◌≤◌, ◌<◌, ◌+◌, ℕ, suc, List, [], ◌∷◌, ◌++◌, take, length, true, Option, Some, None, refl, sym, ap, subst, arith, ◌∙◌, get_or, add-one, append_assoc, inl, inr, false}
use Rattle.std.specs.Prelude.{Ok, Err, slice_get, filter, map}
use Rattle.std.specs.List.{flat_map}
use Rattle.std.proofs.lemmas.Bool.{lt-ltb}
use Rattle.std.proofs.Math.Seq.{take-suc}
use Rattle.std.proofs.lemmas.Option.{get_or_from_slice_get, slice_get_within}
use Rattle.nal_rules.specs.Asking.{asks_for, lines_of}
use Rattle.nal_rules.specs.Faults.{is_ask}
use Rattle.nal_rules.specs.Verdicts.{IsVerdict}
use Rattle.nal_rules.specs.declared.verdicts.Verdict.{Verdict}
use Rattle.proof_lines.specs.Lines.{LineTree}
use Rattle.object_table.specs.Objects.{number_of}
use Rattle.proof_store.specs.Cases.{number_of as case_number}
use Rattle.policy_history.specs.declared.heads.Head.{Head}
use Rattle.policy_history.specs.declared.events.Due.{Due}
use Rattle.policy_history.specs.declared.events.Refusal.{Refusal}
use Rattle.policy_history.specs.declared.events.Refusal.TheVariants.{NotRecorded}
use Rattle.policy_history.specs.Events.{EventTree, EntryTree, name_of}
use Rattle.policy_history.specs.Judged.{IsRightIn, case_at}
use Rattle.policy_history.specs.Laws.{refusal_number}
use Rattle.policy_history.specs.Machine.{after, changed, counted, refusal_of, replay, reply_number}
use Rattle.policy_history.specs.PolicyLines.{entry_line}
use Rattle.policy_history.specs.States.{State}
use Rattle.policy_history.specs.Values.{decision}
use Rattle.policy_history.proofs.ForCallers.{replay_more}
use Rattle.authority_ask.specs.Panels.{Told as Ask}
use Rattle.guard_core.specs.declared.findings.Finding.{Finding}
use Rattle.guard_core.specs.Judging.{HasCount, IsBrokenOff, IsJudged, verdict_of}
use Rattle.guard_core.specs.declared.findings.GuardError.TheVariants.{Down as DownError, Memory as MemoryError}
use Rattle.session_wire.specs.declared.requests.Request.{Request}
use Rattle.session_wire.specs.declared.requests.Request.TheVariants.{Call}
use Rattle.session_wire.specs.declared.replies.Reply.{Reply}
use Rattle.session_wire.specs.declared.replies.Reply.TheVariants.{Done, Down, NoMemory, Refused}
use Rattle.journal_text.specs.RequestEvents.{IsEventOf}
use Rattle.verdict_words.specs.Answers.{MakesHit}
use Rattle.verdict_words.specs.Histories.{own}
use Rattle.verdict_words.specs.Rule.{last_met}
use Rattle.verdict_words.specs.declared.places.CasePlace.{CasePlace}
use Rattle.verdict_words.specs.declared.places.Held.{Held}
use Rattle.verdict_words.specs.declared.views.Item.{Item}
use Rattle.verdict_words.specs.declared.views.Item.TheVariants.{Loaded, Met}
use Rattle.session_core.specs.Standing.{Standing, Triple, beginning, knows}
use Rattle.policy_book.specs.Matter.{StandsFor}
use Rattle.session_core.specs.Calls.{IsPlaceIn, Judges, Keeps, Looks, Misses, Runs, Turn, checked, state_at, stepped, verdict_reply}
use Rattle.session_core.specs.Unanswered.{AreAskedInVain}
use Rattle.session_core.specs.Told.{Answers, IsTold, Leads}
use Rattle.session_core.specs.Calls as calling
use Rattle.session_core.specs.Unanswered as unanswered
use Rattle.session_core.specs.Changes as changing
use Rattle.session_core.specs.Told as told
use Rattle.session_core.proofs.ToldLaws.{leads_on, seen_on}

-- the state behind an event that is accepted, whose line has this length
abbrev pub behind : Head → State → ℕ → EventTree → ℕ → State
behind h st p e bytes = counted (changed h st p e) p bytes

accepted_by : (h : Head) (st : State) (s p : ℕ) (e : EventTree) (due : Due) → p < length h.principals → decision h st s p e ≡ Ok due
    → after h st (record { session = s; principal = p; event = e }) ≡ behind h st p e due.bytes
accepted_by h st s p e due low decided = of (refusal_of h st s p e) refl
  where
    of : (r : Option Refusal) → refusal_of h st s p e ≡ r → after h st (record { session = s; principal = p; event = e }) ≡ behind h st p e due.bytes
    of (Some refusal) r = absurd (cc (rw r at decided))
    of None r =
        let due_is : record { number = reply_number st p e; bytes = length (entry_line s (name_of h.principals p) e) } ≡ due = cc (rw r at decided) in
        rw (lt-ltb p (length h.principals) low, r) (ap (λ (d : Due). behind h st p e d.bytes) due_is)

-- one entry more that is accepted
pub next_replay : (h : Head) (es : List EntryTree) (s p : ℕ) → p < length h.principals → (st : State) (e : EventTree) (due : Due) → replay h es ≡ st → decision h st s p e ≡ Ok due
    → replay h (es ++ record { session = s; principal = p; event = e } ∷ []) ≡ behind h st p e due.bytes
next_replay h es s p low st e due is decided =
    replay_more h es (record { session = s; principal = p; event = e }) ∙ ap (λ (x : State). after h x (record { session = s; principal = p; event = e })) is
    ∙ accepted_by h st s p e due low decided

taken_more : {A : Type 0} (xs : List A) (n : ℕ) (x : A) → slice_get xs n ≡ Some x → take (n + 1) xs ≡ take n xs ++ x ∷ []
taken_more xs n x got =
    let more : take (suc n) xs ≡ take n xs ++ get_or xs n x ∷ [] = take-suc xs n x (slice_get_within xs n x got) in
    ap (λ k. take k xs) (add-one n) ∙ more ∙ ap (λ y. take n xs ++ y ∷ []) (get_or_from_slice_get xs n x x got)

module _ (h : Head) (es : List EntryTree) (s p : ℕ) (known_principal : p < length h.principals) where
  abbrev pub IsAt : ℕ → State → Type 0
  IsAt n st = state_at h es n ≡ st

  abbrev pub entry_of : EventTree → EntryTree
  entry_of e = record { session = s; principal = p; event = e }

  -- the session at a length, with the cases that it knows
  abbrev pub at : ℕ → List Triple → Standing
  at n known = record { who = Some p; low = n; known = known }

  pub next_state : (n : ℕ) (st : State) (e : EventTree) (due : Due) → IsAt n st → slice_get es n ≡ Some (entry_of e) → decision h st s p e ≡ Ok due → IsAt (n + 1) (behind h st p e due.bytes)
  next_state n st e due is got decided =
      ap (λ (xs : List EntryTree). replay h xs) (taken_more es n (entry_of e) got) ∙ next_replay h (take n es) s p known_principal st e due is decided

  abbrev pub done_turn : ℕ → List Triple → EventTree → ℕ → Turn
  done_turn n known e number = record { reply = Done (n + 1) number; asks = []; steps = Met n ∷ Met (n + 1) ∷ []; added = entry_of e ∷ []; after = at (n + 1) known }

  pub is_done : (n : ℕ) (known : List Triple) (st : State) (request : Request) (e : EventTree) (due : Due) → IsEventOf request e → IsAt n st → slice_get es n ≡ Some (entry_of e)
      → decision h st s p e ≡ Ok due → Answers h es s (at n known) request (done_turn n known e due.number)
  is_done n known st request e due asks is got decided =
      let within = slice_get_within es n (entry_of e) got in
      told.change p e refl asks (changing.done n due (Met n ∷ []) (omega arith, omega (arith, within)) (subst (λ (x : State). decision h x s p e ≡ Ok due) (sym is) decided) got (inl refl) refl)

  -- the same, where the line was written between two meetings
  abbrev pub twice_done_turn : ℕ → List Triple → EventTree → ℕ → Turn
  twice_done_turn n known e number = record (done_turn n known e number) { steps = Met n ∷ Met n ∷ Met (n + 1) ∷ [] }

  pub is_twice_done : (n : ℕ) (known : List Triple) (st : State) (request : Request) (e : EventTree) (due : Due) → IsEventOf request e → IsAt n st → slice_get es n ≡ Some (entry_of e)
      → decision h st s p e ≡ Ok due → Answers h es s (at n known) request (twice_done_turn n known e due.number)
  is_twice_done n known st request e due asks is got decided =
      let within = slice_get_within es n (entry_of e) got in
      told.change p e refl asks
      (changing.done n due (Met n ∷ Met n ∷ []) (omega arith, omega (arith, within)) (subst (λ (x : State). decision h x s p e ≡ Ok due) (sym is) decided) got (inr refl) refl)

  abbrev pub refused_turn : ℕ → List Triple → Refusal → Turn
  refused_turn n known refusal = stepped (at n known) (Refused n (refusal_number refusal)) [] (Met n ∷ [])

  pub is_refused : (n : ℕ) (known : List Triple) (st : State) (request : Request) (e : EventTree) (refusal : Refusal) → IsEventOf request e → IsAt n st → n ≤ length es
      → decision h st s p e ≡ Err refusal → Answers h es s (at n known) request (refused_turn n known refusal)
  is_refused n known st request e refusal asks is within decided =
      told.change p e refl asks (changing.refused n refusal (Met n ∷ []) (omega arith, within) (subst (λ (x : State). decision h x s p e ≡ Err refusal) (sym is) decided) (inl refl) refl)

  -- a change whose line was tried, between two meetings
  pub is_unrecorded : (n : ℕ) (known : List Triple) (st : State) (request : Request) (e : EventTree) (due : Due) → IsEventOf request e → IsAt n st → n ≤ length es
      → decision h st s p e ≡ Ok due → Answers h es s (at n known) request (stepped (at n known) (Refused n (refusal_number NotRecorded)) [] (Met n ∷ Met n ∷ []))
  is_unrecorded n known st request e due asks is within decided =
      told.change p e refl asks
      (changing.not_recorded n due (Met n ∷ Met n ∷ []) (omega arith, within) (subst (λ (x : State). decision h x s p e ≡ Ok due) (sym is) decided) (inr refl) refl)

  -- a call of what no object has the name of
  pub is_nameless : (from n : ℕ) (known : List Triple) (st : State) (op object : List ℕ) (arg : ℕ) → from ≤ n → IsAt n st → n ≤ length es → knows known op object ≡ false
      → number_of st.objects object ≡ None → Answers h es s (at from known) (Call op object arg) (stepped (at n known) (Refused n 8) [] (Met n ∷ []))
  is_nameless from n known st op object arg late is within unknown none =
      let turn : Turn = stepped (at n known) (Refused n 8) [] (Met n ∷ []) in
      let judges : Judges h st (at from known) p op object arg n [] turn = calling.no_object none refl in
      told.call p op object arg refl refl
      (calling.snapped from n [] (calling.unknown unknown refl refl) (late, within) (subst (λ (x : State). Judges h x (at from known) p op object arg n [] turn) (sym is) judges))

  -- a call whose case is judged in this state with these answers, where nothing is known of it yet or the look made no hit
  pub is_asked_from : (from mid n : ℕ) (known : List Triple) (st : State) (op object : List ℕ) (arg k value : ℕ) (finding : Finding) (asks : List Ask) (looked kept ran : List Item) → mid ≤ n → IsAt n st
      → n ≤ length es → Misses h es (at from known) p op object mid looked → number_of st.objects object ≡ Some k → IsJudged (case_at h st p op k) asks finding
      → Keeps (knows (checked st (at from known) n p op object k).known op object) n (case_number st.cases p op k) (case_at h st p op k) (verdict_of finding) kept
      → Runs op arg k (verdict_of finding) value ran
      → Answers h es s (at from known) (Call op object arg) (stepped (checked st (at from known) n p op object k) (verdict_reply n 0 value (verdict_of finding)) asks (looked ++ Met n ∷ (kept ++ ran)))
  is_asked_from from mid n known st op object arg k value finding asks looked kept ran late is within misses named judged keeps runs =
      let turn : Turn = stepped (checked st (at from known) n p op object k) (verdict_reply n 0 value (verdict_of finding)) asks (looked ++ Met n ∷ (kept ++ ran)) in
      let judges : Judges h st (at from known) p op object arg n looked turn = calling.judged k value finding kept ran named judged keeps runs refl in
      told.call p op object arg refl refl
      (calling.snapped mid n looked misses (late, within) (subst (λ (x : State). Judges h x (at from known) p op object arg n looked turn) (sym is) judges))

  -- the same where the session has seen as much before
  pub is_asked : (n : ℕ) (known : List Triple) (st : State) (op object : List ℕ) (arg k value : ℕ) (finding : Finding) (asks : List Ask) (looked kept ran : List Item) → IsAt n st → n ≤ length es
      → Misses h es (at n known) p op object n looked → number_of st.objects object ≡ Some k → IsJudged (case_at h st p op k) asks finding
      → Keeps (knows (checked st (at n known) n p op object k).known op object) n (case_number st.cases p op k) (case_at h st p op k) (verdict_of finding) kept
      → Runs op arg k (verdict_of finding) value ran
      → Answers h es s (at n known) (Call op object arg) (stepped (checked st (at n known) n p op object k) (verdict_reply n 0 value (verdict_of finding)) asks (looked ++ Met n ∷ (kept ++ ran)))
  is_asked n known st op object arg k value finding asks looked kept ran is within misses named judged keeps runs =
      is_asked_from n n n known st op object arg k value finding asks looked kept ran (omega arith) is within misses named judged keeps runs

  -- the same where nobody is asked
  pub is_judged : (n : ℕ) (known : List Triple) (st : State) (op object : List ℕ) (arg k value : ℕ) (finding : Finding) (looked kept ran : List Item) → IsAt n st → n ≤ length es
      → Misses h es (at n known) p op object n looked → number_of st.objects object ≡ Some k
      → filter is_ask (lines_of (case_at h st p op k)) ≡ [] → IsVerdict (case_at h st p op k) [] (verdict_of finding) → HasCount (case_at h st p op k) finding
      → Keeps (knows (checked st (at n known) n p op object k).known op object) n (case_number st.cases p op k) (case_at h st p op k) (verdict_of finding) kept
      → Runs op arg k (verdict_of finding) value ran
      → Answers h es s (at n known) (Call op object arg) (stepped (checked st (at n known) n p op object k) (verdict_reply n 0 value (verdict_of finding)) [] (looked ++ Met n ∷ (kept ++ ran)))
  is_judged n known st op object arg k value finding looked kept ran is within misses named nobody verdict count keeps runs =
      let judged : IsJudged (case_at h st p op k) [] finding = record {
        verdict = verdict;
        count = count;
        asks = [];
        asked = (λ decided. refl, λ undecided. sym (ap (λ (ls : List LineTree). asks_for (case_at h st p op k).bound ls []) nobody));
        told_is = refl;
      } in
      is_asked n known st op object arg k value finding [] looked kept ran is within misses named judged keeps runs

  -- and where the asks broke off at a line that was down
  pub is_down : (n : ℕ) (known : List Triple) (st : State) (op object : List ℕ) (arg k line : ℕ) (asks : List Ask) (looked : List Item) → IsAt n st → n ≤ length es
      → Misses h es (at n known) p op object n looked → number_of st.objects object ≡ Some k → IsBrokenOff (case_at h st p op k) asks (DownError line)
      → Answers h es s (at n known) (Call op object arg) (stepped (checked st (at n known) n p op object k) (Down n line) asks (looked ++ Met n ∷ []))
  is_down n known st op object arg k line asks looked is within misses named broken =
      let turn : Turn = stepped (checked st (at n known) n p op object k) (Down n line) asks (looked ++ Met n ∷ []) in
      let judges : Judges h st (at n known) p op object arg n looked turn = calling.down k line named broken refl in
      told.call p op object arg refl refl
      (calling.snapped n n looked misses (omega arith, within) (subst (λ (x : State). Judges h x (at n known) p op object arg n looked turn) (sym is) judges))

  -- or at one for whose answer there was no memory
  pub is_given_up : (n : ℕ) (known : List Triple) (st : State) (op object : List ℕ) (arg k : ℕ) (asks : List Ask) (looked : List Item) → IsAt n st → n ≤ length es
      → Misses h es (at n known) p op object n looked → number_of st.objects object ≡ Some k → IsBrokenOff (case_at h st p op k) asks MemoryError
      → Answers h es s (at n known) (Call op object arg) (stepped (at n known) NoMemory asks (looked ++ Met n ∷ []))
  is_given_up n known st op object arg k asks looked is within misses named broken =
      told.call_given_up p op object arg refl refl
      (unanswered.met n n looked misses (omega arith, within) (subst (λ (x : State). AreAskedInVain h x p op object asks) (sym is) (inr (k, named, broken))) refl)

  -- the place has the numbers of the case in this state
  abbrev pub IsKnownAt : ℕ → List Triple → State → List ℕ → List ℕ → CasePlace → Type 0
  IsKnownAt n known st op object place = (knows known op object ≡ true) × IsPlaceIn st p op object place

  looks : (n : ℕ) (known : List Triple) (st : State) (op object : List ℕ) (place : CasePlace) → IsAt n st → n ≤ length es → IsKnownAt n known st op object place
      → Looks h es (at n known) p op object n place
  looks n known st op object place is within (is_known, place_is) =
      record { known = is_known; seen = (omega arith, within); place_is = subst (λ (x : State). IsPlaceIn x p op object place) (sym is) place_is }

  pub is_missed : (n : ℕ) (known : List Triple) (st : State) (op object : List ℕ) (place : CasePlace) (slot of_object of_store : ℕ) → IsAt n st → n ≤ length es
      → IsKnownAt n known st op object place → ((held : Held) → ¬ MakesHit place.case slot of_object of_store held)
      → Misses h es (at n known) p op object n (Loaded place slot n of_object of_store ∷ [])
  is_missed n known st op object place slot of_object of_store is within at_home no_hit =
      calling.missed place slot of_object of_store (looks n known st op object place is within at_home) no_hit refl

  pub is_hit : (n : ℕ) (known : List Triple) (st : State) (op object : List ℕ) (arg : ℕ) (place : CasePlace) (slot of_object of_store value : ℕ) (held : Held) (verdict : Verdict) (ran : List Item)
      → IsAt n st → n ≤ length es → IsKnownAt n known st op object place → MakesHit place.case slot of_object of_store held → StandsFor verdict held
      → IsRightIn h st place.case verdict → Runs op arg place.object verdict value ran
      → Answers h es s (at n known) (Call op object arg) (stepped (at n known) (verdict_reply n 1 value verdict) [] (Loaded place slot n of_object of_store ∷ ran))
  is_hit n known st op object arg place slot of_object of_store value held verdict ran is within at_home makes stands right runs =
      told.call p op object arg refl refl
      (calling.hit n place slot of_object of_store value held verdict ran (looks n known st op object place is within at_home) makes stands
      (subst (λ (x : State). IsRightIn h x place.case verdict) (sym is) right) runs refl)

-- the turns of some requests, one after another, lead from one standing to the other
pub data Course (h : Head) (es : List EntryTree) (s : ℕ) : Standing → List Request → List Turn → Standing → Type 0 where
  done : {before : Standing} → Course h es s before [] [] before
  on : {before last : Standing} {request : Request} {turn : Turn} {requests : List Request} {turns : List Turn} → Answers h es s before request turn
      → Course h es s turn.after requests turns last → Course h es s before (request ∷ requests) (turn ∷ turns) last

pub course_leads : {h : Head} {es : List EntryTree} {s : ℕ} {before last : Standing} {requests : List Request} {turns : List Turn} → Course h es s before requests turns last
    → Leads h es s before requests (map (λ (t : Turn). t.reply) turns) (flat_map (λ (t : Turn). t.asks) turns) (flat_map (λ (t : Turn). t.steps) turns) (flat_map (λ (t : Turn). t.added) turns) last
course_leads done = (refl, refl, refl, refl)
course_leads (on answers later) = (_, _, _, _, answers, refl, refl, refl, refl, course_leads later)

-- what a session was told first, and then
pub leads_both : (h : Head) (es : List EntryTree) (s : ℕ) (before : Standing) (requests : List Request) (replies : List Reply) (asks : List Ask) (steps : List Item) (added : List EntryTree)
    (mid : Standing) (more_requests : List Request) (more_replies : List Reply) (more_asks : List Ask) (more_steps : List Item) (more_added : List EntryTree) (last : Standing)
    → Leads h es s before requests replies asks steps added mid → Leads h es s mid more_requests more_replies more_asks more_steps more_added last
    → Leads h es s before (requests ++ more_requests) (replies ++ more_replies) (asks ++ more_asks) (steps ++ more_steps) (added ++ more_added) last
leads_both h es s before [] [] asks steps added mid more_requests more_replies more_asks more_steps more_added last first later =
    let l2 : Leads h es s before more_requests more_replies more_asks more_steps more_added last = subst (λ (x : Standing). Leads h es s x more_requests more_replies more_asks more_steps more_added last) first.3 later in
    let l3 = subst (λ (xs : List Ask). Leads h es s before more_requests more_replies (xs ++ more_asks) more_steps more_added last) (sym first.0) l2 in
    let l4 = subst (λ (xs : List Item). Leads h es s before more_requests more_replies (asks ++ more_asks) (xs ++ more_steps) more_added last) (sym first.1) l3 in
    subst (λ (xs : List EntryTree). Leads h es s before more_requests more_replies (asks ++ more_asks) (steps ++ more_steps) (xs ++ more_added) last) (sym first.2) l4
leads_both h es s before (q ∷ qs) (r ∷ rs) asks steps added mid more_requests more_replies more_asks more_steps more_added last first later = (
  first.0,
  first.1 ++ more_asks,
  first.2 ++ more_steps,
  first.3 ++ more_added,
  first.4,
  first.5,
  ap (λ xs. xs ++ more_asks) first.6 ∙ append_assoc first.0.asks first.1 more_asks,
  ap (λ xs. xs ++ more_steps) first.7 ∙ append_assoc first.0.steps first.2 more_steps,
  ap (λ xs. xs ++ more_added) first.8 ∙ append_assoc first.0.added first.3 more_added,
  leads_both h es s first.0.after qs rs first.1 first.2 first.3 mid more_requests more_replies more_asks more_steps more_added last first.9 later,
)
leads_both h es s before [] (r ∷ rs) asks steps added mid more_requests more_replies more_asks more_steps more_added last first later = absurd first
leads_both h es s before (q ∷ qs) [] asks steps added mid more_requests more_replies more_asks more_steps more_added last first later = absurd first

-- what a session was told goes on, over a history that grew
pub goes_on : (h : Head) (es more : List EntryTree) (s low : ℕ) (requests : List Request) (replies : List Reply) (asks : List Ask) (trail : List Item) (mid : Standing)
    (t : IsTold h es s low requests replies asks trail mid)
    (more_requests : List Request) (more_replies : List Reply) (more_asks : List Ask) (more_steps : List Item) (more_added : List EntryTree) (last : Standing)
    → Leads h (es ++ more) s mid more_requests more_replies more_asks more_steps more_added last
    → own (λ (e : EntryTree). e.session) (take (last_met (trail ++ more_steps)) (es ++ more)) s ≡ own (λ (e : EntryTree). e.session) (take (last_met trail) es) s ++ more_added
    → IsTold h (es ++ more) s low (requests ++ more_requests) (replies ++ more_replies) (asks ++ more_asks) (trail ++ more_steps) last
goes_on h es more s low requests replies asks trail mid t more_requests more_replies more_asks more_steps more_added last later entries = record {
  first = t.first;
  steps = t.steps ++ more_steps;
  added = t.added ++ more_added;
  met = ap (λ xs. xs ++ more_steps) t.met;
  seen = seen_on es more low t.first t.seen;
  leads = leads_both h (es ++ more) s (beginning t.first) requests replies asks t.steps t.added mid more_requests more_replies more_asks more_steps more_added last
      (leads_on h es more s (beginning t.first) requests replies asks t.steps t.added mid t.leads) later;
  entries = entries ∙ ap (λ xs. xs ++ more_added) t.entries;
}
