-- What a session over a shared board is told: over a longer history, and where there is no step and no entry.
use Rattle.std.proofs.Common.{◌≡◌, ◌≤◌, ◌+◌, ◌⊎◌, inl, inr, ℕ, zero, suc, List, [], ◌∷◌, ◌++◌, take, length, Bool, false, true≢false, Option, Some, refl, sym, ap, subst, arith}
use Rattle.std.specs.Prelude.{slice_get, Err, Ok}
use Rattle.std.specs.List.{list_any}
use Rattle.std.proofs.lemmas.List.{take-append-le, length-append}
use Rattle.std.proofs.lemmas.Option.{slice_get_within}
use Rattle.guard_core.specs.Judging.{verdict_of}
use Rattle.nal_rules.specs.Verdicts.{CaseTree}
use Rattle.nal_rules.specs.declared.verdicts.Verdict.{Verdict}
use Rattle.policy_history.specs.declared.heads.Head.{Head}
use Rattle.policy_history.specs.Events.{EventTree, EntryTree}
use Rattle.policy_history.specs.States.{State}
use Rattle.policy_history.specs.Judged.{IsRight}
use Rattle.policy_history.specs.Values.{decision}
use Rattle.authority_ask.specs.Panels.{Told as Ask}
use Rattle.session_wire.specs.declared.requests.Request.{Request}
use Rattle.session_wire.specs.declared.replies.Reply.{Reply}
use Rattle.session_wire.specs.declared.replies.Reply.TheVariants.{Allowed, Done, Refused}
use Rattle.verdict_words.specs.declared.places.CasePlace.{CasePlace}
use Rattle.verdict_words.specs.declared.views.Item.{Item}
use Rattle.verdict_words.specs.declared.views.Item.TheVariants.{Loaded, Met, Filled, Ran}
use Rattle.verdict_words.specs.Histories.{own}
use Rattle.verdict_words.specs.Rule.{last_met, met_after}
use Rattle.session_core.specs.Records.{AreNoted, Kept}
use Rattle.session_core.specs.Standing.{Standing, beginning}
use Rattle.session_core.specs.Calls.{Calls, IsPlaceIn, IsSeen, Judges, Keeps, Looks, Misses, Runs, Turn, checked, state_at, stepped, verdict_reply}
use Rattle.session_core.specs.Unanswered.{AreAsked, GivesUp, GoesUnrecorded, AreAskedInVain}
use Rattle.session_core.specs.Changes.{Changes, Meets}
use Rattle.session_core.specs.Told.{Answers, Leads}
use Rattle.session_core.specs.Calls as calling
use Rattle.session_core.specs.Unanswered as unanswered
use Rattle.session_core.specs.Changes as changing
use Rattle.session_core.specs.Told as told
use Rattle.session_core.specs.ToldLaws.{NotedStaysNoted, OnlyAllowedRuns, OnlyDoneAdds, ToldStaysTold, is_ran}

-- ---- Over a longer history

taken_same : (es more : List EntryTree) (n : ℕ) → n ≤ length es → take n es ≡ take n (es ++ more)
taken_same es more n within = sym (take-append-le n es more within)

pub seen_on : (es more : List EntryTree) (low n : ℕ) → IsSeen es low n → IsSeen (es ++ more) low n
seen_on es more low n seen = let long = length-append es more in (seen.0, omega (arith, seen.1, long))

state_same : (h : Head) (es more : List EntryTree) (n : ℕ) → n ≤ length es → state_at h es n ≡ state_at h (es ++ more) n
state_same h es more n within = ap (λ (xs : List EntryTree). Rattle.policy_history.specs.Machine.replay h xs) (taken_same es more n within)

looks_on : {h : Head} {es : List EntryTree} (more : List EntryTree) {before : Standing} {p : ℕ} {op object : List ℕ} {n : ℕ} {place : CasePlace}
    → Looks h es before p op object n place → Looks h (es ++ more) before p op object n place
looks_on {h} {es} more {before} {p} {op} {object} {n} {place} looks = record {
  known = looks.known;
  seen = seen_on es more before.low n looks.seen;
  place_is = subst (λ (st : State). IsPlaceIn st p op object place) (state_same h es more n looks.seen.1) looks.place_is;
}

pub misses_on : {h : Head} {es : List EntryTree} (more : List EntryTree) {before : Standing} {p : ℕ} {op object : List ℕ} {low : ℕ} {steps : List Item}
    → Misses h es before p op object low steps → Misses h (es ++ more) before p op object low steps
misses_on more (calling.unknown known low_is none) = calling.unknown known low_is none
misses_on more (calling.missed place slot of_object of_store looks no_hit steps_are) = calling.missed place slot of_object of_store (looks_on more looks) no_hit steps_are

calls_on : {h : Head} {es : List EntryTree} (more : List EntryTree) {before : Standing} {p : ℕ} {op object : List ℕ} {arg : ℕ} {turn : Turn}
    → Calls h es before p op object arg turn → Calls h (es ++ more) before p op object arg turn
calls_on {h} {es} more (calling.hit n place slot of_object of_store value held verdict ran looks makes stands right runs is) =
    calling.hit n place slot of_object of_store value held verdict ran (looks_on more looks) makes stands
    (subst (λ (xs : List EntryTree). IsRight h xs place.case verdict) (taken_same es more n looks.seen.1) right) runs is
calls_on {h} {es} more {before} {p} {op} {object} {arg} {turn} (calling.snapped low n looked misses seen judges) =
    calling.snapped low n looked (misses_on more misses) (seen_on es more low n seen)
    (subst (λ (st : State). Judges h st before p op object arg n looked turn) (state_same h es more n seen.1) judges)

gives_up_on : {h : Head} {es : List EntryTree} (more : List EntryTree) {before : Standing} {p : ℕ} {op object : List ℕ} {turn : Turn}
    → GivesUp h es before p op object turn → GivesUp h (es ++ more) before p op object turn
gives_up_on more (unanswered.looked low steps misses is) = unanswered.looked low steps (misses_on more misses) is
gives_up_on {h} {es} more {before} {p} {op} {object} {turn} (unanswered.met low n steps misses seen asked is) =
    unanswered.met low n steps (misses_on more misses) (seen_on es more low n seen)
    (subst (λ (st : State). AreAskedInVain h st p op object turn.asks) (state_same h es more n seen.1) asked) is

unrecorded_on : {h : Head} {es : List EntryTree} (more : List EntryTree) {before : Standing} {p : ℕ} {op object : List ℕ} {turn : Turn}
    → GoesUnrecorded h es before p op object turn → GoesUnrecorded h (es ++ more) before p op object turn
unrecorded_on more (unanswered.hit_unrecorded n place slot of_object of_store held looks makes is) = unanswered.hit_unrecorded n place slot of_object of_store held (looks_on more looks) makes is
unrecorded_on {h} {es} more {before} {p} {op} {object} {turn} (unanswered.snap_unrecorded low n steps misses seen asked is) =
    unanswered.snap_unrecorded low n steps (misses_on more misses) (seen_on es more low n seen)
    (subst (λ (st : State). AreAsked h st p op object turn.asks) (state_same h es more n seen.1) asked) is
unrecorded_on more (unanswered.later_unrecorded is) = unanswered.later_unrecorded is

got_on : (es more : List EntryTree) (m : ℕ) (e : EntryTree) → slice_get es m ≡ Some e → slice_get (es ++ more) m ≡ Some e
got_on [] more m e got = absurd (no_item m e got)
  where
    no_item : (m : ℕ) (e : EntryTree) → slice_get [] m ≡ Some e → ⊥
    no_item m e got = let within = slice_get_within [] m e got in omega (arith, within)
got_on (x ∷ es) more zero e got = got
got_on (x ∷ es) more (suc m) e got = got_on es more m e got

changes_on : {h : Head} {es : List EntryTree} {s : ℕ} (more : List EntryTree) {before : Standing} {p : ℕ} {e : EventTree} {turn : Turn}
    → Changes h es s before p e turn → Changes h (es ++ more) s before p e turn
changes_on {h} {es} {s} more {before} {p} {e} (changing.refused m refusal met seen decided meets is) =
    changing.refused m refusal met (seen_on es more before.low m seen)
    (subst (λ (st : State). decision h st s p e ≡ Err refusal) (state_same h es more m seen.1) decided) meets is
changes_on {h} {es} {s} more {before} {p} {e} (changing.not_recorded m due met seen decided meets is) =
    changing.not_recorded m due met (seen_on es more before.low m seen)
    (subst (λ (st : State). decision h st s p e ≡ Ok due) (state_same h es more m seen.1) decided) meets is
changes_on {h} {es} {s} more {before} {p} {e} (changing.done m due met seen decided got meets is) =
    changing.done m due met (seen_on es more before.low m seen)
    (subst (λ (st : State). decision h st s p e ≡ Ok due) (state_same h es more m seen.1) decided) (got_on es more m _ got) meets is

answers_on : {h : Head} {es : List EntryTree} {s : ℕ} (more : List EntryTree) {before : Standing} {request : Request} {turn : Turn}
    → Answers h es s before request turn → Answers h (es ++ more) s before request turn
answers_on more (told.hello name secret greeting is greeted turn_is) = told.hello name secret greeting is greeted turn_is
answers_on more (told.early nobody other turn_is) = told.early nobody other turn_is
answers_on more (told.change p e who event changes) = told.change p e who event (changes_on more changes)
answers_on more (told.call p op object arg who is calls) = told.call p op object arg who is (calls_on more calls)
answers_on more (told.given_up wants is) = told.given_up wants is
answers_on more (told.call_given_up p op object arg who is gives_up) = told.call_given_up p op object arg who is (gives_up_on more gives_up)
answers_on more (told.call_unrecorded p op object arg who is goes) = told.call_unrecorded p op object arg who is (unrecorded_on more goes)
answers_on {es = es} more {before = before} (told.see p k who is (changing.seen m seen there turn_is)) = told.see p k who is (changing.seen m (seen_on es more before.low m seen) there turn_is)
answers_on {es = es} more {before = before} (told.see p k who is (changing.not_yet m seen far turn_is)) = told.see p k who is (changing.not_yet m (seen_on es more before.low m seen) far turn_is)

pub leads_on : (h : Head) (es more : List EntryTree) (s : ℕ) (before : Standing) (requests : List Request) (replies : List Reply) (asks : List Ask) (steps : List Item)
    (added : List EntryTree) (last : Standing)
    → Leads h es s before requests replies asks steps added last → Leads h (es ++ more) s before requests replies asks steps added last
leads_on h es more s before [] [] asks steps added last leads = leads
leads_on h es more s before (q ∷ qs) (r ∷ rs) asks steps added last leads = (
  leads.0,
  leads.1,
  leads.2,
  leads.3,
  answers_on more leads.4,
  leads.5,
  leads.6,
  leads.7,
  leads.8,
  leads_on h es more s leads.0.after qs rs leads.1 leads.2 leads.3 last leads.9,
)
leads_on h es more s before [] (r ∷ rs) asks steps added last leads = absurd leads
leads_on h es more s before (q ∷ qs) [] asks steps added last leads = absurd leads

-- what was recorded of them
pub noted_on : (h : Head) (es more : List EntryTree) (s : ℕ) (before : Standing) (requests : List Request) (replies : List Reply) (asks : List Ask) (steps : List Item)
    (added : List EntryTree) (last : Standing) (leads : Leads h es s before requests replies asks steps added last) (kept kept_now : Kept)
    → AreNoted h es s before requests replies asks steps added last leads kept kept_now
    → AreNoted h (es ++ more) s before requests replies asks steps added last (leads_on h es more s before requests replies asks steps added last leads) kept kept_now
unfolding leads_on
noted_on h es more s before [] [] asks steps added last leads kept kept_now noted = noted
noted_on h es more s before (q ∷ qs) (r ∷ rs) asks steps added last leads kept kept_now noted =
    (noted.0, noted.1, noted.2, noted_on h es more s leads.0.after qs rs leads.1 leads.2 leads.3 last leads.9 noted.0 kept_now noted.3)
noted_on h es more s before [] (r ∷ rs) asks steps added last leads kept kept_now noted = absurd leads
noted_on h es more s before (q ∷ qs) [] asks steps added last leads kept kept_now noted = absurd leads

-- a call that goes unrecorded is refused with number 20
pub unrecorded_reply : {h : Head} {es : List EntryTree} {before : Standing} {p : ℕ} {op object : List ℕ} {turn : Turn}
    → GoesUnrecorded h es before p op object turn → (at : ℕ) × (turn.reply ≡ Refused at 20)
unrecorded_reply (unanswered.hit_unrecorded n place slot of_object of_store held looks makes is) = (n, ap (λ (t : Turn). t.reply) is)
unrecorded_reply (unanswered.snap_unrecorded low n steps misses seen asked is) = (n, ap (λ (t : Turn). t.reply) is)
unrecorded_reply {before = before} (unanswered.later_unrecorded is) = (before.low, ap (λ (t : Turn). t.reply) is)

-- ---- No meeting is at more than there is

-- each meeting among the steps is at this length at most
abbrev Within : ℕ → List Item → Type 0
Within most [] = Unit {0}
Within most (Met n ∷ items) = (n ≤ most) × Within most items
Within most (Loaded place slot count object store ∷ items) = Within most items
Within most (Filled case at held ∷ items) = Within most items
Within most (Ran object step value ∷ items) = Within most items

within_both : (most : ℕ) (xs ys : List Item) → Within most xs → Within most ys → Within most (xs ++ ys)
within_both most [] ys w v = v
within_both most (Met n ∷ xs) ys w v = (w.0, within_both most xs ys w.1 v)
within_both most (Loaded place slot count object store ∷ xs) ys w v = within_both most xs ys w v
within_both most (Filled case at held ∷ xs) ys w v = within_both most xs ys w v
within_both most (Ran object step value ∷ xs) ys w v = within_both most xs ys w v

met_within : (most n : ℕ) (items : List Item) → n ≤ most → Within most items → met_after n items ≤ most
met_within most n [] first w = first
met_within most n (Met m ∷ items) first w = met_within most m items w.0 w.1
met_within most n (Loaded place slot count object store ∷ items) first w = met_within most n items first w
met_within most n (Filled case at held ∷ items) first w = met_within most n items first w
met_within most n (Ran object step value ∷ items) first w = met_within most n items first w

misses_within : {h : Head} {es : List EntryTree} {before : Standing} {p : ℕ} {op object : List ℕ} {low : ℕ} {steps : List Item}
    → Misses h es before p op object low steps → Within (length es) steps
misses_within {es = es} (calling.unknown known low_is none) = subst (Within (length es)) (sym none) tt
misses_within {es = es} (calling.missed place slot of_object of_store looks no_hit steps_are) = subst (Within (length es)) (sym steps_are) tt

keeps_within : (most : ℕ) {known : Bool} {n : ℕ} {number : Option ℕ} {c : CaseTree} {verdict : Verdict} {steps : List Item} → Keeps known n number c verdict steps → Within most steps
keeps_within most (calling.kept k held known number_is lasting stands steps_are) = subst (Within most) (sym steps_are) tt
keeps_within most (calling.not_kept unkept steps_are) = subst (Within most) (sym steps_are) tt

runs_within : (most : ℕ) {op : List ℕ} {arg object : ℕ} {verdict : Verdict} {value : ℕ} {steps : List Item} → Runs op arg object verdict value steps → Within most steps
runs_within most (calling.ran step allowed step_is steps_are) = subst (Within most) (sym steps_are) tt
runs_within most (calling.no_step idle none steps_are) = subst (Within most) (sym steps_are) tt

judges_within : (most : ℕ) {h : Head} {st : State} {before : Standing} {p : ℕ} {op object : List ℕ} {arg n : ℕ} {looked : List Item} {turn : Turn}
    → n ≤ most → Within most looked → Judges h st before p op object arg n looked turn → Within most turn.steps
judges_within most {n = n} {looked = looked} seen w (calling.no_object none is) = subst (λ (t : Turn). Within most t.steps) (sym is) (within_both most looked (Met n ∷ []) w (seen, tt))
judges_within most {n = n} {looked = looked} seen w (calling.judged k value finding kept ran object_is judged keeps runs is) =
    subst (λ (t : Turn). Within most t.steps) (sym is)
    (within_both most looked (Met n ∷ (kept ++ ran)) w (seen, within_both most kept ran (keeps_within most keeps) (runs_within most runs)))
judges_within most {n = n} {looked = looked} seen w (calling.down k line object_is broken is) = subst (λ (t : Turn). Within most t.steps) (sym is) (within_both most looked (Met n ∷ []) w (seen, tt))

calls_within : {h : Head} {es : List EntryTree} {before : Standing} {p : ℕ} {op object : List ℕ} {arg : ℕ} {turn : Turn}
    → Calls h es before p op object arg turn → Within (length es) turn.steps
calls_within {es = es} (calling.hit n place slot of_object of_store value held verdict ran looks makes stands right runs is) =
    subst (λ (t : Turn). Within (length es) t.steps) (sym is) (runs_within (length es) runs)
calls_within {es = es} (calling.snapped low n looked misses seen judges) = judges_within (length es) seen.1 (misses_within misses) judges

gives_up_within : {h : Head} {es : List EntryTree} {before : Standing} {p : ℕ} {op object : List ℕ} {turn : Turn}
    → GivesUp h es before p op object turn → Within (length es) turn.steps
gives_up_within {es = es} (unanswered.looked low steps misses is) = subst (λ (t : Turn). Within (length es) t.steps) (sym is) (misses_within misses)
gives_up_within {es = es} (unanswered.met low n steps misses seen asked is) =
    subst (λ (t : Turn). Within (length es) t.steps) (sym is) (within_both (length es) steps (Met n ∷ []) (misses_within misses) (seen.1, tt))

unrecorded_within : {h : Head} {es : List EntryTree} {before : Standing} {p : ℕ} {op object : List ℕ} {turn : Turn}
    → GoesUnrecorded h es before p op object turn → Within (length es) turn.steps
unrecorded_within {es = es} (unanswered.hit_unrecorded n place slot of_object of_store held looks makes is) = subst (λ (t : Turn). Within (length es) t.steps) (sym is) tt
unrecorded_within {es = es} (unanswered.snap_unrecorded low n steps misses seen asked is) =
    subst (λ (t : Turn). Within (length es) t.steps) (sym is) (within_both (length es) steps (Met n ∷ []) (misses_within misses) (seen.1, tt))
unrecorded_within {es = es} (unanswered.later_unrecorded is) = subst (λ (t : Turn). Within (length es) t.steps) (sym is) tt

meets_within : (most m : ℕ) {met : List Item} → m ≤ most → Meets m met → Within most met
meets_within most m below (inl once) = subst (Within most) (sym once) (below, tt)
meets_within most m below (inr twice) = subst (Within most) (sym twice) (below, (below, tt))

changes_within : {h : Head} {es : List EntryTree} {s : ℕ} {before : Standing} {p : ℕ} {e : EventTree} {turn : Turn}
    → Changes h es s before p e turn → Within (length es) turn.steps
changes_within {es = es} (changing.refused m refusal met seen decided meets is) = subst (λ (t : Turn). Within (length es) t.steps) (sym is) (meets_within (length es) m seen.1 meets)
changes_within {es = es} (changing.not_recorded m due met seen decided meets is) = subst (λ (t : Turn). Within (length es) t.steps) (sym is) (meets_within (length es) m seen.1 meets)
changes_within {es = es} {s} {p = p} {e} (changing.done m due met seen decided got meets is) =
    let below = slice_get_within es m (record { session = s; principal = p; event = e }) got in
    subst (λ (t : Turn). Within (length es) t.steps) (sym is)
    (within_both (length es) met (Met (m + 1) ∷ []) (meets_within (length es) m seen.1 meets) (omega (arith, below), tt))

answers_within : {h : Head} {es : List EntryTree} {s : ℕ} {before : Standing} {request : Request} {turn : Turn}
    → Answers h es s before request turn → Within (length es) turn.steps
answers_within {es = es} (told.hello name secret greeting is greeted turn_is) = subst (λ (t : Turn). Within (length es) t.steps) (sym turn_is) tt
answers_within {es = es} (told.early nobody other turn_is) = subst (λ (t : Turn). Within (length es) t.steps) (sym turn_is) tt
answers_within (told.change p e who event changes) = changes_within changes
answers_within (told.call p op object arg who is calls) = calls_within calls
answers_within {es = es} (told.given_up wants is) = subst (λ (t : Turn). Within (length es) t.steps) (sym is) tt
answers_within (told.call_given_up p op object arg who is gives_up) = gives_up_within gives_up
answers_within (told.call_unrecorded p op object arg who is goes) = unrecorded_within goes
answers_within {es = es} (told.see p k who is (changing.seen m seen there turn_is)) = subst (λ (t : Turn). Within (length es) t.steps) (sym turn_is) (seen.1, tt)
answers_within {es = es} (told.see p k who is (changing.not_yet m seen far turn_is)) = subst (λ (t : Turn). Within (length es) t.steps) (sym turn_is) (seen.1, tt)

leads_within : (h : Head) (es : List EntryTree) (s : ℕ) (before : Standing) (requests : List Request) (replies : List Reply) (asks : List Ask) (steps : List Item)
    (added : List EntryTree) (last : Standing) → Leads h es s before requests replies asks steps added last → Within (length es) steps
leads_within h es s before [] [] asks steps added last leads = subst (Within (length es)) (sym leads.1) tt
leads_within h es s before (q ∷ qs) (r ∷ rs) asks steps added last leads =
    subst (Within (length es)) (sym leads.7)
    (within_both (length es) leads.0.steps leads.2 (answers_within leads.4) (leads_within h es s leads.0.after qs rs leads.1 leads.2 leads.3 last leads.9))
leads_within h es s before [] (r ∷ rs) asks steps added last leads = absurd leads
leads_within h es s before (q ∷ qs) [] asks steps added last leads = absurd leads

pub told_stays_told : ToldStaysTold
told_stays_told h es more s low requests replies asks trail last t =
    let within : Within (length es) t.steps = leads_within h es s (beginning t.first) requests replies asks t.steps t.added last t.leads in
    let far : met_after t.first t.steps ≤ length es = met_within (length es) t.first t.steps t.seen.1 within in
    let met_far : last_met trail ≤ length es = subst (λ (items : List Item). last_met items ≤ length es) (sym t.met) far in
    record {
      first = t.first;
      steps = t.steps;
      added = t.added;
      met = t.met;
      seen = seen_on es more low t.first t.seen;
      leads = leads_on h es more s (beginning t.first) requests replies asks t.steps t.added last t.leads;
      entries = subst (λ (xs : List EntryTree). own (λ (e : EntryTree). e.session) xs s ≡ t.added) (taken_same es more (last_met trail) met_far) t.entries;
    }

pub what_was_noted_stays_noted : NotedStaysNoted
unfolding told_stays_told leads_on
what_was_noted_stays_noted h es more s low requests replies asks trail last kept kept_now t =
    let told = t.0 in
    (told_stays_told h es more s low requests replies asks trail last told, noted_on h es more s (beginning told.first) requests replies asks told.steps told.added last told.leads kept kept_now t.1)

-- ---- Where there is no step on a register, and no entry

none_both : (xs ys : List Item) → list_any is_ran xs ≡ false → list_any is_ran ys ≡ false → list_any is_ran (xs ++ ys) ≡ false
none_both [] ys w v = v
none_both (Met n ∷ xs) ys w v = none_both xs ys w v
none_both (Loaded place slot count object store ∷ xs) ys w v = none_both xs ys w v
none_both (Filled case at held ∷ xs) ys w v = none_both xs ys w v
none_both (Ran object step value ∷ xs) ys w v = absurd (true≢false w)

-- the turn steps on no register, or its reply is Allowed
abbrev Idle : Turn → Type 0
Idle turn = (list_any is_ran turn.steps ≡ false) ⊎ ((at hit value : ℕ) × (turn.reply ≡ Allowed at hit value))

misses_idle : {h : Head} {es : List EntryTree} {before : Standing} {p : ℕ} {op object : List ℕ} {low : ℕ} {steps : List Item}
    → Misses h es before p op object low steps → list_any is_ran steps ≡ false
misses_idle (calling.unknown known low_is none) = ap (list_any is_ran) none
misses_idle (calling.missed place slot of_object of_store looks no_hit steps_are) = ap (list_any is_ran) steps_are

keeps_idle : {known : Bool} {n : ℕ} {number : Option ℕ} {c : CaseTree} {verdict : Verdict} {steps : List Item} → Keeps known n number c verdict steps → list_any is_ran steps ≡ false
keeps_idle (calling.kept k held known number_is lasting stands steps_are) = ap (list_any is_ran) steps_are
keeps_idle (calling.not_kept unkept steps_are) = ap (list_any is_ran) steps_are

-- a verdict that is no allowed one runs nothing
runs_idle : {op : List ℕ} {arg object : ℕ} (n hit : ℕ) {verdict : Verdict} {value : ℕ} {steps : List Item} → Runs op arg object verdict value steps
    → (list_any is_ran steps ≡ false) ⊎ ((at of_hit of_value : ℕ) × (verdict_reply n hit value verdict ≡ Allowed at of_hit of_value))
runs_idle n hit {value = value} (calling.ran step allowed step_is steps_are) = inr (n, hit, value, ap (verdict_reply n hit value) allowed)
runs_idle n hit (calling.no_step idle none steps_are) = inl (ap (list_any is_ran) steps_are)

idle_of : {turn of : Turn} → turn ≡ of → Idle of → Idle turn
idle_of is idle = subst Idle (sym is) idle

judged_idle : (after : Standing) (reply : Reply) (asks : List Ask) (looked kept ran : List Item) (n : ℕ) → list_any is_ran looked ≡ false → list_any is_ran kept ≡ false
    → (list_any is_ran ran ≡ false) ⊎ ((at hit value : ℕ) × (reply ≡ Allowed at hit value)) → Idle (stepped after reply asks (looked ++ Met n ∷ (kept ++ ran)))
judged_idle after reply asks looked kept ran n w v (inl idle) = inl (none_both looked (Met n ∷ (kept ++ ran)) w (none_both kept ran v idle))
judged_idle after reply asks looked kept ran n w v (inr allowed) = inr allowed

judges_idle : {h : Head} {st : State} {before : Standing} {p : ℕ} {op object : List ℕ} {arg n : ℕ} {looked : List Item} {turn : Turn}
    → list_any is_ran looked ≡ false → Judges h st before p op object arg n looked turn → Idle turn
judges_idle {n = n} {looked = looked} w (calling.no_object none is) = idle_of is (inl (none_both looked (Met n ∷ []) w refl))
judges_idle {st = st} {before} {p} {op} {object} {n = n} {looked = looked} {turn} w (calling.judged k value finding kept ran object_is judged keeps runs is) =
    idle_of is (judged_idle (checked st before n p op object k) (verdict_reply n 0 value (verdict_of finding)) turn.asks looked kept ran n w (keeps_idle keeps) (runs_idle n 0 runs))
judges_idle {n = n} {looked = looked} w (calling.down k line object_is broken is) = idle_of is (inl (none_both looked (Met n ∷ []) w refl))

calls_idle : {h : Head} {es : List EntryTree} {before : Standing} {p : ℕ} {op object : List ℕ} {arg : ℕ} {turn : Turn}
    → Calls h es before p op object arg turn → Idle turn
calls_idle (calling.hit n place slot of_object of_store value held verdict ran looks makes stands right runs is) = idle_of is (runs_idle n 1 runs)
calls_idle (calling.snapped low n looked misses seen judges) = judges_idle (misses_idle misses) judges

gives_up_idle : {h : Head} {es : List EntryTree} {before : Standing} {p : ℕ} {op object : List ℕ} {turn : Turn}
    → GivesUp h es before p op object turn → Idle turn
gives_up_idle (unanswered.looked low steps misses is) = idle_of is (inl (misses_idle misses))
gives_up_idle (unanswered.met low n steps misses seen asked is) = idle_of is (inl (none_both steps (Met n ∷ []) (misses_idle misses) refl))

unrecorded_idle : {h : Head} {es : List EntryTree} {before : Standing} {p : ℕ} {op object : List ℕ} {turn : Turn}
    → GoesUnrecorded h es before p op object turn → Idle turn
unrecorded_idle (unanswered.hit_unrecorded n place slot of_object of_store held looks makes is) = idle_of is (inl refl)
unrecorded_idle (unanswered.snap_unrecorded low n steps misses seen asked is) = idle_of is (inl (none_both steps (Met n ∷ []) (misses_idle misses) refl))
unrecorded_idle (unanswered.later_unrecorded is) = idle_of is (inl refl)

meets_idle : {m : ℕ} {met : List Item} → Meets m met → list_any is_ran met ≡ false
meets_idle (inl once) = ap (list_any is_ran) once
meets_idle (inr twice) = ap (list_any is_ran) twice

changes_idle : {h : Head} {es : List EntryTree} {s : ℕ} {before : Standing} {p : ℕ} {e : EventTree} {turn : Turn} → Changes h es s before p e turn → Idle turn
changes_idle (changing.refused m refusal met seen decided meets is) = idle_of is (inl (meets_idle meets))
changes_idle (changing.not_recorded m due met seen decided meets is) = idle_of is (inl (meets_idle meets))
changes_idle (changing.done m due met seen decided got meets is) = idle_of is (inl (none_both met (Met (m + 1) ∷ []) (meets_idle meets) refl))

pub only_allowed_runs : OnlyAllowedRuns
only_allowed_runs h es s before request turn (told.hello name secret greeting is greeted turn_is) = idle_of turn_is (inl refl)
only_allowed_runs h es s before request turn (told.early nobody other turn_is) = idle_of turn_is (inl refl)
only_allowed_runs h es s before request turn (told.change p e who event changes) = changes_idle changes
only_allowed_runs h es s before request turn (told.call p op object arg who is calls) = calls_idle calls
only_allowed_runs h es s before request turn (told.given_up wants is) = idle_of is (inl refl)
only_allowed_runs h es s before request turn (told.call_given_up p op object arg who is gives_up) = gives_up_idle gives_up
only_allowed_runs h es s before request turn (told.call_unrecorded p op object arg who is goes) = unrecorded_idle goes
only_allowed_runs h es s before request turn (told.see p k who is (changing.seen m seen there turn_is)) = idle_of turn_is (inl refl)
only_allowed_runs h es s before request turn (told.see p k who is (changing.not_yet m seen far turn_is)) = idle_of turn_is (inl refl)

-- the turn makes no entry, or its reply is Done
abbrev Still : Turn → Type 0
Still turn = (turn.added ≡ []) ⊎ ((at number : ℕ) × (turn.reply ≡ Done at number))

still_of : {turn of : Turn} → turn ≡ of → Still of → Still turn
still_of is still = subst Still (sym is) still

judges_still : {h : Head} {st : State} {before : Standing} {p : ℕ} {op object : List ℕ} {arg n : ℕ} {looked : List Item} {turn : Turn}
    → Judges h st before p op object arg n looked turn → Still turn
judges_still (calling.no_object none is) = still_of is (inl refl)
judges_still (calling.judged k value finding kept ran object_is judged keeps runs is) = still_of is (inl refl)
judges_still (calling.down k line object_is broken is) = still_of is (inl refl)

calls_still : {h : Head} {es : List EntryTree} {before : Standing} {p : ℕ} {op object : List ℕ} {arg : ℕ} {turn : Turn}
    → Calls h es before p op object arg turn → Still turn
calls_still (calling.hit n place slot of_object of_store value held verdict ran looks makes stands right runs is) = still_of is (inl refl)
calls_still (calling.snapped low n looked misses seen judges) = judges_still judges

gives_up_still : {h : Head} {es : List EntryTree} {before : Standing} {p : ℕ} {op object : List ℕ} {turn : Turn}
    → GivesUp h es before p op object turn → Still turn
gives_up_still (unanswered.looked low steps misses is) = still_of is (inl refl)
gives_up_still (unanswered.met low n steps misses seen asked is) = still_of is (inl refl)

unrecorded_still : {h : Head} {es : List EntryTree} {before : Standing} {p : ℕ} {op object : List ℕ} {turn : Turn}
    → GoesUnrecorded h es before p op object turn → Still turn
unrecorded_still (unanswered.hit_unrecorded n place slot of_object of_store held looks makes is) = still_of is (inl refl)
unrecorded_still (unanswered.snap_unrecorded low n steps misses seen asked is) = still_of is (inl refl)
unrecorded_still (unanswered.later_unrecorded is) = still_of is (inl refl)

changes_still : {h : Head} {es : List EntryTree} {s : ℕ} {before : Standing} {p : ℕ} {e : EventTree} {turn : Turn} → Changes h es s before p e turn → Still turn
changes_still (changing.refused m refusal met seen decided meets is) = still_of is (inl refl)
changes_still (changing.not_recorded m due met seen decided meets is) = still_of is (inl refl)
changes_still (changing.done m due met seen decided got meets is) = still_of is (inr (m + 1, due.number, refl))

pub only_done_adds : OnlyDoneAdds
only_done_adds h es s before request turn (told.hello name secret greeting is greeted turn_is) = still_of turn_is (inl refl)
only_done_adds h es s before request turn (told.early nobody other turn_is) = still_of turn_is (inl refl)
only_done_adds h es s before request turn (told.change p e who event changes) = changes_still changes
only_done_adds h es s before request turn (told.call p op object arg who is calls) = calls_still calls
only_done_adds h es s before request turn (told.given_up wants is) = still_of is (inl refl)
only_done_adds h es s before request turn (told.call_given_up p op object arg who is gives_up) = gives_up_still gives_up
only_done_adds h es s before request turn (told.call_unrecorded p op object arg who is goes) = unrecorded_still goes
only_done_adds h es s before request turn (told.see p k who is (changing.seen m seen there turn_is)) = still_of turn_is (inl refl)
only_done_adds h es s before request turn (told.see p k who is (changing.not_yet m seen far turn_is)) = still_of turn_is (inl refl)
