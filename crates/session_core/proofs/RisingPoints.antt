-- The points that the replies of a session name.
use Rattle.std.proofs.Common.{◌≡◌, ◌≤◌, ℕ, zero, suc, List, [], ◌∷◌, length, Option, Some, None, refl, sym, ap, arith, subst, ◌∙◌}
use Rattle.std.specs.Prelude.{slice_get}
use Rattle.nal_rules.specs.declared.verdicts.Verdict.{Verdict}
use Rattle.nal_rules.specs.declared.verdicts.Verdict.TheVariants.{Allowed as AllowedVerdict, Denied as DeniedVerdict}
use Rattle.policy_history.specs.declared.heads.Head.{Head}
use Rattle.policy_history.specs.Events.{EntryTree, EventTree, admitted}
use Rattle.authority_ask.specs.Panels.{Told as Ask}
use Rattle.session_wire.specs.declared.requests.Request.{Request}
use Rattle.session_wire.specs.declared.requests.Request.TheVariants.{NewObject, See}
use Rattle.session_wire.specs.declared.replies.Reply.{Reply}
use Rattle.session_wire.specs.declared.replies.Reply.TheVariants.{Done, NoMemory, Seen, Welcome}
use Rattle.verdict_words.specs.declared.views.Item.{Item}
use Rattle.session_core.specs.Answers.{greeted}
use Rattle.session_core.specs.Standing.{Standing, beginning}
use Rattle.session_core.specs.Calls.{Calls, Judges, Turn, verdict_reply}
use Rattle.session_core.specs.Unanswered.{GoesUnrecorded}
use Rattle.session_core.specs.Changes.{Changes}
use Rattle.session_core.specs.Told.{Answers, IsTold, Leads}
use Rattle.session_core.specs.Calls as calling
use Rattle.session_core.specs.Unanswered as unanswered
use Rattle.session_core.specs.Changes as changing
use Rattle.session_core.specs.Told as told
use Rattle.session_core.specs.Earned.{TellsInOrder, TellsWhatLasts, point_of}
use Rattle.session_core.specs.Inner.ToldRows.{SeenTooEarly, entry, f, head, hello, make_f}
use Rattle.session_core.proofs.EarnedReplies.{answers_low}
use Rattle.session_core.proofs.ToldRefusals.{gives_up_silent, misses_low}

-- the point of a reply lies between what the session had seen and what it has seen behind it
abbrev Between : Standing → Turn → ℕ → Type 0
Between before turn a = (before.low ≤ a) × (a ≤ turn.after.low)

between : (before : Standing) {turn of : Turn} {a n : ℕ} → turn ≡ of → point_of of.reply ≡ Some n → of.after.low ≡ n → before.low ≤ n → point_of turn.reply ≡ Some a → Between before turn a
between before {turn = turn} {a = a} {n = n} is names low late e =
    let same : n ≡ a = cc (names, e, ap (λ (t : Turn). point_of t.reply) is) in
    let after = ap (λ (t : Turn). t.after.low) is in
    (omega (arith, late, same), omega (arith, same, low, after))

verdict_point : (n hit value : ℕ) (verdict : Verdict) → point_of (verdict_reply n hit value verdict) ≡ Some n
verdict_point n hit value AllowedVerdict = refl
verdict_point n hit value (DeniedVerdict cause) = refl

pub greeting_point : (at s : ℕ) (who found : Option ℕ) → point_of (greeted at s who found).reply ≡ Some at
greeting_point at s (Some p) found = refl
greeting_point at s None None = refl
greeting_point at s None (Some p) = refl

silent : (turn : Turn) {a : ℕ} {A : Type 0} → turn.reply ≡ NoMemory → point_of turn.reply ≡ Some a → A
silent turn nothing e = absurd (cc (ap point_of nothing, e))

module _ {turn : Turn} {a : ℕ} (e : point_of turn.reply ≡ Some a) where
  judges_between : {h : Head} {st : _} {before : Standing} {p : ℕ} {op object : List ℕ} {arg n : ℕ} {looked : List Item} → before.low ≤ n → Judges h st before p op object arg n looked turn → Between before turn a
  judges_between {before = before} late (calling.no_object none is) = between before is refl refl late e
  judges_between {before = before} {n = n} late (calling.judged k value finding kept ran object_is judged keeps runs is) = between before is (verdict_point n 0 value _) refl late e
  judges_between {before = before} late (calling.down k line object_is broken is) = between before is refl refl late e

  calls_between : {h : Head} {es : List EntryTree} {before : Standing} {p : ℕ} {op object : List ℕ} {arg : ℕ} → Calls h es before p op object arg turn → Between before turn a
  calls_between {before = before} (calling.hit n place slot of_object of_store value held verdict ran looks makes stands right runs is) = between before is (verdict_point n 1 value verdict) refl looks.seen.0 e
  calls_between (calling.snapped low n looked misses seen judges) = let least = misses_low misses in judges_between (omega (arith, least, seen.0)) judges

  changes_between : {h : Head} {es : List EntryTree} {s : ℕ} {before : Standing} {p : ℕ} {event : EventTree} → Changes h es s before p event turn → Between before turn a
  changes_between {before = before} (changing.refused m refusal met seen decided meets is) = between before is refl refl seen.0 e
  changes_between {before = before} (changing.not_recorded m due met seen decided meets is) = between before is refl refl seen.0 e
  changes_between {before = before} (changing.done m due met seen decided got meets is) = let least = seen.0 in between before is refl refl (omega (arith, least)) e

  unrecorded_between : {h : Head} {es : List EntryTree} {before : Standing} {p : ℕ} {op object : List ℕ} → GoesUnrecorded h es before p op object turn → Between before turn a
  unrecorded_between {before = before} (unanswered.hit_unrecorded n place slot of_object of_store held looks makes is) = between before is refl refl looks.seen.0 e
  unrecorded_between {before = before} (unanswered.snap_unrecorded low n steps misses seen asked is) = let least = misses_low misses in between before is refl refl (omega (arith, least, seen.0)) e
  unrecorded_between {before = before} (unanswered.later_unrecorded is) = between before is refl refl (omega arith) e

  answers_between : {h : Head} {es : List EntryTree} {s : ℕ} {before : Standing} {request : Request} → Answers h es s before request turn → Between before turn a
  answers_between {h = h} {s = s} {before = before} (told.hello name secret greeting is greeted_is turn_is) =
      between before turn_is (ap (λ g. point_of g.reply) greeted_is ∙ greeting_point before.low s before.who (admitted h.principals name secret)) refl (omega arith) e
  answers_between {before = before} (told.early nobody other is) = between before is refl refl (omega arith) e
  answers_between (told.change p event who is changes) = changes_between changes
  answers_between (told.call p op object arg who is calls) = calls_between calls
  answers_between (told.given_up wants is) = silent turn (ap (λ (t : Turn). t.reply) is) e
  answers_between (told.call_given_up p op object arg who is gives_up) = silent turn (gives_up_silent gives_up) e
  answers_between (told.call_unrecorded p op object arg who is goes) = unrecorded_between goes
  answers_between {before = before} (told.see p k who is (changing.seen m seen there turn_is)) = between before turn_is refl refl seen.0 e
  answers_between {before = before} (told.see p k who is (changing.not_yet m seen far turn_is)) = between before turn_is refl refl seen.0 e

-- every point is at least what the session had seen as it came here
from_low : (h : Head) (es : List EntryTree) (s : ℕ) (requests : List Request) (replies : List Reply) (before : Standing) (asks : List Ask) (steps : List Item) (added : List EntryTree) (last : Standing)
    → Leads h es s before requests replies asks steps added last → (i a : ℕ) (reply : Reply) → slice_get replies i ≡ Some reply → point_of reply ≡ Some a → before.low ≤ a
from_low h es s [] [] before asks steps added last leads i a reply none e = absurd (cc none)
from_low h es s [] (r ∷ rs) before asks steps added last leads i a reply none e = absurd leads
from_low h es s (q ∷ qs) [] before asks steps added last leads i a reply none e = absurd (cc none)
from_low h es s (q ∷ qs) (r ∷ rs) before asks steps added last leads zero a reply here e =
    let same : leads.0.reply ≡ reply = cc (leads.5, here) in
    (answers_between (ap point_of same ∙ e) leads.4).0
from_low h es s (q ∷ qs) (r ∷ rs) before asks steps added last leads (suc i) a reply here e =
    let least = answers_low leads.4 in
    let later = from_low h es s qs rs leads.0.after leads.1 leads.2 leads.3 last leads.9 i a reply here e in
    omega (arith, least, later)

rising : (h : Head) (es : List EntryTree) (s : ℕ) (requests : List Request) (replies : List Reply) (before : Standing) (asks : List Ask) (steps : List Item) (added : List EntryTree) (last : Standing)
    → Leads h es s before requests replies asks steps added last → (i j a b : ℕ) (reply next : Reply) → i ≤ j → slice_get replies i ≡ Some reply → slice_get replies j ≡ Some next
    → point_of reply ≡ Some a → point_of next ≡ Some b → a ≤ b
rising h es s [] [] before asks steps added last leads i j a b reply next order here there e f = absurd (cc here)
rising h es s [] (r ∷ rs) before asks steps added last leads i j a b reply next order here there e f = absurd leads
rising h es s (q ∷ qs) [] before asks steps added last leads i j a b reply next order here there e f = absurd (cc here)
rising h es s (q ∷ qs) (r ∷ rs) before asks steps added last leads zero zero a b reply next order here there e f =
    let same : a ≡ b = cc (here, there, e, f) in omega (arith, same)
rising h es s (q ∷ qs) (r ∷ rs) before asks steps added last leads zero (suc j) a b reply next order here there e f =
    let same : leads.0.reply ≡ reply = cc (leads.5, here) in
    let first = (answers_between (ap point_of same ∙ e) leads.4).1 in
    let later = from_low h es s qs rs leads.0.after leads.1 leads.2 leads.3 last leads.9 j b next there f in
    omega (arith, first, later)
rising h es s (q ∷ qs) (r ∷ rs) before asks steps added last leads (suc i) zero a b reply next order here there e f = absurd (omega (arith, order))
rising h es s (q ∷ qs) (r ∷ rs) before asks steps added last leads (suc i) (suc j) a b reply next order here there e f =
    rising h es s qs rs leads.0.after leads.1 leads.2 leads.3 last leads.9 i j a b reply next (omega (arith, order)) here there e f

pub tells_in_order : TellsInOrder
tells_in_order h es s low requests replies asks trail last t i j a b reply next order here there e f =
    let first = t.seen.0 in
    let least = from_low h es s requests replies (beginning t.first) asks t.steps t.added last t.leads i a reply here e in
    (omega (arith, first, least), rising h es s requests replies (beginning t.first) asks t.steps t.added last t.leads i j a b reply next order here there e f)

-- ---- A point that a session has seen

seen_reached : {h : Head} {es : List EntryTree} {s : ℕ} {before : Standing} {turn : Turn} (k m : ℕ) → Answers h es s before (See k) turn → turn.reply ≡ Seen m → (k ≤ m) × (m ≤ length es)
seen_reached k m (told.hello name secret greeting is greeted_is turn_is) replied = absurd (cc is)
seen_reached k m (told.early nobody other is) replied = let same = sym replied ∙ ap (λ (t : Turn). t.reply) is in absurd (cc same)
seen_reached k m (told.change p event who is changes) replied = absurd is
seen_reached k m (told.call p op object arg who is calls) replied = absurd (cc is)
seen_reached k m (told.given_up wants is) replied = absurd (wants k refl)
seen_reached k m (told.call_given_up p op object arg who is gives_up) replied = absurd (cc is)
seen_reached k m (told.call_unrecorded p op object arg who is goes) replied = absurd (cc is)
seen_reached k m (told.see p asked who is (changing.seen n seen there turn_is)) replied =
    let same : k ≡ asked = cc is in
    let told_so : Seen m ≡ Seen n = sym replied ∙ ap (λ (t : Turn). t.reply) turn_is in
    let met : m ≡ n = cc told_so in
    let within = seen.1 in
    (omega (arith, same, met, there), omega (arith, met, within))
seen_reached k m (told.see p asked who is (changing.not_yet n seen far turn_is)) replied = let same = sym replied ∙ ap (λ (t : Turn). t.reply) turn_is in absurd (cc same)

seen_in : (h : Head) (es : List EntryTree) (s : ℕ) (requests : List Request) (replies : List Reply) (before : Standing) (asks : List Ask) (steps : List Item) (added : List EntryTree) (last : Standing)
    → Leads h es s before requests replies asks steps added last → (i k m : ℕ) → slice_get requests i ≡ Some (See k) → slice_get replies i ≡ Some (Seen m) → (k ≤ m) × (m ≤ length es)
seen_in h es s [] [] before asks steps added last leads i k m asked replied = absurd (cc asked)
seen_in h es s [] (r ∷ rs) before asks steps added last leads i k m asked replied = absurd leads
seen_in h es s (q ∷ qs) [] before asks steps added last leads i k m asked replied = absurd (cc replied)
seen_in h es s (q ∷ qs) (r ∷ rs) before asks steps added last leads zero k m asked replied =
    let request : q ≡ See k = cc asked in
    let reply : leads.0.reply ≡ Seen m = cc (leads.5, replied) in
    seen_reached k m (subst (λ (x : Request). Answers h es s before x leads.0) request leads.4) reply
seen_in h es s (q ∷ qs) (r ∷ rs) before asks steps added last leads (suc i) k m asked replied = seen_in h es s qs rs leads.0.after leads.1 leads.2 leads.3 last leads.9 i k m asked replied

pub tells_what_lasts : TellsWhatLasts
tells_what_lasts h es s low requests replies asks trail last t i j k m b next order asked replied there e =
    let reached = (seen_in h es s requests replies (beginning t.first) asks t.steps t.added last t.leads i k m asked replied).0 in
    let rises = rising h es s requests replies (beginning t.first) asks t.steps t.added last t.leads i j m b (Seen m) next order replied there refl e in
    omega (arith, reached, rises)

-- a session is not told of a length that the history does not have
pub seen_too_early : SeenTooEarly
seen_too_early at asks trail last t =
    let reached = seen_in head (entry 1 make_f ∷ []) 1 (hello ∷ NewObject f ∷ See 2 ∷ []) (Welcome 1 0 ∷ Done 1 0 ∷ Seen at ∷ []) (beginning t.first) asks t.steps t.added last t.leads 2 2 at refl refl in
    let asked = reached.0 in
    let within = reached.1 in
    absurd (omega (arith, asked, within))
