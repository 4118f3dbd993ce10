-- The points that the replies of sessions over one journal name.
use Rattle.std.proofs.Common.{◌≡◌, ◌≤◌, ◌+◌, ℕ, zero, suc, List, [], ◌∷◌, ◌++◌, length, map, Option, Some, None, Result, Ok, Err, inl, inr, refl, sym, ap, subst, arith, ◌∙◌, length-append}
use Rattle.std.specs.Prelude.{slice_get}
use Rattle.object_table.specs.Objects.{number_of}
use Rattle.policy_history.specs.declared.heads.Head.{Head}
use Rattle.policy_history.specs.declared.events.Due.{Due}
use Rattle.policy_history.specs.declared.events.Refusal.{Refusal}
use Rattle.policy_history.specs.Events.{EntryTree, EventTree, admitted}
use Rattle.policy_history.specs.Machine.{replay}
use Rattle.policy_history.specs.Values.{decision}
use Rattle.authority_ask.specs.Panels.{Told}
use Rattle.guard_core.specs.declared.findings.Finding.{Finding}
use Rattle.guard_core.specs.declared.findings.Finding.TheVariants.{Allowed as AllowedFinding, Denied as DeniedFinding}
use Rattle.session_wire.specs.declared.requests.Request.{Request}
use Rattle.session_wire.specs.declared.requests.Request.TheVariants.{Hello, Call, See}
use Rattle.session_wire.specs.declared.replies.Reply.{Reply}
use Rattle.session_wire.specs.declared.replies.Reply.TheVariants.{Seen}
use Rattle.session_core.specs.Answers.{HasOutcome, IsAnswer, IsCalledOn, IsGivenUp, Outcome, answered, changed, down, found, found_reply, given_up}
use Rattle.session_core.specs.Earned.{PointsRise, SeenLasts, point_of}
use Rattle.session_core.specs.Sessions.{Point, Told1, admitted_in, behind}
use Rattle.session_core.specs.declared.lines.Asking.{Asking}
use Rattle.session_core.proofs.RisingPoints.{greeting_point}

-- ---- One request

found_point : (n : ℕ) (finding : Finding) → point_of (found_reply n finding) ≡ Some n
found_point n (AllowedFinding asks) = refl
found_point n (DeniedFinding cause) = refl

-- the point of a reply lies between the length of the journal before the request and that behind it
abbrev Between : List EntryTree → Outcome → ℕ → Type 0
Between es outcome a = (length es ≤ a) × (a ≤ length (es ++ outcome.added))

silent : {outcome of : Outcome} {a : ℕ} {A : Type 0} → point_of outcome.reply ≡ Some a → outcome ≡ of → point_of of.reply ≡ None → A
silent e is none = absurd (cc (none, e, ap (λ (o : Outcome). point_of o.reply) is))

before : (es : List EntryTree) {outcome of : Outcome} {a : ℕ} → point_of outcome.reply ≡ Some a → outcome ≡ of → point_of of.reply ≡ Some (length es) → Between es outcome a
before es {outcome} {of} {a} e is names =
    let same : length es ≡ a = cc (names, e, ap (λ (o : Outcome). point_of o.reply) is) in
    (omega (arith, same), omega (arith, same, length-append es outcome.added))

module _ (h : Head) (es : List EntryTree) (session : ℕ) (outcome : Outcome) (a : ℕ) (e : point_of outcome.reply ≡ Some a) where
  called_between : (p : ℕ) (op object : List ℕ) (number : Option ℕ) → IsCalledOn h es p op number outcome → Between es outcome a
  called_between p op object None is = before es e is refl
  called_between p op object (Some n) (found finding judged is) = before es e is (found_point (length es) finding)
  called_between p op object (Some n) (down k broken is) = before es e is refl

  changed_between : (p : ℕ) (event : EventTree) (r : Result Due Refusal) → outcome ≡ changed es session p event r → Between es outcome a
  changed_between p event (Err refusal) is = before es e is refl
  changed_between p event (Ok due) is =
      let names : point_of (changed es session p event (Ok due)).reply ≡ Some (length es + 1) = refl in
      let same : length es + 1 ≡ a = cc (names, e, ap (λ (o : Outcome). point_of o.reply) is) in
      let added : length outcome.added ≡ 1 = ap (λ (o : Outcome). length o.added) is in
      (omega (arith, same), omega (arith, same, added, length-append es outcome.added))

  answered_between : (who : Option ℕ) (request : Request) → IsAnswer h es session who request outcome → Between es outcome a
  answered_between who (Hello name secret) is = before es e is (greeting_point (length es) session who (admitted h.principals name secret))
  answered_between (Some p) (Call op object arg) is = called_between p op object (number_of (replay h es).objects object) is
  answered_between None (Call op object arg) is = before es e is refl
  answered_between None _ is = before es e is refl
  answered_between (Some p) (See k) (inl is) = before es e is.1 refl
  answered_between (Some p) (See k) (inr is) = before es e is.1 refl
  answered_between (Some p) _ is = changed_between p is.0 (decision h (replay h es) session p is.0) is.2

  given_up_silent : (who : Option ℕ) (request : Request) → IsGivenUp h es who request outcome → Between es outcome a
  given_up_silent (Some p) (Call op object arg) is = silent e is.1 refl
  given_up_silent None (Call op object arg) is = silent e is refl
  given_up_silent (Some p) _ is = silent e is refl
  given_up_silent None _ is = silent e is refl

  outcome_between : (who : Option ℕ) (request : Request) → HasOutcome h es session who request outcome → Between es outcome a
  outcome_between who request (answered is) = answered_between who request is
  outcome_between who request (given_up wants is) = given_up_silent who request is

seen_reached : {h : Head} {es : List EntryTree} {session : ℕ} {outcome : Outcome} (who : Option ℕ) (k m : ℕ) → HasOutcome h es session who (See k) outcome → outcome.reply ≡ Seen m → k ≤ m
seen_reached None k m (answered is) replied = absurd (cc (replied, ap (λ (o : Outcome). o.reply) is))
seen_reached {es = es} (Some p) k m (answered (inl is)) replied =
    let there = is.0 in
    let told : Seen m ≡ Seen (length es) = sym replied ∙ ap (λ (o : Outcome). o.reply) is.1 in
    let same : m ≡ length es = cc told in
    omega (arith, there, same)
seen_reached (Some p) k m (answered (inr is)) replied = absurd (cc (replied, ap (λ (o : Outcome). o.reply) is.1))
seen_reached who k m (given_up wants is) replied = absurd (wants k refl)

-- ---- All of them

-- every point is at least the length of the journal as they came here
from_start : (h : Head) (first : ℕ) (point last : Point) (askings : List Asking) (replies : List Reply) (asks : List Told) → Told1 h first point askings replies asks last
    → (i a : ℕ) (reply : Reply) → slice_get replies i ≡ Some reply → point_of reply ≡ Some a → length point.entries ≤ a
from_start h first point last [] [] asks told i a reply here e = absurd (cc here)
from_start h first point last [] (r ∷ rs) asks told i a reply here e = absurd told
from_start h first point last (q ∷ qs) [] asks told i a reply here e = absurd (cc here)
from_start h first point last (q ∷ qs) (r ∷ rs) asks told zero a reply here e =
    let same : told.0.reply ≡ reply = cc (told.3, here) in
    (outcome_between h point.entries (first + q.place) told.0 a (ap point_of same ∙ e) (admitted_in point q.place) q.request told.2).0
from_start h first point last (q ∷ qs) (r ∷ rs) asks told (suc i) a reply here e =
    let later : length (point.entries ++ told.0.added) ≤ a = from_start h first (behind point q.place told.0) last qs rs told.1 told.5 i a reply here e in
    omega (arith, later, length-append point.entries told.0.added)

rising : (h : Head) (first : ℕ) (point last : Point) (askings : List Asking) (replies : List Reply) (asks : List Told) → Told1 h first point askings replies asks last
    → (i j a b : ℕ) (reply next : Reply) → i ≤ j → slice_get replies i ≡ Some reply → slice_get replies j ≡ Some next → point_of reply ≡ Some a → point_of next ≡ Some b → a ≤ b
rising h first point last [] [] asks told i j a b reply next order here there e f = absurd (cc here)
rising h first point last [] (r ∷ rs) asks told i j a b reply next order here there e f = absurd told
rising h first point last (q ∷ qs) [] asks told i j a b reply next order here there e f = absurd (cc here)
rising h first point last (q ∷ qs) (r ∷ rs) asks told zero zero a b reply next order here there e f =
    let same : a ≡ b = cc (here, there, e, f) in omega (arith, same)
rising h first point last (q ∷ qs) (r ∷ rs) asks told zero (suc j) a b reply next order here there e f =
    let same : told.0.reply ≡ reply = cc (told.3, here) in
    let now = (outcome_between h point.entries (first + q.place) told.0 a (ap point_of same ∙ e) (admitted_in point q.place) q.request told.2).1 in
    let later : length (point.entries ++ told.0.added) ≤ b = from_start h first (behind point q.place told.0) last qs rs told.1 told.5 j b next there f in
    omega (arith, now, later)
rising h first point last (q ∷ qs) (r ∷ rs) asks told (suc i) zero a b reply next order here there e f = absurd (omega (arith, order))
rising h first point last (q ∷ qs) (r ∷ rs) asks told (suc i) (suc j) a b reply next order here there e f =
    rising h first (behind point q.place told.0) last qs rs told.1 told.5 i j a b reply next (omega (arith, order)) here there e f

pub points_rise_alone : (h : Head) (first : ℕ) (point last : Point) (askings : List Asking) (replies : List Reply) (asks : List Told) → Told1 h first point askings replies asks last → PointsRise 0 replies
points_rise_alone h first point last askings replies asks told i j a b reply next order here there e f =
    (omega arith, rising h first point last askings replies asks told i j a b reply next order here there e f)

seen_in : (h : Head) (first : ℕ) (point last : Point) (askings : List Asking) (replies : List Reply) (asks : List Told) → Told1 h first point askings replies asks last
    → (i k m : ℕ) → slice_get (map (λ (asking : Asking). asking.request) askings) i ≡ Some (See k) → slice_get replies i ≡ Some (Seen m) → k ≤ m
seen_in h first point last [] [] asks told i k m asked replied = absurd (cc asked)
seen_in h first point last [] (r ∷ rs) asks told i k m asked replied = absurd told
seen_in h first point last (q ∷ qs) [] asks told i k m asked replied = absurd (cc replied)
seen_in h first point last (q ∷ qs) (r ∷ rs) asks told zero k m asked replied =
    let request : q.request ≡ See k = cc asked in
    let reply : told.0.reply ≡ Seen m = cc (told.3, replied) in
    seen_reached (admitted_in point q.place) k m (subst (λ (x : Request). HasOutcome h point.entries (first + q.place) (admitted_in point q.place) x told.0) request told.2) reply
seen_in h first point last (q ∷ qs) (r ∷ rs) asks told (suc i) k m asked replied = seen_in h first (behind point q.place told.0) last qs rs told.1 told.5 i k m asked replied

pub seen_lasts_alone : (h : Head) (first : ℕ) (point last : Point) (askings : List Asking) (replies : List Reply) (asks : List Told) → Told1 h first point askings replies asks last
    → SeenLasts (map (λ (asking : Asking). asking.request) askings) replies
seen_lasts_alone h first point last askings replies asks told i j k m b next order asked replied there e =
    let reached = seen_in h first point last askings replies asks told i k m asked replied in
    let rises = rising h first point last askings replies asks told i j m b (Seen m) next order replied there refl e in
    omega (arith, reached, rises)
