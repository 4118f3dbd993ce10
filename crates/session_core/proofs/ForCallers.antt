-- Laws of what sessions are told, which the proofs of other crates may cite.
use Rattle.std.specs.Prelude.{None, replicate, slice_get, unwrap_or}
use Rattle.std.proofs.Common.{◌≡◌, ℕ, zero, suc, List, [], ◌∷◌, ◌++◌, Option, refl, sym, ◌∙◌, ap, subst, append_assoc}
use Rattle.std.proofs.lemmas.List.{append-nil}
use Rattle.policy_history.specs.declared.heads.Head.{Head}
use Rattle.nx_io.specs.Streams.{Gave, gained, Grows, prepended}
use Rattle.nx_io.proofs.ForCallers.{gained-by, gave-by, grows-by, prepended-prepended}
use Rattle.authority_ask.specs.Panels.{Told}
use Rattle.session_wire.specs.declared.replies.Reply.{Reply}
use Rattle.session_core.specs.Earned.{IsTrueAlone, IsTrueReport}
use Rattle.session_core.specs.Records.{AreNoted, IsIdle, IsNoted, Kept}
use Rattle.session_core.specs.Served.{IsServedSo, Reported}
use Rattle.session_core.specs.declared.lines.Asking.{Asking}
pub use Rattle.session_core.proofs.Given.{down_known, down_unknown, judged, told_known, told_unknown}
pub use Rattle.session_core.proofs.ToldLaws.{unrecorded_reply}
pub use Rattle.session_core.proofs.BoardHistories.{own_map}
use Rattle.session_core.proofs.EarnedAlone.{tells_what_is_true_alone}
use Rattle.session_core.proofs.EarnedReplies.{tells_what_is_true}
use Rattle.session_core.proofs.RisingPoints.{tells_in_order, tells_what_lasts}
use Rattle.session_core.specs.Answers.{Outcome}
use Rattle.policy_history.specs.Events.{EntryTree}
use Rattle.session_wire.specs.declared.requests.Request.{Request}
use Rattle.verdict_words.specs.declared.views.Item.{Item}
use Rattle.session_core.specs.Standing.{Standing}
use Rattle.session_core.specs.Calls.{Turn}
use Rattle.session_core.specs.Told.{Answers as BoardAnswers, Leads}
use Rattle.session_core.specs.Sessions.{Answers, Point, Told1, at_start, behind}

-- one request more, behind those that were answered
pub told-then : (h : Head) (first : ℕ) (point : Point) (askings : List Asking) (replies : List Reply) (asks : List Told) (last : Point) (asking : Asking) (outcome : Outcome)
    → Told1 h first point askings replies asks last → Answers h first last asking outcome
    → Told1 h first point (askings ++ asking ∷ []) (replies ++ outcome.reply ∷ []) (asks ++ outcome.asks) (behind last asking.place outcome)
told-then h first point [] [] asks last asking outcome told answers =
    let here : Answers h first point asking outcome = subst (λ (p : Point). Answers h first p asking outcome) told.1 answers in
    let all : asks ++ outcome.asks ≡ outcome.asks ++ [] = ap (λ xs. xs ++ outcome.asks) told.0 ∙ sym (append-nil outcome.asks) in
    (outcome, [], here, refl, all, (refl, ap (λ (p : Point). behind p asking.place outcome) told.1))
told-then h first point (q ∷ qs) (r ∷ rs) asks last asking outcome told answers =
    let all : asks ++ outcome.asks ≡ told.0.asks ++ (told.1 ++ outcome.asks) = ap (λ xs. xs ++ outcome.asks) told.4 ∙ append_assoc told.0.asks told.1 outcome.asks in (
      told.0,
      told.1 ++ outcome.asks,
      told.2,
      told.3,
      all,
      told-then h first (behind point q.place told.0) qs rs told.1 last asking outcome told.5 answers,
    )
told-then h first point [] (r ∷ rs) asks last asking outcome told answers = absurd told
told-then h first point (q ∷ qs) [] asks last asking outcome told answers = absurd told

-- a history that grew twice
pub gained-on : {A : Type 0} (a b c : List A) → Grows a b → Grows b c → gained a c ≡ gained a b ++ gained b c
gained-on a b c first second =
    gained-by a c (gained a b ++ gained b c) (second ∙ ap (λ xs. xs ++ gained b c) first ∙ append_assoc a (gained a b) (gained b c))

pub grows-on : {A : Type 0} (a b c : List A) → Grows a b → Grows b c → Grows a c
grows-on a b c first second =
    grows-by a c (gained a b ++ gained b c) (second ∙ ap (λ xs. xs ++ gained b c) first ∙ append_assoc a (gained a b) (gained b c))

-- what a source gave, where it gave twice
pub gave-on : (left left_then left_now : Option (List ℕ)) (given given_then given_now : List ℕ) → Gave left left_then given given_then → Gave left_then left_now given_then given_now
    → Gave left left_now given given_now
gave-on left left_then left_now given given_then given_now first second =
    let a = gained given given_then in
    let b = gained given_then given_now in
    gave-by left left_now given given_now (a ++ b) (first.taken ∙ ap (prepended a) second.taken ∙ prepended-prepended left_now a b)
    (second.grows ∙ ap (λ xs. xs ++ b) first.grows ∙ append_assoc given a b)

-- one request more that a session over a shared board is answered, behind those that it was
pub leads_then : (h : Head) (es : List EntryTree) (s : ℕ) (before : Standing) (requests : List Request) (replies : List Reply) (asks : List Told) (steps : List Item)
    (added : List EntryTree) (last : Standing) (request : Request) (turn : Turn)
    → Leads h es s before requests replies asks steps added last → BoardAnswers h es s last request turn
    → Leads h es s before (requests ++ request ∷ []) (replies ++ turn.reply ∷ []) (asks ++ turn.asks) (steps ++ turn.steps) (added ++ turn.added) turn.after
leads_then h es s before [] [] asks steps added last request turn leads answers =
    let here : BoardAnswers h es s before request turn = subst (λ (x : Standing). BoardAnswers h es s x request turn) leads.3 answers in (
      turn,
      [],
      [],
      [],
      here,
      refl,
      ap (λ xs. xs ++ turn.asks) leads.0 ∙ sym (append-nil turn.asks),
      ap (λ xs. xs ++ turn.steps) leads.1 ∙ sym (append-nil turn.steps),
      ap (λ xs. xs ++ turn.added) leads.2 ∙ sym (append-nil turn.added),
      (refl, refl, refl, refl),
    )
leads_then h es s before (q ∷ qs) (r ∷ rs) asks steps added last request turn leads answers = (
  leads.0,
  leads.1 ++ turn.asks,
  leads.2 ++ turn.steps,
  leads.3 ++ turn.added,
  leads.4,
  leads.5,
  ap (λ xs. xs ++ turn.asks) leads.6 ∙ append_assoc leads.0.asks leads.1 turn.asks,
  ap (λ xs. xs ++ turn.steps) leads.7 ∙ append_assoc leads.0.steps leads.2 turn.steps,
  ap (λ xs. xs ++ turn.added) leads.8 ∙ append_assoc leads.0.added leads.3 turn.added,
  leads_then h es s leads.0.after qs rs leads.1 leads.2 leads.3 last request turn leads.9 answers,
)
leads_then h es s before [] (r ∷ rs) asks steps added last request turn leads answers = absurd leads
leads_then h es s before (q ∷ qs) [] asks steps added last request turn leads answers = absurd leads

-- and what was recorded of it
pub noted_then : (h : Head) (es : List EntryTree) (s : ℕ) (before : Standing) (requests : List Request) (replies : List Reply) (asks : List Told) (steps : List Item)
    (added : List EntryTree) (last : Standing) (request : Request) (turn : Turn) (leads : Leads h es s before requests replies asks steps added last) (answers : BoardAnswers h es s last request turn)
    (kept kept_then kept_now : Kept) → AreNoted h es s before requests replies asks steps added last leads kept kept_then → IsNoted h last.who request turn.reply turn.asks kept_then kept_now
    → IsIdle kept_then request turn.steps turn.asks
    → AreNoted h es s before (requests ++ request ∷ []) (replies ++ turn.reply ∷ []) (asks ++ turn.asks) (steps ++ turn.steps) (added ++ turn.added) turn.after
    (leads_then h es s before requests replies asks steps added last request turn leads answers) kept kept_now
unfolding leads_then
noted_then h es s before [] [] asks steps added last request turn leads answers kept kept_then kept_now noted one idle = (
  kept_now,
  subst (λ (k : Kept). IsNoted h before.who request turn.reply turn.asks k kept_now) noted (subst (λ (x : Standing). IsNoted h x.who request turn.reply turn.asks kept_then kept_now) leads.3 one),
  subst (λ (k : Kept). IsIdle k request turn.steps turn.asks) noted idle,
  refl,
)
noted_then h es s before (q ∷ qs) (r ∷ rs) asks steps added last request turn leads answers kept kept_then kept_now noted one idle =
    (noted.0, noted.1, noted.2, noted_then h es s leads.0.after qs rs leads.1 leads.2 leads.3 last request turn leads.9 answers noted.0 kept_then kept_now noted.3 one idle)
noted_then h es s before [] (r ∷ rs) asks steps added last request turn leads answers kept kept_then kept_now noted one idle = absurd leads
noted_then h es s before (q ∷ qs) [] asks steps added last request turn leads answers kept kept_then kept_now noted one idle = absurd leads

-- what is reported of a session is true
pub report_is_true : {h : Head} {low : ℕ} {report : Reported} {asks : List Told} {later : ℕ} {kept kept_now : Kept} → IsServedSo h low report asks later kept kept_now → IsTrueReport h report.seen low report asks
report_is_true {h} {low} {report} {asks} served = record {
  requests = served.requests;
  replies = served.replies;
  ended = served.ended;
  truth = tells_what_is_true h report.seen report.session low served.requests served.replies asks _ served.last served.told;
  points = tells_in_order h report.seen report.session low served.requests served.replies asks _ served.last served.told;
  seen = tells_what_lasts h report.seen report.session low served.requests served.replies asks _ served.last served.told;
}

-- nobody is admitted yet
nobody_in : (sessions place : ℕ) → let nobody : Option ℕ = None in unwrap_or (slice_get (replicate sessions nobody) place) nobody ≡ nobody
nobody_in zero place = refl
nobody_in (suc sessions) zero = refl
nobody_in (suc sessions) (suc place) = nobody_in sessions place

-- what sessions over one journal were told is true of the journal that they left
pub alone_is_true : (h : Head) (first : ℕ) (es : List EntryTree) (askings : List Asking) (replies : List Reply) (asks : List Told) (last : Point) → Told1 h first (at_start es) askings replies asks last
    → IsTrueAlone h first last.entries askings replies asks
alone_is_true h first es askings replies asks last told = tells_what_is_true_alone h first (at_start es) last askings replies asks (nobody_in 64) told
