-- Replies that are read from what a link was sent, one after another.
use Rattle.std.proofs.Common.{◌≡◌, ◌≤◌, ◌<◌, ◌+◌, ℕ, zero, suc, get_or, subst, Bool, List, [], ◌∷◌, ◌++◌, length, take, map, Some, refl, sym, ap, ◌∙◌, arith, append_assoc, length-append, true, false, not, ◌&&◌}
use Rattle.std.specs.Prelude.{cond, IfOk, Result, Ok, Err}
use Rattle.std.specs.List.{count_by}
use Rattle.std.proofs.Math.Dec.{eqb}
use Rattle.std.proofs.lemmas.Bool.{eqb-true}
use Rattle.std.proofs.lemmas.Grind.{flat_map-append}
use Rattle.std.proofs.lemmas.List.{append-nil, map-append}
use Rattle.std.proofs.lemmas.List.Sums.{count_by-le-length, sum_by-append}
use Rattle.nx_io.specs.Streams.{Gave, gained}
use Rattle.nx_io.specs.Views.{DoorView}
use Rattle.session_wire.specs.declared.replies.Reply.{Reply}
use Rattle.session_wire.specs.Frames.{IsReplyFrameOf, reply_frames}
use Rattle.session_wire.proofs.ForCallers.{reply_frames_then}
use Rattle.policy_history.specs.declared.events.Entry.{Entry}
use Rattle.policy_history.specs.declared.heads.Head.{Head}
use Rattle.policy_history.specs.Values.{History}
use Rattle.nx_io.specs.MemoryLinks.{Wire}
use Rattle.authority_ask.specs.Memory.{Rehearsed}
use Rattle.nexus_serve.specs.declared.means.Means.{Means}
use Rattle.nexus_serve.specs.Means.{means_history}
use Rattle.nexus_serve.specs.declared.reporting.ServedSession.{ServedSession}
use Rattle.nx_io.specs.Readers.{Discarded}
use Rattle.nexus_serve.specs.Services.{Serves}
use Rattle.nexus_serve.specs.Views.{ReportView, joined, session_view}
use Rattle.verdict_words.specs.Settling.{flat}
use Rattle.verdict_words.specs.Values.{PassValue}
use Rattle.nexus_drill.specs.declared.outcomes.DrillTotals.{DrillTotals}
use Rattle.service_drill.specs.Runs.{Counts, IsRun, LeftView, ServesLoad, allows, denies, panel_of}
use Rattle.service_drill.specs.Inner.{CountsLinks, CountsReplies, sent_in, sent_over, wire_view}

-- so many turns have read one reply each of the bytes
pub record IsCounting (sent left given : List ℕ) (turn allowed denied : ℕ) : Type 0 where
  pub replies : List Reply
  pub spelled : given ≡ reply_frames replies
  pub rest : sent ≡ given ++ left
  pub many : length replies ≡ turn
  pub allowed_is : allowed ≡ count_by allows replies
  pub denied_is : denied ≡ count_by denies replies

counted_more : (p : Reply → Bool) (rs : List Reply) (r : Reply) → count_by p (rs ++ r ∷ []) ≡ count_by p rs + cond (p r) 1 0
counted_more p rs r =
    let both = sum_by-append (λ (x : Reply). cond (p x) 1 0) rs (r ∷ []) in
    omega (arith, both)

pub few_counted : (sent left given : List ℕ) (turn allowed denied : ℕ) → IsCounting sent left given turn allowed denied → (allowed ≤ turn) × (denied ≤ turn)
few_counted sent left given turn allowed denied h =
    let a = count_by-le-length allows h.replies in
    let d = count_by-le-length denies h.replies in
    let many = h.many in
    let a_is = h.allowed_is in
    let d_is = h.denied_is in
    (omega (arith, a, many, a_is), omega (arith, d, many, d_is))

module _ (sent left left_now given given_now : List ℕ) (turn allowed denied : ℕ) (h : IsCounting sent left given turn allowed denied) (gave : Gave (Some left) (Some left_now) given given_now) where
  came : left ≡ gained given given_now ++ left_now
  came = cc gave.taken

  goes_on : sent ≡ given_now ++ left_now
  goes_on =
      h.rest ∙ ap (λ (xs : List ℕ). given ++ xs) came ∙ sym (append_assoc given (gained given given_now) left_now) ∙ ap (λ (xs : List ℕ). xs ++ left_now) (sym gave.grows)

  pub reply_counted : (r : Reply) (allowed_now denied_now : ℕ) → IsReplyFrameOf r (gained given given_now) → allowed_now ≡ allowed + cond (allows r) 1 0 → denied_now ≡ denied + cond (denies r) 1 0
      → IsCounting sent left_now given_now (turn + 1) allowed_now denied_now
  reply_counted r allowed_now denied_now frame allowed_is denied_is =
      let long = length-append h.replies (r ∷ []) in
      let many = h.many in
      record {
        replies = h.replies ++ r ∷ [];
        spelled = gave.grows ∙ (λ i. h.spelled i ++ frame.1 i) ∙ sym (reply_frames_then h.replies r);
        rest = goes_on;
        many = omega (arith, long, many);
        allowed_is = allowed_is ∙ ap (λ (n : ℕ). n + cond (allows r) 1 0) h.allowed_is ∙ sym (counted_more allows h.replies r);
        denied_is = denied_is ∙ ap (λ (n : ℕ). n + cond (denies r) 1 0) h.denied_is ∙ sym (counted_more denies h.replies r);
      }

-- ---- The reports, one after another

take_then : {A : Type 0} (xs : List A) (i : ℕ) (x : A) → i < length xs → x ≡ get_or xs i x → take (suc i) xs ≡ take i xs ++ x ∷ []
take_then [] i x below is = absurd (omega (arith, below))
take_then (y ∷ ys) zero x below is = let same : x ≡ y = is in ap (λ z. z ∷ []) (sym same)
take_then (y ∷ ys) (suc i) x below is = ap (λ zs. y ∷ zs) (take_then ys i x (omega (arith, below)) is)

-- what is counted of links and of those behind them is counted of both
pub links_more : (links more : List (List ℕ)) (allowed denied allowed_now denied_now : ℕ) (one : ℕ × ℕ) → CountsLinks links (allowed, denied) → CountsLinks more one → allowed_now ≡ allowed + one.0
    → denied_now ≡ denied + one.1 → CountsLinks (links ++ more) (allowed_now, denied_now)
links_more links more allowed denied allowed_now denied_now one h k a d =
    let allows_both = sum_by-append (count_by allows) h.replies k.replies in
    let denies_both = sum_by-append (count_by denies) h.replies k.replies in
    let h_a = h.allowed in
    let h_d = h.denied in
    let k_a = k.allowed in
    let k_d = k.denied in
    record {
      replies = h.replies ++ k.replies;
      replies_are = (λ j. h.replies_are j ++ k.replies_are j) ∙ sym (map-append reply_frames h.replies k.replies);
      allowed = omega (arith, a, h_a, k_a, allows_both);
      denied = omega (arith, d, h_d, k_d, denies_both);
    }

-- what is counted of one link
pub one_link : (sent : List ℕ) (counts : ℕ × ℕ) → CountsReplies sent counts → CountsLinks (sent ∷ []) counts
one_link sent counts h =
    let a = h.allowed in
    let d = h.denied in
    record { replies = h.replies ∷ []; replies_are = ap (λ bytes. bytes ∷ []) h.replies_are; allowed = omega (arith, a); denied = omega (arith, d) }

-- one session more is counted
pub sessions_more : (sessions : List (ServedSession Wire)) (i : ℕ) (x : ServedSession Wire) (allowed denied allowed_now denied_now : ℕ) (one : ℕ × ℕ) → i < length sessions → x ≡ get_or sessions i x
    → CountsLinks (sent_in (take i sessions)) (allowed, denied) → CountsReplies x.link.store.sent one → allowed_now ≡ allowed + one.0 → denied_now ≡ denied + one.1
    → CountsLinks (sent_in (take (i + 1) sessions)) (allowed_now, denied_now)
sessions_more sessions i x allowed denied allowed_now denied_now one below is h k a d =
    let more : i + 1 ≡ suc i = omega arith in
    let longer : take (i + 1) sessions ≡ take i sessions ++ x ∷ [] = ap (λ (n : ℕ). take n sessions) more ∙ take_then sessions i x below is in
    let both : sent_in (take (i + 1) sessions) ≡ sent_in (take i sessions) ++ x.link.store.sent ∷ [] =
    ap sent_in longer ∙ map-append (λ (session : ServedSession Wire). session.link.store.sent) (take i sessions) (x ∷ []) in
    subst (λ (links : List (List ℕ)). CountsLinks links (allowed_now, denied_now)) (sym both)
    (links_more (sent_in (take i sessions)) (x.link.store.sent ∷ []) allowed denied allowed_now denied_now one h (one_link x.link.store.sent one k) a d)

-- one worker more is counted
pub workers_more : (workers : List (List ReportView)) (i : ℕ) (x : List ReportView) (allowed denied allowed_now denied_now : ℕ) (one : ℕ × ℕ) → i < length workers → x ≡ get_or workers i x
    → CountsLinks (sent_over (flat (take i workers))) (allowed, denied) → CountsLinks (sent_over x) one → allowed_now ≡ allowed + one.0 → denied_now ≡ denied + one.1
    → CountsLinks (sent_over (flat (take (i + 1) workers))) (allowed_now, denied_now)
workers_more workers i x allowed denied allowed_now denied_now one below is h k a d =
    let more : i + 1 ≡ suc i = omega arith in
    let longer : take (i + 1) workers ≡ take i workers ++ x ∷ [] = ap (λ (n : ℕ). take n workers) more ∙ take_then workers i x below is in
    let all : flat (take (i + 1) workers) ≡ flat (take i workers) ++ x = ap flat longer ∙ flat_map-append (λ (list : List ReportView). list) (take i workers) (x ∷ []) ∙ ap (λ (list : List ReportView). flat (take i workers) ++ list) (append-nil x) in
    let both : sent_over (flat (take (i + 1) workers)) ≡ sent_over (flat (take i workers)) ++ sent_over x =
    ap sent_over all ∙ map-append (λ (report : ReportView). report.link.sent) (flat (take i workers)) x in
    subst (λ (links : List (List ℕ)). CountsLinks links (allowed_now, denied_now)) (sym both) (links_more (sent_over (flat (take i workers))) (sent_over x) allowed denied allowed_now denied_now one h k a d)

-- a report has the link of its session
pub joined_links : (sessions : List (ServedSession Wire)) (passes : List (PassValue Entry Head)) → length sessions ≡ length passes
    → sent_in sessions ≡ sent_over (joined (map (session_view wire_view) sessions) passes)
joined_links [] passes long = refl
joined_links (session ∷ sessions) [] long = absurd (omega (arith, long))
joined_links (session ∷ sessions) (pass ∷ passes) long = ap (λ (links : List (List ℕ)). session.link.store.sent ∷ links) (joined_links sessions passes (omega (arith, long)))

-- what is counted of reports, as a service tells them
pub counts_of : (served : LeftView) (workers : List (List ReportView)) (journal : History) (allowed denied entries : ℕ) → served.journal ≡ Some journal → served.reports ≡ flat workers
    → CountsLinks (sent_over (flat workers)) (allowed, denied) → entries ≡ length journal.entries → Counts served (record { allowed = allowed; denied = denied; entries = entries })
counts_of served workers journal allowed denied entries journal_is reports_are h entries_are = record {
  journal = journal;
  journal_is = journal_is;
  entries = entries_are;
  replies = h.replies;
  replies_are = ap sent_over reports_are ∙ h.replies_are;
  allowed = h.allowed;
  denied = h.denied;
}

-- ---- The service

pub serves_so : (h h2 : Head) (es es2 : List Entry) (sink sink2 : Discarded) (ds ds2 : List DoorView) (ps ps2 : List (Means Rehearsed Discarded)) (s : LeftView) → h ≡ h2 → es ≡ es2 → sink ≡ sink2 → ds ≡ ds2 → ps ≡ ps2
    → Serves (means_history panel_of) 1 h es (record { sent = sink.sent; synced = sink.synced; faults = 0 }) ds ps s → Serves (means_history panel_of) 1 h2 es2 (record { sent = sink2.sent; synced = sink2.synced; faults = 0 }) ds2 ps2 s
serves_so h h2 es es2 sink sink2 ds ds2 ps ps2 s a b c d e serves =
    subst (λ (x : Head). Serves (means_history panel_of) 1 x es2 (record { sent = sink2.sent; synced = sink2.synced; faults = 0 }) ds2 ps2 s) a
    (subst (λ (x : List Entry). Serves (means_history panel_of) 1 h x (record { sent = sink2.sent; synced = sink2.synced; faults = 0 }) ds2 ps2 s) b
    (subst (λ (x : Discarded). Serves (means_history panel_of) 1 h es (record { sent = x.sent; synced = x.synced; faults = 0 }) ds2 ps2 s) c
    (subst (λ (x : List DoorView). Serves (means_history panel_of) 1 h es (record { sent = sink.sent; synced = sink.synced; faults = 0 }) x ps2 s) d
    (subst (λ (x : List (Means Rehearsed Discarded)). Serves (means_history panel_of) 1 h es (record { sent = sink.sent; synced = sink.synced; faults = 0 }) ds x s) e serves))))

-- what is counted of what such a service left is counted of a run
pub run_counted : {E : Type 0} (number workers calls : ℕ) (served : LeftView) (told : Result DrillTotals E) → ServesLoad number workers calls served → IfOk told (Counts served)
    → IfOk told (IsRun number workers calls)
run_counted number workers calls served (Ok counted) serves counts = record { served = served; serves = serves; counts = counts }
run_counted number workers calls served (Err e) serves counts = tt

-- a line is told of a run whose counts are those that were worked out, which are the totals
pub run_told : {A E : Type 0} (number workers calls : ℕ) (counted found totals : DrillTotals) (line : Result A E) → IsRun number workers calls counted → counted ≡ found → found ≡ totals
    → IfOk line (λ _. IsRun number workers calls totals)
run_told number workers calls counted found totals (Ok line) run same are = subst (IsRun number workers calls) are (subst (IsRun number workers calls) same run)
run_told number workers calls counted found totals (Err e) run same are = tt

-- counts that were compared number by number are the same
all_of_three : (x y z : Bool) → false ≡ not (x && (y && z)) → (x ≡ true) × (y ≡ true) × (z ≡ true)
all_of_three true true true e = (refl, refl, refl)
all_of_three true true false e = absurd (cc e)
all_of_three true false z e = absurd (cc e)
all_of_three false y z e = absurd (cc e)

pub same_totals : (a b : DrillTotals) → false ≡ not (eqb a.allowed b.allowed && (eqb a.denied b.denied && eqb a.entries b.entries)) → a ≡ b
same_totals a b e =
    let all = all_of_three (eqb a.allowed b.allowed) (eqb a.denied b.denied) (eqb a.entries b.entries) e in
    λ i. record { allowed = eqb-true a.allowed b.allowed all.0 i; denied = eqb-true a.denied b.denied all.1 i; entries = eqb-true a.entries b.entries all.2 i }
