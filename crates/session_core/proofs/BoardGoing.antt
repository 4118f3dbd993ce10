-- A session over a shared board by one request more, and as it is reported.
use Rattle.std.proofs.Common.{◌≡◌, ◌≢◌, ◌-◌, ◌<◌, ℕ, List, [], ◌∷◌, ◌++◌, length, length-append, take, true, Option, Some, None, refl, sym, ap, ◌∙◌, subst, arith, append_assoc}
use Rattle.std.specs.List.{All}
use Rattle.std.specs.Option.{IfSome}
use Rattle.std.proofs.lemmas.List.{append-nil}
use Rattle.std.proofs.Math.Seq.{take-length}
use Rattle.authority_ask.specs.PanelCalls.{HasOnlyAsked, PanelHistory, asked_since}
use Rattle.authority_ask.proofs.ForCallers.{only_nothing, only_through, since_nothing, since_through}
use Rattle.policy_history.specs.declared.events.Entry.{Entry}
use Rattle.policy_history.specs.declared.heads.Head.{Head}
use Rattle.policy_history.specs.Events.{EntryTree, name_of}
use Rattle.session_core.specs.declared.board_session.Admitted.{Admitted}
use Rattle.policy_history.specs.Values.{entry_trees}
use Rattle.authority_ask.specs.Panels.{Told as Ask}
use Rattle.session_wire.specs.Answers.{WantsMemory}
use Rattle.session_wire.specs.declared.requests.Request.{Request}
use Rattle.session_wire.specs.declared.replies.Reply.{Reply}
use Rattle.session_wire.specs.declared.replies.Reply.TheVariants.{NoMemory}
use Rattle.verdict_words.specs.declared.views.Item.{Item}
use Rattle.verdict_words.specs.declared.views.Item.TheVariants.{Met}
use Rattle.verdict_words.specs.Histories.{IsPrefix, own}
use Rattle.verdict_words.specs.Rule.{last_met}
use Rattle.verdict_words.specs.Values.{Identity, PassValue}
use Rattle.verdict_words.proofs.ForCallers.{last_met_now, own_none, prefix_length, prefix_through, prefix_whole}
use Rattle.policy_book.specs.Access.{HasMet}
use Rattle.policy_book.specs.Books.{session_of}
use Rattle.session_core.specs.declared.board_session.BoardSession.{BoardSession}
use Rattle.session_core.specs.declared.ends.SessionEnd.{SessionEnd}
use Rattle.session_core.specs.Ends.{HasEnded}
use Rattle.session_core.specs.Records.{AreNoted, IsCall, IsIdle, IsNoted, IsToldAndNoted, Kept}
use Rattle.session_core.specs.Served.{AreCounted, IsServedOver, UnrecordedOnlyWhere}
use Rattle.session_core.specs.Standing.{Standing, beginning}
use Rattle.session_core.specs.Told.{Answers, IsTold, Leads}
use Rattle.session_core.specs.Inner.Boarding.{AreKnown, HasGone, IsReady, IsTurn, head_of, own_in, standing, trees_of, who_of}
use Rattle.session_core.specs.Inner.Knowing.{KnownRow, triples_of}
use Rattle.session_core.proofs.BoardHistories.{own_trees, trees_count, trees_prefix}
use Rattle.session_core.proofs.BoardSnaps.{own_met}
use Rattle.session_core.proofs.BoardTurns.{given_up_any, quiet_counted}
use Rattle.session_core.proofs.ForCallers.{leads_then, noted_then}
use Rattle.session_core.proofs.Noting.{noted_none}
use Rattle.session_core.proofs.ToldLaws.{leads_on, noted_on}

-- requests were told replies so, and so much was recorded of them
abbrev IsLed : Head → List EntryTree → ℕ → Standing → List Request → List Reply → List Ask → List Item → List EntryTree → Standing → Kept → Kept → Type 0
IsLed h es s before requests replies asks steps added last kept kept_now =
    (led : Leads h es s before requests replies asks steps added last) × AreNoted h es s before requests replies asks steps added last led kept kept_now

-- nothing was told yet
pub gone_first : (s : BoardSession) (p : PanelHistory) (count : ℕ) (kept : Kept) → HasGone s s p p count count kept kept [] []
gone_first s p count kept = record {
  steps = [];
  added = [];
  leads = (since_nothing p, refl, refl, refl);
  trail = sym (append-nil s.pass.trail);
  own_is = sym (append-nil (own_in s.pass));
  seen = prefix_whole s.pass.seen;
  knows = prefix_whole s.pass.known;
  session_is = refl;
  board_is = refl;
  asked = only_nothing p;
  counted = record { later = omega arith; counted = tt };
  noted = refl;
}

-- what was counted of the replies so far, and of one more of them
counted_then : (Holds More Now : Type 0) (requests : List Request) (replies : List Reply) (request : Request) (reply : Reply) → (Holds → Now) → (More → Now)
    → UnrecordedOnlyWhere Holds requests replies → UnrecordedOnlyWhere More (request ∷ []) (reply ∷ []) → UnrecordedOnlyWhere Now (requests ++ request ∷ []) (replies ++ reply ∷ [])
counted_then Holds More Now [] [] request reply first second before one = ((λ is. second (one.0 is)), tt)
counted_then Holds More Now (q ∷ qs) (r ∷ rs) request reply first second before one = ((λ is. first (before.0 is)), counted_then Holds More Now qs rs request reply first second before.1 one)
counted_then Holds More Now [] (r ∷ rs) request reply first second before one = absurd before
counted_then Holds More Now (q ∷ qs) [] request reply first second before one = absurd before

counted_more : (count count_then count_now : ℕ) (requests : List Request) (replies : List Reply) (request : Request) (reply : Reply) → AreCounted count count_then requests replies
    → AreCounted count_then count_now (request ∷ []) (reply ∷ []) → AreCounted count count_now (requests ++ request ∷ []) (replies ++ reply ∷ [])
counted_more count count_then count_now requests replies request reply first second =
    let before = first.later in
    let after = second.later in
    record {
      later = omega (arith, before, after);
      counted = counted_then (count < count_then) (count_then < count_now) (count < count_now) requests replies request reply (λ less. omega (arith, less, after)) (λ less. omega (arith, less, before)) first.counted second.counted;
    }

-- what nothing more was put behind
no_more : {A : Type 0} (xs more : List A) → xs ≡ xs ++ more → more ≡ []
no_more xs [] same = refl
no_more xs (x ∷ more) same = let count = ap length same in let long = length-append xs (x ∷ more) in absurd (omega (arith, count, long))

-- one request more
module _ (a s t : BoardSession) (p q r : PanelHistory) (count count_then count_now : ℕ) (kept kept_then kept_now : Kept) (requests : List Request) (replies : List Reply) (request : Request) (reply : Reply)
    (gone : HasGone a s p q count count_then kept kept_then requests replies) (turn : IsTurn s t (asked_since q r) request reply) (asked : HasOnlyAsked q r)
    (noted : IsNoted (head_of s) (who_of s) request reply (asked_since q r) kept_then kept_now) (idle : kept_then.broken ≡ true → IsCall request → (t ≡ s) × (asked_since q r ≡ [])) where
  grown_led : IsLed (head_of a) (trees_of t) a.pass.session (standing a) requests replies (asked_since p q) gone.steps gone.added (standing s) kept kept_then
  grown_led =
      let grown = trees_prefix s.pass.seen t.pass.seen turn.seen in
      subst (λ (es : List EntryTree). IsLed (head_of a) es a.pass.session (standing a) requests replies (asked_since p q) gone.steps gone.added (standing s) kept kept_then) (sym grown.1) (
        leads_on (head_of a) (trees_of s) grown.0 a.pass.session (standing a) requests replies (asked_since p q) gone.steps gone.added (standing s) gone.leads,
        noted_on (head_of a) (trees_of s) grown.0 a.pass.session (standing a) requests replies (asked_since p q) gone.steps gone.added (standing s) gone.leads kept kept_then gone.noted,
      )

  answers_here : Answers (head_of a) (trees_of t) a.pass.session (standing s) request turn.turn
  answers_here =
      subst (λ (b : Identity Entry Head). Answers b.origin.setting (trees_of t) a.pass.session (standing s) request turn.turn) gone.board_is
      (subst (λ (n : ℕ). Answers (head_of s) (trees_of t) n (standing s) request turn.turn) gone.session_is turn.answers)

  noted_here : IsNoted (head_of a) (who_of s) request turn.turn.reply turn.turn.asks kept_then kept_now
  noted_here =
      subst (λ (b : Identity Entry Head). IsNoted b.origin.setting (who_of s) request turn.turn.reply turn.turn.asks kept_then kept_now) gone.board_is
      (subst (λ (x : Reply). IsNoted (head_of s) (who_of s) request x turn.turn.asks kept_then kept_now) (sym turn.reply_is)
      (subst (λ (xs : List Ask). IsNoted (head_of s) (who_of s) request reply xs kept_then kept_now) (sym turn.asks_are) noted))

  -- a session that stays as it is has taken no step
  idle_here : IsIdle kept_then request turn.turn.steps turn.turn.asks
  idle_here broken call =
      let (same, unasked) = idle broken call in
      (no_more s.pass.trail turn.turn.steps (sym (ap (λ (x : BoardSession). x.pass.trail) same) ∙ turn.trail), turn.asks_are ∙ unasked)

  led_more : IsLed (head_of a) (trees_of t) a.pass.session (standing a) (requests ++ request ∷ []) (replies ++ reply ∷ []) (asked_since p r) (gone.steps ++ turn.turn.steps) (gone.added ++ turn.turn.added) (standing t) kept kept_now
  led_more =
      let said : asked_since p q ++ turn.turn.asks ≡ asked_since p r = ap (λ (xs : List Ask). asked_since p q ++ xs) turn.asks_are ∙ sym (since_through p q r gone.asked asked) in
      subst (λ (x : Standing). IsLed (head_of a) (trees_of t) a.pass.session (standing a) (requests ++ request ∷ []) (replies ++ reply ∷ []) (asked_since p r) (gone.steps ++ turn.turn.steps) (gone.added ++ turn.turn.added) x kept kept_now) turn.after
      (subst (λ (xs : List Ask). IsLed (head_of a) (trees_of t) a.pass.session (standing a) (requests ++ request ∷ []) (replies ++ reply ∷ []) xs (gone.steps ++ turn.turn.steps) (gone.added ++ turn.turn.added) turn.turn.after kept kept_now) said
      (subst (λ (x : Reply). IsLed (head_of a) (trees_of t) a.pass.session (standing a) (requests ++ request ∷ []) (replies ++ x ∷ []) (asked_since p q ++ turn.turn.asks) (gone.steps ++ turn.turn.steps) (gone.added ++ turn.turn.added) turn.turn.after kept kept_now) turn.reply_is (
        leads_then (head_of a) (trees_of t) a.pass.session (standing a) requests replies (asked_since p q) gone.steps gone.added (standing s) request turn.turn grown_led.0 answers_here,
        noted_then (head_of a) (trees_of t) a.pass.session (standing a) requests replies (asked_since p q) gone.steps gone.added (standing s) request turn.turn grown_led.0 answers_here kept kept_then kept_now grown_led.1 noted_here idle_here,
      )))

  pub gone_more : AreCounted count_then count_now (request ∷ []) (reply ∷ []) → HasGone a t p r count count_now kept kept_now (requests ++ request ∷ []) (replies ++ reply ∷ [])
  gone_more counted = record {
    steps = gone.steps ++ turn.turn.steps;
    added = gone.added ++ turn.turn.added;
    leads = led_more.0;
    trail = turn.trail ∙ ap (λ (xs : List Item). xs ++ turn.turn.steps) gone.trail ∙ append_assoc a.pass.trail gone.steps turn.turn.steps;
    own_is = turn.own_is ∙ ap (λ (xs : List EntryTree). xs ++ turn.turn.added) gone.own_is ∙ append_assoc (own_in a.pass) gone.added turn.turn.added;
    seen = prefix_through a.pass.seen s.pass.seen t.pass.seen gone.seen turn.seen;
    knows = prefix_through a.pass.known s.pass.known t.pass.known gone.knows turn.knows;
    session_is = turn.session_is ∙ gone.session_is;
    board_is = turn.board_is ∙ gone.board_is;
    asked = only_through p q r gone.asked asked;
    counted = counted_more count count_then count_now requests replies request reply gone.counted counted;
    noted = led_more.1;
  }

-- one request more that was given up
pub gone_given_up : (a s : BoardSession) (p q : PanelHistory) (count count_now : ℕ) (kept kept_now : Kept) (requests : List Request) (replies : List Reply) (request : Request) → WantsMemory request → HasGone a s p q count count_now kept kept_now requests replies
    → HasGone a s p q count count_now kept kept_now (requests ++ request ∷ []) (replies ++ NoMemory ∷ [])
gone_given_up a s p q count count_now kept kept_now requests replies request wants gone =
    gone_more a s s p q q count count_now count_now kept kept_now kept_now requests replies request NoMemory gone (subst (λ (xs : List Ask). IsTurn s s xs request NoMemory) (sym (since_nothing q)) (given_up_any s request wants)) (only_nothing q)
    (noted_none (λ call. tt)) (λ broken call. (refl, since_nothing q)) (quiet_counted count_now count_now request NoMemory refl (λ none. none))

-- ---- The beginning

module _ (board : Identity Entry Head) (entries : List Entry) (pass : PassValue Entry Head) (s : BoardSession) (met : HasMet board entries pass s.pass) (nobody : who_of s ≡ None) (unknown : s.known.rows ≡ []) where
  seen_is : s.pass.seen ≡ entries
  seen_is = ap (λ (x : PassValue Entry Head). x.seen) met.pass_is

  board_here : s.pass.board ≡ board
  board_here = ap (λ (x : PassValue Entry Head). x.board) met.pass_is

  none_known : (who : Option ℕ) (rows : List KnownRow) → who ≡ None → rows ≡ [] → AreKnown board.origin.setting (trees_of s) who rows
  none_known None rows is none = none
  none_known (Some p) rows is none = absurd (cc is)

  pub first_ready : s.admitted ≡ None → IsReady board s
  first_ready admitted =
      let last : last_met s.pass.trail ≡ length s.pass.seen = ap (λ (x : PassValue Entry Head). last_met x.trail) met.pass_is ∙ last_met_now pass.trail (length entries) ∙ ap length (sym seen_is) in
      record {
        board_is = board_here;
        met = omega (arith, last);
        who = subst (λ (a : Option Admitted). IfSome a (λ (x : Admitted). (x.number < length board.origin.setting.principals) × (x.name ≡ name_of board.origin.setting.principals x.number))) (sym admitted) tt;
        known = none_known (who_of s) s.known.rows nobody unknown;
      }

  first_trail : pass.trail ≡ [] → s.pass.trail ≡ Met (length s.pass.seen) ∷ []
  first_trail empty =
      ap (λ (x : PassValue Entry Head). x.trail) met.pass_is ∙ ap (λ (xs : List Item). xs ++ Met (length entries) ∷ []) empty ∙ ap (λ (es : List Entry). Met (length es) ∷ []) (sym seen_is)

  first_own : All (λ (e : Entry). e.session ≢ pass.session) pass.seen → own_in s.pass ≡ []
  first_own none =
      own_met board entries pass s.pass met ∙ own_trees pass ∙ ap entry_trees (sym met.met.own_met ∙ met.met.own_seen ∙ own_none session_of pass.seen pass.session none)

  first_standing : standing s ≡ beginning (length s.pass.seen)
  first_standing = λ i. record { who = nobody i; low = length s.pass.seen; known = triples_of (unknown i) }

  whole_trail : (trail : List Item) → trail ≡ take (length trail - 0) trail
  whole_trail trail = let same : length trail ≡ length trail - 0 = omega arith in sym (take-length trail) ∙ ap (λ (n : ℕ). take n trail) same

  -- what is reported of it
  pub served_over : (t : BoardSession) (p q : PanelHistory) (count count_now : ℕ) (kept kept_now : Kept) (requests : List Request) (replies : List Reply) (end : SessionEnd) (taken sent : List ℕ) (session : ℕ) → pass.trail ≡ []
      → All (λ (e : Entry). e.session ≢ pass.session) pass.seen → IsPrefix board.origin.opening s.pass.seen → session ≡ s.pass.session → HasGone s t p q count count_now kept kept_now requests replies → HasEnded end taken sent requests replies
      → IsServedOver board.origin.setting (length board.origin.opening)
      (record { session = session; end = end; who = who_of t; taken = taken; sent = sent; seen = trees_of t; trail = t.pass.trail }) (asked_since p q) count count_now kept kept_now
  served_over t p q count count_now kept kept_now requests replies end taken sent session empty none opening session_is gone ended =
      let long = trees_count t.pass.seen in
      let more = prefix_length s.pass.seen t.pass.seen gone.seen in
      let trail : t.pass.trail ≡ Met (length s.pass.seen) ∷ gone.steps = gone.trail ∙ ap (λ (xs : List Item). xs ++ gone.steps) (first_trail empty) in
      let led : IsLed board.origin.setting (trees_of t) session (beginning (length s.pass.seen)) requests replies (asked_since p q) gone.steps gone.added (standing t) kept kept_now =
      subst (λ (x : Standing). IsLed board.origin.setting (trees_of t) session x requests replies (asked_since p q) gone.steps gone.added (standing t) kept kept_now) first_standing
      (subst (λ (n : ℕ). IsLed board.origin.setting (trees_of t) n (standing s) requests replies (asked_since p q) gone.steps gone.added (standing t) kept kept_now) (sym session_is)
      (subst (λ (b : Identity Entry Head). IsLed b.origin.setting (trees_of t) s.pass.session (standing s) requests replies (asked_since p q) gone.steps gone.added (standing t) kept kept_now) board_here (gone.leads, gone.noted))) in
      let told : IsTold board.origin.setting (trees_of t) session (length board.origin.opening) requests replies (asked_since p q) t.pass.trail (standing t) =
      record {
        first = length s.pass.seen;
        steps = gone.steps;
        added = gone.added;
        met = trail;
        seen = (prefix_length board.origin.opening s.pass.seen opening, omega (arith, long, more));
        leads = led.0;
        entries = ap (λ (n : ℕ). own (λ (e : EntryTree). e.session) (take (last_met t.pass.trail) (trees_of t)) n) (session_is ∙ sym gone.session_is)
            ∙ gone.own_is ∙ ap (λ (xs : List EntryTree). xs ++ gone.added) (first_own none);
      } in
      let both : IsToldAndNoted board.origin.setting (trees_of t) session (length board.origin.opening) requests replies (asked_since p q) (take (length t.pass.trail - 0) t.pass.trail) (standing t) kept kept_now =
      subst (λ (xs : List Item). IsToldAndNoted board.origin.setting (trees_of t) session (length board.origin.opening) requests replies (asked_since p q) xs (standing t) kept kept_now) (whole_trail t.pass.trail) (told, led.1) in
      record {
        served = record {
          requests = requests;
          replies = replies;
          last = standing t;
          ended = ended;
          told = both.0;
          noted = both.1;
          who_is = refl;
        };
        counted = gone.counted;
      }

-- ---- A pass that was met first

module _ (board : Identity Entry Head) (entries : List Entry) (pass q : PassValue Entry Head) (met : HasMet board entries pass q) where
  pub session_here : q.session ≡ pass.session
  session_here = ap (λ (x : PassValue Entry Head). x.session) met.pass_is

  pub seen_here : IsPrefix pass.seen q.seen
  seen_here = subst (λ (es : List Entry). IsPrefix pass.seen es) (sym (ap (λ (x : PassValue Entry Head). x.seen) met.pass_is)) met.met.seen

  pub opening_here : IsPrefix q.board.origin.opening q.seen → IsPrefix board.origin.opening q.seen
  opening_here begins = subst (λ (b : Identity Entry Head). IsPrefix b.origin.opening q.seen) (ap (λ (x : PassValue Entry Head). x.board) met.pass_is) begins
