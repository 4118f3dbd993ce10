-- A snapshot of a case in a session over a shared board, and the turn that comes of it.
use Rattle.std.proofs.Common.{◌≡◌, ◌≢◌, ◌<◌, ◌≤◌, ◌||◌, ◌⊎◌, inl, inr, ℕ, Bool, true, false, List, [], ◌∷◌, ◌++◌, length, nat_lt, option_map, Option, Some, None, refl, sym, ap, ◌∙◌, subst, arith, append_assoc, if◌then◌else◌}
use Rattle.std.specs.List.{All}
use Rattle.std.specs.Option.{IfSome}
use Rattle.std.proofs.lemmas.List.{append-nil, map-append, length-map}
use Rattle.std.proofs.lemmas.List.Elements.{All-append, All-cons, All-nil}
use Rattle.verdict_words.specs.Words.{IsPlace}
use Rattle.nal_rules.specs.Asking.{case_tree}
use Rattle.nal_rules.specs.Verdicts.{CaseTree}
use Rattle.nal_rules.specs.declared.cases.Case.{Case as RawCase}
use Rattle.nal_rules.specs.declared.verdicts.Verdict.{Verdict}
use Rattle.object_table.specs.Objects.{number_of}
use Rattle.proof_store.specs.Cases.{number_of as case_number}
use Rattle.policy_history.specs.declared.events.Entry.{Entry}
use Rattle.policy_history.specs.declared.heads.Head.{Head}
use Rattle.policy_history.specs.Events.{EntryTree, name_of}
use Rattle.session_core.specs.declared.board_session.Admitted.{Admitted}
use Rattle.policy_history.specs.Judged.{case_at}
use Rattle.policy_history.specs.Machine.{replay}
use Rattle.policy_history.specs.States.{State}
use Rattle.policy_history.specs.Values.{entry_trees}
use Rattle.guard_core.specs.declared.findings.GuardError.TheVariants.{Down as DownError, Memory as MemoryError}
use Rattle.guard_core.specs.Judging.{IsBrokenOff, IsJudged, verdict_of}
use Rattle.authority_ask.specs.Panels.{Told as Ask}
use Rattle.session_wire.specs.declared.replies.Reply.{Reply}
use Rattle.session_wire.specs.declared.replies.Reply.TheVariants.{Down, NoMemory, Refused}
use Rattle.session_wire.specs.declared.requests.Request.TheVariants.{Call}
use Rattle.verdict_words.specs.declared.places.CasePlace.{CasePlace}
use Rattle.verdict_words.specs.declared.views.Item.{Item}
use Rattle.verdict_words.specs.declared.views.Item.TheVariants.{Met}
use Rattle.verdict_words.specs.Histories.{IsPrefix, own}
use Rattle.verdict_words.specs.Rule.{last_met}
use Rattle.verdict_words.specs.Values.{Identity, PassValue}
use Rattle.verdict_words.proofs.ForCallers.{last_met_now, met_seen_now as seen_when_met, prefix_length, prefix_through, prefix_whole}
use Rattle.policy_book.specs.Access.{HasMet}
use Rattle.policy_book.specs.Books.{met_at, session_of}
use Rattle.policy_book.specs.Snaps.{IsSnapOf}
use Rattle.session_core.specs.Standing.{Triple, joined, knows, most_known}
use Rattle.session_core.specs.Calls as calling
use Rattle.session_core.specs.Unanswered as unanswered
use Rattle.session_core.specs.Told as told
use Rattle.session_core.specs.Calls.{Calls, IsPlaceIn, IsSeen, Keeps, Misses, Turn, checked, state_at, stepped, verdict_reply}
use Rattle.session_core.specs.Unanswered.{AreAsked, AreAskedInVain}
use Rattle.session_core.specs.Told.{Answers}
use Rattle.session_core.specs.declared.board_session.BoardSession.{BoardSession}
use Rattle.session_core.specs.Inner.Boarding.{AreKnown, HasJoined, IsChecked, IsKnownRow, IsMissed, IsReady, IsSettled, IsTurn, head_of, own_in, standing, stepped_by, trees_of, who_of}
use Rattle.session_core.specs.Inner.Boarding as boarding
use Rattle.session_core.specs.Inner.Knowing.{KnownRow, KnownValue, is_row_of, joined_rows, knows_row, place_among, triples_of}
use Rattle.session_core.proofs.BoardCalls.{keeps_quiet, runs_quiet}
use Rattle.session_core.proofs.BoardHistories.{IsQuiet, first_trees, known_place, known_stay, met_stays, own_stays, own_trees, quiet_both, trees_count, trees_prefix}
use Rattle.session_core.proofs.ToldLaws.{misses_on}

-- who is admitted is a principal, and its name is known
abbrev IsWho : Identity Entry Head → Option Admitted → Type 0
IsWho board who = IfSome who (λ (a : Admitted). (a.number < length board.origin.setting.principals) × (a.name ≡ name_of board.origin.setting.principals a.number))

-- ---- A pass that was met

-- the session's pass was met, and nothing else became of it
pub record IsMetNow (m n : BoardSession) : Type 0 where
  pub seen : IsPrefix m.pass.seen n.pass.seen
  pub knows : IsPrefix m.pass.known n.pass.known
  pub trail : n.pass.trail ≡ m.pass.trail ++ Met (length n.pass.seen) ∷ []
  pub own_is : own_in n.pass ≡ own_in m.pass
  pub session_is : n.pass.session ≡ m.pass.session
  pub board_is : n.pass.board ≡ m.pass.board
  pub admitted_is : n.admitted ≡ m.admitted
  pub known_is : n.known.rows ≡ m.known.rows

pub own_met : (board : Identity Entry Head) (entries : List Entry) (pass q : PassValue Entry Head) → HasMet board entries pass q → own_in q ≡ own_in pass
own_met board entries pass q met =
    ap own_in met.pass_is ∙ own_trees (met_at board entries q.known pass)
    ∙ ap (λ (es : List Entry). entry_trees (own session_of es pass.session)) (seen_when_met (met_at board entries q.known pass) pass.trail refl)
    ∙ ap entry_trees met.met.own_met ∙ sym (own_trees pass)

pub met_now_of : (board : Identity Entry Head) (entries : List Entry) (m : BoardSession) (q : PassValue Entry Head) (k : KnownValue) → HasMet board entries m.pass q → board ≡ m.pass.board
    → k.rows ≡ m.known.rows → IsMetNow m (record { pass = q; admitted = m.admitted; known = k })
met_now_of board entries m q k met same rows =
    let seen : q.seen ≡ entries = ap (λ (x : PassValue Entry Head). x.seen) met.pass_is in
    record {
      seen = subst (λ (es : List Entry). IsPrefix m.pass.seen es) (sym seen) met.met.seen;
      knows = met.knows;
      trail = ap (λ (x : PassValue Entry Head). x.trail) met.pass_is ∙ ap (λ (es : List Entry). m.pass.trail ++ Met (length es) ∷ []) (sym seen);
      own_is = own_met board entries m.pass q met;
      session_is = ap (λ (x : PassValue Entry Head). x.session) met.pass_is;
      board_is = ap (λ (x : PassValue Entry Head). x.board) met.pass_is ∙ same;
      admitted_is = refl;
      known_is = rows;
    }

pub met_ready : (board : Identity Entry Head) (m n : BoardSession) → IsReady board m → IsMetNow m n → IsReady board n
met_ready board m n ready met =
    let last : last_met n.pass.trail ≡ length n.pass.seen = ap last_met met.trail ∙ last_met_now m.pass.trail (length n.pass.seen) in
    let who : who_of m ≡ who_of n = ap (λ (a : Option Admitted). option_map (λ (x : Admitted). x.number) a) (sym met.admitted_is) in
    record {
      board_is = met.board_is ∙ ready.board_is;
      met = omega (arith, last);
      who = subst (IsWho board) (sym met.admitted_is) ready.who;
      known = subst (λ (w : Option ℕ). AreKnown board.origin.setting (trees_of n) w n.known.rows) who
          (subst (λ (rows : List KnownRow). AreKnown board.origin.setting (trees_of n) (who_of m) rows) (sym met.known_is)
          (known_stay board.origin.setting (trees_of m) (trees_of n) (who_of m) m.known.rows (trees_prefix m.pass.seen n.pass.seen met.seen) ready.known));
    }

-- ---- What a session knows, behind a case that joined

joined_with : (b d : Bool) (rows : List KnownRow) (op object : List ℕ) (place : CasePlace)
    → triples_of (if b then rows else (if d then rows ++ record { op = op; object = object; place = place } ∷ [] else rows))
    ≡ (if b then triples_of rows else (if d then triples_of rows ++ (op, object) ∷ [] else triples_of rows))
joined_with true d rows op object place = refl
joined_with false true rows op object place = map-append (λ (row : KnownRow). (row.op, row.object)) rows (record { op = op; object = object; place = place } ∷ [])
joined_with false false rows op object place = refl

pub joined_triples : (rows : List KnownRow) (op object : List ℕ) (place : Option CasePlace) → triples_of (joined_rows rows op object place) ≡ joined (triples_of rows) op object (option_map (λ (q : CasePlace). q.case) place)
joined_triples rows op object None = refl
joined_triples rows op object (Some place) =
    joined_with (knows_row rows op object) (nat_lt (length rows) most_known) rows op object place
    ∙ ap (λ (n : ℕ). if knows_row rows op object then triples_of rows else (if nat_lt n most_known then triples_of rows ++ (op, object) ∷ [] else triples_of rows)) (sym (length-map rows (λ (row : KnownRow). (row.op, row.object))))

all_with_more : (P : KnownRow → Type 0) (b d : Bool) (rows : List KnownRow) (row : KnownRow) → All P rows → P row → All P (if b then rows else (if d then rows ++ row ∷ [] else rows))
all_with_more P true d rows row all one = all
all_with_more P false true rows row all one = All-append P rows (row ∷ []) all (All-cons P row [] one (All-nil P))
all_with_more P false false rows row all one = all

module _ (h : Head) (es : List EntryTree) (p : ℕ) (op object : List ℕ) (k : ℕ) where
  -- the place of a case that was taken is the case's
  taken_place : (number : Option ℕ) (place : CasePlace) → case_number (replay h es).cases p op k ≡ number → number_of (replay h es).objects object ≡ Some k
      → Some place ≡ option_map (λ (n : ℕ). record { case = n; object = k; store = p }) number → IsPlaceIn (replay h es) p op object place
  taken_place None place is object_is place_is = absurd (cc place_is)
  taken_place (Some n) place is object_is place_is =
      let same : record { case = n; object = k; store = p } ≡ place = cc place_is in
      subst (λ (q : CasePlace). IsPlaceIn (replay h es) p op object q) same (record { object_is = object_is; case_is = is; store_is = refl })

  pub joined_known : (at : ℕ) (case : RawCase) (place : Option CasePlace) (rows : List KnownRow) → IsSnapOf h es p op object at case place k → All (IsKnownRow h es p) rows
      → All (IsKnownRow h es p) (joined_rows rows op object place)
  joined_known at case None rows snap all = all
  joined_known at case (Some place) rows snap all =
      all_with_more (IsKnownRow h es p) (knows_row rows op object) (nat_lt (length rows) most_known) rows (record { op = op; object = object; place = place }) all
      (taken_place (case_number (replay h es).cases p op k) place refl snap.object_is snap.place_is, snap.home.0)

  mapped : (number : Option ℕ) → option_map (λ (q : CasePlace). q.case) (option_map (λ (n : ℕ). record { case = n; object = k; store = p }) number) ≡ number
  mapped None = refl
  mapped (Some n) = refl

  pub taken_number : (at : ℕ) (case : RawCase) (place : Option CasePlace) → IsSnapOf h es p op object at case place k → option_map (λ (q : CasePlace). q.case) place ≡ case_number (replay h es).cases p op k
  taken_number at case place snap = ap (option_map (λ (q : CasePlace). q.case)) snap.place_is ∙ mapped (case_number (replay h es).cases p op k)

-- a case that is known is found
found_or : (b : Bool) (place : CasePlace) (rest : Option CasePlace) (others : Bool) → (others ≡ true → (q : CasePlace) × (rest ≡ Some q)) → (b || others) ≡ true
    → (q : CasePlace) × ((if b then Some place else rest) ≡ Some q)
found_or true place rest others later known = (place, refl)
found_or false place rest others later known = later known

pub known_found : (rows : List KnownRow) (op object : List ℕ) → knows_row rows op object ≡ true → (q : CasePlace) × (place_among rows op object ≡ Some q)
known_found [] op object known = absurd (cc known)
known_found (row ∷ rows) op object known = found_or (is_row_of row op object) row.place (place_among rows op object) (knows_row rows op object) (known_found rows op object) known

-- so it has a number, and what is taken of it has a place
pub known_has_place : (board : Identity Entry Head) (n : BoardSession) (p : ℕ) (op object : List ℕ) (at : ℕ) (case : RawCase) (place : Option CasePlace) (k : ℕ) → IsReady board n → who_of n ≡ Some p
    → IsSnapOf board.origin.setting (trees_of n) p op object at case place k → knows_row n.known.rows op object ≡ true → place ≢ None
known_has_place board n p op object at case place k ready who snap known none =
    let h : Head = board.origin.setting in
    let found = known_found n.known.rows op object known in
    let there = known_place h (trees_of n) p op object found.0 (who_of n) n.known.rows who ready.known found.1 in
    let one : Some found.0.object ≡ Some k = sym there.0.object_is ∙ snap.object_is in
    let same : found.0.object ≡ k = cc one in
    let number : case_number (replay h (trees_of n)).cases p op k ≡ Some found.0.case = subst (λ (x : ℕ). case_number (replay h (trees_of n)).cases p op x ≡ Some found.0.case) same there.0.case_is in
    let place_is : place ≡ Some (record { case = found.0.case; object = k; store = p }) = snap.place_is ∙ ap (option_map (λ (x : ℕ). record { case = x; object = k; store = p })) number in
    never (sym none ∙ place_is)
  where
    never : {q : CasePlace} → None ≡ Some q → ⊥
    never same = cc same

-- the place of a case that was taken is one
pub placed : (Home : CasePlace → Type 0) (place : Option CasePlace) → IfSome place (λ (q : CasePlace). IsPlace q × Home q) → IfSome place IsPlace
placed Home None home = home
placed Home (Some q) home = home.0

-- ---- The turn

module _ (p : ℕ) (op object : List ℕ) (arg : ℕ) (s m : BoardSession) (who : who_of s ≡ Some p) (missed : IsMissed p op object s m) where
  -- there was no memory before the snapshot
  pub unsnapped_turn : (k : KnownValue) (asks : List Ask) → k.rows ≡ m.known.rows → asks ≡ [] → IsTurn s (record m { known = k }) asks (Call op object arg) NoMemory
  unsnapped_turn k asks rows none = record {
    turn = stepped (record (standing s) { low = length m.pass.seen }) NoMemory [] missed.steps;
    answers = told.call_given_up p op object arg who refl (unanswered.looked (length m.pass.seen) missed.steps missed.misses refl);
    reply_is = refl;
    asks_are = sym none;
    trail = missed.trail;
    own_is = missed.own_is ∙ sym (append-nil (own_in s.pass));
    after = λ i. record { who = sym missed.who_is i; low = length m.pass.seen; known = triples_of (sym (rows ∙ missed.known_is) i) };
    seen = missed.seen;
    knows = missed.knows;
    session_is = missed.session_is;
    board_is = missed.board_is;
  }

  module _ (n : BoardSession) (met : IsMetNow m n) where
    met_who : who_of n ≡ who_of s
    met_who = ap (λ (a : Option Admitted). option_map (λ (x : Admitted). x.number) a) met.admitted_is ∙ missed.who_is

    met_rows : n.known.rows ≡ s.known.rows
    met_rows = met.known_is ∙ missed.known_is

    met_trail : n.pass.trail ≡ s.pass.trail ++ (missed.steps ++ Met (length n.pass.seen) ∷ [])
    met_trail = met.trail ∙ ap (λ (xs : List Item). xs ++ Met (length n.pass.seen) ∷ []) missed.trail ∙ append_assoc s.pass.trail missed.steps (Met (length n.pass.seen) ∷ [])

    met_prefix : IsPrefix s.pass.seen n.pass.seen
    met_prefix = prefix_through s.pass.seen m.pass.seen n.pass.seen missed.seen met.seen

    met_knows : IsPrefix s.pass.known n.pass.known
    met_knows = prefix_through s.pass.known m.pass.known n.pass.known missed.knows met.knows

    met_own : own_in n.pass ≡ own_in s.pass
    met_own = met.own_is ∙ missed.own_is

    met_board : n.pass.board ≡ s.pass.board
    met_board = met.board_is ∙ missed.board_is

    met_session : n.pass.session ≡ s.pass.session
    met_session = met.session_is ∙ missed.session_is

    met_seen_now : IsSeen (trees_of n) (length m.pass.seen) (length n.pass.seen)
    met_seen_now = let long = trees_count n.pass.seen in (prefix_length m.pass.seen n.pass.seen met.seen, omega (arith, long))

    met_misses : Misses (head_of s) (trees_of n) (standing s) p op object (length m.pass.seen) missed.steps
    met_misses =
        let grown = trees_prefix m.pass.seen n.pass.seen met.seen in
        subst (λ (es : List EntryTree). Misses (head_of s) es (standing s) p op object (length m.pass.seen) missed.steps) (sym grown.1) (misses_on grown.0 missed.misses)

    -- the state that was met
    met_state : replay (head_of n) (trees_of n) ≡ state_at (head_of s) (trees_of n) (length n.pass.seen)
    met_state =
        ap (λ (b : Identity Entry Head). replay b.origin.setting (trees_of n)) met_board
        ∙ ap (replay (head_of s)) (sym (first_trees n.pass.seen n.pass.seen (length n.pass.seen) refl (prefix_whole n.pass.seen)))

    -- a turn behind the snapshot that leaves all as it was
    turn_at : (reply : Reply) (asks : List Ask)
        → Answers (head_of s) (trees_of n) s.pass.session (standing s) (Call op object arg) (stepped (record (standing s) { low = length n.pass.seen }) reply asks (missed.steps ++ Met (length n.pass.seen) ∷ []))
        → IsTurn s n asks (Call op object arg) reply
    turn_at reply asks answers = record {
      turn = stepped (record (standing s) { low = length n.pass.seen }) reply asks (missed.steps ++ Met (length n.pass.seen) ∷ []);
      answers = answers;
      reply_is = refl;
      asks_are = refl;
      trail = met_trail;
      own_is = met_own ∙ sym (append-nil (own_in s.pass));
      after = λ i. record { who = sym met_who i; low = length n.pass.seen; known = triples_of (sym met_rows i) };
      seen = met_prefix;
      knows = met_knows;
      session_is = met_session;
      board_is = met_board;
    }

    -- there was no memory behind it
    pub given_up_turn : (asks : List Ask) → AreAskedInVain (head_of s) (state_at (head_of s) (trees_of n) (length n.pass.seen)) p op object asks → IsTurn s n asks (Call op object arg) NoMemory
    given_up_turn asks asked =
        turn_at NoMemory asks (told.call_given_up p op object arg who refl (unanswered.met (length m.pass.seen) (length n.pass.seen) missed.steps met_misses met_seen_now asked refl))

    pub unasked_turn : (asks : List Ask) → asks ≡ [] → IsTurn s n asks (Call op object arg) NoMemory
    unasked_turn asks none = given_up_turn asks (inl none)

    -- the record of the call could not be sent
    cut_turn : (asks : List Ask) → AreAsked (head_of s) (state_at (head_of s) (trees_of n) (length n.pass.seen)) p op object asks → IsTurn s n asks (Call op object arg) (Refused (length n.pass.seen) 20)
    cut_turn asks asked =
        turn_at (Refused (length n.pass.seen) 20) asks (told.call_unrecorded p op object arg who refl (unanswered.snap_unrecorded (length m.pass.seen) (length n.pass.seen) missed.steps met_misses met_seen_now asked refl))

    cut_object_turn : (at : ℕ) (asks : List Ask) → asks ≡ [] → at ≡ length (trees_of n) → number_of (replay (head_of n) (trees_of n)).objects object ≡ None → IsTurn s n asks (Call op object arg) (Refused at 20)
    cut_object_turn at asks none at_is no_object =
        subst (λ (x : ℕ). IsTurn s n asks (Call op object arg) (Refused x 20)) (sym (at_is ∙ trees_count n.pass.seen))
        (cut_turn asks (unanswered.asked_nobody (subst (λ (st : State). number_of st.objects object ≡ None) met_state no_object) none))

    -- no object has the name
    no_object_turn : (at : ℕ) (asks : List Ask) → asks ≡ [] → at ≡ length (trees_of n) → number_of (replay (head_of n) (trees_of n)).objects object ≡ None → IsTurn s n asks (Call op object arg) (Refused at 8)
    no_object_turn at asks none at_is no_object =
        subst (λ (xs : List Ask). IsTurn s n xs (Call op object arg) (Refused at 8)) (sym none)
        (subst (λ (x : ℕ). IsTurn s n [] (Call op object arg) (Refused x 8)) (sym (at_is ∙ trees_count n.pass.seen))
        (turn_at (Refused (length n.pass.seen) 8) [] (told.call p op object arg who refl
        (calling.snapped (length m.pass.seen) (length n.pass.seen) missed.steps met_misses met_seen_now
        (calling.no_object (subst (λ (st : State). number_of st.objects object ≡ None) met_state no_object) refl)))))

    -- either way
    pub none_turn : (at : ℕ) (asks : List Ask) → asks ≡ [] → at ≡ length (trees_of n) → number_of (replay (head_of n) (trees_of n)).objects object ≡ None → (reply : Reply)
        → (reply ≡ Refused at 8) ⊎ (reply ≡ Refused at 20) → IsTurn s n asks (Call op object arg) reply
    none_turn at asks none at_is no_object reply (inl is) = subst (λ (r : Reply). IsTurn s n asks (Call op object arg) r) (sym is) (no_object_turn at asks none at_is no_object)
    none_turn at asks none at_is no_object reply (inr is) = subst (λ (r : Reply). IsTurn s n asks (Call op object arg) r) (sym is) (cut_object_turn at asks none at_is no_object)

    module _ (k : ℕ) (at : ℕ) (case : RawCase) (place : Option CasePlace) (snap : IsSnapOf (head_of n) (trees_of n) p op object at case place k) where
      abbrev st : State
      st = state_at (head_of s) (trees_of n) (length n.pass.seen)

      object_there : number_of st.objects object ≡ Some k
      object_there = subst (λ (x : State). number_of x.objects object ≡ Some k) met_state snap.object_is

      case_there : case_tree case ≡ case_at (head_of s) st p op k
      case_there = snap.case_is ∙ (λ i. case_at (met_board i).origin.setting (met_state i) p op k)

      number_there : option_map (λ (q : CasePlace). q.case) place ≡ case_number st.cases p op k
      number_there = taken_number (head_of n) (trees_of n) p op object k at case place snap ∙ ap (λ (x : State). case_number x.cases p op k) met_state

      module _ (t : BoardSession) (steps : List Item) (joined_now : HasJoined op object place n t steps) where
        join_seen : t.pass.seen ≡ n.pass.seen
        join_seen = ap (λ (x : PassValue Entry Head). x.seen) joined_now.pass_is

        join_triples : triples_of t.known.rows ≡ joined (triples_of s.known.rows) op object (case_number st.cases p op k)
        join_triples =
            ap triples_of joined_now.known_is ∙ joined_triples n.known.rows op object place
            ∙ (λ i. joined (triples_of (met_rows i)) op object (number_there i))

        join_who : who_of t ≡ who_of s
        join_who = ap (λ (a : Option Admitted). option_map (λ (x : Admitted). x.number) a) joined_now.admitted_is ∙ met_who

        join_after : checked st (standing s) (length n.pass.seen) p op object k ≡ standing t
        join_after = λ i. record { who = sym join_who i; low = length (sym join_seen i); known = sym join_triples i }

        join_trail : t.pass.trail ≡ s.pass.trail ++ (missed.steps ++ Met (length n.pass.seen) ∷ steps)
        join_trail =
            ap (λ (x : PassValue Entry Head). x.trail) joined_now.pass_is ∙ ap (λ (xs : List Item). xs ++ steps) met_trail
            ∙ append_assoc s.pass.trail (missed.steps ++ Met (length n.pass.seen) ∷ []) steps
            ∙ ap (λ (xs : List Item). s.pass.trail ++ xs) (append_assoc missed.steps (Met (length n.pass.seen) ∷ []) steps)

        join_session : t.pass.session ≡ n.pass.session
        join_session = ap (λ (x : PassValue Entry Head). x.session) joined_now.pass_is

        join_board : t.pass.board ≡ n.pass.board
        join_board = ap (λ (x : PassValue Entry Head). x.board) joined_now.pass_is

        join_prefix : IsPrefix n.pass.seen t.pass.seen
        join_prefix = subst (λ (es : List Entry). IsPrefix n.pass.seen es) (sym join_seen) (prefix_whole n.pass.seen)

        join_last : IsQuiet steps → last_met t.pass.trail ≡ last_met n.pass.trail
        join_last quiet = ap (λ (x : PassValue Entry Head). last_met x.trail) joined_now.pass_is ∙ met_stays n.pass.trail steps quiet

        join_turn : (reply : Reply) (asks : List Ask) → IsQuiet steps → last_met n.pass.trail ≤ length n.pass.seen
            → Answers (head_of s) (trees_of n) s.pass.session (standing s) (Call op object arg) (stepped (checked st (standing s) (length n.pass.seen) p op object k) reply asks (missed.steps ++ Met (length n.pass.seen) ∷ steps))
            → IsTurn s t asks (Call op object arg) reply
        join_turn reply asks quiet within answers =
            let turn : Turn = stepped (checked st (standing s) (length n.pass.seen) p op object k) reply asks (missed.steps ++ Met (length n.pass.seen) ∷ steps) in
            record {
              turn = turn;
              answers = subst (λ (es : List Entry). Answers (head_of s) (entry_trees es) s.pass.session (standing s) (Call op object arg) turn) (sym join_seen) answers;
              reply_is = refl;
              asks_are = refl;
              trail = join_trail;
              own_is = own_stays n.pass t.pass join_prefix join_session (join_last quiet) within ∙ met_own ∙ sym (append-nil (own_in s.pass));
              after = join_after;
              seen = prefix_through s.pass.seen n.pass.seen t.pass.seen met_prefix join_prefix;
              knows = prefix_through s.pass.known n.pass.known t.pass.known met_knows joined_now.knows;
              session_is = join_session ∙ met_session;
              board_is = join_board ∙ met_board;
            }

      met_last : last_met n.pass.trail ≤ length n.pass.seen
      met_last = let last : last_met n.pass.trail ≡ length n.pass.seen = ap last_met met.trail ∙ last_met_now m.pass.trail (length n.pass.seen) in omega (arith, last)

      same_knows : (t : BoardSession) (steps : List Item) → HasJoined op object place n t steps
          → knows_row t.known.rows op object ≡ knows (checked st (standing s) (length n.pass.seen) p op object k).known op object
      same_knows t steps joined_now = ap (λ (xs : List Triple). knows xs op object) (join_triples t steps joined_now)

      keeps_as : {b d : Bool} (verdict : Verdict) (kept : List Item) → b ≡ d → Keeps b (length n.pass.seen) (option_map (λ (q : CasePlace). q.case) place) (case_tree case) verdict kept
          → Keeps d (length n.pass.seen) (case_number st.cases p op k) (case_at (head_of s) st p op k) verdict kept
      keeps_as {b} {d} verdict kept same keeps =
          subst (λ (x : Bool). Keeps x (length n.pass.seen) (case_number st.cases p op k) (case_at (head_of s) st p op k) verdict kept) same
          (subst (λ (x : CaseTree). Keeps b (length n.pass.seen) (case_number st.cases p op k) x verdict kept) case_there
          (subst (λ (x : Option ℕ). Keeps b (length n.pass.seen) x (case_tree case) verdict kept) number_there keeps))

      -- the case was judged, or the guard broke off
      pub checked_turn : (t : BoardSession) (asks : List Ask) (reply : Reply) → IsChecked p op object arg k place (case_tree case) n t asks reply → IsTurn s t asks (Call op object arg) reply
      checked_turn t asks reply (boarding.judged value finding kept ran judged keeps runs joined_now is) =
          let keeps_here : Keeps (knows (checked st (standing s) (length n.pass.seen) p op object k).known op object) (length n.pass.seen) (case_number st.cases p op k) (case_at (head_of s) st p op k) (verdict_of finding) kept =
          keeps_as (verdict_of finding) kept (same_knows t (kept ++ ran) joined_now) keeps in
          subst (λ (r : Reply). IsTurn s t asks (Call op object arg) r) (sym is)
          (join_turn t (kept ++ ran) joined_now (verdict_reply (length n.pass.seen) 0 value (verdict_of finding)) asks
          (quiet_both kept ran (keeps_quiet _ _ _ _ _ kept keeps) (runs_quiet _ _ _ _ _ ran runs)) met_last
          (told.call p op object arg who refl (calling.snapped (length m.pass.seen) (length n.pass.seen) missed.steps met_misses met_seen_now
          (calling.judged k value finding kept ran object_there (subst (λ (x : CaseTree). IsJudged x asks finding) case_there judged) keeps_here runs refl))))
      checked_turn t asks reply (boarding.down line broken joined_now is) =
          subst (λ (r : Reply). IsTurn s t asks (Call op object arg) r) (sym is)
          (join_turn t [] joined_now (Down (length n.pass.seen) line) asks (λ x. refl) met_last
          (told.call p op object arg who refl (calling.snapped (length m.pass.seen) (length n.pass.seen) missed.steps met_misses met_seen_now
          (calling.down k line object_there (subst (λ (x : CaseTree). IsBrokenOff x asks (DownError line)) case_there broken) refl))))
      checked_turn t asks reply (boarding.no_memory broken same is) =
          subst (λ (r : Reply). IsTurn s t asks (Call op object arg) r) (sym is)
          (subst (λ (x : BoardSession). IsTurn s x asks (Call op object arg) NoMemory) (sym same)
          (given_up_turn asks (inr (k, object_there, subst (λ (x : CaseTree). IsBrokenOff x asks MemoryError) case_there broken))))
      checked_turn t asks reply (boarding.unrecorded settled same is) =
          subst (λ (r : Reply). IsTurn s t asks (Call op object arg) r) (sym is)
          (subst (λ (x : BoardSession). IsTurn s x asks (Call op object arg) (Refused (length n.pass.seen) 20)) (sym same) (cut_turn asks (asked_so settled)))
        where
          asked_so : IsSettled (case_tree case) asks → AreAsked (head_of s) st p op object asks
          asked_so (boarding.settled_judged finding judged) = unanswered.asked_all k finding object_there (subst (λ (x : CaseTree). IsJudged x asks finding) case_there judged)
          asked_so (boarding.settled_down line broken) = unanswered.asked_to_down k line object_there (subst (λ (x : CaseTree). IsBrokenOff x asks (DownError line)) case_there broken)

-- ---- It can answer again

pub joined_ready : (board : Identity Entry Head) (n t : BoardSession) (p : ℕ) (op object : List ℕ) (at : ℕ) (case : RawCase) (place : Option CasePlace) (k : ℕ) (steps : List Item) → IsReady board n → who_of n ≡ Some p
    → IsSnapOf board.origin.setting (trees_of n) p op object at case place k → HasJoined op object place n t steps → IsQuiet steps → IsReady board t
joined_ready board n t p op object at case place k steps ready who snap joined_now quiet =
    let seen : t.pass.seen ≡ n.pass.seen = ap (λ (x : PassValue Entry Head). x.seen) joined_now.pass_is in
    let last : last_met t.pass.trail ≡ last_met n.pass.trail = ap (λ (x : PassValue Entry Head). last_met x.trail) joined_now.pass_is ∙ met_stays n.pass.trail steps quiet in
    let before = ready.met in
    let count = ap length seen in
    let who_is : Some p ≡ who_of t = sym who ∙ ap (λ (a : Option Admitted). option_map (λ (x : Admitted). x.number) a) (sym joined_now.admitted_is) in
    let known : AreKnown board.origin.setting (trees_of n) (Some p) n.known.rows = subst (λ (w : Option ℕ). AreKnown board.origin.setting (trees_of n) w n.known.rows) who ready.known in
    record {
      board_is = ap (λ (x : PassValue Entry Head). x.board) joined_now.pass_is ∙ ready.board_is;
      met = omega (arith, last, before, count);
      who = subst (IsWho board) (sym joined_now.admitted_is) ready.who;
      known = subst (λ (w : Option ℕ). AreKnown board.origin.setting (trees_of t) w t.known.rows) who_is
          (subst (λ (rows : List KnownRow). AreKnown board.origin.setting (trees_of t) (Some p) rows) (sym joined_now.known_is)
          (subst (λ (es : List Entry). AreKnown board.origin.setting (entry_trees es) (Some p) (joined_rows n.known.rows op object place)) (sym seen)
          (joined_known board.origin.setting (trees_of n) p op object k at case place n.known.rows snap known)));
    }

pub checked_ready : (board : Identity Entry Head) (n t : BoardSession) (p : ℕ) (op object : List ℕ) (arg at : ℕ) (case : RawCase) (place : Option CasePlace) (k : ℕ) (asks : List Ask) (reply : Reply) → IsReady board n → who_of n ≡ Some p
    → IsSnapOf board.origin.setting (trees_of n) p op object at case place k → IsChecked p op object arg k place (case_tree case) n t asks reply → IsReady board t
checked_ready board n t p op object arg at case place k asks reply ready who snap (boarding.judged value finding kept ran judged keeps runs joined_now is) =
    joined_ready board n t p op object at case place k (kept ++ ran) ready who snap joined_now (quiet_both kept ran (keeps_quiet _ _ _ _ _ kept keeps) (runs_quiet _ _ _ _ _ ran runs))
checked_ready board n t p op object arg at case place k asks reply ready who snap (boarding.down line broken joined_now is) =
    joined_ready board n t p op object at case place k [] ready who snap joined_now (λ x. refl)
checked_ready board n t p op object arg at case place k asks reply ready who snap (boarding.no_memory broken same is) = subst (IsReady board) (sym same) ready
checked_ready board n t p op object arg at case place k asks reply ready who snap (boarding.unrecorded settled same is) = subst (IsReady board) (sym same) ready

-- ---- What was taken of a case, by the pass that was met

module _ (board : Identity Entry Head) (entries : List Entry) (pass q : PassValue Entry Head) (met : HasMet board entries pass q) where
  seen_entries : entries ≡ q.seen
  seen_entries = sym (ap (λ (x : PassValue Entry Head). x.seen) met.pass_is)

  seen_board : board ≡ q.board
  seen_board = sym (ap (λ (x : PassValue Entry Head). x.board) met.pass_is)

  pub snap_board : (p : ℕ) (op object given : List ℕ) (at : ℕ) (case : RawCase) (place : Option CasePlace) (k : ℕ) → given ≡ object → IsSnapOf board.origin.setting (entry_trees entries) p op object at case place k
      → IsSnapOf board.origin.setting (entry_trees q.seen) p op given at case place k
  snap_board p op object given at case place k same snap =
      subst (λ (x : List ℕ). IsSnapOf board.origin.setting (entry_trees q.seen) p op x at case place k) (sym same)
      (subst (λ (es : List Entry). IsSnapOf board.origin.setting (entry_trees es) p op object at case place k) seen_entries snap)

  pub snap_here : (p : ℕ) (op object given : List ℕ) (at : ℕ) (case : RawCase) (place : Option CasePlace) (k : ℕ) → given ≡ object → IsSnapOf board.origin.setting (entry_trees entries) p op object at case place k
      → IsSnapOf q.board.origin.setting (entry_trees q.seen) p op given at case place k
  snap_here p op object given at case place k same snap =
      subst (λ (b : Identity Entry Head). IsSnapOf b.origin.setting (entry_trees q.seen) p op given at case place k) seen_board (snap_board p op object given at case place k same snap)

  pub none_here : (object : List ℕ) (at : ℕ) → (at ≡ length (entry_trees entries)) × (number_of (replay board.origin.setting (entry_trees entries)).objects object ≡ None)
      → (at ≡ length (entry_trees q.seen)) × (number_of (replay q.board.origin.setting (entry_trees q.seen)).objects object ≡ None)
  none_here object at none = (
    none.0 ∙ ap (λ (es : List Entry). length (entry_trees es)) seen_entries,
    subst (λ (b : Identity Entry Head). number_of (replay b.origin.setting (entry_trees q.seen)).objects object ≡ None) seen_board
        (subst (λ (es : List Entry). number_of (replay board.origin.setting (entry_trees es)).objects object ≡ None) seen_entries none.1),
  )

pub checked_as : {p : ℕ} {op given object : List ℕ} {arg k : ℕ} {place : Option CasePlace} {c : CaseTree} {n t : BoardSession} {asks : List Ask} {reply : Reply}
    → given ≡ object → IsChecked p op given arg k place c n t asks reply → IsChecked p op object arg k place c n t asks reply
checked_as {p} {op} {arg = arg} {k} {place} {c} {n} {t} {asks} {reply} same checked = subst (λ (x : List ℕ). IsChecked p op x arg k place c n t asks reply) same checked
