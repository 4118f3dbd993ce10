-- The turns of a session over a shared board that are no call's: hellos, changes, and what is given up.
use Rattle.std.proofs.Common.{◌≡◌, ◌≢◌, ◌+◌, ◌<◌, ◌≤◌, ◌⊎◌, inl, inr, ℕ, List, [], ◌∷◌, ◌++◌, length, option_map, Option, Some, None, refl, sym, ap, ◌∙◌, subst, arith, append_assoc}
use Rattle.std.specs.Prelude.{slice_get, Result, Ok, Err, IsOk}
use Rattle.std.proofs.lemmas.List.{append-nil, length-append, map-append}
use Rattle.policy_history.specs.declared.events.Due.{Due}
use Rattle.policy_history.specs.declared.events.Entry.{Entry}
use Rattle.policy_history.specs.declared.events.Event.{Event}
use Rattle.policy_history.specs.declared.events.Refusal.{Refusal}
use Rattle.policy_history.specs.declared.events.Refusal.TheVariants.{NoSuchPrincipal, NotYourPrincipal, NoSuchLabel, NotHolder, NoSuchObject, NameTaken, NotOwner, NoGoal, NoSuchProof, NoBinding, BadPort, BadFormula, BadProof, Quota, JournalFull, ObjectsFull, CasesFull, NotRecorded}
use Rattle.policy_history.specs.declared.heads.Head.{Head}
use Rattle.policy_history.specs.declared.heads.Principal.{Principal}
use Rattle.policy_history.specs.PolicyLines.{entry_line}
use Rattle.policy_history.specs.PolicyTexts.{IsSpelledWhole}
use Rattle.nal_term.specs.TreeKeys.{same_bytes, same_bytes-Decides}
use Rattle.std.proofs.Common.{◌&&◌, get_or, unwrap_or}
use Rattle.std.proofs.lemmas.List.Elements.{All-nil}
use Rattle.std.proofs.lemmas.List.Quantifiers.{position-Some}
use Rattle.std.proofs.lemmas.Option.{slice_get-get_or}
use Rattle.policy_history.specs.Events.{EntryTree, EventTree, admitted, entry_tree, event_tree, name_of}
use Rattle.policy_history.specs.Laws.{refusal_number}
use Rattle.policy_history.specs.Machine.{replay}
use Rattle.policy_history.specs.Values.{decision, entry_trees}
use Rattle.authority_ask.specs.Panels.{Told as Ask}
use Rattle.session_wire.specs.Answers.{WantsMemory}
use Rattle.session_wire.specs.declared.requests.Request.{Request}
use Rattle.session_wire.specs.declared.requests.Request.TheVariants.{Call, Hello, See}
use Rattle.session_wire.specs.declared.replies.Reply.{Reply}
use Rattle.session_wire.specs.declared.replies.Reply.TheVariants.{NoMemory, Refused as RefusedReply, Done as DoneReply, Welcome, Seen}
use Rattle.journal_text.specs.RequestEvents.{IsEventOf}
use Rattle.verdict_words.specs.declared.views.Item.{Item}
use Rattle.verdict_words.specs.declared.views.Item.TheVariants.{Met}
use Rattle.verdict_words.specs.Histories.{IsPrefix, own}
use Rattle.verdict_words.specs.Rule.{last_met}
use Rattle.verdict_words.specs.Values.{Identity, PassValue}
use Rattle.verdict_words.specs.declared.views.AtomicStep.{AtomicStep}
use Rattle.verdict_words.proofs.ForCallers.{last_met_now, met_seen_now, own_snoc, prefix_length, prefix_grows, prefix_whole}
use Rattle.policy_book.specs.Access.{HasMet, HasMetTwice, IsAnswered, unrecorded_by}
use Rattle.policy_book.specs.Books.{IsMetAt, decided_at, met_at, session_of}
use Rattle.policy_book.specs.Writes.{IsLineFor}
use Rattle.policy_book.specs.declared.writing.Written.{Written}
use Rattle.policy_book.specs.declared.writing.Written.TheVariants as written
use Rattle.session_core.specs.Answers.{greeted}
use Rattle.session_core.specs.Records.{IsNotRecorded}
use Rattle.session_core.specs.Served.{AreCounted}
use Rattle.session_core.specs.Unanswered as unanswered
use Rattle.session_core.specs.Changes as changing
use Rattle.session_core.specs.Told as told
use Rattle.session_core.specs.Calls.{IsSeen, Turn, plain, state_at, stepped}
use Rattle.session_core.specs.Changes.{Meets}
use Rattle.session_core.specs.Told.{Answers}
use Rattle.session_core.specs.declared.board_session.Admitted.{Admitted}
use Rattle.session_core.specs.declared.board_session.BoardSession.{BoardSession}
use Rattle.session_core.specs.Inner.Boarding.{AreKnown, IsKnownRow, IsReady, IsTurn, head_of, own_in, reply_of, standing, trees_of, who_of}
use Rattle.session_core.specs.Inner.Knowing.{KnownRow}
use Rattle.session_core.specs.Inner.Steps.{IsHello}
use Rattle.session_core.proofs.BoardHistories.{both_same, first_trees, known_stay, own_trees, trees_count, trees_prefix}

-- ---- Only a reply

-- a turn that leaves the session as it was
still_turn : (s : BoardSession) (request : Request) (reply : Reply) → Answers (head_of s) (trees_of s) s.pass.session (standing s) request (plain (standing s) reply) → IsTurn s s [] request reply
still_turn s request reply answers = record {
  turn = plain (standing s) reply;
  answers = answers;
  reply_is = refl;
  asks_are = refl;
  trail = sym (append-nil s.pass.trail);
  own_is = sym (append-nil (own_in s.pass));
  after = refl;
  seen = prefix_whole s.pass.seen;
  knows = prefix_whole s.pass.known;
  session_is = refl;
  board_is = refl;
}

pub given_up_any : (s : BoardSession) (request : Request) → WantsMemory request → IsTurn s s [] request NoMemory
given_up_any s request wants = still_turn s request NoMemory (told.given_up wants refl)

pub early_any : (s : BoardSession) (request : Request) (at : ℕ) → who_of s ≡ None → ((name secret : List ℕ) → request ≢ Hello name secret) → at ≡ length s.pass.seen → IsTurn s s [] request (RefusedReply at 1)
early_any s request at nobody other at_is =
    subst (λ (n : ℕ). IsTurn s s [] request (RefusedReply n 1)) (sym at_is) (still_turn s request (RefusedReply (length s.pass.seen) 1) (told.early nobody other refl))

-- a call behind one whose record was cut off
pub later_unrecorded : (s : BoardSession) (p : ℕ) (op object : List ℕ) (arg at : ℕ) (asks : List Ask) → who_of s ≡ Some p → at ≡ length s.pass.seen → asks ≡ [] → IsTurn s s asks (Call op object arg) (RefusedReply at 20)
later_unrecorded s p op object arg at asks who at_is none =
    subst (λ (xs : List Ask). IsTurn s s xs (Call op object arg) (RefusedReply at 20)) (sym none)
    (subst (λ (n : ℕ). IsTurn s s [] (Call op object arg) (RefusedReply n 20)) (sym at_is)
    (still_turn s (Call op object arg) (RefusedReply (length s.pass.seen) 20) (told.call_unrecorded p op object arg who refl (unanswered.later_unrecorded refl))))

not_hello : (op object : List ℕ) (arg : ℕ) (name secret : List ℕ) → Call op object arg ≢ Hello name secret
not_hello op object arg name secret same = cc same

pub early_call : (s : BoardSession) (op object : List ℕ) (arg at : ℕ) (asks : List Ask) → who_of s ≡ None → at ≡ length s.pass.seen → asks ≡ [] → IsTurn s s asks (Call op object arg) (RefusedReply at 1)
early_call s op object arg at asks nobody at_is none =
    subst (λ (xs : List Ask). IsTurn s s xs (Call op object arg) (RefusedReply at 1)) (sym none) (early_any s (Call op object arg) at nobody (not_hello op object arg) at_is)

no_such : (request : Request) → ¬ IsHello request → (name secret : List ℕ) → request ≢ Hello name secret
no_such request other name secret same = other (subst IsHello (sym same) tt)

pub early_change : (s : BoardSession) (request : Request) (at : ℕ) → who_of s ≡ None → ¬ IsHello request → at ≡ length s.pass.seen → IsTurn s s [] request (RefusedReply at 1)
early_change s request at nobody other at_is = early_any s request at nobody (no_such request other) at_is

-- ---- Hellos

module _ (s : BoardSession) (name secret : List ℕ) where
  -- what a session whose who is this is greeted
  hello_turn : (who : Option ℕ) (got : Option ℕ) → who_of s ≡ who → admitted (head_of s).principals name secret ≡ got
      → Answers (head_of s) (trees_of s) s.pass.session (standing s) (Hello name secret)
      (plain (record (standing s) { who = (greeted (length s.pass.seen) s.pass.session who got).who }) (greeted (length s.pass.seen) s.pass.session who got).reply)
  hello_turn who got who_is got_is = told.hello name secret (greeted (length s.pass.seen) s.pass.session who got) refl (λ i. greeted (length s.pass.seen) s.pass.session (sym who_is i) (sym got_is i)) refl

  pub again_turn : (p : ℕ) (at : ℕ) → who_of s ≡ Some p → at ≡ length s.pass.seen → IsTurn s s [] (Hello name secret) (RefusedReply at 2)
  again_turn p at who_is at_is =
      subst (λ (n : ℕ). IsTurn s s [] (Hello name secret) (RefusedReply n 2)) (sym at_is)
      (still_turn s (Hello name secret) (RefusedReply (length s.pass.seen) 2)
      (subst (λ (w : Option ℕ). Answers (head_of s) (trees_of s) s.pass.session (standing s) (Hello name secret) (plain (record (standing s) { who = w }) (RefusedReply (length s.pass.seen) 2))) (sym who_is)
      (hello_turn (Some p) (admitted (head_of s).principals name secret) who_is refl)))

  pub unknown_turn : (at : ℕ) → who_of s ≡ None → admitted (head_of s).principals name secret ≡ None → at ≡ length s.pass.seen → IsTurn s s [] (Hello name secret) (RefusedReply at 3)
  unknown_turn at who_is none at_is =
      subst (λ (n : ℕ). IsTurn s s [] (Hello name secret) (RefusedReply n 3)) (sym at_is)
      (still_turn s (Hello name secret) (RefusedReply (length s.pass.seen) 3)
      (subst (λ (w : Option ℕ). Answers (head_of s) (trees_of s) s.pass.session (standing s) (Hello name secret) (plain (record (standing s) { who = w }) (RefusedReply (length s.pass.seen) 3))) (sym who_is)
      (hello_turn None None who_is none)))

  pub welcome_turn : (p at session : ℕ) (a : Admitted) → who_of s ≡ None → admitted (head_of s).principals name secret ≡ Some p → a.number ≡ p → at ≡ length s.pass.seen → session ≡ s.pass.session
      → IsTurn s (record s { admitted = Some a }) [] (Hello name secret) (Welcome session at)
  welcome_turn p at session a who_is found_is number at_is session_is = record {
    turn = plain (record (standing s) { who = Some p }) (Welcome s.pass.session (length s.pass.seen));
    answers = hello_turn None (Some p) who_is found_is;
    reply_is = λ i. Welcome (sym session_is i) (sym at_is i);
    asks_are = refl;
    trail = sym (append-nil s.pass.trail);
    own_is = sym (append-nil (own_in s.pass));
    after = λ i. record (standing s) { who = Some (sym number i) };
    seen = prefix_whole s.pass.seen;
    knows = prefix_whole s.pass.known;
    session_is = refl;
    board_is = refl;
  }

-- ---- Changes

slice_get_end : (xs : List EntryTree) (x : EntryTree) → slice_get (xs ++ x ∷ []) (length xs) ≡ Some x
slice_get_end [] x = refl
slice_get_end (y ∷ xs) x = slice_get_end xs x

ok_due : (r : Result Due Refusal) → IsOk r → (due : Due) × (r ≡ Ok due)
ok_due (Ok due) ok = (due, refl)
ok_due (Err refusal) ok = absurd (cc ok)

-- the entries of its own that a session knows, behind a pass that was met
own_behind : (board : Identity Entry Head) (entries : List Entry) (known : List AtomicStep) (pass : PassValue Entry Head) → own_in (met_at board entries known pass) ≡ entry_trees (own session_of entries pass.session)
own_behind board entries known pass =
    own_trees (met_at board entries known pass) ∙ ap (λ (es : List Entry). entry_trees (own session_of es pass.session)) (met_seen_now (met_at board entries known pass) pass.trail refl)

module _ (s : BoardSession) (q : PassValue Entry Head) (p : ℕ) (event : Event) (request : Request) (who : who_of s ≡ Some p) (is_event : IsEventOf request (event_tree event)) where
  abbrev board : Identity Entry Head
  board = s.pass.board

  abbrev mine : Entry
  mine = record { session = s.pass.session; principal = p; event = event }

  -- a request for a change wants memory
  event_wants : WantsMemory request
  event_wants k same = subst (λ (r : Request). IsEventOf r (event_tree event)) same is_event

  -- a change that is decided where the history ends so
  decided_then : (entries later : List Entry) → IsPrefix entries later
      → decided_at board entries s.pass.session p event ≡ decision (head_of s) (state_at (head_of s) (entry_trees later) (length entries)) s.pass.session p (event_tree event)
  decided_then entries later prefix =
      ap (λ (es : List EntryTree). decision (head_of s) (replay (head_of s) es) s.pass.session p (event_tree event)) (sym (first_trees entries later (length entries) refl prefix))

  seen_at : (entries later : List Entry) → IsPrefix entries later → IsPrefix s.pass.seen entries → IsSeen (entry_trees later) (length s.pass.seen) (length entries)
  seen_at entries later prefix seen =
      let long = prefix_length entries later prefix in
      let count = trees_count later in
      (prefix_length s.pass.seen entries seen, omega (arith, long, count))

  -- the pass was met once or twice where the history ends so, by these steps, the last time as it was at `base`
  record IsMetBy (entries : List Entry) (steps : List Item) : Type 0 where
    base : PassValue Entry Head
    next : ℕ
    meets : Meets (length entries) steps
    met : IsMetAt board next entries s.pass
    pass_is : q ≡ met_at board entries q.known base
    trail_is : base.trail ++ Met (length entries) ∷ [] ≡ s.pass.trail ++ steps
    session_is : base.session ≡ s.pass.session
    knows : IsPrefix s.pass.known q.known

  met_once : (entries : List Entry) → HasMet board entries s.pass q → IsMetBy entries (Met (length entries) ∷ [])
  met_once entries m = record {
    base = s.pass;
    next = m.next;
    meets = inl refl;
    met = m.met;
    pass_is = m.pass_is;
    trail_is = refl;
    session_is = refl;
    knows = m.knows;
  }

  met_twice : (entries : List Entry) → HasMetTwice board entries s.pass q → IsMetBy entries (Met (length entries) ∷ Met (length entries) ∷ [])
  met_twice entries m = record {
    base = met_at board entries q.known s.pass;
    next = m.next;
    meets = inr refl;
    met = m.met;
    pass_is = m.pass_is;
    trail_is = append_assoc s.pass.trail (Met (length entries) ∷ []) (Met (length entries) ∷ []);
    session_is = refl;
    knows = m.knows;
  }

  -- the turn of a refusal
  abbrev refusing : List Entry → Refusal → List Item → Turn
  refusing entries refusal steps = stepped (record (standing s) { low = length entries }) (RefusedReply (length entries) (refusal_number refusal)) [] steps

  refused_by : (entries : List Entry) (refusal : Refusal) (steps : List Item) → IsMetBy entries steps
      → changing.Changes (head_of s) (entry_trees entries) s.pass.session (standing s) p (event_tree event) (refusing entries refusal steps)
      → IsTurn s (record s { pass = q }) [] request (RefusedReply (length entries) (refusal_number refusal))
  refused_by entries refusal steps met changes =
      let seen : entries ≡ q.seen = sym (ap (λ (x : PassValue Entry Head). x.seen) met.pass_is) in
      let turn : Turn = refusing entries refusal steps in
      record {
        turn = turn;
        answers = told.change p (event_tree event) who is_event (subst (λ (es : List Entry). changing.Changes (head_of s) (entry_trees es) s.pass.session (standing s) p (event_tree event) turn) seen changes);
        reply_is = refl;
        asks_are = refl;
        trail = ap (λ (x : PassValue Entry Head). x.trail) met.pass_is ∙ met.trail_is;
        own_is = ap own_in met.pass_is ∙ own_behind board entries q.known met.base ∙ ap (λ (n : ℕ). entry_trees (own session_of entries n)) met.session_is
            ∙ ap entry_trees met.met.own_met ∙ sym (own_trees s.pass) ∙ sym (append-nil (own_in s.pass));
        after = ap (λ (es : List Entry). record (standing s) { low = length es }) seen;
        seen = subst (λ (es : List Entry). IsPrefix s.pass.seen es) seen met.met.seen;
        knows = met.knows;
        session_is = ap (λ (x : PassValue Entry Head). x.session) met.pass_is ∙ met.session_is;
        board_is = ap (λ (x : PassValue Entry Head). x.board) met.pass_is;
      }

  -- why it was refused
  refusal_of : (entries : List Entry) (refusal : Refusal) (steps : List Item) → IsMetBy entries steps
      → (decided_at board entries s.pass.session p event ≡ Err refusal) ⊎ ((refusal ≡ NotRecorded) × IsOk (decided_at board entries s.pass.session p event))
      → changing.Changes (head_of s) (entry_trees entries) s.pass.session (standing s) p (event_tree event) (refusing entries refusal steps)
  refusal_of entries refusal steps met (inl why) =
      let whole = prefix_whole entries in
      changing.refused (length entries) refusal steps (seen_at entries entries whole met.met.seen) (sym (decided_then entries entries whole) ∙ why) met.meets refl
  refusal_of entries refusal steps met (inr why) =
      let whole = prefix_whole entries in
      let due = ok_due (decided_at board entries s.pass.session p event) why.1 in
      changing.not_recorded (length entries) due.0 steps (seen_at entries entries whole met.met.seen) (sym (decided_then entries entries whole) ∙ due.1) met.meets
      (ap (λ (x : Refusal). refusing entries x steps) why.0)

  refused_turn : (entries : List Entry) (refusal : Refusal)
      → (decided_at board entries s.pass.session p event ≡ Err refusal) ⊎ ((refusal ≡ NotRecorded) × IsOk (decided_at board entries s.pass.session p event))
      → HasMet board entries s.pass q ⊎ ((refusal ≡ NotRecorded) × HasMetTwice board entries s.pass q)
      → IsTurn s (record s { pass = q }) [] request (RefusedReply (length entries) (refusal_number refusal))
  refused_turn entries refusal why (inl once) =
      let met = met_once entries once in
      refused_by entries refusal (Met (length entries) ∷ []) met (refusal_of entries refusal (Met (length entries) ∷ []) met why)
  refused_turn entries refusal why (inr twice) =
      let met = met_twice entries twice.1 in
      let steps : List Item = Met (length entries) ∷ Met (length entries) ∷ [] in
      refused_by entries refusal steps met (refusal_of entries refusal steps met why)

  pub written_turn : (answer : Written) → IsAnswered board s.pass q p event answer → IsTurn s (record s { pass = q }) [] request (reply_of answer)
  written_turn (written.Done at number) d =
      let entries : List Entry = d.entries in
      let later : List Entry = entries ++ mine ∷ [] in
      let prefix : IsPrefix entries later = (mine ∷ [], refl) in
      let seen : q.seen ≡ later = ap (λ (x : PassValue Entry Head). x.seen) d.pass_is in
      let count : length later ≡ length entries + 1 = length-append entries (mine ∷ []) in
      let due : Due = record { number = number; bytes = d.bytes } in
      let session : q.session ≡ s.pass.session = ap (λ (x : PassValue Entry Head). x.session) d.pass_is in
      let trees : entry_trees later ≡ entry_trees entries ++ entry_tree mine ∷ [] = map-append entry_tree entries (mine ∷ []) in
      let got : slice_get (entry_trees later) (length entries) ≡ Some (entry_tree mine) =
      (λ i. slice_get (trees i) (sym (trees_count entries) i)) ∙ slice_get_end (entry_trees entries) (entry_tree mine) in
      let turn : Turn = record {
        reply = DoneReply (length entries + 1) number;
        asks = [];
        steps = Met (length entries) ∷ Met (length entries) ∷ Met (length entries + 1) ∷ [];
        added = entry_tree mine ∷ [];
        after = record (standing s) { low = length entries + 1 };
      } in
      record {
        turn = turn;
        answers = subst (λ (es : List Entry). Answers (head_of s) (entry_trees es) s.pass.session (standing s) request turn) (sym seen)
            (told.change p (event_tree event) who is_event
            (changing.done (length entries) due (Met (length entries) ∷ Met (length entries) ∷ []) (seen_at entries later prefix d.met.seen) (sym (decided_then entries later prefix) ∙ d.accepted) got (inr refl) refl));
        reply_is = ap (λ (n : ℕ). DoneReply n number) (sym d.at_is);
        asks_are = refl;
        trail = ap (λ (x : PassValue Entry Head). x.trail) d.pass_is
            ∙ ap (λ (n : ℕ). ((s.pass.trail ++ Met (length entries) ∷ []) ++ Met (length entries) ∷ []) ++ Met n ∷ []) count
            ∙ append_assoc (s.pass.trail ++ Met (length entries) ∷ []) (Met (length entries) ∷ []) (Met (length entries + 1) ∷ [])
            ∙ append_assoc s.pass.trail (Met (length entries) ∷ []) (Met (length entries) ∷ Met (length entries + 1) ∷ []);
        own_is = ap own_in d.pass_is ∙ own_behind board later q.known (met_at board entries q.known (met_at board entries q.known s.pass)) ∙ ap entry_trees (own_snoc session_of entries mine s.pass.session refl)
            ∙ map-append entry_tree (own session_of entries s.pass.session) (mine ∷ []) ∙ ap (λ (es : List EntryTree). es ++ entry_tree mine ∷ []) (ap entry_trees d.met.own_met ∙ sym (own_trees s.pass));
        after = ap (λ (n : ℕ). record (standing s) { low = n }) (sym (ap length seen ∙ count));
        seen = subst (λ (es : List Entry). IsPrefix s.pass.seen es) (sym seen) (prefix_grows s.pass.seen entries (mine ∷ []) d.met.seen);
        knows = d.knows;
        session_is = session;
        board_is = ap (λ (x : PassValue Entry Head). x.board) d.pass_is;
      }
  written_turn (written.Refused at refusal) r =
      subst (λ (n : ℕ). IsTurn s (record s { pass = q }) [] request (RefusedReply n (refusal_number refusal))) (sym r.at_is) (refused_turn r.entries refusal r.why r.met)
  written_turn written.NoMemory same = subst (λ (x : PassValue Entry Head). IsTurn s (record s { pass = x }) [] request NoMemory) (sym same) (given_up_any s request event_wants)

  met_ready : (at : Identity Entry Head) → IsReady at s → q.board ≡ s.pass.board → IsPrefix s.pass.seen q.seen → last_met q.trail ≡ length q.seen → IsReady at (record s { pass = q })
  met_ready at ready same prefix last = record {
    board_is = same ∙ ready.board_is;
    met = omega (arith, last);
    who = ready.who;
    known = known_stay at.origin.setting (trees_of s) (entry_trees q.seen) (who_of s) s.known.rows (trees_prefix s.pass.seen q.seen prefix) ready.known;
  }

  -- a pass that was just met
  last_here : (entries : List Entry) (pass : PassValue Entry Head) → q ≡ met_at board entries q.known pass → last_met q.trail ≡ length q.seen
  last_here entries pass is = ap (λ (x : PassValue Entry Head). last_met x.trail) is ∙ last_met_now pass.trail (length entries) ∙ sym (ap (λ (x : PassValue Entry Head). length x.seen) is)

  refused_last : (entries : List Entry) (refusal : Refusal) → HasMet board entries s.pass q ⊎ ((refusal ≡ NotRecorded) × HasMetTwice board entries s.pass q) → last_met q.trail ≡ length q.seen
  refused_last entries refusal (inl once) = last_here entries s.pass once.pass_is
  refused_last entries refusal (inr twice) = last_here entries (met_at board entries q.known s.pass) twice.1.pass_is

  pub written_ready : (at : Identity Entry Head) → IsReady at s → (answer : Written) → IsAnswered board s.pass q p event answer → IsReady at (record s { pass = q })
  written_ready at ready (written.Done number_at number) d =
      let turn = written_turn (written.Done number_at number) d in
      met_ready at ready turn.board_is turn.seen (last_here (d.entries ++ mine ∷ []) (met_at board d.entries q.known (met_at board d.entries q.known s.pass)) d.pass_is)
  written_ready at ready (written.Refused number_at refusal) r =
      let turn = written_turn (written.Refused number_at refusal) r in
      met_ready at ready turn.board_is turn.seen (refused_last r.entries refusal r.met)
  written_ready at ready written.NoMemory same = subst (λ (x : PassValue Entry Head). IsReady at (record s { pass = x })) (sym same) ready

-- ---- Whether a session has come to a point

module _ (s : BoardSession) (q : PassValue Entry Head) (entries : List Entry) (met : HasMet s.pass.board entries s.pass q) where
  seen_then : entries ≡ q.seen
  seen_then = sym (ap (λ (x : PassValue Entry Head). x.seen) met.pass_is)

  -- a turn with this reply, at the length to which the pass was met
  met_turn : (request : Request) (reply : Reply) → Answers (head_of s) (entry_trees entries) s.pass.session (standing s) request
      (stepped (record (standing s) { low = length entries }) reply [] (Met (length entries) ∷ [])) → IsTurn s (record s { pass = q }) [] request reply
  met_turn request reply answers =
      let turn : Turn = stepped (record (standing s) { low = length entries }) reply [] (Met (length entries) ∷ []) in
      record {
        turn = turn;
        answers = subst (λ (es : List Entry). Answers (head_of s) (entry_trees es) s.pass.session (standing s) request turn) seen_then answers;
        reply_is = refl;
        asks_are = refl;
        trail = ap (λ (x : PassValue Entry Head). x.trail) met.pass_is;
        own_is = ap own_in met.pass_is ∙ own_behind s.pass.board entries q.known s.pass ∙ ap entry_trees met.met.own_met ∙ sym (own_trees s.pass) ∙ sym (append-nil (own_in s.pass));
        after = ap (λ (es : List Entry). record (standing s) { low = length es }) seen_then;
        seen = subst (λ (es : List Entry). IsPrefix s.pass.seen es) seen_then met.met.seen;
        knows = met.knows;
        session_is = ap (λ (x : PassValue Entry Head). x.session) met.pass_is;
        board_is = ap (λ (x : PassValue Entry Head). x.board) met.pass_is;
      }

  seen_within : IsSeen (entry_trees entries) (length s.pass.seen) (length entries)
  seen_within = (prefix_length s.pass.seen entries met.met.seen, omega (arith, trees_count entries))

  pub see_turn : (p k at : ℕ) (reply : Reply) → who_of s ≡ Some p → at ≡ length q.seen → ((k ≤ at) × (reply ≡ Seen at)) ⊎ ((at < k) × (reply ≡ RefusedReply at 23))
      → IsTurn s (record s { pass = q }) [] (See k) reply
  see_turn p k at reply who at_is told_so = of (at_is ∙ sym (ap (λ (es : List Entry). length es) seen_then)) told_so
    where
      of : at ≡ length entries → ((k ≤ at) × (reply ≡ Seen at)) ⊎ ((at < k) × (reply ≡ RefusedReply at 23)) → IsTurn s (record s { pass = q }) [] (See k) reply
      of here (inl there) =
          subst (IsTurn s (record s { pass = q }) [] (See k)) (sym (there.1 ∙ ap Seen here))
          (met_turn (See k) (Seen (length entries)) (told.see p k who refl (changing.seen (length entries) seen_within (subst (λ (n : ℕ). k ≤ n) here there.0) refl)))
      of here (inr far) =
          subst (IsTurn s (record s { pass = q }) [] (See k)) (sym (far.1 ∙ ap (λ (n : ℕ). RefusedReply n 23) here))
          (met_turn (See k) (RefusedReply (length entries) 23) (told.see p k who refl (changing.not_yet (length entries) seen_within (subst (λ (n : ℕ). n < k) here far.0) refl)))

  pub see_ready : (at : Identity Entry Head) → IsReady at s → IsReady at (record s { pass = q })
  see_ready at ready =
      let prefix = subst (λ (es : List Entry). IsPrefix s.pass.seen es) seen_then met.met.seen in
      let last = ap (λ (x : PassValue Entry Head). last_met x.trail) met.pass_is ∙ last_met_now s.pass.trail (length entries) ∙ ap (λ (es : List Entry). length es) seen_then in
      record {
        board_is = ap (λ (x : PassValue Entry Head). x.board) met.pass_is ∙ ready.board_is;
        met = omega (arith, last);
        who = ready.who;
        known = known_stay at.origin.setting (trees_of s) (entry_trees q.seen) (who_of s) s.known.rows (trees_prefix s.pass.seen q.seen prefix) ready.known;
      }

-- a reply to it tells no change not to be recorded
pub see_recorded : (k at : ℕ) (reply : Reply) → ((k ≤ at) × (reply ≡ Seen at)) ⊎ ((at < k) × (reply ≡ RefusedReply at 23)) → ¬ IsNotRecorded reply
see_recorded k at reply (inl there) none = absurd (subst IsNotRecorded there.1 none)
see_recorded k at reply (inr far) none = let other : 23 ≡ 20 = subst IsNotRecorded far.1 none in absurd (omega (arith, other))

-- a refusal with another number
numbered_else : (number count more : ℕ) → number < 20 → number ≡ 20 → count < count + more
numbered_else number count more small is = omega (arith, small, is)

-- what was counted of a change by the book is what its reply tells
refused_counted : (refusal : Refusal) (at count : ℕ) → IsNotRecorded (RefusedReply at (refusal_number refusal)) → count < count + unrecorded_by (written.Refused at refusal)
refused_counted NoSuchPrincipal at count is = numbered_else 4 count 0 (omega arith) is
refused_counted NotYourPrincipal at count is = numbered_else 5 count 0 (omega arith) is
refused_counted NoSuchLabel at count is = numbered_else 6 count 0 (omega arith) is
refused_counted NotHolder at count is = numbered_else 7 count 0 (omega arith) is
refused_counted NoSuchObject at count is = numbered_else 8 count 0 (omega arith) is
refused_counted NameTaken at count is = numbered_else 9 count 0 (omega arith) is
refused_counted NotOwner at count is = numbered_else 10 count 0 (omega arith) is
refused_counted NoGoal at count is = numbered_else 11 count 0 (omega arith) is
refused_counted NoSuchProof at count is = numbered_else 12 count 0 (omega arith) is
refused_counted NoBinding at count is = numbered_else 13 count 0 (omega arith) is
refused_counted BadPort at count is = numbered_else 14 count 0 (omega arith) is
refused_counted BadFormula at count is = numbered_else 15 count 0 (omega arith) is
refused_counted BadProof at count is = numbered_else 16 count 0 (omega arith) is
refused_counted Quota at count is = numbered_else 17 count 0 (omega arith) is
refused_counted JournalFull at count is = absurd (omega (arith, is))
refused_counted ObjectsFull at count is = numbered_else 18 count 0 (omega arith) is
refused_counted CasesFull at count is = numbered_else 19 count 0 (omega arith) is
refused_counted NotRecorded at count is = omega arith

counted_one : (count count_now : ℕ) (request : Request) (reply : Reply) → count ≤ count_now → (IsNotRecorded reply → count < count_now) → AreCounted count count_now (request ∷ []) (reply ∷ [])
counted_one count count_now request reply later counted = record { later = later; counted = ((λ is. counted is.1), tt) }

pub written_counted : (count count_now : ℕ) (request : Request) (answer : Written) → count_now ≡ count + unrecorded_by answer → AreCounted count count_now (request ∷ []) (reply_of answer ∷ [])
written_counted count count_now request (written.Done at number) is = counted_one count count_now request (DoneReply at number) (omega (arith, is)) (λ none. absurd none)
written_counted count count_now request (written.Refused at refusal) is =
    counted_one count count_now request (RefusedReply at (refusal_number refusal)) (omega (arith, is)) (λ told. subst (λ (n : ℕ). count < n) (sym is) (refused_counted refusal at count told))
written_counted count count_now request written.NoMemory is = counted_one count count_now request NoMemory (omega (arith, is)) (λ none. absurd none)

-- a reply that tells no change not to be recorded, where nothing was counted
pub quiet_counted : (count count_now : ℕ) (request : Request) (reply : Reply) → count_now ≡ count → ¬ IsNotRecorded reply → AreCounted count count_now (request ∷ []) (reply ∷ [])
quiet_counted count count_now request reply same quiet = counted_one count count_now request reply (omega (arith, same)) (λ told. absurd (quiet told))

-- a call is no change
pub call_counted : (count count_now : ℕ) (op object : List ℕ) (arg : ℕ) (reply : Reply) → count_now ≡ count → AreCounted count count_now (Call op object arg ∷ []) (reply ∷ [])
call_counted count count_now op object arg reply same = record { later = omega (arith, same); counted = ((λ is. absurd (is.0 tt)), tt) }

-- ---- Who is admitted

module _ (principals : List Principal) (name secret : List ℕ) where
  pub named_so : (p : ℕ) → admitted principals name secret ≡ Some p → name_of principals p ≡ name
  named_so p found =
      let none : Principal = record { name = []; secret = [] } in
      let at = position-Some (λ (x : Principal). same_bytes name x.name && same_bytes secret x.secret) principals p none found in
      let same = both_same (same_bytes name (get_or principals p none).name) (same_bytes secret (get_or principals p none).secret) at.1 in
      ap (λ (o : Option Principal). unwrap_or (option_map (λ (x : Principal). x.name) o) []) (slice_get-get_or principals p none at.0) ∙ sym ((same_bytes-Decides name (get_or principals p none).name).0 same.0)

no_rows : (h : Head) (es : List EntryTree) (p : ℕ) (who : Option ℕ) (rows : List KnownRow) → who ≡ None → AreKnown h es who rows → AreKnown h es (Some p) rows
no_rows h es p who rows nobody known =
    let none : rows ≡ [] = subst (λ (w : Option ℕ). AreKnown h es w rows) nobody known in
    subst (λ (xs : List KnownRow). AreKnown h es (Some p) xs) (sym none) (All-nil (IsKnownRow h es p))

pub welcome_ready : (board : Identity Entry Head) (s : BoardSession) (a : Admitted) (name secret : List ℕ) → IsReady board s → who_of s ≡ None → a.number < length board.origin.setting.principals → a.name ≡ name
    → admitted board.origin.setting.principals name secret ≡ Some a.number → IsReady board (record s { admitted = Some a })
welcome_ready board s a name secret ready nobody below name_is found = record {
  board_is = ready.board_is;
  met = ready.met;
  who = (below, name_is ∙ sym (named_so board.origin.setting.principals name secret a.number found));
  known = no_rows board.origin.setting (trees_of s) a.number (who_of s) s.known.rows nobody ready.known;
}

-- who is found by a session's head
pub found_here : (board : Identity Entry Head) (s : BoardSession) (name secret : List ℕ) (found : Option ℕ) (got : Option ℕ) → IsReady board s → found ≡ admitted board.origin.setting.principals name secret → found ≡ got
    → admitted (head_of s).principals name secret ≡ got
found_here board s name secret found got ready is got_is = ap (λ (b : Identity Entry Head). admitted b.origin.setting.principals name secret) ready.board_is ∙ sym is ∙ got_is

-- the line of a change
pub line_for : (h : Head) (session p : ℕ) (name : List ℕ) (e : EventTree) (line : List ℕ) → name ≡ name_of h.principals p → (IsSpelledWhole e → line ≡ entry_line session name e) → (¬ IsSpelledWhole e → line ≡ [])
    → IsLineFor h (record { session = session; principal = p; event = e }) line
line_for h session p name e line name_is spelled none = (λ whole. spelled whole ∙ ap (λ (x : List ℕ). entry_line session x e) name_is, none)

pub nobody_of : (s : BoardSession) → s.admitted ≡ None → who_of s ≡ None
nobody_of s none = ap (λ (a : Option Admitted). option_map (λ (x : Admitted). x.number) a) none

pub somebody_of : (s : BoardSession) (a : Admitted) → s.admitted ≡ Some a → who_of s ≡ Some a.number
somebody_of s a some = ap (λ (o : Option Admitted). option_map (λ (x : Admitted). x.number) o) some
