-- A call in a session over a shared board: a look, a snapshot, and what becomes of its case.
use Rattle.std.proofs.Common.{◌≡◌, ◌<◌, ℕ, Bool, List, [], ◌∷◌, ◌++◌, length, take, option_map, Option, Some, None, refl, sym, ap, ◌∙◌, subst, arith, append_assoc}
use Rattle.std.proofs.lemmas.List.{append-nil}
use Rattle.nal_rules.specs.Asking.{case_tree}
use Rattle.nal_rules.specs.Verdicts.{CaseTree}
use Rattle.nal_rules.specs.declared.cases.Case.{Case as RawCase}
use Rattle.nal_rules.specs.declared.verdicts.Verdict.{Verdict}
use Rattle.policy_history.specs.declared.events.Entry.{Entry}
use Rattle.policy_history.specs.declared.heads.Head.{Head}
use Rattle.policy_history.specs.Events.{EntryTree}
use Rattle.policy_history.specs.Judged.{IsHome, IsLasting, IsRight}
use Rattle.policy_history.specs.Machine.{replay}
use Rattle.policy_history.specs.Values.{entry_trees}
use Rattle.guard_core.specs.declared.findings.Finding.{Finding}
use Rattle.guard_core.specs.declared.findings.GuardError.TheVariants.{Down as DownError}
use Rattle.guard_core.specs.Judging.{IsBrokenOff, IsJudged, answers_in, verdict_of}
use Rattle.authority_ask.specs.Panels.{Told as Ask}
use Rattle.session_wire.specs.declared.replies.Reply.{Reply}
use Rattle.session_wire.specs.declared.replies.Reply.TheVariants.{Down, Refused}
use Rattle.session_wire.specs.declared.requests.Request.TheVariants.{Call}
use Rattle.verdict_words.specs.declared.places.CasePlace.{CasePlace}
use Rattle.verdict_words.specs.declared.places.Held.{Held}
use Rattle.verdict_words.specs.declared.places.Look.{Look}
use Rattle.verdict_words.specs.declared.places.Look.TheVariants.{Hit, Miss}
use Rattle.verdict_words.specs.declared.views.Item.{Item}
use Rattle.verdict_words.specs.declared.views.Item.TheVariants.{Loaded}
use Rattle.verdict_words.specs.Answers.{IsAnswer, MakesHit}
use Rattle.verdict_words.specs.Rule.{last_met, met_after}
use Rattle.verdict_words.specs.Words.{IsPlace}
use Rattle.verdict_words.specs.Histories.{IsPrefix}
use Rattle.verdict_words.specs.Values.{Identity, PassValue}
use Rattle.verdict_words.proofs.ForCallers.{prefix_length, prefix_through, prefix_whole}
use Rattle.policy_book.specs.Matter.{IsHeldRight, StandsFor}
use Rattle.policy_book.specs.Snaps.{IsSnapOf}
use Rattle.policy_book.proofs.ForCallers.{held_right}
use Rattle.session_core.specs.Calls as calling
use Rattle.session_core.specs.Unanswered as unanswered
use Rattle.session_core.specs.Told as told
use Rattle.session_core.specs.Calls.{IsPlaceIn, Keeps, Looks, Runs, Turn, stepped, verdict_reply}
use Rattle.session_core.specs.Told.{Answers}
use Rattle.session_core.specs.declared.board_session.BoardSession.{BoardSession}
use Rattle.session_core.specs.Inner.Boarding.{HasJoined, HasKept, IsChecked, IsMissed, IsReady, IsSettled, IsReplyOf, IsTurn, head_of, own_in, standing, stepped_by, trees_of, who_of}
use Rattle.session_core.specs.Inner.Boarding as boarding
use Rattle.session_core.specs.Inner.Knowing.{joined_rows, knows_row, place_among}
use Rattle.session_core.proofs.Boarding.{still}
use Rattle.session_core.proofs.Knowing.{is_known, not_known}
use Rattle.session_core.proofs.BoardHistories.{IsQuiet, few_objects, first_trees, home_of, known_place, known_stay, met_stays, own_stays, place_stays, trees_count, trees_prefix}

-- the verdict of a case that was taken is right in its place
pub right_kept : (h : Head) (es : List EntryTree) (p : ℕ) (op object : List ℕ) (at : ℕ) (case : RawCase) (place : Option CasePlace) (n : ℕ) (asks : List Ask) (finding : Finding)
    → IsSnapOf h es p op object at case place n → IsJudged (case_tree case) asks finding → (q : CasePlace) (held : Held) → place ≡ Some q → StandsFor (verdict_of finding) held
    → IsLasting (case_tree case) (verdict_of finding) → IsHeldRight h es q.case held
right_kept h es p op object at case place n asks finding snap judged q held place_is stands lasting =
    held_right h es p op object at case q n (subst (λ (x : Option CasePlace). IsSnapOf h es p op object at case x n) place_is snap) (answers_in asks) (verdict_of finding) held judged.verdict lasting stands

module _ (p : ℕ) (op given object : List ℕ) (arg k at : ℕ) (place : Option CasePlace) (c : CaseTree) (s t : BoardSession) (asks : List Ask) where
  joined_as : (steps : List Item) → given ≡ op → t.pass ≡ stepped_by s.pass steps t.pass.known → IsPrefix s.pass.known t.pass.known → t.admitted ≡ s.admitted → t.known.rows ≡ joined_rows s.known.rows given object place
      → HasJoined op object place s t steps
  joined_as steps same pass_is knows admitted_is rows = record {
    pass_is = pass_is;
    knows = knows;
    admitted_is = admitted_is;
    known_is = rows ∙ ap (λ (x : List ℕ). joined_rows s.known.rows x object place) same;
  }

  pub found_checked : (finding : Finding) (reply : Reply) (mid : PassValue Entry Head) (is_known : Bool) → given ≡ op → at ≡ length s.pass.seen → IsJudged c asks finding
      → t.known.rows ≡ joined_rows s.known.rows given object place → is_known ≡ knows_row t.known.rows given object
      → HasKept s.pass mid is_known at place c (verdict_of finding) → IsReplyOf mid t.pass op arg k at 0 (verdict_of finding) reply → t.admitted ≡ s.admitted
      → IsChecked p op object arg k place c s t asks reply
  found_checked finding reply mid is_known same at_is judged rows known kept run admitted =
      let known_is : is_known ≡ knows_row t.known.rows op object = known ∙ ap (λ (x : List ℕ). knows_row t.known.rows x object) same in
      let pass_is : t.pass ≡ stepped_by s.pass (kept.steps ++ run.run.steps) t.pass.known =
      run.run.pass_is ∙ ap (λ (q : PassValue Entry Head). stepped_by q run.run.steps t.pass.known) kept.pass_is ∙ ap (λ (xs : List Item). record s.pass { trail = xs; known = t.pass.known }) (append_assoc s.pass.trail kept.steps run.run.steps) in
      boarding.judged run.value finding kept.steps run.run.steps judged
      (subst (λ (n : ℕ). Keeps (knows_row t.known.rows op object) n (option_map (λ (q : CasePlace). q.case) place) c (verdict_of finding) kept.steps) at_is
      (subst (λ (b : Bool). Keeps b at (option_map (λ (q : CasePlace). q.case) place) c (verdict_of finding) kept.steps) known_is kept.keeps))
      run.run.runs (joined_as (kept.steps ++ run.run.steps) same pass_is (prefix_through s.pass.known mid.known t.pass.known kept.knows run.run.knows) admitted rows)
      (run.reply_is ∙ ap (λ (n : ℕ). verdict_reply n 0 run.value (verdict_of finding)) at_is)

  pub down_checked : (line : ℕ) → given ≡ op → at ≡ length s.pass.seen → IsBrokenOff c asks (DownError line) → t.pass ≡ s.pass → t.admitted ≡ s.admitted
      → t.known.rows ≡ joined_rows s.known.rows given object place → IsChecked p op object arg k place c s t asks (Down at line)
  down_checked line same at_is broken pass_is admitted rows =
      boarding.down line broken (joined_as [] same (subst (λ (x : PassValue Entry Head). x ≡ stepped_by s.pass [] x.known) (sym pass_is) (still s.pass)) (subst (λ (x : PassValue Entry Head). IsPrefix s.pass.known x.known) (sym pass_is) (prefix_whole s.pass.known)) admitted rows) (ap (λ (n : ℕ). Down n line) at_is)

  -- its record could not be sent
  pub cut_checked : at ≡ length s.pass.seen → IsSettled c asks → t ≡ s → IsChecked p op object arg k place c s t asks (Refused at 20)
  cut_checked at_is settled same = boarding.unrecorded settled same (ap (λ (n : ℕ). Refused n 20) at_is)

-- the length at which a case was taken
pub taken_at : (s : BoardSession) (at : ℕ) → at ≡ length (trees_of s) → at ≡ length s.pass.seen
taken_at s at is = is ∙ trees_count s.pass.seen

-- a case that is not known is not looked at
pub unknown_missed : (p : ℕ) (op object : List ℕ) (s : BoardSession) → place_among s.known.rows op object ≡ None → IsMissed p op object s s
unknown_missed p op object s none = record {
  steps = [];
  misses = calling.unknown (not_known op object s.known.rows none) refl refl;
  trail = sym (append-nil s.pass.trail);
  seen = prefix_whole s.pass.seen;
  knows = prefix_whole s.pass.known;
  own_is = refl;
  session_is = refl;
  board_is = refl;
  who_is = refl;
  known_is = refl;
}

-- ---- Steps among which there is no meeting

pub runs_quiet : (op : List ℕ) (arg object : ℕ) (verdict : Verdict) (value : ℕ) (steps : List Item) → Runs op arg object verdict value steps → IsQuiet steps
runs_quiet op arg object verdict value steps (calling.ran step allowed step_is steps_are) n = subst (λ (xs : List Item). met_after n xs ≡ n) (sym steps_are) refl
runs_quiet op arg object verdict value steps (calling.no_step idle none steps_are) n = subst (λ (xs : List Item). met_after n xs ≡ n) (sym steps_are) refl

pub keeps_quiet : (known : Bool) (n : ℕ) (number : Option ℕ) (c : CaseTree) (verdict : Verdict) (steps : List Item) → Keeps known n number c verdict steps → IsQuiet steps
keeps_quiet known n number c verdict steps (calling.kept k held is number_is lasting stands steps_are) m = subst (λ (xs : List Item). met_after m xs ≡ m) (sym steps_are) refl
keeps_quiet known n number c verdict steps (calling.not_kept unkept steps_are) m = subst (λ (xs : List Item). met_after m xs ≡ m) (sym steps_are) refl

-- ---- A look

pub steps_ready : (board : Identity Entry Head) (s : BoardSession) (q : PassValue Entry Head) (steps : List Item) → IsReady board s → IsPrefix s.pass.seen q.seen → q.board ≡ s.pass.board
    → q.trail ≡ s.pass.trail ++ steps → IsQuiet steps → IsReady board (record s { pass = q })
steps_ready board s q steps ready prefix board_is trail quiet =
    let same : last_met q.trail ≡ last_met s.pass.trail = ap last_met trail ∙ met_stays s.pass.trail steps quiet in
    let long = prefix_length s.pass.seen q.seen prefix in
    let before = ready.met in
    record {
      board_is = board_is ∙ ready.board_is;
      met = omega (arith, same, long, before);
      who = ready.who;
      known = known_stay board.origin.setting (trees_of s) (entry_trees q.seen) (who_of s) s.known.rows (trees_prefix s.pass.seen q.seen prefix) ready.known;
    }

module _ (board : Identity Entry Head) (s : BoardSession) (p : ℕ) (op object : List ℕ) (place : CasePlace) (ready : IsReady board s) (who : who_of s ≡ Some p) (found : place_among s.known.rows op object ≡ Some place) where
  there : IsPlaceIn (replay board.origin.setting (trees_of s)) p op object place × IsPlace place
  there = known_place board.origin.setting (trees_of s) p op object place (who_of s) s.known.rows who ready.known found

  pub place_there : IsPlace place
  place_there = there.1

  pub home_there : IsHome board.origin.setting (trees_of s) place.case place.object place.store
  home_there = home_of board.origin.setting (trees_of s) p op object place there.0

  pub few_there : place.object < 65536
  few_there = few_objects board.origin.setting (trees_of s) p op object place there.0

  module _ (q : PassValue Entry Head) (prefix : IsPrefix s.pass.seen q.seen) where
    -- the history that is seen is whole
    whole : take (length q.seen) (entry_trees q.seen) ≡ entry_trees q.seen
    whole = first_trees q.seen q.seen (length q.seen) refl (prefix_whole q.seen)

    looks : Looks (head_of s) (entry_trees q.seen) (standing s) p op object (length q.seen) place
    looks =
        let long = trees_count q.seen in
        record {
          known = is_known op object s.known.rows place found;
          seen = (prefix_length s.pass.seen q.seen prefix, omega (arith, long));
          place_is = subst (λ (es : List EntryTree). IsPlaceIn (replay (head_of s) es) p op object place) (sym whole)
              (subst (λ (b : Identity Entry Head). IsPlaceIn (replay b.origin.setting (entry_trees q.seen)) p op object place) (sym ready.board_is)
              (place_stays board.origin.setting (trees_of s) (entry_trees q.seen) p op object place (trees_prefix s.pass.seen q.seen prefix) there.0));
        }

    module _ (slot of_object of_store : ℕ) (made : q ≡ record s.pass { seen = q.seen; trail = s.pass.trail ++ Loaded place slot (length q.seen) of_object of_store ∷ []; known = q.known }) (knows : IsPrefix s.pass.known q.known) where
      looked_trail : q.trail ≡ s.pass.trail ++ Loaded place slot (length q.seen) of_object of_store ∷ []
      looked_trail = ap (λ (x : PassValue Entry Head). x.trail) made

      pub looked_ready : IsReady board (record s { pass = q })
      looked_ready = steps_ready board s q (Loaded place slot (length q.seen) of_object of_store ∷ []) ready prefix (ap (λ (x : PassValue Entry Head). x.board) made) looked_trail (λ n. refl)

      own_looked : own_in q ≡ own_in s.pass
      own_looked =
          own_stays s.pass q prefix (ap (λ (x : PassValue Entry Head). x.session) made)
          (ap last_met looked_trail ∙ met_stays s.pass.trail (Loaded place slot (length q.seen) of_object of_store ∷ []) (λ n. refl)) ready.met

      pub looked_missed : (answer : Look) → IsAnswer place.case slot (length q.seen) of_object of_store answer → answer ≡ Miss → IsMissed p op object s (record s { pass = q })
      looked_missed answer is miss = record {
        steps = Loaded place slot (length q.seen) of_object of_store ∷ [];
        misses = calling.missed place slot of_object of_store looks (λ held makes. let hit = (is (length q.seen) held).1 (refl, makes) in absurd (never (sym miss ∙ hit))) refl;
        trail = looked_trail;
        seen = prefix;
        knows = knows;
        own_is = own_looked;
        session_is = ap (λ (x : PassValue Entry Head). x.session) made;
        board_is = ap (λ (x : PassValue Entry Head). x.board) made;
        who_is = refl;
        known_is = refl;
      }
        where
          never : {at : ℕ} {held : Held} → Miss ≡ Hit at held → ⊥
          never same = cc same

      -- a hit whose record could not be sent
      pub cut_turn : (arg at : ℕ) (held : Held) → at ≡ length q.seen → MakesHit place.case slot of_object of_store held → IsTurn s (record s { pass = q }) [] (Call op object arg) (Refused at 20)
      cut_turn arg at held at_is makes =
          let turn : Turn = stepped (record (standing s) { low = length q.seen }) (Refused (length q.seen) 20) [] (Loaded place slot (length q.seen) of_object of_store ∷ []) in
          record {
            turn = turn;
            answers = told.call_unrecorded p op object arg who refl (unanswered.hit_unrecorded (length q.seen) place slot of_object of_store held looks makes refl);
            reply_is = ap (λ (n : ℕ). Refused n 20) (sym at_is);
            asks_are = refl;
            trail = looked_trail;
            own_is = own_looked ∙ sym (append-nil (own_in s.pass));
            after = refl;
            seen = prefix;
            knows = knows;
            session_is = ap (λ (x : PassValue Entry Head). x.session) made;
            board_is = ap (λ (x : PassValue Entry Head). x.board) made;
          }

      module _ (arg at : ℕ) (r : PassValue Entry Head) (held : Held) (reply : Reply) (verdict : Verdict) (run : IsReplyOf q r op arg place.object at 1 verdict reply) where
        ran_seen : r.seen ≡ q.seen
        ran_seen = ap (λ (x : PassValue Entry Head). x.seen) run.run.pass_is

        ran_trail : r.trail ≡ s.pass.trail ++ Loaded place slot (length q.seen) of_object of_store ∷ run.run.steps
        ran_trail =
            ap (λ (x : PassValue Entry Head). x.trail) run.run.pass_is ∙ ap (λ (xs : List Item). xs ++ run.run.steps) looked_trail
            ∙ append_assoc s.pass.trail (Loaded place slot (length q.seen) of_object of_store ∷ []) run.run.steps

        ran_quiet : IsQuiet (Loaded place slot (length q.seen) of_object of_store ∷ run.run.steps)
        ran_quiet n = runs_quiet op arg place.object verdict run.value run.run.steps run.run.runs n

        ran_prefix : IsPrefix s.pass.seen r.seen
        ran_prefix = subst (λ (es : List Entry). IsPrefix s.pass.seen es) (sym ran_seen) prefix

        ran_board : r.board ≡ s.pass.board
        ran_board = ap (λ (x : PassValue Entry Head). x.board) run.run.pass_is ∙ ap (λ (x : PassValue Entry Head). x.board) made

        ran_session : r.session ≡ s.pass.session
        ran_session = ap (λ (x : PassValue Entry Head). x.session) run.run.pass_is ∙ ap (λ (x : PassValue Entry Head). x.session) made

        pub hit_ready : IsReady board (record s { pass = r })
        hit_ready = steps_ready board s r (Loaded place slot (length q.seen) of_object of_store ∷ run.run.steps) ready ran_prefix ran_board ran_trail ran_quiet

        hit_after : record (standing s) { low = length q.seen } ≡ standing (record s { pass = r })
        hit_after = ap (λ (n : ℕ). record (standing s) { low = n }) (ap length (sym ran_seen))

        pub hit_turn : at ≡ length q.seen → MakesHit place.case slot of_object of_store held → StandsFor verdict held → IsRight board.origin.setting (entry_trees q.seen) place.case verdict
            → IsTurn s (record s { pass = r }) [] (Call op object arg) reply
        hit_turn at_is makes stands right =
            let right_here : IsRight (head_of s) (take (length q.seen) (entry_trees q.seen)) place.case verdict =
            subst (λ (es : List EntryTree). IsRight (head_of s) es place.case verdict) (sym whole)
            (subst (λ (b : Identity Entry Head). IsRight b.origin.setting (entry_trees q.seen) place.case verdict) (sym ready.board_is) right) in
            let turn : Turn = stepped (record (standing s) { low = length q.seen }) (verdict_reply (length q.seen) 1 run.value verdict) [] (Loaded place slot (length q.seen) of_object of_store ∷ run.run.steps) in
            record {
              turn = turn;
              answers = subst (λ (es : List Entry). Answers (head_of s) (entry_trees es) s.pass.session (standing s) (Call op object arg) turn) (sym ran_seen)
                  (told.call p op object arg who refl
                  (calling.hit (length q.seen) place slot of_object of_store run.value held verdict run.run.steps looks makes stands right_here run.run.runs refl));
              reply_is = sym (run.reply_is ∙ ap (λ (n : ℕ). verdict_reply n 1 run.value verdict) at_is);
              asks_are = refl;
              trail = ran_trail;
              own_is = own_stays s.pass r ran_prefix ran_session
                  (ap last_met ran_trail ∙ met_stays s.pass.trail (Loaded place slot (length q.seen) of_object of_store ∷ run.run.steps) ran_quiet) ready.met
                  ∙ sym (append-nil (own_in s.pass));
              after = hit_after;
              seen = ran_prefix;
              knows = prefix_through s.pass.known q.known r.known knows run.run.knows;
              session_is = ran_session;
              board_is = ran_board;
            }
