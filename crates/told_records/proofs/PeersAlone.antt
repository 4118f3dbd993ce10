-- The requests of a bundle in a session that is alone.
use Rattle.std.proofs.Common.{◌≡◌, ◌+◌, ℕ, List, [], ◌∷◌, ◌++◌, length, map, Option, Some, None, Result, Ok, Err, unwrap_or, refl, sym, ap, ◌∙◌, inl, inr, arith, append_assoc}
use Rattle.std.specs.Prelude.{slice_get, slice_set}
use Rattle.std.specs.List.{All}
use Rattle.std.proofs.lemmas.List.{append-nil}
use Rattle.std.proofs.lemmas.List.Elements.{All-head, All-tail}
use Rattle.nal_term.specs.Names.{IsName}
use Rattle.nal_term.specs.Trees.{FormulaTree}
use Rattle.policy_history.specs.declared.heads.Head.{Head}
use Rattle.policy_history.specs.declared.events.Due.{Due}
use Rattle.policy_history.specs.declared.events.Refusal.{Refusal}
use Rattle.policy_history.specs.Events.{EntryTree, EventTree, admitted}
use Rattle.policy_history.specs.Machine.{replay}
use Rattle.policy_history.specs.Values.{decision}
use Rattle.journal_text.specs.RequestEvents.{IsEventOf}
use Rattle.session_wire.specs.declared.requests.Request.TheVariants.{Hello}
use Rattle.session_wire.specs.declared.replies.Reply.{Reply}
use Rattle.authority_ask.specs.Panels.{Told as Ask}
use Rattle.session_core.specs.Answers.{HasOutcome, Outcome, changed}
use Rattle.session_core.specs.Answers as answers
use Rattle.session_core.specs.Ends.{askings_of, at_first}
use Rattle.session_core.specs.Sessions.{Point, Told1, admitted_in, behind}
use Rattle.peer_labels.specs.Requests.{bundle_requests, label_request}
use Rattle.told_records.specs.PeerSessions.{AreOfPeer, LonePeersSayLabels}
use Rattle.told_records.proofs.Peers.{IsGreeted, IsReadAgain, Says, bundle_read, greeted_added, greeted_named, greeted_who, nothing, of_peer, one_event, one_said, says_more}

module _ (h : Head) (s : ℕ) (x secret : List ℕ) (named : IsName x) where
  -- a label, behind the hello: who is admitted stays so, and an entry comes of it only in that one's name
  outcome_says : (es : List EntryTree) (o : Option ℕ) (f : FormulaTree) (outcome : Outcome) → IsGreeted h s x secret o → IsReadAgain f → HasOutcome h es s o (label_request x f) outcome
      → (outcome.who ≡ o) × Says h s o (f ∷ []) outcome.added
  outcome_says es o f outcome greeted read has = of o refl has
    where
      still : (w : Option ℕ) (left : Outcome) → outcome ≡ left → left.who ≡ w → left.added ≡ [] → (outcome.who ≡ w) × Says h s w (f ∷ []) outcome.added
      still w left is who none = (ap (λ (v : Outcome). v.who) is ∙ who, nothing h s w (f ∷ []) outcome.added (ap (λ (v : Outcome). v.added) is ∙ none))

      decided : (p : ℕ) (e : EventTree) → o ≡ Some p → IsEventOf (label_request x f) e → (d : Result Due Refusal) → outcome ≡ changed es s p e d
          → (outcome.who ≡ Some p) × Says h s (Some p) (f ∷ []) outcome.added
      decided p e who is (Err refusal) same = still (Some p) _ same refl refl
      decided p e who is (Ok due) same =
          (ap (λ (v : Outcome). v.who) same, one_said h s p x f e outcome.added (greeted_named h s x secret o greeted p who) (one_event x f named read e is) (ap (λ (v : Outcome). v.added) same))

      of : (w : Option ℕ) → o ≡ w → HasOutcome h es s w (label_request x f) outcome → (outcome.who ≡ w) × Says h s w (f ∷ []) outcome.added
      of None who (answers.answered is) = still None _ is refl refl
      of None who (answers.given_up wants is) = still None _ is refl refl
      of (Some p) who (answers.answered (e, is, same)) = decided p e who is (decision h (replay h es) s p e) same
      of (Some p) who (answers.given_up wants is) = still (Some p) _ is refl refl

  -- what comes of the labels, from a point at which this principal is admitted, or nobody
  abbrev Added : List FormulaTree → Point → Option ℕ → Point → Type 0
  Added labels point o last = (added : List EntryTree) × (last.entries ≡ point.entries ++ added) × Says h s o labels added

  all_say : (labels : List FormulaTree) (point : Point) (o : Option ℕ) (replies : List Reply) (asks : List Ask) (last : Point) → point.admitted ≡ o ∷ [] → IsGreeted h s x secret o → All IsReadAgain labels
      → Told1 h s point (askings_of (map (label_request x) labels)) replies asks last → Added labels point o last
  all_say [] point o [] asks last at greeted each told = ([], ap (λ (p : Point). p.entries) told.1 ∙ sym (append-nil point.entries), nothing h s o [] [] refl)
  all_say (f ∷ labels) point o (r ∷ rs) asks last at greeted each told =
      let outcome = told.0 in
      let who : admitted_in point 0 ≡ o = ap (λ (ws : List (Option ℕ)). unwrap_or (slice_get ws 0) None) at in
      let number : s + 0 ≡ s = omega arith in
      let has : HasOutcome h point.entries s o (label_request x f) outcome = rw (← who, ← number) told.2 in
      let first = outcome_says point.entries o f outcome greeted (All-head IsReadAgain f labels each) has in
      let after : (behind point 0 outcome).admitted ≡ o ∷ [] = ap (λ (ws : List (Option ℕ)). slice_set ws 0 outcome.who) at ∙ ap (λ (w : Option ℕ). w ∷ []) first.0 in
      let others = all_say labels (behind point 0 outcome) o rs told.1 last after greeted (All-tail IsReadAgain f labels each) told.5 in
      (outcome.added ++ others.0, others.1 ∙ append_assoc point.entries outcome.added others.0, says_more h s o f labels outcome.added others.0 first.1 others.2)
  all_say [] point o (r ∷ rs) asks last at greeted each told = absurd told
  all_say (f ∷ labels) point o [] asks last at greeted each told = absurd told

  -- the hello adds nothing
  hello_greets : (es : List EntryTree) (outcome : Outcome) → HasOutcome h es s None (Hello x secret) outcome → (outcome.added ≡ []) × IsGreeted h s x secret outcome.who
  hello_greets es outcome (answers.answered is) =
      let found = admitted h.principals x secret in
      (ap (λ (v : Outcome). v.added) is ∙ greeted_added (length es) s found, inr (ap (λ (v : Outcome). v.who) is ∙ greeted_who (length es) s found))
  hello_greets es outcome (answers.given_up wants is) = (ap (λ (v : Outcome). v.added) is, inl (ap (λ (v : Outcome). v.who) is))

  alone_says : (es : List EntryTree) (labels : List FormulaTree) (replies : List Reply) (asks : List Ask) (last : Point) → All IsReadAgain labels
      → Told1 h s (at_first es) (askings_of (bundle_requests x secret labels)) replies asks last
      → (added : List EntryTree) × (last.entries ≡ es ++ added) × AreOfPeer h s x secret labels added
  alone_says es labels [] asks last each told = absurd told
  alone_says es labels (r ∷ rs) asks last each told =
      let outcome = told.0 in
      let number : s + 0 ≡ s = omega arith in
      let has : HasOutcome h es s None (Hello x secret) outcome = rw (← number) told.2 in
      let greets = hello_greets es outcome has in
      let others = all_say labels (behind (at_first es) 0 outcome) outcome.who rs told.1 last refl greets.1 each told.5 in
      let entries : es ++ outcome.added ≡ es = ap (λ (added : List EntryTree). es ++ added) greets.0 ∙ append-nil es in
      (others.0, others.1 ∙ ap (λ (front : List EntryTree). front ++ others.0) entries, of_peer h s x secret outcome.who labels others.0 greets.1 others.2)

pub lone_peers_say : LonePeersSayLabels
lone_peers_say h es s x secret text labels replies asks last named is told = alone_says h s x secret named es labels replies asks last (bundle_read text labels is) told
