-- The text that a book has written, with one more line.
use Rattle.std.proofs.Common.{◌≡◌, ◌≤◌, ◌+◌, ℕ, Bool, true, false, List, [], ◌∷◌, ◌++◌, length, length-append, take, refl, sym, ap, ◌∙◌, subst, append_assoc, arith}
use Rattle.std.specs.List.{flat_map}
use Rattle.std.proofs.lemmas.Grind.{flat_map-append}
use Rattle.std.proofs.lemmas.List.{append-nil, map-append}
use Rattle.policy_history.specs.declared.events.Entry.{Entry}
use Rattle.policy_history.specs.declared.heads.Head.{Head}
use Rattle.policy_history.specs.Events.{EntryTree, entry_tree, event_tree}
use Rattle.policy_history.specs.Machine.{IsAccepted, replay}
use Rattle.policy_history.specs.PolicyTexts.{front, head_text, line_of}
use Rattle.policy_history.specs.Values.{entry_trees}
use Rattle.verdict_words.specs.Values.{Identity}
use Rattle.policy_book.specs.Books.{HasWritten, SendsFront, entry_of}
use Rattle.policy_book.specs.Inner.Visits.{IsDraft, IsPut, drafted, entries_after}
use Rattle.policy_book.specs.Writes.{IsLineFor}
use Rattle.policy_book.specs.declared.drafts.Draft.{Draft}
use Rattle.policy_book.proofs.Deciding.{free_where}
use Rattle.policy_book.proofs.Spelled.{accepted_is_spelled}

-- the front of the text with one more entry
pub front_more : (h : Head) (es : List EntryTree) (e : EntryTree) → front h (es ++ e ∷ []) ≡ front h es ++ line_of h e
front_more h es e =
    ap (λ (xs : List ℕ). head_text h ++ xs) (flat_map-append (line_of h) es (e ∷ []) ∙ ap (λ (xs : List ℕ). flat_map (line_of h) es ++ xs) (append-nil (line_of h e)))
    ∙ sym (append_assoc (head_text h) (flat_map (line_of h) es) (line_of h e))

module _ {K : Type 0} (sent : K → List ℕ) (synced faults : K → ℕ) (board : Identity Entry Head) (draft : Draft) (line : List ℕ) (start : List ℕ) (start_faults : ℕ) (sink sink_now : K) where
  abbrev h : Head
  h = board.origin.setting

  abbrev before : List EntryTree
  before = entry_trees draft.pass.seen

  abbrev e : EntryTree
  e = entry_of draft.pass.session draft.principal draft.event

  more : front h (entry_trees (draft.pass.seen ++ drafted draft ∷ [])) ≡ front h before ++ line_of h e
  more = ap (front h) (map-append entry_tree draft.pass.seen (drafted draft ∷ [])) ∙ front_more h before e

  put_line : (is_broken : Bool) → HasWritten sent synced faults true false board draft.pass.seen start start_faults sink → IsAccepted h (replay h before) e → line ≡ line_of h e
      → IsPut is_broken (sent sink) (sent sink_now) (synced sink) (synced sink_now) (faults sink) (faults sink_now) line → faults sink ≤ faults sink_now
      → HasWritten sent synced faults true is_broken board (entries_after is_broken draft) start start_faults sink_now
  put_line false written accepted line_is (sends, lasts, same) later =
      let less = written.later in
      let text = sends ∙ ap (λ (xs : List ℕ). xs ++ line) written.text ∙ append_assoc start (front h before) line ∙ ap (λ (xs : List ℕ). start ++ xs) (ap (λ (xs : List ℕ). front h before ++ xs) line_is ∙ sym more) in
      let long = ap length text ∙ length-append start (front h (entry_trees (draft.pass.seen ++ drafted draft ∷ []))) in
      record {
        text = text;
        unopened = λ closed. absurd (cc closed);
        lasts = λ _. omega (arith, lasts, long);
        whole = λ _ _. lasts;
        failed = λ broken. absurd (cc broken);
        unbroken = λ _. same ∙ written.unbroken refl;
        later = omega (arith, less, later);
      }
  put_line true written accepted line_is ((n, within, part), still, count) later =
      let less = written.later in
      let same = written.unbroken refl in
      record {
        text = (e, accepted, subst (λ (xs : List ℕ). SendsFront (start ++ front h before) (sent sink_now) xs) line_is (n, within, part ∙ ap (λ (xs : List ℕ). xs ++ take n line) written.text));
        unopened = λ closed. absurd (cc closed);
        lasts = λ some. subst (λ (k : ℕ). length start + length (front h before) ≤ k) (sym still) (written.lasts some);
        whole = λ unbroken. absurd (cc unbroken);
        failed = λ _. omega (arith, same, count);
        unbroken = λ unbroken. absurd (cc unbroken);
        later = omega (arith, less, later);
      }

  -- the line of a draft was sent and synced, or one of both failed
  pub draft_put : (is_broken : Bool) → IsDraft board draft → IsLineFor h e line → HasWritten sent synced faults true false board draft.pass.seen start start_faults sink
      → IsPut is_broken (sent sink) (sent sink_now) (synced sink) (synced sink_now) (faults sink) (faults sink_now) line → faults sink ≤ faults sink_now
      → HasWritten sent synced faults true is_broken board (entries_after is_broken draft) start start_faults sink_now
  draft_put is_broken is line_for written put later =
      let free = free_where h (replay h before) draft.pass.session draft.principal (event_tree draft.event) _ is.accepted in
      put_line is_broken written (is.principal, free) (line_for.0 (accepted_is_spelled h (replay h before) draft.pass.session draft.principal (event_tree draft.event) free)) put later
