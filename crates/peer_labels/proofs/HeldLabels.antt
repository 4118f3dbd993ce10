-- The labels that a legal list of entries leads to: what each is, how many there are, and how long their lines are.
use Rattle.std.proofs.Common.{◌≡◌, ◌≤◌, ◌+◌, ◌*◌, ◌&&◌, ℕ, Bool, true, false, nat_eq, nat_lt, List, [], ◌∷◌, ◌++◌, length, map, if◌then◌else◌, Some, None, refl, sym, ap, ◌∙◌, subst, arith, length-append}
use Rattle.std.specs.Fmt.{decimal}
use Rattle.std.specs.List.{All, flat_map}
use Rattle.std.proofs.lemmas.Bool.{and_parts, leb-true, not-false}
use Rattle.std.proofs.lemmas.Grind.{flat_map-append}
use Rattle.std.proofs.lemmas.List.{map-append, append-nil}
use Rattle.std.proofs.lemmas.List.Elements.{All-cons, All-head, All-nil, All-push, All-tail}
use Rattle.nal_term.specs.Trees.{TermTree, FormulaTree, says}
use Rattle.nal_parse.specs.Canonical.{enclosed, formula_text, part_text, strength, term_text}
use Rattle.label_store.specs.LabelRows.{LabelRow, has_number, labels_of}
use Rattle.policy_history.specs.declared.heads.Head.{Head}
use Rattle.policy_history.specs.declared.events.Refusal.TheVariants.{BadFormula}
use Rattle.policy_history.specs.Events.{EventTree, EntryTree, say, transfer, delete, new_object, set_goal, clear_goal, set_proof, clear_proof, bind, unbind, name_of}
use Rattle.policy_history.specs.Machine.{IsLegal, IsLegalFrom, accepted, after, is_stated, is_statement, label_fits, refusal_of, replay, replay_from}
use Rattle.policy_history.specs.PolicyLines.{entry_line}
use Rattle.policy_history.specs.PolicyTexts.{ended, line_of}
use Rattle.policy_history.specs.Rows.{alter, take_out}
use Rattle.policy_history.specs.States.{State, empty_state}
use Rattle.policy_history.proofs.ForCallers.{accepted_after, lines_bounded, none_applies, plain_tests}
use Rattle.peer_labels.specs.Bundles.{IsLabel, label_word}

-- the line of a label, with its line feed
abbrev pub label_line : FormulaTree → List ℕ
label_line f = ended (label_word ++ formula_text f)

-- the labels of some rows
abbrev labels_in : List LabelRow → List FormulaTree
labels_in rows = map (λ (row : LabelRow). row.2) rows

-- each is a label, there are at most n, and their lines have at most so many bytes, and 5 for each of n
pub record AreHeld (labels : List FormulaTree) (n bytes : ℕ) : Type 0 where
  pub each : All IsLabel labels
  pub few : length labels ≤ n
  pub short : length (flat_map label_line labels) ≤ bytes + 5 * n

held_within : {labels : List FormulaTree} {n bytes : ℕ} (m most : ℕ) → AreHeld labels n bytes → n ≤ m → bytes ≤ most → AreHeld labels m most
held_within m most held a b = record { each = held.each; few = omega (arith, held.few, a); short = omega (arith, held.short, a, b) }

-- ---- A part of a list, in its order

data IsPart : List FormulaTree → List FormulaTree → Type 0 where
  none : IsPart [] []
  left_out : {fs gs : List FormulaTree} (g : FormulaTree) → IsPart fs gs → IsPart fs (g ∷ gs)
  kept : {fs gs : List FormulaTree} (g : FormulaTree) → IsPart fs gs → IsPart (g ∷ fs) (g ∷ gs)

whole : (fs : List FormulaTree) → IsPart fs fs
whole [] = none
whole (f ∷ fs) = kept f (whole fs)

part_each : {fs gs : List FormulaTree} → IsPart fs gs → All IsLabel gs → All IsLabel fs
part_each none each = All-nil IsLabel
part_each (left_out {gs = gs} g part) each = part_each part (All-tail IsLabel g gs each)
part_each (kept {fs = fs} {gs = gs} g part) each = All-cons IsLabel g fs (All-head IsLabel g gs each) (part_each part (All-tail IsLabel g gs each))

part_few : {fs gs : List FormulaTree} → IsPart fs gs → length fs ≤ length gs
part_few none = omega arith
part_few (left_out g part) = omega (arith, part_few part)
part_few (kept g part) = omega (arith, part_few part)

part_short : {fs gs : List FormulaTree} → IsPart fs gs → length (flat_map label_line fs) ≤ length (flat_map label_line gs)
part_short none = omega arith
part_short (left_out {gs = gs} g part) = omega (arith, part_short part, length-append (label_line g) (flat_map label_line gs))
part_short (kept {fs = fs} {gs = gs} g part) =
    omega (arith, part_short part, length-append (label_line g) (flat_map label_line fs), length-append (label_line g) (flat_map label_line gs))

held_part : {fs gs : List FormulaTree} {n bytes : ℕ} → IsPart fs gs → AreHeld gs n bytes → AreHeld fs n bytes
held_part part held = record { each = part_each part held.each; few = omega (arith, part_few part, held.few); short = omega (arith, part_short part, held.short) }

-- ---- What changes of the rows leave of the labels

module _ (passes : LabelRow → Bool) where
  altered : (change : LabelRow → LabelRow) → ((row : LabelRow) → (change row).2 ≡ row.2) → (rows : List LabelRow) → labels_in (alter passes change rows) ≡ labels_in rows
  altered change same [] = refl
  altered change same (row ∷ rows) = of (passes row) refl (altered change same rows)
    where
      of : (b : Bool) → passes row ≡ b → labels_in (alter passes change rows) ≡ labels_in rows → labels_in (alter passes change (row ∷ rows)) ≡ labels_in (row ∷ rows)
      of true e later = rw e (ap (λ f. f ∷ labels_in rows) (same row))
      of false e later = rw e (ap (λ fs. row.2 ∷ fs) later)

  taken_out : (rows : List LabelRow) → IsPart (labels_in (take_out passes rows)) (labels_in rows)
  taken_out [] = none
  taken_out (row ∷ rows) = of (passes row) refl (taken_out rows)
    where
      of : (b : Bool) → passes row ≡ b → IsPart (labels_in (take_out passes rows)) (labels_in rows) → IsPart (labels_in (take_out passes (row ∷ rows))) (labels_in (row ∷ rows))
      of true e later = rw e (left_out row.2 (whole (labels_in rows)))
      of false e later = rw e (kept row.2 later)

-- ---- Each entry that is accepted

part_length : (asked : ℕ) (f : FormulaTree) (bytes : List ℕ) → length (part_text asked f bytes) ≤ length bytes + 2
part_length asked f bytes = of (nat_lt (strength f) asked)
  where
    of : (b : Bool) → length (if b then enclosed bytes else bytes) ≤ length bytes + 2
    of true = omega (arith, length-append bytes (41 ∷ []))
    of false = omega arith

-- the line of a label is at most 5 bytes longer than that of the entry that said it
label_length : (session : ℕ) (name : List ℕ) (t : TermTree) (f : FormulaTree) → length (label_line (says t f)) ≤ length (entry_line session name (say (Some t) (Some f))) + 5
label_length session name t f =
    let a = term_text t in
    let b = formula_text f in
    let p = part_text 4 f b in
    let here : length (label_line (says t f)) ≡ 6 + (length a + (6 + length p)) + 1 = simp length-append (omega arith) in
    let there : length (entry_line session name (say (Some t) (Some f))) ≡ length (decimal session) + (1 + (length name + (1 + (4 + (length a + (3 + length b)))))) + 1 = simp length-append (omega arith) in
    omega (arith, here, there, part_length 4 f b)

said_label : (h : Head) (s : State) (session p : ℕ) (t : TermTree) (f : FormulaTree) → refusal_of h s session p (say (Some t) (Some f)) ≡ None → IsLabel (says t f)
said_label h s session p t f free =
    let tests = and_parts (is_stated (Some t)) (is_statement (Some f) && label_fits (Some t) (Some f)) (not-false _ (none_applies h s session p (say (Some t) (Some f)) free BadFormula)) in
    let more = and_parts (is_statement (Some f)) (label_fits (Some t) (Some f)) tests.1 in
    let a = (plain_tests.terms t).0 tests.0 in
    let b = (plain_tests.formulas f).0 more.0 in
    let c = and_parts _ _ more.1 in
    record {
      fits = record { length_limit = leb-true _ _ c.0; level_limit = leb-true _ _ c.1 };
      closed = λ x. rw (a.1 x) (b.1 x);
      said = (t, f, refl);
    }

held_said : (labels : List FormulaTree) (n bytes more : ℕ) (f : FormulaTree) → IsLabel f → length (label_line f) ≤ more + 5 → AreHeld labels n bytes → AreHeld (labels ++ f ∷ []) (n + 1) (bytes + more)
held_said labels n bytes more f is small held =
    let one = length-append labels (f ∷ []) in
    let split = ap length (flat_map-append label_line labels (f ∷ [])) ∙ length-append (flat_map label_line labels) (label_line f ++ []) in
    let last = ap length (append-nil (label_line f)) in
    record {
      each = All-push IsLabel labels f held.each is;
      few = omega (arith, one, held.few);
      short = omega (arith, split, last, held.short, small);
    }

-- an entry that is accepted adds at most one label, whose line is not much longer than its own
module _ (h : Head) (s : State) (session p n bytes : ℕ) (held : AreHeld (labels_in s.labels) n bytes) where
  abbrev line : EventTree → List ℕ
  line e = entry_line session (name_of h.principals p) e

  same : (more : ℕ) → AreHeld (labels_in s.labels) (n + 1) (bytes + more)
  same more = held_within (n + 1) (bytes + more) held (omega arith) (omega arith)

  held_accepted : (e : EventTree) → refusal_of h s session p e ≡ None → AreHeld (labels_in (accepted h s session p e).labels) (n + 1) (bytes + length (line e))
  held_accepted (say (Some t) (Some f)) free =
      let e = say (Some t) (Some f) in
      rw (map-append (λ (row : LabelRow). row.2) s.labels ((s.entries + 1, p, says t f) ∷ []))
      (held_said (labels_in s.labels) n bytes (length (line e)) (says t f) (said_label h s session p t f free) (label_length session (name_of h.principals p) t f) held)
  held_accepted (transfer k to) free =
      subst (λ fs. AreHeld fs (n + 1) (bytes + length (line (transfer k to)))) (sym (altered (has_number k) _ (λ row. refl) s.labels)) (same (length (line (transfer k to))))
  held_accepted (delete k) free = held_part (taken_out (has_number k) s.labels) (same (length (line (delete k))))
  held_accepted (say None f) free = same (length (line (say None f)))
  held_accepted (say (Some t) None) free = same (length (line (say (Some t) None)))
  held_accepted (new_object x) free = same (length (line (new_object x)))
  held_accepted (set_goal op object (Some g)) free = same (length (line (set_goal op object (Some g))))
  held_accepted (set_goal op object None) free = same (length (line (set_goal op object None)))
  held_accepted (clear_goal op object) free = same (length (line (clear_goal op object)))
  held_accepted (set_proof op object (Some ls)) free = same (length (line (set_proof op object (Some ls))))
  held_accepted (set_proof op object None) free = same (length (line (set_proof op object None)))
  held_accepted (clear_proof op object) free = same (length (line (clear_proof op object)))
  held_accepted (bind (Some t) port) free = same (length (line (bind (Some t) port)))
  held_accepted (bind None port) free = same (length (line (bind None port)))
  held_accepted (unbind (Some t)) free = same (length (line (unbind (Some t))))
  held_accepted (unbind None) free = same (length (line (unbind None)))

-- ---- All entries

held_from : (h : Head) (s : State) (es : List EntryTree) (n bytes : ℕ) → IsLegalFrom h s es → AreHeld (labels_in s.labels) n bytes
    → AreHeld (labels_in (replay_from h s es).labels) (n + length es) (bytes + length (flat_map (line_of h) es))
held_from h s [] n bytes legal held = held_within (n + 0) (bytes + 0) held (omega arith) (omega arith)
held_from h s (e ∷ es) n bytes (first, legal) held =
    let long = length (line_of h e) in
    let here : AreHeld (labels_in (after h s e).labels) (n + 1) (bytes + long) =
    subst (λ (t : State). AreHeld (labels_in t.labels) (n + 1) (bytes + long)) (sym (accepted_after h s e first)) (held_accepted h s e.session e.principal n bytes held e.event first.1) in
    let split = length-append (line_of h e) (flat_map (line_of h) es) in
    held_within (n + length (e ∷ es)) (bytes + length (flat_map (line_of h) (e ∷ es))) (held_from h (after h s e) es (n + 1) (bytes + long) legal here) (omega arith) (omega (arith, split))

holders_part : (holder : ℕ) (rows : List LabelRow) → IsPart (labels_of rows holder) (labels_in rows)
holders_part holder [] = none
holders_part holder (row ∷ rows) = of (nat_eq holder row.1) refl (holders_part holder rows)
  where
    of : (b : Bool) → nat_eq holder row.1 ≡ b → IsPart (labels_of rows holder) (labels_in rows) → IsPart (labels_of (row ∷ rows) holder) (labels_in (row ∷ rows))
    of true e later = rw e (kept row.2 later)
    of false e later = rw e (left_out row.2 later)

-- what a holder has after a legal list of entries
pub held_labels : (h : Head) (es : List EntryTree) (holder : ℕ) → IsLegal h es → length es ≤ 262144 → AreHeld (labels_of (replay h es).labels holder) 262144 33554432
held_labels h es holder legal short =
    let nothing : AreHeld [] 0 0 = record { each = All-nil IsLabel; few = omega arith; short = omega arith } in
    let all = held_from h (empty_state h) es 0 0 legal nothing in
    held_part (holders_part holder (replay h es).labels) (held_within 262144 33554432 all (omega (arith, short)) (omega (arith, lines_bounded h es legal)))
