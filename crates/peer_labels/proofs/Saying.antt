-- What becomes of labels that a peer says, one after another.
use Rattle.std.proofs.Common.{◌≡◌, ◌<◌, ◌+◌, ◌⊎◌, inl, inr, ℕ, List, [], ◌∷◌, ◌++◌, length, get_or, take, drop, map, Bool, true, false, Contains, Option, Some, None, Result, refl, sym, ap, ◌∙◌, subst, arith}
use Rattle.std.specs.Result.{is_err}
use Rattle.std.proofs.lemmas.List.{append-nil, append_assoc, get_or-map, length-map, length_push, map-append, take-append-drop, take_more}
use Rattle.std.proofs.lemmas.List.Elements.{Contains-append_left, Contains-append_right, Contains-push_cases}
use Rattle.nal_term.specs.Trees.{FormulaTree, formula_tree, name, says}
use Rattle.nal_term.specs.declared.formulas.Formula.{Formula}
use Rattle.label_store.specs.LabelRows.{LabelRow}
use Rattle.policy_history.specs.declared.heads.Head.{Head}
use Rattle.policy_history.specs.declared.events.Due.{Due}
use Rattle.policy_history.specs.declared.events.Entry.{Entry}
use Rattle.policy_history.specs.declared.events.Refusal.{Refusal}
use Rattle.policy_history.specs.Events.{EntryTree, EventTree, entry_tree, name_of, say}
use Rattle.policy_history.specs.Machine.{refusal_of, replay}
use Rattle.policy_history.specs.States.{State}
use Rattle.policy_history.specs.Values.{decision, entry_trees}
use Rattle.policy_history.proofs.ForCallers.{replay_accepted}
use Rattle.peer_labels.specs.Carrying.{AreSaidByPeer, Carries, accepted, done, refused, said_by}
use Rattle.peer_labels.specs.Inner.Saying.{IsSaidOrRefused}

-- the event by which a label is said
pub said_event : (h : Head) (session p : ℕ) (spelled : List ℕ) (copy f : FormulaTree) → spelled ≡ name_of h.principals p → copy ≡ f → say (Some (name spelled)) (Some copy) ≡ (said_by h session p f).event
said_event h session p spelled copy f known same = λ i. say (Some (name (known i))) (Some (same i))

-- a label is refused exactly where an error is decided of the event by which it is said
module _ (h : Head) (s : State) (session p : ℕ) (event said : EventTree) (same : event ≡ said) (decided : Result Due Refusal) (decided_is : decided ≡ decision h s session p event)
    (wrong : Bool) (wrong_is : wrong ≡ is_err decided) where
  wrong_said : wrong ≡ is_err (decision h s session p said)
  wrong_said = wrong_is ∙ ap is_err decided_is ∙ ap (λ (e : EventTree). is_err (decision h s session p e)) same

  pub refused_where : wrong ≡ true → (refusal : Refusal) × (refusal_of h s session p said ≡ Some refusal)
  refused_where told = of (refusal_of h s session p said) refl (sym wrong_said ∙ told)
    where
      of : (o : Option Refusal) → refusal_of h s session p said ≡ o → is_err (decision h s session p said) ≡ true → (refusal : Refusal) × (refusal_of h s session p said ≡ Some refusal)
      of None r against = absurd (cc (rw r at against))
      of (Some refusal) r against = (refusal, r)

  pub free_where : wrong ≡ false → refusal_of h s session p said ≡ None
  free_where told = of (refusal_of h s session p said) refl (sym wrong_said ∙ told)
    where
      of : (o : Option Refusal) → refusal_of h s session p said ≡ o → is_err (decision h s session p said) ≡ false → refusal_of h s session p said ≡ None
      of None r free = r
      of (Some refusal) r free = absurd (cc (rw r at free))

-- one entry more, as its plain value
pub entry_more : (es now : List Entry) (entry : Entry) (x : EntryTree) → now ≡ es ++ entry ∷ [] → entry_tree entry ≡ x → entry_trees now ≡ entry_trees es ++ x ∷ []
entry_more es now entry x more is = ap entry_trees more ∙ map-append entry_tree es (entry ∷ []) ∙ ap (λ (y : EntryTree). entry_trees es ++ y ∷ []) is

-- some labels were said: the entries that stand now, how many labels were accepted, and how many refused
pub record IsCarried (h : Head) (session p : ℕ) (before now : List EntryTree) (labels : List FormulaTree) (total against : ℕ) : Type 0 where
  pub added : List EntryTree
  pub entries : now ≡ before ++ added
  pub count : length added ≡ total
  pub carries : Carries h session p before labels added against

module _ (h : Head) (session p : ℕ) where
  -- no label was said yet
  pub none_carried : (es : List EntryTree) → IsCarried h session p es es [] 0 0
  none_carried es = record { added = []; entries = sym (append-nil es); count = refl; carries = done }

  -- what the machine says to a label behind these entries
  abbrev Answers : Option Refusal → FormulaTree → List EntryTree → Type 0
  Answers answer f es = refusal_of h (replay h es) session p (said_by h session p f).event ≡ answer

  regrouped : (es added : List EntryTree) (x : EntryTree) → es ++ x ∷ added ≡ (es ++ x ∷ []) ++ added
  regrouped es added x = sym (append_assoc es (x ∷ []) added)

  -- ---- One label more

  last_accepted : {es added : List EntryTree} {labels : List FormulaTree} {n : ℕ} (f : FormulaTree) → Carries h session p es labels added n → Answers None f (es ++ added)
      → Carries h session p es (labels ++ f ∷ []) (added ++ said_by h session p f ∷ []) n
  last_accepted f (done {es = es}) free = accepted f (subst (Answers None f) (append-nil es) free) done
  last_accepted f (accepted {es = es} {added = added} g first later) free =
      accepted g first (last_accepted f later (subst (Answers None f) (regrouped es added (said_by h session p g)) free))
  last_accepted f (refused g refusal first later) free = refused g refusal first (last_accepted f later free)

  last_refused : {es added : List EntryTree} {labels : List FormulaTree} {n : ℕ} (f : FormulaTree) (refusal : Refusal) → Carries h session p es labels added n
      → Answers (Some refusal) f (es ++ added) → Carries h session p es (labels ++ f ∷ []) added (n + 1)
  last_refused f refusal (done {es = es}) against = refused f refusal (subst (Answers (Some refusal) f) (append-nil es) against) done
  last_refused f refusal (accepted {es = es} {added = added} g first later) against =
      accepted g first (last_refused f refusal later (subst (Answers (Some refusal) f) (regrouped es added (said_by h session p g)) against))
  last_refused f refusal (refused g other first later) against = refused g other first (last_refused f refusal later against)

  pub one_accepted : {before now later : List EntryTree} {labels : List FormulaTree} {total against : ℕ} (f : FormulaTree) → IsCarried h session p before now labels total against
      → IsSaidOrRefused h session p f now later true → IsCarried h session p before later (labels ++ f ∷ []) (total + 1) against
  one_accepted {before = before} f c (free, next) = record {
    added = c.added ++ said_by h session p f ∷ [];
    entries = next ∙ ap (λ (xs : List EntryTree). xs ++ said_by h session p f ∷ []) c.entries ∙ append_assoc before c.added (said_by h session p f ∷ []);
    count = length_push c.added (said_by h session p f) ∙ ap (λ n. n + 1) c.count;
    carries = last_accepted f c.carries (subst (Answers None f) c.entries free);
  }

  pub one_refused : {before now later : List EntryTree} {labels : List FormulaTree} {total against : ℕ} (f : FormulaTree) → IsCarried h session p before now labels total against
      → IsSaidOrRefused h session p f now later false → IsCarried h session p before later (labels ++ f ∷ []) total (against + 1)
  one_refused f c (refusal, same) = record {
    added = c.added;
    entries = same ∙ c.entries;
    count = c.count;
    carries = last_refused f refusal.0 c.carries (subst (Answers (Some refusal.0) f) c.entries refusal.1);
  }

-- the front of the labels that is longer by one
pub front_more : (labels : List Formula) (label : Formula) (k : ℕ) → k < length labels → label ≡ get_or labels k label
    → take (k + 1) (map formula_tree labels) ≡ take k (map formula_tree labels) ++ formula_tree label ∷ []
front_more labels label k room at =
    let within : k < length (map formula_tree labels) = omega (arith, length-map labels formula_tree, room) in
    let item : get_or (map formula_tree labels) k (formula_tree label) ≡ formula_tree label = get_or-map formula_tree labels k label (formula_tree label) room ∙ ap formula_tree (sym at) in
    take_more (map formula_tree labels) k (formula_tree label) within ∙ ap (λ (x : FormulaTree). take k (map formula_tree labels) ++ x ∷ []) item

-- ---- The rows of the labels that a peer said

module _ (h : Head) (session p : ℕ) (below : p < length h.principals) where
  -- the row is `p says F`, held by p, for one of these
  abbrev IsSaid : List FormulaTree → LabelRow → Type 0
  IsSaid labels row = (f : FormulaTree) × Contains labels f × (row.1 ≡ p) × (row.2 ≡ says (name (name_of h.principals p)) f)

  said_among : (f : FormulaTree) (labels : List FormulaTree) (row : LabelRow) → IsSaid labels row → IsSaid (f ∷ labels) row
  said_among f labels row (g, there, holder, formula) = (g, Contains-append_right (f ∷ []) labels g there, holder, formula)

  -- an accepted label adds its row alone
  row_added : (es : List EntryTree) (f : FormulaTree) (labels : List FormulaTree) (row : LabelRow) → Answers h session p None f es
      → Contains (replay h (es ++ said_by h session p f ∷ [])).labels row → Contains (replay h es).labels row ⊎ IsSaid (f ∷ labels) row
  row_added es f labels row free has =
      let s = replay h es in
      let next = replay_accepted h es (said_by h session p f) (below, free) in
      of (Contains-push_cases s.labels (s.entries + 1, p, says (name (name_of h.principals p)) f) row (subst (λ (t : State). Contains t.labels row) next has))
    where
      of : Contains (replay h es).labels row ⊎ ((replay h es).entries + 1, p, says (name (name_of h.principals p)) f) ≡ row → Contains (replay h es).labels row ⊎ IsSaid (f ∷ labels) row
      of (inl old) = inl old
      of (inr same) = inr (f, (0, omega arith, refl), ap (λ (r : LabelRow). r.1) (sym same), ap (λ (r : LabelRow). r.2) (sym same))

  all_said : {es added : List EntryTree} {labels : List FormulaTree} {n : ℕ} → Carries h session p es labels added n → AreSaidByPeer h p labels es (es ++ added)
  all_said (done {es = es}) row has = inl (subst (λ (xs : List EntryTree). Contains (replay h xs).labels row) (append-nil es) has)
  all_said (accepted {es = es} {added = added} {labels = labels} f free later) row has =
      of (all_said later row (subst (λ (xs : List EntryTree). Contains (replay h xs).labels row) (regrouped h session p es added (said_by h session p f)) has))
    where
      of : Contains (replay h (es ++ said_by h session p f ∷ [])).labels row ⊎ IsSaid labels row → Contains (replay h es).labels row ⊎ IsSaid (f ∷ labels) row
      of (inl here) = row_added es f labels row free here
      of (inr said) = inr (said_among f labels row said)
  all_said (refused {es = es} {labels = labels} f refusal against later) row has = of (all_said later row has)
    where
      of : Contains (replay h es).labels row ⊎ IsSaid labels row → Contains (replay h es).labels row ⊎ IsSaid (f ∷ labels) row
      of (inl old) = inl old
      of (inr said) = inr (said_among f labels row said)

  -- where a front of the labels was said, each new row is of one of the labels
  pub front_said : {before now : List EntryTree} {total against : ℕ} (labels : List FormulaTree) (k : ℕ) → IsCarried h session p before now (take k labels) total against
      → AreSaidByPeer h p labels before now
  front_said {before = before} labels k c row has = of (all_said c.carries row (subst (λ (xs : List EntryTree). Contains (replay h xs).labels row) c.entries has))
    where
      of : Contains (replay h before).labels row ⊎ IsSaid (take k labels) row → Contains (replay h before).labels row ⊎ IsSaid labels row
      of (inl old) = inl old
      of (inr (f, there, holder, formula)) =
          inr (f, subst (λ (xs : List FormulaTree). Contains xs f) (take-append-drop k labels) (Contains-append_left (take k labels) (drop k labels) f there), holder, formula)
