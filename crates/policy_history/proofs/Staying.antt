-- Objects and cases keep their numbers, and labels have those of their entries.
use Rattle.std.proofs.Common.{◌≡◌, ◌<◌, ◌⊎◌, ◌&&◌, inl, inr, ℕ, zero, suc, Bool, true, false, nat_eq, List, [], ◌∷◌, ◌++◌, length, Some, None, refl, sym, ap, ◌∙◌, subst}
use Rattle.std.specs.List.{slice_get, position}
use Rattle.std.proofs.lemmas.List.{map-append}
use Rattle.nal_term.specs.TreeKeys.{same_bytes}
use Rattle.object_table.specs.Objects.{ObjectRow, names_of, number_of}
use Rattle.proof_store.specs.Cases.{CaseRow, is_case, number_of as case_number}
use Rattle.policy_history.specs.declared.heads.Head.{Head}
use Rattle.policy_history.specs.Events.{EventTree, EntryTree, say, transfer, delete, new_object, set_goal, clear_goal, set_proof, clear_proof, bind, unbind}
use Rattle.policy_history.specs.Laws.{CaseNumbersStay, CasesStay, ObjectsStay, SameTriple}
use Rattle.policy_history.specs.Machine.{accepted, after, refusal_of, replay, replay_from}
use Rattle.policy_history.specs.Rows.{put, alter}
use Rattle.policy_history.specs.States.{State, empty_state, object_or_0}
use Rattle.policy_history.proofs.Changed.{same_triple}
use Rattle.policy_history.proofs.RowLaws.{place_alter, place_append, place_put}
use Rattle.policy_history.proofs.Soundness.{after_cases}

-- what one accepted entry keeps, a list of entries keeps
module _ (h : Head) (P : State → Type 0) (keeps : (s : State) (session p : ℕ) (e : EventTree) → refusal_of h s session p e ≡ None → P s → P (accepted h s session p e)) where
  kept_after : (s : State) (e : EntryTree) → P s → P (after h s e)
  kept_after s e holds = of (after_cases h s e)
    where
      of : (after h s e ≡ s) ⊎ ((e.principal < length h.principals) × (refusal_of h s e.session e.principal e.event ≡ None) × (after h s e ≡ accepted h s e.session e.principal e.event)) → P (after h s e)
      of (inl same) = subst P (sym same) holds
      of (inr (below, free, same)) = subst P (sym same) (keeps s e.session e.principal e.event free holds)

  kept_from : (s : State) (es : List EntryTree) → P s → P (replay_from h s es)
  kept_from s [] holds = holds
  kept_from s (e ∷ es) holds = kept_from (after h s e) es (kept_after s e holds)

  pub kept_by_all : (es more : List EntryTree) → P (replay h es) → P (replay h (es ++ more))
  kept_by_all es more holds = subst P (sym (joined (empty_state h) es)) (kept_from (replay h es) more holds)
    where
      joined : (s : State) (es : List EntryTree) → replay_from h s (es ++ more) ≡ replay_from h (replay_from h s es) more
      joined s [] = refl
      joined s (e ∷ es) = joined (after h s e) es

-- ---- Objects

pub objects_stay : ObjectsStay
objects_stay h es more name k at = kept_by_all h (λ (s : State). number_of s.objects name ≡ Some k) keeps es more at
  where
    keeps : (s : State) (session p : ℕ) (e : EventTree) → refusal_of h s session p e ≡ None → number_of s.objects name ≡ Some k → number_of (accepted h s session p e).objects name ≡ Some k
    keeps s session p (new_object x) free at =
        ap (position (same_bytes name)) (map-append (λ (r : ObjectRow). r.0) s.objects ((x, p) ∷ [])) ∙ place_append (same_bytes name) (names_of s.objects) (x ∷ []) k at
    keeps s session p (say (Some t) (Some f)) free at = at
    keeps s session p (say None f) free at = at
    keeps s session p (say (Some t) None) free at = at
    keeps s session p (transfer n to) free at = at
    keeps s session p (delete n) free at = at
    keeps s session p (set_goal op object (Some g)) free at = at
    keeps s session p (set_goal op object None) free at = at
    keeps s session p (clear_goal op object) free at = at
    keeps s session p (set_proof op object (Some ls)) free at = at
    keeps s session p (set_proof op object None) free at = at
    keeps s session p (clear_proof op object) free at = at
    keeps s session p (bind (Some t) port) free at = at
    keeps s session p (bind None port) free at = at
    keeps s session p (unbind (Some t)) free at = at
    keeps s session p (unbind None) free at = at

-- ---- Cases

-- a row of the same triple is of any triple as much
same_test : (p : ℕ) (op : List ℕ) (o : ℕ) (q : ℕ) (oq : List ℕ) (n : ℕ) (x : CaseRow) → is_case q oq n x ≡ true → (r : CaseRow) → r.0 ≡ q → r.1 ≡ oq → r.2 ≡ n → is_case p op o x ≡ is_case p op o r
same_test p op o q oq n x e r a b c =
    let t = same_triple q oq n x e in
    λ i. (nat_eq p ((sym t.0 ∙ sym a) i) && same_bytes op ((sym t.1 ∙ sym b) i)) && nat_eq o ((sym t.2 ∙ sym c) i)

pub case_numbers_stay : CaseNumbersStay
case_numbers_stay h es more subject op object k at = kept_by_all h (λ (s : State). case_number s.cases subject op object ≡ Some k) keeps es more at
  where
    keeps : (s : State) (session p : ℕ) (e : EventTree) → refusal_of h s session p e ≡ None → case_number s.cases subject op object ≡ Some k → case_number (accepted h s session p e).cases subject op object ≡ Some k
    keeps s session p (set_proof o x (Some ls)) free at =
        let n = object_or_0 s x in
        place_put (is_case subject op object) (is_case p o n) (p, o, n, Some ls) s.cases k (λ row e. same_test subject op object p o n row e (p, o, n, Some ls) refl refl refl) at
    keeps s session p (clear_proof o x) free at =
        let n = object_or_0 s x in
        place_alter (is_case subject op object) (is_case p o n) (λ (row : CaseRow). (row.0, row.1, row.2, None)) s.cases k (λ row e. refl) at
    keeps s session p (say (Some t) (Some f)) free at = at
    keeps s session p (say None f) free at = at
    keeps s session p (say (Some t) None) free at = at
    keeps s session p (transfer n to) free at = at
    keeps s session p (delete n) free at = at
    keeps s session p (new_object x) free at = at
    keeps s session p (set_goal o x (Some g)) free at = at
    keeps s session p (set_goal o x None) free at = at
    keeps s session p (clear_goal o x) free at = at
    keeps s session p (set_proof o x None) free at = at
    keeps s session p (bind (Some t) port) free at = at
    keeps s session p (bind None port) free at = at
    keeps s session p (unbind (Some t)) free at = at
    keeps s session p (unbind None) free at = at

-- a row keeps its triple, in its place
module _ (p : CaseRow → Bool) where
  row_put_triple : (row : CaseRow) (xs : List CaseRow) (k : ℕ) (x : CaseRow) → ((y : CaseRow) → p y ≡ true → SameTriple y row) → slice_get xs k ≡ Some x
      → (later : CaseRow) × (slice_get (put p row xs) k ≡ Some later) × SameTriple x later
  row_put_triple row [] k x same at = absurd (cc at)
  row_put_triple row (y ∷ xs) k x same at = of (p y) refl k at (λ j read. row_put_triple row xs j x same read)
    where
      itself : SameTriple x x
      itself = record { subject = refl; op = refl; object = refl }

      of : (b : Bool) → p y ≡ b → (k : ℕ) → slice_get (y ∷ xs) k ≡ Some x → ((j : ℕ) → slice_get xs j ≡ Some x → (later : CaseRow) × (slice_get (put p row xs) j ≡ Some later) × SameTriple x later)
          → (later : CaseRow) × (slice_get (put p row (y ∷ xs)) k ≡ Some later) × SameTriple x later
      of true e zero at rest = let s : y ≡ x = cc at in (row, rw e refl, subst (λ z. SameTriple z row) s (same y e))
      of true e (suc j) at rest = (x, rw e at, itself)
      of false e zero at rest = (x, rw e at, itself)
      of false e (suc j) at rest = let r = rest j at in (r.0, rw e r.1, r.2)

  row_alter_triple : (f : CaseRow → CaseRow) (xs : List CaseRow) (k : ℕ) (x : CaseRow) → ((y : CaseRow) → SameTriple y (f y)) → slice_get xs k ≡ Some x
      → (later : CaseRow) × (slice_get (alter p f xs) k ≡ Some later) × SameTriple x later
  row_alter_triple f [] k x same at = absurd (cc at)
  row_alter_triple f (y ∷ xs) k x same at = of (p y) refl k at (λ j read. row_alter_triple f xs j x same read)
    where
      itself : SameTriple x x
      itself = record { subject = refl; op = refl; object = refl }

      of : (b : Bool) → p y ≡ b → (k : ℕ) → slice_get (y ∷ xs) k ≡ Some x → ((j : ℕ) → slice_get xs j ≡ Some x → (later : CaseRow) × (slice_get (alter p f xs) j ≡ Some later) × SameTriple x later)
          → (later : CaseRow) × (slice_get (alter p f (y ∷ xs)) k ≡ Some later) × SameTriple x later
      of true e zero at rest = let s : y ≡ x = cc at in (f y, rw e refl, subst (λ z. SameTriple z (f y)) s (same y))
      of true e (suc j) at rest = (x, rw e at, itself)
      of false e zero at rest = (x, rw e at, itself)
      of false e (suc j) at rest = let r = rest j at in (r.0, rw e r.1, r.2)

abbrev StandsAs : ℕ → CaseRow → State → Type 0
StandsAs k row s = (later : CaseRow) × (slice_get s.cases k ≡ Some later) × SameTriple row later

after_both : (k : ℕ) (row : CaseRow) (s t : State) → ((x : CaseRow) → slice_get s.cases k ≡ Some x → (later : CaseRow) × (slice_get t.cases k ≡ Some later) × SameTriple x later) → StandsAs k row s → StandsAs k row t
after_both k row s t next (x, at, same) =
    let r = next x at in
    (r.0, r.1, record { subject = same.subject ∙ r.2.subject; op = same.op ∙ r.2.op; object = same.object ∙ r.2.object })

pub cases_stay : CasesStay
cases_stay h es more k row at = kept_by_all h (StandsAs k row) keeps es more (row, at, record { subject = refl; op = refl; object = refl })
  where
    keeps : (s : State) (session p : ℕ) (e : EventTree) → refusal_of h s session p e ≡ None → StandsAs k row s → StandsAs k row (accepted h s session p e)
    keeps s session p (set_proof o x (Some ls)) free stands =
        let n = object_or_0 s x in
        let new : CaseRow = (p, o, n, Some ls) in
        after_both k row s (accepted h s session p (set_proof o x (Some ls)))
        (λ y at. row_put_triple (is_case p o n) new s.cases k y (λ z e. let t = same_triple p o n z e in record { subject = sym t.0; op = sym t.1; object = sym t.2 }) at) stands
    keeps s session p (clear_proof o x) free stands =
        let n = object_or_0 s x in
        after_both k row s (accepted h s session p (clear_proof o x))
        (λ y at. row_alter_triple (is_case p o n) (λ (z : CaseRow). (z.0, z.1, z.2, None)) s.cases k y (λ z. record { subject = refl; op = refl; object = refl }) at) stands
    keeps s session p (say (Some t) (Some f)) free stands = stands
    keeps s session p (say None f) free stands = stands
    keeps s session p (say (Some t) None) free stands = stands
    keeps s session p (transfer n to) free stands = stands
    keeps s session p (delete n) free stands = stands
    keeps s session p (new_object x) free stands = stands
    keeps s session p (set_goal o x (Some g)) free stands = stands
    keeps s session p (set_goal o x None) free stands = stands
    keeps s session p (clear_goal o x) free stands = stands
    keeps s session p (set_proof o x None) free stands = stands
    keeps s session p (bind (Some t) port) free stands = stands
    keeps s session p (bind None port) free stands = stands
    keeps s session p (unbind (Some t)) free stands = stands
    keeps s session p (unbind None) free stands = stands
