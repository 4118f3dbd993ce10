-- How many objects and cases there are at most, and where a case stands that has a number.
use Rattle.std.proofs.Common.{◌≡◌, ◌<◌, ◌≤◌, ◌+◌, ℕ, zero, suc, Bool, true, false, List, [], ◌∷◌, ◌++◌, length, get_or, set, nat_eq, Option, Some, None, refl, sym, ap, ◌∙◌, subst, arith, length-append}
use Rattle.std.specs.List.{slice_get, position}
use Rattle.std.proofs.lemmas.Bool.{leb-true}
use Rattle.std.proofs.lemmas.List.{length-map, length-set}
use Rattle.std.proofs.lemmas.List.Quantifiers.{position-Some}
use Rattle.std.proofs.lemmas.Option.{slice_get-get_or}
use Rattle.nal_term.specs.TreeKeys.{same_bytes}
use Rattle.object_table.specs.Objects.{ObjectRow, names_of, number_of}
use Rattle.proof_store.specs.Cases.{CaseRow, is_case, number_of as case_number}
use Rattle.policy_history.specs.declared.heads.Head.{Head}
use Rattle.policy_history.specs.declared.events.Refusal.TheVariants.{NoSuchObject, JournalFull, ObjectsFull, CasesFull}
use Rattle.policy_history.specs.Events.{EventTree, EntryTree, say, transfer, delete, new_object, set_goal, clear_goal, set_proof, clear_proof, bind, unbind}
use Rattle.policy_history.specs.Machine.{accepted, applies, refusal_of, replay}
use Rattle.policy_history.specs.Laws.{CasesNeverFull}
use Rattle.policy_history.specs.Rows.{put, alter}
use Rattle.policy_history.specs.States.{State, object_or_0}
use Rattle.policy_history.proofs.Acceptance.{line_fits, none_applies}
use Rattle.policy_history.proofs.FirstRefusals.{first_refusal}
use Rattle.policy_history.proofs.Changed.{and_right, cases_room, same_triple, short_of}
use Rattle.policy_history.proofs.RowLists.{put_in_place, put_last}
use Rattle.policy_history.proofs.Staying.{kept_by_all}

module _ {R : Type 0} (p : R → Bool) where
  alter_length : (f : R → R) (xs : List R) → length (alter p f xs) ≡ length xs
  alter_length f [] = refl
  alter_length f (x ∷ xs) = of (p x) refl (alter_length f xs)
    where
      of : (b : Bool) → p x ≡ b → length (alter p f xs) ≡ length xs → length (alter p f (x ∷ xs)) ≡ suc (length xs)
      of true e same = rw e refl
      of false e same = rw e (ap suc same)

  put_bounded : (most : ℕ) (row : R) (xs : List R) → (position p xs ≡ None → length xs < most) → length xs ≤ most → length (put p row xs) ≤ most
  put_bounded most row xs room bound = of (position p xs) refl
    where
      of : (o : Option ℕ) → position p xs ≡ o → length (put p row xs) ≤ most
      of None e =
          let short = room e in
          let longer = ap length (put_last p row xs e) ∙ length-append xs (row ∷ []) in
          omega (arith, longer, short)
      of (Some k) e =
          let same = ap length (put_in_place p row xs k e) ∙ length-set xs k row in
          omega (arith, same, bound)

pub cases_bounded : (h : Head) (es : List EntryTree) → length (replay h es).cases ≤ 262144
cases_bounded h es = kept_by_all h (λ (s : State). length s.cases ≤ 262144) keeps [] es (omega arith)
  where
    keeps : (s : State) (session p : ℕ) (e : EventTree) → refusal_of h s session p e ≡ None → length s.cases ≤ 262144 → length (accepted h s session p e).cases ≤ 262144
    keeps s session p (set_proof o x (Some ls)) free at =
        let n = object_or_0 s x in
        let known = none_applies h s session p (set_proof o x (Some ls)) free NoSuchObject in
        let room = none_applies h s session p (set_proof o x (Some ls)) free CasesFull in
        put_bounded (is_case p o n) 262144 (p, o, n, Some ls) s.cases (λ none. cases_room (number_of s.objects x) (case_number s.cases p o) (length s.cases) known room none) at
    keeps s session p (clear_proof o x) free at =
        let n = object_or_0 s x in
        let same = alter_length (is_case p o n) (λ (row : CaseRow). (row.0, row.1, row.2, None)) s.cases in
        omega (arith, same, at)
    keeps s session p (say (Some t) (Some f)) free at = at
    keeps s session p (say None f) free at = at
    keeps s session p (say (Some t) None) free at = at
    keeps s session p (transfer n to) free at = at
    keeps s session p (delete n) free at = at
    keeps s session p (new_object x) free at = at
    keeps s session p (set_goal o x (Some g)) free at = at
    keeps s session p (set_goal o x None) free at = at
    keeps s session p (clear_goal o x) free at = at
    keeps s session p (set_proof o x None) free at = at
    keeps s session p (bind (Some t) port) free at = at
    keeps s session p (bind None port) free at = at
    keeps s session p (unbind (Some t)) free at = at
    keeps s session p (unbind None) free at = at

-- there are no more cases than entries
cases_few : (h : Head) (es : List EntryTree) → length (replay h es).cases ≤ (replay h es).entries
cases_few h es = kept_by_all h (λ (s : State). length s.cases ≤ s.entries) keeps [] es (omega arith)
  where
    keeps : (s : State) (session p : ℕ) (e : EventTree) → refusal_of h s session p e ≡ None → length s.cases ≤ s.entries → length (accepted h s session p e).cases ≤ (accepted h s session p e).entries
    keeps s session p (set_proof o x (Some ls)) free at =
        let n = object_or_0 s x in
        put_bounded (is_case p o n) (s.entries + 1) (p, o, n, Some ls) s.cases (λ none. omega (arith, at)) (omega (arith, at))
    keeps s session p (clear_proof o x) free at =
        let n = object_or_0 s x in
        let same = alter_length (is_case p o n) (λ (row : CaseRow). (row.0, row.1, row.2, None)) s.cases in
        omega (arith, same, at)
    keeps s session p (say (Some t) (Some f)) free at = omega (arith, at)
    keeps s session p (say None f) free at = omega (arith, at)
    keeps s session p (say (Some t) None) free at = omega (arith, at)
    keeps s session p (transfer n to) free at = omega (arith, at)
    keeps s session p (delete n) free at = omega (arith, at)
    keeps s session p (new_object x) free at = omega (arith, at)
    keeps s session p (set_goal o x (Some g)) free at = omega (arith, at)
    keeps s session p (set_goal o x None) free at = omega (arith, at)
    keeps s session p (clear_goal o x) free at = omega (arith, at)
    keeps s session p (set_proof o x None) free at = omega (arith, at)
    keeps s session p (bind (Some t) port) free at = omega (arith, at)
    keeps s session p (bind None port) free at = omega (arith, at)
    keeps s session p (unbind (Some t)) free at = omega (arith, at)
    keeps s session p (unbind None) free at = omega (arith, at)

-- so there is no room for an entry where there is none for a case
pub cases_never_full : CasesNeverFull
cases_never_full h es session p e is =
    let s = replay h es in
    let first = (first_refusal h s session p e CasesFull).0 is in
    let fits = line_fits h s session p e (first.1 JournalFull (omega arith)) in
    absurd (full e first.0 fits.0)
  where
    full : (e : EventTree) → applies h (replay h es) session p e CasesFull ≡ true → (replay h es).entries < 262144 → ⊥
    full (set_proof op object ls) held fewer =
        let many : 262144 ≤ length (replay h es).cases = leb-true 262144 (length (replay h es).cases) (and_right _ _ held) in
        omega (arith, many, fewer, cases_few h es)
    full (say t f) held fewer = cc held
    full (transfer k to) held fewer = cc held
    full (delete k) held fewer = cc held
    full (new_object x) held fewer = cc held
    full (set_goal op object g) held fewer = cc held
    full (clear_goal op object) held fewer = cc held
    full (clear_proof op object) held fewer = cc held
    full (bind t port) held fewer = cc held
    full (unbind t) held fewer = cc held

pub objects_bounded : (h : Head) (es : List EntryTree) → length (replay h es).objects ≤ 65536
objects_bounded h es = kept_by_all h (λ (s : State). length s.objects ≤ 65536) keeps [] es (omega arith)
  where
    keeps : (s : State) (session p : ℕ) (e : EventTree) → refusal_of h s session p e ≡ None → length s.objects ≤ 65536 → length (accepted h s session p e).objects ≤ 65536
    keeps s session p (new_object x) free at =
        let short = short_of 65536 (length s.objects) (none_applies h s session p (new_object x) free ObjectsFull) in
        let longer = length-append s.objects ((x, p) ∷ []) in
        omega (arith, longer, short)
    keeps s session p (say (Some t) (Some f)) free at = at
    keeps s session p (say None f) free at = at
    keeps s session p (say (Some t) None) free at = at
    keeps s session p (transfer n to) free at = at
    keeps s session p (delete n) free at = at
    keeps s session p (set_goal o x (Some g)) free at = at
    keeps s session p (set_goal o x None) free at = at
    keeps s session p (clear_goal o x) free at = at
    keeps s session p (set_proof o x (Some ls)) free at = at
    keeps s session p (set_proof o x None) free at = at
    keeps s session p (clear_proof o x) free at = at
    keeps s session p (bind (Some t) port) free at = at
    keeps s session p (bind None port) free at = at
    keeps s session p (unbind (Some t)) free at = at
    keeps s session p (unbind None) free at = at

-- an object that has a number is one of the rows
pub object_there : (h : Head) (es : List EntryTree) (name : List ℕ) (k : ℕ) → number_of (replay h es).objects name ≡ Some k → k < 65536
object_there h es name k at =
    let rows = (replay h es).objects in
    let place = position-Some (same_bytes name) (names_of rows) k [] at in
    let same : length (names_of rows) ≡ length rows = length-map rows (λ (r : ObjectRow). r.0) in
    omega (arith, place.0, same, objects_bounded h es)

-- a case that has a number is the row in this place, of the subject and the object
pub case_there : (h : Head) (es : List EntryTree) (subject : ℕ) (op : List ℕ) (object k : ℕ) → case_number (replay h es).cases subject op object ≡ Some k
    → (row : CaseRow) × (slice_get (replay h es).cases k ≡ Some row) × (row.0 ≡ subject) × (row.1 ≡ op) × (row.2 ≡ object) × (k < 262144)
case_there h es subject op object k at =
    let rows = (replay h es).cases in
    let d : CaseRow = (0, [], 0, None) in
    let place = position-Some (is_case subject op object) rows k d at in
    let triple = same_triple subject op object (get_or rows k d) place.1 in
    let within : k < 262144 = omega (arith, place.0, cases_bounded h es) in
    (get_or rows k d, slice_get-get_or rows k d place.0, sym triple.0, sym triple.1, sym triple.2, within)
