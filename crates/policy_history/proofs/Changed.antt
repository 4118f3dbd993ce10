-- What the calls of the stores do to the rows, in the words of the machine.
use Rattle.std.proofs.Common.{◌≡◌, ◌≢◌, ◌<◌, ◌≤◌, ◌↔◌, ◌&&◌, ◌⊎◌, inl, inr, ℕ, Bool, true, false, not, nat_eq, nat_le, List, [], ◌∷◌, ◌++◌, get_or, set, Option, Some, None, Result, Ok, Err, is_some, is_none, unwrap_or, IsTrue, OnOk, refl, sym, ap, ◌∙◌, subst, slice_set}
use Rattle.std.specs.List.{position, remove, slice_get}
use Rattle.std.specs.Option.{option_and_then}
use Rattle.std.specs.Cmp.{unsigned_Decides}
use Rattle.std.proofs.lemmas.Bool.{le-leb, cases_lt}
use Rattle.std.proofs.lemmas.List.Quantifiers.{position-Some}
use Rattle.std.proofs.lemmas.Option.{get_or_from_slice_get}
use Rattle.nal_term.specs.TreeKeys.{same_bytes, same_bytes-Decides}
use Rattle.label_store.specs.declared.labels.LabelRefusal.{LabelRefusal}
use Rattle.label_store.specs.declared.labels.LabelRefusal.TheVariants.{NoSuchLabel, NotHolder}
use Rattle.label_store.specs.LabelRows.{LabelRow, has_number, holder_of, label_place}
use Rattle.proof_store.specs.Cases.{CaseRow, is_case, number_of}
use Rattle.policy_history.specs.Rows.{put, alter, take_out}
use Rattle.policy_history.specs.Machine.{is_another}
use Rattle.policy_history.proofs.RowLists.{put_last, put_in_place, alter_in_place, take_out_place}

-- ---- Options

pub some_where : {X : Type 0} (o : Option X) → is_none o ≡ false → (x : X) × (o ≡ Some x)
some_where None e = absurd (cc e)
some_where (Some x) e = (x, refl)

pub none_where : {X : Type 0} (o : Option X) → is_some o ≡ false → o ≡ None
none_where None e = refl
none_where (Some x) e = absurd (cc e)

some_of : {X : Type 0} (o : Option X) → is_none o ≡ false → is_some o ≡ true
some_of None e = absurd (cc e)
some_of (Some x) e = refl

-- what is found under a name is found under the number of the name
pub named : {X : Type 0} (o : Option ℕ) (f : ℕ → Option X) → is_none (option_and_then f o) ≡ false → is_some (f (unwrap_or o 0)) ≡ true
named None f e = absurd (cc e)
named (Some n) f e = some_of (f n) e

-- a case that is found under a name is found under the number of the name
pub named_twice : {X : Type 0} (o : Option ℕ) (f : ℕ → Option ℕ) (g : ℕ → Option X) → is_none (option_and_then g (option_and_then f o)) ≡ false → is_some (option_and_then g (f (unwrap_or o 0))) ≡ true
named_twice None f g e = absurd (cc e)
named_twice (Some n) f g e = some_of (option_and_then g (f n)) e

both_true : (a b : Bool) → a ≡ true → (a && b) ≡ false → b ≡ false
both_true a b e f = rw e at f

and_left : (a b : Bool) → (a && b) ≡ true → a ≡ true
and_left true b e = refl
and_left false b e = e

pub and_right : (a b : Bool) → (a && b) ≡ true → b ≡ true
and_right true b e = e
and_right false b e = absurd (cc e)

pub short_of : (most n : ℕ) → nat_le most n ≡ false → n < most
short_of most n e = of (cases_lt n most)
  where
    of : (n < most) ⊎ (most ≤ n) → n < most
    of (inl h) = h
    of (inr h) = absurd (cc (le-leb most n h, e))

-- a new case has room
pub cases_room : (o : Option ℕ) (f : ℕ → Option ℕ) (n : ℕ) → is_none o ≡ false → (is_none (option_and_then f o) && nat_le 262144 n) ≡ false → f (unwrap_or o 0) ≡ None → n < 262144
cases_room None f n known room none = absurd (cc known)
cases_room (Some k) f n known room none = short_of 262144 n (both_true (is_none (f k)) (nat_le 262144 n) (rw none refl) room)

-- who is spelled, and not without a port, has one
pub bound_there : {X : Type 0} (a : Bool) (o : Option X) → not a ≡ false → (a && is_none o) ≡ false → is_some o ≡ true
bound_there true o e f = some_of o f
bound_there false o e f = absurd (cc e)

-- ---- Rows

-- a row that was put in its place, or last
pub put_either : {R : Type 0} (test : R → Bool) (row : R) (old new : List R) → ((k : ℕ) → position test old ≡ Some k → new ≡ slice_set old k row) → (position test old ≡ None → new ≡ old ++ row ∷ []) → new ≡ put test row old
put_either test row old new known fresh = of (position test old) refl
  where
    of : (o : Option ℕ) → position test old ≡ o → new ≡ put test row old
    of None e = fresh e ∙ sym (put_last test row old e)
    of (Some k) e = known k e ∙ sym (put_in_place test row old k e)

-- a row that went
pub gone : {R X : Type 0} (test : R → Bool) (result : Bool) (found : Option X) (old new : List R) → result ≡ is_some found → is_some found ≡ true
    → (IsTrue result → (k : ℕ) × (position test old ≡ Some k) × (new ≡ remove old k)) → new ≡ take_out test old
gone test result found old new had there removed = let r = removed (had ∙ there) in r.2 ∙ sym (take_out_place test old r.0 r.1)

module _ (number p : ℕ) (result : Result (Unit {0}) LabelRefusal) (old new : List LabelRow) where
  -- a label that is there, and is the caller's, is refused neither way
  not_refused : (result ≡ Err NoSuchLabel) ↔ (holder_of old number ≡ None) → (result ≡ Err NotHolder) ↔ ((h : ℕ) × (holder_of old number ≡ Some h) × (h ≢ p))
      → is_none (holder_of old number) ≡ false → is_another (holder_of old number) p ≡ false → (refusal : LabelRefusal) → result ≡ Err refusal → ⊥
  not_refused no_label not_holder there own NoSuchLabel e = let none = no_label.0 e in absurd (cc (rw none at there))
  not_refused no_label not_holder there own NotHolder e =
      let h = not_holder.0 e in
      let other : not (nat_eq h.0 p) ≡ false = rw h.1 at own in
      h.2 ((unsigned_Decides h.0 p).0 (of (nat_eq h.0 p) other))
    where
      of : (b : Bool) → not b ≡ false → b ≡ true
      of true e = refl
      of false e = absurd (cc e)

  pub deleted : (result ≡ Err NoSuchLabel) ↔ (holder_of old number ≡ None) → (result ≡ Err NotHolder) ↔ ((h : ℕ) × (holder_of old number ≡ Some h) × (h ≢ p))
      → OnOk result ((k : ℕ) × (label_place old number ≡ Some k) × (new ≡ remove old k))
      → is_none (holder_of old number) ≡ false → is_another (holder_of old number) p ≡ false → new ≡ take_out (has_number number) old
  deleted no_label not_holder removed there own = of result refl
    where
      of : (r : Result (Unit {0}) LabelRefusal) → result ≡ r → new ≡ take_out (has_number number) old
      of (Ok u) e = let r = rw e at removed in r.2 ∙ sym (take_out_place (has_number number) old r.0 r.1)
      of (Err refusal) e = absurd (not_refused no_label not_holder there own refusal e)

  given_at : (to k : ℕ) (row : LabelRow) → label_place old number ≡ Some k → slice_get old k ≡ Some row → new ≡ slice_set old k (number, to, row.2)
      → new ≡ alter (has_number number) (λ (x : LabelRow). (x.0, to, x.2)) old
  given_at to k row at read is =
      let w = position-Some (has_number number) old k row at in
      let here : get_or old k row ≡ row = get_or_from_slice_get old k row row read in
      let tells : nat_eq number row.0 ≡ true = subst (λ (x : LabelRow). nat_eq number x.0 ≡ true) here w.1 in
      let same : number ≡ row.0 = (unsigned_Decides number row.0).0 tells in
      let f : LabelRow → LabelRow = λ (x : LabelRow). (x.0, to, x.2) in
      is ∙ ap (λ n. set old k (n, to, row.2)) same ∙ sym (alter_in_place (has_number number) f old k row at ∙ ap (λ (x : LabelRow). set old k (f x)) here)

  -- a label that was given away
  pub given : (to : ℕ) → (result ≡ Err NoSuchLabel) ↔ (holder_of old number ≡ None) → (result ≡ Err NotHolder) ↔ ((h : ℕ) × (holder_of old number ≡ Some h) × (h ≢ p))
      → OnOk result ((k : ℕ) × (row : LabelRow) × (label_place old number ≡ Some k) × (slice_get old k ≡ Some row) × (new ≡ slice_set old k (number, to, row.2)))
      → is_none (holder_of old number) ≡ false → is_another (holder_of old number) p ≡ false → new ≡ alter (has_number number) (λ (row : LabelRow). (row.0, to, row.2)) old
  given to no_label not_holder moved there own = of result refl
    where
      of : (r : Result (Unit {0}) LabelRefusal) → result ≡ r → new ≡ alter (has_number number) (λ (row : LabelRow). (row.0, to, row.2)) old
      of (Ok u) e = let r = rw e at moved in given_at to r.0 r.1 r.2 r.3 r.4
      of (Err refusal) e = absurd (not_refused no_label not_holder there own refusal e)

-- a case whose proof was taken away
pub same_triple : (subject : ℕ) (op : List ℕ) (object : ℕ) (row : CaseRow) → is_case subject op object row ≡ true → (subject ≡ row.0) × (op ≡ row.1) × (object ≡ row.2)
same_triple subject op object row e =
    let front = and_left (nat_eq subject row.0 && same_bytes op row.1) (nat_eq object row.2) e in (
      (unsigned_Decides subject row.0).0 (and_left (nat_eq subject row.0) (same_bytes op row.1) front),
      (same_bytes-Decides op row.1).0 (and_right (nat_eq subject row.0) (same_bytes op row.1) front),
      (unsigned_Decides object row.2).0 (and_right (nat_eq subject row.0 && same_bytes op row.1) (nat_eq object row.2) e),
    )

pub without_proof : (subject : ℕ) (op : List ℕ) (object : ℕ) (result : Bool) (old new : List CaseRow) {X : Type 0} (found : Option X) → result ≡ is_some found → is_some found ≡ true
    → (IsTrue result → (k : ℕ) × (number_of old subject op object ≡ Some k) × (new ≡ slice_set old k (subject, op, object, None)))
    → new ≡ alter (is_case subject op object) (λ (row : CaseRow). (row.0, row.1, row.2, None)) old
without_proof subject op object result old new found had there cleared =
    let r = cleared (had ∙ there) in
    let d : CaseRow = (0, [], 0, None) in
    let at = position-Some (is_case subject op object) old r.0 d r.1 in
    let t = same_triple subject op object (get_or old r.0 d) at.1 in
    let f : CaseRow → CaseRow = λ (row : CaseRow). (row.0, row.1, row.2, None) in
    let row_is : (subject, op, object, None) ≡ f (get_or old r.0 d) = λ i. (t.0 i, t.1 i, t.2 i, None) in
    r.2 ∙ ap (λ (row : CaseRow). set old r.0 row) row_is ∙ sym (alter_in_place (is_case subject op object) f old r.0 d r.1)
