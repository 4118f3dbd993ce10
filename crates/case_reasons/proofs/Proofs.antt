-- Which entry registered a proof.
use Rattle.std.proofs.Common.{◌≡◌, ◌+◌, ◌&&◌, ℕ, zero, suc, Bool, true, false, nat_eq, is_none, List, Option, Some, None, refl, sym, ap, ◌∙◌, subst, arith}
use Rattle.std.specs.Cmp.{unsigned_Decides}
use Rattle.std.specs.List.{slice_get, find}
use Rattle.std.specs.Option.{option_map, option_and_then}
use Rattle.std.proofs.lemmas.Option.{slice_get_within}
use Rattle.nal_term.specs.TreeKeys.{same_bytes, same_bytes-Decides}
use Rattle.proof_lines.specs.Lines.{LineTree}
use Rattle.object_table.specs.Objects.{number_of}
use Rattle.proof_store.specs.Cases.{CaseRow, is_case}
use Rattle.policy_history.specs.declared.heads.Head.{Head}
use Rattle.policy_history.specs.declared.events.Refusal.TheVariants.{NoSuchObject, BadProof}
use Rattle.policy_history.specs.Events.{EventTree, EntryTree, say, transfer, delete, new_object, set_goal, clear_goal, set_proof, clear_proof, bind, unbind}
use Rattle.policy_history.specs.Judged.{proof_for}
use Rattle.policy_history.specs.Machine.{IsLegal, accepted, refusal_of, replay}
use Rattle.policy_history.specs.Rows.{put, alter}
use Rattle.policy_history.specs.States.{State, object_or_0}
use Rattle.policy_history.proofs.ForCallers.{accepted_at, find_alter, find_is, find_put, none_applies, same_triple}
use Rattle.label_holdings.specs.Entries.{IsLast, entry_at}
use Rattle.case_reasons.specs.Origins.{changes_proof}
use Rattle.case_reasons.proofs.Goals.{and_left, and_right, and_true, itself, not_true}
use Rattle.case_reasons.proofs.Objects.{named_so, number_here}
use Rattle.case_reasons.proofs.Tables.{alter_found, put_found}
use Rattle.case_reasons.proofs.Tracking.{at, next, stays_behind}

abbrev proof_in : CaseRow → Option (List LineTree)
proof_in row = row.3

abbrev bare : CaseRow → CaseRow
bare row = (row.0, row.1, row.2, None)

same_number : (n : ℕ) → nat_eq n n ≡ true
same_number n = (unsigned_Decides n n).1 refl

-- the row of a case is that of its own
own_row : (p : ℕ) (op : List ℕ) (k : ℕ) (ls : Option (List LineTree)) → is_case p op k (p, op, k, ls) ≡ true
own_row p op k ls = and_true (nat_eq p p && same_bytes op op) (nat_eq k k) (and_true (nat_eq p p) (same_bytes op op) (same_number p) (itself op)) (same_number k)

-- the proof that is found, by the row
proof_by_row : (s : State) (p : ℕ) (op : List ℕ) (k : ℕ) → proof_for s p op k ≡ option_and_then proof_in (find (is_case p op k) s.cases)
proof_by_row s p op k = find_is (is_case p op k) proof_in s.cases

-- the rows of two cases that are not one
rows_apart : (p : ℕ) (op : List ℕ) (k q : ℕ) (o : List ℕ) (n : ℕ) → is_case p op k (q, o, n, None) ≡ false → (row : CaseRow) → is_case q o n row ≡ true → is_case p op k row ≡ false
rows_apart p op k q o n apart row passes =
    let t = same_triple q o n row passes in
    subst (λ (a : ℕ). ((nat_eq p a && same_bytes op row.1) && nat_eq k row.2) ≡ false) t.0
    (subst (λ (b : List ℕ). ((nat_eq p q && same_bytes op b) && nat_eq k row.2) ≡ false) t.1
    (subst (λ (c : ℕ). ((nat_eq p q && same_bytes op o) && nat_eq k c) ≡ false) t.2 apart))

no_other : (b : Bool) → (b && false) ≡ true → ⊥
no_other true e = cc e
no_other false e = cc e

-- the proof that an event registers
abbrev pub proof_of_event : EventTree → Option (List LineTree)
proof_of_event (set_proof op object ls) = ls
proof_of_event _ = None

-- the entry names the operation and the object
names_both : (op object o x : List ℕ) → (same_bytes op o && same_bytes object x) ≡ true → (op ≡ o) × (object ≡ x)
names_both op object o x both = ((same_bytes-Decides op o).0 (and_left (same_bytes op o) (same_bytes object x) both), (same_bytes-Decides object x).0 (and_right (same_bytes op o) (same_bytes object x) both))

-- an event of this proof is one that registers it, or that removes it
pub proof_event : (p : ℕ) (op object : List ℕ) (e : EventTree) (entry : EntryTree) → entry.event ≡ e → changes_proof p op object entry ≡ true → (ls : List LineTree) → proof_of_event e ≡ Some ls → e ≡ set_proof op object (Some ls)
proof_event p op object (set_proof o x proof) entry is passes ls has =
    let both : (nat_eq p entry.principal && (same_bytes op o && same_bytes object x)) ≡ true = rw is at passes in
    let names = names_both op object o x (and_right (nat_eq p entry.principal) (same_bytes op o && same_bytes object x) both) in
    subst (λ (y : List ℕ). set_proof o x proof ≡ set_proof y object (Some ls)) (sym names.0) (subst (λ (y : List ℕ). set_proof o x proof ≡ set_proof o y (Some ls)) (sym names.1) (ap (set_proof o x) has))
proof_event p op object (set_goal o x g) entry is passes ls has = absurd (cc has)
proof_event p op object (clear_goal o x) entry is passes ls has = absurd (cc has)
proof_event p op object (say t f) entry is passes ls has = absurd (cc has)
proof_event p op object (transfer n to) entry is passes ls has = absurd (cc has)
proof_event p op object (delete n) entry is passes ls has = absurd (cc has)
proof_event p op object (new_object x) entry is passes ls has = absurd (cc has)
proof_event p op object (clear_proof o x) entry is passes ls has = absurd (cc has)
proof_event p op object (bind t port) entry is passes ls has = absurd (cc has)
proof_event p op object (unbind t) entry is passes ls has = absurd (cc has)

module _ (h : Head) (es : List EntryTree) (legal : IsLegal h es) (p : ℕ) (op object : List ℕ) (k : ℕ) (there : number_of (replay h es).objects object ≡ Some k) where
  module _ (i : ℕ) (session : ℕ) where
    -- an event of another proof leaves this one
    apart_at : (q : ℕ) (o x : List ℕ) → is_none (number_of (at h es i).objects x) ≡ false → (nat_eq p q && (same_bytes op o && same_bytes object x)) ≡ false → is_case p op k (q, o, object_or_0 (at h es i) x, None) ≡ false
    apart_at q o x some other = not_true (is_case p op k (q, o, object_or_0 (at h es i) x, None)) one_case
      where
        one_case : is_case p op k (q, o, object_or_0 (at h es i) x, None) ≡ true → ⊥
        one_case same =
            let n = object_or_0 (at h es i) x in
            let front : (nat_eq p q && same_bytes op o) ≡ true = and_left (nat_eq p q && same_bytes op o) (nat_eq k n) same in
            let name : object ≡ x = named_so h es legal object k there i x some (and_right (nat_eq p q && same_bytes op o) (nat_eq k n) same) in
            cc (sym other ∙ and_true (nat_eq p q) (same_bytes op o && same_bytes object x) (and_left (nat_eq p q) (same_bytes op o) front)
            (and_true (same_bytes op o) (same_bytes object x) (and_right (nat_eq p q) (same_bytes op o) front) ((same_bytes-Decides object x).1 name)))

    leaves : (q : ℕ) (e : EventTree) (entry : EntryTree) → entry.event ≡ e → entry.principal ≡ q → refusal_of h (at h es i) session q e ≡ None → changes_proof p op object entry ≡ false
        → find (is_case p op k) (accepted h (at h es i) session q e).cases ≡ find (is_case p op k) (at h es i).cases
    leaves q (set_proof o x (Some ls)) entry is by free other =
        let s = at h es i in
        let n = object_or_0 s x in
        let apart = apart_at q o x (none_applies h s session q (set_proof o x (Some ls)) free NoSuchObject) (rw (is, by) at other) in
        find_put (is_case p op k) (is_case q o n) (q, o, n, Some ls) s.cases apart (rows_apart p op k q o n apart)
    leaves q (clear_proof o x) entry is by free other =
        let s = at h es i in
        let n = object_or_0 s x in
        let apart = apart_at q o x (none_applies h s session q (clear_proof o x) free NoSuchObject) (rw (is, by) at other) in
        find_alter (is_case p op k) (is_case q o n) bare s.cases (rows_apart p op k q o n apart) (rows_apart p op k q o n apart)
    leaves q (set_proof o x None) entry is by free other = refl
    leaves q (set_goal o x (Some g)) entry is by free other = refl
    leaves q (set_goal o x None) entry is by free other = refl
    leaves q (clear_goal o x) entry is by free other = refl
    leaves q (say (Some t) (Some f)) entry is by free other = refl
    leaves q (say None f) entry is by free other = refl
    leaves q (say (Some t) None) entry is by free other = refl
    leaves q (transfer n to) entry is by free other = refl
    leaves q (delete n) entry is by free other = refl
    leaves q (new_object x) entry is by free other = refl
    leaves q (bind (Some t) port) entry is by free other = refl
    leaves q (bind None port) entry is by free other = refl
    leaves q (unbind (Some t)) entry is by free other = refl
    leaves q (unbind None) entry is by free other = refl

    -- what names the operation and the object names the number
    number_is : (x : List ℕ) → object ≡ x → is_none (number_of (at h es i).objects x) ≡ false → object_or_0 (at h es i) x ≡ k
    number_is x name some = ap (object_or_0 (at h es i)) (sym name) ∙ number_here h es legal object k there i (subst (λ (y : List ℕ). is_none (number_of (at h es i).objects y) ≡ false) (sym name) some)

    -- one of this proof registers it, or removes it
    sets : (q : ℕ) (e : EventTree) (entry : EntryTree) → entry.event ≡ e → entry.principal ≡ q → refusal_of h (at h es i) session q e ≡ None → changes_proof p op object entry ≡ true
        → option_and_then proof_in (find (is_case p op k) (accepted h (at h es i) session q e).cases) ≡ proof_of_event e
    sets q (set_proof o x (Some ls)) entry is by free passes =
        let s = at h es i in
        let both : (nat_eq p q && (same_bytes op o && same_bytes object x)) ≡ true = rw (is, by) at passes in
        let who : p ≡ q = (unsigned_Decides p q).0 (and_left (nat_eq p q) (same_bytes op o && same_bytes object x) both) in
        let names = names_both op object o x (and_right (nat_eq p q) (same_bytes op o && same_bytes object x) both) in
        let number = number_is x names.1 (none_applies h s session q (set_proof o x (Some ls)) free NoSuchObject) in
        subst (λ (r : ℕ). option_and_then proof_in (find (is_case p op k) (put (is_case r o (object_or_0 s x)) (r, o, object_or_0 s x, Some ls) s.cases)) ≡ Some ls) who
        (subst (λ (y : List ℕ). option_and_then proof_in (find (is_case p op k) (put (is_case p y (object_or_0 s x)) (p, y, object_or_0 s x, Some ls) s.cases)) ≡ Some ls) names.0
        (subst (λ (n : ℕ). option_and_then proof_in (find (is_case p op k) (put (is_case p op n) (p, op, n, Some ls) s.cases)) ≡ Some ls) (sym number)
        (ap (option_and_then proof_in) (put_found (is_case p op k) (p, op, k, Some ls) s.cases (own_row p op k (Some ls))))))
    sets q (clear_proof o x) entry is by free passes =
        let s = at h es i in
        let both : (nat_eq p q && (same_bytes op o && same_bytes object x)) ≡ true = rw (is, by) at passes in
        let who : p ≡ q = (unsigned_Decides p q).0 (and_left (nat_eq p q) (same_bytes op o && same_bytes object x) both) in
        let names = names_both op object o x (and_right (nat_eq p q) (same_bytes op o && same_bytes object x) both) in
        let number = number_is x names.1 (none_applies h s session q (clear_proof o x) free NoSuchObject) in
        subst (λ (r : ℕ). option_and_then proof_in (find (is_case p op k) (alter (is_case r o (object_or_0 s x)) bare s.cases)) ≡ None) who
        (subst (λ (y : List ℕ). option_and_then proof_in (find (is_case p op k) (alter (is_case p y (object_or_0 s x)) bare s.cases)) ≡ None) names.0
        (subst (λ (n : ℕ). option_and_then proof_in (find (is_case p op k) (alter (is_case p op n) bare s.cases)) ≡ None) (sym number)
        (ap (option_and_then proof_in) (alter_found (is_case p op k) bare s.cases (λ row passes. passes)) ∙ bared (find (is_case p op k) s.cases))))
      where
        bared : (o : Option CaseRow) → option_and_then proof_in (option_map bare o) ≡ None
        bared None = refl
        bared (Some row) = refl
    sets q (set_proof o x None) entry is by free passes = absurd (cc (none_applies h (at h es i) session q (set_proof o x None) free BadProof))
    sets q (set_goal o x g) entry is by free passes = absurd (no_other (nat_eq p q) (rw (is, by) at passes))
    sets q (clear_goal o x) entry is by free passes = absurd (no_other (nat_eq p q) (rw (is, by) at passes))
    sets q (say t f) entry is by free passes = absurd (no_other (nat_eq p q) (rw (is, by) at passes))
    sets q (transfer n to) entry is by free passes = absurd (no_other (nat_eq p q) (rw (is, by) at passes))
    sets q (delete n) entry is by free passes = absurd (no_other (nat_eq p q) (rw (is, by) at passes))
    sets q (new_object x) entry is by free passes = absurd (no_other (nat_eq p q) (rw (is, by) at passes))
    sets q (bind t port) entry is by free passes = absurd (no_other (nat_eq p q) (rw (is, by) at passes))
    sets q (unbind t) entry is by free passes = absurd (no_other (nat_eq p q) (rw (is, by) at passes))

  stays : (i : ℕ) (e : EntryTree) → slice_get es i ≡ Some e → changes_proof p op object e ≡ false → find (is_case p op k) (accepted h (at h es i) e.session e.principal e.event).cases ≡ find (is_case p op k) (at h es i).cases
  stays i e here other = leaves i e.session e.principal e.event e refl refl (accepted_at h es i e legal here).1 other

  -- the proof is the one of the last entry that changes it
  pub proof_at : (n : ℕ) (e : EntryTree) → IsLast (changes_proof p op object) es n e → proof_for (replay h es) p op k ≡ proof_of_event e.event
  proof_at zero e last = absurd (cc last.stands)
  proof_at (suc i) e last =
      let within = slice_get_within es i e last.stands in
      let one : i + 1 ≡ suc i = omega arith in
      proof_by_row (replay h es) p op k
      ∙ ap (option_and_then proof_in) (stays_behind h es legal (λ (s : State). find (is_case p op k) s.cases) (changes_proof p op object) stays (suc i) (omega (arith, within)) last.later
      ∙ ap (λ (m : ℕ). find (is_case p op k) (at h es m).cases) (sym one) ∙ ap (λ (s : State). find (is_case p op k) s.cases) (next h es legal i e last.stands))
      ∙ sets i e.session e.principal e.event e refl refl (accepted_at h es i e legal last.stands).1 last.passing

  -- and none where no entry does
  pub no_proof : ((m : ℕ) (e : EntryTree) → entry_at es m ≡ Some e → changes_proof p op object e ≡ false) → proof_for (replay h es) p op k ≡ None
  no_proof none = proof_by_row (replay h es) p op k ∙ ap (option_and_then proof_in) (stays_behind h es legal (λ (s : State). find (is_case p op k) s.cases) (changes_proof p op object) stays 0 (omega arith) (λ m e below at. none m e at))
