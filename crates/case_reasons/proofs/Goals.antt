-- Which entry set a goal.
use Rattle.std.proofs.Common.{◌≡◌, ◌≤◌, ◌+◌, ◌&&◌, ℕ, zero, suc, Bool, true, false, nat_eq, is_none, List, length, Option, Some, None, refl, sym, ap, ◌∙◌, subst, arith}
use Rattle.std.specs.Cmp.{unsigned_Decides}
use Rattle.std.specs.List.{slice_get}
use Rattle.std.specs.Option.{option_map}
use Rattle.std.proofs.lemmas.Option.{slice_get_within}
use Rattle.nal_term.specs.Trees.{FormulaTree}
use Rattle.nal_term.specs.TreeKeys.{same_bytes, same_bytes-Decides}
use Rattle.object_table.specs.Objects.{number_of}
use Rattle.goal_store.specs.GoalRows.{GoalRow, goal_of, is_goal}
use Rattle.policy_history.specs.declared.heads.Head.{Head}
use Rattle.policy_history.specs.declared.events.Refusal.TheVariants.{NoSuchObject, BadFormula}
use Rattle.policy_history.specs.Events.{EventTree, EntryTree, say, transfer, delete, new_object, set_goal, clear_goal, set_proof, clear_proof, bind, unbind}
use Rattle.policy_history.specs.Machine.{IsLegal, accepted, refusal_of, replay}
use Rattle.policy_history.specs.Rows.{put, take_out}
use Rattle.policy_history.specs.States.{State, object_or_0}
use Rattle.policy_history.proofs.ForCallers.{accepted_at, find_put, find_take_out, none_applies}
use Rattle.label_holdings.specs.Entries.{IsLast, entry_at}
use Rattle.case_reasons.specs.Origins.{changes_goal}
use Rattle.case_reasons.proofs.Objects.{named_so, number_here}
use Rattle.case_reasons.proofs.Tables.{IsAlone, alone_out, alone_out_other, alone_put, alone_put_other, put_found}
use Rattle.case_reasons.proofs.Tracking.{at, kept_until, next, stays_behind}

pub and_left : (a b : Bool) → (a && b) ≡ true → a ≡ true
and_left true b e = refl
and_left false b e = absurd (cc e)

pub and_right : (a b : Bool) → (a && b) ≡ true → b ≡ true
and_right true b e = e
and_right false b e = absurd (cc e)

pub and_true : (a b : Bool) → a ≡ true → b ≡ true → (a && b) ≡ true
and_true a b e f = rw (e, f) refl

pub not_true : (b : Bool) → (b ≡ true → ⊥) → b ≡ false
not_true true never = absurd (never refl)
not_true false never = refl

pub itself : (x : List ℕ) → same_bytes x x ≡ true
itself x = (same_bytes-Decides x x).1 refl

-- ---- Rows of two goals

module _ (op o : List ℕ) (k n : ℕ) where
  -- the two are one goal
  abbrev Same : Bool
  Same = same_bytes op o && nat_eq k n

  op_is : Same ≡ true → op ≡ o
  op_is e = (same_bytes-Decides op o).0 (and_left (same_bytes op o) (nat_eq k n) e)

  number_is : Same ≡ true → k ≡ n
  number_is e = (unsigned_Decides k n).0 (and_right (same_bytes op o) (nat_eq k n) e)

  new_apart : (g : FormulaTree) → Same ≡ false → is_goal op k (o, n, g) ≡ false
  new_apart g e = e

  rows_apart : Same ≡ false → (row : GoalRow) → is_goal o n row ≡ true → is_goal op k row ≡ false
  rows_apart e row passes =
      let first : o ≡ row.0 = (same_bytes-Decides o row.0).0 (and_left (same_bytes o row.0) (nat_eq n row.1) passes) in
      let second : n ≡ row.1 = (unsigned_Decides n row.1).0 (and_right (same_bytes o row.0) (nat_eq n row.1) passes) in
      subst (λ (x : List ℕ). (same_bytes op x && nat_eq k row.1) ≡ false) first (subst (λ (m : ℕ). (same_bytes op o && nat_eq k m) ≡ false) second e)

  put_alone : (g : FormulaTree) (rows : List GoalRow) → IsAlone (is_goal op k) rows → IsAlone (is_goal op k) (put (is_goal o n) (o, n, g) rows)
  put_alone g rows alone = of Same refl
    where
      of : (b : Bool) → Same ≡ b → IsAlone (is_goal op k) (put (is_goal o n) (o, n, g) rows)
      of true e = subst (λ (x : List ℕ). IsAlone (is_goal op k) (put (is_goal x n) (x, n, g) rows)) (op_is e)
          (subst (λ (m : ℕ). IsAlone (is_goal op k) (put (is_goal op m) (op, m, g) rows)) (number_is e) (alone_put (is_goal op k) (op, k, g) rows (and_true _ _ (itself op) ((unsigned_Decides k k).1 refl)) alone))
      of false e = alone_put_other (is_goal op k) (is_goal o n) (rows_apart e) (o, n, g) rows (new_apart g e) alone

  out_alone : (rows : List GoalRow) → IsAlone (is_goal op k) rows → IsAlone (is_goal op k) (take_out (is_goal o n) rows)
  out_alone rows alone = of Same refl
    where
      of : (b : Bool) → Same ≡ b → IsAlone (is_goal op k) (take_out (is_goal o n) rows)
      of true e = subst (λ (x : List ℕ). IsAlone (is_goal op k) (take_out (is_goal x n) rows)) (op_is e)
          (subst (λ (m : ℕ). IsAlone (is_goal op k) (take_out (is_goal op m) rows)) (number_is e) (alone_out (is_goal op k) rows alone))
      of false e = alone_out_other (is_goal op k) (is_goal o n) (rows_apart e) rows alone

-- ---- One entry

-- of one goal there is one row
alone_step : (op : List ℕ) (k : ℕ) (h : Head) (s : State) (session p : ℕ) (e : EventTree) → IsAlone (is_goal op k) s.goals → IsAlone (is_goal op k) (accepted h s session p e).goals
alone_step op k h s session p (set_goal o x (Some g)) alone = put_alone op o k (object_or_0 s x) g s.goals alone
alone_step op k h s session p (clear_goal o x) alone = out_alone op o k (object_or_0 s x) s.goals alone
alone_step op k h s session p (set_goal o x None) alone = alone
alone_step op k h s session p (say (Some t) (Some f)) alone = alone
alone_step op k h s session p (say None f) alone = alone
alone_step op k h s session p (say (Some t) None) alone = alone
alone_step op k h s session p (transfer n to) alone = alone
alone_step op k h s session p (delete n) alone = alone
alone_step op k h s session p (new_object x) alone = alone
alone_step op k h s session p (set_proof o x (Some ls)) alone = alone
alone_step op k h s session p (set_proof o x None) alone = alone
alone_step op k h s session p (clear_proof o x) alone = alone
alone_step op k h s session p (bind (Some t) port) alone = alone
alone_step op k h s session p (bind None port) alone = alone
alone_step op k h s session p (unbind (Some t)) alone = alone
alone_step op k h s session p (unbind None) alone = alone

-- the goal that an event sets
abbrev pub goal_in : EventTree → Option FormulaTree
goal_in (set_goal op object g) = g
goal_in _ = None

-- an event of this goal is one that sets it, or that clears it
pub goal_event : (op object : List ℕ) (e : EventTree) (entry : EntryTree) → entry.event ≡ e → changes_goal op object entry ≡ true → (g : FormulaTree) → goal_in e ≡ Some g → e ≡ set_goal op object (Some g)
goal_event op object (set_goal o x goal) entry is passes g sets =
    let both : (same_bytes op o && same_bytes object x) ≡ true = rw is at passes in
    let first : op ≡ o = (same_bytes-Decides op o).0 (and_left (same_bytes op o) (same_bytes object x) both) in
    let second : object ≡ x = (same_bytes-Decides object x).0 (and_right (same_bytes op o) (same_bytes object x) both) in
    subst (λ (y : List ℕ). set_goal o x goal ≡ set_goal y object (Some g)) (sym first) (subst (λ (y : List ℕ). set_goal o x goal ≡ set_goal o y (Some g)) (sym second) (ap (set_goal o x) sets))
goal_event op object (clear_goal o x) entry is passes g sets = absurd (cc sets)
goal_event op object (say t f) entry is passes g sets = absurd (cc sets)
goal_event op object (transfer n to) entry is passes g sets = absurd (cc sets)
goal_event op object (delete n) entry is passes g sets = absurd (cc sets)
goal_event op object (new_object x) entry is passes g sets = absurd (cc sets)
goal_event op object (set_proof o x ls) entry is passes g sets = absurd (cc sets)
goal_event op object (clear_proof o x) entry is passes g sets = absurd (cc sets)
goal_event op object (bind t port) entry is passes g sets = absurd (cc sets)
goal_event op object (unbind t) entry is passes g sets = absurd (cc sets)

module _ (h : Head) (es : List EntryTree) (legal : IsLegal h es) (op object : List ℕ) (k : ℕ) (there : number_of (replay h es).objects object ≡ Some k) where
  alone_at : (i : ℕ) → i ≤ length es → IsAlone (is_goal op k) (at h es i).goals
  alone_at i within = kept_until h es legal (λ (s : State). IsAlone (is_goal op k) s.goals) (λ s e free alone. alone_step op k h s e.session e.principal e.event alone) 0 i (omega arith) within refl

  module _ (i : ℕ) (session p : ℕ) where
    abbrev Accepts : EventTree → Type 0
    Accepts e = refusal_of h (at h es i) session p e ≡ None

    abbrev found : State → Option FormulaTree
    found s = goal_of s.goals op k

    -- an event of another goal leaves this one
    apart_at : (o x : List ℕ) → is_none (number_of (at h es i).objects x) ≡ false → (same_bytes op o && same_bytes object x) ≡ false → (same_bytes op o && nat_eq k (object_or_0 (at h es i) x)) ≡ false
    apart_at o x some other = not_true (same_bytes op o && nat_eq k (object_or_0 (at h es i) x)) one_goal
      where
        one_goal : (same_bytes op o && nat_eq k (object_or_0 (at h es i) x)) ≡ true → ⊥
        one_goal same =
            let name : object ≡ x = named_so h es legal object k there i x some (and_right (same_bytes op o) (nat_eq k (object_or_0 (at h es i) x)) same) in
            cc (sym other ∙ and_true (same_bytes op o) (same_bytes object x) (and_left (same_bytes op o) (nat_eq k (object_or_0 (at h es i) x)) same) ((same_bytes-Decides object x).1 name))

    leaves : (e : EventTree) (entry : EntryTree) → entry.event ≡ e → Accepts e → changes_goal op object entry ≡ false → found (accepted h (at h es i) session p e) ≡ found (at h es i)
    leaves (set_goal o x (Some g)) entry is free other =
        let s = at h es i in
        let n = object_or_0 s x in
        let apart = apart_at o x (none_applies h s session p (set_goal o x (Some g)) free NoSuchObject) (rw is at other) in
        ap (option_map (λ (row : GoalRow). row.2)) (find_put (is_goal op k) (is_goal o n) (o, n, g) s.goals (new_apart op o k n g apart) (rows_apart op o k n apart))
    leaves (clear_goal o x) entry is free other =
        let s = at h es i in
        let n = object_or_0 s x in
        let apart = apart_at o x (none_applies h s session p (clear_goal o x) free NoSuchObject) (rw is at other) in
        ap (option_map (λ (row : GoalRow). row.2)) (find_take_out (is_goal op k) (is_goal o n) s.goals (rows_apart op o k n apart))
    leaves (set_goal o x None) entry is free other = refl
    leaves (say (Some t) (Some f)) entry is free other = refl
    leaves (say None f) entry is free other = refl
    leaves (say (Some t) None) entry is free other = refl
    leaves (transfer n to) entry is free other = refl
    leaves (delete n) entry is free other = refl
    leaves (new_object x) entry is free other = refl
    leaves (set_proof o x (Some ls)) entry is free other = refl
    leaves (set_proof o x None) entry is free other = refl
    leaves (clear_proof o x) entry is free other = refl
    leaves (bind (Some t) port) entry is free other = refl
    leaves (bind None port) entry is free other = refl
    leaves (unbind (Some t)) entry is free other = refl
    leaves (unbind None) entry is free other = refl

    -- one of this goal sets it, or clears it
    sets : (within : i ≤ length es) (e : EventTree) (entry : EntryTree) → entry.event ≡ e → Accepts e → changes_goal op object entry ≡ true → found (accepted h (at h es i) session p e) ≡ goal_in e
    sets within (set_goal o x (Some g)) entry is free passes =
        let s = at h es i in
        let both : (same_bytes op o && same_bytes object x) ≡ true = rw is at passes in
        let first : op ≡ o = (same_bytes-Decides op o).0 (and_left (same_bytes op o) (same_bytes object x) both) in
        let second : object ≡ x = (same_bytes-Decides object x).0 (and_right (same_bytes op o) (same_bytes object x) both) in
        let some : is_none (number_of s.objects x) ≡ false = none_applies h s session p (set_goal o x (Some g)) free NoSuchObject in
        let number : object_or_0 s x ≡ k = ap (object_or_0 s) (sym second) ∙ number_here h es legal object k there i (subst (λ (y : List ℕ). is_none (number_of s.objects y) ≡ false) (sym second) some) in
        subst (λ (y : List ℕ). goal_of (put (is_goal y (object_or_0 s x)) (y, object_or_0 s x, g) s.goals) op k ≡ Some g) first
        (subst (λ (n : ℕ). goal_of (put (is_goal op n) (op, n, g) s.goals) op k ≡ Some g) (sym number)
        (ap (option_map (λ (row : GoalRow). row.2)) (put_found (is_goal op k) (op, k, g) s.goals (and_true (same_bytes op op) (nat_eq k k) (itself op) ((unsigned_Decides k k).1 refl)))))
    sets within (clear_goal o x) entry is free passes =
        let s = at h es i in
        let both : (same_bytes op o && same_bytes object x) ≡ true = rw is at passes in
        let first : op ≡ o = (same_bytes-Decides op o).0 (and_left (same_bytes op o) (same_bytes object x) both) in
        let second : object ≡ x = (same_bytes-Decides object x).0 (and_right (same_bytes op o) (same_bytes object x) both) in
        let some : is_none (number_of s.objects x) ≡ false = none_applies h s session p (clear_goal o x) free NoSuchObject in
        let number : object_or_0 s x ≡ k = ap (object_or_0 s) (sym second) ∙ number_here h es legal object k there i (subst (λ (y : List ℕ). is_none (number_of s.objects y) ≡ false) (sym second) some) in
        subst (λ (y : List ℕ). goal_of (take_out (is_goal y (object_or_0 s x)) s.goals) op k ≡ None) first
        (subst (λ (n : ℕ). goal_of (take_out (is_goal op n) s.goals) op k ≡ None) (sym number)
        (ap (option_map (λ (row : GoalRow). row.2)) (alone_at i within)))
    sets within (set_goal o x None) entry is free passes = absurd (cc (none_applies h (at h es i) session p (set_goal o x None) free BadFormula))
    sets within (say t f) entry is free passes = absurd (cc (rw is at passes))
    sets within (transfer n to) entry is free passes = absurd (cc (rw is at passes))
    sets within (delete n) entry is free passes = absurd (cc (rw is at passes))
    sets within (new_object x) entry is free passes = absurd (cc (rw is at passes))
    sets within (set_proof o x ls) entry is free passes = absurd (cc (rw is at passes))
    sets within (clear_proof o x) entry is free passes = absurd (cc (rw is at passes))
    sets within (bind t port) entry is free passes = absurd (cc (rw is at passes))
    sets within (unbind t) entry is free passes = absurd (cc (rw is at passes))

  stays : (i : ℕ) (e : EntryTree) → slice_get es i ≡ Some e → changes_goal op object e ≡ false → goal_of (accepted h (at h es i) e.session e.principal e.event).goals op k ≡ goal_of (at h es i).goals op k
  stays i e here other = leaves i e.session e.principal e.event e refl (accepted_at h es i e legal here).1 other

  -- the goal is the one of the last entry that changes it
  pub goal_at : (n : ℕ) (e : EntryTree) → IsLast (changes_goal op object) es n e → goal_of (replay h es).goals op k ≡ goal_in e.event
  goal_at zero e last = absurd (cc last.stands)
  goal_at (suc i) e last =
      let within = slice_get_within es i e last.stands in
      let one : i + 1 ≡ suc i = omega arith in
      stays_behind h es legal (λ (s : State). goal_of s.goals op k) (changes_goal op object) stays (suc i) (omega (arith, within)) last.later
      ∙ ap (λ (m : ℕ). goal_of (at h es m).goals op k) (sym one) ∙ ap (λ (s : State). goal_of s.goals op k) (next h es legal i e last.stands)
      ∙ sets i e.session e.principal (omega (arith, within)) e.event e refl (accepted_at h es i e legal last.stands).1 last.passing

  -- and none where no entry does
  pub no_goal : ((m : ℕ) (e : EntryTree) → entry_at es m ≡ Some e → changes_goal op object e ≡ false) → goal_of (replay h es).goals op k ≡ None
  no_goal none = stays_behind h es legal (λ (s : State). goal_of s.goals op k) (changes_goal op object) stays 0 (omega arith) (λ m e below at. none m e at)
