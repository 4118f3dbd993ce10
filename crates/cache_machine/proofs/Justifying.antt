-- What was told in a run is justified, and what each actor wrote stands in the journal.
use Rattle.std.proofs.Common.{◌≡◌, ◌<◌, ◌≤◌, ◌+◌, ◌⊎◌, inl, inr, ℕ, zero, suc, Bool, true, false, nat_eq, max, List, [], ◌∷◌, ◌++◌, length, take, Option, Some, None, refl, sym, ap, ◌∙◌, subst, arith, append_assoc, append-nil, length-append, get_or}
use Rattle.std.specs.List.{slice_get, AllByRecursion, AllPairs}
use Rattle.std.specs.Cmp.{unsigned_Decides}
use Rattle.std.proofs.lemmas.List.{take-append-le}
use Rattle.std.proofs.lemmas.List.Elements.{filter-append}
use Rattle.nal_rules.specs.Verdicts.{IsVerdict}
use Rattle.object_table.specs.Objects.{number_of}
use Rattle.policy_history.specs.declared.heads.Head.{Head}
use Rattle.policy_history.specs.Events.{EntryTree}
use Rattle.policy_history.specs.Judged.{IsRight, case_at}
use Rattle.policy_history.specs.Machine.{replay}
use Rattle.policy_history.specs.States.{case_named}
use Rattle.policy_history.specs.Values.{greatest_from, greatest_of}
use Rattle.cache_machine.specs.declared.steps.Told.{Told}
use Rattle.cache_machine.specs.States.{ActorTree, MachineState, StageTree, raised, resting}
use Rattle.cache_machine.specs.Moves.{ActTree, MoveTree, MovesAt, StepTree, after_move, goes, gone_on, idle, raises, tells, fills, told_in, writes, written_by}
use Rattle.cache_machine.specs.Runs.{Happened, IsRun, entries_of, entry_of, is_by, own, told_of, writes_of}
use Rattle.cache_machine.specs.Justified.{IsAnswerAfter, IsHitAfter, IsJustified, IsToldAfter}
use Rattle.cache_machine.specs.Machines.{first_actors, first_state}
use Rattle.cache_machine.specs.Inner.Words.{IsWorded}
use Rattle.cache_machine.proofs.Keeping.{set_at}
use Rattle.cache_machine.proofs.Linking.{Linked, NextLink, TellsNow, UpTo, all_more, all_weaker, linked_idle, linked_longer, linked_other, move_link, not_same, same_as_itself, told_more}
use Rattle.cache_machine.proofs.Running.{SameOwners, added, head_after, itself, owners_after, run_owners}
use Rattle.cache_machine.proofs.Stepping.{step_kept}

-- ---- Points that rise

abbrev pub NotBefore : Told → Told → Type 0
NotBefore first second = first.actor ≡ second.actor → first.at ≤ second.at

get_last : {A : Type 0} (xs : List A) (x : A) (d : A) (i : ℕ) → i ≡ length xs → get_or (xs ++ x ∷ []) i d ≡ x
get_last [] x d zero e = refl
get_last [] x d (suc i) e = absurd (omega (arith, e))
get_last (y ∷ xs) x d zero e = absurd (omega (arith, e))
get_last (y ∷ xs) x d (suc i) e = get_last xs x d i (omega (arith, e))

get_front : {A : Type 0} (xs : List A) (x : A) (d : A) (i : ℕ) → i < length xs → get_or (xs ++ x ∷ []) i d ≡ get_or xs i d
get_front [] x d i within = absurd (omega (arith, within))
get_front (y ∷ xs) x d zero within = refl
get_front (y ∷ xs) x d (suc i) within = get_front xs x d i (omega (arith, within))

all_get : {A : Type 0} (P : A → Type 0) (xs : List A) → AllByRecursion P xs → (i : ℕ) (d : A) → i < length xs → P (get_or xs i d)
all_get P [] all i d within = absurd (omega (arith, within))
all_get P (x ∷ xs) all zero d within = all.0
all_get P (x ∷ xs) all (suc i) d within = all_get P xs all.1 i d (omega (arith, within))

pairs_more : (ts : List Told) (t : Told) → AllPairs NotBefore ts → AllByRecursion (λ (x : Told). NotBefore x t) ts → AllPairs NotBefore (ts ++ t ∷ [])
pairs_more ts t pairs up i j d lt within =
    let long = length-append ts (t ∷ []) in
    elim (of_place j (omega (arith, long, within))) [
      | inl before ↦ let front : i < length ts = omega (arith, lt, before) in rw (get_front ts t d i front, get_front ts t d j before) (pairs i j d lt before)
      | inr last ↦ let front : i < length ts = omega (arith, lt, last) in rw (get_front ts t d i front, get_last ts t d j last) (all_get (λ (x : Told). NotBefore x t) ts up i d front)
    ]
  where
    of_place : (j : ℕ) → j < length ts + 1 → (j < length ts) ⊎ (j ≡ length ts)
    of_place j low = at_end (length ts) j low
      where
        at_end : (n j : ℕ) → j < n + 1 → (j < n) ⊎ (j ≡ n)
        at_end zero zero low = inr refl
        at_end zero (suc j) low = absurd (omega (arith, low))
        at_end (suc n) zero low = inl (omega arith)
        at_end (suc n) (suc j) low = elim (at_end n j (omega (arith, low))) [
          | inl p ↦ inl (omega (arith, p))
          | inr q ↦ inr (ap suc q)
        ]

-- ---- What each actor's stage says, over a run

pub record IsLinked (s : MachineState) (xs : List Happened) : Type 0 where
  pub stages : (a : ℕ) (y : ActorTree) → slice_get s.actors a ≡ Some y → Linked s.head s.entries a y.principal xs y.stage
  pub points : AllByRecursion (λ (t : Told). t.at ≤ length s.entries) (told_of xs)
  pub rising : AllPairs NotBefore (told_of xs)

-- a step that tells nothing
quiet_points : (n : ℕ) (xs : List Happened) (x : Happened) → told_in x.move ≡ [] → AllByRecursion (λ (t : Told). t.at ≤ n) (told_of xs) → AllByRecursion (λ (t : Told). t.at ≤ n) (told_of (xs ++ x ∷ []))
quiet_points n xs x none points = subst (AllByRecursion (λ (t : Told). t.at ≤ n)) (sym (told_more xs x ∙ ap (λ ts. told_of xs ++ ts) none ∙ append-nil (told_of xs))) points

quiet_rising : (xs : List Happened) (x : Happened) → told_in x.move ≡ [] → AllPairs NotBefore (told_of xs) → AllPairs NotBefore (told_of (xs ++ x ∷ []))
quiet_rising xs x none rising = subst (AllPairs NotBefore) (sym (told_more xs x ∙ ap (λ ts. told_of xs ++ ts) none ∙ append-nil (told_of xs))) rising

module _ (s : MachineState) (w : IsWorded s) (xs : List Happened) (l : IsLinked s xs) (a : ℕ) (act : ActTree) where
  abbrev this_step : MoveTree → Happened
  this_step move = record { step = record { actor = a; act = act }; move = move; at = length s.entries }

  -- an actor of this state, and what its own step comes to
  module _ (y : ActorTree) (at : slice_get s.actors a ≡ Some y) where
    abbrev Next : MoveTree → Type 0
    Next move = NextLink s w a y at xs l.points act move

    stages_after : (move : MoveTree) (stage : StageTree) (es : List EntryTree) → Linked s.head es a y.principal (xs ++ this_step move ∷ []) stage
        → ((b : ℕ) (z : ActorTree) → (b ≡ a → ⊥) → slice_get s.actors b ≡ Some z → Linked s.head es b z.principal (xs ++ this_step move ∷ []) z.stage)
        → (b : ℕ) (z : ActorTree) → slice_get (gone_on s.actors a (slice_get s.actors a) stage) b ≡ Some z → Linked s.head es b z.principal (xs ++ this_step move ∷ []) z.stage
    stages_after move stage es mine others b z e = elim (set_at s.actors a (record y { stage = stage }) b z (sym (ap (λ (o : Option ActorTree). slice_get (gone_on s.actors a o stage) b) at) ∙ e)) [
      | inl p ↦ subst (λ (v : ActorTree). Linked s.head es b v.principal (xs ++ this_step move ∷ []) v.stage) (sym p.1) (subst (λ (n : ℕ). Linked s.head es n y.principal (xs ++ this_step move ∷ []) stage) (sym p.0) mine)
      | inr q ↦ others b z q.0 q.1
    ]

    others_still : (move : MoveTree) → ((b : ℕ) → (b ≡ a → ⊥) → (n : ℕ) → UpTo b n (told_in move)) → (b : ℕ) (z : ActorTree) → (b ≡ a → ⊥) → slice_get s.actors b ≡ Some z → Linked s.head s.entries b z.principal (xs ++ this_step move ∷ []) z.stage
    others_still move quiet b z other e = linked_other s.head s.entries b z.principal xs (this_step move) z.stage other (quiet b other) (l.stages b z e)

    pub link_after : (move : MoveTree) → Next move → IsLinked (after_move s a move) (xs ++ this_step move ∷ [])
    link_after idle next = record {
      stages = λ b z e. linked_idle s.head s.entries b z.principal xs (this_step idle) z.stage refl (l.stages b z e);
      points = quiet_points (length s.entries) xs (this_step idle) refl l.points;
      rising = quiet_rising xs (this_step idle) refl l.rising;
    }
    link_after (goes stage) next = record {
      stages = stages_after (goes stage) stage s.entries next (others_still (goes stage) (λ b other n. tt));
      points = quiet_points (length s.entries) xs (this_step (goes stage)) refl l.points;
      rising = quiet_rising xs (this_step (goes stage)) refl l.rising;
    }
    link_after (tells told stage) next =
        let now = next.1 in
        let more = told_more xs (this_step (tells told stage)) in
        record {
          stages = stages_after (tells told stage) stage s.entries next.0 (others_still (tells told stage) (λ b other n. ((λ mine. absurd (other (sym mine ∙ now.mine))), tt)));
          points = subst (AllByRecursion (λ (t : Told). t.at ≤ length s.entries)) (sym more) (all_more (λ (t : Told). t.at ≤ length s.entries) (told_of xs) (told ∷ []) l.points (now.within, tt));
          rising = subst (AllPairs NotBefore) (sym more) (pairs_more (told_of xs) told l.rising (all_weaker (λ (t : Told). t.actor ≡ a → t.at ≤ told.at) (λ (t : Told). NotBefore t told) (λ t up same. up (same ∙ now.mine)) (told_of xs) now.highest));
        }
    link_after (fills kept stage) next = record {
      stages = stages_after (fills kept stage) stage s.entries next (others_still (fills kept stage) (λ b other n. tt));
      points = quiet_points (length s.entries) xs (this_step (fills kept stage)) refl l.points;
      rising = quiet_rising xs (this_step (fills kept stage)) refl l.rising;
    }
    link_after (raises region event) next = record {
      stages = stages_after (raises region event) (raised event) s.entries tt (others_still (raises region event) (λ b other n. tt));
      points = quiet_points (length s.entries) xs (this_step (raises region event)) refl l.points;
      rising = quiet_rising xs (this_step (raises region event)) refl l.rising;
    }
    link_after (writes event) next =
        let entry : EntryTree = record { session = y.session; principal = y.principal; event = event } in
        let es = s.entries ++ entry ∷ [] in
        let long = length-append s.entries (entry ∷ []) in
        subst (λ (zs : List EntryTree). IsLinked (record s { actors = gone_on s.actors a (slice_get s.actors a) (resting None); entries = zs; holder = None }) (xs ++ this_step (writes event) ∷ []))
        (sym (written at)) (record {
          stages = stages_after (writes event) (resting None) es tt (λ b z other e. linked_longer s.head s.entries (entry ∷ []) b z.principal (xs ++ this_step (writes event) ∷ []) z.stage (others_still (writes event) (λ b other n. tt) b z other e));
          points = quiet_points (length es) xs (this_step (writes event)) refl
              (all_weaker (λ (t : Told). t.at ≤ length s.entries) (λ (t : Told). t.at ≤ length es) (λ t low. omega (arith, low, long)) (told_of xs) l.points);
          rising = quiet_rising xs (this_step (writes event)) refl l.rising;
        })
      where
        written : {o : Option ActorTree} → o ≡ Some y → written_by s.entries o event ≡ s.entries ++ record { session = y.session; principal = y.principal; event = event } ∷ []
        written e = rw e refl

  pub link_step : (move : MoveTree) → MovesAt s a (slice_get s.actors a) act move → IsLinked (after_move s a move) (xs ++ this_step move ∷ [])
  link_step move m = of (slice_get s.actors a) refl m
    where
      none_moves : move ≡ idle → IsLinked (after_move s a move) (xs ++ this_step move ∷ [])
      none_moves e = subst (λ (n : MoveTree). IsLinked (after_move s a n) (xs ++ this_step n ∷ [])) (sym e) (record {
        stages = λ b z at. linked_idle s.head s.entries b z.principal xs (this_step idle) z.stage refl (l.stages b z at);
        points = quiet_points (length s.entries) xs (this_step idle) refl l.points;
        rising = quiet_rising xs (this_step idle) refl l.rising;
      })

      of : (o : Option ActorTree) → slice_get s.actors a ≡ o → MovesAt s a o act move → IsLinked (after_move s a move) (xs ++ this_step move ∷ [])
      of None at m = none_moves m
      of (Some y) at m = link_after y at move (move_link s w a y at xs l.points (l.stages a y at) act move m)

  -- what the step tells
  pub tells_step : (move : MoveTree) → MovesAt s a (slice_get s.actors a) act move → (told : Told) → told_in move ≡ told ∷ [] → (y : ActorTree) × (at : slice_get s.actors a ≡ Some y) × TellsNow s w a y at xs l.points act told
  tells_step move m told e = of (slice_get s.actors a) refl m
    where
      told_now : (y : ActorTree) (at : slice_get s.actors a ≡ Some y) (move : MoveTree) → Next y at move → told_in move ≡ told ∷ [] → TellsNow s w a y at xs l.points act told
      told_now y at (tells own_told stage) next e = let same : own_told ≡ told = cc e in subst (TellsNow s w a y at xs l.points act) same next.1
      told_now y at idle next e = absurd (cc e)
      told_now y at (goes stage) next e = absurd (cc e)
      told_now y at (fills kept stage) next e = absurd (cc e)
      told_now y at (raises region event) next e = absurd (cc e)
      told_now y at (writes event) next e = absurd (cc e)

      of : (o : Option ActorTree) → slice_get s.actors a ≡ o → MovesAt s a o act move → (y : ActorTree) × (at : slice_get s.actors a ≡ Some y) × TellsNow s w a y at xs l.points act told
      of None at m = absurd (cc (sym (ap told_in m) ∙ e))
      of (Some y) at m = (y, at, told_now y at move (move_link s w a y at xs l.points (l.stages a y at) act move m) e)

-- ---- Runs, from their front

pub run_worded : (s : MachineState) (steps : List StepTree) (xs : List Happened) (t : MachineState) → IsRun s steps xs t → IsWorded s → IsWorded t
run_worded s [] [] t run w = subst IsWorded (sym run) w
run_worded s (step ∷ steps) (x ∷ xs) t (mid, (moves, after), step_is, at_is, rest) w = run_worded mid steps xs t rest (subst IsWorded (sym after) (step_kept s w step.actor step.act x.move moves))
run_worded s [] (x ∷ xs) t run w = absurd run
run_worded s (step ∷ steps) [] t run w = absurd run

pub run_head : (s : MachineState) (steps : List StepTree) (xs : List Happened) (t : MachineState) → IsRun s steps xs t → t.head ≡ s.head
run_head s [] [] t run = ap (λ (z : MachineState). z.head) run
run_head s (step ∷ steps) (x ∷ xs) t (mid, (moves, after), step_is, at_is, rest) = run_head mid steps xs t rest ∙ ap (λ (z : MachineState). z.head) after ∙ head_after s step.actor x.move
run_head s [] (x ∷ xs) t run = absurd run
run_head s (step ∷ steps) [] t run = absurd run

-- the journal is the one before, and then the entries of the writes
pub run_entries : (old : List ActorTree) (s : MachineState) (steps : List StepTree) (xs : List Happened) (t : MachineState) → IsRun s steps xs t → SameOwners old s.actors → t.entries ≡ s.entries ++ entries_of old xs
run_entries old s [] [] t run same = ap (λ (z : MachineState). z.entries) run ∙ sym (append-nil s.entries)
run_entries old s (step ∷ steps) (x ∷ xs) t (mid, (moves, after), step_is, at_is, rest) same =
    let entry = entry_of (slice_get old step.actor) x.move in
    let here : mid.entries ≡ s.entries ++ entry = ap (λ (z : MachineState). z.entries) after ∙ added old s step.actor step.act x.move same moves in
    let next : SameOwners old mid.actors = subst (λ (z : MachineState). SameOwners old z.actors) (sym after) (owners_after old s step.actor x.move same) in
    run_entries old mid steps xs t rest next ∙ ap (λ (es : List EntryTree). es ++ entries_of old xs) here ∙ append_assoc s.entries entry (entries_of old xs)
    ∙ ap (λ (z : StepTree). s.entries ++ (entry_of (slice_get old z.actor) x.move ++ entries_of old xs)) (sym step_is)
run_entries old s [] (x ∷ xs) t run same = absurd run
run_entries old s (step ∷ steps) [] t run same = absurd run

-- a step is the one that its record tells
happened_is : (x : Happened) (step : StepTree) (n : ℕ) → x.step ≡ step → x.at ≡ n → record { step = record { actor = step.actor; act = step.act }; move = x.move; at = n } ≡ x
happened_is x step n step_is at_is = λ i. record { step = sym step_is i; move = x.move; at = sym at_is i }

pub run_linked : (s : MachineState) (steps : List StepTree) (before xs : List Happened) (t : MachineState) → IsRun s steps xs t → IsWorded s → IsLinked s before → IsLinked t (before ++ xs)
run_linked s [] before [] t run w l = rw (append-nil before) (subst (λ (z : MachineState). IsLinked z before) (sym run) l)
run_linked s (step ∷ steps) before (x ∷ xs) t (mid, (moves, after), step_is, at_is, rest) w l =
    let here : IsLinked (after_move s step.actor x.move) (before ++ record { step = record { actor = step.actor; act = step.act }; move = x.move; at = length s.entries } ∷ []) = link_step s w before l step.actor step.act x.move moves in
    let linked : IsLinked mid (before ++ x ∷ []) = subst (λ (z : MachineState). IsLinked z (before ++ x ∷ [])) (sym after) (subst (λ (y : Happened). IsLinked (after_move s step.actor x.move) (before ++ y ∷ [])) (happened_is x step (length s.entries) step_is at_is) here) in
    subst (IsLinked t) (append_assoc before (x ∷ []) xs) (run_linked mid steps (before ++ x ∷ []) xs t rest (subst IsWorded (sym after) (step_kept s w step.actor step.act x.move moves)) linked)
run_linked s [] before (x ∷ xs) t run w l = absurd run
run_linked s (step ∷ steps) before [] t run w l = absurd run

-- a run up to one of its steps, and from there on
pub record IsSplitRun (s : MachineState) (before : List Happened) (x : Happened) (later : List Happened) (t : MachineState) : Type 0 where
  pub first : List StepTree
  pub here : MachineState
  pub arrived : IsRun s first before here
  pub moves : MovesAt here x.step.actor (slice_get here.actors x.step.actor) x.step.act x.move
  pub remaining : List StepTree
  pub going_on : IsRun here remaining (x ∷ later) t

split_run : (s : MachineState) (steps : List StepTree) (before : List Happened) (x : Happened) (later : List Happened) (t : MachineState) → IsRun s steps (before ++ x ∷ later) t → IsSplitRun s before x later t
split_run s (step ∷ steps) [] x later t (mid, (moves, after), step_is, at_is, rest) =
    record { first = []; here = s; arrived = refl; moves = subst (λ (z : StepTree). MovesAt s z.actor (slice_get s.actors z.actor) z.act x.move) (sym step_is) moves; remaining = step ∷ steps; going_on = (mid, (moves, after), step_is, at_is, rest) }
split_run s (step ∷ steps) (y ∷ before) x later t (mid, taken, step_is, at_is, rest) =
    let r = split_run mid steps before x later t rest in
    record { first = step ∷ r.first; here = r.here; arrived = (mid, taken, step_is, at_is, r.arrived); moves = r.moves; remaining = r.remaining; going_on = r.going_on }
split_run s [] [] x later t run = absurd run
split_run s [] (y ∷ before) x later t run = absurd run

-- ---- What was told stays so as the journal grows

module _ (h : Head) (es more : List EntryTree) (a p : ℕ) (before : List Happened) (told : Told) (within : told.at ≤ length es) where
  front : take told.at es ≡ take told.at (es ++ more)
  front = sym (take-append-le told.at es more within)

  hit_more : IsHitAfter h es a p before told → IsHitAfter h (es ++ more) a p before told
  hit_more r = record {
    counting = r.counting;
    last_count = r.last_count;
    dated = r.dated;
    looking = r.looking;
    last_look = r.last_look;
    op = r.op;
    name = r.name;
    look_is = r.look_is;
    case = r.case;
    case_is = subst (λ (xs : List EntryTree). case_named (replay h xs) p r.op r.name ≡ Some r.case) front r.case_is;
    right = subst (λ (xs : List EntryTree). IsRight h xs r.case told.verdict) front r.right;
  }

  answer_more : (act : ActTree) → IsAnswerAfter h es a p before act told → IsAnswerAfter h (es ++ more) a p before act told
  answer_more act r = record {
    snapping = r.snapping;
    last_snap = r.last_snap;
    dated = r.dated;
    op = r.op;
    name = r.name;
    snap_is = r.snap_is;
    object = r.object;
    object_is = subst (λ (xs : List EntryTree). number_of (replay h xs).objects r.name ≡ Some r.object) front r.object_is;
    answers = r.answers;
    answered = r.answered;
    verdict = subst (λ (xs : List EntryTree). IsVerdict (case_at h (replay h xs) p r.op r.object) r.answers told.verdict) front r.verdict;
  }

-- the same of equal heads, journals and actors
hit_as : (h k : Head) (es fs : List EntryTree) (a b p q : ℕ) (before : List Happened) (told : Told) → k ≡ h → fs ≡ es → b ≡ a → q ≡ p → IsHitAfter h es a p before told → IsHitAfter k fs b q before told
hit_as h k es fs a b p q before told heads journals actors principals r = rw (heads, journals, actors, principals) r

answer_as : (h k : Head) (es fs : List EntryTree) (a b p q : ℕ) (before : List Happened) (act : ActTree) (told : Told) → k ≡ h → fs ≡ es → b ≡ a → q ≡ p → IsAnswerAfter h es a p before act told → IsAnswerAfter k fs b q before act told
answer_as h k es fs a b p q before act told heads journals actors principals r = rw (heads, journals, actors, principals) r

-- ---- What was told is justified

module _ (s : MachineState) (steps : List StepTree) (xs : List Happened) (t : MachineState) (run : IsRun s steps xs t) (w : IsWorded s) (l : IsLinked s []) where
  rests_run : (before : List Happened) (x : Happened) (later : List Happened) (told : Told) → xs ≡ before ++ x ∷ later → told_in x.move ≡ told ∷ [] → IsToldAfter s.head t.entries s.actors before x told
  rests_run before x later told split e =
      let r = split_run s steps before x later t (subst (λ (ys : List Happened). IsRun s steps ys t) split run) in
      let here = r.here in
      let worded : IsWorded here = run_worded s r.first before here r.arrived w in
      let linked : IsLinked here before = run_linked s r.first [] before here r.arrived w l in
      let now = tells_step here worded before linked x.step.actor x.step.act x.move r.moves told e in
      let owner = run_owners s.actors s r.first before here r.arrived (itself s.actors) x.step.actor now.0 now.1 in
      let more = entries_of here.actors (x ∷ later) in
      let grown : t.entries ≡ here.entries ++ more = run_entries here.actors here r.remaining (x ∷ later) t r.going_on (itself here.actors) in
      let same_head : here.head ≡ s.head = run_head s r.first before here r.arrived in
      let mine = now.2.mine in
      let within = now.2.within in
      record {
        own = mine;
        actor = owner.0;
        actor_is = ap (slice_get s.actors) mine ∙ owner.1;
        hit = λ is_hit. hit_as here.head s.head (here.entries ++ more) t.entries x.step.actor told.actor now.0.principal owner.0.principal before told (sym same_head) grown mine owner.2
            (hit_more here.head here.entries more x.step.actor now.0.principal before told within (now.2.hit is_hit));
        answered = λ no_hit. answer_as here.head s.head (here.entries ++ more) t.entries x.step.actor told.actor now.0.principal owner.0.principal before x.step.act told (sym same_head) grown mine owner.2
            (answer_more here.head here.entries more x.step.actor now.0.principal before told within x.step.act (now.2.answered no_hit));
      }

  pub justified_run : IsJustified s.head t.entries s.actors xs
  justified_run = record { rests = rests_run; rising = (run_linked s steps [] xs t run w l).rising }

-- ---- The start

pub first_linked : (h : Head) (es : List EntryTree) (ps : List ℕ) → IsLinked (first_state h es ps) []
first_linked h es ps = record {
  stages = λ a y at. subst (λ (stage : StageTree). Linked h es a y.principal [] stage) (sym (resting_at (greatest_of es + 1) ps a y at)) tt;
  points = tt;
  rising = λ i j d lt within. absurd (omega (arith, within));
}
  where
    resting_at : (session : ℕ) (ps : List ℕ) (a : ℕ) (x : ActorTree) → slice_get (first_actors session ps) a ≡ Some x → x.stage ≡ resting None
    resting_at session [] a x e = absurd (cc e)
    resting_at session (p ∷ ps) zero x e =
        let y : ActorTree = record { principal = p; session = session; stage = resting None } in
        let same : y ≡ x = cc e in
        sym (ap (λ (z : ActorTree). z.stage) same)
    resting_at session (p ∷ ps) (suc a) x e = resting_at (session + 1) ps a x e

-- ---- The entries of each actor

session_at : (session : ℕ) (ps : List ℕ) (a : ℕ) (x : ActorTree) → slice_get (first_actors session ps) a ≡ Some x → x.session ≡ session + a
session_at session [] a x e = absurd (cc e)
session_at session (p ∷ ps) zero x e =
    let y : ActorTree = record { principal = p; session = session; stage = resting None } in
    let same : y ≡ x = cc e in
    let is : session ≡ x.session = ap (λ (z : ActorTree). z.session) same in
    omega (arith, is)
session_at session (p ∷ ps) (suc a) x e = let rest = session_at (session + 1) ps a x e in omega (arith, rest)

max_left : (m n : ℕ) → m ≤ max m n
max_left m n = omega arith

max_right : (m n : ℕ) → n ≤ max m n
max_right m n = omega arith

greatest_low : (n : ℕ) (es : List EntryTree) → n ≤ greatest_from n es
greatest_low n [] = omega arith
greatest_low n (e ∷ es) = let here = max_left n e.session in let rest = greatest_low (max n e.session) es in omega (arith, here, rest)

-- no entry has a session above the greatest
none_own : (n : ℕ) (es : List EntryTree) (session : ℕ) → greatest_from n es < session → own session es ≡ []
none_own n [] session above = refl
none_own n (e ∷ es) session above =
    let here = max_right n e.session in
    let low = greatest_low (max n e.session) es in
    let other : nat_eq e.session session ≡ false = not_same e.session session (λ same. absurd (omega (arith, same, here, low, above))) in
    rw other (none_own (max n e.session) es session above)

module _ (first : ℕ) (ps : List ℕ) where
  abbrev actors : List ActorTree
  actors = first_actors first ps

  own_entry : (a : ℕ) (y : ActorTree) → slice_get actors a ≡ Some y → (x : Happened) → is_by a x ≡ true → own y.session (entry_of (slice_get actors x.step.actor) x.move) ≡ entry_of (slice_get actors x.step.actor) x.move
  own_entry a y at x mine =
      let same : x.step.actor ≡ a = (unsigned_Decides x.step.actor a).0 mine in
      of x.move (slice_get actors x.step.actor) (ap (slice_get actors) same ∙ at)
    where
      of : (move : MoveTree) (o : Option ActorTree) → o ≡ Some y → own y.session (entry_of o move) ≡ entry_of o move
      of move None e = absurd (cc e)
      of (writes event) (Some z) e = let same : z ≡ y = cc e in rw (same, same_as_itself y.session) refl
      of idle (Some z) e = refl
      of (goes stage) (Some z) e = refl
      of (tells told stage) (Some z) e = refl
      of (fills kept stage) (Some z) e = refl
      of (raises region event) (Some z) e = refl

  other_entry : (a : ℕ) (y : ActorTree) → slice_get actors a ≡ Some y → (x : Happened) → is_by a x ≡ false → own y.session (entry_of (slice_get actors x.step.actor) x.move) ≡ []
  other_entry a y at x other = of x.move (slice_get actors x.step.actor) refl
    where
      apart : (z : ActorTree) → slice_get actors x.step.actor ≡ Some z → nat_eq z.session y.session ≡ false
      apart z e =
          let mine = session_at first ps a y at in
          let its = session_at first ps x.step.actor z e in
          not_same z.session y.session (λ same. let same_actor : x.step.actor ≡ a = omega (arith, mine, its, same) in cc (sym (ap (λ (n : ℕ). nat_eq n a) same_actor) ∙ other, same_as_itself a))

      of : (move : MoveTree) (o : Option ActorTree) → slice_get actors x.step.actor ≡ o → own y.session (entry_of o move) ≡ []
      of move None e = refl
      of (writes event) (Some z) e = rw (apart z e) refl
      of idle (Some z) e = refl
      of (goes stage) (Some z) e = refl
      of (tells told stage) (Some z) e = refl
      of (fills kept stage) (Some z) e = refl
      of (raises region event) (Some z) e = refl

  own_writes : (a : ℕ) (y : ActorTree) → slice_get actors a ≡ Some y → (xs : List Happened) → own y.session (entries_of actors xs) ≡ writes_of actors a xs
  own_writes a y at [] = refl
  own_writes a y at (x ∷ xs) =
      filter-append (λ (e : EntryTree). nat_eq e.session y.session) (entry_of (slice_get actors x.step.actor) x.move) (entries_of actors xs) ∙ of (is_by a x) refl (own_writes a y at xs)
    where
      of : (b : Bool) → is_by a x ≡ b → own y.session (entries_of actors xs) ≡ writes_of actors a xs → own y.session (entry_of (slice_get actors x.step.actor) x.move) ++ own y.session (entries_of actors xs) ≡ writes_of actors a (x ∷ xs)
      of true mine rest = rw (own_entry a y at x mine, rest, mine) refl
      of false other rest = rw (other_entry a y at x other, rest, other) refl

-- of an actor's session the journal has the writes of the actor alone
pub own_run : (h : Head) (es : List EntryTree) (ps : List ℕ) (xs : List Happened) (a : ℕ) (y : ActorTree) → slice_get (first_state h es ps).actors a ≡ Some y
    → own y.session (es ++ entries_of (first_state h es ps).actors xs) ≡ writes_of (first_state h es ps).actors a xs
own_run h es ps xs a y at =
    let actors = first_actors (greatest_of es + 1) ps in
    let session = session_at (greatest_of es + 1) ps a y at in
    filter-append (λ (e : EntryTree). nat_eq e.session y.session) es (entries_of actors xs)
    ∙ ap (λ (zs : List EntryTree). zs ++ own y.session (entries_of actors xs)) (none_own 0 es y.session (omega (arith, session)))
    ∙ own_writes (greatest_of es + 1) ps a y at xs
