-- What an actor's stage says of what it did last, and that each step keeps it.
use Rattle.std.proofs.Common.{◌≡◌, ◌≤◌, inl, inr, ℕ, Bool, true, false, nat_eq, ◌&&◌, List, [], ◌∷◌, ◌++◌, length, take, filter, Option, Some, None, refl, sym, ap, ◌∙◌, subst, arith, append_assoc, append-nil, length-append}
use Rattle.std.specs.List.{slice_get, AllByRecursion, last_or}
use Rattle.std.specs.Cmp.{unsigned_Decides}
use Rattle.std.specs.Prelude.{option_map, option_and_then}
use Rattle.std.proofs.lemmas.List.{take-append-le}
use Rattle.std.proofs.lemmas.List.Elements.{filter-append}
use Rattle.nal_rules.specs.Verdicts.{CaseTree, IsVerdict}
use Rattle.nal_rules.specs.declared.verdicts.Verdict.{Verdict}
use Rattle.nal_rules.specs.declared.verdicts.Verdict.TheVariants.{Allowed, Denied}
use Rattle.object_table.specs.Objects.{number_of}
use Rattle.proof_store.specs.Cases.{number_of as case_number}
use Rattle.policy_history.specs.declared.heads.Head.{Head}
use Rattle.policy_history.specs.Events.{EntryTree}
use Rattle.policy_history.specs.Judged.{case_at, object_region, store_region}
use Rattle.policy_history.specs.Machine.{replay}
use Rattle.policy_history.specs.States.{State, case_named}
use Rattle.policy_history.proofs.ForCallers.{case_numbers_stay, objects_stay}
use Rattle.cache_machine.specs.declared.stages.Kept.{Kept}
use Rattle.cache_machine.specs.declared.stages.Place.{Place}
use Rattle.cache_machine.specs.declared.steps.Told.{Told}
use Rattle.cache_machine.specs.States.{ActorTree, MachineState, StageTree, resting, looked, counted, half, missed, raised, holding, allowed}
use Rattle.cache_machine.specs.Moves.{ActTree, Acts, MoveTree, Moves, look, count, snap, answer, object, store, idle, goes, tells, fills, raises, writes, looks, counts, loads, hits, snaps, answers, after_verdict, is_idle, kept_of, place_in, policy, region_at, slot_at, told_in}
use Rattle.cache_machine.specs.Runs.{Happened, told_of}
use Rattle.cache_machine.specs.Justified.{IsAnswerAfter, IsHitAfter, did, is_count, is_look, is_snap, last_did}
use Rattle.cache_machine.specs.Inner.Words.{IsWorded, Knows}
use Rattle.cache_machine.proofs.Stepping.{hit_is, store_quiet}

-- ---- The last that passes

last_onto : {A : Type 0} (o : Option A) (xs : List A) (x : A) → last_or o (xs ++ x ∷ []) ≡ Some x
last_onto o [] x = refl
last_onto o (y ∷ xs) x = last_onto (Some y) xs x

last_same : (passes : Happened → Bool) (xs : List Happened) (x : Happened) → passes x ≡ false → last_or None (filter passes (xs ++ x ∷ [])) ≡ last_or None (filter passes xs)
last_same passes xs x e = ap (last_or None) (filter-append passes xs (x ∷ [])) ∙ rw e (ap (last_or None) (append-nil (filter passes xs)))

last_new : (passes : Happened → Bool) (xs : List Happened) (x : Happened) → passes x ≡ true → last_or None (filter passes (xs ++ x ∷ [])) ≡ Some x
last_new passes xs x e = ap (last_or None) (filter-append passes xs (x ∷ [])) ∙ rw e (last_onto None (filter passes xs) x)

and_no : (b : Bool) → b && false ≡ false
and_no true = refl
and_no false = refl

pub not_same : (a b : ℕ) → (b ≡ a → ⊥) → nat_eq a b ≡ false
not_same a b other = of (nat_eq a b) refl
  where
    of : (v : Bool) → nat_eq a b ≡ v → nat_eq a b ≡ false
    of true q = absurd (other (sym ((unsigned_Decides a b).0 q)))
    of false q = q

pub same_as_itself : (a : ℕ) → nat_eq a a ≡ true
same_as_itself a = (unsigned_Decides a a).1 refl

-- no step of another actor, and no idle one, is one that this actor did
not_did : (kind : ActTree → Bool) (a : ℕ) (x : Happened) → nat_eq x.step.actor a ≡ false → did kind a x ≡ false
not_did kind a x e = rw e (and_no (kind x.step.act))

idle_not_did : (kind : ActTree → Bool) (a : ℕ) (x : Happened) → is_idle x.move ≡ true → did kind a x ≡ false
idle_not_did kind a x e = rw e (ap (λ b. kind x.step.act && b) (and_no (nat_eq x.step.actor a)) ∙ and_no (kind x.step.act))

-- ---- Points that an actor was told so far

-- what this actor was told is dated by no more than this
abbrev pub UpTo : ℕ → ℕ → List Told → Type 0
UpTo a at ts = AllByRecursion (λ (t : Told). t.actor ≡ a → t.at ≤ at) ts

pub all_more : {A : Type 0} (P : A → Type 0) (xs ys : List A) → AllByRecursion P xs → AllByRecursion P ys → AllByRecursion P (xs ++ ys)
all_more P [] ys first second = second
all_more P (x ∷ xs) ys first second = (first.0, all_more P xs ys first.1 second)

pub all_weaker : {A : Type 0} (P Q : A → Type 0) → ((x : A) → P x → Q x) → (xs : List A) → AllByRecursion P xs → AllByRecursion Q xs
all_weaker P Q weaker [] all = tt
all_weaker P Q weaker (x ∷ xs) all = (weaker x all.0, all_weaker P Q weaker xs all.1)

pub told_more : (xs : List Happened) (x : Happened) → told_of (xs ++ x ∷ []) ≡ told_of xs ++ told_in x.move
told_more [] x = append-nil (told_in x.move)
told_more (y ∷ xs) x = ap (λ ts. told_in y.move ++ ts) (told_more xs x) ∙ sym (append_assoc (told_in y.move) (told_of xs) (told_in x.move))

-- ---- What an actor's stage says of what it did

pub record HasLooked (h : Head) (es : List EntryTree) (a p : ℕ) (xs : List Happened) (place : Place) : Type 0 where
  pub looking : Happened
  pub last_look : last_did is_look a xs ≡ Some looking
  pub op : List ℕ
  pub name : List ℕ
  pub look_is : looking.step.act ≡ look op name
  pub place_is : place_in (replay h es) p op name ≡ Some place

pub record HasCounted (h : Head) (es : List EntryTree) (a p : ℕ) (xs : List Happened) (place : Place) (at : ℕ) : Type 0 where
  pub within : at ≤ length es
  pub looks : HasLooked h (take at es) a p xs place
  pub counting : Happened
  pub last_count : last_did is_count a xs ≡ Some counting
  pub dated : at ≡ counting.at
  pub highest : UpTo a at (told_of xs)

pub record HasSnapped (h : Head) (es : List EntryTree) (a p : ℕ) (xs : List Happened) (c : CaseTree) (at : ℕ) : Type 0 where
  pub within : at ≤ length es
  pub snapping : Happened
  pub last_snap : last_did is_snap a xs ≡ Some snapping
  pub dated : at ≡ snapping.at
  pub op : List ℕ
  pub name : List ℕ
  pub snap_is : snapping.step.act ≡ snap op name
  pub object : ℕ
  pub object_is : number_of (replay h (take at es)).objects name ≡ Some object
  pub case_is : c ≡ case_at h (replay h (take at es)) p op object
  pub highest : UpTo a at (told_of xs)

abbrev pub Linked : Head → List EntryTree → ℕ → ℕ → List Happened → StageTree → Type 0
Linked h es a p xs (looked place slot) = HasLooked h es a p xs place
Linked h es a p xs (counted place slot at) = HasCounted h es a p xs place at
Linked h es a p xs (half place slot at word) = HasCounted h es a p xs place at
Linked h es a p xs (holding c number at) = HasSnapped h es a p xs c at
Linked h es a p xs _ = Unit {0}

-- ---- With a longer journal

place_more : (h : Head) (es more : List EntryTree) (p : ℕ) (op name : List ℕ) (place : Place) → place_in (replay h es) p op name ≡ Some place → place_in (replay h (es ++ more)) p op name ≡ Some place
place_more h es more p op name place e = of_object (number_of (replay h es).objects name) refl e
  where
    of_case : (n : ℕ) → number_of (replay h es).objects name ≡ Some n → (o : Option ℕ) → case_number (replay h es).cases p op n ≡ o → option_map (λ (k : ℕ). record { case = k; object = n }) o ≡ Some place → place_in (replay h (es ++ more)) p op name ≡ Some place
    of_case n at None q e = absurd (cc e)
    of_case n at (Some k) q e = rw (objects_stay h es more name n at, case_numbers_stay h es more p op n k q) e

    of_object : (o : Option ℕ) → number_of (replay h es).objects name ≡ o → option_and_then (λ (n : ℕ). option_map (λ (k : ℕ). record { case = k; object = n }) (case_number (replay h es).cases p op n)) o ≡ Some place → place_in (replay h (es ++ more)) p op name ≡ Some place
    of_object None at e = absurd (cc e)
    of_object (Some n) at e = of_case n at (case_number (replay h es).cases p op n) refl e

case_of_place : (s : State) (p : ℕ) (op name : List ℕ) (place : Place) → place_in s p op name ≡ Some place → case_named s p op name ≡ Some place.case
case_of_place s p op name place e = of_object (number_of s.objects name) e
  where
    of_case : (n : ℕ) (o : Option ℕ) → option_map (λ (k : ℕ). record { case = k; object = n }) o ≡ Some place → o ≡ Some place.case
    of_case n None e = absurd (cc e)
    of_case n (Some k) e = ap (option_map (λ (z : Place). z.case)) e

    of_object : (o : Option ℕ) → option_and_then (λ (n : ℕ). option_map (λ (k : ℕ). record { case = k; object = n }) (case_number s.cases p op n)) o ≡ Some place → option_and_then (case_number s.cases p op) o ≡ Some place.case
    of_object None e = absurd (cc e)
    of_object (Some n) e = of_case n (case_number s.cases p op n) e

module _ (h : Head) (es more : List EntryTree) (a p : ℕ) (xs : List Happened) where
  counted_longer : (place : Place) (at : ℕ) → HasCounted h es a p xs place at → HasCounted h (es ++ more) a p xs place at
  counted_longer place at l =
      let longer = length-append es more in
      let within = l.within in
      record {
        within = omega (arith, longer, within);
        looks = subst (λ (zs : List EntryTree). HasLooked h zs a p xs place) (sym (take-append-le at es more within)) l.looks;
        counting = l.counting;
        last_count = l.last_count;
        dated = l.dated;
        highest = l.highest;
      }

  pub linked_longer : (stage : StageTree) → Linked h es a p xs stage → Linked h (es ++ more) a p xs stage
  linked_longer (looked place slot) l = record { looking = l.looking; last_look = l.last_look; op = l.op; name = l.name; look_is = l.look_is; place_is = place_more h es more p l.op l.name place l.place_is }
  linked_longer (counted place slot at) l = counted_longer place at l
  linked_longer (half place slot at word) l = counted_longer place at l
  linked_longer (holding c number at) l =
      let longer = length-append es more in
      let within = l.within in
      let front = take-append-le at es more within in
      record {
        within = omega (arith, longer, within);
        snapping = l.snapping;
        last_snap = l.last_snap;
        dated = l.dated;
        op = l.op;
        name = l.name;
        snap_is = l.snap_is;
        object = l.object;
        object_is = rw front l.object_is;
        case_is = rw front l.case_is;
        highest = l.highest;
      }
  linked_longer (resting kept) l = tt
  linked_longer missed l = tt
  linked_longer (raised event) l = tt
  linked_longer (allowed kept) l = tt

-- ---- With a step that is none of the kinds, and tells the actor nothing

module _ (h : Head) (es : List EntryTree) (a p : ℕ) (xs : List Happened) (x : Happened) where
  looked_still : (place : Place) → did is_look a x ≡ false → HasLooked h es a p xs place → HasLooked h es a p (xs ++ x ∷ []) place
  looked_still place no_look l = record { looking = l.looking; last_look = last_same (did is_look a) xs x no_look ∙ l.last_look; op = l.op; name = l.name; look_is = l.look_is; place_is = l.place_is }

  highest_still : (at : ℕ) → UpTo a at (told_in x.move) → UpTo a at (told_of xs) → UpTo a at (told_of (xs ++ x ∷ []))
  highest_still at quiet up = subst (UpTo a at) (sym (told_more xs x)) (all_more (λ (t : Told). t.actor ≡ a → t.at ≤ at) (told_of xs) (told_in x.move) up quiet)

module _ (h : Head) (es : List EntryTree) (a p : ℕ) (xs : List Happened) (x : Happened) (no_look : did is_look a x ≡ false) (no_count : did is_count a x ≡ false) (no_snap : did is_snap a x ≡ false) (quiet : (at : ℕ) → UpTo a at (told_in x.move)) where
  counted_still : (place : Place) (at : ℕ) → HasCounted h es a p xs place at → HasCounted h es a p (xs ++ x ∷ []) place at
  counted_still place at l = record {
    within = l.within;
    looks = looked_still h (take at es) a p xs x place no_look l.looks;
    counting = l.counting;
    last_count = last_same (did is_count a) xs x no_count ∙ l.last_count;
    dated = l.dated;
    highest = highest_still h es a p xs x at (quiet at) l.highest;
  }

  pub linked_still : (stage : StageTree) → Linked h es a p xs stage → Linked h es a p (xs ++ x ∷ []) stage
  linked_still (looked place slot) l = looked_still h es a p xs x place no_look l
  linked_still (counted place slot at) l = counted_still place at l
  linked_still (half place slot at word) l = counted_still place at l
  linked_still (holding c number at) l = record {
    within = l.within;
    snapping = l.snapping;
    last_snap = last_same (did is_snap a) xs x no_snap ∙ l.last_snap;
    dated = l.dated;
    op = l.op;
    name = l.name;
    snap_is = l.snap_is;
    object = l.object;
    object_is = l.object_is;
    case_is = l.case_is;
    highest = highest_still h es a p xs x at (quiet at) l.highest;
  }
  linked_still (resting kept) l = tt
  linked_still missed l = tt
  linked_still (raised event) l = tt
  linked_still (allowed kept) l = tt

-- the same of a step of another actor, and of an idle one
pub linked_other : (h : Head) (es : List EntryTree) (b p : ℕ) (xs : List Happened) (x : Happened) (stage : StageTree) → (b ≡ x.step.actor → ⊥) → ((at : ℕ) → UpTo b at (told_in x.move)) → Linked h es b p xs stage → Linked h es b p (xs ++ x ∷ []) stage
linked_other h es b p xs x stage other quiet l =
    let none = not_same x.step.actor b other in
    linked_still h es b p xs x (not_did is_look b x none) (not_did is_count b x none) (not_did is_snap b x none) quiet stage l

pub linked_idle : (h : Head) (es : List EntryTree) (b p : ℕ) (xs : List Happened) (x : Happened) (stage : StageTree) → x.move ≡ idle → Linked h es b p xs stage → Linked h es b p (xs ++ x ∷ []) stage
linked_idle h es b p xs x stage e l =
    let none = ap is_idle e in
    linked_still h es b p xs x (idle_not_did is_look b x none) (idle_not_did is_count b x none) (idle_not_did is_snap b x none) (λ at. subst (λ (m : MoveTree). UpTo b at (told_in m)) (sym e) tt) stage l

-- ---- What an actor's own step comes to

module _ (s : MachineState) (w : IsWorded s) (a : ℕ) (y : ActorTree) (at_actor : slice_get s.actors a ≡ Some y) (xs : List Happened) (points : AllByRecursion (λ (t : Told). t.at ≤ length s.entries) (told_of xs)) where
  abbrev p : ℕ
  p = y.principal

  -- the step of this act and its move
  abbrev this_step : ActTree → MoveTree → Happened
  this_step act move = record { step = record { actor = a; act = act }; move = move; at = length s.entries }

  abbrev LinkedNow : ActTree → MoveTree → StageTree → Type 0
  LinkedNow act move stage = Linked s.head s.entries a p (xs ++ this_step act move ∷ []) stage

  -- a verdict that is told now
  pub record TellsNow (act : ActTree) (told : Told) : Type 0 where
    pub mine : told.actor ≡ a
    pub within : told.at ≤ length s.entries
    pub highest : UpTo a told.at (told_of xs)
    pub hit : told.hit ≡ true → IsHitAfter s.head s.entries a p xs told
    pub answered : told.hit ≡ false → IsAnswerAfter s.head s.entries a p xs act told

  abbrev pub NextLink : ActTree → MoveTree → Type 0
  NextLink act idle = Unit {0}
  NextLink act (goes stage) = LinkedNow act (goes stage) stage
  NextLink act (tells told stage) = LinkedNow act (tells told stage) stage × TellsNow act told
  NextLink act (fills kept stage) = LinkedNow act (fills kept stage) stage
  NextLink act (raises region event) = Unit {0}
  NextLink act (writes event) = Unit {0}

  whole : {A : Type 0} (xs : List A) → take (length xs) xs ≡ xs
  whole [] = refl
  whole (x ∷ xs) = ap (λ ys. x ∷ ys) (whole xs)

  -- all that was told to anyone so far is dated by no more than the length
  all_up_to : UpTo a (length s.entries) (told_of xs)
  all_up_to = all_weaker (λ (t : Told). t.at ≤ length s.entries) (λ (t : Told). t.actor ≡ a → t.at ≤ length s.entries) (λ t low mine. low) (told_of xs) points

  did_now : (kind : ActTree → Bool) (act : ActTree) (stage : StageTree) → kind act ≡ true → did kind a (this_step act (goes stage)) ≡ true
  did_now kind act stage e = rw (e, same_as_itself a) refl

  after_link : (act : ActTree) (move : MoveTree) (verdict : Verdict) (kept : Option Kept) → LinkedNow act move (after_verdict verdict kept)
  after_link act move Allowed kept = tt
  after_link act move (Denied cause) kept = tt

  -- what an act can come to
  acts_link : {stage : StageTree} {act : ActTree} {move : MoveTree} → Acts s a y.session p stage act move → Linked s.head s.entries a p xs stage → Knows s.head s.entries s.regions s.holder a y.session p stage → NextLink act move
  acts_link (looks {op = op} {name = name} {place = place} e) l known =
      let x = this_step (look op name) (goes (looked place (slot_at s place.case))) in
      record { looking = x; last_look = last_new (did is_look a) xs x (did_now is_look (look op name) (looked place (slot_at s place.case)) refl); op = op; name = name; look_is = refl; place_is = e }
  acts_link (counts {place} {slot}) l known =
      let x = this_step count (goes (counted place slot (length s.entries))) in
      record {
        within = omega arith;
        looks = subst (λ (zs : List EntryTree). HasLooked s.head zs a p (xs ++ x ∷ []) place) (sym (whole s.entries)) (looked_still s.head s.entries a p xs x place refl l);
        counting = x;
        last_count = last_new (did is_count a) xs x (did_now is_count count (counted place slot (length s.entries)) refl);
        dated = refl;
        highest = highest_still s.head s.entries a p xs x (length s.entries) tt all_up_to;
      }
  acts_link (loads {place} {slot} {at}) l known =
      linked_still s.head s.entries a p xs (this_step object (goes (half place slot at (region_at s (object_region place.object))))) refl refl refl (λ n. tt) (counted place slot at) l
  acts_link (hits {place} {slot} {at} {word} {kept} h) l known = (
    after_link store _ kept.verdict None,
    record {
      mine = refl;
      within = l.within;
      highest = l.highest;
      hit = λ _. record {
        counting = l.counting;
        last_count = l.last_count;
        dated = l.dated;
        looking = l.looks.looking;
        last_look = l.looks.last_look;
        op = l.looks.op;
        name = l.looks.name;
        look_is = l.looks.look_is;
        case = place.case;
        case_is = case_of_place (replay s.head (take at s.entries)) p l.looks.op l.looks.name place l.looks.place_is;
        right = hit_is s w a y at_actor place slot at word (region_at s (store_region p)) known.0 known.1 (store_quiet s w a y at_actor at) kept h;
      };
      answered = λ no. absurd (cc no);
    },
  )
  acts_link (snaps {op = op} {name = name} {n = n} may free n_is) l known =
      let stage = holding (case_at s.head (policy s) p op n) (case_number (policy s).cases p op n) (length s.entries) in
      let x = this_step (snap op name) (goes stage) in
      record {
        within = omega arith;
        snapping = x;
        last_snap = last_new (did is_snap a) xs x (did_now is_snap (snap op name) stage refl);
        dated = refl;
        op = op;
        name = name;
        snap_is = refl;
        object = n;
        object_is = rw (whole s.entries) n_is;
        case_is = rw (whole s.entries) refl;
        highest = highest_still s.head s.entries a p xs x (length s.entries) tt all_up_to;
      }
  acts_link (answers {c} {number} {at} {given} {verdict} told) l known = (
    after_link (answer given) _ verdict (kept_of c number at verdict),
    record {
      mine = refl;
      within = l.within;
      highest = l.highest;
      hit = λ no. absurd (cc no);
      answered = λ _. record {
        snapping = l.snapping;
        last_snap = l.last_snap;
        dated = l.dated;
        op = l.op;
        name = l.name;
        snap_is = l.snap_is;
        object = l.object;
        object_is = l.object_is;
        answers = given;
        answered = refl;
        verdict = subst (λ (z : CaseTree). IsVerdict z given verdict) l.case_is told;
      };
    },
  )
  acts_link _ l known = tt

  -- whatever the act
  pub move_link : Linked s.head s.entries a p xs y.stage → (act : ActTree) (move : MoveTree) → Moves s a y act move → NextLink act move
  move_link l act move (inl h) = acts_link h l (w.knows a y at_actor)
  move_link l act move (inr (is, none)) = subst (NextLink act) (sym is) tt
