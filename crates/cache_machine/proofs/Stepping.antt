-- What a step comes to fits the state, and the state after it is one of a machine again.
use Rattle.std.proofs.Common.{◌≡◌, ◌<◌, ◌≤◌, ◌+◌, ◌%◌, ◌⊎◌, inl, inr, ℕ, Bool, true, false, List, [], ◌∷◌, ◌++◌, length, take, filter, not, Option, Some, None, refl, sym, ap, ◌∙◌, subst, arith, length-append, get_or}
use Rattle.std.specs.List.{slice_get, list_any}
use Rattle.nal_rules.specs.Asking.{lines_of}
use Rattle.nal_rules.specs.Faults.{is_ask}
use Rattle.std.specs.Prelude.{if◌then◌else◌, OnOk, OnErr, Result, Ok, Err, slice_set, unwrap_or, option_map, option_and_then}
use Rattle.std.proofs.Math.ListN.{set}
use Rattle.std.proofs.lemmas.List.{length-set}
use Rattle.std.proofs.lemmas.List.Quantifiers.{position-Some}
use Rattle.std.proofs.lemmas.Option.{slice_get_within, slice_get-get_or}
use Rattle.nal_rules.specs.Verdicts.{CaseTree, IsVerdict}
use Rattle.nal_rules.specs.declared.verdicts.Cause.TheVariants.{GoalUnset, NoProof, Line, LabelMissing, NotBound, AuthorityNo}
use Rattle.nal_rules.specs.declared.verdicts.Verdict.{Verdict}
use Rattle.nal_rules.specs.declared.verdicts.Verdict.TheVariants.{Allowed, Denied}
use Rattle.object_table.specs.Objects.{number_of}
use Rattle.proof_store.specs.Cases.{CaseRow, is_case, number_of as case_number}
use Rattle.policy_history.specs.declared.heads.Head.{Head}
use Rattle.policy_history.specs.Events.{EntryTree, EventTree, say, transfer, delete, new_object, set_goal, clear_goal, set_proof, clear_proof, bind, unbind}
use Rattle.policy_history.specs.Judged.{IsHome, IsLasting, IsRight, IsUntouched, Touches, case_at, case_of_row, object_region, region_count, region_in, store_region}
use Rattle.policy_history.specs.Machine.{replay}
use Rattle.policy_history.specs.States.{State}
use Rattle.policy_history.proofs.ForCallers.{lasting_alone, same_triple}
use Rattle.std.specs.declared.alloc.AllocError.{AllocError}
use Rattle.cache_machine.specs.declared.stages.Kept.{Kept}
use Rattle.cache_machine.specs.declared.stages.Place.{Place}
use Rattle.cache_machine.specs.States.{ActorTree, MachineState, StageTree, resting, raised}
use Rattle.cache_machine.specs.Moves.{ActTree, Acts, IsHit, MoveTree, Moves, MovesAt, StepTree, idle, goes, tells, fills, raises, writes, looks, counts, loads, hits, misses, lifts, writes_raised, writes_free, snaps, answers, fills_allowed, fills_denied, runs, after_move, after_verdict, all_regions, gone_on, idle_after, kept_of, may_be_kept, place_in, policy, region_at, slot_at, slot_of, told_in, written_by}
use Rattle.cache_machine.specs.Inner.Words.{AllKnow, AreOfHead, AreRegions, AreSound, IsCounted, IsDoable, IsHeldAt, IsNext, IsNextOf, IsSoundIn, IsWorded, Knows}
use Rattle.cache_machine.specs.Runs.{IsRightMove}
use Rattle.cache_machine.specs.Machines.{IsAsBefore, IsStepped, MachineValue, state_in}
use Rattle.cache_machine.proofs.Keeping.{hit_right, knows_more, knows_still, set_at, set_here, some_same, sound_more, untouched_more, untouched_take}

-- ---- What a move is to fit

-- the entry that is written touches no region, or one whose word is the length plus 1
abbrev TouchesRaised : MachineState → ℕ → EventTree → Type 0
TouchesRaised s p e = (region_in (policy s) p e ≡ None) ⊎ ((region : ℕ) × (region_in (policy s) p e ≡ Some region) × (slice_get s.regions region ≡ Some (length s.entries + 1)))

abbrev pub Fits : MachineState → ℕ → ℕ → ℕ → MoveTree → Type 0
Fits s a session p idle = Unit {0}
Fits s a session p (goes stage) = Knows s.head s.entries s.regions s.holder a session p stage
Fits s a session p (tells told stage) = Knows s.head s.entries s.regions s.holder a session p stage
Fits s a session p (fills kept stage) = IsSoundIn s.head s.entries (Some kept) × Knows s.head s.entries s.regions s.holder a session p stage
Fits s a session p (raises region e) = (s.holder ≡ None) × IsNext s.head s.entries session p e × (region_in (policy s) p e ≡ Some region) × (region < all_regions)
Fits s a session p (writes e) = IsNext s.head s.entries session p e × ((s.holder ≡ None) ⊎ (s.holder ≡ Some a)) × TouchesRaised s p e

-- ---- Words

slot_sound : (s : MachineState) → AreSound s.head s.entries s.slots → (k : ℕ) → IsSoundIn s.head s.entries (slot_at s k)
slot_sound s sound k = of (slice_get s.slots (slot_of k)) refl
  where
    of : (o : Option (Option Kept)) → slice_get s.slots (slot_of k) ≡ o → IsSoundIn s.head s.entries (unwrap_or o None)
    of None e = tt
    of (Some None) e = tt
    of (Some (Some kept)) e = sound (slot_of k) kept e

-- a region's word, where there is none it is 0
region_quiet : (s : MachineState) → AreRegions s.head s.entries s.regions → (region : ℕ) → region < length s.regions → IsUntouched s.head s.entries (region_at s region) region
region_quiet s words region within =
    let at : slice_get s.regions region ≡ Some (get_or s.regions region 0) = slice_get-get_or s.regions region 0 within in
    subst (λ (o : Option ℕ). IsUntouched s.head s.entries (unwrap_or o 0) region) (sym at) (words region (get_or s.regions region 0) at).0

-- the place of a case is the home of its row
place_home : (h : Head) (es : List EntryTree) (p : ℕ) (op name : List ℕ) (place : Place) → place_in (replay h es) p op name ≡ Some place → IsHome h es place.case place.object p
place_home h es p op name place e = of_object (number_of (replay h es).objects name) e
  where
    rows : List CaseRow
    rows = (replay h es).cases

    of_case : (n : ℕ) (o : Option ℕ) → case_number rows p op n ≡ o → option_map (λ (k : ℕ). record { case = k; object = n }) o ≡ Some place → IsHome h es place.case place.object p
    of_case n None q e = absurd (cc e)
    of_case n (Some k) q e =
        let is : record { case = k; object = n } ≡ place = some_same (record { case = k; object = n }) place e in
        let d : CaseRow = (0, [], 0, None) in
        let found = position-Some (is_case p op n) rows k d q in
        let t = same_triple p op n (get_or rows k d) found.1 in
        subst (λ (z : Place). IsHome h es z.case z.object p) is (record { row = get_or rows k d; stands = slice_get-get_or rows k d found.0; object_is = sym t.2; subject_is = sym t.0 })

    of_object : (o : Option ℕ) → option_and_then (λ (n : ℕ). option_map (λ (k : ℕ). record { case = k; object = n }) (case_number rows p op n)) o ≡ Some place → IsHome h es place.case place.object p
    of_object None e = absurd (cc e)
    of_object (Some n) e = of_case n (case_number rows p op n) refl e

region_below : (s : State) (p : ℕ) (e : EventTree) (region : ℕ) → region_in s p e ≡ Some region → region < all_regions
region_below s p e region q = of e q
  where
    own : Some (store_region p) ≡ Some region → region < all_regions
    own is = let same : store_region p ≡ region = some_same (store_region p) region is in let small : p % region_count < region_count = omega arith in omega (arith, same, small)

    of_object : (o : Option ℕ) → option_map object_region o ≡ Some region → region < all_regions
    of_object None is = absurd (cc is)
    of_object (Some n) is = let same : object_region n ≡ region = some_same (object_region n) region is in let small : n % region_count < region_count = omega arith in omega (arith, same, small)

    of : (e : EventTree) → region_in s p e ≡ Some region → region < all_regions
    of (transfer k to) is = own is
    of (delete k) is = own is
    of (set_goal op name g) is = of_object (number_of s.objects name) is
    of (clear_goal op name) is = of_object (number_of s.objects name) is
    of (set_proof op name ls) is = of_object (number_of s.objects name) is
    of (clear_proof op name) is = of_object (number_of s.objects name) is
    of (say t f) is = absurd (cc is)
    of (new_object x) is = absurd (cc is)
    of (bind t port) is = absurd (cc is)
    of (unbind t) is = absurd (cc is)

-- ---- What may be kept

none_pass : {A : Type 0} (passes : A → Bool) (xs : List A) → list_any passes xs ≡ false → filter passes xs ≡ []
none_pass passes [] e = refl
none_pass passes (x ∷ xs) e = of (passes x) refl (none_pass passes xs)
  where
    of : (b : Bool) → passes x ≡ b → (list_any passes xs ≡ false → filter passes xs ≡ []) → filter passes (x ∷ xs) ≡ []
    of true q later = absurd (cc (rw q at e))
    of false q later = rw q (later (rw q at e))

lasting : (c : CaseTree) (verdict : Verdict) → may_be_kept c verdict ≡ true → IsLasting c verdict
lasting c Allowed e = none_pass is_ask (lines_of c) (of (list_any is_ask (lines_of c)) e)
  where
    of : (b : Bool) → not b ≡ true → b ≡ false
    of true q = absurd (cc q)
    of false q = refl
lasting c (Denied GoalUnset) e = tt
lasting c (Denied NoProof) e = tt
lasting c (Denied (Line k fault)) e = tt
lasting c (Denied (LabelMissing k)) e = absurd (cc e)
lasting c (Denied (NotBound k)) e = absurd (cc e)
lasting c (Denied (AuthorityNo k)) e = absurd (cc e)

kept_right : (h : Head) (es : List EntryTree) (p : ℕ) (c : CaseTree) (number : Option ℕ) (at : ℕ) → IsHeldAt h es p c number at → (given : List Bool) (verdict : Verdict) → IsVerdict c given verdict → IsSoundIn h es (kept_of c number at verdict)
kept_right h es p c number at known given verdict told = of (may_be_kept c verdict) refl number known.number_is
  where
    s : State
    s = replay h (take at es)

    of : (b : Bool) → may_be_kept c verdict ≡ b → (o : Option ℕ) → o ≡ case_number s.cases p known.op known.object → IsSoundIn h es (if b then option_map (λ (k : ℕ). record { case = k; point = at; verdict = verdict }) o else None)
    of false q o is = tt
    of true q None is = tt
    of true q (Some k) is =
        let d : CaseRow = (0, [], 0, None) in
        let found = position-Some (is_case p known.op known.object) s.cases k d (sym is) in
        let row = get_or s.cases k d in
        let t = same_triple p known.op known.object row found.1 in
        let case_is : c ≡ case_of_row h s row = known.case_is ∙ (λ i. case_at h s (t.0 i) (t.1 i) (t.2 i)) in
        let last : IsLasting (case_of_row h s row) verdict = subst (λ (x : CaseTree). IsLasting x verdict) case_is (lasting c verdict q) in (
          known.within,
          record {
            row = row;
            stands = slice_get-get_or s.cases k d found.0;
            lasting = last;
            told = lasting_alone (case_of_row h s row) given verdict last (subst (λ (x : CaseTree). IsVerdict x given verdict) case_is told);
          },
        )

-- ---- What each act comes to fits

module _ (s : MachineState) (w : IsWorded s) (a session p : ℕ) (own : p < length s.head.principals) where
  abbrev Known : StageTree → Type 0
  Known stage = Knows s.head s.entries s.regions s.holder a session p stage

  abbrev FitsHere : MoveTree → Type 0
  FitsHere move = Fits s a session p move

  take_whole : {A : Type 0} (xs : List A) → take (length xs) xs ≡ xs
  take_whole [] = refl
  take_whole (x ∷ xs) = ap (λ ys. x ∷ ys) (take_whole xs)

  -- a verdict leaves an actor that knows what it may keep
  after_known : (verdict : Verdict) (kept : Option Kept) → IsSoundIn s.head s.entries kept → Known (after_verdict verdict kept)
  after_known Allowed kept sound = sound
  after_known (Denied cause) kept sound = sound

  pub acts_fit : {stage : StageTree} {act : ActTree} {move : MoveTree} → Acts s a session p stage act move → Known stage → FitsHere move
  acts_fit (looks {op = op} {name = name} {place = place} e) known = (slot_sound s w.sound place.case, place_home s.head s.entries p op name place e)
  acts_fit (counts {place} {slot}) known =
      let whole : take (length s.entries) s.entries ≡ s.entries = take_whole s.entries in
      record {
        within = omega arith;
        sound = subst (λ (xs : List EntryTree). IsSoundIn s.head xs slot) (sym whole) known.0;
        home = subst (λ (xs : List EntryTree). IsHome s.head xs place.case place.object p) (sym whole) known.1;
      }
  acts_fit (loads {place} {slot} {at}) known =
      let region = object_region place.object in
      let many = w.regions in
      let low : place.object % region_count < region_count = omega arith in
      (known, untouched_take s.head s.entries at (region_at s region) region (region_quiet s w.words region (omega (arith, many, low))))
  acts_fit (hits {kept = kept} h) known = after_known kept.verdict None tt
  acts_fit (misses none) known = tt
  acts_fit (lifts {e = event} {region = region} c) known = (c.free, (own, c.accepted), c.touches, region_below (policy s) p event region c.touches)
  acts_fit writes_raised known = (known.next, inr known.holds, inr (known.region, known.touches, known.word))
  acts_fit (writes_free c) known = ((own, c.accepted), inl c.free, inl c.touches)
  acts_fit (snaps {op = op} {n = n} may free n_is) known =
      let whole : take (length s.entries) s.entries ≡ s.entries = take_whole s.entries in
      record { op = op; object = n; within = omega arith; case_is = rw whole refl; number_is = rw whole refl }
  acts_fit (answers {c} {number} {at} {given} {verdict} told) known = after_known verdict (kept_of c number at verdict) (kept_right s.head s.entries p c number at known given verdict told)
  acts_fit fills_allowed known = (known, tt)
  acts_fit fills_denied known = (known, tt)
  acts_fit runs known = tt

-- what an act of an actor comes to fits
pub move_fits : (s : MachineState) → IsWorded s → (a : ℕ) (x : ActorTree) → slice_get s.actors a ≡ Some x → (act : ActTree) (move : MoveTree) → Moves s a x act move → Fits s a x.session x.principal move
move_fits s w a x at act move (inl h) = acts_fit s w a x.session x.principal (w.principals a x at) h (w.knows a x at)
move_fits s w a x at act move (inr (is, none)) = subst (Fits s a x.session x.principal) (sym is) tt

-- ---- The state after a move is a machine's

module _ (s : MachineState) (w : IsWorded s) (a : ℕ) (x : ActorTree) (at : slice_get s.actors a ≡ Some x) where
  abbrev moved_actors : StageTree → List ActorTree
  moved_actors stage = set s.actors a (record x { stage = stage })

  still_of_head : (stage : StageTree) → AreOfHead s.head (moved_actors stage)
  still_of_head stage b y e = elim (set_at s.actors a (record x { stage = stage }) b y e) [
    | inl p ↦ subst (λ (z : ActorTree). z.principal < length s.head.principals) (sym p.1) (w.principals a x at)
    | inr q ↦ w.principals b y q.1
  ]

  -- it is enough to know what the one actor knows, and what each other does
  all_know : (es : List EntryTree) (regions : List ℕ) (holder : Option ℕ) (stage : StageTree) → Knows s.head es regions holder a x.session x.principal stage
      → ((b : ℕ) (y : ActorTree) → (b ≡ a → ⊥) → slice_get s.actors b ≡ Some y → Knows s.head es regions holder b y.session y.principal y.stage) → AllKnow s.head es regions holder (moved_actors stage)
  all_know es regions holder stage own others b y e = elim (set_at s.actors a (record x { stage = stage }) b y e) [
    | inl p ↦ subst (λ (z : ActorTree). Knows s.head es regions holder b z.session z.principal z.stage) (sym p.1) (subst (λ (n : ℕ). Knows s.head es regions holder n x.session x.principal stage) (sym p.0) own)
    | inr q ↦ others b y q.0 q.1
  ]

  went : (stage : StageTree) → Knows s.head s.entries s.regions s.holder a x.session x.principal stage → IsWorded (record s { actors = moved_actors stage })
  went stage own = record {
    slots = w.slots;
    regions = w.regions;
    sound = w.sound;
    words = w.words;
    principals = still_of_head stage;
    knows = all_know s.entries s.regions s.holder stage own (λ b y other. w.knows b y);
  }

  filled : (stage : StageTree) (kept : Kept) → IsSoundIn s.head s.entries (Some kept) → Knows s.head s.entries s.regions s.holder a x.session x.principal stage
      → IsWorded (record s { actors = moved_actors stage; slots = slice_set s.slots (slot_of kept.case) (Some kept) })
  filled stage kept sound own = record {
    slots = length-set s.slots (slot_of kept.case) (Some kept) ∙ w.slots;
    regions = w.regions;
    sound = λ i other e. elim (set_at s.slots (slot_of kept.case) (Some kept) i (Some other) e) [
      | inl p ↦ subst (λ (o : Option Kept). IsSoundIn s.head s.entries o) (sym p.1) sound
      | inr q ↦ w.sound i other q.1
    ];
    words = w.words;
    principals = still_of_head stage;
    knows = all_know s.entries s.regions s.holder stage own (λ b y other. w.knows b y);
  }

  no_holder : s.holder ≡ None → (b : ℕ) → s.holder ≡ Some b → ⊥
  no_holder free b held = cc (sym free ∙ held)

  lifted : (region : ℕ) (event : EventTree) → Fits s a x.session x.principal (raises region event)
      → IsWorded (record s { actors = moved_actors (raised event); regions = slice_set s.regions region (length s.entries + 1); holder = Some a })
  lifted region event (free, next, touches, low) =
      let many = w.regions in
      let here : slice_get s.regions region ≡ Some (get_or s.regions region 0) = slice_get-get_or s.regions region 0 (omega (arith, low, many)) in
      record {
        slots = w.slots;
        regions = length-set s.regions region (length s.entries + 1) ∙ w.regions;
        sound = w.sound;
        words = λ r word e. elim (set_at s.regions region (length s.entries + 1) r word e) [
          | inl p ↦ raised_word r word p.1
          | inr q ↦ w.words r word q.1
        ];
        principals = still_of_head (raised event);
        knows = all_know s.entries (slice_set s.regions region (length s.entries + 1)) (Some a) (raised event)
            (record { holds = refl; next = next; region = region; touches = touches; word = set_here s.regions region (get_or s.regions region 0) (length s.entries + 1) here })
            (λ b y other e. knows_still s.head s.entries s.regions (slice_set s.regions region (length s.entries + 1)) s.holder (Some a) b y.session y.principal y.stage (no_holder free b) (w.knows b y e));
      }
    where
      raised_word : (r word : ℕ) → word ≡ length s.entries + 1 → IsUntouched s.head s.entries word r × (word ≤ length s.entries + 1)
      raised_word r word is = ((λ before e later split from touch. let long = ap length split in let both = length-append before (e ∷ later) in absurd (omega (arith, from, is, long, both))), omega (arith, is))

  abbrev next_entry : EventTree → EntryTree
  next_entry event = record { session = x.session; principal = x.principal; event = event }

  written : (event : EventTree) → Fits s a x.session x.principal (writes event)
      → IsWorded (record s { actors = moved_actors (resting None); entries = s.entries ++ next_entry event ∷ []; holder = None })
  written event (next, holds, touches) = record {
    slots = w.slots;
    regions = w.regions;
    sound = λ i kept e. sound_more s.head s.entries (next_entry event ∷ []) (Some kept) (w.sound i kept e);
    words = λ r word e. (
      untouched_more s.head s.entries (next_entry event) word r (w.words r word e).0 (λ low touch. apart touches r word e low touch),
      (let short = (w.words r word e).1 in let long = length-append s.entries (next_entry event ∷ []) in omega (arith, short, long)),
    );
    principals = still_of_head (resting None);
    knows = all_know (s.entries ++ next_entry event ∷ []) s.regions None (resting None) tt
        (λ b y other e. knows_more s.head s.entries (next_entry event ∷ []) s.regions s.regions s.holder None b y.session y.principal y.stage (not_held holds b other) (w.knows b y e));
  }
    where
      apart : TouchesRaised s x.principal event → (r word : ℕ) → slice_get s.regions r ≡ Some word → word ≤ length s.entries → Touches s.head s.entries (next_entry event) r → ⊥
      apart (inl none) r word e low touch = cc (sym none ∙ touch)
      apart (inr (region, is, at_region)) r word e low touch =
          let same : region ≡ r = some_same region r (sym is ∙ touch) in
          let word_is : length s.entries + 1 ≡ word = some_same (length s.entries + 1) word (sym at_region ∙ ap (slice_get s.regions) same ∙ e) in
          omega (arith, word_is, low)

      not_held : (s.holder ≡ None) ⊎ (s.holder ≡ Some a) → (b : ℕ) → (b ≡ a → ⊥) → s.holder ≡ Some b → ⊥
      not_held (inl free) b other held = cc (sym free ∙ held)
      not_held (inr mine) b other held = other (some_same b a (sym held ∙ mine))

  pub kept_after : (move : MoveTree) → Fits s a x.session x.principal move → IsWorded (after_move s a move)
  kept_after idle fits = w
  kept_after (goes stage) fits = subst (λ (o : Option ActorTree). IsWorded (record s { actors = gone_on s.actors a o stage })) (sym at) (went stage fits)
  kept_after (tells told stage) fits = subst (λ (o : Option ActorTree). IsWorded (record s { actors = gone_on s.actors a o stage })) (sym at) (went stage fits)
  kept_after (fills kept stage) fits =
      subst (λ (o : Option ActorTree). IsWorded (record s { actors = gone_on s.actors a o stage; slots = slice_set s.slots (slot_of kept.case) (Some kept) })) (sym at) (filled stage kept fits.0 fits.1)
  kept_after (raises region event) fits =
      subst (λ (o : Option ActorTree). IsWorded (record s { actors = gone_on s.actors a o (raised event); regions = slice_set s.regions region (length s.entries + 1); holder = Some a })) (sym at) (lifted region event fits)
  kept_after (writes event) fits =
      subst (λ (o : Option ActorTree). IsWorded (record s { actors = gone_on s.actors a o (resting None); entries = written_by s.entries o event; holder = None })) (sym at) (written event fits)

  doable_of : (move : MoveTree) → Fits s a x.session x.principal move → IsDoable s a move
  doable_of idle fits = tt
  doable_of (goes stage) fits = slice_get_within s.actors a x at
  doable_of (tells told stage) fits = slice_get_within s.actors a x at
  doable_of (fills kept stage) fits = slice_get_within s.actors a x at
  doable_of (raises region event) fits = (slice_get_within s.actors a x at, fits.3)
  doable_of (writes event) fits = (slice_get_within s.actors a x at, subst (λ (o : Option ActorTree). IsNextOf s o event) (sym at) fits.0)

-- what a step comes to can be done, and leaves a machine's state
pub step_doable : (s : MachineState) → IsWorded s → (a : ℕ) (act : ActTree) (move : MoveTree) → MovesAt s a (slice_get s.actors a) act move → IsDoable s a move
step_doable s w a act move m = of (slice_get s.actors a) refl m
  where
    of : (o : Option ActorTree) → slice_get s.actors a ≡ o → MovesAt s a o act move → IsDoable s a move
    of None at m = subst (IsDoable s a) (sym m) tt
    of (Some x) at m = doable_of s w a x at move (move_fits s w a x at act move m)

pub step_kept : (s : MachineState) → IsWorded s → (a : ℕ) (act : ActTree) (move : MoveTree) → MovesAt s a (slice_get s.actors a) act move → IsWorded (after_move s a move)
step_kept s w a act move m = of (slice_get s.actors a) refl m
  where
    of : (o : Option ActorTree) → slice_get s.actors a ≡ o → MovesAt s a o act move → IsWorded (after_move s a move)
    of None at m = subst (λ (n : MoveTree). IsWorded (after_move s a n)) (sym m) w
    of (Some x) at m = kept_after s w a x at move (move_fits s w a x at act move m)

-- whether the step was taken or there was no memory
pub step_left : (s t : MachineState) → IsWorded s → (a : ℕ) (act : ActTree) (move : MoveTree) → MovesAt s a (slice_get s.actors a) act move
    → (r : Result (Unit {0}) AllocError) → OnOk r (t ≡ after_move s a move) → OnErr r (t ≡ s) → IsWorded t
step_left s t w a act move m (Ok _) done failed = subst IsWorded (sym done) (step_kept s w a act move m)
step_left s t w a act move m (Err _) done failed = subst IsWorded (sym failed) w

pub err_state : (A B C : Type 0) (r : Result (Unit {0}) AllocError) → OnErr r (A × B × C) → OnErr r A
err_state A B C (Ok _) h = tt
err_state A B C (Err _) h = h.0

-- ---- What is told is right at its point

module _ (s : MachineState) (w : IsWorded s) (a : ℕ) (x : ActorTree) (at : slice_get s.actors a ≡ Some x) where
  abbrev RightHere : ActTree → MoveTree → Type 0
  RightHere act move = IsRightMove s.head s.entries s.actors a act move

  -- a hit is right of the case at the length that was counted
  pub hit_is : (place : Place) (slot : Option Kept) (point word second : ℕ) → IsCounted s.head s.entries x.principal place slot point → IsUntouched s.head (take point s.entries) word (object_region place.object)
      → IsUntouched s.head (take point s.entries) second (store_region x.principal) → (kept : Kept) → IsHit slot place.case word second kept → IsRight s.head (take point s.entries) place.case kept.verdict
  hit_is place slot point word second counted_is far other kept h =
      let es = take point s.entries in
      let sound : IsSoundIn s.head es (Some kept) = subst (λ (o : Option Kept). IsSoundIn s.head es o) h.keeps counted_is.sound in
      let home : IsHome s.head es kept.case place.object x.principal = subst (λ (k : ℕ). IsHome s.head es k place.object x.principal) (sym h.same_case) counted_is.home in
      subst (λ (k : ℕ). IsRight s.head es k kept.verdict) h.same_case (hit_right s.head es kept place.object x.principal word second sound home far other h.object_low h.store_low)

  -- the word of the region of the store that an actor loads now
  pub store_quiet : (point : ℕ) → IsUntouched s.head (take point s.entries) (region_at s (store_region x.principal)) (store_region x.principal)
  store_quiet point =
      let region = store_region x.principal in
      let many = w.regions in
      let small : x.principal % region_count < region_count = omega arith in
      untouched_take s.head s.entries point (region_at s region) region (region_quiet s w.words region (omega (arith, many, small)))

  -- no act but Store and Answer tells anything
  acts_told : {stage : StageTree} {act : ActTree} {move : MoveTree} → Acts s a x.session x.principal stage act move → Knows s.head s.entries s.regions s.holder a x.session x.principal stage → RightHere act move
  acts_told (hits {place} {slot} {at = point} {word} {kept} h) known = (
    refl,
    x,
    at,
    record { within = known.0.within; case = place.case; object = place.object; home = known.0.home; right = hit_is place slot point word (region_at s (store_region x.principal)) known.0 known.1 (store_quiet point) kept h },
  )
  acts_told (answers {given = given} {verdict = verdict} told) known = (
    refl,
    x,
    at,
    record {
      within = known.within;
      op = known.op;
      object = known.object;
      answers = given;
      answered = refl;
      verdict = subst (λ (z : CaseTree). IsVerdict z given verdict) known.case_is told;
    },
  )
  acts_told _ known = tt

  pub move_told : (act : ActTree) (move : MoveTree) → Moves s a x act move → RightHere act move
  move_told act move (inl h) = acts_told h (w.knows a x at)
  move_told act move (inr (is, none)) = subst (RightHere act) (sym is) tt

pub step_told : (s : MachineState) → IsWorded s → (a : ℕ) (act : ActTree) (move : MoveTree) → MovesAt s a (slice_get s.actors a) act move → IsRightMove s.head s.entries s.actors a act move
step_told s w a act move m = of (slice_get s.actors a) refl m
  where
    of : (o : Option ActorTree) → slice_get s.actors a ≡ o → MovesAt s a o act move → IsRightMove s.head s.entries s.actors a act move
    of None at m = subst (IsRightMove s.head s.entries s.actors a act) (sym m) tt
    of (Some x) at m = move_told s w a x at act move m

-- what a step is told to have done is what it did
pub stepped : (old inside new : MachineValue) → IsWorded (state_in inside) → inside ≡ old → (step : StepTree) (move : MoveTree) → MovesAt (state_in inside) step.actor (slice_get (state_in inside).actors step.actor) step.act move
    → (r : Result (Unit {0}) AllocError) → OnOk r (state_in new ≡ after_move (state_in inside) step.actor move) → OnOk r (new.told ≡ inside.told ++ told_in move) → OnOk r (new.idle ≡ idle_after move inside.idle) → OnOk r (IsStepped old step new)
stepped old inside new w same step move m (Ok _) state told idle_is = subst (λ (v : MachineValue). IsStepped v step new) same (record { move = move; state = (m, state); told = told; idle = idle_is; right = step_told (state_in inside) w step.actor step.act move m })
stepped old inside new w same step move m (Err _) state told idle_is = tt

pub unstepped : (old inside new : MachineValue) → inside ≡ old → (r : Result (Unit {0}) AllocError) → OnErr r ((state_in new ≡ state_in inside) × (new.told ≡ inside.told) × (new.idle ≡ inside.idle)) → OnErr r (IsAsBefore old new)
unstepped old inside new same (Ok _) h = tt
unstepped old inside new same (Err _) (state, told, idle_is) = subst (λ (v : MachineValue). IsAsBefore v new) same (record { state = state; told = told; idle = idle_is })
