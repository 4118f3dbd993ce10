-- Steps of the load, one after another.
use Rattle.std.proofs.Common.{◌≡◌, ◌<◌, ◌≤◌, ◌+◌, ◌-◌, ◌⊎◌, inl, inr, ℕ, zero, suc, List, [], ◌∷◌, ◌++◌, length, take, Option, Some, refl, sym, ap, ◌∙◌, subst, arith, append-nil, length-append}
use Rattle.std.specs.List.{slice_get, AllByRecursion}
use Rattle.std.specs.Prelude.{◌%◌, ◌/◌, All, count_by}
use Rattle.std.proofs.lemmas.List.{length-map, take-append-le}
use Rattle.policy_history.specs.declared.events.Entry.{Entry}
use Rattle.policy_history.specs.declared.heads.Head.{Head}
use Rattle.policy_history.specs.Events.{EntryTree, entry_tree}
use Rattle.policy_history.specs.Machine.{IsLegal, replay}
use Rattle.policy_history.specs.Values.{History, entry_trees, state_after as state_after_history}
use Rattle.cache_machine.specs.declared.steps.Step.{Step}
use Rattle.cache_machine.specs.Views.{step_tree}
use Rattle.cache_machine.proofs.ForCallers.{outcome_of, happens, head_after, none_taken, one_more_taken}
use Rattle.cache_machine.specs.declared.steps.Outcome.{Outcome}
use Rattle.cache_machine.specs.States.{MachineState}
use Rattle.cache_machine.specs.Moves.{IsStep, MoveTree, StepTree}
use Rattle.cache_machine.specs.Machines.{IsStepped, MachineValue, first_state, state_in}
use Rattle.cache_machine.specs.Runs.{Happened, entries_of}
use Rattle.nexus_drill.specs.Draws.{draw, draw_of, next, state_after}
use Rattle.nexus_drill.specs.Inner.{AreLoaded, IsDrawnStep, IsReady, held_after}
use Rattle.nexus_drill.specs.Loads.{AreDrawn, IsCoreLine, IsLoad, act_of, change_of, is_allowed, is_denied, line_of, opening, opening_head, start, step_of}
use Rattle.nexus_drill.proofs.Labels.{adds, held_at_start, held_step, last_is_held}

-- a step leaves what stood in the journal
longer : (s : MachineState) (step : StepTree) (move : MoveTree) (t : MachineState) → IsStep s step move t → (more : List EntryTree) × (t.entries ≡ s.entries ++ more)
longer s step move t taken = elim (adds s step move t taken) [
  | inl same ↦ ([], same ∙ sym (append-nil s.entries))
  | inr one ↦ (record { session = one.actor.session; principal = one.actor.principal; event = one.event } ∷ [], one.entries)
]

all_more : {A : Type 0} (P : A → Type 0) (xs : List A) (x : A) → AllByRecursion P xs → P x → AllByRecursion P (xs ++ x ∷ [])
all_more P [] x all here = (here, tt)
all_more P (y ∷ xs) x all here = (all.0, all_more P xs x all.1 here)

all_weaker : {A : Type 0} (P Q : A → Type 0) → ((x : A) → P x → Q x) → (xs : List A) → AllByRecursion P xs → AllByRecursion Q xs
all_weaker P Q weaker [] all = tt
all_weaker P Q weaker (x ∷ xs) all = (weaker x all.0, all_weaker P Q weaker xs all.1)

all_get : {A : Type 0} (P : A → Type 0) (xs : List A) (i : ℕ) (x : A) → AllByRecursion P xs → slice_get xs i ≡ Some x → P x
all_get P [] i x all at = absurd (cc at)
all_get P (y ∷ xs) zero x all at = let same : y ≡ x = cc at in subst P same all.0
all_get P (y ∷ xs) (suc i) x all at = all_get P xs i x all.1 at

-- an element of a list with one more is the last, or one before
of_last : {A : Type 0} (xs : List A) (y : A) (i : ℕ) (x : A) → slice_get (xs ++ y ∷ []) i ≡ Some x → ((i ≡ length xs) × (y ≡ x)) ⊎ (slice_get xs i ≡ Some x)
of_last [] y zero x at = let same : y ≡ x = cc at in inl (refl, same)
of_last [] y (suc i) x at = absurd (cc at)
of_last (z ∷ xs) y zero x at = inr at
of_last (z ∷ xs) y (suc i) x at = elim (of_last xs y i x at) [
  | inl p ↦ inl (ap suc p.0, p.1)
  | inr q ↦ inr q
]

take_whole : {A : Type 0} (xs more : List A) → take (length xs) (xs ++ more) ≡ xs
take_whole [] more = refl
take_whole (x ∷ xs) more = ap (λ ys. x ∷ ys) (take_whole xs more)

pub none_loaded : (number : ℕ) (m : MachineValue) → AreLoaded number m 0 m
none_loaded number m = record { steps = []; happened = []; many = refl; recorded = refl; taken = none_taken m; before = tt; drawn = λ place x at. absurd (cc at) }

pub one_more_loaded : (number : ℕ) (old mid new : MachineValue) (count : ℕ) (held : Option ℕ) → AreLoaded number old count mid → IsDrawnStep mid (draw number count) new held → AreLoaded number old (count + 1) new
one_more_loaded number old mid new count held so_far next =
    let s = state_in mid in
    let t = state_in new in
    let step = step_of (draw number count) s.entries in
    let move = next.stepped.move in
    let x = happens mid step move in
    let xs = so_far.happened in
    let grown = longer s step move t next.stepped.state in
    let more = grown.0 in
    let entries = grown.1 in
    let long = length-append s.entries more in
    let total : length t.entries ≡ length (s.entries ++ more) = ap length entries in
    let many = so_far.many in
    let recorded = so_far.recorded in
    let steps_long = length-append so_far.steps (step ∷ []) in
    let xs_long = length-append xs (x ∷ []) in
    record {
      steps = so_far.steps ++ step ∷ [];
      happened = xs ++ x ∷ [];
      many = omega (arith, many, steps_long);
      recorded = omega (arith, recorded, xs_long);
      taken = one_more_taken old mid new so_far.steps xs step so_far.taken next.stepped;
      before = all_more (λ (y : Happened). y.at ≤ length t.entries) xs x
          (all_weaker (λ (y : Happened). y.at ≤ length s.entries) (λ (y : Happened). y.at ≤ length t.entries) (λ y low. omega (arith, low, total, long)) xs so_far.before)
          (omega (arith, total, long));
      drawn = λ place y at. elim (of_last xs x place y at) [
        | inl p ↦
            let here : count ≡ place = sym (p.0 ∙ recorded) in
            subst (λ (z : Happened). z.step ≡ step_of (draw number place) (take z.at t.entries)) p.1
            (subst (λ (n : ℕ). step ≡ step_of (draw number n) (take (length s.entries) t.entries)) here (sym (ap (step_of (draw number count)) (ap (take (length s.entries)) entries ∙ take_whole s.entries more))))
        | inr q ↦
            let within = all_get (λ (z : Happened). z.at ≤ length s.entries) xs place y so_far.before q in
            so_far.drawn place y q ∙ ap (step_of (draw number place)) (sym (take-append-le y.at s.entries more within) ∙ ap (take y.at) (sym entries))
      ];
    }

-- ---- One step of the code

trees_long : (es : List Entry) → length (entry_trees es) ≡ length es
trees_long es = length-map es entry_tree

pub drawn_step : (old new : MachineValue) (h : ℕ) (held : Option ℕ) (step : Step) → IsReady old held → step_tree step ≡ record { actor = h % 4; act = act_of ((h / 4) % 10) (change_of held) } → IsStepped old (step_tree step) new
    → (before after : History) → before ≡ old.world.journal → after ≡ new.world.journal → (m n : ℕ) → m ≡ length before.entries → n ≡ length after.entries
    → (state_after_history before).entries ≡ m → IsLegal after.head (entry_trees after.entries) → (now : Option ℕ) → now ≡ held_after held m n → IsDrawnStep old h new now
drawn_step old new h held step ready step_is stepped before after before_is after_is m n m_is n_is counted legal now now_is =
    let s = state_in old in
    let t = state_in new in
    let here : step_tree step ≡ step_of h s.entries = step_is ∙ ap (λ (o : Option ℕ). record { actor = h % 4; act = act_of ((h / 4) % 10) (change_of o) }) (sym (last_is_held s.entries held ready.held_is)) in
    let old_long : m ≡ length s.entries = m_is ∙ ap (λ (j : History). length j.entries) before_is ∙ sym (trees_long old.world.journal.entries) in
    let new_long : n ≡ length t.entries = n_is ∙ ap (λ (j : History). length j.entries) after_is ∙ sym (trees_long new.world.journal.entries) in
    let head : t.head ≡ opening_head = ap (λ (z : MachineState). z.head) stepped.state.1 ∙ head_after s (step_tree step).actor stepped.move ∙ ready.head in
    let lawful : IsLegal opening_head t.entries = subst (λ (k : Head). IsLegal k t.entries) head (subst (λ (j : History). IsLegal j.head (entry_trees j.entries)) after_is legal) in
    let counted_here : (replay s.head s.entries).entries ≡ m = subst (λ (j : History). (state_after_history j).entries ≡ m) before_is counted in
    let many : (replay opening_head s.entries).entries ≡ length s.entries = subst (λ (k : Head). (replay k s.entries).entries ≡ length s.entries) ready.head (counted_here ∙ old_long) in
    let own : IsStep s (record { actor = h % 4; act = act_of ((h / 4) % 10) (change_of held) }) stepped.move t = subst (λ (z : StepTree). IsStep s z stepped.move t) step_is stepped.state in
    record {
      stepped = subst (λ (z : StepTree). IsStepped old z new) here stepped;
      ready = record { head = head; held_is = rw (now_is, old_long, new_long) (held_step s t (h % 4) ((h / 4) % 10) held stepped.move own ready.held_is lawful many) };
    }

pub next_state : (number place : ℕ) → state_after number (place + 1) ≡ next (state_after number place)
next_state number place = let more : place + 1 ≡ suc place = omega arith in ap (state_after number) more

pub next_loaded : (number : ℕ) (old mid new : MachineValue) (place x y h : ℕ) (held : Option ℕ) → x ≡ state_after number place → y ≡ next x → h ≡ draw_of y → AreLoaded number old place mid → IsDrawnStep mid h new held
    → (y ≡ state_after number (place + 1)) × IsReady new held × AreLoaded number old (place + 1) new
next_loaded number old mid new place x y h held x_is y_is h_is so_far taken =
    let state : y ≡ state_after number (place + 1) = y_is ∙ ap next x_is ∙ sym (next_state number place) in
    let drawn : h ≡ draw number place = h_is ∙ ap draw_of state in (
      state,
      taken.ready,
      one_more_loaded number old mid new place held so_far (subst (λ (k : ℕ). IsDrawnStep mid k new held) drawn taken),
    )

pub all_loaded : (number total place : ℕ) (old new : MachineValue) → place ≡ total → AreLoaded number old place new → AreLoaded number old total new
all_loaded number total place old new same loaded = subst (λ (n : ℕ). AreLoaded number old n new) same loaded

-- ---- The whole load

all_alice : All (λ p. p < length opening_head.principals) (0 ∷ 0 ∷ 0 ∷ 0 ∷ [])
all_alice zero d within = omega arith
all_alice (suc zero) d within = omega arith
all_alice (suc (suc zero)) d within = omega arith
all_alice (suc (suc (suc zero))) d within = omega arith
all_alice (suc (suc (suc (suc i)))) d within = absurd (omega (arith, within))

-- the actors are alice, in a journal of this head
pub alice_below : (h : Head) (ps : List ℕ) → h ≡ opening_head → ps ≡ 0 ∷ 0 ∷ 0 ∷ 0 ∷ [] → All (λ p. p < length h.principals) ps
alice_below h ps head four = subst (λ (qs : List ℕ). All (λ p. p < length h.principals) qs) (sym four) (subst (λ (k : Head). All (λ p. p < length k.principals) (0 ∷ 0 ∷ 0 ∷ 0 ∷ [])) (sym head) all_alice)

pub start_is : (h : Head) (es : List EntryTree) (ps : List ℕ) → h ≡ opening_head → es ≡ opening → ps ≡ 0 ∷ 0 ∷ 0 ∷ 0 ∷ [] → first_state h es ps ≡ start
start_is h es ps head entries four = λ i. first_state (head i) (entries i) (four i)

pub load_of : (number total : ℕ) (old new : MachineValue) (outcome : Outcome) → state_in old ≡ start → old.told ≡ [] → old.idle ≡ 0 → AreLoaded number old total new
    → outcome.journal ≡ new.world.journal → outcome.told ≡ new.told → outcome.idle ≡ new.idle → (happened : List Happened) × IsLoad number total happened outcome
load_of number total old new outcome start_is none zero_is loaded journal told idle_is = (
  loaded.happened,
  record {
    steps = loaded.steps;
    many = loaded.many;
    outcome_is = outcome_of opening_head opening (0 ∷ 0 ∷ 0 ∷ 0 ∷ []) old new loaded.steps loaded.happened outcome all_alice start_is none zero_is loaded.taken journal told idle_is;
    drawn = subst (λ (es : List EntryTree). AreDrawn number es loaded.happened) (sym (ap (λ (j : History). entry_trees j.entries) journal)) loaded.drawn;
  },
)

-- the machine at the start is ready, and holds the label of the third entry
pub first_ready : (m : MachineValue) (j : History) → state_in m ≡ start → j ≡ m.world.journal → IsLegal j.head (entry_trees j.entries) → IsReady m (Some 3)
first_ready m j start_is j_is legal =
    let head : (state_in m).head ≡ opening_head = ap (λ (s : MachineState). s.head) start_is in
    let entries : (state_in m).entries ≡ opening = ap (λ (s : MachineState). s.entries) start_is in
    let lawful : IsLegal opening_head (state_in m).entries = subst (λ (k : Head). IsLegal k (state_in m).entries) head (subst (λ (h : History). IsLegal h.head (entry_trees h.entries)) j_is legal) in
    record { head = head; held_is = held_at_start (state_in m).entries entries lawful }

-- the line of what is left
pub core_line_of : (number total : ℕ) (outcome : Outcome) (line : List ℕ) → (load : (happened : List Happened) × IsLoad number total happened outcome)
    → line ≡ line_of total outcome.idle (length outcome.journal.entries - 4) (count_by is_allowed outcome.told) (count_by is_denied outcome.told) (length outcome.journal.entries) → IsCoreLine number total line
core_line_of number total outcome line (happened, load) is =
    let trees : length (entry_trees outcome.journal.entries) ≡ length outcome.journal.entries = trees_long outcome.journal.entries in
    let long : length (entry_trees outcome.journal.entries) ≡ length (opening ++ entries_of start.actors happened) = ap length load.outcome_is.entries in
    let both = length-append opening (entries_of start.actors happened) in
    let four : length opening ≡ 4 = refl in
    let writes : length outcome.journal.entries - 4 ≡ length (entries_of start.actors happened) = omega (arith, trees, long, both, four) in
    (happened, outcome, load, is ∙ ap (λ (n : ℕ). line_of total outcome.idle n (count_by is_allowed outcome.told) (count_by is_denied outcome.told) (length outcome.journal.entries)) writes)

-- the entries at the start are among those at the end
pub four_at_least : (number total : ℕ) (outcome : Outcome) → (happened : List Happened) × IsLoad number total happened outcome → 4 ≤ length outcome.journal.entries
four_at_least number total outcome (happened, load) =
    let trees : length (entry_trees outcome.journal.entries) ≡ length outcome.journal.entries = trees_long outcome.journal.entries in
    let long : length (entry_trees outcome.journal.entries) ≡ length (opening ++ entries_of start.actors happened) = ap length load.outcome_is.entries in
    let both = length-append opening (entries_of start.actors happened) in
    let four : length opening ≡ 4 = refl in
    omega (arith, trees, long, both, four)
