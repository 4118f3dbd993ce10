-- Steps, one after another.
use Rattle.std.proofs.Common.{◌≡◌, ◌<◌, ◌+◌, inl, inr, ℕ, List, [], ◌∷◌, ◌++◌, length, map, take, Option, Some, None, refl, sym, ap, ◌∙◌, subst, append_assoc, append-nil, get_or}
use Rattle.std.specs.List.{slice_get, flat_map}
use Rattle.std.proofs.lemmas.List.{map-append, take_more}
use Rattle.policy_history.specs.Events.{EntryTree, EventTree}
use Rattle.cache_machine.specs.declared.steps.Step.{Step}
use Rattle.cache_machine.specs.declared.steps.Told.{Told}
use Rattle.cache_machine.specs.Views.{step_tree}
use Rattle.cache_machine.specs.States.{ActorTree, MachineState, StageTree, raised, resting}
use Rattle.cache_machine.specs.Moves.{ActTree, IsStep, MoveTree, MovesAt, StepTree, after_move, goes, gone_on, idle, idle_after, raises, tells, fills, told_in, writes}
use Rattle.cache_machine.specs.Runs.{Happened, IsRun, entry_of, idle_over, told_of}
use Rattle.cache_machine.specs.Machines.{AreTaken, AreTakenAs, IsStepped, MachineValue, state_in}
use Rattle.cache_machine.proofs.Keeping.{set_at}

-- ---- Lists of what happened

pub run_more : (s : MachineState) (steps : List StepTree) (xs : List Happened) (t u : MachineState) (step : StepTree) (move : MoveTree) → IsRun s steps xs t → IsStep t step move u
    → IsRun s (steps ++ step ∷ []) (xs ++ record { step = step; move = move; at = length t.entries } ∷ []) u
run_more s [] [] t u step move same taken = subst (λ (z : MachineState). IsRun z (step ∷ []) (record { step = step; move = move; at = length t.entries } ∷ []) u) same (u, taken, refl, refl, refl)
run_more s (step' ∷ steps) (x ∷ xs) t u step move (mid, first, step_is, at_is, rest) taken = (mid, first, step_is, at_is, run_more mid steps xs t u step move rest taken)
run_more s [] (x ∷ xs) t u step move run taken = absurd run
run_more s (step' ∷ steps) [] t u step move run taken = absurd run

pub idle_more : (xs : List Happened) (x : Happened) (sum : ℕ) → idle_over (xs ++ x ∷ []) sum ≡ idle_after x.move (idle_over xs sum)
idle_more [] x sum = refl
idle_more (y ∷ xs) x sum = idle_more xs x (idle_after y.move sum)

pub flat_more : {A B : Type 0} (f : A → List B) (xs : List A) (x : A) → flat_map f (xs ++ x ∷ []) ≡ flat_map f xs ++ f x
flat_more f [] x = append-nil (f x)
flat_more f (y ∷ xs) x = ap (λ ys. f y ++ ys) (flat_more f xs x) ∙ sym (append_assoc (f y) (flat_map f xs) (f x))

-- ---- Actors keep their principals and sessions

abbrev pub SameOwners : List ActorTree → List ActorTree → Type 0
SameOwners old now = (a : ℕ) (x : ActorTree) → slice_get now a ≡ Some x → (y : ActorTree) × (slice_get old a ≡ Some y) × (y.principal ≡ x.principal) × (y.session ≡ x.session)

gone_owners : (old now : List ActorTree) (a : ℕ) (stage : StageTree) → SameOwners old now → SameOwners old (gone_on now a (slice_get now a) stage)
gone_owners old now a stage same = of (slice_get now a) refl
  where
    of : (o : Option ActorTree) → slice_get now a ≡ o → SameOwners old (gone_on now a o stage)
    of None at = same
    of (Some x) at = λ b y e. elim (set_at now a (record x { stage = stage }) b y e) [
      | inl p ↦ subst (λ (n : ℕ). (z : ActorTree) × (slice_get old n ≡ Some z) × (z.principal ≡ y.principal) × (z.session ≡ y.session)) (sym p.0)
          (subst (λ (v : ActorTree). (z : ActorTree) × (slice_get old a ≡ Some z) × (z.principal ≡ v.principal) × (z.session ≡ v.session)) (sym p.1) (same a x at))
      | inr q ↦ same b y q.1
    ]

pub owners_after : (old : List ActorTree) (s : MachineState) (a : ℕ) (move : MoveTree) → SameOwners old s.actors → SameOwners old (after_move s a move).actors
owners_after old s a idle same = same
owners_after old s a (goes stage) same = gone_owners old s.actors a stage same
owners_after old s a (tells told stage) same = gone_owners old s.actors a stage same
owners_after old s a (fills kept stage) same = gone_owners old s.actors a stage same
owners_after old s a (raises region event) same = gone_owners old s.actors a (raised event) same
owners_after old s a (writes event) same = gone_owners old s.actors a (resting None) same

pub run_owners : (old : List ActorTree) (s : MachineState) (steps : List StepTree) (xs : List Happened) (t : MachineState) → IsRun s steps xs t → SameOwners old s.actors → SameOwners old t.actors
run_owners old s [] [] t run same = subst (λ (z : MachineState). SameOwners old z.actors) (sym run) same
run_owners old s (step ∷ steps) (x ∷ xs) t (mid, (moves, after), step_is, at_is, rest) same =
    run_owners old mid steps xs t rest (subst (λ (z : MachineState). SameOwners old z.actors) (sym after) (owners_after old s step.actor x.move same))
run_owners old s [] (x ∷ xs) t run same = absurd run
run_owners old s (step ∷ steps) [] t run same = absurd run

pub itself : (actors : List ActorTree) → SameOwners actors actors
itself actors a x at = (x, at, refl, refl)

-- ---- What a step adds to the journal

nothing_added : (o : Option ActorTree) (es : List EntryTree) (move : MoveTree) → entry_of o move ≡ [] → es ≡ es ++ entry_of o move
nothing_added o es move none = sym (append-nil es) ∙ ap (λ xs. es ++ xs) (sym none)

quiet : (o : Option ActorTree) (move : MoveTree) → ((e : EventTree) → move ≡ writes e → ⊥) → entry_of o move ≡ []
quiet None move other = refl
quiet (Some x) idle other = refl
quiet (Some x) (goes stage) other = refl
quiet (Some x) (tells told stage) other = refl
quiet (Some x) (fills kept stage) other = refl
quiet (Some x) (raises region event) other = refl
quiet (Some x) (writes event) other = absurd (other event refl)

-- the entry is that of the actor at the start
pub added : (old : List ActorTree) (s : MachineState) (a : ℕ) (act : ActTree) (move : MoveTree) → SameOwners old s.actors → MovesAt s a (slice_get s.actors a) act move
    → (after_move s a move).entries ≡ s.entries ++ entry_of (slice_get old a) move
added old s a act idle same m = nothing_added (slice_get old a) s.entries idle (quiet (slice_get old a) idle (λ e q. cc q))
added old s a act (goes stage) same m = nothing_added (slice_get old a) s.entries (goes stage) (quiet (slice_get old a) (goes stage) (λ e q. cc q))
added old s a act (tells told stage) same m = nothing_added (slice_get old a) s.entries (tells told stage) (quiet (slice_get old a) (tells told stage) (λ e q. cc q))
added old s a act (fills kept stage) same m = nothing_added (slice_get old a) s.entries (fills kept stage) (quiet (slice_get old a) (fills kept stage) (λ e q. cc q))
added old s a act (raises region event) same m = nothing_added (slice_get old a) s.entries (raises region event) (quiet (slice_get old a) (raises region event) (λ e q. cc q))
added old s a act (writes event) same m = of (slice_get s.actors a) refl m
  where
    of : (o : Option ActorTree) → slice_get s.actors a ≡ o → MovesAt s a o act (writes event) → (after_move s a (writes event)).entries ≡ s.entries ++ entry_of (slice_get old a) (writes event)
    of None at m = absurd (cc m)
    of (Some x) at m = let owner = same a x at in rw (at, owner.1, owner.2, owner.3) refl

pub head_after : (s : MachineState) (a : ℕ) (move : MoveTree) → (after_move s a move).head ≡ s.head
head_after s a idle = refl
head_after s a (goes stage) = refl
head_after s a (tells told stage) = refl
head_after s a (fills kept stage) = refl
head_after s a (raises region event) = refl
head_after s a (writes event) = refl

-- ---- One step more

pub none_taken : (old : MachineValue) → AreTakenAs old [] [] old
none_taken old = record { run = refl; told = sym (append-nil old.told); idle = refl }

-- what happens when this step comes to this in this state
abbrev pub happens : MachineValue → StepTree → MoveTree → Happened
happens m step move = record { step = step; move = move; at = length (state_in m).entries }

pub one_more_taken : (old mid new : MachineValue) (steps : List StepTree) (xs : List Happened) (step : StepTree) → AreTakenAs old steps xs mid → (next : IsStepped mid step new)
    → AreTakenAs old (steps ++ step ∷ []) (xs ++ happens mid step next.move ∷ []) new
one_more_taken old mid new steps xs step so_far next =
    let x = happens mid step next.move in
    record {
      run = run_more (state_in old) steps xs (state_in mid) (state_in new) step next.move so_far.run next.state;
      told =
          next.told ∙ ap (λ (ts : List Told). ts ++ told_in next.move) so_far.told ∙ append_assoc old.told (told_of xs) (told_in next.move)
          ∙ ap (λ (ts : List Told). old.told ++ ts) (sym (flat_more (λ (y : Happened). told_in y.move) xs x));
      idle = next.idle ∙ ap (idle_after next.move) so_far.idle ∙ sym (idle_more xs x old.idle);
    }

-- the same over the steps of the code
pub taken_more : (old mid new : MachineValue) (steps : List Step) (i : ℕ) (d step : Step) → i < length steps → step ≡ get_or steps i step → AreTaken old (map step_tree (take i steps)) mid → IsStepped mid (step_tree step) new
    → AreTaken old (map step_tree (take (i + 1) steps)) new
taken_more old mid new steps i d step within is (xs, so_far) next =
    let trees : map step_tree (take (i + 1) steps) ≡ map step_tree (take i steps) ++ step_tree step ∷ [] =
    ap (map step_tree) (take_more steps i step within) ∙ map-append step_tree (take i steps) (get_or steps i step ∷ []) ∙ ap (λ (x : Step). map step_tree (take i steps) ++ step_tree x ∷ []) (sym is) in
    subst (λ (ss : List StepTree). AreTaken old ss new) (sym trees) (xs ++ happens mid (step_tree step) next.move ∷ [], one_more_taken old mid new (map step_tree (take i steps)) xs (step_tree step) so_far next)
