-- What each told verdict rests on: what its actor did last before, by the journal alone, without words, slots and stages.
use Rattle.std.specs.Prelude.{◌≡◌, ◌≤◌, ℕ, List, [], ◌∷◌, ◌++◌, take, filter, Bool, true, false, not, ◌&&◌, Option, Some, None, slice_get}
use Rattle.std.specs.List.{AllPairs, last_or}
use Rattle.nal_rules.specs.Verdicts.{IsVerdict}
use Rattle.object_table.specs.Objects.{number_of}
use Rattle.policy_history.specs.declared.heads.Head.{Head}
use Rattle.policy_history.specs.Events.{EntryTree}
use Rattle.policy_history.specs.Judged.{IsRight, case_at}
use Rattle.policy_history.specs.Machine.{replay}
use Rattle.policy_history.specs.States.{case_named}
use Rattle.cache_machine.specs.declared.steps.Told.{Told}
use Rattle.cache_machine.specs.States.{ActorTree}
use Rattle.cache_machine.specs.Moves.{ActTree, answer, count, is_idle, look, snap, told_in}
use Rattle.cache_machine.specs.Runs.{Happened, is_by, told_of}

abbrev pub is_look : ActTree → Bool
is_look (look op name) = true
is_look _ = false

abbrev pub is_count : ActTree → Bool
is_count count = true
is_count _ = false

abbrev pub is_snap : ActTree → Bool
is_snap (snap op name) = true
is_snap _ = false

-- whether the actor made this step, it is of this kind, and it was not idle
abbrev pub did : (ActTree → Bool) → ℕ → Happened → Bool
did kind a x = kind x.step.act && (is_by a x && not (is_idle x.move))

-- the last of such steps
abbrev pub last_did : (ActTree → Bool) → ℕ → List Happened → Option Happened
last_did kind a xs = last_or None (filter (did kind a) xs)

-- A hit of actor a, of principal p, after these steps: it is dated by the length of the journal at the actor's last Count,
-- and at that point the case of p and of the actor's last Look is right with the verdict
pub record IsHitAfter (h : Head) (es : List EntryTree) (a p : ℕ) (before : List Happened) (told : Told) : Type 0 where
  pub counting : Happened
  pub last_count : last_did is_count a before ≡ Some counting
  pub dated : told.at ≡ counting.at
  pub looking : Happened
  pub last_look : last_did is_look a before ≡ Some looking
  pub op : List ℕ
  pub name : List ℕ
  pub look_is : looking.step.act ≡ look op name
  pub case : ℕ
  pub case_is : case_named (replay h (take told.at es)) p op name ≡ Some case
  pub right : IsRight h (take told.at es) case told.verdict

-- Any other verdict, told by this act after these steps: it is dated by the length of the journal at the actor's last Snap,
-- and is the verdict, with the answers of the act, on the case of p and of that Snap at that point
pub record IsAnswerAfter (h : Head) (es : List EntryTree) (a p : ℕ) (before : List Happened) (act : ActTree) (told : Told) : Type 0 where
  pub snapping : Happened
  pub last_snap : last_did is_snap a before ≡ Some snapping
  pub dated : told.at ≡ snapping.at
  pub op : List ℕ
  pub name : List ℕ
  pub snap_is : snapping.step.act ≡ snap op name
  pub object : ℕ
  pub object_is : number_of (replay h (take told.at es)).objects name ≡ Some object
  pub answers : List Bool
  pub answered : act ≡ answer answers
  pub verdict : IsVerdict (case_at h (replay h (take told.at es)) p op object) answers told.verdict

-- the step tells this to its own actor, as a hit or as an answer
pub record IsToldAfter (h : Head) (es : List EntryTree) (actors : List ActorTree) (before : List Happened) (x : Happened) (told : Told) : Type 0 where
  pub own : told.actor ≡ x.step.actor
  pub actor : ActorTree
  pub actor_is : slice_get actors told.actor ≡ Some actor
  pub hit : told.hit ≡ true → IsHitAfter h es told.actor actor.principal before told
  pub answered : told.hit ≡ false → IsAnswerAfter h es told.actor actor.principal before x.step.act told

-- What was told in a run is justified by the journal in the end and by the principals of the actors: each verdict rests on
-- what its actor did last before, and no actor is told a verdict of an earlier point than one that it was told before
pub record IsJustified (h : Head) (es : List EntryTree) (actors : List ActorTree) (happened : List Happened) : Type 0 where
  pub rests : (before : List Happened) (x : Happened) (later : List Happened) (told : Told) → happened ≡ before ++ x ∷ later → told_in x.move ≡ told ∷ [] → IsToldAfter h es actors before x told
  pub rising : AllPairs (λ first second. first.actor ≡ second.actor → first.at ≤ second.at) (told_of happened)
