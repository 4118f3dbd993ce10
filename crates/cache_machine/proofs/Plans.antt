-- What the code reads of the journal and of the actors, as facts of the state.
use Rattle.std.proofs.Common.{◌≡◌, ◌<◌, ℕ, List, [], ◌∷◌, length, map, Option, Some, None, Ok, Err, refl, sym, ap, ◌∙◌, get_or}
use Rattle.std.specs.List.{slice_get, list_any}
use Rattle.std.specs.Prelude.{IfOk, Result}
use Rattle.std.specs.declared.alloc.AllocError.{AllocError}
use Rattle.std.proofs.Math.ListN.{set}
use Rattle.std.proofs.lemmas.List.{map-set}
use Rattle.std.proofs.lemmas.Option.{slice_get-map, slice_get-get_or}
use Rattle.proof_lines.specs.declared.lines.Line.{Line}
use Rattle.proof_lines.specs.Lines.{line_tree, line_trees}
use Rattle.nal_rules.specs.Faults.{is_ask}
use Rattle.policy_history.specs.declared.heads.Head.{Head}
use Rattle.policy_history.specs.declared.events.Due.{Due}
use Rattle.policy_history.specs.declared.events.Refusal.{Refusal}
use Rattle.policy_history.specs.Events.{EventTree}
use Rattle.policy_history.specs.Judged.{region_in}
use Rattle.policy_history.specs.Machine.{refusal_of}
use Rattle.policy_history.specs.States.{State}
use Rattle.policy_history.specs.Values.{decision}
use Rattle.cache_machine.specs.declared.stages.Actor.{Actor}
use Rattle.cache_machine.specs.declared.stages.Move.{Move}
use Rattle.cache_machine.specs.declared.stages.Stage.{Stage}
use Rattle.cache_machine.specs.States.{ActorTree, MachineState, StageTree}
use Rattle.cache_machine.specs.Moves.{ActTree, MovesAt, gone_on, idle, policy}
use Rattle.cache_machine.specs.Inner.MoveFunctions.{ComesTo, raise_free, raised_move, write_free, written_move}
use Rattle.cache_machine.specs.Views.{actor_tree, move_tree, stage_tree}
use Rattle.cache_machine.proofs.Acts.{comes_to_acts}

-- what decides is refused, or accepted
pub decided_err : (h : Head) (s : State) (n p : ℕ) (e : EventTree) (refusal : Refusal) → Err refusal ≡ decision h s n p e → refusal_of h s n p e ≡ Some refusal
decided_err h s n p e refusal told = of (refusal_of h s n p e) refl
  where
    of : (o : Option Refusal) → refusal_of h s n p e ≡ o → refusal_of h s n p e ≡ Some refusal
    of None q = absurd (cc (rw q at told))
    of (Some other) q = let same : refusal ≡ other = cc (rw q at told) in q ∙ ap Some (sym same)

pub decided_ok : (h : Head) (s : State) (n p : ℕ) (e : EventTree) (due : Due) → Ok due ≡ decision h s n p e → refusal_of h s n p e ≡ None
decided_ok h s n p e due told = of (refusal_of h s n p e) refl
  where
    of : (o : Option Refusal) → refusal_of h s n p e ≡ o → refusal_of h s n p e ≡ None
    of None q = q
    of (Some other) q = absurd (cc (rw q at told))

-- an ask line among the lines is one among their trees
pub any_ask : (ls : List Line) → list_any (λ (l : Line). is_ask (line_tree l)) ls ≡ list_any is_ask (line_trees ls)
any_ask [] = refl
any_ask (l ∷ ls) = rw (any_ask ls) refl

-- an actor by its number
pub actor_at : (xs : List Actor) (i : ℕ) (d : Actor) → i < length xs → slice_get (map actor_tree xs) i ≡ Some (actor_tree (get_or xs i d))
actor_at xs i d within = slice_get-map actor_tree xs i ∙ rw (slice_get-get_or xs i d within) refl

-- what the functions give of an actor's act is what its step comes to
pub planned : (s : MachineState) (a : ℕ) (x : ActorTree) (act : ActTree) (r : Result Move AllocError) → slice_get s.actors a ≡ Some x → IfOk r (λ (m : Move). ComesTo s a x x.stage act (move_tree m))
    → IfOk r (λ (m : Move). MovesAt s a (slice_get s.actors a) act (move_tree m))
planned s a x act (Ok m) at comes = rw at (comes_to_acts s a x x.stage act (move_tree m) comes)
planned s a x act (Err e) at comes = tt

-- what an event comes to where the lock is free
module _ (s : MachineState) (x : ActorTree) (e : EventTree) (free : s.holder ≡ None) where
  pub raise_refused : (refusal : Refusal) → Err refusal ≡ decision s.head (policy s) x.session x.principal e → idle ≡ raise_free s x e s.holder
  raise_refused refusal told = rw (free, decided_err s.head (policy s) x.session x.principal e refusal told) refl

  pub raise_accepted : (due : Due) → Ok due ≡ decision s.head (policy s) x.session x.principal e → (o : Option ℕ) → o ≡ region_in (policy s) x.principal e → raised_move e None o ≡ raise_free s x e s.holder
  raise_accepted due told o region = rw (free, decided_ok s.head (policy s) x.session x.principal e due told, region) refl

  pub write_refused : (refusal : Refusal) → Err refusal ≡ decision s.head (policy s) x.session x.principal e → idle ≡ write_free s x e s.holder
  write_refused refusal told = rw (free, decided_err s.head (policy s) x.session x.principal e refusal told) refl

  pub write_accepted : (due : Due) → Ok due ≡ decision s.head (policy s) x.session x.principal e → (o : Option ℕ) → o ≡ region_in (policy s) x.principal e → written_move e None o ≡ write_free s x e s.holder
  write_accepted due told o region = rw (free, decided_ok s.head (policy s) x.session x.principal e due told, region) refl

-- the actors once one of them went on
pub gone : (xs : List Actor) (i : ℕ) (d y : Actor) (t : StageTree) → i < length xs → actor_tree y ≡ record (actor_tree (get_or xs i d)) { stage = t }
    → map actor_tree (set xs i y) ≡ gone_on (map actor_tree xs) i (slice_get (map actor_tree xs) i) t
gone xs i d y t within same = map-set actor_tree xs i y ∙ rw (actor_at xs i d within, same) refl

-- an actor of whom the stage alone changed
pub staged : (x y : Actor) → x ≡ y → (new t : Stage) → new ≡ t → actor_tree (record { principal = x.principal; session = x.session; stage = new }) ≡ record (actor_tree y) { stage = stage_tree t }
staged x y same new t is = rw (same, is) refl
