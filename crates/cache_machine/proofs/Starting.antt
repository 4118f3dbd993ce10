-- The actors at the start.
use Rattle.std.proofs.Common.{◌≡◌, ◌<◌, ◌≤◌, ◌+◌, ◌++◌, ℕ, zero, suc, List, [], ◌∷◌, length, map, drop, None, refl, sym, ap, ◌∙◌, arith, append_assoc, append-nil, get_or, drop-cons, Option, Some, subst, length-append}
use Rattle.std.specs.List.{slice_get, All, AllByRecursion}
use Rattle.std.specs.Prelude.{replicate}
use Rattle.std.proofs.lemmas.List.{length-map, length-replicate, map-append}
use Rattle.std.proofs.lemmas.List.Elements.{recursion_from_All}
use Rattle.policy_history.specs.declared.events.Entry.{Entry}
use Rattle.policy_history.specs.declared.heads.Head.{Head}
use Rattle.policy_history.specs.Events.{EntryTree, entry_tree}
use Rattle.policy_history.specs.Judged.{IsUntouched}
use Rattle.policy_history.specs.Values.{entry_trees, greatest_of}
use Rattle.cache_machine.specs.declared.stages.Actor.{Actor}
use Rattle.cache_machine.specs.declared.stages.Kept.{Kept}
use Rattle.cache_machine.specs.Inner.Words.{IsWorded, Knows}
use Rattle.cache_machine.specs.Machines.{first_actors, first_state}
use Rattle.cache_machine.specs.Moves.{all_regions, slot_count}
use Rattle.cache_machine.specs.States.{ActorTree, StageTree, resting}
use Rattle.cache_machine.specs.Views.{actor_tree}

-- the first actors are there, and the session of the last of them
pub record IsBegun (last : ℕ) (principals : List ℕ) (actors : List ActorTree) (session i : ℕ) : Type 0 where
  pub session_is : session ≡ last + i
  pub actors_are : actors ++ first_actors (session + 1) (drop i principals) ≡ first_actors (last + 1) principals

pub none_begun : (last : ℕ) (principals : List ℕ) → IsBegun last principals [] last 0
none_begun last principals = record { session_is = omega arith; actors_are = whole principals }
  where
    whole : (ps : List ℕ) → first_actors (last + 1) (drop 0 ps) ≡ first_actors (last + 1) ps
    whole [] = refl
    whole (p ∷ ps) = refl

nothing_behind : (ps : List ℕ) (i : ℕ) → length ps ≤ i → drop i ps ≡ []
nothing_behind [] zero all = refl
nothing_behind [] (suc i) all = refl
nothing_behind (p ∷ ps) zero all = absurd (omega (arith, all))
nothing_behind (p ∷ ps) (suc i) all = nothing_behind ps i (omega (arith, all))

module _ (last : ℕ) (principals : List ℕ) (actors : List ActorTree) (session i : ℕ) (begun : IsBegun last principals actors session i) where
  pub one_more_actor : (x : ActorTree) (d : ℕ) → i < length principals → x ≡ record { principal = get_or principals i d; session = session + 1; stage = resting None }
      → IsBegun last principals (actors ++ x ∷ []) (session + 1) (i + 1)
  one_more_actor x d within is =
      let next : i + 1 ≡ suc i = omega arith in
      let at : drop i principals ≡ get_or principals i d ∷ drop (suc i) principals = drop-cons principals i d within in
      let here : first_actors (session + 1) (drop i principals) ≡ x ∷ first_actors (session + 1 + 1) (drop (suc i) principals) = rw (at, is) refl in
      let session_is = begun.session_is in
      record {
        session_is = omega (arith, session_is);
        actors_are =
            append_assoc actors (x ∷ []) (first_actors (session + 1 + 1) (drop (i + 1) principals))
            ∙ ap (λ (n : ℕ). actors ++ x ∷ first_actors (session + 1 + 1) (drop n principals)) next
            ∙ ap (λ (xs : List ActorTree). actors ++ xs) (sym here) ∙ begun.actors_are;
      }

  pub all_begun : length principals ≤ i → actors ≡ first_actors (last + 1) principals
  all_begun all = sym (append-nil actors) ∙ ap (λ (ps : List ℕ). actors ++ first_actors (session + 1) ps) (sym (nothing_behind principals i all)) ∙ begun.actors_are

-- the same of the actors that the code made
pub begun_with : (last : ℕ) (principals : List ℕ) (xs ys : List Actor) (x : Actor) (session i d : ℕ) → IsBegun last principals (map actor_tree xs) session i → i < length principals
    → actor_tree x ≡ record { principal = get_or principals i d; session = session + 1; stage = resting None } → ys ≡ xs ++ x ∷ [] → IsBegun last principals (map actor_tree ys) (session + 1) (i + 1)
begun_with last principals xs ys x session i d begun within is same =
    rw (same, map-append actor_tree xs (x ∷ [])) (one_more_actor last principals (map actor_tree xs) session i begun (actor_tree x) d within is)

-- ---- The state at the start is a machine's

get_replicate : {A : Type 0} (n : ℕ) (x : A) (i : ℕ) (y : A) → slice_get (replicate n x) i ≡ Some y → y ≡ x
get_replicate zero x i y e = absurd (cc e)
get_replicate (suc n) x zero y e = let same : x ≡ y = cc e in sym same
get_replicate (suc n) x (suc i) y e = get_replicate n x i y e

first_at : (P : ℕ → Type 0) (session : ℕ) (ps : List ℕ) → AllByRecursion P ps → (a : ℕ) (x : ActorTree) → slice_get (first_actors session ps) a ≡ Some x → P x.principal × (x.stage ≡ resting None)
first_at P session [] all a x e = absurd (cc e)
first_at P session (p ∷ ps) all zero x e =
    let y : ActorTree = record { principal = p; session = session; stage = resting None } in
    let same : y ≡ x = cc e in
    (subst (λ (z : ActorTree). P z.principal) same all.0, sym (ap (λ (z : ActorTree). z.stage) same))
first_at P session (p ∷ ps) all (suc a) x e = first_at P (session + 1) ps all.1 a x e

pub first_worded : (h : Head) (es : List EntryTree) (ps : List ℕ) → All (λ p. p < length h.principals) ps → IsWorded (first_state h es ps)
first_worded h es ps all = record {
  slots = length-replicate {A = Option Kept} slot_count None;
  regions = length-replicate all_regions (length es);
  sound = λ i kept e. absurd (none_kept i kept e);
  words = λ region word e. word_at region word (get_replicate all_regions (length es) region word e);
  principals = λ a x e. (first_at Below (greatest_of es + 1) ps each a x e).0;
  knows = λ a x e. subst (λ (stage : StageTree). Knows h es (replicate all_regions (length es)) None a x.session x.principal stage) (sym (first_at Below (greatest_of es + 1) ps each a x e).1) tt;
}
  where
    Below : ℕ → Type 0
    Below p = p < length h.principals

    each : AllByRecursion Below ps
    each = recursion_from_All Below ps all

    none_kept : (i : ℕ) (kept : Kept) → slice_get (replicate slot_count None) i ≡ Some (Some kept) → ⊥
    none_kept i kept e = let none = get_replicate slot_count None i (Some kept) e in cc none

    word_at : (region word : ℕ) → word ≡ length es → IsUntouched h es word region × (word ≤ length es + 1)
    word_at region word is = ((λ before e later split from touch. let long = ap length split in let both = length-append before (e ∷ later) in absurd (omega (arith, from, is, long, both))), omega (arith, is))

-- so is a state that is made of the same parts
pub made_first : (h : Head) (es : List EntryTree) (ps : List ℕ) (slots : List (Option Kept)) (regions : List ℕ) (actors : List ActorTree) (n : ℕ) → slots ≡ replicate slot_count None → regions ≡ replicate all_regions n → n ≡ length es → actors ≡ first_actors (greatest_of es + 1) ps
    → first_state h es ps ≡ record { head = h; entries = es; slots = slots; regions = regions; holder = None; actors = actors }
made_first h es ps slots regions actors n slots_are regions_are long actors_are = rw (slots_are, regions_are, long, actors_are) refl

-- one more of the same
pub one_more_same : {A : Type 0} (n : ℕ) (x : A) → replicate n x ++ x ∷ [] ≡ replicate (n + 1) x
one_more_same n x = let next : suc n ≡ n + 1 = omega arith in of n ∙ ap (λ (k : ℕ). replicate k x) next
  where
    of : (n : ℕ) → replicate n x ++ x ∷ [] ≡ replicate (suc n) x
    of zero = refl
    of (suc n) = ap (λ ys. x ∷ ys) (of n)

pub trees_length : (es : List Entry) → length es ≡ length (entry_trees es)
trees_length es = sym (length-map es entry_tree)
