-- That the functions of `Inner/MoveFunctions.antt` and the relation of `Moves.antt` say the same of every act, and which act adds an entry.
use Rattle.std.proofs.Common.{◌≡◌, ◌<◌, ◌≤◌, ◌⊎◌, inl, inr, ℕ, zero, suc, Bool, true, false, nat_eq, nat_le, ◌&&◌, List, Option, Some, None, refl, sym, ap, ◌∙◌, subst, arith}
use Rattle.std.specs.Cmp.{unsigned_Decides}
use Rattle.std.specs.Prelude.{if◌then◌else◌}
use Rattle.std.proofs.lemmas.Bool.{leb-false, leb-true}
use Rattle.nal_rules.specs.Verdicts.{CaseTree, HasCause, IsVerdict, cause_number}
use Rattle.nal_rules.specs.declared.verdicts.Cause.{Cause}
use Rattle.nal_rules.specs.declared.verdicts.Verdict.{Verdict}
use Rattle.nal_rules.specs.declared.verdicts.Verdict.TheVariants.{Allowed, Denied}
use Rattle.object_table.specs.Objects.{number_of}
use Rattle.policy_history.specs.declared.events.Refusal.{Refusal}
use Rattle.policy_history.specs.Events.{EventTree}
use Rattle.policy_history.specs.Judged.{region_in, store_region}
use Rattle.policy_history.specs.Machine.{refusal_of}
use Rattle.cache_machine.specs.declared.stages.Kept.{Kept}
use Rattle.cache_machine.specs.declared.stages.Place.{Place}
use Rattle.cache_machine.specs.States.{ActorTree, MachineState, StageTree, resting, looked, counted, half, missed, raised, holding, allowed}
use Rattle.cache_machine.specs.Moves.{ActTree, Acts, Comes, IsHit, MaySnap, MoveTree, Moves, write, look, count, snap, answer, fill, run, raise, object, store, idle, writes, policy, place_in, region_at, looks, counts, loads, hits, misses, lifts, writes_raised, writes_free, snaps, answers, fills_allowed, fills_denied, runs}
use Rattle.cache_machine.specs.Inner.MoveFunctions.{ComesTo, IsAnswered, IsWritten, count_move, fill_move, found_move, hit_in, look_move, looked_at, object_move, raise_free, raise_move, run_move, snap_free, snap_move, store_move, write_free}
use Rattle.cache_machine.proofs.Keeping.{some_same}

-- ---- What a slot's word gives

abbrev Gives : Option Kept → ℕ → ℕ → ℕ → Option Verdict → Type 0
Gives slot case first second o =
    ((kept : Kept) × IsHit slot case first second kept × (o ≡ Some kept.verdict)) ⊎ (((kept : Kept) → ¬ IsHit slot case first second kept) × (o ≡ None))

hit_given : (slot : Option Kept) (case first second : ℕ) → Gives slot case first second (hit_in slot case first second)
hit_given None case first second = inr ((λ kept h. absurd (cc h.keeps)), refl)
hit_given (Some kept) case first second = of (nat_eq kept.case case) refl (nat_le first kept.point) refl (nat_le second kept.point) refl
  where
    own : (k : Kept) → IsHit (Some kept) case first second k → (kept.case ≡ case) × (first ≤ kept.point) × (second ≤ kept.point)
    own k h = subst (λ (z : Kept). (z.case ≡ case) × (first ≤ z.point) × (second ≤ z.point)) (sym (some_same kept k h.keeps)) (h.same_case, h.object_low, h.store_low)

    of : (b : Bool) → nat_eq kept.case case ≡ b → (c : Bool) → nat_le first kept.point ≡ c → (d : Bool) → nat_le second kept.point ≡ d
        → Gives (Some kept) case first second (if b && (c && d) then Some kept.verdict else None)
    of true p true q true r = inl (kept, record { keeps = refl; same_case = (unsigned_Decides kept.case case).0 p; object_low = leb-true first kept.point q; store_low = leb-true second kept.point r }, refl)
    of true p true q false r = inr ((λ k h. let low = (own k h).2 in let high = leb-false second kept.point r in absurd (omega (arith, low, high))), refl)
    of true p false q d r = inr ((λ k h. let low = (own k h).1 in let high = leb-false first kept.point q in absurd (omega (arith, low, high))), refl)
    of false p c q d r = inr ((λ k h. let same = (unsigned_Decides kept.case case).1 (own k h).0 in absurd (cc (p, same))), refl)

-- ---- A case has a verdict

-- it is not so that a case has none
has_verdict : (c : CaseTree) (given : List Bool) → ((verdict : Verdict) → ¬ IsVerdict c given verdict) → ⊥
has_verdict c given none = none Allowed (λ cause. lower (suc (cause_number cause)) cause (omega arith))
  where
    lower : (n : ℕ) (cause : Cause) → cause_number cause < n → HasCause c given cause → ⊥
    lower zero cause low has = absurd (omega (arith, low))
    lower (suc n) cause low has = none (Denied cause) (has, λ other less. lower n other (omega (arith, less, low)))

-- ---- The functions and the relation

module _ (s : MachineState) (a : ℕ) (x : ActorTree) where
  abbrev p : ℕ
  p = x.principal

  abbrev Can : StageTree → ActTree → MoveTree → Type 0
  Can stage act move = Acts s a x.session p stage act move

  not_idle : {stage : StageTree} {act : ActTree} → Can stage act idle → ⊥
  not_idle h = elim h [ ]

  snapped : (stage : StageTree) (op name : List ℕ) → MaySnap stage → snap_move s p stage op name ≡ snap_free s p op name s.holder
  snapped (resting kept) op name may = refl
  snapped missed op name may = refl
  snapped _ op name may = absurd may

  -- what an act can come to is what the functions give
  said : {stage : StageTree} {act : ActTree} {move : MoveTree} → Can stage act move → ComesTo s a x stage act move
  said (looks e) = ap (looked_at s) (sym e)
  said counts = refl
  said loads = refl
  said (hits {place} {slot} {at} {word} {kept} h) = elim (hit_given slot place.case word (region_at s (store_region p))) [
    | inl (k, hit, e) ↦ ap (found_move a at) (ap (λ (z : Kept). Some z.verdict) (some_same kept k (sym h.keeps ∙ hit.keeps)) ∙ sym e)
    | inr (never, e) ↦ absurd (never kept h)
  ]
  said (misses {place} {slot} {at} {word} none) = elim (hit_given slot place.case word (region_at s (store_region p))) [
    | inl (k, hit, e) ↦ absurd (none k hit)
    | inr (never, e) ↦ ap (found_move a at) (sym e)
  ]
  said (lifts c) = rw (c.free, c.accepted, c.touches) refl
  said writes_raised = inl (refl, refl)
  said (writes_free c) = rw (c.free, c.accepted, c.touches) refl
  said (snaps {stage} {op} {name} may free n_is) = sym (snapped stage op name may ∙ rw (free, n_is) refl)
  said (answers {verdict = verdict} told) = (verdict, told, refl)
  said fills_allowed = refl
  said fills_denied = refl
  said runs = refl

  -- what a function gives is idle, or what the act can come to
  abbrev Gets : StageTree → ActTree → MoveTree → Type 0
  Gets stage act move = (move ≡ idle) ⊎ Can stage act move

  look_gets : (stage : StageTree) (op name : List ℕ) → Gets stage (look op name) (look_move s p stage op name)
  look_gets (resting kept) op name = of (place_in (policy s) p op name) refl
    where
      of : (o : Option Place) → place_in (policy s) p op name ≡ o → Gets (resting kept) (look op name) (looked_at s o)
      of None e = inl refl
      of (Some place) e = inr (looks e)
  look_gets _ op name = inl refl

  count_gets : (stage : StageTree) → Gets stage count (count_move s stage)
  count_gets (looked place slot) = inr counts
  count_gets _ = inl refl

  object_gets : (stage : StageTree) → Gets stage object (object_move s stage)
  object_gets (counted place slot at) = inr loads
  object_gets _ = inl refl

  store_gets : (stage : StageTree) → Gets stage store (store_move s a p stage)
  store_gets (half place slot at word) = elim (hit_given slot place.case word (region_at s (store_region p))) [
    | inl (kept, hit, e) ↦ inr (rw e (hits hit))
    | inr (none, e) ↦ inr (rw e (misses none))
  ]
  store_gets _ = inl refl

  raise_gets : (stage : StageTree) (e : EventTree) → Gets stage (raise e) (raise_move s x stage e)
  raise_gets (resting kept) e = of s.holder refl (refusal_of s.head (policy s) x.session p e) refl (region_in (policy s) p e) refl
    where
      of : (h : Option ℕ) → s.holder ≡ h → (o : Option Refusal) → refusal_of s.head (policy s) x.session p e ≡ o → (r : Option ℕ) → region_in (policy s) p e ≡ r → Gets (resting kept) (raise e) (raise_free s x e h)
      of None free None accepted None touches = inl (rw (accepted, touches) refl)
      of None free None accepted (Some region) touches = inr (rw (accepted, touches) (lifts (record { free = free; accepted = accepted; touches = touches })))
      of None free (Some refusal) refused r touches = inl (rw refused refl)
      of (Some holder) held o decided r touches = inl refl
  raise_gets _ e = inl refl

  free_gets : (kept : Option Kept) (e : EventTree) → Gets (resting kept) (write e) (write_free s x e s.holder)
  free_gets kept e = of s.holder refl (refusal_of s.head (policy s) x.session p e) refl (region_in (policy s) p e) refl
    where
      of : (h : Option ℕ) → s.holder ≡ h → (o : Option Refusal) → refusal_of s.head (policy s) x.session p e ≡ o → (r : Option ℕ) → region_in (policy s) p e ≡ r → Gets (resting kept) (write e) (write_free s x e h)
      of None free None accepted None touches = inr (rw (accepted, touches) (writes_free (record { free = free; accepted = accepted; touches = touches })))
      of None free None accepted (Some region) touches = inl (rw (accepted, touches) refl)
      of None free (Some refusal) refused r touches = inl (rw refused refl)
      of (Some holder) held o decided r touches = inl refl

  write_gets : (stage : StageTree) (e : EventTree) (move : MoveTree) → IsWritten s x stage e move → Gets stage (write e) move
  write_gets (resting kept) e move is = subst (Gets (resting kept) (write e)) (sym is) (free_gets kept e)
  write_gets (raised own) e move (inl (same, is)) = inr (subst (Can (raised own) (write e)) (sym is) (subst (λ (z : EventTree). Can (raised z) (write e) (writes e)) same writes_raised))
  write_gets (raised own) e move (inr (other, is)) = inl is
  write_gets _ e move is = inl is

  free_snap : (stage : StageTree) → MaySnap stage → (op name : List ℕ) → Gets stage (snap op name) (snap_free s p op name s.holder)
  free_snap stage may op name = of s.holder refl (number_of (policy s).objects name) refl
    where
      of : (h : Option ℕ) → s.holder ≡ h → (o : Option ℕ) → number_of (policy s).objects name ≡ o → Gets stage (snap op name) (snap_free s p op name h)
      of None free None n_is = inl (rw n_is refl)
      of None free (Some n) n_is = inr (rw n_is (snaps may free n_is))
      of (Some holder) held o n_is = inl refl

  snap_gets : (stage : StageTree) (op name : List ℕ) → Gets stage (snap op name) (snap_move s p stage op name)
  snap_gets (resting kept) op name = free_snap (resting kept) tt op name
  snap_gets missed op name = free_snap missed tt op name
  snap_gets _ op name = inl refl

  answer_gets : (stage : StageTree) (given : List Bool) (move : MoveTree) → IsAnswered a stage given move → Gets stage (answer given) move
  answer_gets (holding c number at) given move (verdict, told, is) = inr (subst (Can (holding c number at) (answer given)) (sym is) (answers told))
  answer_gets _ given move is = inl is

  fill_gets : (stage : StageTree) → Gets stage fill (fill_move stage)
  fill_gets (allowed (Some kept)) = inr fills_allowed
  fill_gets (resting (Some kept)) = inr fills_denied
  fill_gets _ = inl refl

  run_gets : (stage : StageTree) → Gets stage run (run_move stage)
  run_gets (allowed kept) = inr runs
  run_gets _ = inl refl

  gets : (stage : StageTree) (act : ActTree) (move : MoveTree) → ComesTo s a x stage act move → Gets stage act move
  gets stage (write e) move is = write_gets stage e move is
  gets stage (look op name) move is = subst (Gets stage (look op name)) (sym is) (look_gets stage op name)
  gets stage count move is = subst (Gets stage count) (sym is) (count_gets stage)
  gets stage (snap op name) move is = subst (Gets stage (snap op name)) (sym is) (snap_gets stage op name)
  gets stage (answer given) move is = answer_gets stage given move is
  gets stage fill move is = subst (Gets stage fill) (sym is) (fill_gets stage)
  gets stage run move is = subst (Gets stage run) (sym is) (run_gets stage)
  gets stage (raise e) move is = subst (Gets stage (raise e)) (sym is) (raise_gets stage e)
  gets stage object move is = subst (Gets stage object) (sym is) (object_gets stage)
  gets stage store move is = subst (Gets stage store) (sym is) (store_gets stage)

  -- where an act is idle, it is nothing else
  written_idle : (stage : StageTree) (e : EventTree) (other : MoveTree) → IsWritten s x stage e idle → IsWritten s x stage e other → other ≡ idle
  written_idle (raised own) e other (inl (same, is)) more = absurd (cc is)
  written_idle (raised own) e other (inr (apart, is)) (inl (same, more)) = absurd (apart same)
  written_idle (raised own) e other (inr (apart, is)) (inr (still, more)) = more
  written_idle (resting kept) e other is more = more ∙ sym is
  written_idle _ e other is more = more

  answered_idle : (stage : StageTree) (given : List Bool) (other : MoveTree) → IsAnswered a stage given idle → IsAnswered a stage given other → other ≡ idle
  answered_idle (holding c number at) given other (verdict, told, is) more = absurd (cc is)
  answered_idle _ given other is more = more

  idle_only : (stage : StageTree) (act : ActTree) (other : MoveTree) → ComesTo s a x stage act idle → ComesTo s a x stage act other → other ≡ idle
  idle_only stage (write e) other is more = written_idle stage e other is more
  idle_only stage (answer given) other is more = answered_idle stage given other is more
  idle_only stage (look op name) other is more = more ∙ sym is
  idle_only stage count other is more = more ∙ sym is
  idle_only stage (snap op name) other is more = more ∙ sym is
  idle_only stage fill other is more = more ∙ sym is
  idle_only stage run other is more = more ∙ sym is
  idle_only stage (raise e) other is more = more ∙ sym is
  idle_only stage object other is more = more ∙ sym is
  idle_only stage store other is more = more ∙ sym is

  -- what the functions give is what the act comes to
  pub comes_to_acts : (stage : StageTree) (act : ActTree) (move : MoveTree) → ComesTo s a x stage act move → Comes s a x.session p stage act move
  comes_to_acts stage act move comes = elim (gets stage act move comes) [
    | inl is ↦ inr (is, λ other h. not_idle (subst (Can stage act) (idle_only stage act other (subst (ComesTo s a x stage act) is comes) (said h)) h))
    | inr h ↦ inl h
  ]

  -- what can come to nothing is idle
  at_rest : {stage : StageTree} {act : ActTree} {move : MoveTree} → ((other : MoveTree) → ¬ Can stage act other) → Gets stage act move → idle ≡ move
  at_rest none (inl is) = sym is
  at_rest {move = move} none (inr h) = absurd (none move h)

  idle_written : (stage : StageTree) (e : EventTree) → ((other : MoveTree) → ¬ Can stage (write e) other) → IsWritten s x stage e idle
  idle_written (resting kept) e none = at_rest none (free_gets kept e)
  idle_written (raised own) e none = inr ((λ same. none (writes e) (subst (λ (z : EventTree). Can (raised z) (write e) (writes e)) same writes_raised)), refl)
  idle_written _ e none = refl

  idle_answered : (stage : StageTree) (given : List Bool) → ((other : MoveTree) → ¬ Can stage (answer given) other) → IsAnswered a stage given idle
  idle_answered (holding c number at) given none = absurd (has_verdict c given (λ verdict told. none _ (answers told)))
  idle_answered _ given none = refl

  idle_comes : (stage : StageTree) (act : ActTree) → ((other : MoveTree) → ¬ Can stage act other) → ComesTo s a x stage act idle
  idle_comes stage (write e) none = idle_written stage e none
  idle_comes stage (answer given) none = idle_answered stage given none
  idle_comes stage (look op name) none = at_rest none (look_gets stage op name)
  idle_comes stage count none = at_rest none (count_gets stage)
  idle_comes stage (snap op name) none = at_rest none (snap_gets stage op name)
  idle_comes stage fill none = at_rest none (fill_gets stage)
  idle_comes stage run none = at_rest none (run_gets stage)
  idle_comes stage (raise e) none = at_rest none (raise_gets stage e)
  idle_comes stage object none = at_rest none (object_gets stage)
  idle_comes stage store none = at_rest none (store_gets stage)

  -- and what the act comes to is what they give
  pub acts_come_to : (stage : StageTree) (act : ActTree) (move : MoveTree) → Comes s a x.session p stage act move → ComesTo s a x stage act move
  acts_come_to stage act move (inl h) = said h
  acts_come_to stage act move (inr (is, none)) = subst (ComesTo s a x stage act) (sym is) (idle_comes stage act none)

-- ---- Writes

-- no act but Write adds an entry, and it adds its own event
pub writes_own : (s : MachineState) (a : ℕ) (x : ActorTree) (act : ActTree) (move : MoveTree) → Moves s a x act move → (event : EventTree) → move ≡ writes event → act ≡ write event
writes_own s a x act move (inr (is, none)) event e = absurd (cc (is, e))
writes_own s a x act move (inl h) event e = of h event e
  where
    of : {stage : StageTree} {act : ActTree} {move : MoveTree} → Acts s a x.session x.principal stage act move → (event : EventTree) → move ≡ writes event → act ≡ write event
    of (writes_raised {e = own}) event e = let same : own ≡ event = cc e in ap write same
    of (writes_free {e = own} c) event e = let same : own ≡ event = cc e in ap write same
    of _ event e = absurd (cc e)
