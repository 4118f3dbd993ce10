use Rattle.std.proofs.Common.{◌≡◌, ℕ, Option, Some, None, sym, ap, ◌∙◌}
use Rattle.std.specs.Option.{option_or}
use Rattle.std.proofs.lemmas.List.Folds.{find-append}
use Rattle.policy_history.specs.declared.heads.Head.{Head}
use Rattle.policy_history.specs.declared.events.Refusal.{Refusal}
use Rattle.policy_history.specs.Inner.Early.{early_refusals, late_refusals, early_refusal, late_refusal}
use Rattle.policy_history.specs.Events.{EventTree, event_tree}
use Rattle.policy_history.specs.Machine.{applies, refusal_of}
use Rattle.policy_history.specs.States.{State}
use Rattle.policy_history.specs.Tables.{state_of}
use Rattle.policy_history.proofs.tables.Policy.refusal.Goals as goal

joined : (h : Head) (s : State) (n p : ℕ) (e : EventTree) → refusal_of h s n p e ≡ option_or (early_refusal h s n p e) (late_refusal h s n p e)
joined h s n p e = find-append (applies h s n p e) early_refusals late_refusals

found_early : (h : Head) (s : State) (n p : ℕ) (e : EventTree) (r : Refusal) → Some r ≡ early_refusal h s n p e → Some r ≡ refusal_of h s n p e
found_early h s n p e r early = ap (λ o. option_or o (late_refusal h s n p e)) early ∙ sym (joined h s n p e)

found_late : (h : Head) (s : State) (n p : ℕ) (e : EventTree) (r : Option Refusal) → None ≡ early_refusal h s n p e → r ≡ late_refusal h s n p e → r ≡ refusal_of h s n p e
found_late h s n p e r early late = late ∙ ap (λ o. option_or o (late_refusal h s n p e)) early ∙ sym (joined h s n p e)

pub returns-in-Some : goal.returns-in-Some
returns-in-Some c = found_early c.args.head.now (state_of c.args.self.now) c.args.session c.args.caller (event_tree c.args.event.now) c.in-Some.refusal (c.in-Some.ensures c.args.session)

pub returns-in-None : goal.returns-in-None
returns-in-None c = found_late c.args.head.now (state_of c.args.self.now) c.args.session c.args.caller (event_tree c.args.event.now) c.late_refusal.result (c.in-None.ensures c.args.session) c.late_refusal.ensures
