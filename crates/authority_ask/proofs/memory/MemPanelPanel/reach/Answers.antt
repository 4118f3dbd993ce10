use Rattle.std.proofs.Common.{refl, subst, ap, List, ℕ}
use Rattle.std.specs.List.{Contains}
use Rattle.authority_ask.proofs.memory.MemPanelPanel.reach.Goals as goal

pub returns-then-next_fails-clause-failed : goal.returns-then-next_fails-clause-failed
returns-then-next_fails-clause-failed g c =
    (λ _. subst (λ (fails : List ℕ). Contains fails c.next_fails.new.self.count) (ap (λ p. p.reach_fails) c.self.view_is) (c.next_fails.ensures.told.0 c.if-next_fails.true), λ _. refl)
