use Rattle.std.proofs.Common.{◌≡◌, ◌++◌, take}
use Rattle.std.specs.List.{flat_map}
use Rattle.policy_history.specs.declared.heads.Authority.{Authority}
use Rattle.policy_history.specs.PolicyTexts.{authority_text, ended}
use Rattle.journal_text.proofs.policy_printer.PolicyPrinter.authorities.Given as goal

abbrev pub invariant-loop-place : goal.invariant-loop-place
invariant-loop-place l = l.self.text ≡ l.fn.self.text ++ flat_map (λ (a : Authority). ended (authority_text a)) (take l.place l.authorities)
