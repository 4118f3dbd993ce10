use Rattle.std.proofs.Common.{◌≡◌, ◌++◌, take}
use Rattle.std.specs.List.{All, flat_map}
use Rattle.policy_history.specs.declared.heads.Principal.{Principal}
use Rattle.journal_text.specs.PolicyLaws.{IsKeptPrincipal}
use Rattle.policy_history.specs.PolicyTexts.{ended, principal_text}
use Rattle.journal_text.proofs.policy_printer.PolicyPrinter.principals.Given as goal

abbrev pub invariant-loop-principal : goal.invariant-loop-principal
invariant-loop-principal l = record {
  text : l.self.text ≡ l.fn.self.text ++ flat_map (λ (p : Principal). ended (principal_text p)) (take l.principal-index l.principal-items);
  kept : All IsKeptPrincipal (take l.principal-index l.principal-items);
}
