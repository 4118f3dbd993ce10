use Rattle.std.proofs.Common.{◌≡◌, ◌+◌, ◌++◌, ◌∷◌, [], take, ap, sym, ◌∙◌, subst}
use Rattle.std.specs.List.{flat_map}
use Rattle.std.proofs.lemmas.List.{flat_map_more, take_more}
use Rattle.std.proofs.lemmas.List.Elements.{All-more}
use Rattle.policy_history.specs.declared.heads.Principal.{Principal}
use Rattle.journal_text.specs.PolicyLaws.{IsKeptPrincipal}
use Rattle.policy_history.specs.PolicyTexts.{ended, principal_text}
use Rattle.journal_text.proofs.policy_printer.PolicyPrinter.principals.Goals as goal

pub loop-principal-preserved : goal.loop-principal-preserved
loop-principal-preserved c =
    let line = λ (p : Principal). ended (principal_text p) in
    let items = c.as_slice-principal-items.result.now in
    let k = c.loop-principal.principal-index in
    let p = c.principal-item.result in
    let next : take (k + 1) items ≡ take k items ++ p ∷ [] = take_more items k p c.loop-principal-test.true ∙ ap (λ x. take k items ++ x ∷ []) (sym c.principal-item.is) in
    record {
      text = c.in_ok-principal.ensures.text ∙ ap (λ t. t ++ line p) c.loop-principal.invariant.text ∙ flat_map_more line c.args.self.now.text (take k items) p
          ∙ sym (ap (λ xs. c.args.self.now.text ++ flat_map line xs) next);
      kept = All-more IsKeptPrincipal items k p c.loop-principal-test.true c.loop-principal.invariant.kept (subst IsKeptPrincipal c.principal-item.is c.in_ok-principal.ensures.kept);
    }
