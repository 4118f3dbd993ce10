use Rattle.std.proofs.Common.{◌≡◌, ◌∙◌, sym, subst, ap, get_or}
use Rattle.nal_term.specs.TreeKeys.{same_bytes}
use Rattle.policy_history.specs.declared.heads.Principal.{Principal}
use Rattle.policy_history.specs.Heads.{ArePrincipals}
use Rattle.policy_history.proofs.PrincipalNames.{admits_it, admits_no_other, admits_nobody}
use Rattle.policy_history.proofs.heads.Principals.admit.Goals as goal

pub returns-in-None-clause-number : goal.returns-in-None-clause-number
returns-in-None-clause-number c = sym (admits_nobody c.args.self.now c.args.name.now c.args.secret.now (sym c.in-None.ensures.number))

pub returns-then-is_same_secret-clause-number : goal.returns-then-is_same_secret-clause-number
returns-then-is_same_secret-clause-number c =
    let are = subst ArePrincipals c.self.view_is c.self.invariant.principals in
    let own : c.as_slice-in-Some.result.now ≡ (get_or c.args.self.now c.in-Some.number c.index.result.now).secret =
    c.as_slice-in-Some.ensures.bytes ∙ ap (λ (x : Principal). x.secret) c.index.ensures
    ∙ ap (λ xs. (get_or xs c.in-Some.number c.index.result.now).secret) c.self.view_is in
    let told = sym (c.if-is_same_secret.ensures ∙ (λ i. same_bytes (c.as_slice.ensures.bytes i) (own i))) in
    sym (admits_it c.args.self.now c.args.name.now c.args.secret.now are c.in-Some.number c.index.result.now (sym c.in-Some.ensures.number) told)

pub returns-else-is_same_secret-clause-number : goal.returns-else-is_same_secret-clause-number
returns-else-is_same_secret-clause-number c =
    let are = subst ArePrincipals c.self.view_is c.self.invariant.principals in
    let own : c.as_slice-in-Some.result.now ≡ (get_or c.args.self.now c.in-Some.number c.index.result.now).secret =
    c.as_slice-in-Some.ensures.bytes ∙ ap (λ (x : Principal). x.secret) c.index.ensures
    ∙ ap (λ xs. (get_or xs c.in-Some.number c.index.result.now).secret) c.self.view_is in
    let told = sym (c.if-is_same_secret.ensures ∙ (λ i. same_bytes (c.as_slice.ensures.bytes i) (own i))) in
    sym (admits_no_other c.args.self.now c.args.name.now c.args.secret.now are c.in-Some.number c.index.result.now (sym c.in-Some.ensures.number) told)
