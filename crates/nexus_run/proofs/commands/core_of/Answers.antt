use Rattle.std.proofs.Common.{◌≡◌, ◌≤◌, sym, ◌∙◌, subst}
use Rattle.std.specs.Fmt.{decimal}
use Rattle.nexus_run.specs.Commands.{most_steps}
use Rattle.nexus_run.proofs.Words.{not_so, same_steps}
use Rattle.nexus_run.proofs.commands.core_of.Goals as goal

pub returns-then-not-are_few : goal.returns-then-not-are_few
returns-then-not-are_few c =
    λ number steps within words.
    let all = sym c.in_ok-word.ensures ∙ words in
    let third : c.in_ok-word.steps.now ≡ decimal steps = cc all in
    let same = same_steps c.in_ok-steps.steps number steps c.are_few.ensures.small within (sym c.in_ok-steps.ensures.value ∙ c.as_bytes-2.ensures.value ∙ third) in
    let few = c.are_few.ensures.value.1 (subst (λ n. n ≤ most_steps) (sym same) within.steps_are) in
    not_so c.are_few.result c.if-not-are_few.true few
