use Rattle.std.proofs.Common.{rules, refl, sym, ap, ◌∙◌}
use mathlib.Core.Option.{none}
use Rattle.atomic_table.specs.Table.{step}
use Rattle.verdict_words.specs.Words.{register_word}
use Rattle.verdict_words.specs.Inner.Steps.{has_written}
use Rattle.verdict_words.specs.declared.views.RegisterStep.TheVariants.{Write}
use Rattle.verdict_words.proofs.PassSteps.{asked, runs}
use Rattle.verdict_words.proofs.board.Board.swap_register.Goals as goal

pub swap-requires : goal.swap-requires
swap-requires g c = (
  c.requires.table ∙ ap (λ b. b.table) (sym c.self.view_is),
  search rules,
  asked g.M.Matter.session g.M.Matter.right g.M.Matter.touches _ _ _ _ _ _ (λ _. c.args.value) (λ n. has_written (step n (register_word c.args.object) c.args.value 0 none)) c.self.invariant.1 c.requires.pass.1
      (runs g.M.Matter.session g.M.Matter.right g.M.Matter.touches _ _ _ c.args.object (Write c.args.value) (λ _. c.args.value) c.requires.object c.requires.pass.2 (λ n. refl)),
)

pub returns-clause-told : goal.returns-clause-told
returns-clause-told g c = c.swap.ensures.2
