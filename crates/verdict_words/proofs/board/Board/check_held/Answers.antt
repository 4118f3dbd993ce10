use Rattle.std.proofs.Common.{rules, sym, ap, ◌∙◌}
use mathlib.Core.Option.{none}
use Rattle.atomic_table.specs.Table.{step}
use Rattle.verdict_words.specs.Inner.Steps.{checked}
use Rattle.verdict_words.proofs.Meetings.{checks}
use Rattle.verdict_words.proofs.PassSteps.{asked}
use Rattle.verdict_words.proofs.board.Board.check_held.Goals as goal

pub load-requires : goal.load-requires
load-requires g c = (
  c.requires.table ∙ ap (λ b. b.table) (sym c.self.view_is),
  search rules,
  asked g.M.Matter.session g.M.Matter.right g.M.Matter.touches _ _ _ _ _ _ (λ n. n) (λ n. checked g.M.Matter.session g.M.Matter.right g.M.Matter.touches (step n 0 0 0 none)) c.self.invariant.1 c.requires.book.1
      (checks g.M.Matter.session g.M.Matter.right g.M.Matter.touches _ _ c.requires.book.0),
)

pub returns-clause-told : goal.returns-clause-told
returns-clause-told g c = c.load.ensures.2
