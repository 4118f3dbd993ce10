use Rattle.std.proofs.Common.{rules, refl, sym, ap, ◌∙◌, arith}
use mathlib.Core.Option.{none}
use Rattle.atomic_table.specs.Table.{step}
use Rattle.verdict_words.specs.Words.{object_region, region_word}
use Rattle.verdict_words.specs.Inner.Steps.{loaded_object}
use Rattle.verdict_words.proofs.PassSteps.{asked, loads_object}
use Rattle.verdict_words.proofs.board.Board.load_object.Goals as goal

pub load-requires : goal.load-requires
load-requires g c = (
  c.requires.table ∙ ap (λ b. b.table) (sym c.self.view_is),
  search rules,
  asked g.M.Matter.session g.M.Matter.right g.M.Matter.touches _ _ _ _ _ _ (λ n. n) (λ n. loaded_object g.M.Matter.right g.M.Matter.touches (step n (region_word (object_region c.args.place.now.object)) 0 0 none)) c.self.invariant.1 c.requires.pass.2.1
      (loads_object g.M.Matter.session g.M.Matter.right g.M.Matter.touches _ _ _ c.args.place.now c.requires.pass.0 c.requires.pass.1 (object_region c.args.place.now.object) c.requires.pass.2.2 refl (omega arith)),
)

pub returns-clause-told : goal.returns-clause-told
returns-clause-told g c = c.load.ensures.2
