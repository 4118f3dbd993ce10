use Rattle.std.proofs.Common.{rules, sym, ap, ◌∙◌, subst}
use mathlib.Core.Option.{none}
use Rattle.atomic_table.specs.Table.{step}
use Rattle.verdict_words.specs.Words.{slot_word}
use Rattle.verdict_words.specs.Inner.Steps.{loaded_slot}
use Rattle.verdict_words.proofs.PassSteps.{asked, loads_slot}
use Rattle.verdict_words.proofs.board.Board.load_slot.Goals as goal

pub load-requires : goal.load-requires
load-requires g c = (
  c.requires.table ∙ ap (λ b. b.table) (sym c.self.view_is),
  search rules,
  asked g.M.Matter.session g.M.Matter.right g.M.Matter.touches _ _ _ _ _ _ (λ n. n) (λ n. loaded_slot g.W.Said.said (step n (slot_word c.args.place.now.case) 0 0 none)) c.self.invariant.1 c.requires.pass.1
      (loads_slot g.M.Matter.session g.M.Matter.right g.M.Matter.touches _ _ _ g.W.Said.said c.args.place.now c.requires.said c.requires.pass.2),
)

pub returns-clause-told : goal.returns-clause-told
returns-clause-told g c = subst (λ said. loaded_slot said (step 0 (slot_word c.args.place.now.case) 0 0 none) c.args.seat.now.me c.load.result c.load.new.seat.me) c.requires.said c.load.ensures.2
