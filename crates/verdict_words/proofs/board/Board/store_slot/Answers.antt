use Rattle.std.proofs.Common.{rules, sym, ap, ◌∙◌, subst, take}
use mathlib.Core.Option.{none}
use Rattle.atomic_table.specs.Table.{step}
use Rattle.verdict_words.specs.Words.{slot_word}
use Rattle.verdict_words.specs.Inner.Steps.{stored_slot}
use Rattle.verdict_words.proofs.PassSteps.{asked, stores_slot}
use Rattle.verdict_words.proofs.board.Board.store_slot.Goals as goal

pub store-requires : goal.store-requires
store-requires g c = (
  c.requires.table ∙ ap (λ b. b.table) (sym c.self.view_is),
  search rules,
  asked g.M.Matter.session g.M.Matter.right g.M.Matter.touches _ _ _ _ _ _ (λ _. c.args.word) (λ n m _. stored_slot g.W.Said.said (step n (slot_word c.args.place.now.case) c.args.word 0 none) m c.args.word) c.self.invariant.1 c.requires.pass.1
      (let pass = c.requires.pass in stores_slot g.M.Matter.session g.M.Matter.right g.M.Matter.touches _ _ _ g.W.Said.said c.args.place.now.case c.args.at c.args.held.now c.args.word c.requires.said pass.2 c.requires.word pass.3
      (subst (λ z. g.M.Matter.right z.origin.setting (take c.args.at pass.0.seen) c.args.place.now.case c.args.held.now) (sym c.self.view_is) pass.4)),
)

pub returns-clause-told : goal.returns-clause-told
returns-clause-told g c = subst (λ said. stored_slot said (step 0 (slot_word c.args.place.now.case) c.args.word 0 none) c.args.seat.now.me c.args.word c.store.new.seat.me) c.requires.said c.store.ensures.2
