use Rattle.std.proofs.Common.{rules, ℕ, ◌+◌, sym, ap, ◌∙◌, subst, length}
use mathlib.Core.Option.{none}
use Rattle.atomic_table.specs.Table.{step, Allows}
use Rattle.verdict_words.specs.Words.{region_word}
use Rattle.verdict_words.specs.Rule.{IsKept, origin_of}
use Rattle.verdict_words.specs.Inner.Steps.{raised_region}
use Rattle.verdict_words.proofs.PassSteps.{asked}
use Rattle.verdict_words.proofs.BookKept.{raises}
use Rattle.verdict_words.proofs.board.Board.store_region.Goals as goal

pub store-requires : goal.store-requires
store-requires g c = (
  c.requires.table ∙ ap (λ b. b.table) (sym c.self.view_is),
  search rules,
  let key = c.self.inside.words.shared.key in
      let slots = c.self.inside.words.shared.table_id.slots in
      let book = c.requires.book in
      subst (λ (n : ℕ). Allows (IsKept g.M.Matter.session (g.M.Matter.right key.setting.value) (g.M.Matter.touches key.setting.value) (origin_of key)) slots c.args.seat.now.id c.args.seat.now.me (region_word c.args.region) (λ _. n)
      (λ _. raised_region (step slots (region_word c.args.region) n 0 none) c.args.seat.now.me n)) (sym book.4)
      (asked g.M.Matter.session g.M.Matter.right g.M.Matter.touches (origin_of key) _ _ _ _ _ (λ _. length book.0.history + 1) (λ n m _. raised_region (step n (region_word c.args.region) (length book.0.history + 1) 0 none) m (length book.0.history + 1)) c.self.invariant.1 book.1
      (raises g.M.Matter.session (g.M.Matter.right key.setting.value) (g.M.Matter.touches key.setting.value) (origin_of key) _ _ c.args.region c.requires.region book.2 book.3)),
)
