use Rattle.std.proofs.Common.{rules, ◌+◌, ◌%◌, ◌^◌, ◌<◌, ◌≡◌, ℕ, sym, ap, ◌∙◌, subst, Some}
use Rattle.std.specs.Prelude.{◌↔◌}
use mathlib.Core.Option.{none}
use Rattle.atomic_table.specs.Table.{step}
use Rattle.verdict_words.specs.Words.{region_count}
use Rattle.verdict_words.specs.Rule.{origin_of}
use Rattle.verdict_words.specs.Inner.Steps.{published}
use Rattle.verdict_words.proofs.PassSteps.{asked}
use Rattle.verdict_words.proofs.BookKept.{grows}
use Rattle.verdict_words.proofs.board.Board.add_to_count.Goals as goal

pub fetch_add-requires : goal.fetch_add-requires
fetch_add-requires g c = (
  c.requires.table ∙ ap (λ b. b.table) (sym c.self.view_is),
  search rules,
  let key = c.self.inside.words.shared.key in
      let book = c.requires.book in
      asked g.M.Matter.session g.M.Matter.right g.M.Matter.touches (origin_of key) _ _ _ _ _ (λ n. (n + 1) % 2 ^ 64) (λ n. published g.M.Matter.session g.W.Said.said (step n 0 1 0 none)) c.self.invariant.1 book.1
      (grows g.M.Matter.session (g.M.Matter.right key.setting.value) (g.M.Matter.touches key.setting.value) (origin_of key) _ _ g.W.Said.said c.args.entry.now c.requires.said book.2 book.3 book.4
      (subst (λ z. (r : ℕ) → r < region_count → g.M.Matter.touches z.origin.setting book.0.history c.args.entry.now r ↔ (book.0.raised ≡ Some r)) (sym c.self.view_is) book.5)),
)

pub returns-clause-told : goal.returns-clause-told
returns-clause-told g c = subst (λ said. published g.M.Matter.session said (step 0 0 1 0 none) c.args.seat.now.me 0 c.fetch_add.new.seat.me) c.requires.said c.fetch_add.ensures.2
