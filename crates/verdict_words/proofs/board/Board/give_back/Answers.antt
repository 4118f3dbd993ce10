use Rattle.std.proofs.Common.{rules, sym, ap, ◌∙◌, subst}
use Rattle.atomic_table.specs.Table.{Splits}
use Rattle.verdict_words.specs.Rule.{IsKept, origin_of}
use Rattle.verdict_words.specs.Inner.Steps.{releasing, returning, released, returned}
use Rattle.verdict_words.specs.declared.views.View.TheVariants.{Book}
use Rattle.verdict_words.proofs.Meetings.{returns}
use Rattle.verdict_words.proofs.board.Board.give_back.Goals as goal

pub split_seat-requires : goal.split_seat-requires
split_seat-requires g c = (
  c.requires.table ∙ ap (λ b. b.table) (sym c.self.view_is),
  search rules,
  let key = c.self.inside.words.shared.key in
      let K = IsKept g.M.Matter.session (g.M.Matter.right key.setting.value) (g.M.Matter.touches key.setting.value) (origin_of key) in
      let h = c.requires.book in
      subst (λ v. Splits K c.args.seat.now.id v (releasing v) (returning v)) (sym (ap (λ m. m.0) h.3))
      (subst (λ l. Splits K c.args.seat.now.id (Book h.0) (Book (released h.0 l)) (returned h.0 l)) (sym h.4)
      (returns g.M.Matter.session (g.M.Matter.right key.setting.value) (g.M.Matter.touches key.setting.value) (origin_of key) _ h.0 h.1 h.2 h.4)),
)

pub returns-clause-seat : goal.returns-clause-seat
returns-clause-seat g c = c.split_seat.ensures.2 ∙ (λ i. (releasing c.args.seat.now.me.0, (c.requires.book.3 i).1))
