use Rattle.std.proofs.Common.{rules, sym, ap, ◌∙◌, subst}
use Rattle.atomic_table.specs.Table.{Joins}
use Rattle.verdict_words.specs.Rule.{IsKept, origin_of}
use Rattle.verdict_words.specs.Inner.Steps.{receiving}
use Rattle.verdict_words.specs.declared.views.View.{View}
use Rattle.verdict_words.specs.declared.views.View.TheVariants.{Spent}
use Rattle.verdict_words.proofs.Meetings.{receives}
use Rattle.verdict_words.proofs.board.Board.receive.Goals as goal

pub join_seat-requires : goal.join_seat-requires
join_seat-requires g c = (
  c.requires.table.0 ∙ ap (λ b. b.table) (sym c.self.view_is),
  c.requires.table.1 ∙ ap (λ b. b.table) (sym c.self.view_is),
  ap (λ m. m.1) c.requires.pass.1,
  search rules,
  let key = c.self.inside.words.shared.key in
      let K = IsKept g.M.Matter.session (g.M.Matter.right key.setting.value) (g.M.Matter.touches key.setting.value) (origin_of key) in
      subst (λ (z : View g.row.M-Entry.Denot g.row.M-Setting.Denot × View g.row.M-Entry.Denot g.row.M-Setting.Denot). Joins K c.args.seat.now.id z.0 c.args.pass.id z.1 (receiving z.0 z.1) Spent)
      (λ i. (sym (ap (λ m. m.0) c.requires.book.1) i, sym (ap (λ m. m.0) c.requires.pass.1) i))
      (receives g.M.Matter.session (g.M.Matter.right key.setting.value) (g.M.Matter.touches key.setting.value) (origin_of key) _ _ _ _ c.requires.pass.2),
)

pub returns-clause-seat : goal.returns-clause-seat
returns-clause-seat g c = c.join_seat.ensures.2 ∙ (λ i. (receiving c.args.seat.now.me.0 c.args.pass.me.0, (c.requires.book.1 i).1))
