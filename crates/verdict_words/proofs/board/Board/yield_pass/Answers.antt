use Rattle.std.proofs.Common.{rules, sym, ap, ◌∙◌, subst}
use Rattle.atomic_table.specs.Table.{Splits}
use Rattle.verdict_words.specs.Rule.{IsKept, origin_of}
use Rattle.verdict_words.specs.Inner.Steps.{yielding, yielded}
use Rattle.verdict_words.proofs.Meetings.{yields}
use Rattle.verdict_words.proofs.board.Board.yield_pass.Goals as goal

pub split_seat-requires : goal.split_seat-requires
split_seat-requires g c = (
  c.requires.table ∙ ap (λ b. b.table) (sym c.self.view_is),
  search rules,
  let key = c.self.inside.words.shared.key in
      subst (λ v. Splits (IsKept g.M.Matter.session (g.M.Matter.right key.setting.value) (g.M.Matter.touches key.setting.value) (origin_of key)) c.args.seat.now.id v (yielding v) (yielded v)) (sym (ap (λ m. m.0) c.requires.pass.1))
      (yields g.M.Matter.session (g.M.Matter.right key.setting.value) (g.M.Matter.touches key.setting.value) (origin_of key) _ _),
)

pub returns-clause-seat : goal.returns-clause-seat
returns-clause-seat g c = c.split_seat.ensures.2 ∙ (λ i. (yielding c.args.seat.now.me.0, (c.requires.pass.1 i).1))
