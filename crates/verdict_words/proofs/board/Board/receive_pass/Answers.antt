use Rattle.std.proofs.Common.{refl, sym, ap, ◌∙◌, []}
use Rattle.verdict_words.specs.Inner.Steps.{receiving}
use Rattle.verdict_words.proofs.AtHome.{at_home}
use Rattle.verdict_words.proofs.Settled.{shown}
use Rattle.verdict_words.proofs.board.Board.receive_pass.Goals as goal

pub receive-requires-clause-table : goal.receive-requires-clause-table
receive-requires-clause-table g c = (
  c.requires.place.0,
  (at_home c.args.self.now c.pass.inside.board.value c.pass.inside.place c.pass.inside.session c.pass.inside.at.value c.pass.invariant (ap (λ v. v.board) c.pass.view_is ∙ c.requires.board) (ap (λ b. b.table.words) (sym c.self.view_is) ∙ c.self.invariant.0)).table,
)

pub receive-requires-clause-pass : goal.receive-requires-clause-pass
receive-requires-clause-pass g c = (_, (at_home c.args.self.now c.pass.inside.board.value c.pass.inside.place c.pass.inside.session c.pass.inside.at.value c.pass.invariant (ap (λ v. v.board) c.pass.view_is ∙ c.requires.board) (ap (λ b. b.table.words) (sym c.self.view_is) ∙ c.self.invariant.0)).me, refl)

pub returns : goal.returns
returns g c =
    let home = at_home c.args.self.now c.pass.inside.board.value c.pass.inside.place c.pass.inside.session c.pass.inside.at.value c.pass.invariant (ap (λ v. v.board) c.pass.view_is ∙ c.requires.board) (ap (λ b. b.table.words) (sym c.self.view_is) ∙ c.self.invariant.0) in
    let view = shown c.args.pass _ _ _ c.pass.view_is home.me in
    record { place = (c.receive.ensures.table, c.receive.ensures.seat ∙ (λ i. (receiving c.args.place.now.me.0 (view i).0, []))) }
