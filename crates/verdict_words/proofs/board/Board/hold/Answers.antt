use Rattle.std.proofs.Common.{refl, sym, ap, ◌∙◌, []}
use Rattle.verdict_words.specs.Inner.Steps.{yielding, yielded, receiving}
use Rattle.verdict_words.proofs.AtHome.{at_home}
use Rattle.verdict_words.proofs.Settled.{shown, away_value, spent_ok}
use Rattle.verdict_words.proofs.board.Board.hold.Goals as goal

pub yield_pass-known-requires-clause-table : goal.yield_pass-known-requires-clause-table
yield_pass-known-requires-clause-table g c = (at_home c.args.self.now c.pass.inside.board.value c.pass.inside.place c.pass.inside.session c.pass.inside.at.value c.pass.invariant (ap (λ v. v.board) c.pass.view_is ∙ c.requires.board) (ap (λ b. b.table.words) (sym c.self.view_is) ∙ c.self.invariant.0)).table

pub yield_pass-known-requires-clause-pass : goal.yield_pass-known-requires-clause-pass
yield_pass-known-requires-clause-pass g c = (_, (at_home c.args.self.now c.pass.inside.board.value c.pass.inside.place c.pass.inside.session c.pass.inside.at.value c.pass.invariant (ap (λ v. v.board) c.pass.view_is ∙ c.requires.board) (ap (λ b. b.table.words) (sym c.self.view_is) ∙ c.self.invariant.0)).me, refl)

pub receive-requires-clause-pass : goal.receive-requires-clause-pass
receive-requires-clause-pass g c =
    let home = at_home c.args.self.now c.pass.inside.board.value c.pass.inside.place c.pass.inside.session c.pass.inside.at.value c.pass.invariant (ap (λ v. v.board) c.pass.view_is ∙ c.requires.board) (ap (λ b. b.table.words) (sym c.self.view_is) ∙ c.self.invariant.0) in
    (_, c.yield_pass-known.ensures.pass ∙ (λ i. (yielded (home.me i).0, [])), refl)

pub invariant_of-pass : goal.invariant_of-pass
invariant_of-pass g c =
    let home = at_home c.args.self.now c.pass.inside.board.value c.pass.inside.place c.pass.inside.session c.pass.inside.at.value c.pass.invariant (ap (λ v. v.board) c.pass.view_is ∙ c.requires.board) (ap (λ b. b.table.words) (sym c.self.view_is) ∙ c.self.invariant.0) in
    spent_ok _ _ _ (c.yield_pass-known.ensures.table.0 ∙ sym (ap (λ b. b.table) home.same)) (c.yield_pass-known.ensures.seat ∙ (λ i. (yielding (home.me i).0, []))) c.pass.invariant.numbered.0 home.first

pub returns-clause-place : goal.returns-clause-place
returns-clause-place g c =
    let home = at_home c.args.self.now c.pass.inside.board.value c.pass.inside.place c.pass.inside.session c.pass.inside.at.value c.pass.invariant (ap (λ v. v.board) c.pass.view_is ∙ c.requires.board) (ap (λ b. b.table.words) (sym c.self.view_is) ∙ c.self.invariant.0) in
    let view = shown c.args.pass.now _ _ _ c.pass.view_is home.me in
    let known = c.yield_pass-known.ensures.pass ∙ (λ i. (yielded (view i).0, [])) in
    (c.receive.ensures.table, c.receive.ensures.seat ∙ (λ i. (receiving c.args.place.now.me.0 (known i).0, [])))

pub returns-clause-pass : goal.returns-clause-pass
returns-clause-pass g c =
    let home = at_home c.args.self.now c.pass.inside.board.value c.pass.inside.place c.pass.inside.session c.pass.inside.at.value c.pass.invariant (ap (λ v. v.board) c.pass.view_is ∙ c.requires.board) (ap (λ b. b.table.words) (sym c.self.view_is) ∙ c.self.invariant.0) in
    away_value _ _ _ _ _ _ _ _ _ c.pass.view_is home.me (c.yield_pass-known.ensures.seat ∙ (λ i. (yielding (home.me i).0, [])))
