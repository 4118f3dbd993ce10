use Rattle.std.proofs.Common.{refl, sym, ap, ◌∙◌}
use Rattle.verdict_words.specs.Orders.{item_steps}
use Rattle.verdict_words.specs.Values.{known_of}
use Rattle.verdict_words.specs.declared.views.Item.TheVariants.{Ran}
use Rattle.verdict_words.specs.declared.views.RegisterStep.TheVariants.{Read}
use Rattle.verdict_words.proofs.AtHome.{at_home, pass_ok, item_value, steps_shown}
use Rattle.verdict_words.proofs.Looking.{after_run}
use Rattle.verdict_words.proofs.board.Board.run_read.Goals as goal

pub read_register-requires-clause-table : goal.read_register-requires-clause-table
read_register-requires-clause-table g c = (at_home c.args.self.now c.pass.inside.board.value c.pass.inside.place c.pass.inside.session c.pass.inside.at.value c.pass.invariant (ap (λ v. v.board) c.pass.view_is ∙ c.requires.board) (ap (λ b. b.table.words) (sym c.self.view_is) ∙ c.self.invariant.0)).table

pub read_register-requires-clause-pass : goal.read_register-requires-clause-pass
read_register-requires-clause-pass g c = (_, (at_home c.args.self.now c.pass.inside.board.value c.pass.inside.place c.pass.inside.session c.pass.inside.at.value c.pass.invariant (ap (λ v. v.board) c.pass.view_is ∙ c.requires.board) (ap (λ b. b.table.words) (sym c.self.view_is) ∙ c.self.invariant.0)).me, refl)

pub invariant_of-pass : goal.invariant_of-pass
invariant_of-pass g c =
    let home = at_home c.args.self.now c.pass.inside.board.value c.pass.inside.place c.pass.inside.session c.pass.inside.at.value c.pass.invariant (ap (λ v. v.board) c.pass.view_is ∙ c.requires.board) (ap (λ b. b.table.words) (sym c.self.view_is) ∙ c.self.invariant.0) in
    let now = after_run 0 _ _ _ Read c.args.object _ home.me c.read_register.ensures.told in
    pass_ok _ _ _ _ _ _ now.0 (c.read_register.ensures.table ∙ sym (ap (λ b. b.table) home.same)) now.1 c.pass.invariant.count c.pass.invariant.short c.pass.invariant.numbered.0 home.first home.begins

pub returns-clause-pass : goal.returns-clause-pass
returns-clause-pass g c =
    let home = at_home c.args.self.now c.pass.inside.board.value c.pass.inside.place c.pass.inside.session c.pass.inside.at.value c.pass.invariant (ap (λ v. v.board) c.pass.view_is ∙ c.requires.board) (ap (λ b. b.table.words) (sym c.self.view_is) ∙ c.self.invariant.0) in
    let now = after_run 0 _ _ _ Read c.args.object _ home.me c.read_register.ensures.told in
    item_value _ _ _ _ _ _ _ _ _ now.0 _ c.pass.view_is home.me now.1

pub returns-clause-step : goal.returns-clause-step
returns-clause-step g c =
    let home = at_home c.args.self.now c.pass.inside.board.value c.pass.inside.place c.pass.inside.session c.pass.inside.at.value c.pass.invariant (ap (λ v. v.board) c.pass.view_is ∙ c.requires.board) (ap (λ b. b.table.words) (sym c.self.view_is) ∙ c.self.invariant.0) in
    let now = after_run 0 _ _ _ Read c.args.object _ home.me c.read_register.ensures.told in
    steps_shown _ _ _ c.pass.inside.place.me c.read_register.new.seat.me now.0 (λ s. item_steps s (Ran c.args.object Read c.read_register.result)) c.pass.view_is (ap (λ m. known_of m.0) now.1) now.2
