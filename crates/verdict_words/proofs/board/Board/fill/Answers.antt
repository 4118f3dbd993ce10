use Rattle.std.proofs.Common.{refl, ◌≤◌, sym, ap, ◌∙◌, subst, List, [], ◌∷◌, length, take}
use Rattle.verdict_words.specs.Words.{slot_word, spelling}
use Rattle.verdict_words.specs.Orders.{stores}
use Rattle.verdict_words.specs.Values.{seen_of, known_of}
use Rattle.verdict_words.proofs.AtHome.{at_home, pass_ok, item_value, steps_shown}
use Rattle.verdict_words.proofs.Looking.{after_store}
use Rattle.verdict_words.proofs.board.Board.fill.Goals as goal

pub store_slot-requires-clause-table : goal.store_slot-requires-clause-table
store_slot-requires-clause-table g c = (at_home c.args.self.now c.pass.inside.board.value c.pass.inside.place c.pass.inside.session c.pass.inside.at.value c.pass.invariant (ap (λ v. v.board) c.pass.view_is ∙ c.requires.board) (ap (λ b. b.table.words) (sym c.self.view_is) ∙ c.self.invariant.0)).table

pub store_slot-requires-clause-pass : goal.store_slot-requires-clause-pass
store_slot-requires-clause-pass g c =
    let home = at_home c.args.self.now c.pass.inside.board.value c.pass.inside.place c.pass.inside.session c.pass.inside.at.value c.pass.invariant (ap (λ v. v.board) c.pass.view_is ∙ c.requires.board) (ap (λ b. b.table.words) (sym c.self.view_is) ∙ c.self.invariant.0) in
    let before : c.args.at ≤ length (seen_of c.pass.inside.place.me.0) = subst (λ l. c.args.at ≤ length l) (sym (ap (λ v. v.seen) c.pass.view_is)) c.requires.at in
    (_, home.me, refl, before, subst (λ (l : List g.row.M-Entry.Denot). g.M.Matter.right c.args.self.now.origin.setting (take c.args.at l) c.args.place.now.case c.args.held.now) (sym (ap (λ v. v.seen) c.pass.view_is)) c.requires.right)

pub invariant_of-pass : goal.invariant_of-pass
invariant_of-pass g c =
    let home = at_home c.args.self.now c.pass.inside.board.value c.pass.inside.place c.pass.inside.session c.pass.inside.at.value c.pass.invariant (ap (λ v. v.board) c.pass.view_is ∙ c.requires.board) (ap (λ b. b.table.words) (sym c.self.view_is) ∙ c.self.invariant.0) in
    let now = after_store _ _ _ _ _ _ _ home.me c.store_slot.ensures.told in
    pass_ok _ _ _ _ _ _ now.0 (c.store_slot.ensures.table ∙ sym (ap (λ b. b.table) home.same)) now.2 c.pass.invariant.count c.pass.invariant.short c.pass.invariant.numbered.0 home.first home.begins

pub returns-clause-pass : goal.returns-clause-pass
returns-clause-pass g c =
    let home = at_home c.args.self.now c.pass.inside.board.value c.pass.inside.place c.pass.inside.session c.pass.inside.at.value c.pass.invariant (ap (λ v. v.board) c.pass.view_is ∙ c.requires.board) (ap (λ b. b.table.words) (sym c.self.view_is) ∙ c.self.invariant.0) in
    let now = after_store _ _ _ _ _ _ _ home.me c.store_slot.ensures.told in
    item_value _ _ _ _ _ _ _ _ _ now.0 _ c.pass.view_is home.me now.2

pub returns-clause-step : goal.returns-clause-step
returns-clause-step g c =
    let home = at_home c.args.self.now c.pass.inside.board.value c.pass.inside.place c.pass.inside.session c.pass.inside.at.value c.pass.invariant (ap (λ v. v.board) c.pass.view_is ∙ c.requires.board) (ap (λ b. b.table.words) (sym c.self.view_is) ∙ c.self.invariant.0) in
    let now = after_store _ _ _ _ _ _ _ home.me c.store_slot.ensures.told in
    (now.1, steps_shown _ _ _ c.pass.inside.place.me c.store_slot.new.seat.me now.0 (λ s. stores s (slot_word c.args.place.now.case) (spelling c.args.place.now.case c.args.at c.args.held.now) now.1 ∷ []) c.pass.view_is (ap (λ m. known_of m.0) now.2) now.3)
