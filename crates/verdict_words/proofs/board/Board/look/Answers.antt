use Rattle.std.proofs.Common.{List, [], ◌∷◌, refl, ◌≡◌, sym, ap, ◌∙◌, subst, length}
use Rattle.verdict_words.specs.Words.{object_region, store_region, region_word}
use Rattle.verdict_words.specs.Orders.{Steps, loads, item_steps}
use Rattle.verdict_words.specs.Values.{seen_of, known_of}
use Rattle.verdict_words.specs.Answers.{IsAnswer, HitIsRight}
use Rattle.verdict_words.specs.declared.views.Item.TheVariants.{Loaded}
use Rattle.verdict_words.proofs.AtHome.{at_home, pass_ok, look_value, steps_shown}
use Rattle.verdict_words.proofs.Growing.{prefix_through}
use Rattle.verdict_words.proofs.Looking.{after_slot, after_count, after_object, after_look, steps_then, is_slot, hit_is_right}
use Rattle.verdict_words.proofs.board.Board.look.Goals as goal

pub load_slot-slot-requires-clause-table : goal.load_slot-slot-requires-clause-table
load_slot-slot-requires-clause-table g c = (at_home c.args.self.now c.pass.inside.board.value c.pass.inside.place c.pass.inside.session c.pass.inside.at.value c.pass.invariant (ap (λ v. v.board) c.pass.view_is ∙ c.requires.board) (ap (λ b. b.table.words) (sym c.self.view_is) ∙ c.self.invariant.0)).table

pub load_slot-slot-requires-clause-pass : goal.load_slot-slot-requires-clause-pass
load_slot-slot-requires-clause-pass g c = (_, (at_home c.args.self.now c.pass.inside.board.value c.pass.inside.place c.pass.inside.session c.pass.inside.at.value c.pass.invariant (ap (λ v. v.board) c.pass.view_is ∙ c.requires.board) (ap (λ b. b.table.words) (sym c.self.view_is) ∙ c.self.invariant.0)).me, refl)

pub load_count-count-requires-clause-pass : goal.load_count-count-requires-clause-pass
load_count-count-requires-clause-pass g c =
    let home = at_home c.args.self.now c.pass.inside.board.value c.pass.inside.place c.pass.inside.session c.pass.inside.at.value c.pass.invariant (ap (λ v. v.board) c.pass.view_is ∙ c.requires.board) (ap (λ b. b.table.words) (sym c.self.view_is) ∙ c.self.invariant.0) in
    let was = after_slot _ _ _ _ _ home.me c.load_slot-slot.ensures.told in
    (c.args.place.now, c.load_slot-slot.result, (_, was.1, refl))

pub load_object-object-requires-clause-pass : goal.load_object-object-requires-clause-pass
load_object-object-requires-clause-pass g c =
    let home = at_home c.args.self.now c.pass.inside.board.value c.pass.inside.place c.pass.inside.session c.pass.inside.at.value c.pass.invariant (ap (λ v. v.board) c.pass.view_is ∙ c.requires.board) (ap (λ b. b.table.words) (sym c.self.view_is) ∙ c.self.invariant.0) in
    let was = after_slot _ _ _ _ _ home.me c.load_slot-slot.ensures.told in
    let counted = after_count g.M.Matter.right g.M.Matter.touches _ _ _ _ _ _ was.1 refl c.load_count-count.ensures.told in
    (c.load_slot-slot.result, c.load_count-count.result, (_, counted.view, refl))

pub load_store-store-requires-clause-pass : goal.load_store-store-requires-clause-pass
load_store-store-requires-clause-pass g c =
    let home = at_home c.args.self.now c.pass.inside.board.value c.pass.inside.place c.pass.inside.session c.pass.inside.at.value c.pass.invariant (ap (λ v. v.board) c.pass.view_is ∙ c.requires.board) (ap (λ b. b.table.words) (sym c.self.view_is) ∙ c.self.invariant.0) in
    let was = after_slot _ _ _ _ _ home.me c.load_slot-slot.ensures.told in
    let counted = after_count g.M.Matter.right g.M.Matter.touches _ _ _ _ _ _ was.1 refl c.load_count-count.ensures.told in
    let object = after_object g.M.Matter.right g.M.Matter.touches _ _ _ _ _ _ _ _ counted.view refl c.load_object-object.ensures.told in
    (c.load_slot-slot.result, c.load_count-count.result, c.load_object-object.result, (_, object.0.1, refl))

pub answer-found-requires : goal.answer-found-requires
answer-found-requires g c =
    let home = at_home c.args.self.now c.pass.inside.board.value c.pass.inside.place c.pass.inside.session c.pass.inside.at.value c.pass.invariant (ap (λ v. v.board) c.pass.view_is ∙ c.requires.board) (ap (λ b. b.table.words) (sym c.self.view_is) ∙ c.self.invariant.0) in
    let was = after_slot _ _ _ _ _ home.me c.load_slot-slot.ensures.told in
    let counted = after_count g.M.Matter.right g.M.Matter.touches _ _ _ _ _ _ was.1 refl c.load_count-count.ensures.told in
    is_slot (g.M.Matter.right c.pass.inside.board.value.origin.setting) counted.seen c.load_slot-slot.result counted.sound

pub returns-clause-loaded : goal.returns-clause-loaded
returns-clause-loaded g c =
    let home = at_home c.args.self.now c.pass.inside.board.value c.pass.inside.place c.pass.inside.session c.pass.inside.at.value c.pass.invariant (ap (λ v. v.board) c.pass.view_is ∙ c.requires.board) (ap (λ b. b.table.words) (sym c.self.view_is) ∙ c.self.invariant.0) in
    let was = after_slot _ _ _ _ _ home.me c.load_slot-slot.ensures.told in
    let counted = after_count g.M.Matter.right g.M.Matter.touches _ _ _ _ _ _ was.1 refl c.load_count-count.ensures.told in
    let object = after_object g.M.Matter.right g.M.Matter.touches _ _ _ _ _ _ _ _ counted.view refl c.load_object-object.ensures.told in
    let store = after_look g.M.Matter.right g.M.Matter.touches _ _ _ _ _ _ _ _ _ object.0.1 refl c.load_store-store.ensures.told in
    let n : c.load_count-count.result ≡ length (seen_of c.load_store-store.new.seat.me.0) = sym counted.long ∙ ap length (sym (ap (λ m. seen_of m.0) store.0.1)) in
    let s = c.pass.inside.session in
    let place = c.args.place.now in
    let at_store = loads s (region_word (store_region place.store)) c.load_store-store.result ∷ [] in
    let at_object = loads s (region_word (object_region place.object)) c.load_object-object.result ∷ at_store in
    let at_count = loads s 0 c.load_count-count.result ∷ at_object in
    let made = steps_then _ _ was.0 at_count store.0.0 was.2 (steps_then _ _ counted.knows at_object store.0.0 counted.steps (steps_then _ _ object.0.0 at_store store.0.0 object.0.2 store.0.2)) in (
      c.load_slot-slot.result,
      c.load_object-object.result,
      c.load_store-store.result,
      look_value _ _ _ _ _ _ _ _ _ _ _ _ _ _ _ _ c.pass.view_is home.me store.0.1 counted.long,
      subst (λ k. IsAnswer c.args.place.now.case c.load_slot-slot.result k c.load_object-object.result c.load_store-store.result c.answer-found.result) n c.answer-found.ensures,
      steps_shown _ _ _ c.pass.inside.place.me c.load_store-store.new.seat.me store.0.0 (λ s. item_steps s (Loaded c.args.place.now c.load_slot-slot.result (length (seen_of c.load_store-store.new.seat.me.0)) c.load_object-object.result c.load_store-store.result))
          c.pass.view_is (ap (λ m. known_of m.0) store.0.1)
          (subst (λ k. Steps (known_of c.pass.inside.place.me.0) (item_steps c.pass.inside.session (Loaded c.args.place.now c.load_slot-slot.result k c.load_object-object.result c.load_store-store.result)) store.0.0) n made),
    )

pub returns-clause-right : goal.returns-clause-right
returns-clause-right g c =
    let home = at_home c.args.self.now c.pass.inside.board.value c.pass.inside.place c.pass.inside.session c.pass.inside.at.value c.pass.invariant (ap (λ v. v.board) c.pass.view_is ∙ c.requires.board) (ap (λ b. b.table.words) (sym c.self.view_is) ∙ c.self.invariant.0) in
    let was = after_slot _ _ _ _ _ home.me c.load_slot-slot.ensures.told in
    let counted = after_count g.M.Matter.right g.M.Matter.touches _ _ _ _ _ _ was.1 refl c.load_count-count.ensures.told in
    let object = after_object g.M.Matter.right g.M.Matter.touches _ _ _ _ _ _ _ _ counted.view refl c.load_object-object.ensures.told in
    let store = after_look g.M.Matter.right g.M.Matter.touches _ _ _ _ _ _ _ _ _ object.0.1 refl c.load_store-store.ensures.told in
    let place = c.args.place.now in
    let setting = c.pass.inside.board.value.origin.setting in
    let board : c.pass.inside.board.value ≡ c.args.self.now = home.same in
    let was_home : g.M.Matter.home setting (seen_of c.pass.inside.place.me.0) place = subst (λ (z : g.row.M-Setting.Denot × List g.row.M-Entry.Denot). g.M.Matter.home z.0 z.1 place) (λ i. (sym (ap (λ b. b.origin.setting) board) i, sym (ap (λ v. v.seen) c.pass.view_is) i)) c.requires.home in
    let home : g.M.Matter.home setting counted.seen place = subst (λ l. g.M.Matter.home setting l place) (sym counted.grows.1) (g.M.Matter.home_grows setting (seen_of c.pass.inside.place.me.0) counted.grows.0 place was_home) in
    let right = hit_is_right (g.M.Matter.right setting) (g.M.Matter.touches setting) counted.seen place c.load_slot-slot.result c.load_count-count.result c.load_object-object.result c.load_store-store.result c.answer-found.result
    (λ at held le ok o s. g.M.Matter.stays_right setting counted.seen at place held home le ok o s) counted.sound object.1 store.1 c.answer-found.ensures in
    subst (λ (z : g.row.M-Setting.Denot × List g.row.M-Entry.Denot). HitIsRight (g.M.Matter.right z.0 z.1 place.case) c.answer-found.result) (λ i. (ap (λ b. b.origin.setting) board i, sym (ap (λ m. seen_of m.0) store.0.1) i)) right

pub invariant_of-pass : goal.invariant_of-pass
invariant_of-pass g c =
    let home = at_home c.args.self.now c.pass.inside.board.value c.pass.inside.place c.pass.inside.session c.pass.inside.at.value c.pass.invariant (ap (λ v. v.board) c.pass.view_is ∙ c.requires.board) (ap (λ b. b.table.words) (sym c.self.view_is) ∙ c.self.invariant.0) in
    let was = after_slot _ _ _ _ _ home.me c.load_slot-slot.ensures.told in
    let counted = after_count g.M.Matter.right g.M.Matter.touches _ _ _ _ _ _ was.1 refl c.load_count-count.ensures.told in
    let object = after_object g.M.Matter.right g.M.Matter.touches _ _ _ _ _ _ _ _ counted.view refl c.load_object-object.ensures.told in
    let store = after_look g.M.Matter.right g.M.Matter.touches _ _ _ _ _ _ _ _ _ object.0.1 refl c.load_store-store.ensures.told in
    pass_ok _ _ _ _ _ _ store.0.0 (c.load_store-store.ensures.table ∙ sym (ap (λ b. b.table) home.same)) store.0.1 (sym counted.long) counted.short c.pass.invariant.numbered.0 home.first
    (prefix_through _ _ _ home.begins counted.grows)
