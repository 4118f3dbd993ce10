use Rattle.std.proofs.Common.{rules, refl, ◌≡◌, List, length, map, sym, ap, ◌∙◌, subst, []}
use Rattle.std.proofs.lemmas.List.{map-append}
use Rattle.verdict_words.specs.Histories.{IsPrefix}
use Rattle.verdict_words.specs.Values.{PassValue, seen_of, known_of}
use Rattle.verdict_words.specs.Settling.{all_met, all_of, flat, items_of, met_of}
use Rattle.verdict_words.specs.Inner.Settling.{away, cut_as, met_held, held_of, receiving_all}
use Rattle.verdict_words.proofs.Seated.{rests, rests_seated, seat_view}
use Rattle.verdict_words.proofs.Settled.{holding, pass_view, seated_all}
use Rattle.verdict_words.proofs.Together.{resting_book, met_views, after_holding, after_giving, learned, gathered, holdable, in_range, are_met, seat_value}
use Rattle.verdict_words.proofs.Listed.{all_right, cut_flat, given_twice, holds_rolls, receiving_append, sessions_lists}
use Rattle.verdict_words.proofs.board.Board.settle.Goals as goal

pub hold_lists-requires-clause-place : goal.hold_lists-requires-clause-place
hold_lists-requires-clause-place g c = (search rules, (resting_book c.seat.inside.board.value.origin c.seat.inside.place.me c.seat.inside.next, c.seat.invariant.view))

pub receive_rolls-count-requires-clause-boards : goal.receive_rolls-count-requires-clause-boards
receive_rolls-count-requires-clause-boards g c = all_right (λ pass. pass.board ≡ c.args.self.now) (flat (items_of c.args.passes.items)) (flat c.args.unused.items) c.requires.passes

pub receive_rolls-count-requires-clause-place : goal.receive_rolls-count-requires-clause-place
receive_rolls-count-requires-clause-place g c =
    let inside = c.seat.inside in
    let m = inside.place.me in
    (c.hold_lists.ensures.place.0, (_, after_holding m c.hold_lists.new.place.me (resting_book inside.board.value.origin m inside.next) (flat (items_of c.args.passes.items)) c.seat.invariant.view c.hold_lists.ensures.place.1))

pub check_held-requires-clause-book : goal.check_held-requires-clause-book
check_held-requires-clause-book g c =
    let inside = c.seat.inside in
    let o = inside.board.value.origin in
    let m = inside.place.me in
    let lists = items_of c.args.passes.items in
    let items = all_of lists c.args.unused.items in
    let told = c.receive_rolls-count.ensures.place.1 ∙ ((λ k. (receiving_all (c.hold_lists.ensures.place.1 k).0 (flat c.args.unused.items), [])) ∙ ap (λ v. (v, [])) (sym (receiving_append (flat lists) (flat c.args.unused.items) m.0))) in
    let held = after_holding m c.receive_rolls-count.new.place.me (resting_book o m inside.next) items c.seat.invariant.view told in
    (_, held)

pub give_lists-requires-clause-held : goal.give_lists-requires-clause-held
give_lists-requires-clause-held g c =
    let inside = c.seat.inside in
    let o = inside.board.value.origin in
    let m = inside.place.me in
    let lists = items_of c.args.passes.items in
    let items = all_of lists c.args.unused.items in
    let told = c.receive_rolls-count.ensures.place.1 ∙ ((λ k. (receiving_all (c.hold_lists.ensures.place.1 k).0 (flat c.args.unused.items), [])) ∙ ap (λ v. (v, [])) (sym (receiving_append (flat lists) (flat c.args.unused.items) m.0))) in
    let held = after_holding m c.receive_rolls-count.new.place.me (resting_book o m inside.next) items c.seat.invariant.view told in
    let board : inside.board.value ≡ c.args.self.now = ap (λ v. v.board) c.seat.view_is ∙ c.requires.board in
    let known = learned g.M.Matter.session g.M.Matter.right g.M.Matter.touches _ _ (holding (resting_book o m inside.next) items) held c.check_held.ensures.told in (
      map (λ p. p.session) (map pass_view (flat c.args.unused.items)),
      record {
        book = record (holding (resting_book o m inside.next) items) { known = known.knows };
        is = known.view;
        long = c.seat.invariant.long;
        begins = subst (λ (l : List g.row.M-Entry.Denot). IsPrefix l (seen_of m.0)) (ap (λ b. b.origin.opening) board) c.seat.invariant.seated.begins;
        of = holdable g.M.Matter.session g.M.Matter.right g.M.Matter.touches _ _ c.args.self.now.origin (ap (λ b. b.origin) board) known;
        sessions_are = sessions_lists (items_of c.hold_lists.new.lists.items) lists c.args.unused.items c.hold_lists.ensures.lists;
      },
    )

pub let_go-requires-clause-held : goal.let_go-requires-clause-held
let_go-requires-clause-held g c =
    let inside = c.seat.inside in
    let o = inside.board.value.origin in
    let m = inside.place.me in
    let lists = items_of c.args.passes.items in
    let items = all_of lists c.args.unused.items in
    let told = c.receive_rolls-count.ensures.place.1 ∙ ((λ k. (receiving_all (c.hold_lists.ensures.place.1 k).0 (flat c.args.unused.items), [])) ∙ ap (λ v. (v, [])) (sym (receiving_append (flat lists) (flat c.args.unused.items) m.0))) in
    let held = after_holding m c.receive_rolls-count.new.place.me (resting_book o m inside.next) items c.seat.invariant.view told in
    let known = learned g.M.Matter.session g.M.Matter.right g.M.Matter.touches _ _ (holding (resting_book o m inside.next) items) held c.check_held.ensures.told in
    holds_rolls c.check_held.new.seat.me c.give_lists.new.place.me (record (holding (resting_book o m inside.next) items) { known = known.knows }) (items_of c.hold_lists.new.lists.items) lists c.args.unused.items c.receive_rolls-count.result
    known.view refl c.hold_lists.ensures.lists c.give_lists.ensures.place.1 c.receive_rolls-count.ensures.count

pub invariant_of-seat : goal.invariant_of-seat
invariant_of-seat g c =
    let inside = c.seat.inside in
    let o = inside.board.value.origin in
    let m = inside.place.me in
    let lists = items_of c.args.passes.items in
    let items = all_of lists c.args.unused.items in
    let told = c.receive_rolls-count.ensures.place.1 ∙ ((λ k. (receiving_all (c.hold_lists.ensures.place.1 k).0 (flat c.args.unused.items), [])) ∙ ap (λ v. (v, [])) (sym (receiving_append (flat lists) (flat c.args.unused.items) m.0))) in
    let held = after_holding m c.receive_rolls-count.new.place.me (resting_book o m inside.next) items c.seat.invariant.view told in
    let known = learned g.M.Matter.session g.M.Matter.right g.M.Matter.touches _ _ (holding (resting_book o m inside.next) items) held c.check_held.ensures.told in
    let b = record (holding (resting_book o m inside.next) items) { known = known.knows } in
    let all = given_twice c.check_held.new.seat.me c.give_lists.new.place.me c.let_go.new.place.me b _ known.view c.give_lists.ensures.place.1 c.let_go.ensures.place.1 in
    let now = after_giving c.check_held.new.seat.me c.let_go.new.place.me b items known.view refl all in
    record {
      table = search rules;
      view = rests o _ _ _ _ _ _ _ now;
      long = c.seat.invariant.long ∙ sym (ap (λ z. length (seen_of z.0)) now);
      short = c.seat.invariant.short;
      seated = rests_seated g.M.Matter.session o _ _ _ _ _ _ _ now (seated_all g.M.Matter.session o _ _ _ items (in_range g.M.Matter.session g.M.Matter.right g.M.Matter.touches inside.board.value m _ inside.next items known) c.seat.invariant.seated);
    }

pub returns-clause-passes : goal.returns-clause-passes
returns-clause-passes g c =
    let inside = c.seat.inside in
    let o = inside.board.value.origin in
    let m = inside.place.me in
    let lists = items_of c.args.passes.items in
    let items = all_of lists c.args.unused.items in
    let told = c.receive_rolls-count.ensures.place.1 ∙ ((λ k. (receiving_all (c.hold_lists.ensures.place.1 k).0 (flat c.args.unused.items), [])) ∙ ap (λ v. (v, [])) (sym (receiving_append (flat lists) (flat c.args.unused.items) m.0))) in
    let held = after_holding m c.receive_rolls-count.new.place.me (resting_book o m inside.next) items c.seat.invariant.view told in
    let known = learned g.M.Matter.session g.M.Matter.right g.M.Matter.touches _ _ (holding (resting_book o m inside.next) items) held c.check_held.ensures.told in
    let b = record (holding (resting_book o m inside.next) items) { known = known.knows } in
    let all = given_twice c.check_held.new.seat.me c.give_lists.new.place.me c.let_go.new.place.me b _ known.view c.give_lists.ensures.place.1 c.let_go.ensures.place.1 in
    let now = after_giving c.check_held.new.seat.me c.let_go.new.place.me b items known.view refl all in
    let entries = ap (λ v. v.entries) c.seat.view_is in
    let one : PassValue g.row.M-Entry.Denot g.row.M-Setting.Denot → PassValue g.row.M-Entry.Denot g.row.M-Setting.Denot = λ pass. met_of c.args.self.now (seen_of m.0) known.knows pass.session pass.trail in
    let given : items_of c.give_lists.new.lists.items ≡ map (all_met c.args.self.now (seen_of m.0) known.knows) lists = c.give_lists.ensures.lists
    ∙ ((λ i. cut_as (c.hold_lists.ensures.lists i) (map (met_held c.args.self.now (seen_of (known.view i).0) (known_of (known.view i).0)) (held_of (known.view i).0)))
    ∙ (ap (cut_as (map (map away) lists)) (met_views c.args.self.now (seen_of m.0) known.knows items ∙ map-append one (flat lists) (flat c.args.unused.items)) ∙ cut_flat away one lists (map one (flat c.args.unused.items)))) in
    given ∙ (λ i. map (all_met c.args.self.now (entries i) (sym (ap (λ z. known_of z.0) now) i)) lists)

pub returns-clause-seat : goal.returns-clause-seat
returns-clause-seat g c =
    let inside = c.seat.inside in
    let o = inside.board.value.origin in
    let m = inside.place.me in
    let lists = items_of c.args.passes.items in
    let items = all_of lists c.args.unused.items in
    let told = c.receive_rolls-count.ensures.place.1 ∙ ((λ k. (receiving_all (c.hold_lists.ensures.place.1 k).0 (flat c.args.unused.items), [])) ∙ ap (λ v. (v, [])) (sym (receiving_append (flat lists) (flat c.args.unused.items) m.0))) in
    let held = after_holding m c.receive_rolls-count.new.place.me (resting_book o m inside.next) items c.seat.invariant.view told in
    let known = learned g.M.Matter.session g.M.Matter.right g.M.Matter.touches _ _ (holding (resting_book o m inside.next) items) held c.check_held.ensures.told in
    let b = record (holding (resting_book o m inside.next) items) { known = known.knows } in
    let all = given_twice c.check_held.new.seat.me c.give_lists.new.place.me c.let_go.new.place.me b _ known.view c.give_lists.ensures.place.1 c.let_go.ensures.place.1 in
    let now = after_giving c.check_held.new.seat.me c.let_go.new.place.me b items known.view refl all in
    seat_value c.args.seat.now inside.board.value m c.let_go.new.place.me inside.next items known.knows c.seat.view_is now

pub returns-clause-each : goal.returns-clause-each
returns-clause-each g c =
    let inside = c.seat.inside in
    let o = inside.board.value.origin in
    let m = inside.place.me in
    let lists = items_of c.args.passes.items in
    let items = all_of lists c.args.unused.items in
    let told = c.receive_rolls-count.ensures.place.1 ∙ ((λ k. (receiving_all (c.hold_lists.ensures.place.1 k).0 (flat c.args.unused.items), [])) ∙ ap (λ v. (v, [])) (sym (receiving_append (flat lists) (flat c.args.unused.items) m.0))) in
    let held = after_holding m c.receive_rolls-count.new.place.me (resting_book o m inside.next) items c.seat.invariant.view told in
    let known = learned g.M.Matter.session g.M.Matter.right g.M.Matter.touches _ _ (holding (resting_book o m inside.next) items) held c.check_held.ensures.told in
    are_met g.M.Matter.session g.M.Matter.right g.M.Matter.touches inside.board.value m _ inside.next items c.args.seat.now c.seat.view_is known

pub returns-clause-known : goal.returns-clause-known
returns-clause-known g c =
    let inside = c.seat.inside in
    let o = inside.board.value.origin in
    let m = inside.place.me in
    let lists = items_of c.args.passes.items in
    let items = all_of lists c.args.unused.items in
    let told = c.receive_rolls-count.ensures.place.1 ∙ ((λ k. (receiving_all (c.hold_lists.ensures.place.1 k).0 (flat c.args.unused.items), [])) ∙ ap (λ v. (v, [])) (sym (receiving_append (flat lists) (flat c.args.unused.items) m.0))) in
    let held = after_holding m c.receive_rolls-count.new.place.me (resting_book o m inside.next) items c.seat.invariant.view told in
    let known = learned g.M.Matter.session g.M.Matter.right g.M.Matter.touches _ _ (holding (resting_book o m inside.next) items) held c.check_held.ensures.told in
    let b = record (holding (resting_book o m inside.next) items) { known = known.knows } in
    let all = given_twice c.check_held.new.seat.me c.give_lists.new.place.me c.let_go.new.place.me b _ known.view c.give_lists.ensures.place.1 c.let_go.ensures.place.1 in
    let now = after_giving c.check_held.new.seat.me c.let_go.new.place.me b items known.view refl all in
    let board : inside.board.value ≡ c.args.self.now = ap (λ v. v.board) c.seat.view_is ∙ c.requires.board in
    let here = gathered g.M.Matter.session g.M.Matter.right g.M.Matter.touches _ (holding (resting_book o m inside.next) items) items (seat_view inside.board.value inside.next m) refl refl refl refl refl known in
    rw (← board, ← ap (λ v. v.next) c.seat.view_is, ← ap (λ v. v.entries) c.seat.view_is, ← ap (λ v. v.known) c.seat.view_is, ap (λ z. known_of z.0) now) here
