use Rattle.std.proofs.Common.{rules, refl, ◌≡◌, ◌∷◌, [], sym, ap, ◌∙◌, subst, ℕ, length, ◌≤◌, arith}
use Rattle.verdict_words.specs.Values.{seen_of, turn_of, lag_of, raised_of, known_of}
use Rattle.verdict_words.specs.Settling.{IsMet}
use Rattle.verdict_words.proofs.BookKept.{seated_meets}
use Rattle.verdict_words.proofs.AtHome.{at_home}
use Rattle.verdict_words.proofs.Seated.{rests, rests_seated, seat_view, after_receive, after_release}
use Rattle.verdict_words.proofs.Settled.{shown, pass_view}
use Rattle.verdict_words.proofs.Together.{learned, gathered, is_met}
use Rattle.verdict_words.proofs.board.Board.meet.Goals as goal

pub receive-requires-clause-table : goal.receive-requires-clause-table
receive-requires-clause-table g c = (search rules, (at_home c.args.self.now c.pass.inside.board.value c.pass.inside.place c.pass.inside.session c.pass.inside.at.value c.pass.invariant (ap (λ v. v.board) c.pass.view_is ∙ c.requires.pass) (ap (λ b. b.table.words) (sym c.self.view_is) ∙ c.self.invariant.0)).table)

pub receive-requires-clause-book : goal.receive-requires-clause-book
receive-requires-clause-book g c = (_, c.seat.invariant.view)

pub receive-requires-clause-pass : goal.receive-requires-clause-pass
receive-requires-clause-pass g c = (_, (at_home c.args.self.now c.pass.inside.board.value c.pass.inside.place c.pass.inside.session c.pass.inside.at.value c.pass.invariant (ap (λ v. v.board) c.pass.view_is ∙ c.requires.pass) (ap (λ b. b.table.words) (sym c.self.view_is) ∙ c.self.invariant.0)).me, refl)

pub check_held-requires-clause-book : goal.check_held-requires-clause-book
check_held-requires-clause-book g c =
    let home = at_home c.args.self.now c.pass.inside.board.value c.pass.inside.place c.pass.inside.session c.pass.inside.at.value c.pass.invariant (ap (λ v. v.board) c.pass.view_is ∙ c.requires.pass) (ap (λ b. b.table.words) (sym c.self.view_is) ∙ c.self.invariant.0) in
    let mine = shown c.args.pass _ _ _ c.pass.view_is home.me in
    let joined = after_receive _ _ _ _ (pass_view c.args.pass) c.seat.invariant.view mine c.receive.ensures.seat in
    (_, joined)

pub give_back-place-requires-clause-book : goal.give_back-place-requires-clause-book
give_back-place-requires-clause-book g c =
    let home = at_home c.args.self.now c.pass.inside.board.value c.pass.inside.place c.pass.inside.session c.pass.inside.at.value c.pass.invariant (ap (λ v. v.board) c.pass.view_is ∙ c.requires.pass) (ap (λ b. b.table.words) (sym c.self.view_is) ∙ c.self.invariant.0) in
    let mine = shown c.args.pass _ _ _ c.pass.view_is home.me in
    let joined = after_receive _ _ _ _ (pass_view c.args.pass) c.seat.invariant.view mine c.receive.ensures.seat in
    let known = learned g.M.Matter.session g.M.Matter.right g.M.Matter.touches _ _ _ joined c.check_held.ensures.told in
    (_, pass_view c.args.pass, [], known.view, refl)

pub invariant_of-seat : goal.invariant_of-seat
invariant_of-seat g c =
    let home = at_home c.args.self.now c.pass.inside.board.value c.pass.inside.place c.pass.inside.session c.pass.inside.at.value c.pass.invariant (ap (λ v. v.board) c.pass.view_is ∙ c.requires.pass) (ap (λ b. b.table.words) (sym c.self.view_is) ∙ c.self.invariant.0) in
    let mine = shown c.args.pass _ _ _ c.pass.view_is home.me in
    let joined = after_receive _ _ _ _ (pass_view c.args.pass) c.seat.invariant.view mine c.receive.ensures.seat in
    let known = learned g.M.Matter.session g.M.Matter.right g.M.Matter.touches _ _ _ joined c.check_held.ensures.told in
    let ok = known.passes 0 (pass_view c.args.pass) (omega arith) in
    let now = after_release _ _ _ _ _ known.view refl c.give_back-place.ensures.seat in
    let o = c.seat.inside.board.value.origin in record {
      table = search rules;
      view = rests o _ _ _ _ _ _ _ now;
      long = c.seat.invariant.long ∙ sym (ap (λ m. length (seen_of m.0)) now);
      short = c.seat.invariant.short;
      seated = rests_seated g.M.Matter.session o _ _ _ _ _ _ _ now (seated_meets g.M.Matter.session o _ _ _ _ c.seat.invariant.seated ok.above ok.below);
    }

pub returns-clause-seen : goal.returns-clause-seen
returns-clause-seen g c =
    let home = at_home c.args.self.now c.pass.inside.board.value c.pass.inside.place c.pass.inside.session c.pass.inside.at.value c.pass.invariant (ap (λ v. v.board) c.pass.view_is ∙ c.requires.pass) (ap (λ b. b.table.words) (sym c.self.view_is) ∙ c.self.invariant.0) in
    let mine = shown c.args.pass _ _ _ c.pass.view_is home.me in
    let joined = after_receive _ _ _ _ (pass_view c.args.pass) c.seat.invariant.view mine c.receive.ensures.seat in
    let known = learned g.M.Matter.session g.M.Matter.right g.M.Matter.touches _ _ _ joined c.check_held.ensures.told in
    let o = c.seat.inside.board.value.origin in
    let m = c.seat.inside.place.me in
    let is : IsMet g.M.Matter.session c.args.seat.now c.args.pass = subst (λ z. IsMet g.M.Matter.session z c.args.pass) c.seat.view_is
    (is_met g.M.Matter.session g.M.Matter.right g.M.Matter.touches c.seat.inside.board.value (seen_of m.0) c.seat.inside.next (turn_of m.0) (lag_of m.0) (raised_of m.0) (known_of m.0) _ c.args.pass refl refl refl refl (known.passes 0 (pass_view c.args.pass) (omega arith))) in
    is.seen

pub returns-clause-own : goal.returns-clause-own
returns-clause-own g c =
    let home = at_home c.args.self.now c.pass.inside.board.value c.pass.inside.place c.pass.inside.session c.pass.inside.at.value c.pass.invariant (ap (λ v. v.board) c.pass.view_is ∙ c.requires.pass) (ap (λ b. b.table.words) (sym c.self.view_is) ∙ c.self.invariant.0) in
    let mine = shown c.args.pass _ _ _ c.pass.view_is home.me in
    let joined = after_receive _ _ _ _ (pass_view c.args.pass) c.seat.invariant.view mine c.receive.ensures.seat in
    let known = learned g.M.Matter.session g.M.Matter.right g.M.Matter.touches _ _ _ joined c.check_held.ensures.told in
    let o = c.seat.inside.board.value.origin in
    let m = c.seat.inside.place.me in
    let is : IsMet g.M.Matter.session c.args.seat.now c.args.pass = subst (λ z. IsMet g.M.Matter.session z c.args.pass) c.seat.view_is
    (is_met g.M.Matter.session g.M.Matter.right g.M.Matter.touches c.seat.inside.board.value (seen_of m.0) c.seat.inside.next (turn_of m.0) (lag_of m.0) (raised_of m.0) (known_of m.0) _ c.args.pass refl refl refl refl (known.passes 0 (pass_view c.args.pass) (omega arith))) in
    is.own_entries

pub returns-clause-session : goal.returns-clause-session
returns-clause-session g c =
    let home = at_home c.args.self.now c.pass.inside.board.value c.pass.inside.place c.pass.inside.session c.pass.inside.at.value c.pass.invariant (ap (λ v. v.board) c.pass.view_is ∙ c.requires.pass) (ap (λ b. b.table.words) (sym c.self.view_is) ∙ c.self.invariant.0) in
    let mine = shown c.args.pass _ _ _ c.pass.view_is home.me in
    let joined = after_receive _ _ _ _ (pass_view c.args.pass) c.seat.invariant.view mine c.receive.ensures.seat in
    let known = learned g.M.Matter.session g.M.Matter.right g.M.Matter.touches _ _ _ joined c.check_held.ensures.told in
    let o = c.seat.inside.board.value.origin in
    let m = c.seat.inside.place.me in
    let is : IsMet g.M.Matter.session c.args.seat.now c.args.pass = subst (λ z. IsMet g.M.Matter.session z c.args.pass) c.seat.view_is
    (is_met g.M.Matter.session g.M.Matter.right g.M.Matter.touches c.seat.inside.board.value (seen_of m.0) c.seat.inside.next (turn_of m.0) (lag_of m.0) (raised_of m.0) (known_of m.0) _ c.args.pass refl refl refl refl (known.passes 0 (pass_view c.args.pass) (omega arith))) in
    let some = c.seat.invariant.seated.counted in
    let board : c.seat.inside.board.value ≡ c.args.self.now = ap (λ v. v.board) c.seat.view_is ∙ c.requires.board in
    let low : c.seat.inside.board.value.origin.first ≤ c.args.pass.session = (known.passes 0 (pass_view c.args.pass) (omega arith)).above in
    (subst (λ (n : ℕ). n ≤ c.args.pass.session) (ap (λ b. b.origin.first) board) low, is.below, omega arith)

pub returns-clause-known : goal.returns-clause-known
returns-clause-known g c =
    let home = at_home c.args.self.now c.pass.inside.board.value c.pass.inside.place c.pass.inside.session c.pass.inside.at.value c.pass.invariant (ap (λ v. v.board) c.pass.view_is ∙ c.requires.pass) (ap (λ b. b.table.words) (sym c.self.view_is) ∙ c.self.invariant.0) in
    let mine = shown c.args.pass _ _ _ c.pass.view_is home.me in
    let joined = after_receive _ _ _ _ (pass_view c.args.pass) c.seat.invariant.view mine c.receive.ensures.seat in
    let known = learned g.M.Matter.session g.M.Matter.right g.M.Matter.touches _ _ _ joined c.check_held.ensures.told in
    let now = after_release _ _ _ _ _ known.view refl c.give_back-place.ensures.seat in
    let board : c.seat.inside.board.value ≡ c.args.self.now = ap (λ v. v.board) c.seat.view_is ∙ c.requires.board in
    let here = gathered g.M.Matter.session g.M.Matter.right g.M.Matter.touches _ _ (c.args.pass ∷ []) (seat_view c.seat.inside.board.value c.seat.inside.next c.seat.inside.place.me) refl refl refl refl refl known in
    rw (← board, ← ap (λ v. v.next) c.seat.view_is, ← ap (λ v. v.entries) c.seat.view_is, ← ap (λ v. v.known) c.seat.view_is, ap (λ m. known_of m.0) now) here
