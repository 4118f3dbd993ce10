use Rattle.std.proofs.Common.{◌≡◌, ◌≢◌, ◌+◌, ◌≤◌, ◌∷◌, [], map, sym, ap, ◌∙◌, subst, arith, ℕ, List}
use Rattle.std.specs.Prelude.{All}
use Rattle.std.proofs.lemmas.List.{map-append}
use Rattle.verdict_words.specs.Values.{SeatOf, roll_of, seen_of}
use Rattle.verdict_words.proofs.Enrolled.{Enrolled, enrolled_all, enrolled_next, later_unused, new_of}
use Rattle.verdict_words.proofs.board.Board.enroll.Goals as goal

pub loop-preserved : goal.loop-preserved
loop-preserved g c =
    let i = c.loop.invariant in
    let e = c.enter.ensures in
    let fn = c.args.seat.now in
    let count = c.loop.counter in
    let seats : List (SeatOf g.row.M-Entry.Denot g.row.M-Setting.Denot) = map (λ seed. (seed.board.value, seed.place)) c.loop.seeds.items in
    let seat : SeatOf g.row.M-Entry.Denot g.row.M-Setting.Denot = (c.of.result.board.value, c.of.result.place) in
    let sum : fn.next + count + 1 ≡ fn.next + (count + 1) = omega arith in
    let pass : c.enter.result ≡ new_of c.args.self.now fn.entries fn.known (fn.next + count) = e.pass ∙ (λ k. new_of c.args.self.now (i.seat k).entries (i.seat k).known (i.seat k).next) in
    let next = enrolled_next c.args.self.now fn.next fn.entries fn.known count seats seat c.enter.result i.some pass c.of.ensures.value c.of.ensures.holds in
    let items = ap (map (λ seed. (seed.board.value, seed.place))) c.in_ok-push_back.ensures.items ∙ map-append (λ seed. (seed.board.value, seed.place)) c.loop.seeds.items (c.of.result ∷ []) in
    record {
      seat = e.seat ∙ ((λ k. record (i.seat k) { next = (i.seat k).next + 1 }) ∙ (λ k. record fn { next = sum k }));
      some = subst (Enrolled c.args.self.now fn.next fn.entries fn.known (count + 1)) (sym items) next;
    }

pub returns-clause-unused : goal.returns-clause-unused
returns-clause-unused g c =
    let i = c.loop.invariant in
    let fn = c.args.seat.now in
    let inside = c.seat.inside in
    let seats : List (SeatOf g.row.M-Entry.Denot g.row.M-Setting.Denot) = map (λ seed. (seed.board.value, seed.place)) c.loop.seeds.items in
    let number : inside.next ≡ fn.next = ap (λ v. v.next) c.seat.view_is in
    let each : (s : ℕ) → fn.next ≤ s → All (λ e. g.M.Matter.session e ≢ s) fn.entries = λ s low.
    subst (λ (l : List g.row.M-Entry.Denot). All (λ e. g.M.Matter.session e ≢ s) l) (ap (λ v. v.entries) c.seat.view_is)
    (later_unused g.M.Matter.session inside.board.value.origin (seen_of inside.place.me.0) inside.next _ s c.seat.invariant.seated (omega (arith, number, low))) in
    let all = enrolled_all (λ pass. All (λ e. g.M.Matter.session e ≢ pass.session) fn.entries) c.args.self.now fn.next fn.entries fn.known c.loop.counter (λ s low high. each s low) in
    subst (All (λ pass. All (λ e. g.M.Matter.session e ≢ pass.session) fn.entries)) (sym (ap (λ n. roll_of n seats) number ∙ i.some.is)) all
