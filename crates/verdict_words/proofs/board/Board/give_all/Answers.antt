use Rattle.std.proofs.Common.{rules, ◌≡◌, suc, ◌+◌, ◌<◌, ◌≤◌, sym, ap, ◌∙◌, [], length, map, take, get_or, set, arith}
use Rattle.std.proofs.lemmas.List.{length-map, length-take-le}
use Rattle.verdict_words.specs.Inner.Steps.{releasing}
use Rattle.verdict_words.specs.Values.{seen_of, known_of}
use Rattle.verdict_words.specs.Inner.Settling.{met_held, releasing_all, held_of}
use Rattle.verdict_words.proofs.Settled.{next, many_held, releasing_next, progress, progress_at, progress_next, progress_end}
use Rattle.verdict_words.proofs.board.Board.give_all.Goals as goal

pub give-requires-clause-held : goal.give-requires-clause-held
give-requires-clause-held g c =
    let i = c.loop-i.i in
    let items = c.args.passes.now.items in
    let d = c.index_mut-pass.result.now in
    let me = c.args.place.now.me in
    let all = map (met_held c.args.self.now (seen_of me.0) (known_of me.0)) (held_of me.0) in
    let new = take (length items) all in
    let low : i < length items = search (rules, c.loop-i-test.true, c.len-i-end.ensures) in
    let many = many_held c.args.self.now c.args.count items c.requires.held.0 me c.requires.held.1 in
    let each = length-map (held_of me.0) (met_held c.args.self.now (seen_of me.0) (known_of me.0)) in
    let same : length new ≡ length items = length-take-le (length items) all (omega (arith, many, each)) in
    let mine : d ≡ get_or items i d = c.index_mut-pass.ensures.value ∙ (ap (λ l. get_or l i d) c.loop-i.invariant.2 ∙ progress_at new items i d same low) in
    let n = next c.args.self.now c.args.count i items c.requires.held.0 d me c.loop-i.place.me c.requires.held.1 c.loop-i.invariant.1 low mine in
    (n.rest_then, n.holds)

pub loop-i-preserved : goal.loop-i-preserved
loop-i-preserved g c =
    let i = c.loop-i.i in
    let items = c.args.passes.now.items in
    let d = c.index_mut-pass.result.now in
    let me = c.args.place.now.me in
    let held = held_of me.0 in
    let all = map (met_held c.args.self.now (seen_of me.0) (known_of me.0)) held in
    let new = take (length items) all in
    let low : i < length items = search (rules, c.loop-i-test.true, c.len-i-end.ensures) in
    let many = many_held c.args.self.now c.args.count items c.requires.held.0 me c.requires.held.1 in
    let each = length-map held (met_held c.args.self.now (seen_of me.0) (known_of me.0)) in
    let same : length new ≡ length items = length-take-le (length items) all (omega (arith, many, each)) in
    let mine : d ≡ get_or items i d = c.index_mut-pass.ensures.value ∙ (ap (λ l. get_or l i d) c.loop-i.invariant.2 ∙ progress_at new items i d same low) in
    let n = next c.args.self.now c.args.count i items c.requires.held.0 d me c.loop-i.place.me c.requires.held.1 c.loop-i.invariant.1 low mine in
    let up : i + 1 ≡ suc i = omega arith in
    let below : i < length held = omega (arith, many, low) in (
      c.give.ensures.place.0,
      c.give.ensures.place.1 ∙ ((λ k. (releasing (c.loop-i.invariant.1 k).0, [])) ∙ (ap (λ v. (v, [])) (sym (releasing_next held me.0 i below)) ∙ (λ k. (releasing_all (take (sym up k) held) me.0, [])))),
      (λ k. set (c.loop-i.invariant.2 k) i (n.pass c.give.new.pass c.give.ensures.pass k)) ∙ (progress_next new items i d same low ∙ ap (progress new items) (sym up)),
    )

pub returns-clause-place : goal.returns-clause-place
returns-clause-place g c =
    let held = held_of c.args.place.now.me.0 in
    let same : c.loop-i.i ≡ length c.args.passes.now.items = search (rules, c.loop-i-test.false, c.len-i-end.ensures, c.loop-i.auto.i-end) in
    (c.loop-i.invariant.0, c.loop-i.invariant.1 ∙ ap (λ n. (releasing_all (take n held) c.args.place.now.me.0, [])) same)

pub returns-clause-passes : goal.returns-clause-passes
returns-clause-passes g c =
    let items = c.args.passes.now.items in
    let me = c.args.place.now.me in
    let all = map (met_held c.args.self.now (seen_of me.0) (known_of me.0)) (held_of me.0) in
    let many = many_held c.args.self.now c.args.count items c.requires.held.0 me c.requires.held.1 in
    let each = length-map (held_of me.0) (met_held c.args.self.now (seen_of me.0) (known_of me.0)) in
    let end : length items ≤ c.loop-i.i = search (rules, c.loop-i-test.false, c.len-i-end.ensures) in
    c.loop-i.invariant.2 ∙ progress_end (take (length items) all) items c.loop-i.i (length-take-le (length items) all (omega (arith, many, each))) end
