use Rattle.std.proofs.Common.{rules, ◌≡◌, suc, ◌+◌, ◌<◌, ◌≤◌, sym, ap, ◌∙◌, [], length, map, take, get_or, set, arith}
use Rattle.std.proofs.lemmas.List.{length-map, get_or-map, take_all}
use Rattle.verdict_words.specs.Inner.Steps.{receiving}
use Rattle.verdict_words.specs.Inner.Settling.{view_of, away, receiving_all}
use Rattle.verdict_words.proofs.Settled.{holding, received, receiving_next, progress, progress_at, progress_next, progress_end}
use Rattle.verdict_words.proofs.board.Board.hold_all.Goals as goal

pub hold-requires-clause-place : goal.hold-requires-clause-place
hold-requires-clause-place g c =
    let b = c.requires.place.1 in
    let some = take c.loop-i.i c.args.passes.now.items in
    (c.loop-i.invariant.0, (holding b.0 some, c.loop-i.invariant.1 ∙ ((λ k. (receiving_all (b.1 k).0 some, [])) ∙ ap (λ v. (v, [])) (received b.0 some))))

pub loop-i-preserved : goal.loop-i-preserved
loop-i-preserved g c =
    let i = c.loop-i.i in
    let items = c.args.passes.now.items in
    let d = c.index_mut-pass.result.now in
    let low : i < length items = search (rules, c.loop-i-test.true, c.len-i-end.ensures) in
    let next : i + 1 ≡ suc i = omega arith in
    let same = length-map items away in
    let mine : d ≡ get_or items i d = c.index_mut-pass.ensures.value ∙ (ap (λ l. get_or l i d) c.loop-i.invariant.2 ∙ progress_at (map away items) items i d same low) in (
      c.hold.ensures.place.0,
      c.hold.ensures.place.1 ∙ ((λ k. (receiving (c.loop-i.invariant.1 k).0 (view_of (mine k)), []))
          ∙ (ap (λ v. (v, [])) (sym (receiving_next c.args.place.now.me.0 items i d low)) ∙ (λ k. (receiving_all c.args.place.now.me.0 (take (sym next k) items), [])))),
      (λ k. set (c.loop-i.invariant.2 k) i ((c.hold.ensures.pass ∙ (ap away mine ∙ sym (get_or-map away items i d (away d) low))) k))
          ∙ (progress_next (map away items) items i (away d) same low ∙ ap (progress (map away items) items) (sym next)),
    )

pub returns-clause-place : goal.returns-clause-place
returns-clause-place g c =
    let items = c.args.passes.now.items in
    let all : length items ≤ c.loop-i.i = search (rules, c.loop-i-test.false, c.len-i-end.ensures) in
    (c.loop-i.invariant.0, c.loop-i.invariant.1 ∙ ap (λ l. (receiving_all c.args.place.now.me.0 l, [])) (take_all c.loop-i.i items all))

pub returns-clause-passes : goal.returns-clause-passes
returns-clause-passes g c =
    let items = c.args.passes.now.items in
    let all : length items ≤ c.loop-i.i = search (rules, c.loop-i-test.false, c.len-i-end.ensures) in
    c.loop-i.invariant.2 ∙ progress_end (map away items) items c.loop-i.i (length-map items away) all
