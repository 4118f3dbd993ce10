use Rattle.std.proofs.Common.{rules, ◌≡◌, suc, ◌+◌, ◌<◌, sym, ap, ◌∙◌, subst, [], length, map, take, get_or, arith}
use Rattle.std.specs.Prelude.{All}
use Rattle.std.proofs.lemmas.List.{length-map, get_or-map}
use Rattle.verdict_words.specs.Settling.{flat, items_of}
use Rattle.verdict_words.specs.Inner.Settling.{away, receiving_all}
use Rattle.verdict_words.proofs.Settled.{holding, received, progress}
use Rattle.verdict_words.proofs.Listed.{all_at, flat_next, items_at, items_next, receiving_append}
use Rattle.verdict_words.proofs.board.Board.hold_lists.Goals as goal

pub hold_all-requires-clause-boards : goal.hold_all-requires-clause-boards
hold_all-requires-clause-boards g c =
    let i = c.loop-i.i in
    let old = items_of c.args.lists.now.items in
    let d = c.index_mut-list.result.now in
    let each = length-map c.args.lists.now.items (λ v. v.items) in
    let low : i < length c.args.lists.now.items = search (rules, c.loop-i-test.true, c.len-i-end.ensures) in
    let mine = items_at c.loop-i.lists.items (map (map away) old) old i d c.loop-i.invariant.lists c.index_mut-list.ensures.value (length-map old (map away)) (omega (arith, low, each)) in
    subst (All (λ pass. pass.board ≡ c.args.self.now)) (sym mine) (all_at (λ pass. pass.board ≡ c.args.self.now) old i d.items (omega (arith, low, each)) c.requires.boards)

pub hold_all-requires-clause-place : goal.hold_all-requires-clause-place
hold_all-requires-clause-place g c =
    let b = c.requires.place.1 in
    let some = flat (take c.loop-i.i (items_of c.args.lists.now.items)) in
    (c.loop-i.invariant.table, (holding b.0 some, c.loop-i.invariant.me ∙ ((λ k. (receiving_all (b.1 k).0 some, [])) ∙ ap (λ v. (v, [])) (received b.0 some))))

pub loop-i-preserved : goal.loop-i-preserved
loop-i-preserved g c =
    let i = c.loop-i.i in
    let me = c.args.place.now.me in
    let old = items_of c.args.lists.now.items in
    let new = map (map away) old in
    let d = c.index_mut-list.result.now in
    let each = length-map c.args.lists.now.items (λ v. v.items) in
    let within : i < length c.args.lists.now.items = search (rules, c.loop-i-test.true, c.len-i-end.ensures) in
    let low : i < length old = omega (arith, within, each) in
    let same = length-map old (map away) in
    let next : i + 1 ≡ suc i = omega arith in
    let mine : d.items ≡ get_or old i d.items = items_at c.loop-i.lists.items new old i d c.loop-i.invariant.lists c.index_mut-list.ensures.value same low in
    let now = c.hold_all.new.passes in
    record {
      table = c.hold_all.ensures.place.0;
      me = c.hold_all.ensures.place.1 ∙ ((λ k. (receiving_all (c.loop-i.invariant.me k).0 (mine k), []))
          ∙ (ap (λ v. (v, [])) (sym (receiving_append (flat (take i old)) (get_or old i d.items) me.0)) ∙ ((λ k. (receiving_all me.0 (sym (flat_next old i d.items low) k), []))
          ∙ (λ k. (receiving_all me.0 (flat (take (sym next k) old)), [])))));
      lists = items_next c.loop-i.lists.items new old i now c.loop-i.invariant.lists (c.hold_all.ensures.passes ∙ (ap (map away) mine ∙ sym (get_or-map (map away) old i d.items now.items low))) same low
          ∙ ap (progress new old) (sym next);
    }
