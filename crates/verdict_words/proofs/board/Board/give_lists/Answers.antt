use Rattle.std.proofs.Common.{rules, ◌≡◌, suc, ◌+◌, ◌<◌, ◌≤◌, sym, ap, ◌∙◌, subst, [], ◌++◌, length, map, take, drop, get_or, arith, List, ℕ, length-append}
use Rattle.std.proofs.lemmas.List.{drop-map, length-map}
use Rattle.verdict_words.specs.Settling.{flat, items_of}
use Rattle.verdict_words.specs.Values.{seen_of, known_of}
use Rattle.verdict_words.specs.Inner.Settling.{IsHolding, cut_as, held_of, met_held, releasing_all, sessions_of}
use Rattle.verdict_words.proofs.Settled.{later, progress, progress_end}
use Rattle.verdict_words.proofs.Listed.{cut_at, flat_next, items_at, items_next, length_cut, map_around, releasing_more}
use Rattle.verdict_words.proofs.board.Board.give_lists.Goals as goal

pub give_all-requires-clause-held : goal.give_all-requires-clause-held
give_all-requires-clause-held g c =
    let i = c.loop-i.i in
    let me = c.args.place.now.me in
    let old = items_of c.args.lists.now.items in
    let parts = map (met_held c.args.self.now (seen_of me.0) (known_of me.0)) (held_of me.0) in
    let d = c.index_mut-list.result.now in
    let each = length-map c.args.lists.now.items (λ v. v.items) in
    let within : i < length c.args.lists.now.items = search (rules, c.loop-i-test.true, c.len-i-end.ensures) in
    let low : i < length old = omega (arith, within, each) in
    let mine : d.items ≡ get_or old i d.items = items_at c.loop-i.lists.items (cut_as old parts) old i d c.loop-i.invariant.lists c.index_mut-list.ensures.value (length_cut old parts) low in
    let first = sessions_of (flat (take i old)) in
    let more = sessions_of (flat (drop (suc i) old)) ++ c.requires.held.0 in
    let holds = subst (λ (s : List ℕ). IsHolding c.args.self.now c.args.count s me) (map_around (λ pass. pass.session) old c.requires.held.0 i d.items low mine) c.requires.held.1 in
    let l = later c.args.self.now c.args.count first (sessions_of d.items ++ more) me c.loop-i.place.me (length (flat (take i old))) holds (length-map (flat (take i old)) (λ pass. pass.session)) c.loop-i.invariant.me in
    (more, l.holds)

pub loop-i-preserved : goal.loop-i-preserved
loop-i-preserved g c =
    let i = c.loop-i.i in
    let me = c.args.place.now.me in
    let held = held_of me.0 in
    let old = items_of c.args.lists.now.items in
    let f = met_held c.args.self.now (seen_of me.0) (known_of me.0) in
    let parts = map f held in
    let new = cut_as old parts in
    let d = c.index_mut-list.result.now in
    let each = length-map c.args.lists.now.items (λ v. v.items) in
    let within : i < length c.args.lists.now.items = search (rules, c.loop-i-test.true, c.len-i-end.ensures) in
    let low : i < length old = omega (arith, within, each) in
    let mine : d.items ≡ get_or old i d.items = items_at c.loop-i.lists.items new old i d c.loop-i.invariant.lists c.index_mut-list.ensures.value (length_cut old parts) low in
    let first = sessions_of (flat (take i old)) in
    let more = sessions_of (flat (drop (suc i) old)) ++ c.requires.held.0 in
    let holds = subst (λ (s : List ℕ). IsHolding c.args.self.now c.args.count s me) (map_around (λ pass. pass.session) old c.requires.held.0 i d.items low mine) c.requires.held.1 in
    let before = length (flat (take i old)) in
    let l = later c.args.self.now c.args.count first (sessions_of d.items ++ more) me c.loop-i.place.me before holds (length-map (flat (take i old)) (λ pass. pass.session)) c.loop-i.invariant.me in
    let next : i + 1 ≡ suc i = omega arith in
    let grown : before + length d.items ≡ length (flat (take (i + 1) old)) =
    ap (λ n. before + n) (ap length mine) ∙ (sym (length-append (flat (take i old)) (get_or old i d.items)) ∙ (sym (ap length (flat_next old i d.items low)) ∙ ap (λ n. length (flat (take n old))) (sym next))) in
    let now = c.give_all.new.passes in
    record {
      table = c.give_all.ensures.place.0;
      me = c.give_all.ensures.place.1 ∙ ((λ k. (releasing_all (take (length d.items) (l.held k)) (c.loop-i.invariant.me k).0, []))
          ∙ ap (λ v. (v, [])) (releasing_more held me.0 before (length d.items) (length (flat (take (i + 1) old))) grown));
      lists = items_next c.loop-i.lists.items new old i now c.loop-i.invariant.lists
          (c.give_all.ensures.passes ∙ ((λ k. take (length (mine k)) (map (met_held c.args.self.now (l.seen k) (l.known k)) (l.held k)))
          ∙ (ap (take (length (get_or old i d.items))) (sym (drop-map f before held)) ∙ sym (cut_at old parts i d.items now.items low)))) (length_cut old parts) low
          ∙ ap (progress new old) (sym next);
    }

pub returns-clause-lists : goal.returns-clause-lists
returns-clause-lists g c =
    let me = c.args.place.now.me in
    let old = items_of c.args.lists.now.items in
    let parts = map (met_held c.args.self.now (seen_of me.0) (known_of me.0)) (held_of me.0) in
    let each = length-map c.args.lists.now.items (λ v. v.items) in
    let end : length c.args.lists.now.items ≤ c.loop-i.i = search (rules, c.loop-i-test.false, c.len-i-end.ensures) in
    c.loop-i.invariant.lists ∙ progress_end (cut_as old parts) old c.loop-i.i (length_cut old parts) (omega (arith, end, each))
