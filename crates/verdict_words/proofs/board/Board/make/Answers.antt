use Rattle.std.proofs.Common.{rules, ◌≡◌, sym, ap, ◌∙◌, subst, length, ◌<◌, ◌≤◌, [], None}
use Rattle.std.specs.Prelude.{All}
use Rattle.verdict_words.specs.Words.{most_entries, first_words}
use Rattle.verdict_words.specs.Rule.{IsSeated, origin_of}
use Rattle.verdict_words.specs.Values.{seen_of, presiding}
use Rattle.verdict_words.specs.declared.views.Key.{Key}
use Rattle.verdict_words.specs.declared.views.Origin.{Origin}
use Rattle.verdict_words.proofs.Opening.{seated_first, starts}
use Rattle.verdict_words.proofs.Seated.{rests, rests_seated}
use Rattle.verdict_words.proofs.board.Board.make.Goals as goal

pub make_table-requires-clause-words : goal.make_table-requires-clause-words
make_table-requires-clause-words g c =
    let long : c.len-count.result ≡ length c.args.entries.now.items = search rules in
    c.as_slice.ensures.value ∙ (c.in_ok-words.ensures ∙ ap first_words (long ∙ ap length (ap (λ v. v.items) (sym c.of-2.ensures))))

pub invariant_of-seat : goal.invariant_of-seat
invariant_of-seat g c =
    let a = c.in_ok-words-2.ensures in
    let long : c.len-count.result ≡ length c.args.entries.now.items = search rules in
    let key : Key g.row.M-Entry.Denot g.row.M-Setting.Denot = record { setting = c.of.result; opening = c.of-2.result; first = c.args.next } in
    let origin : c.of-3.result.value.origin ≡ origin_of key = ap (λ b. b.origin) c.of-3.ensures ∙ ap origin_of a.table.2 in
    let items = ap (λ v. v.items) (sym c.of-2.ensures) in
    let now = a.seat.1 ∙ (λ i. (presiding (sym origin i) key.opening.value.items c.args.next 0 [] None [], [])) in
    let ok = subst (λ (o : Origin g.row.M-Entry.Denot g.row.M-Setting.Denot). IsSeated g.M.Matter.session o key.opening.value.items c.args.next 0) (sym origin)
    (seated_first g.M.Matter.session (origin_of key) c.requires.first (subst (All (λ e. g.M.Matter.session e < c.args.next)) items c.requires.sessions)) in record {
      table = search rules;
      view = rests c.of-3.result.value.origin _ _ _ _ _ _ _ now;
      long = long ∙ (ap length items ∙ sym (ap (λ m. length (seen_of m.0)) now));
      short = subst (λ n. n ≤ most_entries) (sym long) c.requires.short;
      seated = rests_seated g.M.Matter.session c.of-3.result.value.origin _ _ _ _ _ _ _ now ok;
    }

pub returns-clause-words : goal.returns-clause-words
returns-clause-words g c others kept =
    let key = c.in_ok-words-2.words.shared.key in
    let same = ap (λ k. k.opening.value.items) c.in_ok-words-2.ensures.table.2 ∙ ap (λ v. v.items) c.of-2.ensures in
    starts g.M.Matter.session (g.M.Matter.right key.setting.value) (g.M.Matter.touches key.setting.value) (origin_of key) others kept ∙ ap first_words (ap length same)
