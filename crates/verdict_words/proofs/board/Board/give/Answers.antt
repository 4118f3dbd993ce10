use Rattle.std.proofs.Common.{◌≡◌, ◌≤◌, sym, ap, ◌∙◌, subst, arith, List, ℕ}
use Rattle.std.specs.Prelude.{All}
use Rattle.verdict_words.specs.Histories.{IsPrefix}
use Rattle.verdict_words.proofs.AtHome.{pass_ok}
use Rattle.verdict_words.proofs.Settled.{first_held, gave_me, gave_value}
use Rattle.verdict_words.proofs.board.Board.give.Goals as goal

pub give_back-requires-clause-book : goal.give_back-requires-clause-book
give_back-requires-clause-book g c =
    let h = c.requires.held.1 in
    let f = first_held _ _ h.book.held h.sessions_are in
    (h.book, f.0, f.1, h.is, f.2)

pub invariant_of-pass : goal.invariant_of-pass
invariant_of-pass g c =
    let h = c.requires.held.1 in
    let f = first_held _ _ h.book.held h.sessions_are in
    let of : c.of.result.value ≡ c.args.self.now = c.of.ensures in
    let all = subst (All (λ p. (p.origin ≡ c.args.self.now.origin) × (c.args.self.now.origin.first ≤ p.session))) f.2 h.of in
    let mine = all 0 f.0 (omega arith) in
    let session : c.pass.inside.session ≡ f.0.session = ap (λ v. v.session) c.pass.view_is ∙ f.3 in
    let now = gave_me c.of.result.value c.pass.inside.session _ _ h.book f.0 f.1 h.is f.2 (mine.0 ∙ sym (ap (λ b. b.origin) of)) session c.give_back.ensures.pass in
    pass_ok _ _ _ _ _ _ _ (c.give_back.ensures.table.1 ∙ sym (ap (λ b. b.table) of)) now h.long c.requires.short c.pass.invariant.numbered.0
    (subst (λ (z : ℕ × ℕ). z.0 ≤ z.1) (λ i. (ap (λ b. b.origin.first) (sym of) i, sym session i)) mine.1)
    (subst (λ (l : List g.row.M-Entry.Denot). IsPrefix l h.book.history) (ap (λ b. b.origin.opening) (sym of)) h.begins)

pub returns-clause-place : goal.returns-clause-place
returns-clause-place g c = (c.give_back.ensures.table.0, c.give_back.ensures.seat)

pub returns-clause-pass : goal.returns-clause-pass
returns-clause-pass g c =
    let h = c.requires.held.1 in
    let f = first_held _ _ h.book.held h.sessions_are in
    let of : c.of.result.value ≡ c.args.self.now = c.of.ensures in
    let all = subst (All (λ p. (p.origin ≡ c.args.self.now.origin) × (c.args.self.now.origin.first ≤ p.session))) f.2 h.of in
    let mine = all 0 f.0 (omega arith) in
    let session : c.pass.inside.session ≡ f.0.session = ap (λ v. v.session) c.pass.view_is ∙ f.3 in
    let now = gave_me c.of.result.value c.pass.inside.session _ _ h.book f.0 f.1 h.is f.2 (mine.0 ∙ sym (ap (λ b. b.origin) of)) session c.give_back.ensures.pass in
    gave_value c.args.self.now c.of.result.value c.pass.inside.session _ _ h.book f.0 f.1 of h.is f.2 session now
