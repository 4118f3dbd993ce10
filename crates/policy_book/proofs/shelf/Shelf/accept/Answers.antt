use Rattle.std.proofs.Common.{◌≡◌, List, length, false, refl, sym, ap, ◌∙◌, subst, arith}
use Rattle.std.specs.declared.option.Option.{Option}
use Rattle.policy_history.specs.declared.events.Entry.{Entry}
use Rattle.policy_history.specs.declared.heads.Head.{Head}
use Rattle.policy_history.specs.Events.{event_tree}
use Rattle.verdict_words.specs.Values.{Identity}
use Rattle.policy_book.specs.Access.{HasMet}
use Rattle.policy_book.specs.Books.{decided_at}
use Rattle.policy_book.specs.Inner.Kept.{HasPenned, IsPenIn, IsShelved}
use Rattle.policy_book.specs.declared.pens.Pen.{Pen}
use Rattle.policy_book.proofs.Accessing.{has_met}
use Rattle.policy_book.proofs.shelf.Shelf.accept.Goals as goal

pub returns-clause-begun : goal.returns-clause-begun
returns-clause-begun g c =
    let seated = c.self.inside.seated in
    let reserved = c.reserve.new.self in
    let board = c.args.board.now in
    let met = c.meet-pass.result in
    let pen = c.in-Some.pen in
    let same : seated.board ≡ board = cc (c.self.invariant.0, c.requires.board) in
    let of_board : reserved.board ≡ board = ap (λ s. s.board) c.reserve.ensures.seated ∙ same in
    let entries : reserved.entries ≡ seated.entries = ap (λ s. s.entries) c.reserve.ensures.seated in
    let seen : met.seen ≡ reserved.entries = ap (λ p. p.seen) c.meet-pass.ensures.pass in
    let of_view : seated.entries ≡ c.args.self.now.seated.entries = ap (λ v. v.seated.entries) c.self.view_is in
    let has : HasMet board reserved.entries c.args.pass met = subst (λ (b : Identity Entry Head). HasMet b reserved.entries c.args.pass met) of_board
    (has_met reserved.board _ _ _ _ _ _ c.meet-pass.ensures.pass c.meet-pass.ensures.met c.meet-pass.ensures.known) in
    let there : HasMet board met.seen c.args.pass met = subst (λ (es : List Entry). HasMet board es c.args.pass met) (sym seen) has in
    let session = ap (λ p. p.session) c.meet-pass.ensures.pass in
    let shelved = subst (λ (p : Option (Pen g.row.K.Denot)). IsShelved {K = g.row.K.Denot} g.K.Sink.sent g.K.Sink.synced g.K.Sink.faults g.N.BookNaming.start g.N.BookNaming.start_faults seated c.self.inside.tickets.total c.self.inside.turns.total p) (sym c.in-Some.ensures.value) c.self.invariant.2 in
    let unbroken = subst (λ (p : Option (Pen g.row.K.Denot)). IsPenIn {K = g.row.K.Denot} false p) (sym (ap (λ v. v.pen) c.self.view_is) ∙ sym c.in-Some.ensures.value) c.requires.unbroken in
    let long = ap (λ (es : List Entry). length es) (seen ∙ entries ∙ of_view) in (
      record {
        pass = ap (λ p. p.board) there.pass_is;
        principal = c.requires.principal;
        fewer = omega (arith, long, c.requires.fewer);
        bytes = c.requires.accepted.0;
        accepted = (λ i. decided_at board ((seen ∙ entries ∙ of_view) i) (session i) c.args.principal c.args.event) ∙ c.requires.accepted.1;
        spare = ap event_tree c.in-Ok.ensures.spare;
      },
      record { next = there.next; met = there.met; pass_is = there.pass_is; knows = there.knows; same = (refl, refl) },
      unbroken,
      subst (λ (es : List Entry). HasPenned {K = g.row.K.Denot} g.K.Sink.sent g.K.Sink.synced g.K.Sink.faults board es pen) (sym (seen ∙ entries))
          (subst (λ (b : Identity Entry Head). HasPenned {K = g.row.K.Denot} g.K.Sink.sent g.K.Sink.synced g.K.Sink.faults b seated.entries pen) same shelved.0),
      shelved.1,
    )
