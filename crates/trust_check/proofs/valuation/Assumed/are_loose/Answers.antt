use Rattle.std.proofs.Common.{Contains, All, take_all, refl, sym, subst, arith}
use Rattle.std.proofs.lemmas.List.Elements.{All-more}
use Rattle.trust_check.proofs.valuation.Assumed.are_loose.Goals as goal

pub returns-then-not-is_loose : goal.returns-then-not-is_loose
returns-then-not-is_loose c = (
  λ t. absurd (cc t),
  λ all.
      let here = subst (Contains c.args.self.now.loose.now) (sym c.name-item.is) (all c.loop-name.name-index c.name-item.result c.loop-name-test.true) in
      let t = c.is_loose.ensures.1 here in
      let f = c.if-not-is_loose.true in
      cc (t, f),
)

pub loop-name-preserved : goal.loop-name-preserved
loop-name-preserved c =
    let loose = Contains c.args.self.now.loose.now in
    All-more loose c.args.names.now c.loop-name.name-index c.name-item.result c.loop-name-test.true c.loop-name.invariant
    (subst loose c.name-item.is (c.is_loose.ensures.0 c.if-not-is_loose.false))

pub returns : goal.returns
returns c =
    let loose = Contains c.args.self.now.loose.now in
    (λ t. subst (All loose) (take_all c.loop-name.name-index c.args.names.now (omega (arith, c.loop-name-test.false))) c.loop-name.invariant, λ all. refl)
