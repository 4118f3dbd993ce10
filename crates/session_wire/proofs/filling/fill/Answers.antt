use Rattle.std.proofs.Common.{◌≡◌, ◌+◌, ◌-◌, ◌++◌, ℕ, List, length, take, sym, ap, ◌∙◌, subst, arith}
use Rattle.std.proofs.lemmas.List.{length-take-le}
use Rattle.std.proofs.Math.Facts.{Fits-lt-pow}
use borrow.Rule.Slice.PartMut.{put_mid}
use Rattle.session_wire.specs.Answers.{over_after_taking}
use Rattle.session_wire.specs.Inner.Taking.{Takes}
use Rattle.session_wire.proofs.Taking.{filled-more, filled-within, going-then, origin-then, over-ends, takes-then}
use Rattle.session_wire.proofs.filling.fill.Goals as goal

pub loop-done-preserved : goal.loop-done-preserved
loop-done-preserved g c =
    let kept = c.loop-done.invariant in
    let more = c.in-Bytes.ensures in
    let done = c.loop-done.done in
    let n = c.in-Bytes.count in
    let into = c.loop-done.into in
    let part = c.take.new.into in
    let front : take (done + n) (put_mid done (length into - done) into part) ≡ take done into ++ take n part = filled-more into part done n kept.within in
    record {
      fit = λ i. Fits-lt-pow (c.type_inv.into i);
      within = filled-within into part done n kept.within c.take.auto.into more.within.1;
      bytes = subst (λ (xs : List ℕ). Takes (g.L.Link.left c.args.link.now) (g.L.Link.left c.take.new.self) (g.L.Link.taken c.args.link.now) (g.L.Link.taken c.take.new.self) xs) (sym front)
          (takes-then kept.bytes (record { taken_is = more.taken; left_is = more.bytes }));
      over = more.over ∙ sym (ap (λ (xs : List ℕ). over_after_taking xs (g.L.Link.over c.args.link.now)) front
          ∙ over-ends (take done into) (take n part) (g.L.Link.over c.args.link.now) (omega (arith, length-take-le n part more.within.1, more.within.0)));
      going = going-then kept.going more.going;
      origin = origin-then kept.origin more.origin;
      admitted = more.admitted ∙ kept.admitted;
      count = more.count ∙ kept.count;
    }
