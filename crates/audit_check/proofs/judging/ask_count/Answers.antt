use Rattle.std.proofs.Common.{◌≡◌, Some, length, sym, ap, ◌∙◌, refl, arith}
use Rattle.std.specs.List.{slice_get}
use Rattle.std.proofs.lemmas.Option.{slice_get_read}
use Rattle.nal_rules.specs.Faults.{is_ask}
use Rattle.audit_check.proofs.Counts.{all_taken, one_more}
use Rattle.audit_check.proofs.judging.ask_count.Goals.{then-is_ask, else-is_ask}
use Rattle.audit_check.proofs.judging.ask_count.Goals as goal

pub loop-line-preserved : goal.loop-line-preserved
loop-line-preserved c =
    let here : slice_get c.args.lines.now c.loop-line.line-index ≡ Some c.line-item.result = slice_get_read c.args.lines.now (length c.args.lines.now) c.loop-line.line-index c.line-item.result refl c.loop-line-test.true c.line-item.is in
    let more = one_more c.args.lines.now c.loop-line.line-index c.line-item.result here in
    elim c.if-is_ask.branch [
      | then-is_ask w ↦ let yes = rw (sym c.is_ask.ensures ∙ w.if-is_ask.true) at more in (omega (arith, yes, c.loop-line.invariant.0, w.count-is), omega (arith, c.loop-line.invariant.1, w.count-is))
      | else-is_ask w ↦ let no = rw (sym c.is_ask.ensures ∙ w.if-is_ask.false) at more in (omega (arith, no, c.loop-line.invariant.0, w.count-is), omega (arith, c.loop-line.invariant.1, w.count-is))
    ]

pub returns : goal.returns
returns c = c.loop-line.invariant.0 ∙ ap (λ ls. length (Rattle.std.specs.List.filter is_ask ls)) (all_taken c.args.lines.now c.loop-line.line-index c.loop-line-test.false)
