use Rattle.std.proofs.Common.{refl, arith}
use Rattle.journal_text.proofs.PolicyReading.{head_line_wrong, head_text_some, header_leads, header_text_some, header_wrong, leads_more, some_length}
use Rattle.journal_text.proofs.policy_heads.read_head.Goals as goal

pub returns-then-not-is_header-clause-err : goal.returns-then-not-is_header-clause-err
returns-then-not-is_header-clause-err c =
    let h = rw c.first_line.ensures.line at c.if-not-is_header.ensures in
    header_wrong c.args.text.now (λ e. let t = h.1 e in cc)

pub loop-line-init : goal.loop-line-init
loop-line-init c =
    let h = rw c.first_line.ensures.line at c.if-not-is_header.ensures in
    let s = c.first_line.ensures.shorter (some_length c.args.text.now (header_text_some c.args.text.now (h.0 refl))) in
    record {
      led = rw (c.new.ensures, c.new-2.ensures) (header_leads c.args.text.now c.first_line.result.1.now (h.0 refl) c.first_line.ensures.rest);
      fewer = omega (arith, s);
    }

pub returns-in-Err-Bad-clause-err : goal.returns-in-Err-Bad-clause-err
returns-in-Err-Bad-clause-err c =
    let is = rw c.first_line-in-loop-line.ensures.line at c.if-not-is_head_line.ensures in
    let bad = rw (c.in-Err-Bad.field-0-is, c.first_line-in-loop-line.ensures.line) at c.in-Err-Bad.ensures.bad in
    head_line_wrong c.loop-line.invariant.led (is.0 refl) (bad refl)

pub loop-line-preserved : goal.loop-line-preserved
loop-line-preserved c =
    let is = rw c.first_line-in-loop-line.ensures.line at c.if-not-is_head_line.ensures in
    let some = head_text_some c.loop-line.rest.now (is.0 refl) in
    let s = c.first_line-in-loop-line.ensures.shorter (some_length c.loop-line.rest.now some) in
    let follows = rw c.first_line-in-loop-line.ensures.line at c.in-Ok.ensures.ok in
    record {
      led = rw c.first_line-in-loop-line.ensures.rest (leads_more c.loop-line.invariant.led some follows);
      fewer = omega (arith, s, c.loop-line.invariant.fewer);
    }
