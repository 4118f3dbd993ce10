use Rattle.std.proofs.Common.{◌≤◌, length, arith}
use Rattle.std.specs.Option.{option_copied}
use Rattle.proof_text.specs.Inner.Reading.{segments_after}
use Rattle.proof_text.proofs.Texts.{body_of, header_refused, body_refused, not_both, refutes, ok_gives, err_gives}
use Rattle.proof_text.proofs.read.read_spelled.Goals as goal

pub returns-then-not-is_header-clause-err : goal.returns-then-not-is_header-clause-err
returns-then-not-is_header-clause-err c =
    λ _. header_refused c.args.text.now c.next_segment.result.0.now (segments_after (option_copied c.next_segment.result.1)) c.next_segment.ensures.segments (omega arith)
    (refutes c.is_header.result _ c.is_header.ensures.1 c.if-not-is_header.true)

pub returns-clause-only : goal.returns-clause-only
returns-clause-only c =
    ok_gives c.read_lines.result _ _
    (λ p only ls h. only ls (body_of c.args.text.now c.next_segment.result.0.now (segments_after (option_copied c.next_segment.result.1)) c.next_segment.ensures.segments ls h))
    c.read_lines.ensures.only

pub returns-clause-err : goal.returns-clause-err
returns-clause-err c =
    let within : length c.args.text.now ≤ 32768 = omega arith in
    err_gives c.read_lines.result _ _
    (λ e wrong told. body_refused c.args.text.now c.next_segment.result.0.now (segments_after (option_copied c.next_segment.result.1)) c.next_segment.ensures.segments
    within (c.is_header.ensures.0 c.if-not-is_header.false) e (wrong told))
    c.read_lines.ensures.err

pub returns-clause-refused : goal.returns-clause-refused
returns-clause-refused c =
    let within : length c.args.text.now ≤ 32768 = omega arith in
    err_gives c.read_lines.result _ _
    (λ e wrong told. not_both c.args.text.now e
    (body_refused c.args.text.now c.next_segment.result.0.now (segments_after (option_copied c.next_segment.result.1)) c.next_segment.ensures.segments
    within (c.is_header.ensures.0 c.if-not-is_header.false) e (wrong told)))
    c.read_lines.ensures.err
