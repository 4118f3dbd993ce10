use Rattle.std.proofs.Common.{◌≡◌, length, sym, ap, ◌∙◌, arith}
use Rattle.session_wire.specs.declared.filling.Filled.{Filled}
use Rattle.session_wire.specs.Inner.Taking.{faults_after_fill}
use Rattle.session_wire.proofs.Answered.{early_takes, head_and_part, head_read, over_whole, part_size, taken_whole, too_long_takes, was_filled, whole_is_answered, whole_takes}
use Rattle.session_wire.proofs.frame_reader.read_frame.Goals as goal

pub returns-then-length-gt-MOST_PAYLOAD-clause-bytes :
    goal.returns-then-length-gt-MOST_PAYLOAD-clause-bytes
returns-then-length-gt-MOST_PAYLOAD-clause-bytes g c =
    let size : length c.fill.new.into ≡ 4 = omega (arith, c.fill.auto.into, c.split_at_mut-head.ensures.front_len) in
    too_long_takes c.args.start (g.L.Link.over c.args.link.now) (g.L.Link.over c.fill.new.link) c.fill.result c.fill.new.into c.read_u32-length.result
    (was_filled c.fill.result 0 (sym c.early_answer.ensures ∙ c.in_default.is))
    (head_read c.fill.new.into c.read_u32-length.result size c.fill.ensures.fit c.read_u32-length.ensures)
    c.if-length-gt-MOST_PAYLOAD.true c.fill.ensures.bytes c.fill.ensures.over

pub returns-in-Some-early_answer-clause-bytes : goal.returns-in-Some-early_answer-clause-bytes
returns-in-Some-early_answer-clause-bytes g c =
    let size : length c.fill.new.into ≡ 4 = omega (arith, c.fill.auto.into, c.split_at_mut-head.ensures.front_len) in
    let whole = was_filled c.fill.result 0 (sym c.early_answer.ensures ∙ c.in_default.is) in
    let head = head_read c.fill.new.into c.read_u32-length.result size c.fill.ensures.fit c.read_u32-length.ensures in
    let payload = part_size c.fill-2.new.into c.split_at_mut-head.result.1.now c.read_u32-length.result c.fill-2.auto.into
    (omega (arith, c.split_at_mut-head.ensures.back_len)) in
    early_takes c.args.start (g.L.Link.over c.args.link.now) (g.L.Link.over c.fill.new.link) (g.L.Link.over c.fill-2.new.link) c.fill-2.result c.fill.new.into c.fill-2.new.into
    c.in-Some-early_answer.answer.0 c.in-Some-early_answer.answer.1 4 (sym size) (sym c.early_answer-2.ensures ∙ c.in-Some-early_answer.is) c.fill-2.ensures.within
    (taken_whole c.fill.result c.fill.new.into whole c.fill.ensures.bytes) c.fill-2.ensures.bytes (head_and_part c.fill.new.into c.fill-2.new.into c.read_u32-length.result head
    c.if-length-gt-MOST_PAYLOAD.false payload) c.fill-2.ensures.end (over_whole c.fill.result c.fill.new.into (g.L.Link.over c.args.link.now) whole c.fill.ensures.over) c.fill-2.ensures.over

pub returns-clause-bytes : goal.returns-clause-bytes
returns-clause-bytes g c =
    let size : length c.fill.new.into ≡ 4 = omega (arith, c.fill.auto.into, c.split_at_mut-head.ensures.front_len) in
    let head = head_read c.fill.new.into c.read_u32-length.result size c.fill.ensures.fit c.read_u32-length.ensures in
    let payload = part_size c.fill-2.new.into c.split_at_mut-head.result.1.now c.read_u32-length.result c.fill-2.auto.into
    (omega (arith, c.split_at_mut-head.ensures.back_len)) in
    whole_takes c.args.start (g.L.Link.over c.args.link.now) (g.L.Link.over c.fill.new.link) (g.L.Link.over c.fill-2.new.link) c.fill.result c.fill-2.result c.fill.new.into c.fill-2.new.into
    c.read_u32-length.result c.answer_to.result (was_filled c.fill.result 0 (sym c.early_answer.ensures ∙ c.in_default.is))
    (was_filled c.fill-2.result 4 (sym c.early_answer-2.ensures ∙ c.in_default-early_answer.is)) head c.if-length-gt-MOST_PAYLOAD.false payload
    c.fill.ensures.bytes c.fill-2.ensures.bytes c.fill.ensures.over c.fill-2.ensures.over c.answer_to.ensures

pub returns-clause-count : goal.returns-clause-count
returns-clause-count g c =
    let payload = part_size c.fill-2.new.into c.split_at_mut-head.result.1.now c.read_u32-length.result c.fill-2.auto.into
    (omega (arith, c.split_at_mut-head.ensures.back_len)) in
    let first = was_filled c.fill.result 0 (sym c.early_answer.ensures ∙ c.in_default.is) in
    let second = was_filled c.fill-2.result 4 (sym c.early_answer-2.ensures ∙ c.in_default-early_answer.is) in
    let told = whole_is_answered c.answer_to.result c.args.start c.fill-2.new.into (g.L.Link.left c.fill-2.new.link) (g.L.Link.over c.args.link.now) (g.L.Link.faults c.args.link.now)
    (omega (arith, payload)) c.answer_to.ensures in
    c.fill-2.ensures.count ∙ ap (λ (f : Filled). faults_after_fill f (g.L.Link.faults c.fill.new.link)) second
    ∙ c.fill.ensures.count ∙ ap (λ (f : Filled). faults_after_fill f (g.L.Link.faults c.args.link.now)) first ∙ sym told.2
