use Rattle.std.proofs.Common.{◌++◌, get_or, refl, sym, ◌∙◌}
use Rattle.std.proofs.lemmas.Bool.{false≢true}
use Rattle.session_wire.proofs.Answered.{head_read}
use Rattle.session_wire.proofs.ReplyTaken.{bad_takes, early_reply_takes, is_reply_frame, kind_is_none, length_is_none, more_so_far, numbers_size, other_length, part_of_kind, part_of_numbers, reply_takes, reply_was_filled, size_so_far, so_far, unknown_kind}
use Rattle.session_wire.proofs.reply_reader.take_reply.Goals as goal

pub returns-then-not-is_reply_length-clause-bytes :
    goal.returns-then-not-is_reply_length-clause-bytes
returns-then-not-is_reply_length-clause-bytes g c =
    let head = head_read c.fill.new.into c.read_u32-length.result c.fill.auto.into c.fill.ensures.fit c.read_u32-length.ensures in
    let first = so_far c.fill.result c.fill.new.into (reply_was_filled c.fill.result 0 (sym c.early_reply.ensures ∙ c.in_default.is)) c.fill.ensures.bytes c.fill.ensures.over in
    bad_takes c.fill.new.into first (length_is_none c.fill.new.into c.read_u32-length.result head (λ some. false≢true (c.if-not-is_reply_length.ensures.1 some)))

pub returns-in-Some-early_reply-clause-bytes : goal.returns-in-Some-early_reply-clause-bytes
returns-in-Some-early_reply-clause-bytes g c =
    let head = head_read c.fill.new.into c.read_u32-length.result c.fill.auto.into c.fill.ensures.fit c.read_u32-length.ensures in
    let first = so_far c.fill.result c.fill.new.into (reply_was_filled c.fill.result 0 (sym c.early_reply.ensures ∙ c.in_default.is)) c.fill.ensures.bytes c.fill.ensures.over in
    let some = c.if-not-is_reply_length.ensures.0 refl in
    early_reply_takes c.fill.new.into first c.fill-2.result c.fill-2.new.into c.in-Some-early_reply.answer 4 (sym c.fill.auto.into) (sym c.early_reply-2.ensures ∙ c.in-Some-early_reply.is)
    c.fill-2.ensures.within c.fill-2.ensures.bytes (part_of_kind c.fill.new.into c.read_u32-length.result head c.fill-2.new.into c.fill-2.auto.into some) c.fill-2.ensures.end c.fill-2.ensures.over

pub returns-in_default-count_of_kind-clause-bytes :
    goal.returns-in_default-count_of_kind-clause-bytes
returns-in_default-count_of_kind-clause-bytes g c =
    let head = head_read c.fill.new.into c.read_u32-length.result c.fill.auto.into c.fill.ensures.fit c.read_u32-length.ensures in
    let first = so_far c.fill.result c.fill.new.into (reply_was_filled c.fill.result 0 (sym c.early_reply.ensures ∙ c.in_default.is)) c.fill.ensures.bytes c.fill.ensures.over in
    let second = more_so_far c.fill.new.into first c.fill-2.result c.fill-2.new.into (reply_was_filled c.fill-2.result 4 (sym c.early_reply-2.ensures ∙ c.in_default-early_reply.is)) c.fill-2.ensures.bytes c.fill-2.ensures.over in
    let some = c.if-not-is_reply_length.ensures.0 refl in
    let other = unknown_kind (get_or c.fill-2.new.into 0 0) c.read_u32-length.result c.in_default-count_of_kind.ensures.count in
    bad_takes (c.fill.new.into ++ c.fill-2.new.into) second (kind_is_none c.fill.new.into c.read_u32-length.result head c.fill-2.new.into c.fill-2.auto.into some other)

pub returns-then-length-count-clause-bytes : goal.returns-then-length-count-clause-bytes
returns-then-length-count-clause-bytes g c =
    let head = head_read c.fill.new.into c.read_u32-length.result c.fill.auto.into c.fill.ensures.fit c.read_u32-length.ensures in
    let first = so_far c.fill.result c.fill.new.into (reply_was_filled c.fill.result 0 (sym c.early_reply.ensures ∙ c.in_default.is)) c.fill.ensures.bytes c.fill.ensures.over in
    let second = more_so_far c.fill.new.into first c.fill-2.result c.fill-2.new.into (reply_was_filled c.fill-2.result 4 (sym c.early_reply-2.ensures ∙ c.in_default-early_reply.is)) c.fill-2.ensures.bytes c.fill-2.ensures.over in
    let some = c.if-not-is_reply_length.ensures.0 refl in
    let other = other_length (get_or c.fill-2.new.into 0 0) c.read_u32-length.result c.in-Some-count_of_kind.count c.in-Some-count_of_kind.ensures.count c.if-length-count.true in
    bad_takes (c.fill.new.into ++ c.fill-2.new.into) second (kind_is_none c.fill.new.into c.read_u32-length.result head c.fill-2.new.into c.fill-2.auto.into some other)

pub returns-in-Some-early_reply-2-clause-bytes : goal.returns-in-Some-early_reply-2-clause-bytes
returns-in-Some-early_reply-2-clause-bytes g c =
    let head = head_read c.fill.new.into c.read_u32-length.result c.fill.auto.into c.fill.ensures.fit c.read_u32-length.ensures in
    let first = so_far c.fill.result c.fill.new.into (reply_was_filled c.fill.result 0 (sym c.early_reply.ensures ∙ c.in_default.is)) c.fill.ensures.bytes c.fill.ensures.over in
    let second = more_so_far c.fill.new.into first c.fill-2.result c.fill-2.new.into (reply_was_filled c.fill-2.result 4 (sym c.early_reply-2.ensures ∙ c.in_default-early_reply.is)) c.fill-2.ensures.bytes c.fill-2.ensures.over in
    let all = numbers_size c.fill-3.new.into c.read_u32-length.result c.in-Some-count_of_kind.count c.fill-3.auto.into c.in-Some-count_of_kind.ensures.few c.if-length-count.false in
    early_reply_takes (c.fill.new.into ++ c.fill-2.new.into) second c.fill-3.result c.fill-3.new.into c.in-Some-early_reply-2.answer 5
    (size_so_far c.fill.new.into c.read_u32-length.result head c.fill-2.new.into c.fill-2.auto.into) (sym c.early_reply-3.ensures ∙ c.in-Some-early_reply-2.is)
    c.fill-3.ensures.within c.fill-3.ensures.bytes
    (part_of_numbers c.fill.new.into c.read_u32-length.result head c.fill-2.new.into c.fill-2.auto.into c.fill-3.new.into (c.in-Some-count_of_kind.count, c.in-Some-count_of_kind.ensures.count, c.if-length-count.false) all)
    c.fill-3.ensures.end c.fill-3.ensures.over

pub returns-clause-bytes : goal.returns-clause-bytes
returns-clause-bytes g c =
    let head = head_read c.fill.new.into c.read_u32-length.result c.fill.auto.into c.fill.ensures.fit c.read_u32-length.ensures in
    let first = so_far c.fill.result c.fill.new.into (reply_was_filled c.fill.result 0 (sym c.early_reply.ensures ∙ c.in_default.is)) c.fill.ensures.bytes c.fill.ensures.over in
    let second = more_so_far c.fill.new.into first c.fill-2.result c.fill-2.new.into (reply_was_filled c.fill-2.result 4 (sym c.early_reply-2.ensures ∙ c.in_default-early_reply.is)) c.fill-2.ensures.bytes c.fill-2.ensures.over in
    let third = more_so_far (c.fill.new.into ++ c.fill-2.new.into) second c.fill-3.result c.fill-3.new.into (reply_was_filled c.fill-3.result 5 (sym c.early_reply-3.ensures ∙ c.in_default-early_reply-2.is)) c.fill-3.ensures.bytes c.fill-3.ensures.over in
    let all = numbers_size c.fill-3.new.into c.read_u32-length.result c.in-Some-count_of_kind.count c.fill-3.auto.into c.in-Some-count_of_kind.ensures.few c.if-length-count.false in
    reply_takes ((c.fill.new.into ++ c.fill-2.new.into) ++ c.fill-3.new.into) third c.reply_of.result
    (is_reply_frame c.fill.new.into c.read_u32-length.result head c.fill-2.new.into c.fill-2.auto.into c.fill-3.new.into c.reply_of.result all c.reply_of.ensures.numbers c.reply_of.ensures.bytes)
