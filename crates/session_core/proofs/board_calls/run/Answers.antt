use Rattle.std.proofs.Common.{true, false, codes}
use Rattle.verdict_words.proofs.ForCallers.{step_grows}
use Rattle.session_core.proofs.Boarding.{did_add, did_nothing, did_read, did_write, same_of}
use Rattle.session_core.proofs.board_calls.run.Goals as goal

pub returns-then-eq : goal.returns-then-eq
returns-then-eq c =
    did_read _ _ _ _ _ _ (same_of _ _ _ (codes "read") _ true c.as_slice.ensures.bytes c.as_bytes.ensures.value c.eq.ensures c.if-eq.true) c.run_read.ensures.pass (step_grows _ _ _ c.run_read.ensures.step)

pub returns-then-eq-2 : goal.returns-then-eq-2
returns-then-eq-2 c =
    did_write _ _ _ _ _ _ (same_of _ _ _ (codes "read") _ false c.as_slice.ensures.bytes c.as_bytes.ensures.value c.eq.ensures c.if-eq.false)
    (same_of _ _ _ (codes "write") _ true c.as_slice-2.ensures.bytes c.as_bytes-2.ensures.value c.eq-2.ensures c.if-eq-2.true) c.run_write.ensures.pass (step_grows _ _ _ c.run_write.ensures.step)

pub returns-then-eq-3 : goal.returns-then-eq-3
returns-then-eq-3 c =
    did_add _ _ _ _ _ _ (same_of _ _ _ (codes "read") _ false c.as_slice.ensures.bytes c.as_bytes.ensures.value c.eq.ensures c.if-eq.false)
    (same_of _ _ _ (codes "write") _ false c.as_slice-2.ensures.bytes c.as_bytes-2.ensures.value c.eq-2.ensures c.if-eq-2.false)
    (same_of _ _ _ (codes "add") _ true c.as_slice-3.ensures.bytes c.as_bytes-3.ensures.value c.eq-3.ensures c.if-eq-3.true) c.run_add.ensures.pass (step_grows _ _ _ c.run_add.ensures.step)

pub returns : goal.returns
returns c =
    did_nothing _ _ _ _ (same_of _ _ _ (codes "read") _ false c.as_slice.ensures.bytes c.as_bytes.ensures.value c.eq.ensures c.if-eq.false)
    (same_of _ _ _ (codes "write") _ false c.as_slice-2.ensures.bytes c.as_bytes-2.ensures.value c.eq-2.ensures c.if-eq-2.false)
    (same_of _ _ _ (codes "add") _ false c.as_slice-3.ensures.bytes c.as_bytes-3.ensures.value c.eq-3.ensures c.if-eq-3.false)
