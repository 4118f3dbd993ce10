use Rattle.std.proofs.Common.{arith}
use Rattle.verdict_words.proofs.Opening.{filled}
use Rattle.verdict_words.proofs.board.first_words.Goals as goal

pub returns : goal.returns
returns c = let e = c.in_ok-words.ensures.len in let p = c.in_ok-push.ensures.len in
    filled c.args.count _ _ _ _ _ _ c.in_ok-words.ensures.items c.in_ok-push.ensures.items (omega arith) c.in_ok-resize.ensures.items c.in_ok-resize.ensures.len c.in_ok-resize-2.ensures.items
