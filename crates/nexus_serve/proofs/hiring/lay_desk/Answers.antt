use Rattle.std.proofs.Common.{refl}
use Rattle.nexus_serve.proofs.Numbering.{laid_enrolled}
use Rattle.nexus_serve.proofs.hiring.lay_desk.Goals as goal

pub returns-clause-laid : goal.returns-clause-laid
returns-clause-laid g c =
    let roll = rw (c.requires.first) at c.in_ok-roll.ensures.roll in
    laid_enrolled c.args.board.now c.args.first c.args.book.now.entries c.args.book.now.known c.args.sessions _ refl roll c.in_ok-roll.ensures.unused
