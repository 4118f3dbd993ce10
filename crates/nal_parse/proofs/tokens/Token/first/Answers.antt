use Rattle.std.proofs.Common.{sym}
use Rattle.nal_parse.proofs.Words.{run_is_word}
use Rattle.nal_parse.proofs.tokens.Token.first.Goals as goal

pub of_word-requires : goal.of_word-requires
of_word-requires c =
    rw (c.split_at.ensures.front, c.run_length.ensures.length) (run_is_word c.args.text.now c.in-Some.first.now c.in-Some.rest.now c.in-Some.ensures.cases.0 (sym c.if-is_letter.ensures))
