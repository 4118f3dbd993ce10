use Rattle.std.proofs.Common.{◌≡◌, ◌<◌, ◌^◌, length, IsTrue}
use Rattle.std.specs.List.{list_all}
use Rattle.nal_term.specs.Names.{is_digit}
use Rattle.nal_parse.specs.Tokens.{value_of_digits, value_after}
use Rattle.nal_parse.proofs.tokens.value_of_digits.Given as goal

abbrev pub invariant-loop-first : goal.invariant-loop-first
invariant-loop-first l =
    IsTrue (list_all is_digit l.rest) × (value_after l.value l.rest ≡ value_of_digits l.digits) × (l.value < 2 ^ 64)

abbrev pub decreases-loop-first : goal.decreases-loop-first
decreases-loop-first l = length l.rest
