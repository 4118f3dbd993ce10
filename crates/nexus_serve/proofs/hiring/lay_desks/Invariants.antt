use Rattle.std.proofs.Common.{◌≡◌, ◌+◌, ◌*◌, length}
use Rattle.nexus_serve.specs.Inner.Desks.{AreLaid}
use Rattle.nexus_serve.proofs.hiring.lay_desks.Given as goal

abbrev pub invariant-loop : goal.invariant-loop
invariant-loop g l = record {
  book : l.book ≡ record l.fn.book { next = l.first };
  first : l.first ≡ l.fn.first + l.counter * l.sessions;
  laid : AreLaid l.board l.fn.first l.sessions l.desks.items;
  count : length l.desks.items ≡ l.counter;
  parts : l.mark.parts + l.counter ≡ l.fn.mark.parts;
  amount : l.mark.amount ≡ 0;
}
