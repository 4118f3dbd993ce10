use Rattle.authority_ask.specs.Inner.Conversations.{opened}
use Rattle.authority_ask.proofs.connections.Connection.over.Goals as goal

-- Nothing was sent yet, and nothing came back.
pub invariant_of-result : goal.invariant_of-result
invariant_of-result c = rw (c.new.ensures, c.new-2.ensures) opened
