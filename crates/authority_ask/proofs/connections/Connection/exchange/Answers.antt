use Rattle.std.proofs.Common.{◌≡◌, ◌++◌, List, ℕ, ◌∙◌, ap, take}
use Rattle.authority_ask.specs.Exchanges.{answer_line}
use Rattle.authority_ask.specs.Inner.Conversations.{answered}
use Rattle.authority_ask.proofs.Asked.{some_came}
use Rattle.authority_ask.proofs.connections.Connection.exchange.Goals as goal

-- One more line was sent, and its answer came back.
pub invariant_of-result : goal.invariant_of-result
invariant_of-result c =
    let came : take c.converse-count.result c.converse-count.new.answer ≡ answer_line c.in-Line.yes = c.in-Line.ensures in
    let sent = c.converse-count.ensures.sent (some_came c.in-Line.yes c.converse-count.result c.converse-count.new.answer came) in
    let given : c.converse-count.new.source.given ≡ c.self.inside.source.given ++ answer_line c.in-Line.yes =
    c.converse-count.ensures.given ∙ ap (λ (more : List ℕ). c.self.inside.source.given ++ more) came in
    rw (sent, given) (answered c.args.question.now c.in-Line.yes c.self.invariant)
