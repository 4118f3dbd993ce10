use Rattle.std.proofs.Common.{◌≡◌, Some, map, ap, rules, subst, sym, List, ◌∙◌}
use Rattle.nal_term.specs.Trees.{formula_tree}
use Rattle.authority_ask.specs.Exchanges.{IsAskedOver}
use Rattle.authority_ask.specs.Inner.Addresses.{address_bytes, kept_at}
use Rattle.authority_ask.specs.PanelCalls.{address_at, reached_in}
use Rattle.authority_ask.specs.WireCalls.{WireCall}
use Rattle.authority_ask.proofs.Asked.{asked_at}
use Rattle.authority_ask.proofs.hosts.AuthorityPanel.answer.Goals as goal

-- The address of the port is not `clock`, and it was asked there.
pub returns-clause-over_wires : goal.returns-clause-over_wires
returns-clause-over_wires g c =
    let f = formula_tree c.args.statement.now in
    let now = g.W.Wires.calls c.ask_over.new.wires in
    let same = ap (λ p. g.W.Wires.calls p.wires) c.self.view_is in
    let same_history = ap (λ p. p.history) c.self.view_is in
    let given : Some c.in-Some.address.now ≡ kept_at (map address_bytes c.self.inside.addresses.items) c.args.port = search rules in
    let place : address_at (reached_in c.args.self.now.history) c.args.port ≡ Some c.in-Some.address.now = rw same_history at (c.self.invariant.1 c.args.port ∙ sym given) in
    asked_at (reached_in c.args.self.now.history) c.args.port c.in-Some.address.now f _ now _ place (search rules)
    (subst (λ (before : List WireCall). IsAskedOver c.args.port c.in-Some.address.now f before now c.ask_over.result) same c.ask_over.ensures)
