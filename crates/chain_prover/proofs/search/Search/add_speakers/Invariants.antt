use Rattle.std.proofs.Common.{◌≡◌, ◌<◌, ◌+◌, ℕ, Some}
use Rattle.std.specs.List.{slice_get}
use Rattle.nal_term.specs.Trees.{TermTree}
use Rattle.chain_prover.specs.declared.facts.Delegation.{Delegation}
use Rattle.chain_prover.specs.Inner.Numbers.{IsNumber}
use Rattle.chain_prover.specs.Inner.Knowing.{labels_of, statement_of, terms_of}
use Rattle.chain_prover.specs.Inner.Paths.{Extends, IsReachedWithin}
use Rattle.chain_prover.proofs.search.Search.add_speakers.Given as goal

abbrev pub invariant-loop-delegation : goal.invariant-loop-delegation
invariant-loop-delegation l =
    Extends (terms_of l.facts) (labels_of l.facts) (statement_of l.facts) l.fn.self.nodes.items l.self.nodes.items l.node.lines
    × (l.self.expanded ≡ l.fn.self.expanded)
    × ((j : ℕ) → j < l.delegation → (d : Delegation) → slice_get l.facts.delegations.items j ≡ Some d → d.owner ≡ l.number
    → (x : TermTree) → IsNumber (terms_of l.facts) d.speaker x → IsReachedWithin l.self.nodes.items x (l.node.lines + 3))
