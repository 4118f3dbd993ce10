-- The goal of a chain follows from the labels.
use Rattle.std.proofs.Common.{List, [], All}
use Rattle.std.specs.List.{Contains}
use Rattle.std.proofs.lemmas.List.Elements.{All-contains}
use Rattle.nal_term.specs.Free.{IsClosed}
use Rattle.nal_term.specs.Trees.{FormulaTree, says, speaks_for, speaks_for_on}
use Rattle.nal_rules.specs.Derivation.{Derives, label, handoff, handoff_on, sf_e, sf_on_e, sf_sub}
use Rattle.chain_prover.specs.Chains.{delegation, restricted, part, Chain, start, onward, last_of, IsChain}

module _ (labels : List FormulaTree) (f : FormulaTree) (closed : All IsClosed labels) where
  held : (g : FormulaTree) → Contains labels g → Derives labels [] g
  held g among = label among (All-contains IsClosed labels g closed among)

  pub chain_derives : (c : Chain) → IsChain labels f c → Derives labels [] (says (last_of c) f)
  chain_derives (start a) said = held (says a f) said
  chain_derives (onward c (delegation y)) (stands, step) = sf_e (handoff (held (says y (speaks_for (last_of c) y)) step)) (chain_derives c stands)
  chain_derives (onward c (restricted y names)) (stands, step) = sf_on_e (handoff_on (held (says y (speaks_for_on (last_of c) y names)) step.0)) (chain_derives c stands) step.1
  chain_derives (onward c (part n)) (stands, step) = sf_e sf_sub (chain_derives c stands)
