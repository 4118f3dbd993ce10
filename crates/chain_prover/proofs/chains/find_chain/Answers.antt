use Rattle.std.proofs.Common.{◌≡◌, ◌<◌, ℕ, map, ap}
use Rattle.nal_term.specs.Trees.{formula_tree, term_tree, says}
use Rattle.proof_lines.specs.Lines.{line_trees}
use Rattle.chain_prover.specs.Inner.Paths.{IsProofAlong, NeedsMore}
use Rattle.chain_prover.proofs.Answered.{chain_proof, goal_derived, labels_of_proof, memory_told, not_shorter, proof_faultless, says_told}
use Rattle.chain_prover.proofs.chains.find_chain.Goals.{In_ok-proof_of}
use Rattle.chain_prover.proofs.chains.find_chain.Goals as goal

pub returns-in_err-facts-clause-not_says : goal.returns-in_err-facts-clause-not_says
returns-in_err-facts-clause-not_says c = says_told _ _ (ap formula_tree c.in-Says.is) (memory_told _ c.from_residual.ensures.1)

pub returns-in_err-path-clause-not_says : goal.returns-in_err-path-clause-not_says
returns-in_err-path-clause-not_says c = says_told _ _ (ap formula_tree c.in-Says.is) (memory_told _ c.from_residual-in_err-path.ensures.1)

pub returns-in_default-2-clause-not_says : goal.returns-in_default-2-clause-not_says
returns-in_default-2-clause-not_says c = says_told _ _ (ap formula_tree c.in-Says.is) (λ e. cc e)

pub returns-in_err-proof_of-clause-not_says : goal.returns-in_err-proof_of-clause-not_says
returns-in_err-proof_of-clause-not_says c = says_told _ _ (ap formula_tree c.in-Says.is) (memory_told _ c.from_residual-in_err-proof_of.ensures.1)

pub returns-clause-not_says : goal.returns-clause-not_says
returns-clause-not_says c = says_told _ _ (ap formula_tree c.in-Says.is) (λ e. cc e)

-- the lines are the proof along a shortest path
along : (c : In_ok-proof_of) → (n : ℕ) × (n < 256) × NeedsMore (map formula_tree c.args.labels.now.items) (formula_tree c.in-Says.statement.value) (term_tree c.in-Says.principal) n
    × IsProofAlong (map formula_tree c.args.labels.now.items) (formula_tree c.in-Says.statement.value) (term_tree c.in-Says.principal) (line_trees c.in_ok-proof_of.field-0) n
along c =
    let (n, shortest) = rw (c.in_ok-facts.ensures.labels, c.in_ok-facts.ensures.statement, c.as_slice.ensures.value, c.deref.ensures) at (rw c.in-Some.is at c.in_ok-path.ensures) in
    (n, shortest.bound, shortest.least, rw c.deref-2.ensures at c.in_ok-proof_of.ensures _ _ n shortest.path)

goal_is : (c : In_ok-proof_of) → formula_tree c.args.goal.now ≡ says (term_tree c.in-Says.principal) (formula_tree c.in-Says.statement.value)
goal_is c = ap formula_tree c.in-Says.is

pub returns-clause-chain : goal.returns-clause-chain
returns-clause-chain c = let d = (goal.at.returns-clause-chain c).In_ok-proof_of in let (n, bound, least, p) = along d in chain_proof _ _ _ _ (goal_is d) _ n p bound

pub returns-clause-shortest : goal.returns-clause-shortest
returns-clause-shortest c = let d = (goal.at.returns-clause-shortest c).In_ok-proof_of in let (n, bound, least, p) = along d in not_shorter _ _ _ _ (goal_is d) _ n p least

pub returns-clause-faultless : goal.returns-clause-faultless
returns-clause-faultless c = λ closed. let d = (goal.at.returns-clause-faultless c).In_ok-proof_of in let (n, bound, least, p) = along d in proof_faultless _ _ _ _ (goal_is d) _ n p closed

pub returns-clause-labels : goal.returns-clause-labels
returns-clause-labels c = let d = (goal.at.returns-clause-labels c).In_ok-proof_of in let (n, bound, least, p) = along d in labels_of_proof _ _ _ _ (goal_is d) _ n p

pub returns-clause-derives : goal.returns-clause-derives
returns-clause-derives c = λ closed. let d = (goal.at.returns-clause-derives c).In_ok-proof_of in let (n, bound, least, p) = along d in goal_derived _ _ _ _ (goal_is d) _ n p closed
