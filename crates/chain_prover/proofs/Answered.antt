-- What is told of a shortest path.
use Rattle.std.proofs.Common.{◌≡◌, ◌<◌, ℕ, List, [], All, Result, Ok, Err, length, sym, ap, ◌∙◌, subst, arith}
use Rattle.std.specs.List.{Contains}
use Rattle.std.specs.Result.{IsErrAnd}
use Rattle.nal_term.specs.Trees.{TermTree, FormulaTree, says}
use Rattle.nal_term.specs.Free.{IsClosed}
use Rattle.proof_lines.specs.Lines.{LineTree}
use Rattle.nal_rules.specs.Derivation.{Derives}
use Rattle.nal_rules.specs.Faults.{IsFaultless, IsSays, formulas_where, is_label}
use Rattle.chain_prover.specs.declared.answers.ChainError.{ChainError}
use Rattle.chain_prover.specs.declared.answers.ChainError.TheVariants.{NotSays, Memory}
use Rattle.chain_prover.specs.Answers.{IsShortest}
use Rattle.chain_prover.specs.Chains.{last_of, IsChain, IsChainProof, chain_lines}
use Rattle.chain_prover.specs.Inner.Paths.{IsProofAlong, NeedsMore}
use Rattle.chain_prover.proofs.Derived.{chain_derives}
use Rattle.chain_prover.proofs.Faultless.{chain_faultless, chain_labels}

-- a goal that something says is not refused
pub says_told : {T : Type 0} (r : Result T ChainError) (goal : FormulaTree) {b : TermTree} {f : FormulaTree} → goal ≡ says b f → (r ≡ Err NotSays → ⊥)
    → (r ≡ Err NotSays → IsSays goal → ⊥) × ((IsSays goal → ⊥) → r ≡ Err NotSays)
says_told r goal {b = b} {f = f} e other = (λ refused h. other refused, λ n. absurd (n (b, f, e)))

-- an error that is want of memory is no refusal
pub memory_told : {T : Type 0} (r : Result T ChainError) → IsErrAnd r (λ e. e ≡ Memory) → r ≡ Err NotSays → ⊥
memory_told (Ok x) h e = cc e
memory_told (Err d) h e = cc (h, e)

module _ (labels : List FormulaTree) (goal : FormulaTree) (b : TermTree) (f : FormulaTree) (goal_is : goal ≡ says b f) (lines : List LineTree) (n : ℕ) (h : IsProofAlong labels f b lines n) where
  pub chain_proof : n < 256 → IsChainProof labels goal lines
  chain_proof bound = record {
    chain = h.chain;
    statement = f;
    stands = h.stands;
    reaches = goal_is ∙ ap (λ x. says x f) (sym h.last);
    lines_are = h.lines_are;
    bound = omega (arith, h.count, bound);
  }

  pub not_shorter : NeedsMore labels f b n → IsShortest labels goal lines
  not_shorter least other o =
      let same_end : last_of o.chain ≡ b = cc (o.reaches, goal_is) in
      let same_statement : o.statement ≡ f = cc (o.reaches, goal_is) in
      let more = least o.chain (subst (λ f. IsChain labels f o.chain) same_statement o.stands) same_end in
      omega (arith, more, h.count, ap length o.lines_are, ap (λ f. length (chain_lines f o.chain)) same_statement)

  pub proof_faultless : All IsClosed labels → (k : ℕ) → IsFaultless lines goal k
  proof_faultless closed =
      subst (λ ls. (k : ℕ) → IsFaultless ls goal k) (sym h.lines_are)
      (subst (λ g. (k : ℕ) → IsFaultless (chain_lines f h.chain) g k) (ap (λ x. says x f) h.last ∙ sym goal_is) (chain_faultless labels f h.chain closed h.stands))

  pub labels_of_proof : All (Contains labels) (formulas_where is_label lines)
  labels_of_proof = subst (λ ls. All (Contains labels) (formulas_where is_label ls)) (sym h.lines_are) (chain_labels labels f h.chain h.stands)

  pub goal_derived : All IsClosed labels → Derives labels [] goal
  goal_derived closed = subst (λ g. Derives labels [] g) (ap (λ x. says x f) h.last ∙ sym goal_is) (chain_derives labels f closed h.chain h.stands)
