-- Two proofs are the same where their lines are.
use Rattle.std.proofs.Common.{◌≡◌, ◌<◌, ◌≤◌, ◌+◌, ℕ, zero, suc, List, [], ◌∷◌, length, refl, sym, ap, ◌∙◌, arith, get_or}
use Rattle.std.proofs.lemmas.List.{length-map}
use Rattle.proof_lines.specs.declared.lines.Line.{Line}
use Rattle.proof_lines.specs.Lines.{line_tree, line_trees}
use borrow.Author.Count.{below_more}

-- the first lines of both are the same
pub record AreSameBelow (a b : List Line) (n : ℕ) : Type 0 where
  pub each : (k : ℕ) → k < n → (d : Line) → line_tree (get_or a k d) ≡ line_tree (get_or b k d)

pub none_below : (a b : List Line) → AreSameBelow a b 0
none_below a b = record { each = λ k low d. absurd (omega (arith, low)) }

pub one_more_same : (a b : List Line) (n : ℕ) → AreSameBelow a b n → ((d : Line) → line_tree (get_or a n d) ≡ line_tree (get_or b n d)) → AreSameBelow a b (n + 1)
one_more_same a b n so_far here = record { each = below_more (λ k. (d : Line) → line_tree (get_or a k d) ≡ line_tree (get_or b k d)) n so_far.each here }

pub same_trees : (a b : List Line) (n : ℕ) → length a ≡ length b → length a ≤ n → AreSameBelow a b n → line_trees a ≡ line_trees b
same_trees [] [] n long all so_far = refl
same_trees [] (y ∷ b) n long all so_far = absurd (cc long)
same_trees (x ∷ a) [] n long all so_far = absurd (cc long)
same_trees (x ∷ a) (y ∷ b) zero long all so_far = absurd (omega (arith, all))
same_trees (x ∷ a) (y ∷ b) (suc n) long all so_far =
    let first : line_tree x ≡ line_tree y = so_far.each 0 (omega arith) x in
    let rest : line_trees a ≡ line_trees b = same_trees a b n (omega (arith, long)) (omega (arith, all)) (record { each = λ k low d. so_far.each (suc k) (omega (arith, low)) d }) in
    rw (first, rest) refl

pub same_length : (a b : List Line) → line_trees a ≡ line_trees b → length a ≡ length b
same_length a b e = sym (length-map a line_tree) ∙ ap length e ∙ length-map b line_tree

pub same_at : (a b : List Line) (k : ℕ) (d : Line) → line_trees a ≡ line_trees b → k < length a → line_tree (get_or a k d) ≡ line_tree (get_or b k d)
same_at [] b k d e low = absurd (omega (arith, low))
same_at (x ∷ a) [] k d e low = absurd (cc e)
same_at (x ∷ a) (y ∷ b) zero d e low = cc e
same_at (x ∷ a) (y ∷ b) (suc k) d e low = let rest : line_trees a ≡ line_trees b = cc e in same_at a b k d rest (omega (arith, low))

-- an element does not depend on what stands for one that is missing
pub b_at : (b : List Line) (k : ℕ) (x d : Line) → x ≡ get_or b k x → k < length b → x ≡ get_or b k d
b_at [] k x d e low = absurd (omega (arith, low))
b_at (y ∷ b) zero x d e low = e
b_at (y ∷ b) (suc k) x d e low = b_at b k x d e (omega (arith, low))
