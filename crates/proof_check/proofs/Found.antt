-- Reads of lines, of formulas and of what is so of each line.
use Rattle.std.proofs.Common.{◌≡◌, ℕ, zero, suc, ◌-◌, ◌<◌, ◌≤◌, List, [], ◌∷◌, length, get_or, Some, refl, ap, arith}
use Rattle.std.specs.List.{slice_get}
use Rattle.proof_lines.specs.declared.lines.Line.{Line}
use Rattle.proof_lines.specs.Lines.{LineTree, line_tree, line_trees}
use Rattle.nal_rules.specs.Faults.{line_at}

get_tree : (ls : List Line) (k : ℕ) (l : Line) → k < length ls → l ≡ get_or ls k l → Some (line_tree l) ≡ slice_get (line_trees ls) k
get_tree [] k l p e = absurd (omega arith)
get_tree (x ∷ ls) zero l p e = ap (λ y. Some (line_tree y)) e
get_tree (x ∷ ls) (suc k) l p e = get_tree ls k l (omega arith) e

-- the line that is read at a number, which is counted from 1
pub line_at_tree : (ls : List Line) (k : ℕ) (l : Line) → (k ≡ 0 → ⊥) → k ≤ length ls → l ≡ get_or ls (k - 1) l → Some (line_tree l) ≡ line_at (line_trees ls) k
line_at_tree ls zero l p q e = absurd (p refl)
line_at_tree ls (suc k) l p q e =
    let s : suc k - 1 ≡ k = omega arith in
    let read : l ≡ get_or ls k l = rw s at e in
    get_tree ls k l (omega arith) read

get_within : (ls : List LineTree) (i : ℕ) (l : LineTree) → slice_get ls i ≡ Some l → i < length ls
get_within [] i l e = absurd (cc e)
get_within (x ∷ ls) zero l e = omega arith
get_within (x ∷ ls) (suc i) l e = let h = get_within ls i l e in omega (arith, h)

get_some : (ls : List LineTree) (i : ℕ) → i < length ls → (l : LineTree) × (slice_get ls i ≡ Some l)
get_some [] i h = absurd (omega arith)
get_some (x ∷ ls) zero h = (x, refl)
get_some (x ∷ ls) (suc i) h = get_some ls i (omega arith)

-- the number of a line is at most the number of lines
pub at_within : (ls : List LineTree) (k : ℕ) (l : LineTree) → line_at ls k ≡ Some l → k ≤ length ls
at_within ls zero l e = absurd (cc e)
at_within ls (suc k) l e = let h = get_within ls k l e in omega (arith, h)

-- a proof that has a line has a last one
pub at_last : (ls : List LineTree) → (ls ≡ [] → ⊥) → (l : LineTree) × (line_at ls (length ls) ≡ Some l)
at_last [] h = absurd (h refl)
at_last (x ∷ ls) h = get_some (x ∷ ls) (length ls) (omega arith)
