-- The numbers of the lines that pass a test.
use Rattle.std.proofs.Common.{◌≡◌, ℕ, zero, suc, ◌+◌, ◌<◌, ◌≤◌, List, [], ◌∷◌, ◌++◌, length, get_or, take, cond, Bool, true, false, refl, ◌∙◌, subst, arith, add-one}
use Rattle.std.proofs.Common.{length-take-le}
use Rattle.std.proofs.lemmas.List.{take_more, map-append, length-map}
use Rattle.std.specs.List.Sorted.{IsStrictlyIncreasing}
use Rattle.proof_lines.specs.declared.lines.Line.{Line}
use Rattle.proof_lines.specs.Lines.{LineTree, line_tree, line_trees}
use Rattle.nal_rules.specs.Faults.{numbers_from}
use Rattle.proof_check.specs.LineLists.{IsLineList}

push_cond : (b c : Bool) (k n : ℕ) (xs : List ℕ) → cond b (k ∷ xs ++ cond c (n ∷ []) []) (xs ++ cond c (n ∷ []) []) ≡ cond b (k ∷ xs) xs ++ cond c (n ∷ []) []
push_cond true c k n xs = refl
push_cond false c k n xs = refl

-- one more line at the end
numbers_push : (passes : LineTree → Bool) (k : ℕ) (ls : List LineTree) (x : LineTree) → numbers_from passes k (ls ++ x ∷ []) ≡ numbers_from passes k ls ++ cond (passes x) ((k + length ls) ∷ []) []
numbers_push passes k [] x = let z : k + 0 ≡ k = omega arith in rw z refl
numbers_push passes k (l ∷ ls) x =
    let e = numbers_push passes (k + 1) ls x in
    let n : k + 1 + length ls ≡ k + suc (length ls) = omega arith in
    rw e (rw n (push_cond (passes l) (passes x) k (k + suc (length ls)) (numbers_from passes (k + 1) ls)))

at_least : (passes : LineTree → Bool) (k : ℕ) (ls : List LineTree) (j : ℕ) → j < length (numbers_from passes k ls) → k ≤ get_or (numbers_from passes k ls) j 0
at_least passes k [] j h = absurd (omega arith)
at_least passes k (l ∷ ls) j h =
    choose (passes l) (numbers_from passes (k + 1) ls) (λ i below. let m = at_least passes (k + 1) ls i below in omega (arith, m)) j h
  where
    choose : (b : Bool) (xs : List ℕ) → ((i : ℕ) → i < length xs → k ≤ get_or xs i 0) → (j : ℕ) → j < length (cond b (k ∷ xs) xs) → k ≤ get_or (cond b (k ∷ xs) xs) j 0
    choose true xs above zero h = omega arith
    choose true xs above (suc j) h = above j (omega arith)
    choose false xs above j h = above j h

rising : (passes : LineTree → Bool) (k : ℕ) (ls : List LineTree) → IsStrictlyIncreasing (numbers_from passes k ls)
rising passes k [] = λ j h. absurd (omega arith)
rising passes k (l ∷ ls) =
    choose (passes l) (numbers_from passes (k + 1) ls) (rising passes (k + 1) ls) (λ i below. at_least passes (k + 1) ls i below)
  where
    choose : (b : Bool) (xs : List ℕ) → IsStrictlyIncreasing xs → ((i : ℕ) → i < length xs → k + 1 ≤ get_or xs i 0) → IsStrictlyIncreasing (cond b (k ∷ xs) xs)
    choose true xs up above zero h = let m = above 0 (omega arith) in omega (arith, m)
    choose true xs up above (suc j) h = rw add-one (rw add-one at (up j (omega arith)))
    choose false xs up above j h = up j h

few : (passes : LineTree → Bool) (k : ℕ) (ls : List LineTree) → length (numbers_from passes k ls) ≤ length ls
few passes k [] = omega arith
few passes k (l ∷ ls) = choose (passes l) (numbers_from passes (k + 1) ls) (few passes (k + 1) ls)
  where
    choose : (b : Bool) (xs : List ℕ) → length xs ≤ length ls → length (cond b (k ∷ xs) xs) ≤ suc (length ls)
    choose true xs h = omega arith
    choose false xs h = omega arith

-- such numbers are a list of numbers of lines
pub numbers_line_list : (passes : LineTree → Bool) (ls : List LineTree) → length ls ≤ 256 → IsLineList (numbers_from passes 1 ls)
numbers_line_list passes ls h = (rising passes 1 ls, (let m = few passes 1 ls in omega (arith, m)))

-- one more line of a proof is read
pub numbers_more : (passes : LineTree → Bool) (ls : List Line) (i : ℕ) (l : Line) → i < length ls → l ≡ get_or ls i l
    → numbers_from passes 1 (line_trees (take (i + 1) ls)) ≡ numbers_from passes 1 (line_trees (take i ls)) ++ cond (passes (line_tree l)) ((i + 1) ∷ []) []
numbers_more passes ls i l h e =
    let t : take (i + 1) ls ≡ take i ls ++ get_or ls i l ∷ [] = take_more ls i l h in
    let read : take (i + 1) ls ≡ take i ls ++ l ∷ [] = rw (← e) at t in
    let m : line_trees (take i ls ++ l ∷ []) ≡ line_trees (take i ls) ++ line_tree l ∷ [] = map-append line_tree (take i ls) (l ∷ []) in
    let n : length (line_trees (take i ls)) ≡ i = length-map (take i ls) line_tree ∙ length-take-le i ls (omega arith) in
    let p = numbers_push passes 1 (line_trees (take i ls)) (line_tree l) in
    let s : 1 + length (line_trees (take i ls)) ≡ i + 1 = omega (arith, n) in
    rw (read, m) (p ∙ rw s)

-- the number of one more line that passes may be added
pub more_line_list : (passes : LineTree → Bool) (ls : List Line) (i : ℕ) (l : Line) → i < length ls → length ls ≤ 256 → l ≡ get_or ls i l → passes (line_tree l) ≡ true
    → IsLineList (numbers_from passes 1 (line_trees (take i ls)) ++ (i + 1) ∷ [])
more_line_list passes ls i l h few' e p =
    let m = numbers_more passes ls i l h e in
    let q : numbers_from passes 1 (line_trees (take (i + 1) ls)) ≡ numbers_from passes 1 (line_trees (take i ls)) ++ (i + 1) ∷ [] = rw p at m in
    let n : length (line_trees (take (i + 1) ls)) ≡ i + 1 = length-map (take (i + 1) ls) line_tree ∙ length-take-le (i + 1) ls (omega arith) in
    subst IsLineList q (numbers_line_list passes (line_trees (take (i + 1) ls)) (omega (arith, n)))
