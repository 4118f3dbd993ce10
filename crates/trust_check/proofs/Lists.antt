-- A test of each item of a list against one, as `contains` makes it.
use Rattle.std.proofs.Common.{◌≡◌, ◌↔◌, ◌||◌, zero, suc, List, [], ◌∷◌, Bool, true, false, IsTrue, Contains, map, refl, arith}
use Rattle.std.specs.Bool.{Decides}
use Rattle.std.specs.List.{list_any}

either_left : (a b : Bool) → a ≡ true → (a || b) ≡ true
either_left true b e = refl
either_left false b e = absurd (cc e)

either_right : (a b : Bool) → b ≡ true → (a || b) ≡ true
either_right true b e = refl
either_right false b e = e

module _ {X Y : Type 0} (same : X → X → Bool) (tree : X → Y) (decides : (x y : X) → Decides (same x y) (tree x ≡ tree y)) where
  -- the first item or a later one
  here_or_later : (y x : X) (ys : List X) (b : Bool) → same y x ≡ b → (list_any (λ z. same z x) ys ≡ true → Contains (map tree ys) (tree x))
      → (b || list_any (λ z. same z x) ys) ≡ true → Contains (map tree (y ∷ ys)) (tree x)
  here_or_later y x ys true here later e = (0, omega arith, (decides y x).0 here)
  here_or_later y x ys false here later e = let w = later e in (suc w.0, omega (arith, w.1), w.2)

  found : (xs : List X) (x : X) → list_any (λ y. same y x) xs ≡ true → Contains (map tree xs) (tree x)
  found [] x e = absurd (cc e)
  found (y ∷ ys) x e = here_or_later y x ys (same y x) refl (found ys x) e

  kept : (xs : List X) (x : X) → Contains (map tree xs) (tree x) → list_any (λ y. same y x) xs ≡ true
  kept [] x w = absurd (omega (arith, w.1))
  kept (y ∷ ys) x (zero, within, read) = either_left (same y x) _ ((decides y x).1 read)
  kept (y ∷ ys) x (suc k, within, read) = either_right (same y x) _ (kept ys x (k, omega (arith, within), read))

  pub contains_tree : (xs : List X) (x : X) → IsTrue (list_any (λ y. same y x) xs) ↔ Contains (map tree xs) (tree x)
  contains_tree xs x = (found xs x, kept xs x)
