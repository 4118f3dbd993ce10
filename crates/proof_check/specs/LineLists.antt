-- Lists of the numbers of lines.
use Rattle.std.specs.Prelude.{ℕ, List, ◌≤◌, length}
use Rattle.std.specs.List.Sorted.{IsStrictlyIncreasing}

-- each number is below the next, and there are at most 256
abbrev pub IsLineList : List ℕ → Type 0
IsLineList xs = IsStrictlyIncreasing xs × (length xs ≤ 256)
