-- The lines of an input.
use Rattle.std.specs.Prelude.{ℕ, ◌+◌, ◌-◌, ◌||◌, List, length, take, drop, count_by, slice_index, not, ◌==◌, if◌then◌else◌}
use Rattle.std.specs.List.{prefix_len}

-- how many bytes stand before the first line feed, or to the end
abbrev pub line_length : List ℕ → ℕ
line_length bytes = prefix_len (λ b. not (b == 10)) bytes

-- the first line, without its line feed
abbrev pub first_line : List ℕ → List ℕ
first_line bytes = take (line_length bytes) bytes

-- what follows the first line and its line feed
abbrev pub after_line : List ℕ → List ℕ
after_line bytes = drop (line_length bytes + 1) bytes

-- how many lines there are; a last one may lack its line feed
abbrev pub line_count : List ℕ → ℕ
line_count bytes =
    count_by (λ b. b == 10) bytes + (if length bytes == 0 || slice_index bytes (length bytes - 1) == 10 then 0 else 1)
