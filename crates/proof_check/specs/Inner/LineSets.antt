-- Sets of numbers of lines, as two words of bits: the bit of a line stands at its number less one.
use Rattle.std.specs.Prelude.{◌-◌, ℕ, zero, suc, List, Bool, false, map, nat_eq, nat_lt, if◌then◌else◌}
use Rattle.std.specs.Int.{bit_at}
use Rattle.proof_lines.specs.Lines.{LineTree}
use Rattle.proof_check.specs.declared.line_sets.LineSet.{LineSet}
use Rattle.proof_check.specs.Inner.Rests.{IsColumn}

-- the bit at this place is set
abbrev pub has_bit : ℕ → ℕ → Bool
has_bit word place = nat_eq (bit_at word place) 1

-- the number is in the set
abbrev pub holds : LineSet → ℕ → Bool
holds s zero = false
holds s (suc k) = if nat_lt k 128 then has_bit s.low k else (if nat_lt k 256 then has_bit s.high (k - 128) else false)

-- for each line, by its number, whether it rests on the hypothesis h, of the sets of hypotheses of all lines
abbrev pub column_of : List LineSet → ℕ → List Bool
column_of sets h = map (λ s. holds s h) sets

-- the sets are those of the hypotheses on which the lines rest, each at the line's number
abbrev pub AreHypothesisSets : List LineTree → List LineSet → Type 0
AreHypothesisSets lines sets = (h : ℕ) → IsColumn lines h (column_of sets h)
