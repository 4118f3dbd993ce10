-- Where the segments of a text stand.
use Rattle.std.specs.Prelude.{◌≡◌, ℕ, zero, suc, ◌+◌, List, [], ◌∷◌, ◌++◌, ◌==◌, ◌&&◌, nat_le, codes, length, if◌then◌else◌}
use Rattle.std.specs.Str.{bytes_eq}
use Rattle.std.specs.List.{prefix_len}
use Rattle.nal_parse.specs.Tokens.{is_blank}
use Rattle.proof_text.specs.ProofText.{Head, HasHead, segments}

-- how many line feeds stand before the segment with this number, that is, up to that many cuts, or in the
-- whole text where it has fewer cuts
abbrev pub line_feeds_before : ℕ → List ℕ → ℕ
line_feeds_before zero bs = 0
line_feeds_before (suc k) [] = 0
line_feeds_before (suc k) (b ∷ bs) =
    if b == 10 then line_feeds_before k bs + 1 else (if b == 59 then line_feeds_before k bs else line_feeds_before (suc k) bs)

-- of segments numbered from n on: the number of the first one that is `end` and has a number from 2 on, or
-- the number after the last
abbrev pub end_place : ℕ → List (List ℕ) → ℕ
end_place n [] = n
end_place n (s ∷ ss) = if nat_le 2 n && bytes_eq s (codes "end") then n else end_place (n + 1) ss

-- the number of the first segment from segment 2 on that is `end`, or the number of segments where there is none
abbrev pub end_segment_of : List ℕ → ℕ
end_segment_of bs = end_place 0 (segments bs)

-- how many bytes of its line stand before the segment with this number, blanks too, where n stand before the text; none
-- where the text has fewer cuts, since such a segment would stand on the line after the last
abbrev pub column_from : ℕ → ℕ → List ℕ → ℕ
column_from n zero bs = n + prefix_len is_blank bs
column_from n (suc k) [] = 0
column_from n (suc k) (b ∷ bs) =
    if b == 10 then column_from 0 k bs else (if b == 59 then column_from (n + 1) k bs else column_from (n + 1) (suc k) bs)

-- how many bytes of its line stand before the segment with this number
abbrev pub column_of : ℕ → List ℕ → ℕ
column_of k bs = column_from 0 k bs

-- this is the text of the formula in the segment with this number, and so many bytes of its line stand before it
pub record IsFormulaAt (bs : List ℕ) (k : ℕ) (column : ℕ) (formula : List ℕ) : Type 0 where
  pub before : List (List ℕ)
  pub segment : List ℕ
  pub behind : List (List ℕ)
  pub head : Head
  pub stands : segments bs ≡ before ++ segment ∷ behind
  pub number : length before ≡ k
  pub formed : HasHead segment head formula
  pub place : column + length formula ≡ column_of k bs + length segment
