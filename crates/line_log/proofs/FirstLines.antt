-- The first line of a piece.
use Rattle.std.proofs.Common.{◌≡◌, ◌≢◌, ◌<◌, ◌≤◌, ◌+◌, ◌∷◌, ◌++◌, ◌==◌, [], ℕ, List, Bool, true, false, not, take, length, get_or, refl, sym, ap, subst, ◌∙◌}
use Rattle.std.specs.List.{All}
use Rattle.std.proofs.lemmas.Bool.Decides.{Decides-eqb}
use Rattle.std.proofs.lemmas.List.{get_or-take, take_all, take_more}
use Rattle.std.proofs.lemmas.List.Folds.{length-prefix_len}
use Rattle.std.proofs.lemmas.List.Sums.{prefix_len_passes, prefix_len_stops}
use Rattle.text_lines.specs.Lines.{first_line, line_length}
use Rattle.line_log.specs.LineLogs.{IsLine, fed}

-- whether a byte is no line feed
abbrev is_unfed : ℕ → Bool
is_unfed byte = not (byte == 10)

unfed : (byte : ℕ) → is_unfed byte ≡ true → byte ≢ 10
unfed byte passes same =
    let wrong : false ≡ true = subst (λ (b : ℕ). is_unfed b ≡ true) same passes in
    absurd (cc wrong)

feed : (byte : ℕ) → is_unfed byte ≡ false → byte ≡ 10
feed byte stops = (Decides-eqb byte 10).0 (of_not (byte == 10) stops)
  where
    of_not : (b : Bool) → not b ≡ false → b ≡ true
    of_not true same = refl
    of_not false same = absurd (cc same)

-- the first line has no line feed
pub first_line_unfed : (piece : List ℕ) → All (λ byte. byte ≢ 10) (first_line piece)
first_line_unfed piece k d within =
    let n = line_length piece in
    let inside : k < n = subst (λ (m : ℕ). k < m) (length-prefix_len is_unfed piece) within in
    unfed (get_or (first_line piece) k d) (ap is_unfed (get_or-take n piece k d inside) ∙ prefix_len_passes is_unfed piece k d inside)

-- where more follows the first line, its line feed is the next byte
pub first_line_fed : (piece : List ℕ) → length (first_line piece) < length piece → IsLine (take (length (first_line piece) + 1) piece)
first_line_fed piece shorter =
    let n = line_length piece in
    let same : length (first_line piece) ≡ n = length-prefix_len is_unfed piece in
    let inside : n < length piece = subst (λ (m : ℕ). m < length piece) same shorter in
    let next : get_or piece n 0 ≡ 10 = feed (get_or piece n 0) (prefix_len_stops is_unfed piece 0 inside) in
    let parts : take (n + 1) piece ≡ first_line piece ++ 10 ∷ [] = take_more piece n 0 inside ∙ ap (λ (byte : ℕ). first_line piece ++ byte ∷ []) next in
    subst IsLine (sym parts ∙ ap (λ (m : ℕ). take (m + 1) piece) (sym same)) (fed (first_line piece) (first_line_unfed piece))

-- where none does, the piece has no line feed
pub piece_unfed : (piece : List ℕ) → length piece ≤ length (first_line piece) → All (λ byte. byte ≢ 10) piece
piece_unfed piece whole =
    let n = line_length piece in
    let same : length (first_line piece) ≡ n = length-prefix_len is_unfed piece in
    let long : length piece ≤ n = subst (λ (m : ℕ). length piece ≤ m) same whole in
    subst (All (λ byte. byte ≢ 10)) (take_all n piece long) (first_line_unfed piece)
