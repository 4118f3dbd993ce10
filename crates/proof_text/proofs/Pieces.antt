-- The first piece of a text, and the pieces after its cut.
use Rattle.std.proofs.Common.{◌≡◌, ℕ, suc, ◌+◌, ◌<◌, ◌≤◌, List, [], ◌∷◌, length, take, drop, map, true, false, not, cond, refl, ap, arith}
use Rattle.std.specs.List.{prefix_len}
use Rattle.proof_text.specs.ProofText.{is_cut, with_first, pieces, segments, trimmed}

-- how many bytes stand before the first cut
abbrev pub piece_len : List ℕ → ℕ
piece_len bs = prefix_len (λ b. not (is_cut b)) bs

one_more : (n : ℕ) → 1 + n ≡ suc n
one_more n = omega arith

pub pieces_last : (bs : List ℕ) → length bs ≤ piece_len bs → pieces bs ≡ bs ∷ []
pieces_last [] h = refl
pieces_last (b ∷ bs) h =
    elim (is_cut b) as (λ t. length (b ∷ bs) ≤ cond (not t) (1 + piece_len bs) 0 → cond t ([] ∷ pieces bs) (with_first b (pieces bs)) ≡ (b ∷ bs) ∷ []) [
      | true ↦ λ k. absurd (omega arith)
      | false ↦ λ k. rw (pieces_last bs (omega arith))
    ] h

pub pieces_cut : (bs : List ℕ) → piece_len bs < length bs → pieces bs ≡ take (piece_len bs) bs ∷ pieces (drop (piece_len bs + 1) bs)
pieces_cut [] h = absurd (omega arith)
pieces_cut (b ∷ bs) h =
    elim (is_cut b) as (λ t. cond (not t) (1 + piece_len bs) 0 < length (b ∷ bs) → cond t ([] ∷ pieces bs) (with_first b (pieces bs)) ≡ take (cond (not t) (1 + piece_len bs) 0) (b ∷ bs) ∷ pieces (drop (cond (not t) (1 + piece_len bs) 0 + 1) (b ∷ bs))) [
      | true ↦ λ k. refl
      | false ↦ λ k.
          let e : 1 + piece_len bs ≡ suc (piece_len bs) = omega arith in
          let f : suc (piece_len bs) + 1 ≡ suc (piece_len bs + 1) = omega arith in
          rw (pieces_cut bs (omega arith), e, f)
    ] h

pub segments_last : (bs : List ℕ) → length bs ≤ piece_len bs → segments bs ≡ trimmed bs ∷ []
segments_last bs h = ap (map trimmed) (pieces_last bs h)

pub segments_cut : (bs : List ℕ) → piece_len bs < length bs → segments bs ≡ trimmed (take (piece_len bs) bs) ∷ segments (drop (piece_len bs + 1) bs)
segments_cut bs h = ap (map trimmed) (pieces_cut bs h)

with_first_some : (b : ℕ) (ps : List (List ℕ)) → with_first b ps ≡ [] → ⊥
with_first_some b [] h = cc
with_first_some b (p ∷ ps) h = cc

pieces_some : (bs : List ℕ) → pieces bs ≡ [] → ⊥
pieces_some [] h = cc
pieces_some (b ∷ bs) h =
    elim (is_cut b) as (λ t. cond t ([] ∷ pieces bs) (with_first b (pieces bs)) ≡ [] → ⊥) [
      | true ↦ λ e. cc
      | false ↦ λ e. with_first_some b (pieces bs) e
    ] h

map_some : (ps : List (List ℕ)) → map trimmed ps ≡ [] → ps ≡ []
map_some [] h = refl
map_some (p ∷ ps) h = cc

-- a text has a segment
pub segments_some : (bs : List ℕ) → segments bs ≡ [] → ⊥
segments_some bs h = pieces_some bs (map_some (pieces bs) h)
