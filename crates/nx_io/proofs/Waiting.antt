-- Laws of queues.
use Rattle.std.proofs.Common.{◌≡◌, ℕ, ◌+◌, ◌-◌, ◌≤◌, List, ◌++◌, length, length-drop, take, drop, refl, sym, ◌∙◌, ap, arith, subst}
use Rattle.std.proofs.lemmas.List.{drop-append-le, drop-take, length-take-le, take-take}
use Rattle.std.proofs.lemmas.Slice.{take-put_mid}
use borrow.Rule.Slice.PartMut.{put_mid}
use Rattle.nx_io.proofs.Told.{taken-front}

-- the first n bytes from a start on are the same where the list is cut behind them
pub front-of-cut : (bytes : List ℕ) (start end n : ℕ) → start + n ≤ end → take n (drop start (take end bytes)) ≡ take n (drop start bytes)
front-of-cut bytes start end n fits =
    let rest : end ≡ start + (end - start) = omega arith in
    subst (λ (e : ℕ). take n (drop start (take e bytes)) ≡ take n (drop start bytes)) (sym rest)
    (ap (take n) (drop-take start (end - start) bytes) ∙ take-take n (end - start) (drop start bytes) (omega arith))

-- the first n bytes that wait stand at the front of a buffer: they and the rest are what waited
pub waiting-popped : (bytes given into : List ℕ) (start end n width : ℕ) → start + n ≤ end → end ≤ length bytes → width ≡ n → given ≡ take width (drop start bytes) → drop start (take end bytes) ≡ take n (given ++ drop n into) ++ drop (start + n) (take end bytes)
waiting-popped bytes given into start end n width fits within w e =
    let waiting = drop start (take end bytes) in
    let long : n ≤ length waiting = omega (arith, length-drop start (take end bytes), length-take-le end bytes within) in
    sym (taken-front (take end bytes) waiting into given start n refl long (e ∙ ap (λ k. take k (drop start bytes)) w ∙ sym (front-of-cut bytes start end n fits)))

-- bytes that are written behind those that wait come after them
pub waiting-pushed : (bytes piece : List ℕ) (start end k : ℕ) → start ≤ end → end ≤ length bytes → drop start (take (end + length piece) (put_mid end k bytes piece)) ≡ drop start (take end bytes) ++ piece
waiting-pushed bytes piece start end k below within =
    ap (drop start) (take-put_mid end k bytes piece (end + length piece) refl within)
    ∙ drop-append-le start (take end bytes) piece (omega (arith, length-take-le end bytes within))
