-- What comes of a piece that is handed to a log.
use Rattle.std.proofs.Common.{◌≡◌, ◌≢◌, ◌<◌, ◌≤◌, ◌++◌, ◌∷◌, [], ℕ, List, true, take, drop, length, sym, ap, subst, ◌∙◌, arith, refl}
use Rattle.std.proofs.lemmas.List.{length-take-le, take-append-drop, take_all}
use Rattle.nx_io.specs.Streams.{faults_after_write, one_more}
use Rattle.nx_io.specs.declared.streams.Put.{Put}
use Rattle.nx_io.specs.declared.streams.Put.TheVariants.{Bytes as PutBytes, Failed as PutFailed}
use Rattle.line_log.specs.declared.standings.Standing.TheVariants.{Reached, Failed}
use Rattle.line_log.specs.LineLogs.{AreCut, AreKept, Handles, Keeping, Logging, cut, put_of, whole}

-- so many bytes of a piece are kept, and of the rest nothing is
pub record IsKeptUpTo (log : Logging) (piece : List ℕ) (kept : ℕ) (after : Keeping) : Type 0 where
  pub shorter : kept < length piece
  pub between : Keeping
  pub front : AreKept log.is_opened log.keeper (take kept piece) between
  pub rest : AreCut log.is_opened between (drop kept piece) after

pub kept_up_to : {log : Logging} {piece : List ℕ} {kept : ℕ} {after : Keeping} → kept ≤ length piece → kept ≢ length piece
    → (kept < length piece → (between : Keeping) × AreKept log.is_opened log.keeper (take kept piece) between × AreCut log.is_opened between (drop kept piece) after)
    → IsKeptUpTo log piece kept after
kept_up_to {log} {piece} {kept} within unlike cut_off =
    let shorter : kept < length piece = omega (arith, within, unlike) in
    let parts = cut_off shorter in
    record { shorter = shorter; between = parts.0; front = parts.1; rest = parts.2 }

-- a piece that has bytes is not empty
pub not_empty : (piece : List ℕ) → 0 < length piece → piece ≢ []
not_empty piece long same = absurd (omega (arith, long, ap length same))

-- a front that has bytes was sent
filled : (bytes : List ℕ) → 0 < length bytes → put_of bytes ≡ PutBytes (length bytes)
filled [] long = absurd (omega (arith, long))
filled (byte ∷ bytes) long = refl

-- a piece is kept whole
pub whole_handled : {log : Logging} {piece : List ℕ} {kept : ℕ} {after : Keeping} → log.standing ≡ Reached → 0 < length piece → kept ≡ length piece
    → AreKept log.is_opened log.keeper piece after
    → Handles log piece (PutBytes kept) (record log { keeper = after; is_opened = true; sent = log.sent ++ take kept piece })
whole_handled {log} {piece} {kept} {after} reached long same are_kept =
    let all : take kept piece ≡ piece = ap (λ (n : ℕ). take n piece) same ∙ take_all (length piece) piece (omega (arith)) in
    let put : put_of piece ≡ PutBytes kept = filled piece long ∙ ap PutBytes (sym same) in
    rw (all, ← put) (whole reached are_kept)

-- a front of it is
pub front_handled : {log : Logging} {piece : List ℕ} {kept : ℕ} {after : Keeping} → log.standing ≡ Reached → 0 < kept → IsKeptUpTo log piece kept after
    → Handles log piece (PutBytes kept) (record log { keeper = after; is_opened = true; standing = Failed; sent = log.sent ++ take kept piece })
front_handled {log} {piece} {kept} {after} reached long parts =
    let so_long : length (take kept piece) ≡ kept = length-take-le kept piece (omega (arith, parts.shorter)) in
    let put : put_of (take kept piece) ≡ PutBytes kept = filled (take kept piece) (omega (arith, long, so_long)) ∙ ap PutBytes so_long in
    let handled = cut (take kept piece) reached (sym (take-append-drop kept piece)) parts.front parts.rest in
    subst (λ (put : Put). Handles log piece put
    (record log { keeper = after; is_opened = true; standing = Failed; sent = log.sent ++ take kept piece; faults = faults_after_write put log.faults })) put handled

-- nothing of it is
pub nothing_handled : {log : Logging} {piece : List ℕ} {kept : ℕ} {after : Keeping} → log.standing ≡ Reached → kept ≡ 0 → IsKeptUpTo log piece kept after
    → Handles log piece PutFailed
    (record log { keeper = after; is_opened = true; standing = Failed; sent = log.sent ++ take kept piece; faults = one_more log.faults })
nothing_handled {log} {piece} {kept} {after} reached none parts =
    let put : put_of (take kept piece) ≡ PutFailed = ap (λ (n : ℕ). put_of (take n piece)) none in
    let handled = cut (take kept piece) reached (sym (take-append-drop kept piece)) parts.front parts.rest in
    subst (λ (put : Put). Handles log piece put
    (record log { keeper = after; is_opened = true; standing = Failed; sent = log.sent ++ take kept piece; faults = faults_after_write put log.faults })) put handled
