-- Laws of what sources and sinks tell.
use Rattle.std.proofs.Common.{◌≡◌, ℕ, ◌+◌, ◌≤◌, List, ◌++◌, length, take, drop, sym, ◌∙◌, ap, append_assoc, arith, length-append, length-drop, subst}
use Rattle.std.specs.Prelude.{None, Some}
use Rattle.std.specs.declared.option.Option.{Option}
use Rattle.std.proofs.Math.Seq.{drop-append_seam, take-add, take-append_seam}
use Rattle.std.proofs.lemmas.List.{drop-drop, length-take-le, take-append-drop}
use Rattle.nx_io.specs.Streams.{prepended}

-- a front of a piece was appended, and then a front of its rest
pub appended-take-add : (old now new piece rest : List ℕ) (done n : ℕ) → rest ≡ drop done piece → now ≡ old ++ take done piece → new ≡ now ++ take n rest → new ≡ old ++ take (done + n) piece
appended-take-add old now new piece rest done n r e f =
    f ∙ ap (λ told. told ++ take n rest) e
    ∙ ap (λ xs. (old ++ take done piece) ++ take n xs) r
    ∙ append_assoc old (take done piece) (take n (drop done piece))
    ∙ ap (λ xs. old ++ xs) (sym (take-add done n piece))

-- within a send of a piece: so much of it is done, and no write has failed
pub record IsSending (old now : List ℕ) (before count : ℕ) (piece : List ℕ) (done : ℕ) : Type 0 where
  pub within : done ≤ length piece
  pub sent : now ≡ old ++ take done piece
  pub still : count ≡ before

-- one write more took n of what was left of the piece
pub sending-more : (old now new piece rest : List ℕ) (before count later done n : ℕ) → IsSending old now before count piece done → rest ≡ drop done piece → n ≤ length rest → new ≡ now ++ take n rest → later ≡ count → IsSending old new before later piece (done + n)
sending-more old now new piece rest before count later done n sending r fits e still = record {
  within = omega (arith, sending.within, ap length r, length-drop done piece, fits);
  sent = appended-take-add old now new piece rest done n r sending.sent e;
  still = still ∙ sending.still;
}

-- what stands at the front of a buffer
front-of-buffer : (rest into given : List ℕ) (n : ℕ) → n ≤ length rest → given ≡ take n rest → take n (given ++ drop n into) ≡ given
front-of-buffer rest into given n fits e =
    let len : length given ≡ n = ap length e ∙ length-take-le n rest fits in
    subst (λ (k : ℕ). take k (given ++ drop n into) ≡ given) len (take-append_seam given (drop n into))

-- the first n bytes to come stand at the front of a buffer: they and the rest are what was to come
pub taken-front : (bytes rest into given : List ℕ) (taken n : ℕ) → rest ≡ drop taken bytes → n ≤ length rest → given ≡ take n rest → take n (given ++ drop n into) ++ drop (taken + n) bytes ≡ drop taken bytes
taken-front bytes rest into given taken n r fits e =
    rw (front-of-buffer rest into given n fits e, e, r, ← drop-drop n taken bytes) (take-append-drop n (drop taken bytes))

-- the first n bytes to come stand at the front of a buffer: they come after those that were taken before
pub taken-more : (bytes rest into given : List ℕ) (taken n : ℕ) → rest ≡ drop taken bytes → n ≤ length rest → given ≡ take n rest → take (taken + n) bytes ≡ take taken bytes ++ take n (given ++ drop n into)
taken-more bytes rest into given taken n r fits e =
    rw (front-of-buffer rest into given n fits e, e, r) (take-add taken n bytes)

-- a list that begins with a front, told by lengths
front-rest : (told front rest : List ℕ) (n : ℕ) → length front ≡ n → told ≡ front ++ rest → (n ≤ length told) × (front ≡ take n told) × (rest ≡ drop n told)
front-rest told front rest n len e = (
  omega (arith, ap length e, length-append front rest),
  subst (λ (k : ℕ). front ≡ take k told) len (rw e (sym (take-append_seam front rest))),
  subst (λ (k : ℕ). rest ≡ drop k told) len (rw e (sym (drop-append_seam front rest))),
)

-- where the bytes to come are told, a read of n of them gives the first n and leaves the others
pub told-read : (told into : List ℕ) (new : Option (List ℕ)) (n : ℕ) → n ≤ length into → Some told ≡ prepended (take n into) new → (n ≤ length told) × (take n into ≡ take n told) × (new ≡ Some (drop n told))
told-read told into None n fits e = cc
told-read told into (Some rest) n fits e =
    let same : told ≡ take n into ++ rest = cc in
    let parts = front-rest told (take n into) rest n (length-take-le n into fits) same in
    (parts.0, parts.1, ap Some parts.2)
