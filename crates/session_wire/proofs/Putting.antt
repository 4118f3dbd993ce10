-- What a buffer holds after writes to its parts.
use Rattle.std.proofs.Common.{◌≡◌, ◌<◌, ◌≤◌, ◌+◌, ◌-◌, ◌*◌, ℕ, List, [], ◌∷◌, ◌++◌, length, take, drop, get_or, refl, sym, ap, ◌∙◌, arith, append_assoc, length-append, length-drop}
use Rattle.std.proofs.Math.Seq.{drop-append_seam, take-append_seam}
use Rattle.std.proofs.Math.ListN.{set}
use Rattle.std.proofs.lemmas.List.{append-nil, drop-drop, drop_all, drop-set-lt, length-set, length-take-le, take_more, take_more_set}
use Rattle.std.proofs.lemmas.Grind.{flat_map-append}
use Rattle.std.specs.List.{flat_map}
use borrow.Rule.Slice.PartMut.{put_mid}
use Rattle.session_wire.specs.Frames.{framed, length_bytes, number_bytes}
use Rattle.session_wire.proofs.Numbers.{length-length_bytes, length-number_bytes, rest_of}

-- a write to all that stands from a place on
pub put_rest : (a : ℕ) (xs ys : List ℕ) → a ≤ length xs → put_mid a (length xs - a) xs ys ≡ take a xs ++ ys
put_rest a xs ys l =
    ap (λ (zs : List ℕ). take a xs ++ (ys ++ zs)) (drop_all (length xs - a) (drop a xs) (omega (arith, length-drop a xs)))
    ∙ ap (λ (zs : List ℕ). take a xs ++ zs) (append-nil ys)

-- a front and the rest of a buffer behind it, of known length
front_is : (a : ℕ) (xs front rest : List ℕ) → length front ≡ a → xs ≡ front ++ rest → take a xs ≡ front
front_is a xs front rest l e = ap (take a) e ∙ ap (λ (n : ℕ). take n (front ++ rest)) (sym l) ∙ take-append_seam front rest

rest_is : (a : ℕ) (xs front rest : List ℕ) → length front ≡ a → xs ≡ front ++ rest → drop a xs ≡ rest
rest_is a xs front rest l e = ap (drop a) e ∙ ap (λ (n : ℕ). drop n (front ++ rest)) (sym l) ∙ drop-append_seam front rest

-- numbers take eight bytes each
pub length_numbers : (numbers : List ℕ) → length (flat_map number_bytes numbers) ≡ 8 * length numbers
length_numbers [] = refl
length_numbers (n ∷ ns) =
    let ih = length_numbers ns in
    length-append (number_bytes n) (flat_map number_bytes ns) ∙ omega (arith, length-number_bytes n, ih)

-- one number more
numbers_more : (numbers : List ℕ) (i : ℕ) → i < length numbers → flat_map number_bytes (take (i + 1) numbers) ≡ flat_map number_bytes (take i numbers) ++ number_bytes (get_or numbers i 0)
numbers_more numbers i below =
    ap (flat_map number_bytes) (take_more numbers i 0 below)
    ∙ flat_map-append number_bytes (take i numbers) (get_or numbers i 0 ∷ [])
    ∙ ap (λ (xs : List ℕ). flat_map number_bytes (take i numbers) ++ xs) (append-nil (number_bytes (get_or numbers i 0)))

-- one number more is written behind those that stand in a buffer
pub number_is_put : (numbers start now part : List ℕ) (i : ℕ) → i < length numbers → 8 * length numbers ≤ length start
    → now ≡ flat_map number_bytes (take i numbers) ++ drop (8 * i) start
    → part ≡ number_bytes (get_or numbers i 0) ++ drop 8 (take (length now - 8 * i) (drop (8 * i) now))
    → put_mid (8 * i) (length now - 8 * i) now part ≡ flat_map number_bytes (take (i + 1) numbers) ++ drop (8 * (i + 1)) start
number_is_put numbers start now part i below room e p =
    let front = flat_map number_bytes (take i numbers) in
    let size : length front ≡ 8 * i = length_numbers (take i numbers) ∙ ap (λ (n : ℕ). 8 * n) (length-take-le i numbers (omega arith)) in
    let long : 8 * i ≤ length now = omega (arith, ap length e, length-append front (drop (8 * i) start)) in
    let behind : drop (8 * i) now ≡ drop (8 * i) start = rest_is (8 * i) now front (drop (8 * i) start) size e in
    let next : drop 8 (take (length now - 8 * i) (drop (8 * i) now)) ≡ drop (8 * (i + 1)) start =
    ap (drop 8) (rest_of (8 * i) now long ∙ behind) ∙ drop-drop 8 (8 * i) start ∙ ap (λ (n : ℕ). drop n start) (omega arith) in
    put_rest (8 * i) now part long
    ∙ ap (λ (xs : List ℕ). xs ++ part) (front_is (8 * i) now front (drop (8 * i) start) size e)
    ∙ ap (λ (xs : List ℕ). front ++ xs) (p ∙ ap (λ (xs : List ℕ). number_bytes (get_or numbers i 0) ++ xs) next)
    ∙ sym (append_assoc front (number_bytes (get_or numbers i 0)) (drop (8 * (i + 1)) start))
    ∙ ap (λ (xs : List ℕ). xs ++ drop (8 * (i + 1)) start) (sym (numbers_more numbers i below))

-- the length, the kind and the numbers are written
pub frame_is_put : (old head part numbers : List ℕ) (kind : ℕ) → length old ≡ 64 → length numbers ≤ 4
    → head ≡ length_bytes (1 + 8 * length numbers) ++ drop 4 old
    → part ≡ flat_map number_bytes numbers ++ drop (8 * length numbers) (take (length (set head 4 kind) - 5) (drop 5 (set head 4 kind)))
    → put_mid 5 (length (set head 4 kind) - 5) (set head 4 kind) part ≡ framed (kind ∷ flat_map number_bytes numbers) ++ drop (4 + (1 + 8 * length numbers)) old
frame_is_put old head part numbers kind size few h p =
    let body = flat_map number_bytes numbers in
    let count : ℕ = 1 + 8 * length numbers in
    let long : 64 ≡ length head = omega (arith, ap length h, length-append (length_bytes count) (drop 4 old), length-drop 4 old, length-length_bytes count) in
    let held : length (set head 4 kind) ≡ 64 = length-set head 4 kind ∙ sym long in
    let lengths : length (kind ∷ body) ≡ count = omega (arith, length_numbers numbers) in
    let front : take 5 (set head 4 kind) ≡ length_bytes count ++ kind ∷ [] =
    take_more_set head 4 kind (omega arith) ∙ ap (λ (xs : List ℕ). xs ++ kind ∷ []) (front_is 4 head (length_bytes count) (drop 4 old) (length-length_bytes count) h) in
    let behind : drop 5 (set head 4 kind) ≡ drop 5 old =
    drop-set-lt 5 head 4 kind (omega arith) ∙ sym (drop-drop 1 4 head) ∙ ap (drop 1) (rest_is 4 head (length_bytes count) (drop 4 old) (length-length_bytes count) h) ∙ drop-drop 1 4 old in
    let next : drop (8 * length numbers) (take (length (set head 4 kind) - 5) (drop 5 (set head 4 kind))) ≡ drop (4 + count) old =
    ap (drop (8 * length numbers)) (rest_of 5 (set head 4 kind) (omega arith) ∙ behind) ∙ drop-drop (8 * length numbers) 5 old ∙ ap (λ (n : ℕ). drop n old) (omega arith) in
    put_rest 5 (set head 4 kind) part (omega arith)
    ∙ ap (λ (xs : List ℕ). xs ++ part) front
    ∙ ap (λ (xs : List ℕ). (length_bytes count ++ kind ∷ []) ++ xs) (p ∙ ap (λ (xs : List ℕ). body ++ xs) next)
    ∙ append_assoc (length_bytes count) (kind ∷ []) (body ++ drop (4 + count) old)
    ∙ sym (append_assoc (length_bytes count) (kind ∷ body) (drop (4 + count) old))
    ∙ ap (λ (n : ℕ). (length_bytes n ++ kind ∷ body) ++ drop (4 + count) old) (sym lengths)
