-- SipHash-2-4 of Aumasson and Bernstein ("SipHash: a fast short-input PRF", 2012), over the bytes that were written.
use Rattle.std.specs.Prelude.{ℕ, ◌+◌, ◌*◌, ◌%◌, ◌^◌, ◌==◌, List, cond, fold, bit_and, bit_or, bit_xor}
use Rattle.std.specs.Int.{w64, rotate_left}
use Rattle.keyed_hash.specs.declared.sip.SipHasher.{SipHasher}

-- a sum of words
abbrev pub plus : ℕ → ℕ → ℕ
plus x y = (x + y) % 2 ^ 64

-- the state under the key with these two halves, before any byte
unfoldable pub initial : ℕ → ℕ → SipHasher
initial k0 k1 = record { v0 = bit_xor k0 0x736f_6d65_7073_6575; v1 = bit_xor k1 0x646f_7261_6e64_6f6d; v2 = bit_xor k0 0x6c79_6765_6e65_7261; v3 = bit_xor k1 0x7465_6462_7974_6573; tail = 0; count = 0 }

-- one SipRound
unfoldable pub sip_round : SipHasher → SipHasher
sip_round s =
    let a0 = plus s.v0 s.v1 in
    let a2 = plus s.v2 s.v3 in
    let a1 = bit_xor (rotate_left w64 s.v1 13) a0 in
    let a3 = bit_xor (rotate_left w64 s.v3 16) a2 in
    let b2 = plus a2 a1 in
    let b0 = plus (rotate_left w64 a0 32) a3 in
    record { v0 = b0; v1 = bit_xor (rotate_left w64 a1 17) b2; v2 = rotate_left w64 b2 32; v3 = bit_xor (rotate_left w64 a3 21) b0; tail = s.tail; count = s.count }

-- one word goes in, by two rounds
unfoldable pub compress : SipHasher → ℕ → SipHasher
compress s m =
    let t = sip_round (sip_round (record { v0 = s.v0; v1 = s.v1; v2 = s.v2; v3 = bit_xor s.v3 m; tail = s.tail; count = s.count })) in
    record { v0 = bit_xor t.v0 m; v1 = t.v1; v2 = t.v2; v3 = t.v3; tail = t.tail; count = t.count }

-- one byte joins the tail, the first lowest; a tail of eight bytes goes in as a word
unfoldable pub write_byte : SipHasher → ℕ → SipHasher
write_byte s b =
    let t : SipHasher = record { v0 = s.v0; v1 = s.v1; v2 = s.v2; v3 = s.v3; tail = bit_or s.tail ((b * 2 ^ (8 * (s.count % 8))) % 2 ^ 64); count = plus s.count 1 } in
    let u = compress t t.tail in
    cond (t.count % 8 == 0) (record { v0 = u.v0; v1 = u.v1; v2 = u.v2; v3 = u.v3; tail = 0; count = u.count }) t

-- all bytes of a list go in
unfoldable pub write : SipHasher → List ℕ → SipHasher
write s bytes = fold write_byte s bytes

-- the hash: the last word has the tail and, highest, the number of bytes modulo 256; then four rounds
unfoldable pub finish : SipHasher → ℕ
finish s =
    let t = compress s (bit_or ((bit_and s.count 255 * 2 ^ 56) % 2 ^ 64) s.tail) in
    let u = sip_round (sip_round (sip_round (sip_round (record { v0 = t.v0; v1 = t.v1; v2 = bit_xor t.v2 255; v3 = t.v3; tail = t.tail; count = t.count })))) in
    bit_xor (bit_xor (bit_xor u.v0 u.v1) u.v2) u.v3
