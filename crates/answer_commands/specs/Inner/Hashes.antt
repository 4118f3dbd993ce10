-- The hash of a text.
use Rattle.std.specs.Prelude.{ℕ, List}
use Rattle.keyed_hash.specs.SipHash.{initial, write, finish}

-- SipHash-2-4 of the bytes, under one key
unfoldable pub hash_of : List ℕ → ℕ
hash_of text = finish (write (initial 0x6e65_7875_7320_6368 0x6563_6b20_6c6f_6f6b) text)
