-- The bytes that secrets are made of.
use Rattle.std.specs.Prelude.{ℕ, List, length, Bool, nat_le, ◌&&◌, IsTrue}
use Rattle.std.specs.List.{list_all}

-- a byte of a secret: 0x21 to 0x7E, a printed character that is no space
abbrev pub is_secret_byte : ℕ → Bool
is_secret_byte b = nat_le 33 b && nat_le b 126

-- a secret: 1 to 64 such bytes
abbrev pub is_secret : List ℕ → Bool
is_secret bs = list_all is_secret_byte bs && nat_le 1 (length bs) && nat_le (length bs) 64

-- the bytes are a secret
abbrev pub IsSecret : List ℕ → Type 0
IsSecret bs = IsTrue (is_secret bs)
