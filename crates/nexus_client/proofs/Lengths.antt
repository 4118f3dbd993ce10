-- The frame of a request is hardly longer than its line.
use Rattle.std.specs.Prelude.{nat_le, ◌&&◌}
use Rattle.std.specs.List.{list_all}
use Rattle.std.proofs.Common.{◌≡◌, ◌≤◌, ◌+◌, ℕ, Bool, true, false, List, length, refl, ap, ◌∙◌, arith, length-append}
use Rattle.nal_term.specs.Names.{IsName, is_word}
use Rattle.nal_term.specs.Secrets.{IsSecret, is_secret_byte}
use Rattle.byteorder.specs.Endian.{big_bytes}
use Rattle.byteorder.specs.Numbers.{length-bytes_high_first}
use Rattle.session_wire.specs.declared.requests.Request.{Request}
use Rattle.session_wire.specs.declared.requests.Request.TheVariants.{Hello, Say, Transfer, Delete, NewObject, SetGoal, ClearGoal, SetProof, ClearProof, Bind, Unbind, Call, See}
use Rattle.session_wire.specs.Frames.{most_payload, number_bytes, request_payload, text_bytes}
use Rattle.journal_text.specs.RequestLines.{IsRequestLine, request_text}

length-number : (n : ℕ) → length (number_bytes n) ≡ 8
unfolding number_bytes
length-number n = length-bytes_high_first 8 n

length-text : (text : List ℕ) → length (text_bytes text) ≡ 2 + length text
unfolding text_bytes
length-text text = length-append (big_bytes 2 (length text)) text ∙ ap (λ (n : ℕ). n + length text) (length-bytes_high_first 2 (length text))

-- a payload has at most six bytes more than the text of its request
payload_of_text : (q : Request) → length (request_payload q) ≤ length (request_text q) + 6
payload_of_text (Hello name secret) = omega (arith, length-append {A = ℕ}, length-text)
payload_of_text (Say principal formula) = omega (arith, length-append {A = ℕ}, length-text)
payload_of_text (Transfer number to) = omega (arith, length-append {A = ℕ}, length-text, length-number)
payload_of_text (Delete number) = omega (arith, length-append {A = ℕ}, length-number)
payload_of_text (NewObject name) = omega (arith, length-append {A = ℕ}, length-text)
payload_of_text (SetGoal op object formula) = omega (arith, length-append {A = ℕ}, length-text)
payload_of_text (ClearGoal op object) = omega (arith, length-append {A = ℕ}, length-text)
payload_of_text (SetProof op object proof) = omega (arith, length-append {A = ℕ}, length-text)
payload_of_text (ClearProof op object) = omega (arith, length-append {A = ℕ}, length-text)
payload_of_text (Bind principal port) = omega (arith, length-append {A = ℕ}, length-text, length-number)
payload_of_text (Unbind principal) = omega (arith, length-append {A = ℕ}, length-text)
payload_of_text (Call op object arg) = omega (arith, length-append {A = ℕ}, length-text, length-number)
payload_of_text (See number) = omega (arith, length-append {A = ℕ}, length-number)

-- the request of a line has a frame
pub payload_fits : (line : List ℕ) (q : Request) → IsRequestLine line q → length (request_payload q) ≤ most_payload
payload_fits line q h =
    let most = payload_of_text q in
    omega (arith, h.0, ap length h.1.1, most)

within : (n m : ℕ) → nat_le n m ≡ true → n ≤ m
within n m h = grind arith

both : (b c : Bool) → (b && c) ≡ true → (b ≡ true) × (c ≡ true)
both true c e = (refl, e)
both false c e = absurd (cc e)

pub name_short : (x : List ℕ) → IsName x → length x ≤ 64
name_short x is = within (length x) 64 (both (is_word x) _ (both (is_word x && nat_le (length x) 64) _ is).0).1

secret_short : (x : List ℕ) → IsSecret x → length x ≤ 64
secret_short x is = within (length x) 64 (both (list_all is_secret_byte x && nat_le 1 (length x)) _ is).1

-- the requests by which a peer opens a session and says a label have frames
pub hello_fits : (name secret : List ℕ) → IsName name → IsSecret secret → length (request_payload (Hello name secret)) ≤ most_payload
hello_fits name secret n s = let short = name_short name n in let short_too = secret_short secret s in omega (arith, length-append {A = ℕ}, length-text, short, short_too)

pub say_fits : (peer formula : List ℕ) → length peer ≤ 64 → length formula ≤ 1024 → length (request_payload (Say peer formula)) ≤ most_payload
say_fits peer formula short fits = omega (arith, length-append {A = ℕ}, length-text, short, fits)
