-- The words of a call, as bytes and as texts.
use Rattle.std.proofs.Common.{◌≡◌, ◌==◌, ◌↔◌, ◌<◌, ◌^◌, ◌++◌, ◌+◌, ℕ, Bool, true, false, IsTrue, List, [], ◌∷◌, map, take, length, Bor, get_or, inl, inr, refl, sym, ap, subst, ◌∙◌, codes, arith}
use Rattle.std.proofs.lemmas.Bool.Decides.{Decides-eqb}
use Rattle.std.proofs.lemmas.List.{append_cancel_right, append_assoc, take_more, length-map, map-append, get_or-map}
use Rattle.std.proofs.lemmas.List.Elements.{All-append, All-cons, All-get_or, All-nil}
use Rattle.std.specs.List.{All, list_all}
use Rattle.std.specs.Str.{IsUtf8}
use Rattle.std.specs.Fmt.{decimal}
use Rattle.std.proofs.lemmas.Fmt.{IsAscii-decimal, decimal_injective, decimal_is_IsNumeral}
use Rattle.std.proofs.lemmas.Str.Parse.{digit_from_value}
use Rattle.std.specs.Str.Parse.{AllDigits}
use Rattle.std.proofs.lemmas.Str.{IsUtf8-from_ascii}
use Rattle.std.proofs.lemmas.Str.Ascii.{IsAscii-from_all}
use Rattle.std.specs.Prelude.{nat_le, ◌&&◌, ◌≤◌, None, Some}
use Rattle.std.specs.declared.option.Option.{Option}
use Rattle.nal_term.specs.Secrets.{is_secret_byte}
use Rattle.nexus_run.specs.Commands.{IsCommand, IsDrill, IsLoad, IsLoggedCall, IsPlain, IsTalkCall, IsUnlogged, IsWithin, audit_words, check_words, command_words, compact_words, core_words, drill_words, explain_words, export_words, log_words, logged_words, patience_words, prove_words, records_words, recover_words, script_words, serve_words, talk_word, talk_words, trust_words}
use Rattle.nal_term.specs.Names.{IsName, is_letter, is_word, is_word_byte}
use Rattle.nexus_client.specs.declared.inputs.TalkInput.{TalkInput}
use Rattle.nexus_client.specs.declared.inputs.TalkInput.TheVariants.{RequestLines, PeerBundle}
use Rattle.service_commands.specs.Services.{IsAddress, IsPatience, IsService, patience_in}
use Rattle.nexus_run.specs.declared.commands.Command.{Command}
use Rattle.nexus_run.specs.declared.commands.Command.TheVariants.{Check, Script, Trust, Prove, Audit, Explain, Recover, Compact, Export, Core, Drill}

-- one text more
pub next_text : {T W : Type 0} (f : T → List ℕ) (g : W → List ℕ) (ts us : List T) (ws : List W) (t : T) (w : W) (k : ℕ) → map f ts ≡ take k (map g ws)
    → us ≡ ts ++ t ∷ [] → k < length ws → w ≡ get_or ws k w → f t ≡ g w → map f us ≡ take (k + 1) (map g ws)
next_text f g ts us ws t w k i u room at same =
    let more = take_more (map g ws) k (g w) (omega (arith, length-map ws g, room)) in
    let item : get_or (map g ws) k (g w) ≡ g w = get_or-map g ws k w (g w) room ∙ ap g (sym at) in
    ap (map f) u ∙ map-append f ts (t ∷ []) ∙ rw (i, same, ← item) (sym more)

-- the words of commands are texts
check_words_are_texts : All IsUtf8 check_words
unfolding lib.Utf8.encode
check_words_are_texts = All-cons IsUtf8 (codes "check") [] (codes "check", (refl, refl)) (All-nil IsUtf8)

script_words_are_texts : All IsUtf8 script_words
unfolding lib.Utf8.encode
script_words_are_texts = All-cons IsUtf8 (codes "script") [] (codes "script", (refl, refl)) (All-nil IsUtf8)

trust_words_are_texts : All IsUtf8 trust_words
unfolding lib.Utf8.encode
trust_words_are_texts = All-cons IsUtf8 (codes "trust") [] (codes "trust", (refl, refl)) (All-nil IsUtf8)

prove_words_are_texts : All IsUtf8 prove_words
unfolding lib.Utf8.encode
prove_words_are_texts = All-cons IsUtf8 (codes "prove") [] (codes "prove", (refl, refl)) (All-nil IsUtf8)

recover_words_are_texts : All IsUtf8 recover_words
unfolding lib.Utf8.encode
recover_words_are_texts = All-cons IsUtf8 (codes "recover") [] (codes "recover", (refl, refl)) (All-nil IsUtf8)

compact_words_are_texts : All IsUtf8 compact_words
unfolding lib.Utf8.encode
compact_words_are_texts = All-cons IsUtf8 (codes "compact") [] (codes "compact", (refl, refl)) (All-nil IsUtf8)

audit_words_are_texts : All IsUtf8 audit_words
unfolding lib.Utf8.encode
audit_words_are_texts = All-cons IsUtf8 (codes "audit") [] (codes "audit", (refl, refl)) (All-nil IsUtf8)

explain_words_are_texts : All IsUtf8 explain_words
unfolding lib.Utf8.encode
explain_words_are_texts = All-cons IsUtf8 (codes "explain") [] (codes "explain", (refl, refl)) (All-nil IsUtf8)

core_is_text : IsUtf8 (codes "core")
unfolding lib.Utf8.encode
core_is_text = (codes "core", (refl, refl))

-- a number's digits are a text
number_is_text : (n : ℕ) → n < 2 ^ 64 → IsUtf8 (decimal n)
number_is_text n small = IsUtf8-from_ascii (decimal n) (IsAscii-decimal n small)

-- so few steps are counted in 64 bits
steps_small : (number steps : ℕ) → IsLoad number steps → steps < 2 ^ 64
steps_small number steps within = let few = within.steps_are in omega (arith, few)

core_words_are_texts : (number steps : ℕ) → IsLoad number steps → All IsUtf8 (core_words number steps)
core_words_are_texts number steps within =
    All-cons IsUtf8 (codes "core") (decimal number ∷ decimal steps ∷ []) core_is_text
    (All-cons IsUtf8 (decimal number) (decimal steps ∷ []) (number_is_text number within.number_is)
    (All-cons IsUtf8 (decimal steps) [] (number_is_text steps (steps_small number steps within)) (All-nil IsUtf8)))

-- the words of `core` tell its numbers
pub core_same : (number steps m n : ℕ) → IsLoad number steps → IsLoad m n → core_words number steps ≡ core_words m n → (number ≡ m) × (steps ≡ n)
core_same number steps m n within other e =
    let first : decimal number ≡ decimal m = cc e in
    let second : decimal steps ≡ decimal n = cc e in
    (decimal_injective number m within.number_is other.number_is first, decimal_injective steps n (steps_small number steps within) (steps_small m n other) second)

drill_is_text : IsUtf8 (codes "drill")
unfolding lib.Utf8.encode
drill_is_text = (codes "drill", (refl, refl))

-- so few workers and calls are counted in 64 bits
workers_small : (number workers calls : ℕ) → IsDrill number workers calls → workers < 2 ^ 64
workers_small number workers calls within = let few = within.workers_are in omega (arith, few)

calls_small : (number workers calls : ℕ) → IsDrill number workers calls → calls < 2 ^ 64
calls_small number workers calls within = let few = within.calls_are in omega (arith, few)

drill_words_are_texts : (number workers calls : ℕ) → IsDrill number workers calls → All IsUtf8 (drill_words number workers calls)
drill_words_are_texts number workers calls within =
    All-cons IsUtf8 (codes "drill") (decimal number ∷ decimal workers ∷ decimal calls ∷ []) drill_is_text
    (All-cons IsUtf8 (decimal number) (decimal workers ∷ decimal calls ∷ []) (number_is_text number within.number_is)
    (All-cons IsUtf8 (decimal workers) (decimal calls ∷ []) (number_is_text workers (workers_small number workers calls within))
    (All-cons IsUtf8 (decimal calls) [] (number_is_text calls (calls_small number workers calls within)) (All-nil IsUtf8))))

-- the words of `drill` tell its numbers
pub drill_same : (number workers calls l m n : ℕ) → IsDrill number workers calls → IsDrill l m n → drill_words number workers calls ≡ drill_words l m n
    → (number ≡ l) × (workers ≡ m) × (calls ≡ n)
drill_same number workers calls l m n within other e =
    let first : decimal number ≡ decimal l = cc e in
    let second : decimal workers ≡ decimal m = cc e in
    let third : decimal calls ≡ decimal n = cc e in (
      decimal_injective number l within.number_is other.number_is first,
      decimal_injective workers m (workers_small number workers calls within) (workers_small l m n other) second,
      decimal_injective calls n (calls_small number workers calls within) (calls_small l m n other) third,
    )

-- a load in threads is told by its words
pub drill_told : (number workers calls workers_read calls_read : ℕ) (words : List (List ℕ)) (word a b c : List ℕ) → words ≡ word ∷ a ∷ b ∷ c ∷ []
    → words ≡ drill_words number workers calls → b ≡ decimal workers_read → c ≡ decimal calls_read → workers_read < 2 ^ 64 → calls_read < 2 ^ 64
    → IsDrill number workers calls → (workers_read ≡ workers) × (calls_read ≡ calls)
drill_told number workers calls workers_read calls_read words word a b c are told y z small small_too within =
    let all = sym are ∙ told in
    let second : b ≡ decimal workers = cc all in
    let third : c ≡ decimal calls = cc all in (
      decimal_injective workers_read workers small (workers_small number workers calls within) (sym y ∙ second),
      decimal_injective calls_read calls small_too (calls_small number workers calls within) (sym z ∙ third),
    )

-- digits tell how many steps a load has
pub same_steps : (n number steps : ℕ) → n < 2 ^ 64 → IsLoad number steps → decimal n ≡ decimal steps → n ≡ steps
same_steps n number steps small within e = decimal_injective n steps small (steps_small number steps within) e

-- digits tell a number that is small
pub same_number : (n m : ℕ) → n < 2 ^ 64 → m < 2 ^ 64 → decimal n ≡ decimal m → n ≡ m
same_number n m small small_too e = decimal_injective n m small small_too e

-- the words of a patience tell it
pub patience_same : (p q : Option ℕ) → IsPatience (patience_in p) → IsPatience (patience_in q) → patience_words p ≡ patience_words q → p ≡ q
patience_same None None is is_too e = refl
patience_same None (Some n) is is_too e = absurd (cc e)
patience_same (Some n) None is is_too e = absurd (cc e)
patience_same (Some n) (Some m) is is_too e =
    let digits : decimal n ≡ decimal m = cc e in
    ap Some (decimal_injective n m (omega (arith, is)) (omega (arith, is_too)) digits)

-- a patience that is said is told by its word
pub patience_told : (w : List ℕ) (rest : List (List ℕ)) (read : ℕ) (patience : Option ℕ) → IsPatience (patience_in patience) → w ∷ rest ≡ patience_words patience → w ≡ decimal read → read < 2 ^ 64
    → (rest ≡ []) × IsPatience read
patience_told w rest read None is e digits small = absurd (cc e)
patience_told w rest read (Some n) is e digits small =
    let word : w ≡ decimal n = cc e in
    let none : rest ≡ [] = cc e in
    let same : read ≡ n = decimal_injective read n small (omega (arith, is)) (sym digits ∙ word) in
    (none, rw same is)

-- a patience that is said stands alone
pub patience_alone : (w : List ℕ) (rest : List (List ℕ)) (patience : Option ℕ) → w ∷ rest ≡ patience_words patience → rest ≡ []
patience_alone w rest None e = absurd (cc e)
patience_alone w rest (Some n) e = cc e

-- what is not empty has texts
pub not_alone : {A : Type 0} (f : A → List ℕ) (rest : List A) (b : Bool) → b ≡ (length rest == 0) → b ≡ false → map f rest ≡ [] → ⊥
not_alone f [] b e off m = cc (e, off)
not_alone f (x ∷ xs) b e off m = cc m

-- the word `records` is no number
records_no_number : (n : ℕ) → n < 2 ^ 64 → codes "records" ≡ decimal n → ⊥
records_no_number n small e = let digits : AllDigits 10 (codes "records") = subst (AllDigits 10) (sym e) (decimal_is_IsNumeral n small).0.1 in omega (arith, digit_from_value 114 digits.0)

-- so it is not behind the words of a patience that are alone
no_word : (front : List (List ℕ)) (patience : Option ℕ) → IsPatience (patience_in patience) → front ++ codes "records" ∷ [] ≡ patience_words patience ++ [] → ⊥
no_word [] None is e = cc e
no_word (w ∷ ws) None is e = cc e
no_word [] (Some n) is e = records_no_number n (omega (arith, is)) (cc e)
no_word (v ∷ []) (Some n) is e = let none : codes "records" ∷ [] ≡ [] = cc e in cc none
no_word (v ∷ w ∷ ws) (Some n) is e = let none : w ∷ (ws ++ codes "records" ∷ []) ≡ [] = cc e in cc none

-- the last words of a service tell its patience, and whether its calls are recorded
closing_same : (p q : Option ℕ) (r t : Bool) → IsPatience (patience_in p) → IsPatience (patience_in q) → patience_words p ++ records_words r ≡ patience_words q ++ records_words t → (p ≡ q) × (r ≡ t)
closing_same p q true true is is_too e = (patience_same p q is is_too (append_cancel_right (patience_words p) (patience_words q) (codes "records" ∷ []) e), refl)
closing_same p q false false is is_too e = (patience_same p q is is_too (append_cancel_right (patience_words p) (patience_words q) [] e), refl)
closing_same p q true false is is_too e = absurd (no_word (patience_words p) q is_too e)
closing_same p q false true is is_too e = absurd (no_word (patience_words q) p is (sym e))

-- words are no last words of a service whose front is no patience
pub no_closing : (words front : List (List ℕ)) (recorded : Bool) → words ≡ front ++ records_words recorded → (recorded ≡ false → (others : List (List ℕ)) → words ≡ others ++ records_words true → ⊥)
    → ((patience : Option ℕ) → IsPatience (patience_in patience) → front ≡ patience_words patience → ⊥) → (patience : Option ℕ) (records : Bool) → IsPatience (patience_in patience)
    → words ≡ patience_words patience ++ records_words records → ⊥
no_closing words front true are others none patience true is e = none patience is (append_cancel_right front (patience_words patience) (codes "records" ∷ []) (sym are ∙ e))
no_closing words front true are others none patience false is e = no_word front patience is (sym are ∙ e)
no_closing words front false are others none patience true is e = others refl (patience_words patience) e
no_closing words front false are others none patience false is e = none patience is (append_cancel_right front (patience_words patience) [] (sym are ∙ e))

-- a service is told by its words
pub service_told : (address first a w s : List ℕ) (rest : List (List ℕ)) (workers sessions workers_read sessions_read : ℕ) (patience : Option ℕ) (records : Bool) (words : List (List ℕ))
    → words ≡ first ∷ a ∷ w ∷ s ∷ rest → words ≡ serve_words address workers sessions patience records → w ≡ decimal workers_read → s ≡ decimal sessions_read → workers_read < 2 ^ 64 → sessions_read < 2 ^ 64
    → IsService address workers sessions patience → IsAddress a × (1 ≤ workers_read) × (workers_read ≤ 1024) × (1 ≤ sessions_read) × (sessions_read ≤ 65536)
service_told address first a w s rest workers sessions workers_read sessions_read patience records words are told read read_too small small_too within =
    let all = sym are ∙ told in
    let at : a ≡ address = cc all in
    let first_is : w ≡ decimal workers = cc all in
    let second_is : s ≡ decimal sessions = cc all in
    let few = within.workers_are in
    let few_too = within.sessions_are in
    let workers_same : workers_read ≡ workers = same_number workers_read workers small (omega (arith, few)) (sym read ∙ first_is) in
    let sessions_same : sessions_read ≡ sessions = same_number sessions_read sessions small_too (omega (arith, few_too)) (sym read_too ∙ second_is) in
    rw (at, workers_same, sessions_same) (within.address_is, few.0, few.1, few_too.0, few_too.1)

-- the words of `serve` tell what is to be served
pub serve_same : (address : List ℕ) (workers sessions : ℕ) (patience : Option ℕ) (records : Bool) (other : List ℕ) (m n : ℕ) (p : Option ℕ) (r : Bool) → IsService address workers sessions patience → IsService other m n p
    → serve_words address workers sessions patience records ≡ serve_words other m n p r → (address ≡ other) × (workers ≡ m) × (sessions ≡ n) × (patience ≡ p) × (records ≡ r)
serve_same address workers sessions patience records other m n p r within within_too e =
    let at : address ≡ other = cc e in
    let first : decimal workers ≡ decimal m = cc e in
    let second : decimal sessions ≡ decimal n = cc e in
    let rest : patience_words patience ++ records_words records ≡ patience_words p ++ records_words r = cc e in
    let a = within.workers_are in
    let b = within.sessions_are in
    let c = within_too.workers_are in
    let d = within_too.sessions_are in
    let last = closing_same patience p records r within.patience_is within_too.patience_is rest in (
      at,
      same_number workers m (omega (arith, a)) (omega (arith, c)) first,
      same_number sessions n (omega (arith, b)) (omega (arith, d)) second,
      last.0,
      last.1,
    )

-- ---- A service with a log

-- lists that end with two items each are told by these and by what stands before them
pub ends_same : (xs ys : List (List ℕ)) (a b c d : List ℕ) → xs ++ a ∷ b ∷ [] ≡ ys ++ c ∷ d ∷ [] → (xs ≡ ys) × (a ≡ c) × (b ≡ d)
ends_same [] [] a b c d e = (refl, cc e, cc e)
ends_same [] (y ∷ []) a b c d e = let none : [] ≡ d ∷ [] = cc e in absurd (cc none)
ends_same [] (y ∷ z ∷ []) a b c d e = let none : [] ≡ c ∷ d ∷ [] = cc e in absurd (cc none)
ends_same [] (y ∷ z ∷ w ∷ ys) a b c d e = let none : [] ≡ w ∷ (ys ++ c ∷ d ∷ []) = cc e in absurd (cc none)
ends_same (x ∷ []) [] a b c d e = let none : b ∷ [] ≡ [] = cc e in absurd (cc none)
ends_same (x ∷ z ∷ []) [] a b c d e = let none : a ∷ b ∷ [] ≡ [] = cc e in absurd (cc none)
ends_same (x ∷ z ∷ w ∷ xs) [] a b c d e = let none : w ∷ (xs ++ a ∷ b ∷ []) ≡ [] = cc e in absurd (cc none)
ends_same (x ∷ xs) (y ∷ ys) a b c d e =
    let first : x ≡ y = cc e in
    let rest : xs ++ a ∷ b ∷ [] ≡ ys ++ c ∷ d ∷ [] = cc e in
    let same = ends_same xs ys a b c d rest in
    (rw (first, same.0) refl, same.1, same.2)

-- the words of `serve` with a log tell what is to be served, and where the log is
pub logged_same : (address : List ℕ) (workers sessions : ℕ) (patience : Option ℕ) (records : Bool) (log : List ℕ) (other : List ℕ) (m n : ℕ) (p : Option ℕ) (r : Bool) (other_log : List ℕ)
    → IsService address workers sessions patience → IsService other m n p → logged_words address workers sessions patience records log ≡ logged_words other m n p r other_log
    → ((address ≡ other) × (workers ≡ m) × (sessions ≡ n) × (patience ≡ p) × (records ≡ r)) × (log ≡ other_log)
logged_same address workers sessions patience records log other m n p r other_log within within_too e =
    let same = ends_same (serve_words address workers sessions patience records) (serve_words other m n p r) _ log _ other_log e in
    (serve_same address workers sessions patience records other m n p r within within_too same.0, same.2)

-- the texts of words behind which two more stand
pub texts_with_two : (words rest front : List (Bor (List ℕ))) (last word : Bor (List ℕ)) → words ≡ rest ++ last ∷ [] → rest ≡ front ++ word ∷ []
    → map (λ w. w.now) words ≡ map (λ w. w.now) front ++ word.now ∷ last.now ∷ []
texts_with_two words rest front last word e f =
    ap (map (λ w. w.now)) (e ∙ ap (λ r. r ++ last ∷ []) f ∙ append_assoc front (word ∷ []) (last ∷ [])) ∙ map-append (λ w. w.now) front (word ∷ last ∷ [])

-- words whose front is that of no service are those of no service with a log
pub no_logged : (words front : List (List ℕ)) (log : List ℕ) → words ≡ front ++ log_words log
    → ((address : List ℕ) (workers sessions : ℕ) (patience : Option ℕ) (records : Bool) → IsService address workers sessions patience → front ≡ serve_words address workers sessions patience records → ⊥)
    → IsLoggedCall words → ⊥
no_logged words front log are none (address, workers, sessions, patience, records, other, within, is, told) =
    none address workers sessions patience records within (ends_same front (serve_words address workers sessions patience records) _ log _ other (sym are ∙ told)).0

both : (b c : Bool) → (b && c) ≡ true → (b ≡ true) × (c ≡ true)
both true c e = (refl, e)
both false c e = absurd (cc e)

-- bytes that pass a test of low bytes are low
low_bytes : (is : ℕ → Bool) → ((b : ℕ) → is b ≡ true → b < 128) → (bs : List ℕ) → list_all is bs ≡ true → All (λ b. b < 128) bs
low_bytes is low [] h = All-nil (λ b. b < 128)
low_bytes is low (b ∷ bs) h = let parts = both (is b) (list_all is bs) h in All-cons (λ x. x < 128) b bs (low b parts.0) (low_bytes is low bs parts.1)

low_visible : (b : ℕ) → is_secret_byte b ≡ true → b < 128
low_visible b h = grind arith

address_is_text : (address : List ℕ) → IsAddress address → IsUtf8 address
address_is_text address is =
    let all = (both (list_all is_secret_byte address) _ (both (list_all is_secret_byte address && nat_le 1 (length address)) _ is.visible).0).0 in
    IsUtf8-from_ascii address (IsAscii-from_all address (low_bytes is_secret_byte low_visible address all))

low_letter : (b : ℕ) → is_letter b ≡ true → b < 128
low_letter b h = grind arith

low_in_word : (b : ℕ) → is_word_byte b ≡ true → b < 128
low_in_word b h = grind arith

name_is_text : (name : List ℕ) → IsName name → IsUtf8 name
name_is_text [] is = absurd (cc is)
name_is_text (b ∷ bs) is =
    let word = both (is_letter b) (list_all is_word_byte bs) (both (is_word (b ∷ bs)) _ (both (is_word (b ∷ bs) && nat_le (length (b ∷ bs)) 64) _ is).0).0 in
    IsUtf8-from_ascii (b ∷ bs) (IsAscii-from_all (b ∷ bs) (All-cons (λ x. x < 128) b bs (low_letter b word.0) (low_bytes is_word_byte low_in_word bs word.1)))

serve_is_text : IsUtf8 (codes "serve")
unfolding lib.Utf8.encode
serve_is_text = (codes "serve", (refl, refl))

patience_words_are_texts : (patience : Option ℕ) → IsPatience (patience_in patience) → All IsUtf8 (patience_words patience)
patience_words_are_texts None is = All-nil IsUtf8
patience_words_are_texts (Some n) is = All-cons IsUtf8 (decimal n) [] (number_is_text n (omega (arith, is))) (All-nil IsUtf8)

records_is_text : IsUtf8 (codes "records")
unfolding lib.Utf8.encode
records_is_text = (codes "records", (refl, refl))

records_words_are_texts : (records : Bool) → All IsUtf8 (records_words records)
records_words_are_texts true = All-cons IsUtf8 (codes "records") [] records_is_text (All-nil IsUtf8)
records_words_are_texts false = All-nil IsUtf8

serve_words_are_texts : (address : List ℕ) (workers sessions : ℕ) (patience : Option ℕ) (records : Bool) → IsService address workers sessions patience → All IsUtf8 (serve_words address workers sessions patience records)
serve_words_are_texts address workers sessions patience records within =
    let a = within.workers_are in
    let b = within.sessions_are in
    let rest : List (List ℕ) = patience_words patience ++ records_words records in
    All-cons IsUtf8 (codes "serve") (address ∷ decimal workers ∷ decimal sessions ∷ rest) serve_is_text
    (All-cons IsUtf8 address (decimal workers ∷ decimal sessions ∷ rest) (address_is_text address within.address_is)
    (All-cons IsUtf8 (decimal workers) (decimal sessions ∷ rest) (number_is_text workers (omega (arith, a)))
    (All-cons IsUtf8 (decimal sessions) rest (number_is_text sessions (omega (arith, b)))
    (All-append IsUtf8 (patience_words patience) (records_words records) (patience_words_are_texts patience within.patience_is) (records_words_are_texts records)))))

log_is_text : IsUtf8 (codes "log")
unfolding lib.Utf8.encode
log_is_text = (codes "log", (refl, refl))

logged_words_are_texts : (address : List ℕ) (workers sessions : ℕ) (patience : Option ℕ) (records : Bool) (log : List ℕ) → IsService address workers sessions patience → IsAddress log
    → All IsUtf8 (logged_words address workers sessions patience records log)
logged_words_are_texts address workers sessions patience records log within is =
    All-append IsUtf8 (serve_words address workers sessions patience records) (log_words log) (serve_words_are_texts address workers sessions patience records within)
    (All-cons IsUtf8 (codes "log") (log ∷ []) log_is_text (All-cons IsUtf8 log [] (address_is_text log is) (All-nil IsUtf8)))

-- what is not so is not so
pub not_so : (b : Bool) → b ≡ false → IsTrue b → ⊥
not_so true other is = cc other
not_so false other is = cc is

-- a word that is no text is not among texts
pub not_all_texts : {W : Type 0} (g : W → List ℕ) (ws : List W) (w : W) (k : ℕ) → k < length ws → w ≡ get_or ws k w → (IsUtf8 (g w) → ⊥) → All IsUtf8 (map g ws) → ⊥
not_all_texts g ws w k room at n all =
    let within : k < length (map g ws) = omega (arith, length-map ws g, room) in
    let item : get_or (map g ws) k (g w) ≡ g w = get_or-map g ws k w (g w) room ∙ ap g (sym at) in
    n (subst IsUtf8 item (All-get_or IsUtf8 (map g ws) k (g w) within all))

talk_is_text : (input : TalkInput) → IsUtf8 (talk_word input)
unfolding lib.Utf8.encode
talk_is_text RequestLines = (codes "client", (refl, refl))
talk_is_text PeerBundle = (codes "import", (refl, refl))

talk_words_are_texts : (input : TalkInput) (address : List ℕ) → IsAddress address → All IsUtf8 (talk_words input address)
talk_words_are_texts input address is =
    All-cons IsUtf8 (talk_word input) (address ∷ []) (talk_is_text input) (All-cons IsUtf8 address [] (address_is_text address is) (All-nil IsUtf8))

export_is_text : IsUtf8 (codes "export")
unfolding lib.Utf8.encode
export_is_text = (codes "export", (refl, refl))

export_words_are_texts : (name : List ℕ) → IsName name → All IsUtf8 (export_words name)
export_words_are_texts name is =
    All-cons IsUtf8 (codes "export") (name ∷ []) export_is_text (All-cons IsUtf8 name [] (name_is_text name is) (All-nil IsUtf8))

plain_is_text : (command : Command) → IsWithin command → All IsUtf8 (command_words command)
plain_is_text Check within = check_words_are_texts
plain_is_text Script within = script_words_are_texts
plain_is_text Trust within = trust_words_are_texts
plain_is_text Prove within = prove_words_are_texts
plain_is_text Audit within = audit_words_are_texts
plain_is_text Explain within = explain_words_are_texts
plain_is_text Recover within = recover_words_are_texts
plain_is_text Compact within = compact_words_are_texts
plain_is_text (Export name) within = export_words_are_texts name.now within
plain_is_text (Drill number workers calls) within = drill_words_are_texts number workers calls within
plain_is_text (Core number steps) within = core_words_are_texts number steps within

-- words that are not all texts are not those of a command
pub not_command : (words : List (List ℕ)) → (All IsUtf8 words → ⊥) → IsCommand words → ⊥
not_command words n (inl (inl (command, within, e))) = n (rw e (plain_is_text command within))
not_command words n (inl (inr (inl (address, workers, sessions, patience, records, within, e)))) = n (rw e (serve_words_are_texts address workers sessions patience records within))
not_command words n (inl (inr (inr (input, address, is, e)))) = n (rw e (talk_words_are_texts input address is))
not_command words n (inr (address, workers, sessions, patience, records, log, within, is, e)) = n (rw e (logged_words_are_texts address workers sessions patience records log within is))

-- words that are those of no service, of no talk and of no other command are those of no command that needs no log
pub no_command : {words : List (List ℕ)}
    → ((address : List ℕ) (workers sessions : ℕ) (patience : Option ℕ) (records : Bool) → IsService address workers sessions patience → words ≡ serve_words address workers sessions patience records → ⊥)
    → (IsTalkCall words → ⊥) → (IsPlain words → ⊥) → IsUnlogged words → ⊥
no_command service talk plain (inl is) = plain is
no_command service talk plain (inr (inl (address, workers, sessions, patience, records, within, e))) = service address workers sessions patience records within e
no_command service talk plain (inr (inr is)) = talk is

-- one word is the list of its texts
pub one_word : {A : Type 0} (f : A → List ℕ) (due : List ℕ) (ws rest : List A) (w : A) (b : Bool) → ws ≡ w ∷ rest → (length rest == 0) ≡ true
    → IsTrue b ↔ f w ≡ due → IsTrue b ↔ map f ws ≡ due ∷ []
one_word f due ws [] w b e l t = rw e ((λ h. ap (λ x. x ∷ []) (t.0 h)), λ h. t.1 (head_same h))
  where
    head_same : {x y : List ℕ} → x ∷ [] ≡ y ∷ [] → x ≡ y
    head_same e = cc
one_word f due ws (r ∷ rest) w b e l t = let n = (Decides-eqb (length (r ∷ rest)) 0).0 l in absurd (omega (arith, n))
