-- The letters of answers: they tell one list of answers, and none is a space.
use Rattle.std.proofs.Common.{◌≡◌, ◌≢◌, ◌<◌, ◌≤◌, ℕ, zero, suc, List, [], ◌∷◌, ◌++◌, Bool, true, false, length, map, drop, get_or, codes, Some, refl, sym, ap, ◌∙◌, arith}
use Rattle.std.specs.List.{slice_get}
use Rattle.std.proofs.lemmas.List.Elements.{All-nil, All-cons}
use Rattle.journal_text.specs.Inner.PolicyReading.{IsUnspaced}
use Rattle.audit_check.specs.declared.records.Answers.{Answers}
use Rattle.audit_check.specs.declared.records.Answers.TheVariants.{Known, Unknown}
use Rattle.audit_form.specs.Inner.Reading.{IsAnswersText}
use Rattle.audit_form.specs.RecordLines.{answer_letter, answers_text}

one_letter : (a b : Bool) → answer_letter a ≡ answer_letter b → a ≡ b
one_letter true true e = refl
one_letter true false e = let n : 121 ≡ 110 = e in absurd (omega (arith, n))
one_letter false true e = let n : 110 ≡ 121 = e in absurd (omega (arith, n))
one_letter false false e = refl

-- the byte in front
abbrev front : List ℕ → ℕ
front text = get_or text 0 0

letters_same : (xs ys : List Bool) → map answer_letter xs ≡ map answer_letter ys → xs ≡ ys
letters_same [] [] e = refl
letters_same [] (b ∷ ys) e = absurd (cc e)
letters_same (a ∷ xs) [] e = absurd (cc e)
letters_same (a ∷ xs) (b ∷ ys) e =
    let first : answer_letter a ≡ answer_letter b = ap front e in
    let later : map answer_letter xs ≡ map answer_letter ys = ap (λ (zs : List ℕ). drop 1 zs) e in
    rw (one_letter a b first) (ap (λ (zs : List Bool). b ∷ zs) (letters_same xs ys later))

letter_above : (b : Bool) → 100 < answer_letter b
letter_above true = omega arith
letter_above false = omega arith

no_sign : (n : ℕ) (b : Bool) (bs : List Bool) → n < 100 → n ∷ [] ≡ map answer_letter (b ∷ bs) → ⊥
no_sign n b bs low e = let same : n ≡ answer_letter b = ap front e in let high = letter_above b in omega (arith, low, same, high)

pub one_answers : (a b : Answers) → answers_text a ≡ answers_text b → a ≡ b
one_answers Unknown Unknown e = refl
one_answers Unknown (Known []) e = let n : 63 ≡ 45 = ap front e in absurd (omega (arith, n))
one_answers Unknown (Known (b ∷ bs)) e = absurd (no_sign 63 b bs (omega arith) e)
one_answers (Known []) Unknown e = let n : 45 ≡ 63 = ap front e in absurd (omega (arith, n))
one_answers (Known (b ∷ bs)) Unknown e = absurd (no_sign 63 b bs (omega arith) (sym e))
one_answers (Known []) (Known []) e = refl
one_answers (Known []) (Known (b ∷ bs)) e = absurd (no_sign 45 b bs (omega arith) e)
one_answers (Known (b ∷ bs)) (Known []) e = absurd (no_sign 45 b bs (omega arith) (sym e))
one_answers (Known (a ∷ xs)) (Known (b ∷ ys)) e = ap Known (letters_same (a ∷ xs) (b ∷ ys) e)

above_plain : (n : ℕ) → 32 < n → n ≡ 32 → ⊥
above_plain n high e = omega (arith, high, e)

letters_plain : (bs : List Bool) → IsUnspaced (map answer_letter bs)
letters_plain [] = All-nil (λ b. b ≢ 32)
letters_plain (b ∷ bs) =
    let high = letter_above b in
    All-cons (λ b. b ≢ 32) (answer_letter b) (map answer_letter bs) (above_plain (answer_letter b) (omega (arith, high))) (letters_plain bs)

one_plain : (n : ℕ) → 32 < n → IsUnspaced (n ∷ [])
one_plain n high = All-cons (λ b. b ≢ 32) n [] (above_plain n high) (All-nil (λ b. b ≢ 32))

pub answers_plain : (a : Answers) → IsUnspaced (answers_text a)
answers_plain Unknown = one_plain 63 (omega arith)
answers_plain (Known []) = one_plain 45 (omega arith)
answers_plain (Known (b ∷ bs)) = letters_plain (b ∷ bs)

-- ---- one letter after another

pub map_more : (bs : List Bool) (b : Bool) → map answer_letter (bs ++ b ∷ []) ≡ map answer_letter bs ++ answer_letter b ∷ []
map_more [] b = refl
map_more (a ∷ bs) b = ap (λ (xs : List ℕ). answer_letter a ∷ xs) (map_more bs b)

some_same : {x y : ℕ} → Some x ≡ Some y → x ≡ y
some_same e = cc

-- each byte of letters is a letter
pub letter_at : (text : List ℕ) (bs : List Bool) (i : ℕ) (x : ℕ) → text ≡ map answer_letter bs → slice_get text i ≡ Some x → ((b : Bool) → x ≡ answer_letter b → ⊥) → ⊥
letter_at text [] i x e at none = let n : slice_get [] i ≡ Some x = rw e at at in absurd (cc n)
letter_at [] (b ∷ bs) i x e at none = absurd (cc e)
letter_at (y ∷ text) (b ∷ bs) zero x e at none = let same : y ≡ answer_letter b = ap front e in let here : y ≡ x = some_same at in none b (sym here ∙ same)
letter_at (y ∷ text) (b ∷ bs) (suc i) x e at none = let later : text ≡ map answer_letter bs = ap (λ (zs : List ℕ). drop 1 zs) e in letter_at text bs i x later at none

-- a text of answers, by its first byte and its length
pub given_some : (text : List ℕ) (a : Answers) → IsAnswersText text a → (text ≡ codes "?" → ⊥) → (text ≡ codes "-" → ⊥) → (bs : List Bool) × (text ≡ map answer_letter bs) × (length bs ≤ 16) × (text ≡ [] → ⊥)
given_some text Unknown t unknown none = absurd (unknown t.formed)
given_some text (Known []) t unknown none = absurd (none t.formed)
given_some text (Known (b ∷ bs)) t unknown none = (b ∷ bs, t.formed, t.few, λ q. let f = t.formed in absurd (cc (q, f)))

pub letters_long : (bs : List Bool) → length (map answer_letter bs) ≡ length bs
letters_long [] = refl
letters_long (b ∷ bs) = ap suc (letters_long bs)

pub given_is : (text : List ℕ) (bs : List Bool) → text ≡ map answer_letter bs → (text ≡ [] → ⊥) → length bs ≤ 16 → IsAnswersText text (Known bs)
given_is text [] e some few = absurd (some e)
given_is text (b ∷ bs) e some few = record { formed = e; few = few }
