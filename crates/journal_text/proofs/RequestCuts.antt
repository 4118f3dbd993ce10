-- Words without a space, and where a line is cut.
use Rattle.std.proofs.Common.{◌≡◌, ◌≢◌, ◌<◌, ◌+◌, ◌%◌, ◌^◌, ℕ, List, [], ◌∷◌, length, true, nat_le, not, ◌&&◌, IsTrue, refl, sym, ap, ◌∙◌, subst, arith}
use Rattle.std.specs.List.{list_all}
use Rattle.std.specs.Fmt.{decimal}
use Rattle.std.proofs.lemmas.List.Elements.{All-nil, All-cons, All-head, All-tail, All-append}
use Rattle.std.proofs.lemmas.Bool.{and_parts, false≢true}
use Rattle.std.proofs.lemmas.Fmt.{decimal_by_steps}
use Rattle.nal_term.specs.Names.{IsName, is_word, is_word_byte, is_letter, is_reserved}
use Rattle.journal_text.specs.Inner.RequestForms.{HasNoSpace, cut}

abbrev IsNoSpace : ℕ → Type 0
IsNoSpace b = b ≢ 32

-- bytes are cut at their first space in one way
pub one_cut : (a b x y : List ℕ) → HasNoSpace a → HasNoSpace b → cut a x ≡ cut b y → (a ≡ b) × (x ≡ y)
one_cut [] [] x y p q e = (refl, cc)
one_cut [] (d ∷ b) x y p q e = absurd (All-head IsNoSpace d b q (cc))
one_cut (c ∷ a) [] x y p q e = absurd (All-head IsNoSpace c a p (cc))
one_cut (c ∷ a) (d ∷ b) x y p q e =
    let tails : cut a x ≡ cut b y = cc in
    let heads : c ≡ d = cc in
    let r = one_cut a b x y (All-tail IsNoSpace c a p) (All-tail IsNoSpace d b q) tails in
    (ap (λ h. h ∷ a) heads ∙ ap (λ t. d ∷ t) r.0, r.1)

-- what is cut has a space
pub no_cut : (bytes a x : List ℕ) → HasNoSpace bytes → bytes ≢ cut a x
no_cut bytes a x none e = space_in a (subst HasNoSpace e none)
  where
    space_in : (w : List ℕ) → HasNoSpace (cut w x) → ⊥
    space_in [] h = All-head IsNoSpace 32 x h refl
    space_in (c ∷ w) h = space_in w (All-tail IsNoSpace c (cut w x) h)

word_byte_is_no_space : (b : ℕ) → IsTrue (is_word_byte b) → b ≢ 32
word_byte_is_no_space b h e = false≢true (subst (λ x. is_word_byte x ≡ true) e h)

letter_is_no_space : (b : ℕ) → IsTrue (is_letter b) → b ≢ 32
letter_is_no_space b h e = false≢true (subst (λ x. is_letter x ≡ true) e h)

word_bytes_have_no_space : (bs : List ℕ) → IsTrue (list_all is_word_byte bs) → HasNoSpace bs
word_bytes_have_no_space [] h = All-nil IsNoSpace
word_bytes_have_no_space (b ∷ bs) h =
    let r = and_parts (is_word_byte b) (list_all is_word_byte bs) h in
    All-cons IsNoSpace b bs (word_byte_is_no_space b r.0) (word_bytes_have_no_space bs r.1)

-- a name is one word
pub name_has_no_space : (bs : List ℕ) → IsName bs → HasNoSpace bs
name_has_no_space [] h = All-nil IsNoSpace
name_has_no_space (b ∷ bs) h =
    let w = and_parts (is_word (b ∷ bs) && nat_le (length (b ∷ bs)) 64) (not (is_reserved (b ∷ bs))) h in
    let r = and_parts (is_word (b ∷ bs)) (nat_le (length (b ∷ bs)) 64) w.0 in
    let l = and_parts (is_letter b) (list_all is_word_byte bs) r.0 in
    All-cons IsNoSpace b bs (letter_is_no_space b l.0) (word_bytes_have_no_space bs l.1)

-- a number is one word
pub number_has_no_space : (n : ℕ) → n < 2 ^ 64 → HasNoSpace (decimal n)
number_has_no_space n below = decimal_by_steps (λ k ds. HasNoSpace ds)
    (λ k low. All-cons IsNoSpace (48 + k) [] (λ e. absurd (omega (arith, e))) (All-nil IsNoSpace))
    (λ k ds high front. All-append IsNoSpace ds ((48 + k % 10) ∷ []) front (All-cons IsNoSpace (48 + k % 10) [] (λ e. absurd (omega (arith, e))) (All-nil IsNoSpace)))
    n below

-- what was cut at its first space is cut so and in no other way
pub cut_is : (bytes a x b y : List ℕ) → HasNoSpace a × (bytes ≡ cut a x) → HasNoSpace b → bytes ≡ cut b y → (b ≡ a) × (y ≡ x)
cut_is bytes a x b y h none e = one_cut b a y x none h.0 (sym e ∙ h.1)
