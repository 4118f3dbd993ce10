-- Which bytes stand in canonical texts, and with which they begin and end.
use Rattle.std.proofs.Common.{◌≡◌, ◌<◌, ◌^◌, ℕ, List, [], ◌∷◌, ◌++◌, length, map, Bool, true, false, not, nat_lt, IsTrue, All, codes, if◌then◌else◌, refl, sym, ap, subst, ◌∙◌, arith, append_assoc}
use Rattle.std.specs.List.{list_all}
use Rattle.std.specs.Fmt.{decimal}
use Rattle.std.proofs.lemmas.List.Folds.{list_all-append}
use Rattle.std.proofs.lemmas.Fmt.{decimal_nonempty}
use Rattle.nal_term.specs.declared.formulas.Compare.{Compare}
use Rattle.nal_term.specs.declared.formulas.Compare.TheVariants.{Equal, Less, AtMost}
use Rattle.nal_term.specs.Names.{IsName, IsText, is_word_byte, is_digit, is_text_byte}
use Rattle.nal_term.specs.Trees.{TermTree, FormulaTree}
use Rattle.nal_term.specs.Trees as tree
use Rattle.nal_parse.specs.Tokens.{is_blank}
use Rattle.nal_parse.specs.Canonical.{term_text, joined, enclosed, scope_text, comparison_sign, strength, part_text, formula_text, IsSpellable, IsSpellableTerm}
use Rattle.nal_parse.proofs.ForCallers.{both, name_bytes, number_digits, All-first, All-rest}
use Rattle.proof_text.specs.ProofText.{is_cut}

-- no byte cuts the text
abbrev pub IsUncut : List ℕ → Type 0
IsUncut bytes = IsTrue (list_all (λ b. not (is_cut b)) bytes)

-- the first byte is no blank
abbrev pub Starts : List ℕ → Type 0
Starts bytes = (b : ℕ) × (rest : List ℕ) × (bytes ≡ b ∷ rest) × (is_blank b ≡ false)

-- the last byte is no blank
abbrev pub Ends : List ℕ → Type 0
Ends bytes = (front : List ℕ) × (b : ℕ) × (bytes ≡ front ++ b ∷ []) × (is_blank b ≡ false)

pub uncut-append : (xs ys : List ℕ) → IsUncut xs → IsUncut ys → IsUncut (xs ++ ys)
uncut-append xs ys h k = list_all-append (λ b. not (is_cut b)) xs ys ∙ rw (h, k) refl

pub starts-append : (xs ys : List ℕ) → Starts xs → Starts (xs ++ ys)
starts-append xs ys s = (s.0, s.1 ++ ys, ap (λ bs. bs ++ ys) s.2, s.3)

pub ends-append : (xs ys : List ℕ) → Ends ys → Ends (xs ++ ys)
ends-append xs ys e = (xs ++ e.0, e.1, ap (λ bs. xs ++ bs) e.2 ∙ sym (append_assoc xs e.0 (e.1 ∷ [])), e.3)

-- bytes that all pass one test pass a weaker one
weaker : (p q : ℕ → Bool) → ((b : ℕ) → p b ≡ true → q b ≡ true) → (bs : List ℕ) → IsTrue (list_all p bs) → IsTrue (list_all q bs)
weaker p q h [] all = refl
weaker p q h (b ∷ bs) all = let l = both (p b) (list_all p bs) all in rw (h b l.0) (weaker p q h bs l.1)

word-uncut : (b : ℕ) → is_word_byte b ≡ true → not (is_cut b) ≡ true
word-uncut b h = grind arith

word-blank : (b : ℕ) → is_word_byte b ≡ true → is_blank b ≡ false
word-blank b h = grind arith

digit-uncut : (b : ℕ) → is_digit b ≡ true → not (is_cut b) ≡ true
digit-uncut b h = grind arith

digit-blank : (b : ℕ) → is_digit b ≡ true → is_blank b ≡ false
digit-blank b h = grind arith

text-uncut : (b : ℕ) → is_text_byte b ≡ true → not (is_cut b) ≡ true
text-uncut b h = grind arith

-- bytes that all pass a test that blanks do not pass begin and end with no blank
all_starts : (p : ℕ → Bool) → ((b : ℕ) → p b ≡ true → is_blank b ≡ false) → (bs : List ℕ) → 0 < length bs → IsTrue (list_all p bs) → Starts bs
all_starts p h [] some all = absurd (omega arith)
all_starts p h (b ∷ bs) some all = (b, bs, refl, h b (both (p b) (list_all p bs) all).0)

all_ends : (p : ℕ → Bool) → ((b : ℕ) → p b ≡ true → is_blank b ≡ false) → (bs : List ℕ) → 0 < length bs → IsTrue (list_all p bs) → Ends bs
all_ends p h [] some all = absurd (omega arith)
all_ends p h (b ∷ []) some all = ([], b, refl, h b (both (p b) true all).0)
all_ends p h (b ∷ c ∷ bs) some all = ends-append (b ∷ []) (c ∷ bs) (all_ends p h (c ∷ bs) (omega arith) (both (p b) (list_all p (c ∷ bs)) all).1)

name_some : (x : List ℕ) → IsName x → 0 < length x
name_some [] h = cc
name_some (b ∷ bs) h = omega arith

pub words_uncut : (bs : List ℕ) → IsTrue (list_all is_word_byte bs) → IsUncut bs
words_uncut bs h = weaker is_word_byte _ word-uncut bs h

pub name_uncut : (x : List ℕ) → IsName x → IsUncut x
name_uncut x h = words_uncut x (name_bytes x h)

name_starts : (x : List ℕ) → IsName x → Starts x
name_starts x h = all_starts is_word_byte word-blank x (name_some x h) (name_bytes x h)

name_ends : (x : List ℕ) → IsName x → Ends x
name_ends x h = all_ends is_word_byte word-blank x (name_some x h) (name_bytes x h)

pub number_uncut : (n : ℕ) → n < 2 ^ 64 → IsUncut (decimal n)
number_uncut n h = weaker is_digit _ digit-uncut (decimal n) (number_digits n h).0

pub number_starts : (n : ℕ) → n < 2 ^ 64 → Starts (decimal n)
number_starts n h = all_starts is_digit digit-blank (decimal n) (decimal_nonempty n h) (number_digits n h).0

number_ends : (n : ℕ) → n < 2 ^ 64 → Ends (decimal n)
number_ends n h = all_ends is_digit digit-blank (decimal n) (decimal_nonempty n h) (number_digits n h).0

text_uncut : (x : List ℕ) → IsText x → IsUncut x
text_uncut x h = weaker is_text_byte _ text-uncut x (both (list_all is_text_byte x) _ h).0

-- Terms

pub term_uncut : (t : TermTree) → IsSpellableTerm t → IsUncut (term_text t)
term_uncut (tree.number n) ok = number_uncut n ok
term_uncut (tree.name x) ok = name_uncut x ok
term_uncut (tree.text x) ok = uncut-append x (34 ∷ []) (text_uncut x ok) refl
term_uncut (tree.variable x) ok = name_uncut x ok
term_uncut (tree.subprincipal t x) ok = uncut-append (term_text t) (46 ∷ x) (term_uncut t ok.0) (name_uncut x ok.1)

pub term_starts : (t : TermTree) → IsSpellableTerm t → Starts (term_text t)
term_starts (tree.number n) ok = number_starts n ok
term_starts (tree.name x) ok = name_starts x ok
term_starts (tree.text x) ok = (34, x ++ 34 ∷ [], refl, refl)
term_starts (tree.variable x) ok = (63, x, refl, refl)
term_starts (tree.subprincipal t x) ok = starts-append (term_text t) (46 ∷ x) (term_starts t ok.0)

pub term_ends : (t : TermTree) → IsSpellableTerm t → Ends (term_text t)
term_ends (tree.number n) ok = number_ends n ok
term_ends (tree.name x) ok = name_ends x ok
term_ends (tree.text x) ok = (34 ∷ x, 34, refl, refl)
term_ends (tree.variable x) ok = ends-append (63 ∷ []) x (name_ends x ok)
term_ends (tree.subprincipal t x) ok = ends-append (term_text t) (46 ∷ x) (ends-append (46 ∷ []) x (name_ends x ok.1))

module _ {A : Type 0} (IsFine : A → Type 0) (text : A → List ℕ) (fine : (a : A) → IsFine a → IsUncut (text a)) where
  joined_uncut : (xs : List A) → All IsFine xs → IsUncut (joined (map text xs))
  joined_uncut [] ok = refl
  joined_uncut (x ∷ []) ok = fine x (All-first IsFine x [] ok)
  joined_uncut (x ∷ y ∷ ys) ok =
      uncut-append (text x ++ codes ", ") (joined (map text (y ∷ ys))) (uncut-append (text x) (codes ", ") (fine x (All-first IsFine x (y ∷ ys) ok)) refl)
      (joined_uncut (y ∷ ys) (All-rest IsFine x (y ∷ ys) ok))

enclosed_uncut : (bs : List ℕ) → IsUncut bs → IsUncut (enclosed bs)
enclosed_uncut bs h = uncut-append bs (41 ∷ []) h refl

enclosed_ends : (bs : List ℕ) → Ends (enclosed bs)
enclosed_ends bs = (40 ∷ bs, 41, refl, refl)

names_as_texts : (xs : List (List ℕ)) → map (λ (x : List ℕ). x) xs ≡ xs
names_as_texts [] = refl
names_as_texts (x ∷ xs) = ap (λ ys. x ∷ ys) (names_as_texts xs)

scope_uncut : (s : List (List ℕ)) → All IsName s → IsUncut (scope_text s)
scope_uncut [] ok = refl
scope_uncut (x ∷ []) ok = name_uncut x (All-first IsName x [] ok)
scope_uncut (x ∷ y ∷ ys) ok =
    enclosed_uncut (joined (x ∷ y ∷ ys)) (let h = joined_uncut IsName (λ z. z) name_uncut (x ∷ y ∷ ys) ok in subst (λ zs. IsUncut (joined zs)) (names_as_texts (x ∷ y ∷ ys)) h)

scope_ends : (s : List (List ℕ)) → All IsName s → Ends (scope_text s)
scope_ends [] ok = enclosed_ends []
scope_ends (x ∷ []) ok = name_ends x (All-first IsName x [] ok)
scope_ends (x ∷ y ∷ ys) ok = enclosed_ends (joined (x ∷ y ∷ ys))

-- Formulas

-- a part's text has what the formula's text has and its brackets keep
module _ (P : List ℕ → Type 0) (keeps : (bs : List ℕ) → P bs → P (enclosed bs)) where
  part_keeps : (asked : ℕ) (f : FormulaTree) → P (formula_text f) → P (part_text asked f (formula_text f))
  part_keeps asked f h = by (nat_lt (strength f) asked)
    where
      by : (b : Bool) → P (if b then enclosed (formula_text f) else formula_text f)
      by true = keeps (formula_text f) h
      by false = h

part_uncut : (asked : ℕ) (f : FormulaTree) → IsUncut (formula_text f) → IsUncut (part_text asked f (formula_text f))
part_uncut = part_keeps IsUncut enclosed_uncut

part_starts : (asked : ℕ) (f : FormulaTree) → Starts (formula_text f) → Starts (part_text asked f (formula_text f))
part_starts = part_keeps Starts (λ bs h. (40, bs ++ 41 ∷ [], refl, refl))

part_ends : (asked : ℕ) (f : FormulaTree) → Ends (formula_text f) → Ends (part_text asked f (formula_text f))
part_ends = part_keeps Ends (λ bs h. enclosed_ends bs)

sign_uncut : (c : Compare) → IsUncut (comparison_sign c)
sign_uncut Equal = refl
sign_uncut Less = refl
sign_uncut AtMost = refl

three_uncut : (a b c : List ℕ) → IsUncut a → IsUncut b → IsUncut c → IsUncut (a ++ b ++ c)
three_uncut a b c h k l = uncut-append (a ++ b) c (uncut-append a b h k) l

pub formula_uncut : (f : FormulaTree) → IsSpellable f → IsUncut (formula_text f)
formula_uncut tree.verum ok = refl
formula_uncut tree.falsum ok = refl
formula_uncut (tree.atom p []) ok = name_uncut p ok.0
formula_uncut (tree.atom p (t ∷ ts)) ok =
    uncut-append p (enclosed (joined (map term_text (t ∷ ts)))) (name_uncut p ok.0) (enclosed_uncut (joined (map term_text (t ∷ ts))) (joined_uncut IsSpellableTerm term_text term_uncut (t ∷ ts) ok.1))
formula_uncut (tree.test c t u) ok = three_uncut (term_text t) (comparison_sign c) (term_text u) (term_uncut t ok.0) (sign_uncut c) (term_uncut u ok.1)
formula_uncut (tree.and a b) ok = three_uncut (part_text 3 a (formula_text a)) (codes " and ") (part_text 4 b (formula_text b)) (part_uncut 3 a (formula_uncut a ok.0)) refl (part_uncut 4 b (formula_uncut b ok.1))
formula_uncut (tree.or a b) ok = three_uncut (part_text 2 a (formula_text a)) (codes " or ") (part_text 3 b (formula_text b)) (part_uncut 2 a (formula_uncut a ok.0)) refl (part_uncut 3 b (formula_uncut b ok.1))
formula_uncut (tree.implies a b) ok = three_uncut (part_text 2 a (formula_text a)) (codes " => ") (formula_text b) (part_uncut 2 a (formula_uncut a ok.0)) refl (formula_uncut b ok.1)
formula_uncut (tree.forall x a) ok = three_uncut (codes "forall ?" ++ x) (codes " : ") (formula_text a) (name_uncut x ok.0) refl (formula_uncut a ok.1)
formula_uncut (tree.exists x a) ok = three_uncut (codes "exists ?" ++ x) (codes " : ") (formula_text a) (name_uncut x ok.0) refl (formula_uncut a ok.1)
formula_uncut (tree.says t a) ok = three_uncut (term_text t) (codes " says ") (part_text 4 a (formula_text a)) (term_uncut t ok.0) refl (part_uncut 4 a (formula_uncut a ok.1))
formula_uncut (tree.speaks_for t u) ok = three_uncut (term_text t) (codes " speaksfor ") (term_text u) (term_uncut t ok.0) refl (term_uncut u ok.1)
formula_uncut (tree.speaks_for_on t u s) ok =
    three_uncut (term_text t ++ codes " speaksfor " ++ term_text u) (codes " on ") (scope_text s) (three_uncut (term_text t) (codes " speaksfor ") (term_text u) (term_uncut t ok.0) refl (term_uncut u ok.1)) refl (scope_uncut s ok.2)

three_starts : (a b c : List ℕ) → Starts a → Starts (a ++ b ++ c)
three_starts a b c h = starts-append (a ++ b) c (starts-append a b h)

pub formula_starts : (f : FormulaTree) → IsSpellable f → Starts (formula_text f)
formula_starts tree.verum ok = (_, _, refl, refl)
formula_starts tree.falsum ok = (_, _, refl, refl)
formula_starts (tree.atom p []) ok = name_starts p ok.0
formula_starts (tree.atom p (t ∷ ts)) ok = starts-append p _ (name_starts p ok.0)
formula_starts (tree.test c t u) ok = three_starts (term_text t) (comparison_sign c) (term_text u) (term_starts t ok.0)
formula_starts (tree.and a b) ok = three_starts _ (codes " and ") _ (part_starts 3 a (formula_starts a ok.0))
formula_starts (tree.or a b) ok = three_starts _ (codes " or ") _ (part_starts 2 a (formula_starts a ok.0))
formula_starts (tree.implies a b) ok = three_starts _ (codes " => ") _ (part_starts 2 a (formula_starts a ok.0))
formula_starts (tree.forall x a) ok = (_, _, refl, refl)
formula_starts (tree.exists x a) ok = (_, _, refl, refl)
formula_starts (tree.says t a) ok = three_starts _ (codes " says ") _ (term_starts t ok.0)
formula_starts (tree.speaks_for t u) ok = three_starts _ (codes " speaksfor ") _ (term_starts t ok.0)
formula_starts (tree.speaks_for_on t u s) ok = three_starts _ (codes " on ") (scope_text s) (three_starts _ (codes " speaksfor ") _ (term_starts t ok.0))

pub formula_ends : (f : FormulaTree) → IsSpellable f → Ends (formula_text f)
formula_ends tree.verum ok = (codes "tru", 101, refl, refl)
formula_ends tree.falsum ok = (codes "fals", 101, refl, refl)
formula_ends (tree.atom p []) ok = name_ends p ok.0
formula_ends (tree.atom p (t ∷ ts)) ok = ends-append p _ (enclosed_ends _)
formula_ends (tree.test c t u) ok = ends-append (term_text t ++ comparison_sign c) (term_text u) (term_ends u ok.1)
formula_ends (tree.and a b) ok = ends-append _ _ (part_ends 4 b (formula_ends b ok.1))
formula_ends (tree.or a b) ok = ends-append _ _ (part_ends 3 b (formula_ends b ok.1))
formula_ends (tree.implies a b) ok = ends-append _ _ (formula_ends b ok.1)
formula_ends (tree.forall x a) ok = ends-append (codes "forall ?" ++ x ++ codes " : ") (formula_text a) (formula_ends a ok.1)
formula_ends (tree.exists x a) ok = ends-append (codes "exists ?" ++ x ++ codes " : ") (formula_text a) (formula_ends a ok.1)
formula_ends (tree.says t a) ok = ends-append _ _ (part_ends 4 a (formula_ends a ok.1))
formula_ends (tree.speaks_for t u) ok = ends-append _ _ (term_ends u ok.1)
formula_ends (tree.speaks_for_on t u s) ok = ends-append _ _ (scope_ends s ok.2)
