-- What is printed of a term, or of a list in brackets, is read as it.
use Rattle.std.proofs.Common.{◌≡◌, codes, ◌<◌, ◌≤◌, ◌-◌, ℕ, suc, List, [], ◌∷◌, ◌++◌, length, map, All, refl, sym, ap, ◌∙◌, arith, append_assoc, append-nil}
use Rattle.nal_term.specs.Names.{IsName}
use Rattle.nal_term.specs.Trees.{TermTree}
use Rattle.nal_term.specs.Trees as tree
use Rattle.nal_parse.specs.Tokens.{Lexeme, Cut, next_cut}
use Rattle.nal_parse.specs.Tokens as lexeme
use Rattle.nal_parse.specs.Grammar.{ReadsTerm, number, name, text, variable, ReadsParts, done, part, ReadsList, last, more, ReadsName, ReadsScope, one, several, SpellsTerm}
use Rattle.nal_parse.specs.Canonical.{term_text, joined, enclosed, scope_text, scope_levels, IsSpellableTerm}
use Rattle.nal_parse.proofs.Written.{Breaks, name_cut, number_cut, quoted_cut, variable_cut, sign_cut, after_space, nothing_left}

pub All-first : {A : Type 0} (P : A → Type 0) (x : A) (xs : List A) → All P (x ∷ xs) → P x
All-first P x xs all = all 0 x (omega arith)

pub All-rest : {A : Type 0} (P : A → Type 0) (x : A) (xs : List A) → All P (x ∷ xs) → All P xs
All-rest P x xs all k d h = all (suc k) d (omega arith)

-- the text is cut as one that begins with `front`, which `tail` follows
abbrev pub Begins : List ℕ → List ℕ → List ℕ → Type 0
Begins bytes front tail = next_cut bytes ≡ next_cut (front ++ tail)

-- a front of two pieces is the first piece with a longer tail
pub Begins-apart : (bytes front next tail : List ℕ) → Begins bytes (front ++ next) tail → Begins bytes front (next ++ tail)
Begins-apart bytes front next tail h = h ∙ ap next_cut (append_assoc front next tail)

parts_longer : {t u : TermTree} {x bytes a b rest : List ℕ} → ReadsParts t bytes u a → next_cut a ≡ (lexeme.dot, b) → next_cut b ≡ (lexeme.name x, rest)
    → ReadsParts t bytes (tree.subprincipal u x) rest
parts_longer done e f = part e f done
parts_longer (part e' f' r) e f = part e' f' (parts_longer r e f)

term_longer : {t : TermTree} {x bytes a b rest : List ℕ} → ReadsTerm bytes t a → next_cut a ≡ (lexeme.dot, b) → next_cut b ≡ (lexeme.name x, rest)
    → ReadsTerm bytes (tree.subprincipal t x) rest
term_longer (number c p) e f = number c (parts_longer p e f)
term_longer (name c p) e f = name c (parts_longer p e f)
term_longer (text c p) e f = text c (parts_longer p e f)
term_longer (variable c p) e f = variable c (parts_longer p e f)

-- a term's text is read as the term
pub term_read : (t : TermTree) → IsSpellableTerm t → (bytes tail : List ℕ) → Breaks tail → Begins bytes (term_text t) tail → ReadsTerm bytes t tail
term_read (tree.number n) ok bytes tail stop h = number (h ∙ number_cut n tail ok stop) done
term_read (tree.name x) ok bytes tail stop h = name (h ∙ name_cut x tail ok stop) done
term_read (tree.text x) ok bytes tail stop h = text (h ∙ ap (λ bs. next_cut (34 ∷ bs)) (append_assoc x (34 ∷ []) tail) ∙ quoted_cut x tail ok) done
term_read (tree.variable x) ok bytes tail stop h = variable (h ∙ variable_cut x tail ok stop) done
term_read (tree.subprincipal t x) ok bytes tail stop h =
    term_longer (term_read t ok.0 bytes (46 ∷ x ++ tail) refl (Begins-apart bytes (term_text t) (46 ∷ x) tail h)) (sign_cut 46 (x ++ tail) refl refl) (name_cut x tail ok.1 stop)

-- a front of three pieces is the first piece with a longer tail
pub Begins-apart_twice : (bytes front middle next tail : List ℕ) → Begins bytes (front ++ middle ++ next) tail → Begins bytes front (middle ++ (next ++ tail))
Begins-apart_twice bytes front middle next tail h = Begins-apart bytes front middle (next ++ tail) (Begins-apart bytes (front ++ middle) next tail h)

module _ {A : Type 0} (Item : List ℕ → A → List ℕ → Type 0) (item_text : A → List ℕ) (IsFine : A → Type 0)
    (item_read : (a : A) → IsFine a → (bytes tail : List ℕ) → Breaks tail → Begins bytes (item_text a) tail → Item bytes a tail) where
  -- the items' texts and a closing bracket are read as the list
  pub list_read : (x : A) (xs : List A) → All IsFine (x ∷ xs) → (k : ℕ) → length (x ∷ xs) ≤ k → (bytes tail : List ℕ) → Begins bytes (joined (map item_text (x ∷ xs))) (41 ∷ tail)
      → ReadsList Item k bytes (x ∷ xs) tail
  list_read x [] ok k room bytes tail h = last (omega arith) (item_read x (All-first IsFine x [] ok) bytes (41 ∷ tail) refl h) (sign_cut 41 tail refl refl)
  list_read x (y ∷ ys) ok k room bytes tail h =
      let others = joined (map item_text (y ∷ ys)) in
      more (omega arith) (item_read x (All-first IsFine x (y ∷ ys) ok) bytes (44 ∷ 32 ∷ others ++ 41 ∷ tail) refl (Begins-apart_twice bytes (item_text x) (codes ", ") others (41 ∷ tail) h))
      (sign_cut 44 (32 ∷ others ++ 41 ∷ tail) refl refl)
      (list_read y ys (All-rest IsFine x (y ∷ ys) ok) (k - 1) (omega arith) (32 ∷ others ++ 41 ∷ tail) tail (after_space (others ++ 41 ∷ tail)))

-- a list in brackets, after the opening one
pub enclosed_apart : (bytes inner tail : List ℕ) → Begins bytes (enclosed inner) tail → next_cut bytes ≡ (lexeme.opens, inner ++ 41 ∷ tail)
enclosed_apart bytes inner tail h = h ∙ ap (λ bs. next_cut (40 ∷ bs)) (append_assoc inner (41 ∷ []) tail) ∙ sign_cut 40 (inner ++ 41 ∷ tail) refl refl

name_read : (x : List ℕ) → IsName x → (bytes tail : List ℕ) → Breaks tail → Begins bytes x tail → ReadsName bytes x tail
name_read x ok bytes tail stop h = h ∙ name_cut x tail ok stop

names_as_texts : (xs : List (List ℕ)) → map (λ (x : List ℕ). x) xs ≡ xs
names_as_texts [] = refl
names_as_texts (x ∷ xs) = ap (λ ys. x ∷ ys) (names_as_texts xs)

-- a scope's text is read as the scope
pub scope_read : (s : List (List ℕ)) → All IsName s → 0 < length s → length s ≤ 8 → (n : ℕ) → scope_levels s ≤ n → (bytes tail : List ℕ) → Breaks tail → Begins bytes (scope_text s) tail
    → ReadsScope n bytes s tail
scope_read [] ok some few n room bytes tail stop h = absurd (omega arith)
scope_read (x ∷ []) ok some few n room bytes tail stop h = one (h ∙ name_cut x tail (All-first IsName x [] ok) stop)
scope_read (x ∷ y ∷ ys) ok some few n room bytes tail stop h =
    let all = x ∷ y ∷ ys in
    several (omega arith) (enclosed_apart bytes (joined all) tail h)
    (list_read ReadsName (λ z. z) IsName name_read x (y ∷ ys) ok 8 few (joined all ++ 41 ∷ tail) tail (ap (λ zs. next_cut (joined zs ++ 41 ∷ tail)) (sym (names_as_texts all))))

-- a term's text spells it
pub term_text_spells : (t : TermTree) → IsSpellableTerm t → SpellsTerm (term_text t) t
term_text_spells t ok = ([], term_read t ok (term_text t) [] refl (ap next_cut (sym (append-nil (term_text t)))), nothing_left)
