-- What the tokens at the front of a text say of the terms that it spells.
use Rattle.std.proofs.Common.{arith, subst, ◌∙◌, ◌≡◌, ◌≢◌, ◌^◌, ℕ, List, [], ◌∷◌, ◌++◌, length, IsTrue, Some, None, refl, sym}
use Rattle.std.specs.Fmt.{decimal}
use Rattle.std.proofs.lemmas.Bool.{ltb-true}
use Rattle.std.proofs.lemmas.List.{map-append, length-map}
use Rattle.nal_parse.specs.declared.stops.Stop.{Stop}
use Rattle.nal_term.specs.Names.{IsName}
use Rattle.nal_term.specs.declared.terms.Term.{Term}
use Rattle.nal_term.specs.Trees.{TermTree, term_tree, term_trees}
use Rattle.nal_term.specs.Trees as tree
use Rattle.nal_parse.specs.Tokens.{Lexeme, next_cut, lexeme_of}
use Rattle.nal_parse.specs.Tokens as lexeme
use Rattle.nal_parse.specs.Grammar.{ReadsTerm, number, name, text, variable, ReadsParts, done, part}
use Rattle.nal_parse.specs.Errors.{BeginsWith, none, next}
use Rattle.nal_parse.specs.Inner.Reading.{ReadsOnly, ReadsNothing, ReadsHere, IsStopped, IsStopAt, IsWritable, IsWellFormed, Parts, Terms, first_lexeme, first_term, ends_term}
use Rattle.nal_parse.proofs.Written.{name_cut, number_cut, quoted_cut, variable_cut, sign_cut, after_space}
use Rattle.nal_parse.proofs.PrintedTerms.{term_read}
use Rattle.nal_parse.proofs.Readings.{Step, level, same_level, one_token, two_tokens, stopped}
use Rattle.nal_parse.proofs.TokenLexemes.{same_lexeme, same_rest}

-- a term begins with a token that is one, and the rest are its parts
pub ReadsTerm-inverted : {bytes : List ℕ} {t : TermTree} {rest : List ℕ} → ReadsTerm bytes t rest
    → (u : TermTree) × (first_term (next_cut bytes).0 ≡ Some u) × ReadsParts u (next_cut bytes).1 t rest
ReadsTerm-inverted (number e p) = rw e (_, refl, p)
ReadsTerm-inverted (name e p) = rw e (_, refl, p)
ReadsTerm-inverted (text e p) = rw e (_, refl, p)
ReadsTerm-inverted (variable e p) = rw e (_, refl, p)

-- a token that is a term, and its parts, are a term
pub ReadsTerm-made : (l : Lexeme) {bytes a : List ℕ} {u t : TermTree} {rest : List ℕ} → next_cut bytes ≡ (l, a) → first_term l ≡ Some u → ReadsParts u a t rest → ReadsTerm bytes t rest
ReadsTerm-made (lexeme.number n) e f p = number e (let q : tree.number n ≡ _ = cc in rw q p)
ReadsTerm-made (lexeme.name x) e f p = name e (let q : tree.name x ≡ _ = cc in rw q p)
ReadsTerm-made (lexeme.quoted x) e f p = text e (let q : tree.text x ≡ _ = cc in rw q p)
ReadsTerm-made (lexeme.variable x) e f p = variable e (let q : tree.variable x ≡ _ = cc in rw q p)
ReadsTerm-made _ e f p = cc

-- with no dot in front, the parts of a term are none
pub ReadsParts-only_none : {t u : TermTree} {bytes other : List ℕ} → first_lexeme bytes ≢ lexeme.dot → ReadsParts t bytes u other → (u ≡ t) × (other ≡ bytes)
ReadsParts-only_none not_dot done = (refl, refl)
ReadsParts-only_none not_dot (part e f r) = absurd (not_dot (rw (first_lexeme, e) refl))

-- after a dot and a name the parts go on
pub ReadsParts-from_dot : {t u : TermTree} {x bytes a b other : List ℕ} → next_cut bytes ≡ (lexeme.dot, a) → next_cut a ≡ (lexeme.name x, b)
    → ReadsParts t bytes u other → IsTrue (ends_term (first_lexeme other)) → ReadsParts (tree.subprincipal t x) b u other
ReadsParts-from_dot e f done ends = let h = rw (ends_term, first_lexeme, e) at ends in cc
ReadsParts-from_dot {u = u} {x = x} {a = a} {b = b} {other = other} e f (part {a = a'} {b = b'} {x = x'} e' f' r) ends =
    let p : a' ≡ a = same_rest e' e in
    let g = rw p at f' in
    let l = same_lexeme f g in
    let q : x ≡ x' = cc in
    let s : b ≡ b' = same_rest f g in
    rw (q, s) r

-- after a dot without a name nothing is read
pub ReadsParts-not_named : {t u : TermTree} {bytes a other : List ℕ} → next_cut bytes ≡ (lexeme.dot, a) → ((x : List ℕ) → first_lexeme a ≢ lexeme.name x)
    → ReadsParts t bytes u other → IsTrue (ends_term (first_lexeme other)) → ⊥
ReadsParts-not_named e not_name done ends = let h = rw (ends_term, first_lexeme, e) at ends in cc
ReadsParts-not_named {a = a} e not_name (part {a = a'} {x = x'} e' f' r) ends =
    let p : a' ≡ a = same_rest e' e in not_name x' (rw (first_lexeme, ← p, f') refl)

-- a term is read as the parts of its first token
pub ReadsTerm-from_first : {l : Lexeme} {u t : TermTree} (bytes : List ℕ) {a other : List ℕ} → next_cut bytes ≡ (l, a) → first_term l ≡ Some u
    → ((v : TermTree) × (first_term (next_cut bytes).0 ≡ Some v) × ReadsParts v (next_cut bytes).1 t other) → ReadsParts u a t other
ReadsTerm-from_first {u = u} bytes e f i =
    let g = rw e at i.1 in
    let h = rw e at i.2 in
    let p : i.0 ≡ u = cc in
    rw (← p) h

-- tokens that can be written

pub dot_writable : IsWritable lexeme.dot
dot_writable tail = (46 ∷ 32 ∷ tail, after_space (46 ∷ 32 ∷ tail) ∙ sign_cut 46 (32 ∷ tail) refl refl)

pub name_writable : (x : List ℕ) → IsName x → IsWritable (lexeme.name x)
name_writable x ok tail = (x ++ 32 ∷ tail, after_space (x ++ 32 ∷ tail) ∙ name_cut x (32 ∷ tail) ok refl)

pub variable_writable : (x : List ℕ) → IsName x → IsWritable (lexeme.variable x)
variable_writable x ok tail = (63 ∷ x ++ 32 ∷ tail, after_space (63 ∷ x ++ 32 ∷ tail) ∙ variable_cut x (32 ∷ tail) ok refl)

pub first_writable : (l : Lexeme) {u : TermTree} → first_term l ≡ Some u → IsWellFormed l → IsWritable l
first_writable (lexeme.number n) f ok tail = (decimal n ++ 32 ∷ tail, after_space (decimal n ++ 32 ∷ tail) ∙ number_cut n (32 ∷ tail) (ltb-true n (2 ^ 64) ok) refl)
first_writable (lexeme.name x) f ok tail = name_writable x ok tail
first_writable (lexeme.quoted x) f ok tail = (34 ∷ x ++ 34 ∷ 32 ∷ tail, after_space (34 ∷ x ++ 34 ∷ 32 ∷ tail) ∙ quoted_cut x (32 ∷ tail) ok)
first_writable (lexeme.variable x) f ok tail = variable_writable x ok tail
first_writable _ f ok tail = cc

-- some term can be written before any other text
pub term_goes_on : (tail : List ℕ) → (bytes : List ℕ) × ReadsTerm (32 ∷ bytes) (tree.number 0) (32 ∷ tail)
term_goes_on tail = (decimal 0 ++ 32 ∷ tail, term_read (tree.number 0) (omega arith) (32 ∷ decimal 0 ++ 32 ∷ tail) (32 ∷ tail) refl (after_space (decimal 0 ++ 32 ∷ tail)))

-- no token stands between
pub nothing_between : {a b : List ℕ} → BeginsWith a [] b → a ≡ b
nothing_between none = refl

-- Parts

-- with no dot in front the parts are none
pub parts_end : (t : TermTree) (source : List ℕ) (l : Lexeme) → first_lexeme source ≡ l → l ≢ lexeme.dot → ReadsHere ends_term (Parts t) 0 source t source
parts_end t source l first not_dot = record {
  tokens = [];
  begins = none;
  writable = tt;
  reads = λ bytes other m le b. subst (λ x. ReadsParts t bytes t x) (nothing_between b) done;
  only = λ bytes other m le b e. subst (λ x. ReadsOnly ends_term (ReadsParts t bytes) t x) (nothing_between b)
      (ends_there bytes (subst (λ x. first_lexeme x ≡ first_lexeme source) (sym (nothing_between b)) e));
}
  where
    ends_there : (bytes : List ℕ) → first_lexeme bytes ≡ first_lexeme source → ReadsOnly ends_term (ReadsParts t bytes) t bytes
    ends_there bytes e = record { reads = done; only = λ u rest r k. ReadsParts-only_none (λ d. not_dot (sym first ∙ sym e ∙ d)) r }

-- after a dot and a name the parts go on
pub parts_dot : (t : TermTree) (x : List ℕ) {source a b : List ℕ} → IsName x → next_cut source ≡ (lexeme.dot, a) → next_cut a ≡ (lexeme.name x, b) → Step ends_term (Parts (tree.subprincipal t x)) (Parts t) level 0 source b
parts_dot t x ok e f = record {
  front = lexeme.dot ∷ lexeme.name x ∷ [];
  begins = next e (next f none);
  writable = (dot_writable, (name_writable x ok, tt));
  levels = same_level 0;
  to = λ bytes other m le b u rest r. let i = two_tokens b in part i.1 i.2 r;
  from = λ bytes other m le b first u rest r k. let i = two_tokens b in ReadsParts-from_dot i.1 i.2 r k;
}

-- after a dot without a name nothing is read
pub parts_no_name : (t : TermTree) (source a : List ℕ) → next_cut source ≡ (lexeme.dot, a) → (l : Lexeme) → first_lexeme a ≡ l → ((x : List ℕ) → l ≢ lexeme.name x) → (stop : Stop) → IsStopAt l a stop
    → IsStopped ends_term (Parts t) 0 source stop
parts_no_name t source a e l first not_name stop is =
    stopped ends_term (Parts t) 0 source (lexeme.dot ∷ []) a (next e none) (dot_writable, tt)
    (λ tail.
    let x = name_writable (97 ∷ []) refl tail in
    let d = dot_writable x.0 in
    (d.0, 32 ∷ x.0, tree.subprincipal t (97 ∷ []), next d.1 none, part d.1 x.1 done))
    l first stop is
    (λ bytes other m le b f. record { none = λ u rest r k. ReadsParts-not_named (one_token b) (λ x g. not_name x (sym f ∙ g)) r k })

-- Terms

-- a token that is a term is not the end
pub term_not_end : (l : Lexeme) {u : TermTree} → first_term l ≡ Some u → l ≢ lexeme.end
term_not_end l f e = let g = rw e at f in cc

-- a term is read as the parts of its first token
pub term_first : (l : Lexeme) {u : TermTree} {source a : List ℕ} → next_cut source ≡ (l, a) → first_term l ≡ Some u → IsWellFormed l → Step ends_term (Parts u) Terms level 0 source a
term_first l e f ok = record {
  front = l ∷ [];
  begins = next e none;
  writable = (first_writable l f ok, tt);
  levels = same_level 0;
  to = λ bytes other m le b t rest r. ReadsTerm-made l (one_token b) f r;
  from = λ bytes other m le b first t rest r k. ReadsTerm-from_first bytes (one_token b) f (ReadsTerm-inverted r);
}

-- with another token in front no term is read
pub term_not_first : {bytes : List ℕ} (l : Lexeme) → first_lexeme bytes ≡ l → first_term l ≡ None → ReadsNothing ends_term (ReadsTerm bytes)
term_not_first {bytes} l e f = record { none = λ t rest r k. let i = ReadsTerm-inverted r in let g = rw e at i.1 in cc }

pub term_nothing : (source : List ℕ) (l : Lexeme) → first_lexeme source ≡ l → first_term l ≡ None → (stop : Stop) → IsStopAt l source stop → IsStopped ends_term Terms 0 source stop
term_nothing source l first f stop is =
    stopped ends_term Terms 0 source [] source none tt (λ tail. let g = term_goes_on tail in (g.0, 32 ∷ g.0, tree.number 0, none, g.1)) l first stop is
    (λ bytes other m le b e. term_not_first l (subst (λ x. first_lexeme x ≡ l) (sym (nothing_between b)) e) f)

-- the trees of a list that has one term more
pub term_trees-longer : (ts : List Term) (t : Term) (longer : List Term) → longer ≡ ts ++ t ∷ [] → term_trees longer ≡ term_trees ts ++ term_tree t ∷ []
term_trees-longer ts t longer e = rw (e, map-append) refl

-- as many trees as terms
pub length-term_trees : (ts : List Term) → length (term_trees ts) ≡ length ts
length-term_trees ts = length-map ts term_tree
