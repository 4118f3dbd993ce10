-- Which token a lexeme comes from.
use Rattle.std.proofs.Common.{◌≡◌, ◌≢◌, ℕ, List, refl, sym, ap, ◌∙◌}
use denote.Ref.{Bor}
use Rattle.nal_parse.specs.declared.tokens.Keyword.{Keyword}
use Rattle.nal_parse.specs.declared.tokens.Token.{Token}
use Rattle.nal_parse.specs.declared.tokens.Token.TheVariants as rust
use Rattle.nal_parse.specs.Tokens.{Lexeme, Cut, next_cut, lexeme_of}
use Rattle.nal_parse.specs.Tokens as lexeme

pub no_dot : (t : Token) → (t ≡ rust.Dot → ⊥) → lexeme_of t ≢ lexeme.dot
no_dot rust.Dot h e = h refl
no_dot _ h e = cc

pub no_close : (t : Token) → (t ≡ rust.Close → ⊥) → lexeme_of t ≢ lexeme.closes
no_close rust.Close h e = h refl
no_close _ h e = cc

pub no_comma : (t : Token) → (t ≡ rust.Comma → ⊥) → lexeme_of t ≢ lexeme.comma
no_comma rust.Comma h e = h refl
no_comma _ h e = cc

pub no_open : (t : Token) → (t ≡ rust.Open → ⊥) → lexeme_of t ≢ lexeme.opens
no_open rust.Open h e = h refl
no_open _ h e = cc

pub no_arrow : (t : Token) → (t ≡ rust.Arrow → ⊥) → lexeme_of t ≢ lexeme.arrow
no_arrow rust.Arrow h e = h refl
no_arrow _ h e = cc

pub no_end : (t : Token) → (t ≡ rust.End → ⊥) → lexeme_of t ≢ lexeme.end
no_end rust.End h e = h refl
no_end _ h e = cc

pub no_colon : (t : Token) → (t ≡ rust.Colon → ⊥) → lexeme_of t ≢ lexeme.colon
no_colon rust.Colon h e = h refl
no_colon _ h e = cc

pub no_keyword : (t : Token) → ((k : Keyword) → t ≡ rust.Keyword k → ⊥) → (k : Keyword) → lexeme_of t ≢ lexeme.keyword k
no_keyword (rust.Keyword k) h j e = h k refl
no_keyword _ h j e = cc

pub no_name : (t : Token) → ((x : Bor (List ℕ)) → t ≡ rust.Name x → ⊥) → (x : List ℕ) → lexeme_of t ≢ lexeme.name x
no_name (rust.Name x) h y e = h x refl
no_name _ h y e = cc

-- a cut has one lexeme
pub same_lexeme : {c : Cut} {l l' : Lexeme} {a a' : List ℕ} → c ≡ (l, a) → c ≡ (l', a') → l ≡ l'
same_lexeme e e' = ap (λ (c : Cut). c.0) (sym e ∙ e')

-- and one rest
pub same_rest : {c : Cut} {l l' : Lexeme} {a a' : List ℕ} → c ≡ (l, a) → c ≡ (l', a') → a ≡ a'
same_rest e e' = ap (λ (c : Cut). c.1) (sym e ∙ e')

-- the token that was cut is the first
pub first_of_cut : {l : Lexeme} {a : List ℕ} (bytes : List ℕ) → (l, a) ≡ next_cut bytes → (next_cut bytes).0 ≡ l
first_of_cut bytes e = rw (← e) refl

pub no_variable : (t : Token) → ((x : Bor (List ℕ)) → t ≡ rust.Variable x → ⊥) → (x : List ℕ) → lexeme_of t ≢ lexeme.variable x
no_variable (rust.Variable x) h y e = h x refl
no_variable _ h y e = cc
