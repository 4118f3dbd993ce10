-- What the token at the front of a text says of the scopes that it spells.
use Rattle.std.proofs.Common.{◌≡◌, ◌≢◌, ◌<◌, ◌∷◌, [], ℕ, List, length, refl, sym, subst, ◌∙◌, arith}
use Rattle.nal_term.specs.Names.{IsName}
use Rattle.nal_parse.specs.declared.stops.Stop.{Stop}
use Rattle.nal_parse.specs.declared.stops.Stop.TheVariants.{Refused}
use Rattle.nal_parse.specs.declared.stops.Found.TheVariants.{TooDeep}
use Rattle.nal_parse.specs.Tokens.{Lexeme, Cut, next_cut, after_blanks}
use Rattle.nal_parse.specs.Tokens as lexeme
use Rattle.nal_parse.specs.Grammar.{ReadsName, last, ReadsScope, one, several}
use Rattle.nal_parse.specs.Errors.{none, next}
use Rattle.nal_parse.specs.Inner.Reading.{ReadsHere, ReadsMore, IsStopped, IsStopAt, IsWritable, first_lexeme, anything}
use Rattle.nal_parse.proofs.Readings.{Step, level, same_level, one_token, stopped, stopped_deep}
use Rattle.nal_parse.proofs.TermReadings.{name_writable, nothing_between}
use Rattle.nal_parse.proofs.ListReadings.{closes_cut}
use Rattle.nal_parse.proofs.TokenLexemes.{same_lexeme, same_rest}
use Rattle.nal_parse.proofs.Written.{sign_cut, after_space}

pub opens_writable : IsWritable lexeme.opens
opens_writable tail = (40 ∷ 32 ∷ tail, after_space (40 ∷ 32 ∷ tail) ∙ sign_cut 40 (32 ∷ tail) refl refl)

one_from : {n : ℕ} {bytes x a : List ℕ} → next_cut bytes ≡ (lexeme.name x, a) → {xs : List (List ℕ)} {other : List ℕ} → ReadsScope n bytes xs other → (xs ≡ x ∷ []) × (other ≡ a)
one_from e (one f) = let l = same_lexeme f e in (cc, same_rest f e)
one_from e (several lt f r) = let l = same_lexeme f e in cc

-- a name is a scope
pub scope_one : (n : ℕ) (source : List ℕ) {a : List ℕ} (x : List ℕ) → IsName x → next_cut source ≡ (lexeme.name x, a) → ReadsHere anything ReadsScope n source (x ∷ []) a
scope_one n source x ok e = record {
  tokens = lexeme.name x ∷ [];
  begins = next e none;
  writable = (name_writable x ok, tt);
  reads = λ bytes other m le b. one (one_token b);
  only = λ bytes other m le b f. record { reads = one (one_token b); only = λ ys rest r any. one_from (one_token b) r };
}

several_from : {n : ℕ} {bytes a : List ℕ} → next_cut bytes ≡ (lexeme.opens, a) → {xs : List (List ℕ)} {other : List ℕ} → ReadsScope n bytes xs other → (0 < n) × ReadsMore ReadsName [] 0 a xs other
several_from e (one f) = let l = same_lexeme f e in cc
several_from e {xs} {other} (several {a = a'} lt f r) = let p = same_rest f e in (lt, (xs, rw p at r, refl))

-- after an opening bracket the scope is the names of the list
pub scope_several : (n : ℕ) (source : List ℕ) {a : List ℕ} → next_cut source ≡ (lexeme.opens, a) → 0 < n → Step anything (ReadsMore ReadsName []) ReadsScope level n source a
scope_several n source e room = record {
  front = lexeme.opens ∷ [];
  begins = next e none;
  writable = (opens_writable, tt);
  levels = same_level n;
  to = λ bytes other m le b xs rest r. let lt : 0 < m = omega arith in rw r.2 (several lt (one_token b) r.1);
  from = λ bytes other m le b first xs rest r k. (several_from (one_token b) r).1;
}

no_scope : {n : ℕ} {bytes : List ℕ} → first_lexeme bytes ≢ lexeme.opens → ((x : List ℕ) → first_lexeme bytes ≢ lexeme.name x) → {xs : List (List ℕ)} {other : List ℕ} → ReadsScope n bytes xs other → ⊥
no_scope not_open not_name (one {x = x} f) = not_name x (rw (first_lexeme, f) refl)
no_scope not_open not_name (several lt f r) = not_open (rw (first_lexeme, f) refl)

scope_goes_on : (n : ℕ) (tail : List ℕ) → (bytes : List ℕ) × ReadsScope n (32 ∷ bytes) ((97 ∷ []) ∷ []) (32 ∷ tail)
scope_goes_on n tail = let x = name_writable (97 ∷ []) refl tail in (x.0, one x.1)

-- with another token there is no scope
pub scope_nothing : (n : ℕ) (source : List ℕ) (l : Lexeme) → first_lexeme source ≡ l → ((x : List ℕ) → l ≢ lexeme.name x) → l ≢ lexeme.opens → (stop : Stop) → IsStopAt l source stop
    → IsStopped anything ReadsScope n source stop
scope_nothing n source l e not_name not_open stop is =
    stopped anything ReadsScope n source [] source none tt (λ tail. let g = scope_goes_on n tail in (g.0, 32 ∷ g.0, (97 ∷ []) ∷ [], none, g.1)) l e stop is
    (λ bytes other m le b f.
    let first : first_lexeme bytes ≡ l = subst (λ x. first_lexeme x ≡ l) (sym (nothing_between b)) f in
    record { none = λ xs rest r any. no_scope (λ c. not_open (sym first ∙ c)) (λ x c. not_name x (sym first ∙ c)) r })

no_room : {bytes : List ℕ} → first_lexeme bytes ≡ lexeme.opens → {xs : List (List ℕ)} {other : List ℕ} → ReadsScope 0 bytes xs other → ⊥
no_room e (one f) = let g = rw (first_lexeme, f) at e in cc
no_room e (several lt f r) = omega arith

-- with no level left a bracket begins no scope
pub scope_too_deep : (source : List ℕ) → first_lexeme source ≡ lexeme.opens → (stop : Stop) → stop ≡ Refused TooDeep (length (after_blanks source))
    → IsStopped anything ReadsScope 0 source stop
scope_too_deep source e stop is =
    stopped_deep anything ReadsScope 0 source [] source none tt (λ tail. let g = scope_goes_on 0 tail in (g.0, 32 ∷ g.0, (97 ∷ []) ∷ [], none, g.1)) lexeme.opens e refl stop is
    (λ bytes other b f.
    let first : first_lexeme bytes ≡ lexeme.opens = subst (λ x. first_lexeme x ≡ lexeme.opens) (sym (nothing_between b)) f in
    record { none = λ xs rest r any. no_room first r })
    (λ tail.
    let x = name_writable (97 ∷ []) refl (41 ∷ 32 ∷ tail) in
    let o = opens_writable x.0 in
    (1, o.0, 32 ∷ o.0, (97 ∷ []) ∷ [], omega arith, none, rw (first_lexeme, o.1) refl, several (omega arith) o.1 (last (omega arith) x.1 (closes_cut tail))))
