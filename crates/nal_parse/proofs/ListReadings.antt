-- What the tokens after an item of a list say of the lists that a text spells.
use Rattle.std.proofs.Common.{◌≡◌, ◌≢◌, ◌<◌, ◌-◌, ◌+◌, ◌++◌, ◌⊎◌, inl, inr, ℕ, List, [], ◌∷◌, length, Bool, IsTrue, refl, sym, ap, ◌∙◌, arith, append_assoc, length-append, subst}
use Rattle.nal_parse.specs.declared.stops.Stop.{Stop}
use Rattle.nal_term.specs.Names.{IsName}
use Rattle.nal_parse.specs.Tokens.{Lexeme, Cut, next_cut, lexeme_of}
use Rattle.nal_parse.specs.Tokens as lexeme
use Rattle.nal_parse.specs.Grammar.{ReadsList, last, more, ReadsName}
use Rattle.nal_parse.specs.Errors.{BeginsWith, none, next}
use Rattle.nal_parse.specs.Inner.Reading.{Readings, ReadsOnly, ReadsNothing, ReadsHere, ReadsMore, IsStopped, IsStopAt, IsWritable, first_lexeme, anything}
use Rattle.nal_parse.proofs.Readings.{SameReadings, Step, level, same_level, Handed, begins_append, begins_split, one_token, written, writable_append, stopped}
use Rattle.nal_parse.proofs.TermReadings.{name_writable, nothing_between}
use Rattle.nal_parse.proofs.Written.{sign_cut, after_space}
use Rattle.nal_parse.proofs.TokenLexemes.{same_lexeme, same_rest}

-- a list has an item, and after it a closing bracket or a comma and the others
pub record LastItem {A : Type 0} (Item : List ℕ → A → List ℕ → Type 0) (bytes : List ℕ) (xs : List A) (rest : List ℕ) : Type 0 where
  pub x : A
  pub a : List ℕ
  pub item : Item bytes x a
  pub closes : next_cut a ≡ (lexeme.closes, rest)
  pub all : xs ≡ x ∷ []

pub record FirstItem {A : Type 0} (Item : List ℕ → A → List ℕ → Type 0) (k : ℕ) (bytes : List ℕ) (xs : List A) (rest : List ℕ) : Type 0 where
  pub x : A
  pub a : List ℕ
  pub b : List ℕ
  pub others : List A
  pub item : Item bytes x a
  pub comma : next_cut a ≡ (lexeme.comma, b)
  pub goes_on : ReadsList Item (k - 1) b others rest
  pub all : xs ≡ x ∷ others

pub ReadsList-inverted : {A : Type 0} {Item : List ℕ → A → List ℕ → Type 0} {k : ℕ} {bytes : List ℕ} {xs : List A} {rest : List ℕ}
    → ReadsList Item k bytes xs rest → LastItem Item bytes xs rest ⊎ FirstItem Item k bytes xs rest
ReadsList-inverted (last lt item e) = inl (record { x = _; a = _; item = item; closes = e; all = refl })
ReadsList-inverted (more lt item e r) = inr (record { x = _; a = _; b = _; others = _; item = item; comma = e; goes_on = r; all = refl })

module _ {A : Type 0} (Item : List ℕ → A → List ℕ → Type 0) (ends : Lexeme → Bool) (by_closes : IsTrue (ends lexeme.closes)) (by_comma : IsTrue (ends lexeme.comma))
    (before : List A) (bytes : List ℕ) (room : length before < 8) where
  -- without an item there is no list
  pub no_list : ReadsNothing ends (Item bytes) → ReadsNothing anything (ReadsMore Item before 0 bytes)
  no_list n = record {
    none = λ all other m any. elim (ReadsList-inverted m.1) [
      | inl i ↦ n.none i.x i.a i.item (rw (first_lexeme, i.closes) by_closes)
      | inr i ↦ n.none i.x i.a i.item (rw (first_lexeme, i.comma) by_comma)
    ];
  }

  module _ (x : A) (a : List ℕ) (first : ReadsOnly ends (Item bytes) x a) where
    -- an item and a closing bracket end the list
    closed_from : (after : List ℕ) → next_cut a ≡ (lexeme.closes, after) → (all : List A) (other : List ℕ) → ReadsMore Item before 0 bytes all other
        → (all ≡ before ++ x ∷ []) × (other ≡ after)
    closed_from after e all other m = elim (ReadsList-inverted m.1) [
      | inl i ↦
          let only = first.only i.x i.a i.item (rw (first_lexeme, i.closes) by_closes) in
          let closes = rw only.1 at i.closes in
          let q : m.0 ≡ x ∷ [] = i.all ∙ ap (λ y. y ∷ []) only.0 in
          (m.2 ∙ ap (λ ys. before ++ ys) q, same_rest closes e)
      | inr i ↦
          let only = first.only i.x i.a i.item (rw (first_lexeme, i.comma) by_comma) in
          let comma = rw only.1 at i.comma in
          let l = same_lexeme comma e in cc
    ]

    pub closed : (after : List ℕ) → next_cut a ≡ (lexeme.closes, after) → ReadsOnly anything (ReadsMore Item before 0 bytes) (before ++ x ∷ []) after
    closed after e = record {
      reads = (x ∷ [], last (omega arith) first.reads e, refl);
      only = λ all other m any. closed_from after e all other m;
    }

    -- an item and a comma: the list goes on
    more_to : (b : List ℕ) → next_cut a ≡ (lexeme.comma, b) → (all : List A) (other : List ℕ) → ReadsMore Item (before ++ x ∷ []) 0 b all other → ReadsMore Item before 0 bytes all other
    more_to b e all other m =
        let k : 8 - length (before ++ x ∷ []) ≡ 8 - length before - 1 = omega (arith, length-append before (x ∷ [])) in
        (x ∷ m.0, more (omega arith) first.reads e (rw k at m.1), m.2 ∙ append_assoc before (x ∷ []) m.0)

    more_from : (b : List ℕ) → next_cut a ≡ (lexeme.comma, b) → (all : List A) (other : List ℕ) → ReadsMore Item before 0 bytes all other → ReadsMore Item (before ++ x ∷ []) 0 b all other
    more_from b e all other m = elim (ReadsList-inverted m.1) [
      | inl i ↦
          let only = first.only i.x i.a i.item (rw (first_lexeme, i.closes) by_closes) in
          let closes = rw only.1 at i.closes in
          let l = same_lexeme closes e in cc
      | inr i ↦
          let only = first.only i.x i.a i.item (rw (first_lexeme, i.comma) by_comma) in
          let comma = rw only.1 at i.comma in
          let p : i.b ≡ b = same_rest comma e in
          let k : 8 - length before - 1 ≡ 8 - length (before ++ x ∷ []) = omega (arith, length-append before (x ∷ [])) in
          let q : m.0 ≡ x ∷ i.others = i.all ∙ ap (λ y. y ∷ i.others) only.0 in
          (i.others, rw (p, k) at i.goes_on, m.2 ∙ ap (λ ys. before ++ ys) q ∙ sym (append_assoc before (x ∷ []) i.others))
    ]

    pub goes_on : (b : List ℕ) → next_cut a ≡ (lexeme.comma, b) → SameReadings anything (ReadsMore Item (before ++ x ∷ []) 0 b) (ReadsMore Item before 0 bytes)
    goes_on b e = record { to = λ all other m. more_to b e all other m; from = λ all other m any. more_from b e all other m }

    -- an item and neither: there is no list; a comma after the eighth item goes on to no other
    stuck_from : first_lexeme a ≢ lexeme.closes → (first_lexeme a ≡ lexeme.comma → length before + 1 ≡ 8) → (all : List A) (other : List ℕ) → ReadsMore Item before 0 bytes all other → ⊥
    stuck_from not_closes at_most all other m = elim (ReadsList-inverted m.1) [
      | inl i ↦
          let only = first.only i.x i.a i.item (rw (first_lexeme, i.closes) by_closes) in
          let closes = rw only.1 at i.closes in not_closes (rw (first_lexeme, closes) refl)
      | inr i ↦
          let only = first.only i.x i.a i.item (rw (first_lexeme, i.comma) by_comma) in
          let comma = rw only.1 at i.comma in
          let full = at_most (rw (first_lexeme, comma) refl) in
          none_at_zero (8 - length before - 1) (omega arith) i.goes_on
    ]
      where
        none_at_zero : (k : ℕ) {b : List ℕ} {xs : List A} {other : List ℕ} → k ≡ 0 → ReadsList Item k b xs other → ⊥
        none_at_zero k z (last lt item e) = omega arith
        none_at_zero k z (more lt item e r) = omega arith

    pub stuck : first_lexeme a ≢ lexeme.closes → (first_lexeme a ≡ lexeme.comma → length before + 1 ≡ 8) → ReadsNothing anything (ReadsMore Item before 0 bytes)
    stuck not_closes at_most = record { none = λ all other m any. stuck_from not_closes at_most all other m }

pub closes_writable : IsWritable lexeme.closes
closes_writable tail = (41 ∷ 32 ∷ tail, after_space (41 ∷ 32 ∷ tail) ∙ sign_cut 41 (32 ∷ tail) refl refl)

pub comma_writable : IsWritable lexeme.comma
comma_writable tail = (44 ∷ 32 ∷ tail, after_space (44 ∷ 32 ∷ tail) ∙ sign_cut 44 (32 ∷ tail) refl refl)

pub closes_cut : (tail : List ℕ) → next_cut (32 ∷ 41 ∷ 32 ∷ tail) ≡ (lexeme.closes, 32 ∷ tail)
closes_cut tail = after_space (41 ∷ 32 ∷ tail) ∙ sign_cut 41 (32 ∷ tail) refl refl

module _ {A : Type 0} (Item : List ℕ → A → List ℕ → Type 0) (ends : Lexeme → Bool) (by_closes : IsTrue (ends lexeme.closes)) (by_comma : IsTrue (ends lexeme.comma)) where
  -- the items, whatever the levels
  abbrev pub Items : Readings A
  Items n = Item

  module _ (before : List A) (room : length before < 8) where
    -- without an item there is no list, and an item and a closing bracket are one
    pub item_handed : Handed ends anything Items (ReadsMore Item before) 0
    item_handed = record {
      nothing = λ bytes m le h. no_list Item ends by_closes by_comma before bytes room h;
      completes = λ tail. (41 ∷ 32 ∷ tail, λ bytes m b le r. (before ++ b ∷ [], (b ∷ [], last (omega arith) r (closes_cut tail), refl)));
    }

    module _ (source : List ℕ) (x : A) (a : List ℕ) (item : ReadsHere ends Items 0 source x a) where
      -- an item and a closing bracket end the list
      pub list_closed : (after : List ℕ) → next_cut a ≡ (lexeme.closes, after) → ReadsHere anything (ReadsMore Item before) 0 source (before ++ x ∷ []) after
      list_closed after e = record {
        tokens = item.tokens ++ lexeme.closes ∷ [];
        begins = begins_append item.begins (next e none);
        writable = writable_append item.tokens (lexeme.closes ∷ []) item.writable (closes_writable, tt);
        reads = λ bytes other m le b. (closed_at bytes other b).reads;
        only = λ bytes other m le b f. closed_at bytes other b;
      }
        where
          closed_at : (bytes other : List ℕ) → BeginsWith bytes (item.tokens ++ lexeme.closes ∷ []) other → ReadsOnly anything (ReadsMore Item before 0 bytes) (before ++ x ∷ []) other
          closed_at bytes other b =
              let i = begins_split item.tokens b in
              let f = one_token i.2 in
              let first = item.only bytes i.0 0 (omega arith) i.1 (rw (first_lexeme, f, e) refl) in
              closed Item ends by_closes by_comma before bytes room x i.0 first other f

      -- an item and a comma: the list goes on
      pub list_step : (b : List ℕ) → next_cut a ≡ (lexeme.comma, b) → Step anything (ReadsMore Item (before ++ x ∷ [])) (ReadsMore Item before) level 0 source b
      list_step b e = record {
        front = item.tokens ++ lexeme.comma ∷ [];
        begins = begins_append item.begins (next e none);
        writable = writable_append item.tokens (lexeme.comma ∷ []) item.writable (comma_writable, tt);
        levels = same_level 0;
        to = λ bytes other m le h all rest r. (goes_at bytes other h).to all rest r;
        from = λ bytes other m le h f all rest r k. (goes_at bytes other h).from all rest r k;
      }
        where
          goes_at : (bytes other : List ℕ) → BeginsWith bytes (item.tokens ++ lexeme.comma ∷ []) other → SameReadings anything (ReadsMore Item (before ++ x ∷ []) 0 other) (ReadsMore Item before 0 bytes)
          goes_at bytes other h =
              let i = begins_split item.tokens h in
              let f = one_token i.2 in
              let first = item.only bytes i.0 0 (omega arith) i.1 (rw (first_lexeme, f, e) refl) in
              goes_on Item ends by_closes by_comma before bytes room x i.0 first other f

      -- an item and neither, or a comma too many: there is no list
      pub list_stuck : (l : Lexeme) → first_lexeme a ≡ l → l ≢ lexeme.closes → (l ≡ lexeme.comma → length before + 1 ≡ 8) → (stop : Stop) → IsStopAt l a stop
          → IsStopped anything (ReadsMore Item before) 0 source stop
      list_stuck l e not_closes at_most stop is =
          stopped anything (ReadsMore Item before) 0 source item.tokens a item.begins item.writable
          (λ tail.
          let w = written item.tokens item.writable (41 ∷ 32 ∷ tail) in
          (w.0, 32 ∷ 41 ∷ 32 ∷ tail, before ++ x ∷ [], w.1, (x ∷ [], last (omega arith) (item.reads (32 ∷ w.0) (32 ∷ 41 ∷ 32 ∷ tail) 0 (omega arith) w.1) (closes_cut tail), refl)))
          l e stop is
          (λ bytes other m le b f.
          let first = item.only bytes other 0 (omega arith) b (f ∙ sym e) in
          stuck Item ends by_closes by_comma before bytes room x other first (λ c. not_closes (sym f ∙ c)) (λ c. at_most (sym f ∙ c)))

-- the name in front of a text is its first token
ReadsName-same : {c : Cut} {x y a other : List ℕ} → c ≡ (lexeme.name x, a) → c ≡ (lexeme.name y, other) → (y ≡ x) × (other ≡ a)
ReadsName-same e f = let l = same_lexeme f e in (cc, same_rest f e)

pub name_here : (source : List ℕ) {a : List ℕ} (x : List ℕ) → IsName x → next_cut source ≡ (lexeme.name x, a) → ReadsHere anything (Items ReadsName anything refl refl) 0 source x a
name_here source x ok e = record {
  tokens = lexeme.name x ∷ [];
  begins = next e none;
  writable = (name_writable x ok, tt);
  reads = λ bytes other m le b. one_token b;
  only = λ bytes other m le b f. record { reads = one_token b; only = λ y rest r k. ReadsName-same (one_token b) r };
}

-- with another token in front there is no name, and so no list of names
pub names_stuck : (before : List (List ℕ)) → length before < 8 → (source : List ℕ) (l : Lexeme) → first_lexeme source ≡ l → ((x : List ℕ) → l ≢ lexeme.name x) → (stop : Stop) → IsStopAt l source stop
    → IsStopped anything (ReadsMore ReadsName before) 0 source stop
names_stuck before room source l e not_name stop is =
    stopped anything (ReadsMore ReadsName before) 0 source [] source none tt
    (λ tail.
    let x = name_writable (97 ∷ []) refl (41 ∷ 32 ∷ tail) in
    (x.0, 32 ∷ x.0, before ++ (97 ∷ []) ∷ [], none, ((97 ∷ []) ∷ [], last (omega arith) x.1 (closes_cut tail), refl)))
    l e stop is
    (λ bytes other m le b f.
    no_list ReadsName anything refl refl before bytes room
    (record { none = λ y rest r k. not_name y (sym (subst (λ z. first_lexeme z ≡ l) (sym (nothing_between b)) f) ∙ ap (λ (c : Cut). c.0) r) }))

-- with no item so far the list that goes on is the whole list
pub from_none : {A : Type 0} (Item : List ℕ → A → List ℕ → Type 0) (before : List A) (bytes : List ℕ) → before ≡ []
    → SameReadings anything (ReadsMore Item before 0 bytes) (ReadsList Item 8 bytes)
from_none {A} Item before bytes e = rw e (record {
  to = λ all other m. rw m.2 m.1;
  from = λ all other r any. (all, r, refl);
})
