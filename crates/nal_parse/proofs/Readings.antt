-- Readings of one kind from those of another.
use Rattle.std.proofs.Common.{◌≡◌, ◌<◌, ◌≤◌, ◌+◌, ◌-◌, ◌++◌, ◌∷◌, [], sym, ap, refl, subst, ◌∙◌, arith, length, ℕ, List, Bool, false, IsTrue, Result, Ok, Err}
use Rattle.nal_parse.specs.declared.stops.Stop.{Stop}
use Rattle.nal_parse.specs.declared.stops.Stop.TheVariants.{Refused, Memory}
use Rattle.nal_parse.specs.declared.stops.Found.{Found}
use Rattle.nal_parse.specs.declared.stops.Found.TheVariants.{TooDeep}
use Rattle.nal_parse.specs.Tokens.{Lexeme, next_cut, after_blanks}
use Rattle.nal_parse.specs.Errors.{BeginsWith, none, next}
use Rattle.nal_parse.proofs.TokenLexemes.{same_rest}
use Rattle.nal_parse.specs.Inner.Reading.{Readings, ReadsOnly, ReadsNothing, ReadsHere, StopsHere, IsReading, IsStopped, IsStopAt, IsFound, AreWritable, ReadsMade, first_lexeme, is_malformed}

-- the second kind reads what the first reads, and nothing else that a lexeme ends
pub record SameReadings {A : Type 0} (ends : Lexeme → Bool) (R S : A → List ℕ → Type 0) : Type 0 where
  pub to : (b : A) (other : List ℕ) → R b other → S b other
  pub from : (b : A) (other : List ℕ) → S b other → IsTrue (ends (first_lexeme other)) → R b other

-- Tokens

pub begins_append : {a b c : List ℕ} {xs ys : List Lexeme} → BeginsWith a xs b → BeginsWith b ys c → BeginsWith a (xs ++ ys) c
begins_append none k = k
begins_append (next e h) k = next e (begins_append h k)

pub begins_split : (xs : List Lexeme) {ys : List Lexeme} {a c : List ℕ} → BeginsWith a (xs ++ ys) c → (b : List ℕ) × BeginsWith a xs b × BeginsWith b ys c
begins_split [] h = (_, none, h)
begins_split (x ∷ xs) (next e h) = let i = begins_split xs h in (i.0, next e i.1, i.2)

-- texts that begin with the same tokens, and go on with the same token, begin with the same token
pub begins_first : (xs : List Lexeme) {a b c d : List ℕ} → BeginsWith a xs b → BeginsWith c xs d → first_lexeme b ≡ first_lexeme d → first_lexeme a ≡ first_lexeme c
begins_first [] none none e = e
begins_first (x ∷ xs) (next f h) (next g k) e = rw (first_lexeme, f, g) refl

pub begins_same : (xs : List Lexeme) {a b c : List ℕ} → BeginsWith a xs b → BeginsWith a xs c → b ≡ c
begins_same [] none none = refl
begins_same (x ∷ xs) (next {a = p} f h) (next {a = q} g k) = let e : p ≡ q = same_rest f g in begins_same xs (rw e at h) k

pub one_token : {bytes other : List ℕ} {l : Lexeme} → BeginsWith bytes (l ∷ []) other → next_cut bytes ≡ (l, other)
one_token (next e none) = e

pub two_tokens : {bytes other : List ℕ} {l m : Lexeme} → BeginsWith bytes (l ∷ m ∷ []) other → (a : List ℕ) × (next_cut bytes ≡ (l, a)) × (next_cut a ≡ (m, other))
two_tokens (next e (next f none)) = (_, e, f)

pub first_after : {bytes other : List ℕ} {l : Lexeme} {ls : List Lexeme} → BeginsWith bytes (l ∷ ls) other → first_lexeme bytes ≡ l
first_after (next e h) = rw (first_lexeme, e) refl

pub writable_append : (xs ys : List Lexeme) → AreWritable xs → AreWritable ys → AreWritable (xs ++ ys)
writable_append [] ys h k = k
writable_append (x ∷ xs) ys h k = (h.0, writable_append xs ys h.1 k)

-- tokens that can be written in front of any text
pub written : (xs : List Lexeme) → AreWritable xs → (tail : List ℕ) → (bytes : List ℕ) × BeginsWith (32 ∷ bytes) xs (32 ∷ tail)
written [] w tail = (tail, none)
written (x ∷ xs) w tail = let others = written xs w.1 tail in let front = w.0 others.0 in (front.0, next front.1 others.1)

-- A reading behind tokens

-- as many levels behind the tokens as before them, or one less
abbrev pub level : ℕ → ℕ
level m = m

abbrev pub below : ℕ → ℕ
below m = m - 1

-- more levels before the tokens are more behind them, and each number of levels from that of n on can be had
pub record Lowers (low : ℕ → ℕ) (n : ℕ) : Type 0 where
  pub more : (m : ℕ) → n ≤ m → low n ≤ low m
  pub raise : (k : ℕ) → low n ≤ k → (m : ℕ) × (n ≤ m) × (low m ≡ k)

pub same_level : (n : ℕ) → Lowers level n
same_level n = record { more = λ m le. le; raise = λ k le. (k, le, refl) }

pub one_level : (n : ℕ) → 0 < n → Lowers below n
one_level n room = record { more = λ m le. omega arith; raise = λ k le. (k + 1, omega arith, omega arith) }

-- what is read with these levels behind the tokens in front of a text is what is read from it, in this text and in
-- every other one with these tokens
pub record Step {A : Type 0} (ends : Lexeme → Bool) (Q S : Readings A) (low : ℕ → ℕ) (n : ℕ) (text mid : List ℕ) : Type 0 where
  pub front : List Lexeme
  pub begins : BeginsWith text front mid
  pub writable : AreWritable front
  pub levels : Lowers low n
  pub to : (bytes other : List ℕ) (m : ℕ) → n ≤ m → BeginsWith bytes front other → (b : A) (rest : List ℕ) → Q (low m) other b rest → S m bytes b rest
  pub from : (bytes other : List ℕ) (m : ℕ) → n ≤ m → BeginsWith bytes front other → first_lexeme other ≡ first_lexeme mid → (b : A) (rest : List ℕ) → S m bytes b rest
      → IsTrue (ends (first_lexeme rest)) → Q (low m) other b rest

module _ {A : Type 0} {ends : Lexeme → Bool} {Q S : Readings A} {low : ℕ → ℕ} {n : ℕ} {text mid : List ℕ} (s : Step ends Q S low n text mid) where
  pub step_reads : {a : A} {rest : List ℕ} → ReadsHere ends Q (low n) mid a rest → ReadsHere ends S n text a rest
  step_reads {a} {rest} r = record {
    tokens = s.front ++ r.tokens;
    begins = begins_append s.begins r.begins;
    writable = writable_append s.front r.tokens s.writable r.writable;
    reads = λ bytes other m le b.
        let i = begins_split s.front b in
        s.to bytes i.0 m le i.1 a other (r.reads i.0 other (low m) (s.levels.more m le) i.2);
    only = λ bytes other m le b e.
        let i = begins_split s.front b in
        let o = r.only i.0 other (low m) (s.levels.more m le) i.2 e in
        let f = begins_first r.tokens i.2 r.begins e in
        record {
          reads = s.to bytes i.0 m le i.1 a other o.reads;
          only = λ c tail h k. o.only c tail (s.from bytes i.0 m le i.1 f c tail h k) k;
        };
  }

  pub step_stops : {found : Found} {left : ℕ} → StopsHere ends Q (low n) mid found left → StopsHere ends S n text found left
  step_stops {found} {left} r = record {
    tokens = s.front ++ r.tokens;
    stop = r.stop;
    begins = begins_append s.begins r.begins;
    writable = writable_append s.front r.tokens s.writable r.writable;
    place = r.place;
    kind = r.kind;
    refuses = λ bytes other m le deep b e.
        let i = begins_split s.front b in
        let f = begins_first r.tokens i.2 r.begins e in
        let o = r.refuses i.0 other (low m) (s.levels.more m le) (λ t. ap low (deep t)) i.2 e in
        record { none = λ c tail h k. o.none c tail (s.from bytes i.0 m le i.1 f c tail h k) k };
    goes_on = λ tail.
        let g = r.goes_on tail in
        let w = written s.front s.writable g.0 in
        (w.0, g.1, g.2, begins_append w.1 g.3, s.to (32 ∷ w.0) (32 ∷ g.0) n (omega arith) w.1 g.2 (32 ∷ tail) g.4);
    deeper = λ t tail.
        let g = r.deeper t tail in
        let up = s.levels.raise g.0 g.4 in
        let w = written s.front s.writable g.1 in (
          up.0,
          w.0,
          g.2,
          g.3,
          up.1,
          begins_append w.1 g.5,
          g.6,
          s.to (32 ∷ w.0) (32 ∷ g.1) up.0 up.1 w.1 g.3 (32 ∷ tail) (subst (λ k. Q k (32 ∷ g.1) g.3 (32 ∷ tail)) (sym up.2) g.7),
        );
  }

  pub step_stopped : (stop : Stop) → IsStopped ends Q (low n) mid stop → IsStopped ends S n text stop
  step_stopped (Refused found left) r = step_stops r
  step_stopped Memory r = tt

  pub step_reading : {T : Type 0} (tree_of : T → A) (rest : List ℕ) (result : Result T Stop) → IsReading tree_of ends Q (low n) mid rest result → IsReading tree_of ends S n text rest result
  step_reading tree_of rest (Ok a) r = step_reads r
  step_reading tree_of rest (Err stop) r = step_stopped stop r

-- no token between
pub no_step : {A : Type 0} {ends : Lexeme → Bool} (Q : Readings A) (n : ℕ) (text : List ℕ) → Step ends Q Q level n text text
no_step {ends = ends} Q n text = record {
  front = [];
  begins = none;
  writable = tt;
  levels = same_level n;
  to = λ bytes other m le b c rest r. subst (λ x. Q m x c rest) (sym (same b)) r;
  from = λ bytes other m le b e c rest r k. subst (λ x. Q m x c rest) (same b) r;
}
  where
    same : {a b : List ℕ} → BeginsWith a [] b → a ≡ b
    same none = refl

-- two steps, one after the other, of which the second keeps the levels
pub steps : {A : Type 0} {ends : Lexeme → Bool} {P Q S : Readings A} {low : ℕ → ℕ} {n : ℕ} {text mid last : List ℕ} → Step ends Q S low n text mid → Step ends P Q level (low n) mid last → Step ends P S low n text last
steps s t = record {
  front = s.front ++ t.front;
  begins = begins_append s.begins t.begins;
  writable = writable_append s.front t.front s.writable t.writable;
  levels = s.levels;
  to = λ bytes other m le b c rest r.
      let i = begins_split s.front b in
      s.to bytes i.0 m le i.1 c rest (t.to i.0 other _ (s.levels.more m le) i.2 c rest r);
  from = λ bytes other m le b e c rest r k.
      let i = begins_split s.front b in
      let f = begins_first t.front i.2 t.begins e in
      t.from i.0 other _ (s.levels.more m le) i.2 e c rest (s.from bytes i.0 m le i.1 f c rest r k) k;
}

-- A stop of a first part

-- where nothing of the first part is read, nothing of the whole is; and where the first part is read, the whole is, with
-- a fitting rest
pub record Handed {A B : Type 0} (ends ends' : Lexeme → Bool) (P : Readings B) (S : Readings A) (n : ℕ) : Type 0 where
  pub nothing : (bytes : List ℕ) (m : ℕ) → n ≤ m → ReadsNothing ends (P m bytes) → ReadsNothing ends' (S m bytes)
  pub completes : (tail : List ℕ) → (longer : List ℕ) × ((bytes : List ℕ) (m : ℕ) (b : B) → n ≤ m → P m bytes b (32 ∷ longer) → (a : A) × S m bytes a (32 ∷ tail))

pub handed : {A B : Type 0} {ends ends' : Lexeme → Bool} {P : Readings B} {S : Readings A} {n : ℕ} {text : List ℕ} → Handed ends ends' P S n → {found : Found} {left : ℕ}
    → StopsHere ends P n text found left → StopsHere ends' S n text found left
handed {n = n} h r = record {
  tokens = r.tokens;
  stop = r.stop;
  begins = r.begins;
  writable = r.writable;
  place = r.place;
  kind = r.kind;
  refuses = λ bytes other m le deep b e. h.nothing bytes m le (r.refuses bytes other m le deep b e);
  goes_on = λ tail.
      let c = h.completes tail in
      let g = r.goes_on c.0 in
      let w = c.1 (32 ∷ g.0) n g.2 (omega arith) g.4 in
      (g.0, g.1, w.0, g.3, w.1);
  deeper = λ t tail.
      let c = h.completes tail in
      let g = r.deeper t c.0 in
      let w = c.1 (32 ∷ g.1) g.0 g.3 g.4 g.7 in
      (g.0, g.1, g.2, w.0, g.4, g.5, g.6, w.1);
}

pub handed_stop : {A B : Type 0} {ends ends' : Lexeme → Bool} {P : Readings B} {S : Readings A} {n : ℕ} (text : List ℕ) → Handed ends ends' P S n → (stop : Stop)
    → IsStopped ends P n text stop → IsStopped ends' S n text stop
handed_stop text h (Refused found left) r = handed h r
handed_stop text h Memory r = tt

-- What is made of a part

pub made_only : {A B : Type 0} (make : A → B) {ends : Lexeme → Bool} (R : Readings A) (m : ℕ) (bytes : List ℕ) {a : A} {rest : List ℕ} → ReadsOnly ends (R m bytes) a rest
    → ReadsOnly ends (ReadsMade make R m bytes) (make a) rest
made_only make R m bytes {a = a} r = record {
  reads = (a, r.reads, refl);
  only = λ c other h ends. let o = r.only h.0 other h.1 ends in (h.2 ∙ ap make o.0, o.1);
}

pub made_reads : {A B : Type 0} (make : A → B) {ends : Lexeme → Bool} {R : Readings A} {n : ℕ} {text : List ℕ} {a : A} {rest : List ℕ} (b : B) → b ≡ make a
    → ReadsHere ends R n text a rest → ReadsHere ends (ReadsMade make R) n text b rest
made_reads {A} {B} make {ends} {R} {n} {text} {a} {rest} b e r = subst (λ x. ReadsHere ends (ReadsMade make R) n text x rest) (sym e) (record {
  tokens = r.tokens;
  begins = r.begins;
  writable = r.writable;
  reads = λ bytes other m le h. (a, r.reads bytes other m le h, refl);
  only = λ bytes other m le h f. made_only make R m bytes (r.only bytes other m le h f);
})

pub made_handed : {A B : Type 0} (make : A → B) (ends : Lexeme → Bool) (R : Readings A) (n : ℕ) → Handed ends ends R (ReadsMade make R) n
made_handed make ends R n = record {
  nothing = λ bytes m le h. record { none = λ c other k e. h.none k.0 other k.1 e };
  completes = λ tail. (tail, λ bytes m b le r. (make b, (b, r, refl)));
}

-- What stops more lexemes reads as much

pub narrow_only : {A : Type 0} {ends ends' : Lexeme → Bool} {R : A → List ℕ → Type 0} {a : A} {rest : List ℕ} → ((l : Lexeme) → IsTrue (ends' l) → IsTrue (ends l)) → ReadsOnly ends R a rest → ReadsOnly ends' R a rest
narrow_only h r = record { reads = r.reads; only = λ b other s e. r.only b other s (h _ e) }

pub narrow_reads : {A : Type 0} {ends ends' : Lexeme → Bool} {R : Readings A} {n : ℕ} {text : List ℕ} {a : A} {rest : List ℕ} → ((l : Lexeme) → IsTrue (ends' l) → IsTrue (ends l)) → ReadsHere ends R n text a rest
    → ReadsHere ends' R n text a rest
narrow_reads h r = record {
  tokens = r.tokens;
  begins = r.begins;
  writable = r.writable;
  reads = r.reads;
  only = λ bytes other m le b e. narrow_only h (r.only bytes other m le b e);
}

pub narrow_handed : {A : Type 0} {ends ends' : Lexeme → Bool} (R : Readings A) (n : ℕ) → ((l : Lexeme) → IsTrue (ends' l) → IsTrue (ends l)) → Handed ends ends' R R n
narrow_handed R n h = record {
  nothing = λ bytes m le k. record { none = λ b other s e. k.none b other s (h _ e) };
  completes = λ tail. (tail, λ bytes m b le s. (b, s));
}

pub narrow_reading : {T A : Type 0} (tree_of : T → A) (ends ends' : Lexeme → Bool) (R : Readings A) (n : ℕ) (text rest : List ℕ) (result : Result T Stop)
    → ((l : Lexeme) → IsTrue (ends' l) → IsTrue (ends l)) → IsReading tree_of ends R n text rest result → IsReading tree_of ends' R n text rest result
narrow_reading tree_of ends ends' R n text rest (Ok a) h r = narrow_reads h r
narrow_reading tree_of ends ends' R n text rest (Err (Refused found left)) h r = handed (narrow_handed R n h) r
narrow_reading tree_of ends ends' R n text rest (Err Memory) h r = tt

-- levels that are not looked at
pub at_level : {T A : Type 0} (tree_of : T → A) (ends : Lexeme → Bool) (R : Readings A) → ((m k : ℕ) (bytes : List ℕ) (a : A) (rest : List ℕ) → R m bytes a rest → R k bytes a rest)
    → (n k : ℕ) (text rest : List ℕ) (result : Result T Stop) → IsReading tree_of ends R n text rest result → IsReading tree_of ends R k text rest result
at_level tree_of ends R same n k text rest (Ok p) r = record {
  tokens = r.tokens;
  begins = r.begins;
  writable = r.writable;
  reads = λ bytes other m le b. same n m bytes _ other (r.reads bytes other n (omega arith) b);
  only = λ bytes other m le b e.
      let o = r.only bytes other n (omega arith) b e in record { reads = same n m bytes _ other o.reads; only = λ c tail s i. o.only c tail (same m n bytes c tail s) i };
}
at_level tree_of ends R same n k text rest (Err (Refused found left)) r = record {
  tokens = r.tokens;
  stop = r.stop;
  begins = r.begins;
  writable = r.writable;
  place = r.place;
  kind = r.kind;
  refuses = λ bytes other m le deep b e.
      let o = r.refuses bytes other n (omega arith) (λ t. refl) b e in record { none = λ c tail s i. o.none c tail (same m n bytes c tail s) i };
  goes_on = λ tail. let g = r.goes_on tail in (g.0, g.1, g.2, g.3, same n k (32 ∷ g.0) g.2 (32 ∷ tail) g.4);
  deeper = λ t tail. let g = r.deeper t tail in (k, g.1, g.2, g.3, omega arith, g.5, g.6, same g.0 k (32 ∷ g.1) g.3 (32 ∷ tail) g.7);
}
at_level tree_of ends R same n k text rest (Err Memory) r = tt

-- Stops at a token

module _ {A : Type 0} (ends : Lexeme → Bool) (R : Readings A) (n : ℕ) (text : List ℕ) (tokens : List Lexeme) (mid : List ℕ) (begins : BeginsWith text tokens mid) (writable : AreWritable tokens)
    (goes_on : (tail : List ℕ) → (bytes : List ℕ) × (other : List ℕ) × (a : A) × BeginsWith (32 ∷ bytes) tokens other × R n (32 ∷ bytes) a (32 ∷ tail)) where
  -- no spelling allows the token behind these
  pub stopped : (l : Lexeme) → first_lexeme mid ≡ l → (stop : Stop) → IsStopAt l mid stop
      → ((bytes other : List ℕ) (m : ℕ) → n ≤ m → BeginsWith bytes tokens other → first_lexeme other ≡ l → ReadsNothing ends (R m bytes)) → IsStopped ends R n text stop
  stopped l first stop is refuses = subst (λ s. IsStopped ends R n text s) (sym is.3) (record {
    tokens = tokens;
    stop = mid;
    begins = begins;
    writable = writable;
    place = refl;
    kind = subst (λ x. IsFound is.0 x) (sym first) is.1;
    refuses = λ bytes other m le deep b e. refuses bytes other m le b (e ∙ first);
    goes_on = goes_on;
    deeper = λ t. absurd (is.2 t);
  })

  -- the token behind these would open a level too many
  pub stopped_deep : (l : Lexeme) → first_lexeme mid ≡ l → is_malformed l ≡ false → (stop : Stop) → stop ≡ Refused TooDeep (length (after_blanks mid))
      → ((bytes other : List ℕ) → BeginsWith bytes tokens other → first_lexeme other ≡ l → ReadsNothing ends (R n bytes))
      → ((tail : List ℕ) → (m : ℕ) × (bytes : List ℕ) × (other : List ℕ) × (a : A) × (n ≤ m) × BeginsWith (32 ∷ bytes) tokens other × (first_lexeme other ≡ l) × R m (32 ∷ bytes) a (32 ∷ tail))
      → IsStopped ends R n text stop
  stopped_deep l first fine stop is refuses deeper = subst (λ s. IsStopped ends R n text s) (sym is) (record {
    tokens = tokens;
    stop = mid;
    begins = begins;
    writable = writable;
    place = refl;
    kind = subst (λ x. is_malformed x ≡ false) (sym first) fine;
    refuses = λ bytes other m le deep b e.
        let q = deep refl in subst (λ k. ReadsNothing ends (R k bytes)) (sym q) (refuses bytes other b (e ∙ first));
    goes_on = goes_on;
    deeper = λ t tail. let g = deeper tail in (g.0, g.1, g.2, g.3, g.4, g.5, g.6 ∙ sym first, g.7);
  })

-- How far a loop is: what is read behind this place is what is read from the text, and so many bytes at least stand between
pub record Reached {A : Type 0} (ends : Lexeme → Bool) (Q S : Readings A) (n : ℕ) (text rest : List ℕ) (least : ℕ) : Type 0 where
  pub step : Step ends Q S level n text rest
  pub within : least + length rest ≤ length text
