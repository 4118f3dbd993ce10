-- The order of all steps, as it grows.
use Rattle.std.proofs.Common.{◌≡◌, ◌≢◌, ◌⊎◌, ℕ, suc, ◌+◌, ◌<◌, ◌≤◌, eqb, List, [], ◌∷◌, ◌++◌, map, set, get_or, refl, sym, ap, ◌∙◌, subst, inl, inr, ⊎_elim, arith, Bool, true, false}
use Rattle.std.specs.Prelude.{All, cond, filter, ◌==◌}
use Rattle.std.proofs.lemmas.List.{append-nil, append_assoc, map-append}
use Rattle.std.proofs.lemmas.List.Elements.{All-append, All-cons, All-nil, filter-append}
use Rattle.std.proofs.lemmas.Bool.{ne_eqb, eq-eqb}
use Rattle.verdict_words.specs.Histories.{IsPrefix, own}
use Rattle.verdict_words.specs.Orders.{leaves, Replays, IsDone, IsOrder, item_steps, trail_steps, loading_steps, found_told, told_of}
use Rattle.verdict_words.specs.Rule.{pass_steps, IsInOrder, IsBookInOrder}
use Rattle.verdict_words.specs.declared.views.AtomicStep.{AtomicStep}
use Rattle.verdict_words.specs.declared.views.Item.{Item}
use Rattle.verdict_words.specs.declared.views.Loading.TheVariants.{Nothing}
use Rattle.verdict_words.specs.declared.views.PassView.{PassView}
use Rattle.verdict_words.specs.declared.views.BookView.{BookView}
use Rattle.verdict_words.proofs.Growing.{prefix_whole, prefix_grows}

-- the function that is x at i
abbrev pub put : {A : Type 0} → (ℕ → A) → ℕ → A → ℕ → A
put f i x j = cond (eqb j i) x (f j)

pub put_here : {A : Type 0} (f : ℕ → A) (i : ℕ) (x : A) → put f i x i ≡ x
put_here f i x = rw (eq-eqb i i refl) refl

pub put_else : {A : Type 0} (f : ℕ → A) (i : ℕ) (x : A) (j : ℕ) → j ≢ i → put f i x j ≡ f j
put_else f i x j ne = rw (ne_eqb j i ne) refl

pub filter_in : {A : Type 0} (f : A → Bool) (xs : List A) (x : A) → f x ≡ true → filter f (xs ++ x ∷ []) ≡ filter f xs ++ x ∷ []
filter_in f xs x e = filter-append f xs (x ∷ []) ∙ ap (λ b. filter f xs ++ cond b (x ∷ []) []) e

pub filter_out : {A : Type 0} (f : A → Bool) (xs : List A) (x : A) → f x ≡ false → filter f (xs ++ x ∷ []) ≡ filter f xs
filter_out f xs x e = filter-append f xs (x ∷ []) ∙ (ap (λ b. filter f xs ++ cond b (x ∷ []) []) e ∙ append-nil (filter f xs))

pub filter_none : {A : Type 0} (f : A → Bool) (xs : List A) → All (λ x. f x ≡ false) xs → filter f xs ≡ []
filter_none f [] none = refl
filter_none f (x ∷ xs) none = ap (λ b. cond b (x ∷ filter f xs) (filter f xs)) (none 0 x (omega arith)) ∙ filter_none f xs (λ k d lt. none (suc k) d (omega arith))

pub all_with : {X : Type 0} (P Q : X → Type 0) (xs : List X) → ((x : X) → P x → Q x) → All P xs → All Q xs
all_with P Q xs f all k d lt = f _ (all k d lt)

pub all_map : {X Y : Type 0} (P : Y → Type 0) (f : X → Y) (xs : List X) → All (λ x. P (f x)) xs → All P (map f xs)
all_map P f [] all = All-nil P
all_map P f (x ∷ xs) all = All-cons P (f x) (map f xs) (all 0 x (omega arith)) (all_map P f xs (λ k d lt. all (suc k) d (omega arith)))

pub all_snoc : {X : Type 0} (P : X → Type 0) (xs : List X) (x : X) → All P xs → P x → All P (xs ++ x ∷ [])
all_snoc P xs x all last = All-append P xs (x ∷ []) all (All-cons P x [] last (All-nil P))

replays_snoc : (words last : List ℕ) (order : List AtomicStep) (x : AtomicStep) → Replays words order last → x.found ≡ get_or last x.word 0
    → Replays words (order ++ x ∷ []) (set last x.word (leaves x.action x.found))
replays_snoc words last [] x is found = subst (λ (w : List ℕ). (x.found ≡ get_or w x.word 0) × (set last x.word (leaves x.action x.found) ≡ set w x.word (leaves x.action x.found))) is (found, refl)
replays_snoc words last (y ∷ ys) x is found = (is.0, replays_snoc (set words y.word (leaves y.action y.found)) last ys x is.1 found)

abbrev by : AtomicStep → ℕ
by step = step.session

-- a step as its session is told of it
abbrev pub as_told : AtomicStep → AtomicStep
as_told step = record step { found = found_told step.action step.found }

told_mine : (order : List AtomicStep) (x : AtomicStep) (s : ℕ) → x.session ≡ s → told_of (order ++ x ∷ []) s ≡ told_of order s ++ as_told x ∷ []
told_mine order x s mine = ap (map as_told) (filter_in (λ (y : AtomicStep). y.session == s) order x (eq-eqb x.session s mine)) ∙ map-append as_told (own by order s) (x ∷ [])

told_other : (order : List AtomicStep) (x : AtomicStep) (s : ℕ) → x.session ≢ s → told_of (order ++ x ∷ []) s ≡ told_of order s
told_other order x s ne = ap (map as_told) (filter_out (λ (y : AtomicStep). y.session == s) order x (ne_eqb x.session s ne))

pub told_none : (order : List AtomicStep) (s : ℕ) → All (λ (x : AtomicStep). x.session ≢ s) order → told_of order s ≡ []
told_none order s none = ap (map as_told) (filter_none (λ (y : AtomicStep). y.session == s) order (all_with (λ (x : AtomicStep). x.session ≢ s) (λ (x : AtomicStep). x.session == s ≡ false) order (λ x ne. ne_eqb x.session s ne) none))

pub trail_steps_append : (s : ℕ) (xs ys : List Item) → trail_steps s (xs ++ ys) ≡ trail_steps s xs ++ trail_steps s ys
trail_steps_append s [] ys = refl
trail_steps_append s (x ∷ xs) ys = ap (λ l. item_steps s x ++ l) (trail_steps_append s xs ys) ∙ sym (append_assoc (item_steps s x) (trail_steps s xs) (trail_steps s ys))

-- the steps of a trail with one more item
pub trail_steps_snoc : (s : ℕ) (trail : List Item) (item : Item) → trail_steps s (trail ++ item ∷ []) ≡ trail_steps s trail ++ item_steps s item
trail_steps_snoc s trail item = trail_steps_append s trail (item ∷ []) ∙ ap (λ l. trail_steps s trail ++ l) (append-nil (item_steps s item))

-- a pass that makes one step more of a look
pub goes_on : (s : ℕ) (trail : List Item) (old new : List AtomicStep) (x : AtomicStep) → new ≡ old ++ x ∷ [] → trail_steps s trail ++ new ≡ (trail_steps s trail ++ old) ++ x ∷ []
goes_on s trail old new x is = ap (λ l. trail_steps s trail ++ l) is ∙ sym (append_assoc (trail_steps s trail) old (x ∷ []))

-- a step with which an item stands
pub ends : (s : ℕ) (trail : List Item) (item : Item) (old : List AtomicStep) (x : AtomicStep) → item_steps s item ≡ old ++ x ∷ [] → trail_steps s (trail ++ item ∷ []) ++ [] ≡ (trail_steps s trail ++ old) ++ x ∷ []
ends s trail item old x is = append-nil (trail_steps s (trail ++ item ∷ [])) ∙ (trail_steps_snoc s trail item ∙ goes_on s trail old (item_steps s item) x is)

-- a pass that rests tells the steps of its trail
pub at_rest : {E H : Type 0} (p : PassView E H) → p.loading ≡ Nothing → pass_steps p ≡ trail_steps p.session p.trail
at_rest p rests = ap (λ l. trail_steps p.session p.trail ++ loading_steps p.session l) rests ∙ append-nil (trail_steps p.session p.trail)

module _ {E H : Type 0} where
  -- a pass, after a step of another session
  pub in_order_waits : (order : List AtomicStep) (x : AtomicStep) (p : PassView E H) → x.session ≢ p.session → IsInOrder order p → IsInOrder (order ++ x ∷ []) p
  in_order_waits order x p ne ok = record {
    known = prefix_grows p.known order (x ∷ []) ok.known;
    own_steps = told_other order x p.session ne ∙ ok.own_steps;
  }

  -- a pass, after its own step
  pub in_order_steps : (order : List AtomicStep) (x : AtomicStep) (p q : PassView E H) → q.session ≡ p.session → x.session ≡ p.session → IsPrefix q.known (order ++ x ∷ []) → pass_steps q ≡ pass_steps p ++ as_told x ∷ []
      → IsInOrder order p → IsInOrder (order ++ x ∷ []) q
  in_order_steps order x p q same mine known gains ok = record {
    known = known;
    own_steps = ap (told_of (order ++ x ∷ [])) same ∙ (told_mine order x p.session mine ∙ (ap (λ l. l ++ as_told x ∷ []) ok.own_steps ∙ sym gains));
  }

  -- the book, after a step of a session
  pub book_waits : (order : List AtomicStep) (x : AtomicStep) (b : BookView E H) → x.session ≢ 0 → IsBookInOrder order b → IsBookInOrder (order ++ x ∷ []) b
  book_waits order x b ne ok = record {
    known = prefix_grows b.known order (x ∷ []) ok.known;
    own_steps = filter_out (λ (y : AtomicStep). y.session == 0) order x (ne_eqb x.session 0 ne) ∙ ok.own_steps;
  }

  -- a book that knows all
  pub book_knows : (order : List AtomicStep) (b : BookView E H) → b.known ≡ order → IsBookInOrder order b
  book_knows order b is = record {
    known = subst (λ (l : List AtomicStep). IsPrefix l order) (sym is) (prefix_whole order);
    own_steps = ap (λ (l : List AtomicStep). own by l 0) (sym is);
  }

-- the order, after one step more
pub order_grows : (opening first next : ℕ) (order : List AtomicStep) (words : List ℕ) (x : AtomicStep) → x.found ≡ get_or words x.word 0 → IsDone x.action x.session x.word
    → (x.session ≡ 0) ⊎ ((first ≤ x.session) × (x.session < next)) → IsOrder opening first next order words → IsOrder opening first next (order ++ x ∷ []) (set words x.word (leaves x.action x.found))
order_grows opening first next order words x found done within ok = record {
  replays = replays_snoc _ words order x ok.replays found;
  done = all_snoc (λ (y : AtomicStep). IsDone y.action y.session y.word) order x ok.done done;
  within = all_snoc (λ (y : AtomicStep). (y.session ≡ 0) ⊎ ((first ≤ y.session) × (y.session < next))) order x ok.within within;
}

-- there is one session more
pub order_next : (opening first next : ℕ) (order : List AtomicStep) (words : List ℕ) → IsOrder opening first next order words → IsOrder opening first (next + 1) order words
order_next opening first next order words ok = record {
  replays = ok.replays;
  done = ok.done;
  within = all_with (λ (y : AtomicStep). (y.session ≡ 0) ⊎ ((first ≤ y.session) × (y.session < next))) (λ (y : AtomicStep). (y.session ≡ 0) ⊎ ((first ≤ y.session) × (y.session < next + 1))) order
      (λ y in_range. ⊎_elim (λ none. inl none) (λ t. let l = t.1 in inr (t.0, omega arith)) in_range) ok.within;
}

-- the next session has made no step yet
pub none_of_next : (opening first next : ℕ) (order : List AtomicStep) (words : List ℕ) → 1 ≤ next → IsOrder opening first next order words → told_of order next ≡ []
none_of_next opening first next order words some ok = told_none order next (all_with (λ (y : AtomicStep). (y.session ≡ 0) ⊎ ((first ≤ y.session) × (y.session < next))) (λ (y : AtomicStep). y.session ≢ next) order
    (λ y in_range e. ⊎_elim (λ none. absurd (omega arith)) (λ t. let l = t.1 in absurd (omega arith)) in_range) ok.within)

-- with no session, and no step of the owner, there is no step
pub no_steps : (first : ℕ) (order : List AtomicStep) → 1 ≤ first → All (λ (y : AtomicStep). (y.session ≡ 0) ⊎ ((first ≤ y.session) × (y.session < first))) order → own by order 0 ≡ [] → order ≡ []
no_steps first [] some within none = refl
no_steps first (x ∷ xs) some within none = ⊎_elim
    (λ e. absurd (cc (sym (ap (λ b. cond b (x ∷ own by xs 0) (own by xs 0)) (eq-eqb x.session 0 e)) ∙ none)))
    (λ t. let a = t.0 in let b = t.1 in absurd (omega arith))
    (within 0 x (omega arith))
