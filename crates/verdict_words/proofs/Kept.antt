-- The rule is kept where one seat's view changes, and the words with it.
use Rattle.std.proofs.Common.{◌≡◌, ◌≢◌, ℕ, zero, suc, ◌+◌, ◌<◌, ◌≤◌, List, [], ◌∷◌, ◌++◌, length, take, set, get_or, refl, sym, ap, ◌∙◌, subst, inl, inr, ⊎_elim, arith, length-set, get_or-set_other, get_or-set_same, Bool, true, false, true≢false}
use Rattle.std.specs.Prelude.{All}
use Rattle.std.proofs.lemmas.List.Elements.{All-append, All-cons, All-nil}
use mathlib.Core.Logic.{dite}
use mathlib.Core.Option.{some, none}
use mathlib.Core.Option as maybe
use native.Mathlib.Decide.{ℕ_discrete}
use lib.ListN.{get_elem?}
use lib.Seq.{set-get_or}
use Rattle.atomic_table.specs.Table.{State}
use Rattle.atomic_table.proofs.Lists.{at_set, set_here, set_else}
use Rattle.verdict_words.specs.Histories.{IsPrefix, Untouched}
use Rattle.verdict_words.specs.Words.{Sound, object_region, store_region, slot_count, first_register, first_region, region_word}
use Rattle.verdict_words.specs.Orders.{leaves, IsDone}
use Rattle.verdict_words.specs.Rule.{met_after, last_met, pass_steps, IsInOrder, IsLoaded, IsLoading, PassOk, RegionOk, WordsOk, ViewOk, HasPass, IsKept}
use Rattle.verdict_words.specs.declared.views.AtomicStep.{AtomicStep}
use Rattle.verdict_words.specs.declared.places.Held.{Held}
use Rattle.verdict_words.specs.declared.views.Origin.{Origin}
use Rattle.verdict_words.specs.declared.views.Item.{Item}
use Rattle.verdict_words.specs.declared.views.Item.TheVariants.{Loaded, Met, Filled, Ran}
use Rattle.verdict_words.specs.declared.views.Loading.{Loading}
use Rattle.verdict_words.specs.declared.views.Loading.TheVariants.{Nothing}
use Rattle.verdict_words.specs.declared.views.PassView.{PassView}
use Rattle.verdict_words.specs.declared.views.BookView.{BookView}
use Rattle.verdict_words.specs.declared.views.View.{View}
use Rattle.verdict_words.specs.declared.views.View.TheVariants.{Book, Pass, Spent}
use Rattle.verdict_words.proofs.Growing.{prefix_whole, prefix_length, prefix_take}
use Rattle.verdict_words.proofs.Ordering.{put, put_else, as_told, in_order_waits, in_order_steps, book_waits, order_grows}

pub met_append : (n : ℕ) (xs ys : List Item) → met_after n (xs ++ ys) ≡ met_after (met_after n xs) ys
met_append n [] ys = refl
met_append n (Met m ∷ xs) ys = met_append m xs ys
met_append n (Loaded place slot count object store ∷ xs) ys = met_append n xs ys
met_append n (Filled case at held ∷ xs) ys = met_append n xs ys
met_append n (Ran object step value ∷ xs) ys = met_append n xs ys

pub All-with : {X : Type 0} (P Q : X → Type 0) (xs : List X) → ((x : X) → P x → Q x) → All P xs → All Q xs
All-with P Q xs f all k d lt = f _ (all k d lt)

pub All-snoc : {X : Type 0} (P : X → Type 0) (xs : List X) (x : X) → All P xs → P x → All P (xs ++ x ∷ [])
All-snoc P xs x all last = All-append P xs (x ∷ []) all (All-cons P x [] last (All-nil P))

pub there_below : {A : Type 0} (l : List A) (i : ℕ) (a : A) → get_elem? l i ≡ some a → i < length l
there_below [] i a e = absurd (maybe.some-ne-none a (sym e))
there_below (x ∷ xs) zero a e = omega arith
there_below (x ∷ xs) (suc i) a e = let h = there_below xs i a e in omega arith

module _ {E H : Type 0} where
  abbrev is_book : maybe.Option (View E H) → Bool
  is_book none = false
  is_book (some (Book b)) = true
  is_book (some (Pass p)) = false
  is_book (some Spent) = false

  pub apart : (x : maybe.Option (View E H)) (b : BookView E H) (p : PassView E H) → x ≡ some (Book b) → x ≡ some (Pass p) → ⊥
  apart x b p e f = true≢false (sym (ap is_book e) ∙ ap is_book f)

  abbrev pass_or : PassView E H → maybe.Option (View E H) → PassView E H
  pass_or d none = d
  pass_or d (some (Book b)) = d
  pass_or d (some (Pass p)) = p
  pass_or d (some Spent) = d

  pub view_once : (p q : PassView E H) → some (Pass p) ≡ some (Pass q) → p ≡ q
  view_once p q e = ap (pass_or p) e

  -- a property of each seat's view, where one changes
  pub each_set : (K : ℕ → View E H → Type 0) (vs : List (View E H)) (me : ℕ) (w : View E H) → K me w → ((j : ℕ) (v : View E H) → j ≢ me → get_elem? vs j ≡ some v → K j v)
      → (j : ℕ) (v : View E H) → get_elem? (set vs me w) j ≡ some v → K j v
  each_set K vs me w mine others j v e = ⊎_elim (λ (t : (j ≡ me) × (w ≡ v)). subst (λ (x : ℕ × View E H). K x.0 x.1) (λ i. (sym t.0 i, t.1 i)) mine)
      (λ (t : (j ≢ me) × (get_elem? vs j ≡ some v)). others j v t.0 t.1) (at_set vs me j w v e)

module _ {E : Type 0} (right : List E → ℕ → Held → Type 0) where
  pub sound_grows : (xs ys : List E) (word : ℕ) → IsPrefix xs ys → Sound right xs word → Sound right ys word
  sound_grows xs ys word p sound = elim sound [
    | inl z ↦ inl z
    | inr t ↦ inr (t.0, t.1, t.2, t.3, (let l = prefix_length xs ys p in let a = t.4 in omega arith), subst (λ (l : List E). right l t.0 t.2) (sym (prefix_take xs ys t.1 p t.4)) t.5)
  ]

module _ {E : Type 0} (right : List E → ℕ → Held → Type 0) (touches : List E → E → ℕ → Type 0) where
  -- what was loaded stays as it was while more is seen
  pub loaded_grows : (xs ys : List E) → IsPrefix xs ys → (item : Item) → IsLoaded right touches xs item → IsLoaded right touches ys item
  loaded_grows xs ys p (Loaded place slot count object store) ok =
      let same : take count xs ≡ take count ys = sym (prefix_take xs ys count p ok.0) in (
        (let l = prefix_length xs ys p in let a = ok.0 in omega arith),
        subst (λ (l : List E). Sound right l slot) same ok.1,
        subst (λ (l : List E). Untouched touches l object (object_region place.object)) same ok.2,
        subst (λ (l : List E). Untouched touches l store (store_region place.store)) same ok.3,
      )
  loaded_grows xs ys p (Met n) ok = tt
  loaded_grows xs ys p (Filled case at held) ok = tt
  loaded_grows xs ys p (Ran object step value) ok = tt

module _ {E H : Type 0} (session : E → ℕ) (right : List E → ℕ → Held → Type 0) (touches : List E → E → ℕ → Type 0) (o : Origin E H) where
  abbrev St : Type 0
  St = State (Unit {0}) (View E H)

  abbrev K : St → Type 0
  K = IsKept session right touches o

  abbrev P : BookView E H → PassView E H → Type 0
  P = PassOk session right touches o

  abbrev W : BookView E H → List ℕ → Type 0
  W = WordsOk right touches

  -- what is known of the pass of a seat
  pub known_pass : (s : St) (k : K s) (id : ℕ) (p : PassView E H) → get_elem? s.views id ≡ some (Pass p) → (k.holder p.session ≡ id) × IsInOrder k.order p × P k.book p
  known_pass s k id p at = k.views_ok id (Pass p) at

  abbrev V : BookView E H → ℕ → (ℕ → ℕ) → List AtomicStep → ℕ → View E H → Type 0
  V = ViewOk session right touches o

  -- what is known of the view of another seat, where one session makes a step
  other_waits : (b : BookView E H) (seat : ℕ) (holder : ℕ → ℕ) (order : List AtomicStep) (x : AtomicStep) (j : ℕ) (v : View E H) → j ≢ holder x.session → V b seat holder order j v → V b seat holder (order ++ x ∷ []) j v
  other_waits b seat holder order x j (Book d) ne ok = ok
  other_waits b seat holder order x j (Pass p) ne ok = (ok.0, in_order_waits order x p (λ e. ne (sym ok.0 ∙ ap holder (sym e))) ok.1, ok.2)
  other_waits b seat holder order x j Spent ne ok = tt

  -- a session has a pass, also where a pass makes a step
  stays_present : (views : List (View E H)) (held : List (PassView E H)) (j n id : ℕ) (p q : PassView E H) → get_elem? views id ≡ some (Pass p) → q.session ≡ p.session
      → HasPass views held j n → HasPass (set views id (Pass q)) held j n
  stays_present views held j n id p q at same (r, is, inr in_held) = (r, is, inr in_held)
  stays_present views held j n id p q at same (r, is, inl there) = dite (ℕ_discrete j id)
      (λ e. let one : p ≡ r = view_once p r (sym at ∙ (ap (get_elem? views) (sym e) ∙ there)) in
      (q, same ∙ (ap (λ (z : PassView E H). z.session) one ∙ is), inl (ap (get_elem? (set views id (Pass q))) e ∙ set_here views id (Pass q) (there_below views id (Pass p) at))))
      (λ ne. (r, is, inl (set_else views id j (Pass q) ne ∙ there)))

  -- and where one session's pass moves
  pub other_holder : (b : BookView E H) (seat : ℕ) (holder : ℕ → ℕ) (order : List AtomicStep) (n x : ℕ) (j : ℕ) (v : View E H) → j ≢ holder n → V b seat holder order j v → V b seat (put holder n x) order j v
  other_holder b seat holder order n x j (Book d) ne ok = ok
  other_holder b seat holder order n x j (Pass p) ne ok = (put_else holder n x p.session (λ e. ne (sym ok.0 ∙ ap holder e)) ∙ ok.0, ok.1, ok.2)
  other_holder b seat holder order n x j Spent ne ok = tt

  -- a step of a pass
  pub pass_step : (s : St) (k : K s) (id : ℕ) (p q : PassView E H) (x : AtomicStep) → get_elem? s.views id ≡ some (Pass p) → q.session ≡ p.session → x.session ≡ p.session
      → x.found ≡ get_or s.words x.word 0 → (x.session ≢ 0 → IsDone x.action x.session x.word) → IsPrefix q.known (k.order ++ x ∷ []) → pass_steps q ≡ pass_steps p ++ as_told x ∷ []
      → P k.book q → W k.book (set s.words x.word (leaves x.action x.found))
      → K record { words = set s.words x.word (leaves x.action x.found); homes = s.homes; views = set s.views id (Pass q) }
  pass_step s k id p q x at same mine found done knows gains ok words_ok =
      let known = known_pass s k id p at in
      let some : x.session ≢ 0 = λ e. let low = known.2.above in let one = k.book_ok.seated.counted in absurd (omega arith) in
      let order : List AtomicStep = k.order ++ x ∷ [] in
      let range : (o.first ≤ x.session) × (x.session < k.book.next) = subst (λ n. (o.first ≤ n) × (n < k.book.next)) (sym mine) (known.2.above, known.2.below) in
      let far : (j : ℕ) → j ≢ id → j ≢ k.holder x.session = λ j ne z. ne (z ∙ (ap k.holder mine ∙ known.0)) in
      let seat_apart : k.seat ≢ id = λ e. apart (get_elem? s.views k.seat) k.book p k.place (ap (get_elem? s.views) e ∙ at) in record {
        seat = k.seat;
        book = k.book;
        holder = k.holder;
        order = order;
        place = set_else s.views id k.seat (Pass q) seat_apart ∙ k.place;
        book_ok = k.book_ok;
        words_ok = words_ok;
        order_ok = order_grows (length o.opening) o.first k.book.next k.order s.words x found (done some) (inr range) k.order_ok;
        book_in = book_waits k.order x k.book some k.book_in;
        views_ok = each_set (V k.book k.seat k.holder order) s.views id (Pass q) (ap k.holder same ∙ known.0, in_order_steps k.order x p q same mine knows gains known.1, ok)
            (λ j v ne e. other_waits k.book k.seat k.holder k.order x j v (far j ne) (k.views_ok j v e));
        held_ok = All-with (λ h. (h.loading ≡ Nothing) × V k.book k.seat k.holder k.order k.seat (Pass h)) (λ h. (h.loading ≡ Nothing) × V k.book k.seat k.holder order k.seat (Pass h)) k.book.held
            (λ h u. (u.0, other_waits k.book k.seat k.holder k.order x k.seat (Pass h) (far k.seat seat_apart) u.1)) k.held_ok;
        apart = k.apart;
        present = λ n low high. stays_present s.views k.book.held (k.holder n) n id p q at same (k.present n low high);
      }

  -- the words after a load
  pub words_loaded : (book : BookView E H) (words : List ℕ) (i : ℕ) → W book words → W book (set words i (get_or words i 0))
  words_loaded book words i ok = subst (W book) (sym (set-get_or words i 0)) ok

  -- the words after a step on a register
  pub words_register : (book : BookView E H) (words : List ℕ) (i x : ℕ) → first_register ≤ i → i < first_region → W book words → W book (set words i x)
  words_register book words i x low high ok = record {
    wide = length-set words i x ∙ ok.wide;
    count = get_or-set_other words i 0 x 0 (λ e. omega arith) ∙ ok.count;
    slots = λ k lt. subst (Sound right book.history) (sym (get_or-set_other words i (1 + k) x 0 (λ e. omega arith))) (ok.slots k lt);
    regions = λ r lt. subst (RegionOk touches book r) (sym (get_or-set_other words i (region_word r) x 0 (λ e. omega arith))) (ok.regions r lt);
  }

  -- the words after a store of a sound word into a slot
  pub words_slot : (book : BookView E H) (words : List ℕ) (c x : ℕ) → c < slot_count → Sound right book.history x → W book words → W book (set words (1 + c) x)
  words_slot book words c x low sound ok = record {
    wide = length-set words (1 + c) x ∙ ok.wide;
    count = get_or-set_other words (1 + c) 0 x 0 (λ e. omega arith) ∙ ok.count;
    slots = λ k lt. dite (ℕ_discrete k c)
        (λ e. subst (Sound right book.history) (sym (ap (λ (z : ℕ). get_or (set words (1 + c) x) (1 + z) 0) e ∙ get_or-set_same words (1 + c) x 0 (let w = ok.wide in omega arith))) sound)
        (λ ne. subst (Sound right book.history) (sym (get_or-set_other words (1 + c) (1 + k) x 0 (λ e. ne (omega arith)))) (ok.slots k lt));
    regions = λ r lt. subst (RegionOk touches book r) (sym (get_or-set_other words (1 + c) (region_word r) x 0 (λ e. omega arith))) (ok.regions r lt);
  }

  -- a pass whose trail gains an item that tells no meeting
  pub pass_gains : (b : BookView E H) (p : PassView E H) (item : Item) → ((n : ℕ) → met_after n (item ∷ []) ≡ n) → IsLoaded right touches p.seen item
      → (known : List AtomicStep) → P b p → P b (record p { trail = p.trail ++ item ∷ []; known = known; loading = Nothing })
  pass_gains b p item quiet loaded known ok =
      let met : last_met (p.trail ++ item ∷ []) ≡ last_met p.trail = met_append 0 p.trail (item ∷ []) ∙ quiet (last_met p.trail) in record {
        same = ok.same;
        begins = ok.begins;
        seen = ok.seen;
        above = ok.above;
        below = ok.below;
        met = rw met ok.met;
        own = λ out. rw met (ok.own out);
        trail = All-snoc (IsLoaded right touches p.seen) p.trail item ok.trail loaded;
        loading = tt;
      }

  -- a pass that loads
  pub pass_loads : (b : BookView E H) (p : PassView E H) (loading : Loading) → IsLoading right touches b.history p.seen loading → (known : List AtomicStep) → P b p → P b (record p { loading = loading; known = known })
  pass_loads b p loading new known ok = record {
    same = ok.same;
    begins = ok.begins;
    seen = ok.seen;
    above = ok.above;
    below = ok.below;
    met = ok.met;
    own = ok.own;
    trail = ok.trail;
    loading = new;
  }

  -- a pass that sees the history
  pub pass_sees : (b : BookView E H) (p : PassView E H) (loading : Loading) → IsPrefix o.opening b.history → IsLoading right touches b.history b.history loading → (known : List AtomicStep) → P b p → P b (record p { seen = b.history; loading = loading; known = known })
  pass_sees b p loading begins new known ok = record {
    same = ok.same;
    begins = begins;
    seen = prefix_whole b.history;
    above = ok.above;
    below = ok.below;
    met = let l = prefix_length p.seen b.history ok.seen in let m = ok.met in omega arith;
    own = ok.own;
    trail = All-with (IsLoaded right touches p.seen) (IsLoaded right touches b.history) p.trail (loaded_grows right touches p.seen b.history ok.seen) ok.trail;
    loading = new;
  }
