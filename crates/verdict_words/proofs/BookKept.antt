-- The rule is kept where the view of the book's seat changes, and what each step of that seat owes.
use Rattle.std.proofs.Common.{◌≡◌, ◌≢◌, ◌⊎◌, ℕ, zero, suc, ◌+◌, ◌-◌, ◌%◌, ◌^◌, ◌<◌, ◌≤◌, List, [], ◌∷◌, ◌++◌, length, set, get_or, refl, sym, ap, ◌∙◌, subst, inl, inr, ⊎_elim, arith, length-append, length-set, get_or-set_other, get_or-set_same, Option, Some, None, Bool, true, false, true≢false}
use Rattle.std.specs.Prelude.{All, ◌↔◌}
use Rattle.std.proofs.lemmas.List.{append_assoc}
use mathlib.Core.Logic.{dite}
use mathlib.Core.Option.{some, none, some-injective, some-ne-none}
use native.Mathlib.Decide.{ℕ_discrete}
use lib.ListN.{get_elem?}
use Rattle.atomic_table.specs.Table.{State, Me, step, keeps, Allows}
use Rattle.atomic_table.proofs.Lists.{set_here, set_else}
use Rattle.verdict_words.specs.Histories.{EachFrom, Untouched}
use Rattle.verdict_words.specs.Words.{most_entries, Sound, region_count, first_region, region_word}
use Rattle.verdict_words.specs.Orders.{leaves, IsDone, IsOrder, Steps, stores, publishes}
use Rattle.verdict_words.specs.declared.views.AtomicStep.{AtomicStep}
use Rattle.verdict_words.specs.Rule.{last_met, IsInOrder, IsBookInOrder, Apart, IsLoading, PassOk, IsSeated, BookOk, WasRaised, RegionOk, WordsOk, ViewOk, HasPass, IsKept}
use Rattle.verdict_words.specs.Inner.Steps.{On, ForSaid, after_entry, raised_region, published}
use Rattle.verdict_words.specs.declared.places.Held.{Held}
use Rattle.verdict_words.specs.declared.views.Origin.{Origin}
use Rattle.verdict_words.specs.declared.views.Loading.{Loading}
use Rattle.verdict_words.specs.declared.views.Loading.TheVariants.{Nothing, Slot, Count, Object}
use Rattle.verdict_words.specs.declared.views.PassView.{PassView}
use Rattle.verdict_words.specs.declared.views.BookView.{BookView}
use Rattle.verdict_words.specs.declared.views.View.{View}
use Rattle.verdict_words.specs.declared.views.View.TheVariants.{Book, Pass, Spent}
use Rattle.verdict_words.proofs.Growing.{prefix_grows, prefix_length, each_none, each_snoc}
use Rattle.verdict_words.proofs.Kept.{apart, there_below, sound_grows, each_set, All-with}
use Rattle.verdict_words.proofs.Ordering.{in_order_waits, book_knows, order_grows}

-- an item of a list with one more at its end stands in the list, or is the last
pub at_last_or_before : {A : Type 0} (l : List A) (a b : A) (j : ℕ) → get_elem? (l ++ a ∷ []) j ≡ some b → (get_elem? l j ≡ some b) ⊎ ((j ≡ length l) × (a ≡ b))
at_last_or_before [] a b zero e = inr (refl, some-injective a b e)
at_last_or_before [] a b (suc j) e = absurd (some-ne-none b (sym e))
at_last_or_before (x ∷ xs) a b zero e = inl e
at_last_or_before (x ∷ xs) a b (suc j) e = ⊎_elim (λ t. inl t) (λ t. inr (ap suc t.0, t.1)) (at_last_or_before xs a b j e)

abbrev pub some_or : {A : Type 0} → A → Option A → A
some_or d (Some x) = x
some_or d None = d

abbrev is_some : {A : Type 0} → Option A → Bool
is_some (Some x) = true
is_some None = false

pub none_is_some : {A : Type 0} (x : A) → None ≡ Some x → ⊥
none_is_some x e = true≢false (sym (ap is_some e))

pub some_dec : (x : ℕ) (o : Option ℕ) → Dec (o ≡ Some x)
some_dec x None = no (none_is_some x)
some_dec x (Some y) = dite (ℕ_discrete y x) (λ e. yes (ap Some e)) (λ ne. no (λ e. ne (ap (some_or y) e)))

module _ {E H : Type 0} (session : E → ℕ) (o : Origin E H) (entries : List E) (next turn : ℕ) where
  -- the history grows by an entry of the session that was met last
  pub seated_grows : (e : E) → IsSeated session o entries next turn → turn ≢ 0 → session e ≡ turn → IsSeated session o (entries ++ e ∷ []) next turn
  seated_grows e u some_turn is = let range = u.met some_turn in record {
    begins = prefix_grows o.opening entries (e ∷ []) u.begins;
    counted = u.counted;
    order = u.order;
    below = each_snoc (λ before y. session y < next) 0 entries e u.below (let r = range.1 in omega arith);
    new = each_snoc (λ before y. o.first ≤ session y) (length o.opening) entries e u.new (let r = range.0 in omega arith);
    met = u.met;
  }

  -- a session is met
  pub seated_meets : (s : ℕ) → IsSeated session o entries next turn → o.first ≤ s → s < next → IsSeated session o entries next s
  seated_meets s u low high = record { begins = u.begins; counted = u.counted; order = u.order; below = u.below; new = u.new; met = λ _. (low, high) }

  -- there is one session more
  pub seated_next : IsSeated session o entries next turn → IsSeated session o entries (next + 1) turn
  seated_next u = record {
    begins = u.begins;
    counted = u.counted;
    order = let l = u.order in omega arith;
    below = λ before e after eq far. let l = u.below before e after eq far in omega arith;
    new = u.new;
    met = λ t. let m = u.met t in let m₁ = m.1 in (m.0, omega arith);
  }

  -- no entry is of the next session
  pub next_unused : IsSeated session o entries next turn → EachFrom 0 entries (λ before e. session e ≢ next)
  next_unused u before e after eq far is = let l = u.below before e after eq far in absurd (omega arith)

module _ {E H : Type 0} (session : E → ℕ) (right : List E → ℕ → Held → Type 0) (touches : List E → E → ℕ → Type 0) (o : Origin E H) where
  abbrev St : Type 0
  St = State (Unit {0}) (View E H)

  abbrev K : St → Type 0
  K = IsKept session right touches o

  abbrev P : BookView E H → PassView E H → Type 0
  P = PassOk session right touches o

  abbrev W : BookView E H → List ℕ → Type 0
  W = WordsOk right touches

  abbrev V : BookView E H → ℕ → (ℕ → ℕ) → List AtomicStep → ℕ → View E H → Type 0
  V = ViewOk session right touches o

  -- the rule, of a seat that is known to be the book's
  pub record Known (id : ℕ) (b : BookView E H) (s : St) : Type 0 where
    pub holder : ℕ → ℕ
    pub order : List AtomicStep
    pub book_ok : BookOk session o b
    pub words_ok : W b s.words
    pub order_ok : IsOrder (length o.opening) o.first b.next order s.words
    pub book_in : IsBookInOrder order b
    pub views_ok : (j : ℕ) (v : View E H) → get_elem? s.views j ≡ some v → V b id holder order j v
    pub held_ok : All (λ p. (p.loading ≡ Nothing) × V b id holder order id (Pass p)) b.held
    pub apart : Apart b.held
    pub present : (n : ℕ) → o.first ≤ n → n < b.next → HasPass s.views b.held (holder n) n

  pub known_book : (s : St) (k : K s) (id : ℕ) (b : BookView E H) → get_elem? s.views id ≡ some (Book b) → Known id b s
  known_book s k id b at = let is = k.views_ok id (Book b) at in
      subst (λ (z : ℕ × BookView E H). Known z.0 z.1 s) (λ i. (sym is.0 i, sym is.1 i))
      record { holder = k.holder; order = k.order; book_ok = k.book_ok; words_ok = k.words_ok; order_ok = k.order_ok; book_in = k.book_in; views_ok = k.views_ok; held_ok = k.held_ok; apart = k.apart; present = k.present }

  -- what is known of another seat's view, where the passes that are not spoken of keep what is known of them
  pub view_moves : (b c : BookView E H) (id j : ℕ) (holder holder' : ℕ → ℕ) (order order' : List AtomicStep) (v : View E H) → j ≢ id
      → ((p : PassView E H) → v ≡ Pass p → holder p.session ≡ j → IsInOrder order p → P b p → (holder' p.session ≡ j) × IsInOrder order' p × P c p) → V b id holder order j v → V c id holder' order' j v
  view_moves b c id j holder holder' order order' (Book d) ne move ok = absurd (ne ok.0)
  view_moves b c id j holder holder' order order' (Pass p) ne move ok = move p refl ok.0 ok.1 ok.2
  view_moves b c id j holder holder' order order' Spent ne move ok = tt

  -- a session has a pass, also where the book makes a step
  pub stays_else : (views : List (View E H)) (held : List (PassView E H)) (j n id : ℕ) (b c : BookView E H) → get_elem? views id ≡ some (Book b)
      → HasPass views held j n → HasPass (set views id (Book c)) held j n
  stays_else views held j n id b c at (r, is, inr in_held) = (r, is, inr in_held)
  stays_else views held j n id b c at (r, is, inl there) = (r, is, inl (set_else views id j (Book c) (λ e. apart (get_elem? views j) b r (ap (get_elem? views) e ∙ at) there) ∙ there))

  -- a step of the book that makes and takes no pass
  pub book_step : (s : St) (id : ℕ) (b c : BookView E H) (x : AtomicStep) (k : Known id b s) → get_elem? s.views id ≡ some (Book b) → x.session ≡ 0 → x.found ≡ get_or s.words x.word 0
      → IsDone x.action x.session x.word → BookOk session o c → W c (set s.words x.word (leaves x.action x.found)) → ((p : PassView E H) → P b p → P c p) → c.known ≡ k.order ++ x ∷ [] → c.held ≡ b.held → c.next ≡ b.next
      → K record { words = set s.words x.word (leaves x.action x.found); homes = s.homes; views = set s.views id (Book c) }
  book_step s id b c x k at owners found done ok words_ok move knows held next =
      let order : List AtomicStep = k.order ++ x ∷ [] in
      let grown : (p : PassView E H) → P b p → IsInOrder k.order p → IsInOrder order p = λ p u. in_order_waits k.order x p (λ e. let low = u.above in let one = k.book_ok.seated.counted in absurd (omega arith)) in record {
        seat = id;
        book = c;
        holder = k.holder;
        order = order;
        place = set_here s.views id (Book c) (there_below s.views id (Book b) at);
        book_ok = ok;
        words_ok = words_ok;
        order_ok = subst (λ n. IsOrder (length o.opening) o.first n order (set s.words x.word (leaves x.action x.found))) (sym next) (order_grows (length o.opening) o.first b.next k.order s.words x found done (inl owners) k.order_ok);
        book_in = book_knows order c knows;
        views_ok = each_set (V c id k.holder order) s.views id (Book c) (refl, refl) (λ j v ne e. view_moves b c id j k.holder k.holder k.order order v ne (λ p _ h u w. (h, grown p w u, move p w)) (k.views_ok j v e));
        held_ok = subst (All (λ p. (p.loading ≡ Nothing) × V c id k.holder order id (Pass p))) (sym held)
            (All-with (λ p. (p.loading ≡ Nothing) × V b id k.holder k.order id (Pass p)) (λ p. (p.loading ≡ Nothing) × V c id k.holder order id (Pass p)) b.held (λ p h. (h.0, (h.1.0, grown p h.1.2 h.1.1, move p h.1.2))) k.held_ok);
        apart = subst Apart (sym held) k.apart;
        present = λ n low high. subst (λ h. HasPass (set s.views id (Book c)) h (k.holder n) n) (sym held) (stays_else s.views b.held (k.holder n) n id b c at (k.present n low (subst (λ m. n < m) next high)));
      }

  -- the words after a region was raised
  words_raised : (b : BookView E H) (words : List ℕ) (r : ℕ) → r < region_count → b.raised ≡ None → length b.origin.opening ≤ length b.history → (known : List AtomicStep) → W b words → W (record b { raised = Some r; known = known }) (set words (region_word r) (length b.history + 1))
  words_raised b words r low free long known ok =
      let x : ℕ = length b.history + 1 in record {
        wide = length-set words (region_word r) x ∙ ok.wide;
        count = get_or-set_other words (region_word r) 0 x 0 (λ e. omega arith) ∙ ok.count;
        slots = λ k lt. subst (Sound right b.history) (sym (get_or-set_other words (region_word r) (1 + k) x 0 (λ e. omega arith))) (ok.slots k lt);
        regions = λ q lt. dite (ℕ_discrete q r)
            (λ e. subst (λ (z : ℕ × ℕ). RegionOk touches (record b { raised = Some r; known = known }) z.0 z.1) (λ i. (sym e i, sym (ap (λ (z : ℕ). get_or (set words (region_word r) x) (region_word z) 0) e ∙ get_or-set_same words (region_word r) x 0 (let w = ok.wide in omega arith)) i))
            record { still = each_none (λ before e. ¬ touches before e r) x b.history (omega arith); least = omega arith; raised = λ _. refl; else = λ n. absurd (n refl); set = λ n. absurd (n refl) })
            (λ ne. subst (RegionOk touches (record b { raised = Some r; known = known }) q) (sym (get_or-set_other words (region_word r) (region_word q) x 0 (λ e. ne (omega arith))))
            (let was = ok.regions q lt in record { still = was.still; least = was.least; raised = λ e. absurd (ne (sym (ap (some_or 0) e))); else = λ _. was.else (λ e. absurd (none_is_some q (sym free ∙ e))); set = λ _. was.set (λ e. absurd (none_is_some q (sym free ∙ e))) }));
      }

  -- a region is raised
  pub raises : (id : ℕ) (b : BookView E H) (r : ℕ) → r < region_count → b.raised ≡ None → length b.history < most_entries
      → Allows K 0 id (Book b, []) (region_word r) (λ _. length b.history + 1) (λ _. raised_region (step 0 (region_word r) (length b.history + 1) 0 none) (Book b, []) (length b.history + 1))
  raises id b r low free room s k sized at fits =
      let known = known_book s k id b at in
      let i : ℕ = region_word r in
      let n : ℕ = get_or s.words i 0 in
      let x : AtomicStep = stores 0 i (length b.history + 1) n in
      let c : BookView E H = record b { raised = Some r; known = known.order ++ x ∷ [] } in (
        Book c,
        keeps,
        tt,
        book_step s id b c x known at refl refl (inl (refl, (omega arith, omega arith)))
            (let u = known.book_ok in record { same = u.same; short = u.short; seated = u.seated })
            (words_raised b s.words r low free (subst (λ (z : Origin E H). length z.opening ≤ length b.history) (sym known.book_ok.same) (prefix_length o.opening b.history known.book_ok.seated.begins)) (known.order ++ x ∷ []) known.words_ok)
            (λ p u. record { same = u.same; begins = u.begins; seen = u.seen; above = u.above; below = u.below; met = u.met; own = u.own; trail = u.trail; loading = u.loading })
            refl refl refl,
        (
          (refl, refl, refl),
          omega arith,
          omega arith,
          free,
          (let same : r ≡ i - first_region = omega arith in (known.order ++ x ∷ [], n, (λ j. (Book (record b { raised = Some (same j); known = known.order ++ x ∷ [] }), [])), (known.order, known.book_in.known, refl))),
        ),
      )

  -- the words after an entry was published
  words_published : (b : BookView E H) (words : List ℕ) (e : E) → ((r : ℕ) → r < region_count → touches b.history e r ↔ (b.raised ≡ Some r)) → (known : List AtomicStep) → W b words
      → W (after_entry session e known b) (set words 0 (length b.history + 1))
  words_published b words e raises known ok =
      let x : ℕ = length b.history + 1 in
      let h : List E = b.history ++ e ∷ [] in
      let longer : length h ≡ x = length-append b.history (e ∷ []) in record {
        wide = length-set words 0 x ∙ ok.wide;
        count = get_or-set_same words 0 x 0 (let w = ok.wide in omega arith) ∙ sym longer;
        slots = λ k lt. subst (Sound right h) (sym (get_or-set_other words 0 (1 + k) x 0 (λ q. omega arith)))
            (sound_grows right b.history h (get_or words (1 + k) 0) (e ∷ [], refl) (ok.slots k lt));
        regions = λ r lt. subst (RegionOk touches (after_entry session e known b) r) (sym (get_or-set_other words 0 (region_word r) x 0 (λ q. omega arith)))
            (region r (get_or words (region_word r) 0) (raises r lt) (ok.regions r lt));
      }
    where
      still : (r word : ℕ) (raised : Option ℕ) → (touches b.history e r → raised ≡ Some r) → Untouched touches b.history word r → (raised ≡ Some r → word ≡ length b.history + 1)
          → Untouched touches (b.history ++ e ∷ []) word r
      still r word None raises was rise = each_snoc (λ before y. ¬ touches before y r) word b.history e was (λ t. none_is_some r (raises t))
      still r word (Some q) raises was rise = dite (ℕ_discrete q r)
          (λ same. each_none (λ before y. ¬ touches before y r) word (b.history ++ e ∷ []) (let w = rise (ap Some same) in omega (arith, length-append b.history (e ∷ []))))
          (λ ne. each_snoc (λ before y. ¬ touches before y r) word b.history e was (λ t. ne (ap (some_or q) (raises t))))

      low : (r word : ℕ) (raised : Option ℕ) → (raised ≡ Some r → word ≡ length b.history + 1) → (raised ≢ Some r → word ≤ length b.history) → word ≤ length b.history + 1
      low r word None rise else = let w = else (none_is_some r) in omega arith
      low r word (Some q) rise else = dite (ℕ_discrete q r) (λ same. let w = rise (ap Some same) in omega arith) (λ ne. let w = else (λ t. ne (ap (some_or q) t)) in omega arith)

      was_raised : (r word : ℕ) (raised : Option ℕ) → (raised ≡ Some r → touches b.history e r) → (raised ≡ Some r → word ≡ length b.history + 1) → (raised ≢ Some r → WasRaised touches b.origin.opening b.history r word)
          → WasRaised touches b.origin.opening (b.history ++ e ∷ []) r word
      was_raised r word raised touched rise was = dite (some_dec r raised)
          (λ same. inr (b.history, e, [], refl, rise same, touched same))
          (λ ne. elim (was ne) [
            | inl first ↦ inl first
            | inr t ↦ inr (t.0, t.1, t.2 ++ e ∷ [], ap (λ l. l ++ e ∷ []) t.3 ∙ append_assoc t.0 (t.1 ∷ t.2) (e ∷ []), t.4, t.5)
          ])

      region : (r word : ℕ) → (touches b.history e r ↔ (b.raised ≡ Some r)) → RegionOk touches b r word → RegionOk touches (after_entry session e known b) r word
      region r word raises was = record {
        still = still r word b.raised raises.0 was.still was.raised;
        least = was.least;
        raised = λ q. absurd (none_is_some r q);
        else = λ _. let l = low r word b.raised was.raised was.else in omega (arith, length-append b.history (e ∷ []));
        set = λ _. was_raised r word b.raised raises.1 was.raised was.set;
      }

  loading_grows : (h : List E) (e : E) (seen : List E) (l : Loading) → IsLoading right touches h seen l → IsLoading right touches (h ++ e ∷ []) seen l
  loading_grows h e seen Nothing ok = tt
  loading_grows h e seen (Slot place slot) ok = sound_grows right h (h ++ e ∷ []) slot (e ∷ [], refl) ok
  loading_grows h e seen (Count place slot count) ok = ok
  loading_grows h e seen (Object place slot count object) ok = ok

  -- an entry is published
  pub grows : (id : ℕ) (b : BookView E H) (said : Option E) (e : E) → said ≡ Some e → b.turn ≢ 0 → session e ≡ b.turn → length b.history < most_entries
      → ((r : ℕ) → r < region_count → touches b.history e r ↔ (b.raised ≡ Some r))
      → Allows K 0 id (Book b, []) 0 (λ n. (n + 1) % 2 ^ 64) (published session said (step 0 0 1 0 none) (Book b, []))
  grows id b said e is some_turn turn room raises s k sized at fits =
      let known = known_book s k id b at in
      let u = known.book_ok in
      let n : ℕ = get_or s.words 0 0 in
      let count : n ≡ length b.history = known.words_ok.count in
      let x : AtomicStep = publishes n in
      let order : List AtomicStep = known.order ++ x ∷ [] in
      let c : BookView E H = after_entry session e order b in
      let now : (n + 1) % 2 ^ 64 ≡ length b.history + 1 = omega arith in (
        Book c,
        keeps,
        tt,
        book_step s id b c x known at refl refl (inl (refl, refl, refl))
            record {
              same = u.same;
              short = omega (arith, length-append b.history (e ∷ []));
              seated = seated_grows session o b.history b.next b.turn e u.seated some_turn turn;
            }
            (subst (λ (w : ℕ). W c (set s.words 0 w)) (sym now) (words_published b s.words e raises order known.words_ok))
            (λ p v. record {
              same = v.same;
              begins = v.begins;
              seen = prefix_grows p.seen b.history (e ∷ []) v.seen;
              above = v.above;
              below = v.below;
              met = v.met;
              own = λ out. each_snoc (λ before y. session y ≢ p.session) (last_met p.trail) b.history e (v.own (λ j d lt. out (suc j) d (omega arith))) (out 0 (session e) (omega arith));
              trail = v.trail;
              loading = loading_grows b.history e p.seen p.loading v.loading;
            })
            refl refl refl,
        subst (λ z. ForSaid z (λ entry. On (step 0 0 1 0 none) 0 1 × ((b.turn ≢ 0) × (session entry ≡ b.turn) × ((knows : List AtomicStep) × (◌≡◌ {A = Me (Unit {0}) (View E H)} (Book c, []) (Book (after_entry session entry knows b), []))
            × Steps b.known (publishes (length b.history) ∷ []) knows)))) (sym is) ((refl, refl, refl), (some_turn, turn, (order, refl, (known.order, known.book_in.known, (λ j. known.order ++ publishes (count j) ∷ []))))),
      )
