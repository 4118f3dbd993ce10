-- What each step of a pass owes.
use Rattle.std.proofs.Common.{◌≡◌, ℕ, ◌≢◌, ◌-◌, ◌<◌, ◌≤◌, List, [], ◌∷◌, ◌++◌, length, take, set, get_or, refl, sym, subst, inr, arith, Option, Some, ap, ◌%◌, ◌∙◌}
use mathlib.Core.Option.{none}
use Rattle.atomic_table.specs.Table.{State, Me, step, keeps, Allows}
use Rattle.verdict_words.specs.Histories.{IsPrefix, Untouched}
use Rattle.verdict_words.specs.Words.{slot_word, region_word, most_entries, spelling, Sound, Spells, object_region, store_region, register_word, slot_count, region_count, most_objects, first_register, first_region}
use Rattle.verdict_words.specs.Orders.{leaves, IsDone, Steps, loads, stores, action_of, trail_steps, loading_steps}
use Rattle.verdict_words.specs.Rule.{IsKept, IsLoading, pass_steps}
use Rattle.verdict_words.specs.declared.views.AtomicStep.{AtomicStep}
use Rattle.verdict_words.specs.Inner.Steps.{On, ForSlot, ForCount, ForObject, ForSaid, ForFilled, operand, gained, ran, loaded_slot, stored_slot, loaded_count, loaded_object, loaded_store}
use Rattle.verdict_words.specs.declared.places.Held.{Held}
use Rattle.verdict_words.specs.declared.places.CasePlace.{CasePlace}
use Rattle.verdict_words.specs.declared.views.Origin.{Origin}
use Rattle.verdict_words.specs.declared.views.Item.{Item}
use Rattle.verdict_words.specs.declared.views.Item.TheVariants.{Loaded, Filled, Ran}
use Rattle.verdict_words.specs.declared.views.RegisterStep.{RegisterStep}
use Rattle.verdict_words.specs.declared.views.RegisterStep.TheVariants.{Read, Write, Add}
use Rattle.verdict_words.specs.declared.views.Loading.TheVariants.{Nothing, Slot, Count, Object}
use Rattle.verdict_words.specs.declared.views.PassView.{PassView}
use Rattle.verdict_words.specs.declared.views.View.{View}
use Rattle.verdict_words.specs.declared.views.View.TheVariants.{Pass}
use Rattle.verdict_words.proofs.Growing.{prefix_whole, take_whole, each_prefix}
use Rattle.verdict_words.proofs.Ordering.{as_told, goes_on, ends}
use Rattle.verdict_words.proofs.Kept.{known_pass, pass_step, words_loaded, words_register, words_slot, pass_gains, pass_loads, pass_sees, sound_grows}

module _ {E H : Type 0} (session : E → ℕ) (right : H → List E → ℕ → Held → Type 0) (touches : H → List E → E → ℕ → Type 0) (o : Origin E H) where
  abbrev K : State (Unit {0}) (View E H) → Type 0
  K = IsKept session (right o.setting) (touches o.setting) o

  abbrev St : Type 0
  St = State (Unit {0}) (View E H)

  -- what a step owes, for a seat whose view is known
  pub asked : (slots id i : ℕ) (me : Me (Unit {0}) (View E H)) (v : View E H) (f : ℕ → ℕ) (then : ℕ → Me (Unit {0}) (View E H) → ℕ → Me (Unit {0}) (View E H) → Type 0)
      → slots ≡ 0 → me ≡ (v, []) → Allows K 0 id (v, []) i f (then 0 (v, [])) → Allows K slots id me i f (then slots me)
  asked slots id i me v f then none_slots is allows = subst (λ (z : ℕ × Me (Unit {0}) (View E H)). Allows K z.0 id z.1 i f (then z.0 z.1)) (λ j. (sym none_slots j, sym is j)) allows

  -- the step that a kind of register step is on its word
  done_on_register : (kind : RegisterStep) (session word : ℕ) → first_register ≤ word → word < first_region → session ≢ 0 → IsDone (action_of kind) session word
  done_on_register Read session word low high some = omega arith
  done_on_register (Write x) session word low high some = (some, (low, high))
  done_on_register (Add x) session word low high some = inr (some, (low, high))

  ran_told : (kind : RegisterStep) (session word found : ℕ) → as_told (record { session = session; word = word; action = action_of kind; found = found }) ≡ record { session = session; word = word; action = action_of kind; found = found }
  ran_told Read session word found = refl
  ran_told (Write x) session word found = refl
  ran_told (Add x) session word found = refl

  -- a step on a register
  pub runs : (id : ℕ) (p : PassView E H) (object : ℕ) (kind : RegisterStep) (f : ℕ → ℕ) → object < most_objects → p.loading ≡ Nothing → ((n : ℕ) → f n ≡ leaves (action_of kind) n)
      → Allows K 0 id (Pass p, []) (register_word object) f (ran kind (step 0 (register_word object) (operand kind) 0 none) (Pass p, []))
  runs id p object kind f low rests makes s k sized at fits =
      let i : ℕ = register_word object in
      let n : ℕ = get_or s.words i 0 in
      let known = known_pass session (right o.setting) (touches o.setting) o s k id p at in
      let item : Item = Ran object kind n in
      let x : AtomicStep = record { session = p.session; word = i; action = action_of kind; found = n } in
      let q : PassView E H = record p { trail = p.trail ++ item ∷ []; known = k.order ++ x ∷ []; loading = Nothing } in
      let tells : pass_steps q ≡ pass_steps p ++ as_told x ∷ [] = ends p.session p.trail item [] x refl ∙ (λ j. (trail_steps p.session p.trail ++ loading_steps p.session (sym rests j)) ++ sym (ran_told kind p.session i n) j ∷ []) in (
        Pass q,
        keeps,
        tt,
        subst (λ w. K record { words = set s.words i w; homes = s.homes; views = set s.views id (Pass q) }) (sym (makes n))
            (pass_step session (right o.setting) (touches o.setting) o s k id p q x at refl refl refl (done_on_register kind p.session i (omega arith) (omega arith)) (prefix_whole (k.order ++ x ∷ [])) tells
            (pass_gains session (right o.setting) (touches o.setting) o k.book p item (λ m. refl) tt (k.order ++ x ∷ []) known.2)
            (words_register session (right o.setting) (touches o.setting) o k.book s.words i (leaves (action_of kind) n) (omega arith) (omega arith) k.words_ok)),
        (
          (refl, refl, refl),
          omega arith,
          omega arith,
          (let same : object ≡ i - first_register = omega arith in let back : i ≡ register_word (i - first_register) = omega arith in (
            k.order ++ x ∷ [],
            (λ j. (Pass (record p { trail = p.trail ++ Ran (same j) kind n ∷ []; known = k.order ++ x ∷ []; loading = sym rests j }), [])),
            (k.order, known.1.known, (λ j. k.order ++ record { session = p.session; word = back j; action = action_of kind; found = n } ∷ [])),
          )),
        ),
      )

  -- a load of a slot
  pub loads_slot : (id : ℕ) (p : PassView E H) (said : Option CasePlace) (place : CasePlace) → said ≡ Some place → p.loading ≡ Nothing
      → Allows K 0 id (Pass p, []) (slot_word place.case) (λ n. n) (loaded_slot said (step 0 (slot_word place.case) 0 0 none) (Pass p, []))
  loads_slot id p said place is rests s k sized at fits =
      let i : ℕ = slot_word place.case in
      let n : ℕ = get_or s.words i 0 in
      let known = known_pass session (right o.setting) (touches o.setting) o s k id p at in
      let x : AtomicStep = loads p.session i n in
      let q : PassView E H = record p { loading = Slot place n; known = k.order ++ x ∷ [] } in (
        Pass q,
        keeps,
        tt,
        pass_step session (right o.setting) (touches o.setting) o s k id p q x at refl refl refl (λ _. omega arith) (prefix_whole (k.order ++ x ∷ []))
            (goes_on p.session p.trail (loading_steps p.session p.loading) (x ∷ []) x (ap (λ l. loading_steps p.session l ++ x ∷ []) (sym rests)))
            (pass_loads session (right o.setting) (touches o.setting) o k.book p (Slot place n) (k.words_ok.slots (place.case % slot_count) (omega arith)) (k.order ++ x ∷ []) known.2)
            (words_loaded session (right o.setting) (touches o.setting) o k.book s.words i k.words_ok),
        subst (λ z. ForSaid z (λ y. On (step 0 i 0 0 none) (slot_word y.case) 0 × ((knows : List AtomicStep) × (◌≡◌ {A = Me (Unit {0}) (View E H)} (Pass q, []) (Pass (record p { loading = Slot y n; known = knows }), []))
            × Steps p.known (loads p.session (slot_word y.case) n ∷ []) knows))) (sym is) ((refl, refl, refl), (k.order ++ x ∷ [], refl, (k.order, known.1.known, refl))),
      )

  -- a store of a sound word into a slot
  pub stores_slot : (id : ℕ) (p : PassView E H) (said : Option Item) (case at : ℕ) (held : Held) (word : ℕ) → said ≡ Some (Filled case at held) → p.loading ≡ Nothing
      → Spells word case at held → at ≤ length p.seen → right o.setting (take at p.seen) case held
      → Allows K 0 id (Pass p, []) (slot_word case) (λ _. word) (λ found. stored_slot said (step 0 (slot_word case) word 0 none) (Pass p, []) word)
  stores_slot id p said case at held word is rests spells before ok s k sized there fits =
      let i : ℕ = slot_word case in
      let n : ℕ = get_or s.words i 0 in
      let known = known_pass session (right o.setting) (touches o.setting) o s k id p there in
      let item : Item = Filled case at held in
      let x : AtomicStep = stores p.session i word n in
      let q : PassView E H = record p { trail = p.trail ++ item ∷ []; known = k.order ++ x ∷ []; loading = Nothing } in
      let sound : Sound (right o.setting) p.seen word = inr (case, at, held, spells, before, ok) in
      let tells : pass_steps q ≡ pass_steps p ++ as_told x ∷ [] = ends p.session p.trail item [] (stores p.session i (spelling case at held) 0) refl
      ∙ (λ j. (trail_steps p.session p.trail ++ loading_steps p.session (sym rests j)) ++ stores p.session i (sym spells.3 j) 0 ∷ []) in (
        Pass q,
        keeps,
        tt,
        pass_step session (right o.setting) (touches o.setting) o s k id p q x there refl refl refl (λ some. inr (some, (omega arith, omega arith))) (prefix_whole (k.order ++ x ∷ [])) tells
            (pass_gains session (right o.setting) (touches o.setting) o k.book p item (λ m. refl) tt (k.order ++ x ∷ []) known.2)
            (words_slot session (right o.setting) (touches o.setting) o k.book s.words (case % slot_count) word (omega arith) (sound_grows (right o.setting) p.seen k.book.history word known.2.seen sound) k.words_ok),
        subst (λ z. ForSaid z (λ y. ForFilled y (λ a b h. On (step 0 i word 0 none) (slot_word a) (spelling a b h) × ((knows : List AtomicStep) × (found : ℕ) × (◌≡◌ {A = Me (Unit {0}) (View E H)} (Pass q, []) (Pass (gained (Filled a b h) knows p), []))
            × Steps p.known (stores p.session (slot_word a) (spelling a b h) found ∷ []) knows)))) (sym is) (
              (refl, spells.3, refl),
              (
                k.order ++ x ∷ [],
                n,
                (λ j. (Pass (record p { trail = p.trail ++ item ∷ []; known = k.order ++ x ∷ []; loading = sym rests j }), [])),
                (k.order, known.1.known, (λ j. k.order ++ stores p.session i (spells.3 j) n ∷ [])),
              ),
            ),
      )

  -- a load of the count
  pub loads_count : (id : ℕ) (p : PassView E H) (place : CasePlace) (slot : ℕ) → p.loading ≡ Slot place slot
      → Allows K 0 id (Pass p, []) 0 (λ n. n) (loaded_count right touches (step 0 0 0 0 none) (Pass p, []))
  loads_count id p place slot is s k sized at fits =
      let n : ℕ = get_or s.words 0 0 in
      let h : List E = k.book.history in
      let known = known_pass session (right o.setting) (touches o.setting) o s k id p at in
      let sound : Sound (right o.setting) h slot = subst (IsLoading (right o.setting) (touches o.setting) h p.seen) is known.2.loading in
      let long : n ≡ length h = k.words_ok.count in
      let x : AtomicStep = loads p.session 0 n in
      let q : PassView E H = record p { seen = h; loading = Count place slot n; known = k.order ++ x ∷ [] } in (
        Pass q,
        keeps,
        tt,
        pass_step session (right o.setting) (touches o.setting) o s k id p q x at refl refl refl (λ _. omega arith) (prefix_whole (k.order ++ x ∷ []))
            (goes_on p.session p.trail (loading_steps p.session p.loading) (loading_steps p.session (Count place slot n)) x (ap (λ l. loading_steps p.session l ++ x ∷ []) (sym is)))
            (pass_sees session (right o.setting) (touches o.setting) o k.book p (Count place slot n) k.book_ok.seated.begins (long, sound) (k.order ++ x ∷ []) known.2)
            (words_loaded session (right o.setting) (touches o.setting) o k.book s.words 0 k.words_ok),
        (
          (refl, refl, refl),
          subst (λ l. ForSlot l (λ a b. (seen : List E) × (knows : List AtomicStep) × (◌≡◌ {A = Me (Unit {0}) (View E H)} (Pass q, []) (Pass (record p { seen = seen; loading = Count a b n; known = knows }), [])) × IsPrefix p.seen seen × (length seen ≡ n) × (n ≤ most_entries) × Sound (right p.origin.setting) seen b
              × Steps p.known (loads p.session 0 n ∷ []) knows)) (sym is)
              (h, k.order ++ x ∷ [], refl, known.2.seen, sym long, (let b = k.book_ok.short in omega arith), subst (λ (z : Origin E H). Sound (right z.setting) h slot) (sym known.2.same) sound, (k.order, known.1.known, refl)),
        ),
      )

  -- a load of the region of the object
  pub loads_object : (id : ℕ) (p : PassView E H) (place : CasePlace) (slot count r : ℕ) → p.loading ≡ Count place slot count → r ≡ object_region place.object → r < region_count
      → Allows K 0 id (Pass p, []) (region_word r) (λ n. n) (loaded_object right touches (step 0 (region_word r) 0 0 none) (Pass p, []))
  loads_object id p place slot count r is region low s k sized at fits =
      let n : ℕ = get_or s.words (region_word r) 0 in
      let known = known_pass session (right o.setting) (touches o.setting) o s k id p at in
      let was = subst (IsLoading (right o.setting) (touches o.setting) k.book.history p.seen) is known.2.loading in
      let still_so : Untouched (touches o.setting) p.seen n (object_region place.object) =
      subst (Untouched (touches o.setting) p.seen n) region (each_prefix (λ before e. ¬ touches o.setting before e r) n p.seen k.book.history known.2.seen (k.words_ok.regions r low).still) in
      let x : AtomicStep = loads p.session (region_word r) n in
      let y : AtomicStep = loads p.session (region_word (object_region place.object)) n in
      let named : x ≡ y = λ j. loads p.session (region_word (region j)) n in
      let q : PassView E H = record p { loading = Object place slot count n; known = k.order ++ x ∷ [] } in (
        Pass q,
        keeps,
        tt,
        pass_step session (right o.setting) (touches o.setting) o s k id p q x at refl refl refl (λ _. omega arith) (prefix_whole (k.order ++ x ∷ []))
            (goes_on p.session p.trail (loading_steps p.session p.loading) (loading_steps p.session (Object place slot count n)) x (λ j. loading_steps p.session (sym is j) ++ sym named j ∷ []))
            (pass_loads session (right o.setting) (touches o.setting) o k.book p (Object place slot count n) (was.0, was.1, still_so) (k.order ++ x ∷ []) known.2)
            (words_loaded session (right o.setting) (touches o.setting) o k.book s.words (region_word r) k.words_ok),
        subst (λ l. ForCount l (λ a b c. On (step 0 (region_word r) 0 0 none) (region_word (object_region a.object)) 0 × ((knows : List AtomicStep) × (◌≡◌ {A = Me (Unit {0}) (View E H)} (Pass q, []) (Pass (record p { loading = Object a b c n; known = knows }), []))
            × Steps p.known (loads p.session (region_word (object_region a.object)) n ∷ []) knows) × Untouched (touches p.origin.setting) p.seen n (object_region a.object))) (sym is)
            ((ap region_word region, refl, refl), (k.order ++ x ∷ [], refl, (k.order, known.1.known, (λ j. k.order ++ named j ∷ []))), subst (λ (z : Origin E H). Untouched (touches z.setting) p.seen n (object_region place.object)) (sym known.2.same) still_so),
      )

  -- a load of the region of the store, which ends a look
  pub loads_store : (id : ℕ) (p : PassView E H) (place : CasePlace) (slot count object : ℕ) → p.loading ≡ Object place slot count object
      → Allows K 0 id (Pass p, []) (region_word (store_region place.store)) (λ n. n) (loaded_store right touches (step 0 (region_word (store_region place.store)) 0 0 none) (Pass p, []))
  loads_store id p place slot count object is s k sized at fits =
      let r : ℕ = store_region place.store in
      let n : ℕ = get_or s.words (region_word r) 0 in
      let known = known_pass session (right o.setting) (touches o.setting) o s k id p at in
      let was = subst (IsLoading (right o.setting) (touches o.setting) k.book.history p.seen) is known.2.loading in
      let still_so : Untouched (touches o.setting) p.seen n r = each_prefix (λ before e. ¬ touches o.setting before e r) n p.seen k.book.history known.2.seen (k.words_ok.regions r (omega arith)).still in
      let item : Item = Loaded place slot count object n in
      let x : AtomicStep = loads p.session (region_word r) n in
      let q : PassView E H = record p { trail = p.trail ++ item ∷ []; known = k.order ++ x ∷ []; loading = Nothing } in
      let whole : p.seen ≡ take count p.seen = sym (take_whole p.seen count was.0) in (
        Pass q,
        keeps,
        tt,
        pass_step session (right o.setting) (touches o.setting) o s k id p q x at refl refl refl (λ _. omega arith) (prefix_whole (k.order ++ x ∷ []))
            (ends p.session p.trail item (loading_steps p.session p.loading) x (ap (λ l. loading_steps p.session l ++ x ∷ []) (sym is)))
            (pass_gains session (right o.setting) (touches o.setting) o k.book p item (λ m. refl) (
              (let e = was.0 in omega arith),
              subst (λ (l : List E). Sound (right o.setting) l slot) whole was.1,
              subst (λ (l : List E). Untouched (touches o.setting) l object (object_region place.object)) whole was.2,
              subst (λ (l : List E). Untouched (touches o.setting) l n r) whole still_so,
            ) (k.order ++ x ∷ []) known.2)
            (words_loaded session (right o.setting) (touches o.setting) o k.book s.words (region_word r) k.words_ok),
        subst (λ l. ForObject l (λ a b c d. On (step 0 (region_word r) 0 0 none) (region_word (store_region a.store)) 0 × ((knows : List AtomicStep) × (◌≡◌ {A = Me (Unit {0}) (View E H)} (Pass q, []) (Pass (record p { trail = p.trail ++ Loaded a b c d n ∷ []; known = knows; loading = Nothing }), []))
            × Steps p.known (loads p.session (region_word (store_region a.store)) n ∷ []) knows) × Untouched (touches p.origin.setting) p.seen n (store_region a.store))) (sym is)
            ((refl, refl, refl), (k.order ++ x ∷ [], refl, (k.order, known.1.known, refl)), subst (λ (z : Origin E H). Untouched (touches z.setting) p.seen n r) (sym known.2.same) still_so),
      )
