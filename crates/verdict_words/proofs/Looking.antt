-- What a look knows after each of its loads, and why a hit is right.
use Rattle.std.proofs.Common.{◌≡◌, ℕ, ◌+◌, ◌-◌, ◌*◌, ◌<◌, ◌≤◌, List, [], ◌∷◌, ◌++◌, length, take, refl, sym, ◌∙◌, subst, inl, inr, arith, Some}
use Rattle.atomic_table.specs.Table.{Me, step}
use mathlib.Core.Option.{none}
use Rattle.verdict_words.specs.Histories.{IsPrefix, Untouched}
use Rattle.verdict_words.specs.Orders.{Steps, loads, stores, item_steps}
use Rattle.verdict_words.specs.declared.views.AtomicStep.{AtomicStep}
use Rattle.verdict_words.specs.Words.{slot_word, register_word, spelling, region_word, most_entries, Sound, Spells, IsSlot, object_region, store_region, first_register}
use Rattle.verdict_words.specs.Inner.Steps.{On, ForSlot, ForCount, ForObject, ran, loaded_slot, loaded_count, loaded_object, loaded_store}
use Rattle.verdict_words.specs.declared.views.RegisterStep.{RegisterStep}
use Rattle.verdict_words.specs.Answers.{IsAnswer, HitIsRight}
use Rattle.verdict_words.specs.declared.places.Held.{Held}
use Rattle.verdict_words.specs.declared.places.CasePlace.{CasePlace}
use Rattle.verdict_words.specs.declared.places.Look.{Look}
use Rattle.verdict_words.specs.declared.places.Look.TheVariants.{Hit, Miss}
use Rattle.verdict_words.specs.declared.views.Item.TheVariants.{Loaded, Ran}
use Rattle.verdict_words.specs.declared.views.Loading.TheVariants.{Nothing, Slot, Count, Object}
use Rattle.verdict_words.specs.declared.views.PassView.{PassView}
use Rattle.verdict_words.specs.declared.views.View.{View}
use Rattle.verdict_words.specs.declared.views.View.TheVariants.{Pass}
use Rattle.verdict_words.specs.Inner.Steps.{stored_slot}
use Rattle.verdict_words.specs.declared.views.Item.TheVariants.{Filled}
use Rattle.verdict_words.proofs.Growing.{each_later}

-- a step, and those behind it
pub steps_then : (known : List AtomicStep) (x : AtomicStep) (mid : List AtomicStep) (xs : List AtomicStep) (last : List AtomicStep) → Steps known (x ∷ []) mid → Steps mid xs last → Steps known (x ∷ xs) last
steps_then known x mid xs last first more = (first.0, first.1, subst (λ l. Steps l xs last) first.2 more)

module _ {E H : Type 0} where
  -- what a pass knows after a step: its view, and that the step is behind all that it knew
  abbrev pub After : Me (Unit {0}) (View E H) → (List AtomicStep → PassView E H) → List AtomicStep → List AtomicStep → Type 0
  After m' p known steps = (knows : List AtomicStep) × (m' ≡ (Pass (p knows), [])) × Steps known steps knows

  pub after_slot : (m m' : Me (Unit {0}) (View E H)) (p : PassView E H) (place : CasePlace) (found : ℕ) → m ≡ (Pass p, [])
      → loaded_slot (Some place) (step 0 (slot_word place.case) 0 0 none) m found m' → After m' (λ knows. record p { loading = Slot place found; known = knows }) p.known (loads p.session (slot_word place.case) found ∷ [])
  after_slot m m' p place found is saw = (subst (λ (z : Me (Unit {0}) (View E H)). loaded_slot (Some place) (step 0 (slot_word place.case) 0 0 none) z found m') is saw).1

  pub after_store : (word : ℕ) (m m' : Me (Unit {0}) (View E H)) (p : PassView E H) (case at : ℕ) (held : Held) → m ≡ (Pass p, [])
      → stored_slot (Some (Filled case at held)) (step 0 (slot_word case) word 0 none) m word m'
      → (knows : List AtomicStep) × (found : ℕ) × (m' ≡ (Pass (record p { trail = p.trail ++ Filled case at held ∷ []; known = knows }), [])) × Steps p.known (stores p.session (slot_word case) (spelling case at held) found ∷ []) knows
  after_store word m m' p case at held is saw = (subst (λ (z : Me (Unit {0}) (View E H)). stored_slot (Some (Filled case at held)) (step 0 (slot_word case) word 0 none) z word m') is saw).1

  pub after_run : (operand : ℕ) (m m' : Me (Unit {0}) (View E H)) (p : PassView E H) (kind : RegisterStep) (object found : ℕ) → m ≡ (Pass p, [])
      → ran kind (step 0 (register_word object) operand 0 none) m found m' → After m' (λ knows. record p { trail = p.trail ++ Ran object kind found ∷ []; known = knows }) p.known (item_steps p.session (Ran object kind found))
  after_run operand m m' p kind object found is saw = let same : register_word object - first_register ≡ object = omega arith in
      subst (λ n. After m' (λ knows. record p { trail = p.trail ++ Ran n kind found ∷ []; known = knows }) p.known (item_steps p.session (Ran n kind found))) same
      (subst (λ (z : Me (Unit {0}) (View E H)). ran kind (step 0 (register_word object) operand 0 none) z found m') is saw).3

  module _ (right : H → List E → ℕ → Held → Type 0) (touches : H → List E → E → ℕ → Type 0) where
    pub record Counted (m' : Me (Unit {0}) (View E H)) (p : PassView E H) (place : CasePlace) (slot found : ℕ) : Type 0 where
      pub seen : List E
      pub knows : List AtomicStep
      pub view : m' ≡ (Pass (record p { seen = seen; loading = Count place slot found; known = knows }), [])
      pub grows : IsPrefix p.seen seen
      pub long : length seen ≡ found
      pub short : found ≤ most_entries
      pub sound : Sound (right p.origin.setting) seen slot
      pub steps : Steps p.known (loads p.session 0 found ∷ []) knows

    pub after_count : (m m' : Me (Unit {0}) (View E H)) (p : PassView E H) (place : CasePlace) (slot found : ℕ) → m ≡ (Pass p, []) → p.loading ≡ Slot place slot
        → loaded_count right touches (step 0 0 0 0 none) m found m' → Counted m' p place slot found
    after_count m m' p place slot found is loads_it saw =
        let t = subst (λ l. ForSlot l (λ x y. (seen : List E) × (known : List AtomicStep) × (m' ≡ (Pass (record p { seen = seen; loading = Count x y found; known = known }), [])) × IsPrefix p.seen seen × (length seen ≡ found) × (found ≤ most_entries) × Sound (right p.origin.setting) seen y × Steps p.known (loads p.session 0 found ∷ []) known)) loads_it
        (subst (λ (z : Me (Unit {0}) (View E H)). loaded_count right touches (step 0 0 0 0 none) z found m') is saw).1 in
        record { seen = t.0; knows = t.1; view = t.2; grows = t.3; long = t.4; short = t.5; sound = t.6; steps = t.7 }

    pub after_object : (word : ℕ) (m m' : Me (Unit {0}) (View E H)) (p : PassView E H) (place : CasePlace) (slot count found : ℕ) → m ≡ (Pass p, []) → p.loading ≡ Count place slot count
        → loaded_object right touches (step 0 word 0 0 none) m found m'
        → After m' (λ knows. record p { loading = Object place slot count found; known = knows }) p.known (loads p.session (region_word (object_region place.object)) found ∷ []) × Untouched (touches p.origin.setting) p.seen found (object_region place.object)
    after_object word m m' p place slot count found is loads_it saw =
        let t = subst (λ l. ForCount l (λ x y z. On (step 0 word 0 0 none) (region_word (object_region x.object)) 0 × After m' (λ knows. record p { loading = Object x y z found; known = knows }) p.known (loads p.session (region_word (object_region x.object)) found ∷ [])
        × Untouched (touches p.origin.setting) p.seen found (object_region x.object))) loads_it
        (subst (λ (z : Me (Unit {0}) (View E H)). loaded_object right touches (step 0 word 0 0 none) z found m') is saw) in
        (t.1, t.2)

    pub after_look : (word : ℕ) (m m' : Me (Unit {0}) (View E H)) (p : PassView E H) (place : CasePlace) (slot count object found : ℕ) → m ≡ (Pass p, []) → p.loading ≡ Object place slot count object
        → loaded_store right touches (step 0 word 0 0 none) m found m'
        → After m' (λ knows. record p { trail = p.trail ++ Loaded place slot count object found ∷ []; known = knows; loading = Nothing }) p.known (loads p.session (region_word (store_region place.store)) found ∷ []) × Untouched (touches p.origin.setting) p.seen found (store_region place.store)
    after_look word m m' p place slot count object found is loads_it saw =
        let t = subst (λ l. ForObject l (λ x y z u. On (step 0 word 0 0 none) (region_word (store_region x.store)) 0 × After m' (λ knows. record p { trail = p.trail ++ Loaded x y z u found ∷ []; known = knows; loading = Nothing }) p.known (loads p.session (region_word (store_region x.store)) found ∷ [])
        × Untouched (touches p.origin.setting) p.seen found (store_region x.store))) loads_it
        (subst (λ (z : Me (Unit {0}) (View E H)). loaded_store right touches (step 0 word 0 0 none) z found m') is saw) in
        (t.1, t.2)

-- a word spells one case, one point and one verdict
digits : (f l c k v f' l' c' k' v' : ℕ) → v < 1048576 → v' < 1048576 → k < 1048576 → k' < 1048576 → c < 16 → c' < 16 → l < 4096 → l' < 4096
    → f * 72057594037927936 + l * 17592186044416 + c * 1099511627776 + k * 1048576 + v ≡ f' * 72057594037927936 + l' * 17592186044416 + c' * 1099511627776 + k' * 1048576 + v'
    → (f ≡ f') × (l ≡ l') × (c ≡ c') × (k ≡ k') × (v ≡ v')
digits f l c k v f' l' c' k' v' lv lv' lk lk' lc lc' ll ll' e =
    let a : ℕ = f * 68719476736 + l * 16777216 + c * 1048576 + k in
    let a' : ℕ = f' * 68719476736 + l' * 16777216 + c' * 1048576 + k' in
    let ea : a ≡ a' = omega arith in
    let b : f * 65536 + l * 16 + c ≡ f' * 65536 + l' * 16 + c' = omega (arith, ea) in
    let d : f * 4096 + l ≡ f' * 4096 + l' = omega (arith, b) in
    let ef : f ≡ f' = omega (arith, d) in
    let el : l ≡ l' = omega (arith, d, ef) in
    let ec : c ≡ c' = omega (arith, b, d) in
    let ek : k ≡ k' = omega (arith, ea, b) in
    (ef, el, ec, ek, omega (arith, e, ea))

pub spells_once : (word case at case' at' : ℕ) (held held' : Held) → Spells word case at held → Spells word case' at' held' → (case ≡ case') × (at ≡ at') × (held ≡ held')
spells_once word case at case' at' held held' s t =
    let s₀ = s.0 in let s₁ = s.1 in let t₀ = t.0 in let t₁ = t.1 in
    let sc = s.2.1 in let sl = s.2.2 in let tc = t.2.1 in let tl = t.2.2 in
    let d = digits held.fault held.line held.code case at held'.fault held'.line held'.code case' at' (omega arith) (omega arith) (omega arith) (omega arith) (omega arith) (omega arith) (omega arith) (omega arith) (sym s.3 ∙ t.3) in
    (d.3, d.4, (λ i. record { code = d.2 i; line = d.1 i; fault = d.0 i }))

pub is_slot : {E : Type 0} (right : List E → ℕ → Held → Type 0) (seen : List E) (word : ℕ) → Sound right seen word → IsSlot word
is_slot right seen word sound = elim sound [ inl z ↦ inl z | inr t ↦ inr (t.0, t.1, t.2, t.3) ]

-- what a sound word spells is right at its point
pub right_there : {E : Type 0} (right : List E → ℕ → Held → Type 0) (seen : List E) (word case at : ℕ) (held : Held) → Sound right seen word → Spells word case at held → (at ≤ length seen) × right (take at seen) case held
right_there right seen word case at held sound spells = elim sound [
  | inl z ↦ absurd (let c = spells.2.0 in let e = spells.3 in omega arith)
  | inr t ↦ let same = spells_once word t.0 t.1 case at t.2 held t.3 spells in
      (subst (λ (n : ℕ). n ≤ length seen) same.1 t.4, subst (λ (z : ℕ × ℕ × Held). right (take z.1 seen) z.0 z.2) (λ i. (same.0 i, same.1 i, same.2 i)) t.5)
]

-- a hit is right: nothing that was seen behind its point touches a region of its case
pub hit_is_right : {E : Type 0} (right : List E → ℕ → Held → Type 0) (touches : List E → E → ℕ → Type 0) (seen : List E) (place : CasePlace) (slot count object store : ℕ) (answer : Look)
    → ((at : ℕ) (held : Held) → at ≤ length seen → right (take at seen) place.case held → Untouched touches seen at (object_region place.object) → Untouched touches seen at (store_region place.store) → right seen place.case held)
    → Sound right seen slot → Untouched touches seen object (object_region place.object) → Untouched touches seen store (store_region place.store)
    → IsAnswer place.case slot count object store answer → HitIsRight (right seen place.case) answer
hit_is_right right touches seen place slot count object store Miss law sound o s answers = tt
hit_is_right right touches seen place slot count object store (Hit at held) law sound o s answers =
    let t = ((answers at held).0 refl).1 in
    let there = right_there right seen slot place.case t.0 held sound t.1 in
    law t.0 held there.0 there.1
    (each_later (λ before e. ¬ touches before e (object_region place.object)) object t.0 seen t.2 o)
    (each_later (λ before e. ¬ touches before e (store_region place.store)) store t.0 seen t.3 s)
