-- What a look answers.
use Rattle.std.specs.Prelude.{◌≡◌, ◌↔◌, ℕ, ◌≤◌}
use Rattle.verdict_words.specs.Words.{Spells}
use Rattle.verdict_words.specs.declared.places.Held.{Held}
use Rattle.verdict_words.specs.declared.views.Item.{Item}
use Rattle.verdict_words.specs.declared.views.Item.TheVariants.{Loaded, Met, Filled, Ran}
use Rattle.verdict_words.specs.declared.places.Look.{Look}
use Rattle.verdict_words.specs.declared.places.Look.TheVariants.{Hit, Miss}

-- The words of a slot, of the object's region and of the store's region make a hit for the case, with this verdict: the slot's word spells the case with it at some point to which both regions' words are at most equal
abbrev pub MakesHit : ℕ → ℕ → ℕ → ℕ → Held → Type 0
MakesHit case slot object store held = (point : ℕ) × Spells slot case point held × (object ≤ point) × (store ≤ point)

-- the words that a look loaded make a hit with this verdict
abbrev pub IsHitWith : Item → Held → Type 0
IsHitWith (Loaded place slot count object store) held = MakesHit place.case slot object store held
IsHitWith (Met n) held = ⊥
IsHitWith (Filled case at kept) held = ⊥
IsHitWith (Ran object step value) held = ⊥

-- a hit comes exactly where the words make one, and its own point is the count
abbrev pub IsAnswer : ℕ → ℕ → ℕ → ℕ → ℕ → Look → Type 0
IsAnswer case slot count object store answer =
    (at : ℕ) (held : Held) → (answer ≡ Hit at held) ↔ ((at ≡ count) × MakesHit case slot object store held)

-- the verdict of a hit, if it is one, is right
abbrev pub HitIsRight : (Held → Type 0) → Look → Type 0
HitIsRight right (Hit at held) = right held
HitIsRight right Miss = Unit {0}
