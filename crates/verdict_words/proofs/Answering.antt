-- What a look answers to the words that it loaded.
use Rattle.std.proofs.Common.{◌≡◌, ℕ, ◌<◌, ◌≤◌, max, refl, sym, ap, subst, arith, Option, Some, None, Bool, true, false, true≢false}
use Rattle.std.specs.Prelude.{◌↔◌}
use Rattle.verdict_words.specs.Words.{Spells}
use Rattle.verdict_words.specs.Answers.{IsAnswer}
use Rattle.verdict_words.specs.declared.places.Held.{Held}
use Rattle.verdict_words.specs.declared.places.Look.{Look}
use Rattle.verdict_words.specs.declared.places.Look.TheVariants.{Hit, Miss}

abbrev is_hit : Look → Bool
is_hit (Hit at held) = true
is_hit Miss = false

abbrev at_of : Look → ℕ
at_of (Hit at held) = at
at_of Miss = 0

abbrev held_of : Held → Look → Held
held_of d (Hit at held) = held
held_of d Miss = d

abbrev pair_of : ℕ × Held → Option (ℕ × Held) → ℕ × Held
pair_of d (Some x) = x
pair_of d None = d

-- what a slot keeps for a case
abbrev pub Keeps : ℕ → ℕ → Option (ℕ × Held) → Type 0
Keeps slot case found = (at : ℕ) (held : Held) → (found ≡ Some (at, held)) ↔ Spells slot case at held

pub hits : (case slot count object store at latest : ℕ) (held : Held) → Keeps slot case (Some (at, held)) → latest ≡ max object store → latest ≤ at → IsAnswer case slot count object store (Hit count held)
hits case slot count object store at latest held keeps latest_is low a h = (
  (λ e. let same : held ≡ h = ap (held_of held) e in
      (sym (ap at_of e), (at, subst (Spells slot case at) same ((keeps at held).0 refl), omega arith, omega arith))),
  (λ t. let is = ap (pair_of (at, held)) ((keeps t.1.0 h).1 t.1.1) in
      λ i. Hit (sym t.0 i) (ap (λ (z : ℕ × Held). z.1) is i)),
)

pub misses_nothing : (case slot count object store : ℕ) → Keeps slot case None → IsAnswer case slot count object store Miss
misses_nothing case slot count object store keeps a h = (
  (λ e. absurd (true≢false (sym (ap is_hit e)))),
  (λ t. absurd (cc ((keeps t.1.0 h).1 t.1.1))),
)

pub misses_late : (case slot count object store at latest : ℕ) (held : Held) → Keeps slot case (Some (at, held)) → latest ≡ max object store → at < latest → IsAnswer case slot count object store Miss
misses_late case slot count object store at latest held keeps is late a h = (
  (λ e. absurd (true≢false (sym (ap is_hit e)))),
  (λ t. let same = ap (λ (z : ℕ × Held). z.0) (ap (pair_of (at, held)) ((keeps t.1.0 h).1 t.1.1)) in let o = t.1.2 in let s = t.1.3 in absurd (omega arith)),
)
