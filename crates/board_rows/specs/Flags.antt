-- The subject matter of the tests. An entry raises a flag, and a case is allowed until the flag with its number is raised. A flag touches the region of the object with its number alone, and a case is about an object of that region.
use Rattle.std.specs.Prelude.{◌≡◌, ◌≢◌, ℕ, zero, suc, ◌%◌, ◌<◌, List, [], ◌∷◌, ◌++◌, length, take}
use Rattle.std.proofs.Common.{refl, sym, ap, ◌∙◌, arith, lt_of_not-le}
use mathlib.Core.Logic.{dite}
use Rattle.verdict_words.specs.Histories.{EachFrom, Untouched}
use Rattle.verdict_words.specs.Words.{object_region}
use Rattle.verdict_words.specs.declared.places.Held.{Held}
use Rattle.verdict_words.specs.declared.places.CasePlace.{CasePlace}
use native.Mathlib.Decide.{dec_le}

abbrev pub allowed : Held
allowed = record { code = 1; line = 0; fault = 0 }

abbrev pub IsOwnPlace : CasePlace → Type 0
IsOwnPlace place = object_region place.object ≡ object_region place.case

-- what was taken goes up to an entry and beyond
through : {E : Type 0} (before : List E) (e : E) (after : List E) (at : ℕ) → length before < at → (more : List E) × (take at (before ++ e ∷ after) ≡ before ++ e ∷ more)
through [] e after zero far = absurd (omega arith)
through [] e after (suc at) far = (take at after, refl)
through (b ∷ before) e after zero far = absurd (omega arith)
through (b ∷ before) e after (suc at) far = let t = through before e after at (omega arith) in (t.0, ap (λ l. b ∷ l) t.1)

module _ {E : Type 0} (flag : E → ℕ) where
  abbrev pub IsAllowed : List E → ℕ → Held → Type 0
  IsAllowed history case held = (held ≡ allowed) × EachFrom 0 history (λ before e. flag e ≢ case)

  abbrev pub Raises : List E → E → ℕ → Type 0
  Raises history e region = region ≡ object_region (flag e)

  pub stays_allowed : (history : List E) (at : ℕ) (place : CasePlace) (held : Held) → IsOwnPlace place → IsAllowed (take at history) place.case held → Untouched Raises history at (object_region place.object) → IsAllowed history place.case held
  stays_allowed history at place held own was still = (
    was.0,
    λ before e after is far same. dite (dec_le at (length before))
        (λ late. still before e after is late (own ∙ ap object_region (sym same)))
        (λ early. let t = through before e after at (lt_of_not-le early) in was.1 before e t.0 (ap (take at) is ∙ t.1) (omega arith) same),
  )
