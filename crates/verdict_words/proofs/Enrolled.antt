-- Passes by their seats, one after another.
use Rattle.std.proofs.Common.{◌≡◌, ◌≢◌, ℕ, zero, suc, ◌+◌, ◌<◌, ◌≤◌, List, [], ◌∷◌, ◌++◌, length, refl, sym, ap, ◌∙◌, subst, arith, length-append}
use Rattle.std.specs.Prelude.{All}
use Rattle.std.proofs.lemmas.List.Elements.{All-cons, All-nil}
use Rattle.std.proofs.lemmas.List.FromFn.{length-map-range_with_len, map-range_with_len_more}
use Rattle.verdict_words.specs.Rule.{IsSeated}
use Rattle.verdict_words.specs.Values.{ArePasses, Identity, IsPass, PassValue, SeatOf, enrolled, pass_of, roll_of}
use Rattle.verdict_words.specs.declared.views.AtomicStep.{AtomicStep}
use Rattle.verdict_words.specs.declared.views.Origin.{Origin}
use Rattle.verdict_words.proofs.Growing.{all_of_each}

module _ {E H : Type 0} where
  -- a pass that was made now
  abbrev pub new_of : Identity E H → List E → List AtomicStep → ℕ → PassValue E H
  new_of board entries known session = record { board = board; session = session; seen = entries; trail = []; known = known }

  pub length_roll : (first : ℕ) (seats : List (SeatOf E H)) → length (roll_of first seats) ≡ length seats
  length_roll first [] = refl
  length_roll first (s ∷ ss) = ap suc (length_roll (first + 1) ss)

  roll_last : (first : ℕ) (seats : List (SeatOf E H)) (seat : SeatOf E H) → roll_of first (seats ++ seat ∷ []) ≡ roll_of first seats ++ pass_of seat (first + length seats) ∷ []
  roll_last first [] seat = let same : first ≡ first + 0 = omega arith in ap (λ n. pass_of seat n ∷ []) same
  roll_last first (s ∷ ss) seat =
      let same : first + 1 + length ss ≡ first + suc (length ss) = omega arith in
      ap (λ l. pass_of s first ∷ l) (roll_last (first + 1) ss seat ∙ ap (λ n. roll_of (first + 1) ss ++ pass_of seat n ∷ []) same)

  passes_last : (first at : ℕ) (seats : List (SeatOf E H)) (seat : SeatOf E H) → ArePasses first at seats → IsPass seat.0 seat.1 (first + length seats) at → ArePasses first at (seats ++ seat ∷ [])
  passes_last first at [] seat all one = let same : first + 0 ≡ first = omega arith in (subst (λ n. IsPass seat.0 seat.1 n at) same one, tt)
  passes_last first at (s ∷ ss) seat all one =
      let same : first + suc (length ss) ≡ first + 1 + length ss = omega arith in
      (all.0, passes_last (first + 1) at ss seat all.1 (subst (λ n. IsPass seat.0 seat.1 n at) same one))

  -- the first so many of the new sessions have their seats
  pub record Enrolled (board : Identity E H) (first : ℕ) (entries : List E) (known : List AtomicStep) (count : ℕ) (seats : List (SeatOf E H)) : Type 0 where
    pub is : roll_of first seats ≡ enrolled board first entries known count
    pub passes : ArePasses first (length entries) seats
    pub long : length seats ≡ count

  pub enrolled_none : (board : Identity E H) (first : ℕ) (entries : List E) (known : List AtomicStep) → Enrolled board first entries known 0 []
  enrolled_none board first entries known = record { is = refl; passes = tt; long = refl }

  pub enrolled_next : (board : Identity E H) (first : ℕ) (entries : List E) (known : List AtomicStep) (count : ℕ) (seats : List (SeatOf E H)) (seat : SeatOf E H) (pass : PassValue E H) → Enrolled board first entries known count seats
      → pass ≡ new_of board entries known (first + count) → pass_of seat pass.session ≡ pass → IsPass seat.0 seat.1 pass.session (length pass.seen) → Enrolled board first entries known (count + 1) (seats ++ seat ∷ [])
  enrolled_next board first entries known count seats seat pass some is value holds =
      let number : pass.session ≡ first + length seats = ap (λ (p : PassValue E H). p.session) is ∙ ap (λ n. first + n) (sym some.long) in
      let seen : length pass.seen ≡ length entries = ap (λ (p : PassValue E H). length p.seen) is in
      let mine : pass_of seat (first + length seats) ≡ new_of board entries known (first + count) = ap (pass_of seat) (sym number) ∙ (value ∙ is) in
      let long : length (seats ++ seat ∷ []) ≡ count + 1 = length-append seats (seat ∷ []) ∙ ap (λ n. n + 1) some.long in
      record {
        is = roll_last first seats seat ∙ ((λ i. some.is i ++ mine i ∷ []) ∙ sym (map-range_with_len_more (new_of board entries known) first count (first + count) refl));
        passes = passes_last first (length entries) seats seat some.passes (subst (λ (z : ℕ × ℕ). IsPass seat.0 seat.1 z.0 z.1) (λ i. (number i, seen i)) holds);
        long = long;
      }

  pub enrolled_count : (board : Identity E H) (first : ℕ) (entries : List E) (known : List AtomicStep) (count : ℕ) → length (enrolled board first entries known count) ≡ count
  enrolled_count board first entries known count = length-map-range_with_len (new_of board entries known) first count

  -- what holds of each new pass
  pub enrolled_all : (P : PassValue E H → Type 0) (board : Identity E H) (first : ℕ) (entries : List E) (known : List AtomicStep) (count : ℕ)
      → ((session : ℕ) → first ≤ session → session < first + count → P (record { board = board; session = session; seen = entries; trail = []; known = known })) → All P (enrolled board first entries known count)
  enrolled_all P board first entries known zero each = All-nil P
  enrolled_all P board first entries known (suc n) each =
      All-cons P (new_of board entries known first) (enrolled board (first + 1) entries known n) (each first (omega arith) (omega arith))
      (enrolled_all P board (first + 1) entries known n (λ s low high. each s (omega arith) (omega arith)))

  -- no entry is of a session to come
  pub later_unused : (session : E → ℕ) (o : Origin E H) (entries : List E) (next turn s : ℕ) → IsSeated session o entries next turn → next ≤ s → All (λ e. session e ≢ s) entries
  later_unused session o entries next turn s seated le = all_of_each (λ e. session e ≢ s) entries
      (λ before e after eq far. let below = seated.below before e after eq far in λ is. absurd (omega (arith, below, le, is)))
