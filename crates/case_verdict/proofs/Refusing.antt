-- The lowest ask line that is not answered Yes.
use Rattle.std.proofs.Common.{◌≡◌, ◌<◌, ◌≤◌, ◌+◌, ◌↔◌, ℕ, zero, suc, List, [], ◌∷◌, length, filter, take, Bool, true, false, IsTrue, Some, refl, sym, ap, ◌∙◌, subst, arith}
use Rattle.std.specs.List.{slice_get}
use Rattle.std.proofs.lemmas.Option.{slice_get_within}
use Rattle.proof_lines.specs.declared.rules.Rule.{Rule}
use Rattle.proof_lines.specs.declared.rules.Rule.TheVariants.{Ask}
use Rattle.proof_lines.specs.Lines.{LineTree}
use Rattle.nal_rules.specs.Faults.{is_ask}
use Rattle.nal_rules.specs.Verdicts.{IsAnsweredNo, IsLowest, ask_place}
use Rattle.proof_check.proofs.ForCallers.{one_more}
use Rattle.case_verdict.specs.OpenCases.{IsAskLine}

-- the first lines were gone through: none of them is refused, and so many of them are ask lines
pub record IsGoneThrough (ls : List LineTree) (answers : List Bool) (i asks : ℕ) : Type 0 where
  pub none : (j : ℕ) → j < i + 1 → ¬ IsAnsweredNo ls answers j
  pub count : asks ≡ length (filter is_ask (take i ls))
  pub few : asks ≤ i

none_at_zero : (ls : List LineTree) (answers : List Bool) → ¬ IsAnsweredNo ls answers 0
none_at_zero ls answers n = cc n.1

pub at_first : (ls : List LineTree) (answers : List Bool) → IsGoneThrough ls answers 0 0
at_first ls answers = record { none = λ j low n. let z : j ≡ 0 = omega (arith, low) in none_at_zero ls answers (subst (IsAnsweredNo ls answers) z n); count = none_taken ls; few = omega arith }
  where
    none_taken : (ls : List LineTree) → 0 ≡ length (filter is_ask (take 0 ls))
    none_taken [] = refl
    none_taken (x ∷ ls) = refl

ask_passes : (l : LineTree) → l.rule ≡ Ask → is_ask l ≡ true
ask_passes l r = rw r refl

passes_ask : (l : LineTree) → is_ask l ≡ true → l.rule ≡ Ask
passes_ask l e = of l.rule refl
  where
    of : (r : Rule) → l.rule ≡ r → l.rule ≡ Ask
    of Ask q = q
    of _ q = absurd (cc (rw q at e))

-- one line more
counted_ask : (ls : List LineTree) (i : ℕ) (l : LineTree) → slice_get ls i ≡ Some l → is_ask l ≡ true → length (filter is_ask (take (suc i) ls)) ≡ suc (length (filter is_ask (take i ls)))
counted_ask [] i l e q = absurd (cc e)
counted_ask (x ∷ ls) zero l e q = let same : x ≡ l = cc e in let asks : is_ask x ≡ true = ap is_ask same ∙ q in rw asks (none ls)
  where
    none : (ls : List LineTree) → suc (length (filter is_ask (take 0 ls))) ≡ 1
    none [] = refl
    none (x ∷ ls) = refl
counted_ask (x ∷ ls) (suc i) l e q = of (is_ask x) refl (counted_ask ls i l e q)
  where
    of : (b : Bool) → is_ask x ≡ b → length (filter is_ask (take (suc i) ls)) ≡ suc (length (filter is_ask (take i ls))) → length (filter is_ask (x ∷ take (suc i) ls)) ≡ suc (length (filter is_ask (x ∷ take i ls)))
    of true t later = rw t (ap suc later)
    of false t later = rw t later

counted_other : (ls : List LineTree) (i : ℕ) → ((l : LineTree) → slice_get ls i ≡ Some l → is_ask l ≡ true → ⊥) → length (filter is_ask (take (suc i) ls)) ≡ length (filter is_ask (take i ls))
counted_other [] zero apart = refl
counted_other [] (suc i) apart = refl
counted_other (x ∷ ls) zero apart = of (is_ask x) refl
  where
    none : (ls : List LineTree) → length (filter is_ask (take 0 ls)) ≡ 0
    none [] = refl
    none (x ∷ ls) = refl

    of : (b : Bool) → is_ask x ≡ b → length (filter is_ask (x ∷ take 0 ls)) ≡ 0
    of true t = absurd (apart x refl t)
    of false t = rw t (none ls)
counted_other (x ∷ ls) (suc i) apart = of (is_ask x) refl (counted_other ls i apart)
  where
    of : (b : Bool) → is_ask x ≡ b → length (filter is_ask (take (suc i) ls)) ≡ length (filter is_ask (take i ls)) → length (filter is_ask (x ∷ take (suc i) ls)) ≡ length (filter is_ask (x ∷ take i ls))
    of true t later = rw t (ap suc later)
    of false t later = rw t later

module _ (ls : List LineTree) (answers : List Bool) (i asks : ℕ) (so_far : IsGoneThrough ls answers i asks) where
  -- an ask line that is answered Yes
  pub past_yes : (b : Bool) → IsTrue b ↔ (slice_get answers asks ≡ Some true) → IsTrue b → IsAskLine ls (i + 1) → IsGoneThrough ls answers (i + 1) (asks + 1)
  past_yes b affirmed is_yes line =
      let next : i + 1 ≡ suc i = omega arith in
      let l = line.0 in
      let stands : slice_get ls i ≡ Some l = rw next at line.1 in
      let more = counted_ask ls i l stands (ask_passes l line.2) in
      let count = so_far.count in
      let few = so_far.few in
      let place : ask_place ls (i + 1) ≡ asks = rw next (sym count) in
      record {
        none = one_more {P = IsAnsweredNo ls answers} so_far.none (λ n. n.3 (rw place (affirmed.0 is_yes)));
        count = rw next (omega (arith, more, count));
        few = omega (arith, few);
      }

  -- a line that is no ask line
  pub past_other : (IsAskLine ls (i + 1) → ⊥) → IsGoneThrough ls answers (i + 1) asks
  past_other apart =
      let next : i + 1 ≡ suc i = omega arith in
      let more = counted_other ls i (λ l stands q. apart (l, rw next stands, passes_ask l q)) in
      let count = so_far.count in
      let few = so_far.few in
      record {
        none = one_more {P = IsAnsweredNo ls answers} so_far.none (λ n. apart (n.0, n.1, n.2));
        count = rw next (omega (arith, more, count));
        few = omega (arith, few);
      }

  -- the first that is not answered Yes
  pub first_no : (b : Bool) → IsTrue b ↔ (slice_get answers asks ≡ Some true) → (IsTrue b → ⊥) → IsAskLine ls (i + 1) → IsLowest (IsAnsweredNo ls answers) (i + 1)
  first_no b affirmed not_yes line =
      let next : i + 1 ≡ suc i = omega arith in
      let count = so_far.count in
      let place : ask_place ls (i + 1) ≡ asks = rw next (sym count) in
      ((line.0, line.1, line.2, λ told. not_yes (affirmed.1 (rw place at told))), so_far.none)

-- behind the last line none is refused
pub none_refused : (ls : List LineTree) (answers : List Bool) (i asks : ℕ) → length ls ≤ i → IsGoneThrough ls answers i asks → (k : ℕ) → ¬ IsAnsweredNo ls answers k
none_refused ls answers i asks all so_far zero n = none_at_zero ls answers n
none_refused ls answers i asks all so_far (suc k) n =
    let within = slice_get_within ls k n.0 n.1 in
    so_far.none (suc k) (omega (arith, within, all)) n
