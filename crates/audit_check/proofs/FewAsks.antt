-- A case that is open has at most 16 ask lines: the one behind them would have a fault.
use Rattle.std.proofs.Common.{◌≡◌, ◌<◌, ◌≤◌, ◌⊎◌, inl, inr, ℕ, zero, suc, List, [], ◌∷◌, length, filter, take, Bool, true, false, Some, refl, arith}
use Rattle.std.specs.List.{slice_get}
use Rattle.std.proofs.lemmas.Bool.{cases_lt}
use Rattle.proof_lines.specs.Lines.{LineTree}
use Rattle.nal_rules.specs.Faults.{is_ask}
use Rattle.nal_rules.specs.Verdicts.{CaseTree}
use Rattle.nal_rules.specs.declared.verdicts.Fault.TheVariants.{TooManyAsks}
use Rattle.case_verdict.specs.OpenCases.{IsAskLine, IsOpen}
use Rattle.audit_check.proofs.AskLines.{ask_passes, passes_ask}
use Rattle.audit_check.proofs.Opened.{no_faults}

-- an ask line with which there are more than m
abbrev IsCrossing : List LineTree → ℕ → Type 0
IsCrossing ls m = (i : ℕ) × (l : LineTree) × (slice_get ls i ≡ Some l) × (is_ask l ≡ true) × (m < length (filter is_ask (take (suc i) ls)))

crossing : (ls : List LineTree) (m : ℕ) → m < length (filter is_ask ls) → IsCrossing ls m
crossing [] m more = absurd (omega (arith, more))
crossing (x ∷ ls) m more = of (is_ask x) refl m more (crossing ls)
  where
    of : (b : Bool) → is_ask x ≡ b → (n : ℕ) → n < length (filter is_ask (x ∷ ls)) → ((j : ℕ) → j < length (filter is_ask ls) → IsCrossing ls j) → IsCrossing (x ∷ ls) n
    of false e n more rest = let w = rest n (rw e at more) in (suc w.0, w.1, w.2, w.3, rw e w.4)
    of true e zero more rest = (0, x, refl, e, rw e (omega arith))
    of true e (suc n) more rest = let later = rw e at more in let w = rest n (omega (arith, later)) in let fewer = w.4 in (suc w.0, w.1, w.2, w.3, rw e (omega (arith, fewer)))

pub few_asks : (c : CaseTree) (ls : List LineTree) → IsOpen c ls → length (filter is_ask ls) ≤ 16
few_asks c ls o = of (cases_lt 16 (length (filter is_ask ls)))
  where
    of : (16 < length (filter is_ask ls)) ⊎ (length (filter is_ask ls) ≤ 16) → length (filter is_ask ls) ≤ 16
    of (inl more) = let w = crossing ls 16 more in absurd ((no_faults c o.undecided ls o.proof_is).1 (suc w.0) w.1 w.2 TooManyAsks (passes_ask w.1 w.3, w.4))
    of (inr few) = few

-- before an ask line stand fewer than there are
pub fewer_before : (ls : List LineTree) (i : ℕ) → IsAskLine ls (suc i) → length (filter is_ask (take i ls)) < length (filter is_ask ls)
fewer_before [] i a = absurd (cc a.1)
fewer_before (x ∷ ls) zero a = let same : x ≡ a.0 = cc a.1 in let asks : is_ask x ≡ true = rw same (ask_passes a.0 a.2) in rw asks (omega arith)
fewer_before (x ∷ ls) (suc i) a = of (is_ask x) refl (fewer_before ls i (a.0, a.1, a.2))
  where
    of : (b : Bool) → is_ask x ≡ b → length (filter is_ask (take i ls)) < length (filter is_ask ls) → length (filter is_ask (take (suc i) (x ∷ ls))) < length (filter is_ask (x ∷ ls))
    of true e fewer = rw e (omega (arith, fewer))
    of false e fewer = rw e fewer
