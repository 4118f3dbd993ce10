-- Tallies of which each is at most the other.
use Rattle.std.proofs.Common.{◌≡◌, ◌≤◌, ◌+◌, ℕ, zero, suc, false, List, [], ◌∷◌, unwrap_or, set, refl, arith}
use Rattle.std.specs.List.{slice_get}
use Rattle.std.proofs.lemmas.Bool.{lt-leb, le-ltb}
use Rattle.policy_history.specs.declared.tallies.Tally.{Tally}
use Rattle.policy_history.specs.Machine.{is_full, is_spent}
use Rattle.policy_history.specs.States.{State}
use Rattle.policy_history.proofs.ForCallers.{fitting, unspent}

pub record IsAtMost (t u : Tally) : Type 0 where
  pub entries : t.entries ≤ u.entries
  pub bytes : t.bytes ≤ u.bytes

-- what stands at a place, or nothing
abbrev tally_in : List Tally → ℕ → Tally
tally_in ts p = unwrap_or (slice_get ts p) (record { entries = 0; bytes = 0 })

-- as many, and each at most the other
abbrev pub AreAtMost : List Tally → List Tally → Type 0
AreAtMost [] [] = Unit {0}
AreAtMost (t ∷ ts) (u ∷ us) = IsAtMost t u × AreAtMost ts us
AreAtMost _ _ = ⊥

pub most_self : (ts : List Tally) → AreAtMost ts ts
most_self [] = tt
most_self (t ∷ ts) = (record { entries = omega arith; bytes = omega arith }, most_self ts)

pub most_at : (ts us : List Tally) (p : ℕ) → AreAtMost ts us → IsAtMost (tally_in ts p) (tally_in us p)
most_at [] [] p all = record { entries = omega arith; bytes = omega arith }
most_at (t ∷ ts) [] p all = absurd all
most_at [] (u ∷ us) p all = absurd all
most_at (t ∷ ts) (u ∷ us) zero all = all.0
most_at (t ∷ ts) (u ∷ us) (suc p) all = most_at ts us p all.1

-- where both grow, and where the other does
pub most_both : (ts us : List Tally) (p : ℕ) (t u : Tally) → AreAtMost ts us → IsAtMost t u → AreAtMost (set ts p t) (set us p u)
most_both [] [] p t u all most = tt
most_both (x ∷ ts) [] p t u all most = absurd all
most_both [] (y ∷ us) p t u all most = absurd all
most_both (x ∷ ts) (y ∷ us) zero t u all most = (most, all.1)
most_both (x ∷ ts) (y ∷ us) (suc p) t u all most = (all.0, most_both ts us p t u all.1 most)

pub most_other : (ts us : List Tally) (p n b : ℕ) → AreAtMost ts us → AreAtMost ts (set us p (record { entries = (tally_in us p).entries + n; bytes = (tally_in us p).bytes + b }))
most_other [] [] p n b all = tt
most_other (x ∷ ts) [] p n b all = absurd all
most_other [] (y ∷ us) p n b all = absurd all
most_other (x ∷ ts) (y ∷ us) zero n b all = let e = all.0.entries in let f = all.0.bytes in (record { entries = omega (arith, e); bytes = omega (arith, f) }, all.1)
most_other (x ∷ ts) (y ∷ us) (suc p) n b all = (all.0, most_other ts us p n b all.1)

-- one that has added less may add a line that is no longer
pub still_unspent : (t u : Tally) (m n : ℕ) → IsAtMost t u → m ≤ n → is_spent u n ≡ false → is_spent t m ≡ false
still_unspent t u m n most short free =
    let left = unspent u n free in
    let e = most.entries in
    let f = most.bytes in
    rw (lt-leb 4096 t.entries (omega (arith, e, left.0)), le-ltb 524288 (t.bytes + m) (omega (arith, f, short, left.1))) refl

-- and so may a journal that has less
pub still_fits : (s u : State) (m n : ℕ) → s.entries ≤ u.entries → s.bytes ≤ u.bytes → m ≤ n → is_full u n ≡ false → is_full s m ≡ false
still_fits s u m n fewer less short free =
    let left = fitting u n free in
    rw (lt-leb 262144 s.entries (omega (arith, fewer, left.0)), le-ltb 33554432 (s.bytes + m) (omega (arith, less, short, left.1))) refl
