-- What is looked up in the state of a history stays from the last entry on that may change it.
use Rattle.std.proofs.Common.{◌≡◌, ◌<◌, ◌≤◌, ◌+◌, ◌-◌, ℕ, zero, suc, Bool, false, List, [], ◌∷◌, ◌++◌, length, take, drop, Some, refl, sym, ap, ◌∙◌, subst, arith}
use Rattle.std.specs.List.{slice_get}
use Rattle.object_table.specs.Objects.{number_of}
use Rattle.policy_history.specs.declared.heads.Head.{Head}
use Rattle.policy_history.specs.Events.{EntryTree}
use Rattle.policy_history.specs.Machine.{IsAccepted, IsLegal, accepted, replay}
use Rattle.policy_history.specs.States.{State}
use Rattle.policy_history.proofs.ForCallers.{accepted_at, objects_stay, replay_accepted, take_one_more}
use Rattle.label_holdings.specs.Entries.{entry_at}

-- there is an entry at each place
pub read_at : (es : List EntryTree) (i : ℕ) → i < length es → (e : EntryTree) × (slice_get es i ≡ Some e)
read_at [] i h = absurd (omega (arith, h))
read_at (e ∷ es) zero h = (e, refl)
read_at (x ∷ es) (suc i) h = read_at es i (omega (arith, h))

pub take_whole : (es : List EntryTree) → take (length es) es ≡ es
take_whole [] = refl
take_whole (e ∷ es) = ap (λ (xs : List EntryTree). e ∷ xs) (take_whole es)

split_at : (es : List EntryTree) (i : ℕ) → take i es ++ drop i es ≡ es
split_at es zero = refl
split_at [] (suc i) = refl
split_at (e ∷ es) (suc i) = ap (λ (xs : List EntryTree). e ∷ xs) (split_at es i)

-- the state that the first entries lead to
abbrev pub at : Head → List EntryTree → ℕ → State
at h es i = replay h (take i es)

module _ (h : Head) (es : List EntryTree) (legal : IsLegal h es) where
  pub whole : at h es (length es) ≡ replay h es
  whole = ap (replay h) (take_whole es)

  -- one entry more
  pub next : (i : ℕ) (e : EntryTree) → slice_get es i ≡ Some e → at h es (i + 1) ≡ accepted h (at h es i) e.session e.principal e.event
  next i e here = ap (replay h) (take_one_more es i e here) ∙ replay_accepted h (take i es) e (accepted_at h es i e legal here)

  -- an object that has a number has it at the end
  pub number_stays : (i : ℕ) (x : List ℕ) (k : ℕ) → number_of (at h es i).objects x ≡ Some k → number_of (replay h es).objects x ≡ Some k
  number_stays i x k there = subst (λ (ys : List EntryTree). number_of (replay h ys).objects x ≡ Some k) (split_at es i) (objects_stay h (take i es) (drop i es) x k there)

  -- what each accepted entry keeps holds of each state on the way
  pub kept_behind : (P : State → Type 0) → ((s : State) (e : EntryTree) → IsAccepted h s e → P s → P (accepted h s e.session e.principal e.event)) → (n d : ℕ) → n + d ≤ length es → P (at h es n) → P (at h es (n + d))
  kept_behind P step n zero within holds = let same : n ≡ n + 0 = omega arith in subst (λ (m : ℕ). P (at h es m)) same holds
  kept_behind P step n (suc d) within holds =
      let i = n + d in
      let read = read_at es i (omega (arith, within)) in
      let one : i + 1 ≡ n + suc d = omega arith in
      subst (λ (m : ℕ). P (at h es m)) one (subst P (sym (next i read.0 read.1)) (step (at h es i) read.0 (accepted_at h es i read.0 legal read.1) (kept_behind P step n d (omega (arith, within)) holds)))

  -- and so to a later one
  pub kept_until : (P : State → Type 0) → ((s : State) (e : EntryTree) → IsAccepted h s e → P s → P (accepted h s e.session e.principal e.event)) → (n m : ℕ) → n ≤ m → m ≤ length es → P (at h es n) → P (at h es m)
  kept_until P step n m before within holds =
      let rest : n + (m - n) ≡ m = omega (arith, before) in
      subst (λ (i : ℕ). P (at h es i)) rest (kept_behind P step n (m - n) (omega (arith, rest, within)) holds)

  module _ {V : Type 0} (look : State → V) (passes : EntryTree → Bool)
      (stays : (i : ℕ) (e : EntryTree) → slice_get es i ≡ Some e → passes e ≡ false → look (accepted h (at h es i) e.session e.principal e.event) ≡ look (at h es i)) where
    pub stays_from : (n d : ℕ) → n + d ≤ length es → ((m : ℕ) (e : EntryTree) → n < m → entry_at es m ≡ Some e → passes e ≡ false) → look (at h es (n + d)) ≡ look (at h es n)
    stays_from n zero within none = ap (λ (m : ℕ). look (at h es m)) (omega arith)
    stays_from n (suc d) within none =
        let i = n + d in
        let read = read_at es i (omega (arith, within)) in
        let more : n + suc d ≡ i + 1 = omega arith in
        ap (λ (m : ℕ). look (at h es m)) more ∙ ap look (next i read.0 read.1) ∙ stays i read.0 read.1 (none (suc i) read.0 (omega arith) read.1) ∙ stays_from n d (omega (arith, within)) none

    -- from a number on behind which no entry passes
    pub stays_behind : (n : ℕ) → n ≤ length es → ((m : ℕ) (e : EntryTree) → n < m → entry_at es m ≡ Some e → passes e ≡ false) → look (replay h es) ≡ look (at h es n)
    stays_behind n within none =
        let rest : n + (length es - n) ≡ length es = omega (arith, within) in
        ap look (sym whole) ∙ ap (λ (m : ℕ). look (at h es m)) (sym rest) ∙ stays_from n (length es - n) (omega (arith, rest)) none
