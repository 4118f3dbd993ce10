-- What the last entry that undoes a slot leaves in it, the last one of the compacted history does too.
use Rattle.std.proofs.Common.{◌≡◌, ◌<◌, ◌+◌, ◌⊎◌, inl, inr, ℕ, zero, suc, Bool, true, false, not, is_some, List, [], ◌∷◌, map, cond, Option, Some, None, refl, sym, ap, ◌∙◌, arith}
use Rattle.std.specs.List.{list_any}
use Rattle.std.specs.Option.{option_and_then}
use Rattle.policy_history.specs.Events.{EventTree, EntryTree, transfer}
use Rattle.label_holdings.specs.Entries.{IsLast, entry_at}
use Rattle.policy_compaction.specs.Kept.{Numbered, compacted, kept, kept_from, matters, moved}
use Rattle.policy_compaction.specs.Slots.{SlotTree, left_by, undoes}
use Rattle.policy_compaction.proofs.MovedEntries.{by_event, undoes_moved}

-- ---- The last entry that passes a test

module _ (passes : EntryTree → Bool) where
  -- the later one, or this one, if it passes
  abbrev last_or : Option EntryTree → EntryTree → Option EntryTree
  last_or (Some x) e = Some x
  last_or None e = cond (passes e) (Some e) None

  -- the last that passes, if one does
  abbrev pub last_of : List EntryTree → Option EntryTree
  last_of [] = None
  last_of (e ∷ es) = last_or (last_of es) e

  -- one passes where some does
  any_is : (es : List EntryTree) → list_any passes es ≡ is_some (last_of es)
  any_is [] = refl
  any_is (e ∷ es) = of (last_of es) refl (passes e) refl (any_is es)
    where
      of : (o : Option EntryTree) → last_of es ≡ o → (b : Bool) → passes e ≡ b → list_any passes es ≡ is_some (last_of es)
          → list_any passes (e ∷ es) ≡ is_some (last_of (e ∷ es))
      of (Some x) s true p rest = rw (s, p) refl
      of (Some x) s false p rest = rw (p, rest, s) refl
      of None s true p rest = rw (s, p) refl
      of None s false p rest = rw (p, rest, s, p) refl

  further : (x : EntryTree) (es : List EntryTree) (n : ℕ) (e : EntryTree) → entry_at es n ≡ Some e → entry_at (x ∷ es) (suc n) ≡ Some e
  further x es zero e here = absurd (cc here)
  further x es (suc i) e here = here

  -- where none is told, none passes
  pub none_of : (es : List EntryTree) → last_of es ≡ None → (m : ℕ) (e : EntryTree) → entry_at es m ≡ Some e → passes e ≡ false
  none_of es none zero e here = absurd (cc here)
  none_of [] none (suc i) e here = absurd (cc here)
  none_of (x ∷ es) none (suc i) e here = of (last_of es) refl (passes x) refl i here (none_of es)
    where
      of : (o : Option EntryTree) → last_of es ≡ o → (b : Bool) → passes x ≡ b → (i : ℕ) → entry_at (x ∷ es) (suc i) ≡ Some e
          → (last_of es ≡ None → (m : ℕ) (e : EntryTree) → entry_at es m ≡ Some e → passes e ≡ false) → passes e ≡ false
      of (Some y) s b p i here rest = absurd (cc (rw s at none))
      of None s true p i here rest = absurd (cc (rw (s, p) at none))
      of None s false p zero here rest = let same : x ≡ e = cc here in ap passes (sym same) ∙ p
      of None s false p (suc j) here rest = rest s (suc j) e here

  -- and the one that is told is the last
  pub is_last : (es : List EntryTree) (e : EntryTree) → last_of es ≡ Some e → (n : ℕ) × IsLast passes es n e
  is_last [] e is = absurd (cc is)
  is_last (x ∷ es) e is = of (last_of es) refl (passes x) refl (is_last es)
    where
      later_on : (n : ℕ) → ((m : ℕ) (other : EntryTree) → n < m → entry_at es m ≡ Some other → passes other ≡ false)
          → (m : ℕ) (other : EntryTree) → suc n < m → entry_at (x ∷ es) m ≡ Some other → passes other ≡ false
      later_on n later zero other above here = absurd (cc here)
      later_on n later (suc zero) other above here = absurd (omega (arith, above))
      later_on n later (suc (suc j)) other above here = later (suc j) other (omega (arith, above)) here

      of : (o : Option EntryTree) → last_of es ≡ o → (b : Bool) → passes x ≡ b → ((y : EntryTree) → last_of es ≡ Some y → (n : ℕ) × IsLast passes es n y)
          → (n : ℕ) × IsLast passes (x ∷ es) n e
      of (Some y) s b p rest =
          let same : Some y ≡ Some e = rw s at is in
          let l = rest e (s ∙ same) in
          (suc l.0, record { stands = further x es l.0 e l.1.stands; passing = l.1.passing; later = later_on l.0 l.1.later })
      of None s true p rest =
          let same : Some x ≡ Some e = rw (s, p) at is in
          let one : x ≡ e = cc same in
          (1, record { stands = same; passing = ap passes (sym one) ∙ p; later = later_on 0 (λ m other above. none_of es s m other) })
      of None s false p rest = absurd (cc (rw (s, p) at is))

-- ---- A slot, and what an entry that undoes it leaves there

-- what matters by what it leaves
pub matters_by : (k : ℕ) (e : EntryTree) (later : List EntryTree) (slot : SlotTree) → left_by k e ≡ Some slot → matters k e later ≡ not (list_any (undoes slot) later)
matters_by k e later slot leaves = rw leaves refl

pub matters_not : (k : ℕ) (e : EntryTree) (later : List EntryTree) → left_by k e ≡ None → matters k e later ≡ false
matters_not k e later nothing = rw nothing refl

-- an entry that undoes the slot fills it, or leaves nothing, and then tells of no value
abbrev pub Fills : {V : Type 0} → SlotTree → (EventTree → Option V) → Type 0
Fills slot value = (k : ℕ) (e : EntryTree) → undoes slot e ≡ true → (left_by k e ≡ Some slot) ⊎ ((left_by k e ≡ None) × (value e.event ≡ None))

module _ {V : Type 0} (slot : SlotTree) (value : EventTree → Option V) (fills : Fills slot value) (gives : (k j : ℕ) (to : List ℕ) → value (transfer k to) ≡ value (transfer j to)) where
  abbrev last : List EntryTree → Option EntryTree
  last es = last_of (undoes slot) es

  -- the value in the slot
  abbrev pub told : List EntryTree → Option V
  told es = option_and_then (λ (e : EntryTree). value e.event) (last es)

  -- the last of all entries, and the last of those that are kept
  abbrev Agree : Option EntryTree → Option EntryTree → Type 0
  Agree None None = Unit {0}
  Agree None (Some y) = ⊥
  Agree (Some x) None = value x.event ≡ None
  Agree (Some x) (Some y) = value x.event ≡ value y.event

  module _ (k : ℕ) (e : EntryTree) (es : List EntryTree) where
    -- one that undoes the slot matters where it fills the slot, and no later one undoes that
    matters_last : undoes slot e ≡ true → matters k e es ≡ true → last es ≡ None
    matters_last passes matters_so = of (fills k e passes) (last es) refl
      where
        of : (left_by k e ≡ Some slot) ⊎ ((left_by k e ≡ None) × (value e.event ≡ None)) → (o : Option EntryTree) → last es ≡ o → last es ≡ None
        of (inl filled) None s = s
        of (inl filled) (Some x) s = absurd (cc (sym matters_so ∙ matters_by k e es slot filled ∙ ap not (any_is (undoes slot) es ∙ ap is_some s)))
        of (inr nothing) o s = absurd (cc (sym matters_so ∙ matters_not k e es nothing.0))

    -- one that does not matter, though no later one undoes the slot, leaves no value
    no_value : undoes slot e ≡ true → matters k e es ≡ false → last es ≡ None → value e.event ≡ None
    no_value passes left_out none = of (fills k e passes)
      where
        of : (left_by k e ≡ Some slot) ⊎ ((left_by k e ≡ None) × (value e.event ≡ None)) → value e.event ≡ None
        of (inl filled) = absurd (cc (sym left_out ∙ matters_by k e es slot filled ∙ ap not (any_is (undoes slot) es ∙ ap is_some none)))
        of (inr nothing) = nothing.1

    -- one entry more, which is left out
    out : matters k e es ≡ false → (a b : Option EntryTree) → last es ≡ a → Agree a b → Agree (last_or (undoes slot) a e) b
    out left_out (Some x) b s rest = rest
    out left_out None (Some y) s rest = absurd rest
    out left_out None None s rest = of (undoes slot e) refl
      where
        of : (b : Bool) → undoes slot e ≡ b → Agree (cond (undoes slot e) (Some e) None) None
        of true p = rw p (no_value p left_out s)
        of false p = rw p tt

    -- or kept
    in_place : (ks : List Numbered) → matters k e es ≡ true → (a b : Option EntryTree) → last es ≡ a → Agree a b
        → Agree (last_or (undoes slot) a e) (last_or (undoes slot) b (moved ks (k, e)))
    in_place ks stays (Some x) (Some y) s rest = rest
    in_place ks stays None (Some y) s rest = absurd rest
    in_place ks stays (Some x) None s rest = of (undoes slot e) refl
      where
        of : (b : Bool) → undoes slot e ≡ b → Agree (Some x) (cond (undoes slot (moved ks (k, e))) (Some (moved ks (k, e))) None)
        of true p = absurd (cc (sym s ∙ matters_last p stays))
        of false p = rw (undoes_moved slot ks (k, e), p) rest
    in_place ks stays None None s rest = of (undoes slot e) refl
      where
        of : (b : Bool) → undoes slot e ≡ b → Agree (cond (undoes slot e) (Some e) None) (cond (undoes slot (moved ks (k, e))) (Some (moved ks (k, e))) None)
        of true p = rw (undoes_moved slot ks (k, e), p) (sym (by_event value ks gives e.event))
        of false p = rw (undoes_moved slot ks (k, e), p) tt

  -- so the two agree
  agree : (ks : List Numbered) (n : ℕ) (es : List EntryTree) → Agree (last es) (last (map (moved ks) (kept_from n es)))
  agree ks n [] = tt
  agree ks n (e ∷ es) = of (matters (n + 1) e es) refl (agree ks (n + 1) es)
    where
      of : (b : Bool) → matters (n + 1) e es ≡ b → Agree (last es) (last (map (moved ks) (kept_from (n + 1) es)))
          → Agree (last (e ∷ es)) (last (map (moved ks) (kept_from n (e ∷ es))))
      of true m rest = rw m (in_place (n + 1) e es ks m (last es) (last (map (moved ks) (kept_from (n + 1) es))) refl rest)
      of false m rest = rw m (out (n + 1) e es m (last es) (last (map (moved ks) (kept_from (n + 1) es))) refl rest)

  -- the value in the slot is the same in the compacted history
  pub told_same : (es : List EntryTree) → told es ≡ told (compacted es)
  told_same es = of (last es) (last (compacted es)) (agree (kept es) 0 es)
    where
      of : (a b : Option EntryTree) → Agree a b → option_and_then (λ (e : EntryTree). value e.event) a ≡ option_and_then (λ (e : EntryTree). value e.event) b
      of None None same = refl
      of None (Some y) same = absurd same
      of (Some x) None same = same
      of (Some x) (Some y) same = same
