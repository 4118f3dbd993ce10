-- The rows of cases that no later entry changes.
use Rattle.std.proofs.Common.{◌≡◌, ◌&&◌, ◌||◌, ℕ, Bool, true, false, not, nat_eq, List, [], ◌∷◌, Option, Some, None, refl, sym, subst}
use Rattle.std.specs.Cmp.{unsigned_Decides}
use Rattle.std.specs.List.{list_any}
use Rattle.nal_term.specs.TreeKeys.{same_bytes, same_bytes-Decides}
use Rattle.proof_lines.specs.Lines.{LineTree}
use Rattle.object_table.specs.Objects.{ObjectRow, number_of}
use Rattle.proof_store.specs.Cases.{CaseRow, is_case}
use Rattle.policy_history.specs.Events.{EntryTree, EventTree, set_proof, clear_proof}
use Rattle.policy_history.proofs.ForCallers.{same_triple}
use Rattle.case_reasons.specs.Origins.{changes_proof}
use Rattle.case_reasons.proofs.ForCallers.{and_true, one_name}

-- it is the row of this principal, this operation and the object with this number
abbrev is_row_of : Option ℕ → ℕ → List ℕ → CaseRow → Bool
is_row_of None p op row = false
is_row_of (Some k) p op row = is_case p op k row

-- the entry registers or removes the proof of this row, where these are the objects
abbrev pub changes_row : List ObjectRow → CaseRow → EntryTree → Bool
changes_row objects row e = of e.event
  where
    of : EventTree → Bool
    of (set_proof op x ls) = is_row_of (number_of objects x) e.principal op row
    of (clear_proof op x) = is_row_of (number_of objects x) e.principal op row
    of _ = false

-- none of these entries does
abbrev pub is_left : List ObjectRow → List EntryTree → CaseRow → Bool
is_left objects later row = not (list_any (changes_row objects row) later)

module _ (objects : List ObjectRow) (p : ℕ) (op x : List ℕ) (k : ℕ) (there : number_of objects x ≡ Some k) (ls : Option (List LineTree)) where
  -- what changes the row changes the proof of this principal, this operation and this object
  named_row : (q : ℕ) (o y : List ℕ) → is_row_of (number_of objects y) q o (p, op, k, ls) ≡ true → (nat_eq p q && (same_bytes op o && same_bytes x y)) ≡ true
  named_row q o y passes = of (number_of objects y) refl passes
    where
      of : (m : Option ℕ) → number_of objects y ≡ m → is_row_of m q o (p, op, k, ls) ≡ true → (nat_eq p q && (same_bytes op o && same_bytes x y)) ≡ true
      of None is passes = absurd (cc passes)
      of (Some j) is passes =
          let t = same_triple q o j (p, op, k, ls) passes in
          let name : x ≡ y = one_name objects x y k there (subst (λ (n : ℕ). number_of objects y ≡ Some n) t.2 is) in
          and_true (nat_eq p q) (same_bytes op o && same_bytes x y) ((unsigned_Decides p q).1 (sym t.0))
          (and_true (same_bytes op o) (same_bytes x y) ((same_bytes-Decides op o).1 (sym t.1)) ((same_bytes-Decides x y).1 name))

  changed_row : (e : EntryTree) → changes_row objects (p, op, k, ls) e ≡ true → changes_proof p op x e ≡ true
  changed_row e passes = of e.event refl
    where
      of : (v : EventTree) → e.event ≡ v → changes_proof p op x e ≡ true
      of (set_proof o y proof) is = rw is (named_row e.principal o y (rw is at passes))
      of (clear_proof o y) is = rw is (named_row e.principal o y (rw is at passes))
      of _ is = absurd (cc (rw is at passes))

  -- so the row is left where no later entry changes that proof
  pub left_row : (later : List EntryTree) → list_any (changes_proof p op x) later ≡ false → is_left objects later (p, op, k, ls) ≡ true
  left_row [] none = refl
  left_row (e ∷ later) none = of (changes_row objects (p, op, k, ls) e) refl (changes_proof p op x e) refl (left_row later)
    where
      of : (a : Bool) → changes_row objects (p, op, k, ls) e ≡ a → (b : Bool) → changes_proof p op x e ≡ b
          → (list_any (changes_proof p op x) later ≡ false → is_left objects later (p, op, k, ls) ≡ true) → is_left objects (e ∷ later) (p, op, k, ls) ≡ true
      of a is true changes rest = absurd (cc (any_true (changes_proof p op x e) (list_any (changes_proof p op x) later) changes, none))
        where
          any_true : (a b : Bool) → a ≡ true → (a || b) ≡ true
          any_true true b e = refl
          any_true false b e = absurd (cc e)
      of true is false changes rest = absurd (cc (changed_row e is, changes))
      of false is false changes rest = rw is (rest (rw changes at none))
