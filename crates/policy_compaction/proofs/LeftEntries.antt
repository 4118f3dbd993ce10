-- An entry that does not matter changes nothing of what is kept.
use Rattle.std.proofs.Common.{◌≡◌, ◌+◌, ◌||◌, ℕ, Bool, true, false, not, List, [], ◌∷◌, map, Option, Some, None, is_none, unwrap_or, refl, sym, ap, ◌∙◌, subst, arith}
use Rattle.std.specs.List.{All, list_any}
use Rattle.nal_term.specs.Trees.{says}
use Rattle.object_table.specs.Objects.{ObjectRow, number_of}
use Rattle.proof_store.specs.Cases.{CaseRow, is_case}
use Rattle.label_store.specs.LabelRows.{LabelRow}
use Rattle.policy_history.specs.declared.heads.Head.{Head}
use Rattle.policy_history.specs.declared.events.Refusal.TheVariants.{NoSuchObject}
use Rattle.policy_history.specs.Events.{EntryTree, EventTree, say, transfer, delete, new_object, set_goal, clear_goal, set_proof, clear_proof, bind, unbind, numbered}
use Rattle.policy_history.specs.Machine.{changed, refusal_of}
use Rattle.policy_history.specs.States.{State, object_or_0}
use Rattle.policy_history.proofs.ForCallers.{none_applies, some_where}
use Rattle.label_holdings.proofs.ForCallers.{AreFrom}
use Rattle.policy_compaction.specs.Kept.{Numbered, matters}
use Rattle.policy_compaction.specs.Slots.{object_slot, undoes}
use Rattle.policy_compaction.proofs.CaseCounts.{changes_row, is_left}
use Rattle.policy_compaction.proofs.Led.{IsAlike, stays}
use Rattle.policy_compaction.proofs.MovedEntries.{entry_of}
use Rattle.policy_compaction.proofs.RenumberedRows.{IsPlacedRow, renumbered_row}
use Rattle.policy_compaction.proofs.RowFilters.{wider, wider_alter, wider_put}
use Rattle.policy_compaction.proofs.StayingRows.{deleted_left, given_left, said_left}

-- nothing undoes the making of an object
pub never_undone : (x : List ℕ) (later : List EntryTree) → list_any (undoes (object_slot x)) later ≡ false
never_undone x [] = refl
never_undone x (e ∷ later) = never_undone x later

module _ (objects : List ObjectRow) (e : EntryTree) (later : List EntryTree) where
  -- a row that is left is left by the later ones
  pub left_later : (row : CaseRow) → is_left objects (e ∷ later) row ≡ true → is_left objects later row ≡ true
  left_later row left = of (changes_row objects row e) (list_any (changes_row objects row) later) left
    where
      of : (a b : Bool) → not (a || b) ≡ true → not b ≡ true
      of true b left = absurd (cc left)
      of false b left = left

  -- the row that an entry changes is not left
  pub changed_out : (row : CaseRow) → changes_row objects row e ≡ true → is_left objects (e ∷ later) row ≡ false
  changed_out row changes = ap (λ (b : Bool). not (b || list_any (changes_row objects row) later)) changes

module _ (h : Head) (ks : List Numbered) (objects : List ObjectRow) (s t : State) (session p : ℕ) (later : List EntryTree)
    (there : (x : List ℕ) (k : ℕ) → number_of s.objects x ≡ Some k → number_of objects x ≡ Some k) where
  -- the object that is named has its number at the end too
  pub named : (x : List ℕ) → is_none (number_of s.objects x) ≡ false → number_of objects x ≡ Some (object_or_0 s x)
  named x some =
      let n = some_where (number_of s.objects x) some in
      there x n.0 n.1 ∙ ap Some (sym (ap (λ (o : Option ℕ). unwrap_or o 0) n.1))

  module _ (n : ℕ) (es : List EntryTree) (counted : s.entries ≡ n) (from : AreFrom es 0 s.labels) where
    pub alike_left : (v : EventTree) → refusal_of h s session p v ≡ None → matters (n + 1) (entry_of session p v) later ≡ false → IsAlike ks objects (entry_of session p v ∷ later) s t
        → IsAlike ks objects later (changed h s p v) t
    alike_left (say (Some a) (Some f)) free left alike =
        let row : LabelRow = (s.entries + 1, p, says a f) in
        let out : stays later row ≡ false = rw counted left in
        let same = said_left later row s.labels out in
        record {
          objects = alike.objects;
          labels = alike.labels ∙ ap (map (renumbered_row ks)) (sym same);
          placed = subst (All (IsPlacedRow ks)) (sym same) alike.placed;
          tallies = alike.tallies;
          bytes = alike.bytes;
          cases = alike.cases;
        }
    alike_left (transfer k to) free left alike =
        let q = unwrap_or (numbered h.principals to) p in
        let same = given_left later k q s.labels left in
        record {
          objects = alike.objects;
          labels = alike.labels ∙ ap (map (renumbered_row ks)) (sym same);
          placed = subst (All (IsPlacedRow ks)) (sym same) alike.placed;
          tallies = alike.tallies;
          bytes = alike.bytes;
          cases = alike.cases;
        }
    alike_left (delete k) free left alike =
        let same = deleted_left later session p k es 0 s.labels from in
        record {
          objects = alike.objects;
          labels = alike.labels ∙ ap (map (renumbered_row ks)) same;
          placed = subst (All (IsPlacedRow ks)) same alike.placed;
          tallies = alike.tallies;
          bytes = alike.bytes;
          cases = alike.cases;
        }
    alike_left (set_proof op x (Some ls)) free left alike =
        let e = entry_of session p (set_proof op x (Some ls)) in
        let k = object_or_0 s x in
        let at = named x (none_applies h s session p (set_proof op x (Some ls)) free NoSuchObject) in
        let few = wider_put (is_left objects (e ∷ later)) (is_left objects later) (left_later objects e later) (is_case p op k)
        (λ row is. changed_out objects e later row (rw at is)) (p, op, k, Some ls) s.cases in
        let had = alike.cases in
        record { objects = alike.objects; labels = alike.labels; placed = alike.placed; tallies = alike.tallies; bytes = alike.bytes; cases = omega (arith, had, few) }
    alike_left (clear_proof op x) free left alike =
        let e = entry_of session p (clear_proof op x) in
        let k = object_or_0 s x in
        let at = named x (none_applies h s session p (clear_proof op x) free NoSuchObject) in
        let few = wider_alter (is_left objects (e ∷ later)) (is_left objects later) (left_later objects e later) (is_case p op k)
        (λ row is. changed_out objects e later row (rw at is)) (λ (row : CaseRow). (row.0, row.1, row.2, None)) s.cases in
        let had = alike.cases in
        record { objects = alike.objects; labels = alike.labels; placed = alike.placed; tallies = alike.tallies; bytes = alike.bytes; cases = omega (arith, had, few) }
    alike_left (set_proof op x None) free left alike =
        let e = entry_of session p (set_proof op x None) in
        let few = wider (is_left objects (e ∷ later)) (is_left objects later) (left_later objects e later) s.cases in
        let had = alike.cases in
        record { objects = alike.objects; labels = alike.labels; placed = alike.placed; tallies = alike.tallies; bytes = alike.bytes; cases = omega (arith, had, few) }
    alike_left (new_object x) free left alike = absurd (cc (sym left ∙ ap not (never_undone x later)))
    alike_left (say None f) free left alike = record { objects = alike.objects; labels = alike.labels; placed = alike.placed; tallies = alike.tallies; bytes = alike.bytes; cases = alike.cases }
    alike_left (say (Some a) None) free left alike = record { objects = alike.objects; labels = alike.labels; placed = alike.placed; tallies = alike.tallies; bytes = alike.bytes; cases = alike.cases }
    alike_left (set_goal op x (Some g)) free left alike = record { objects = alike.objects; labels = alike.labels; placed = alike.placed; tallies = alike.tallies; bytes = alike.bytes; cases = alike.cases }
    alike_left (set_goal op x None) free left alike = record { objects = alike.objects; labels = alike.labels; placed = alike.placed; tallies = alike.tallies; bytes = alike.bytes; cases = alike.cases }
    alike_left (clear_goal op x) free left alike = record { objects = alike.objects; labels = alike.labels; placed = alike.placed; tallies = alike.tallies; bytes = alike.bytes; cases = alike.cases }
    alike_left (bind (Some a) port) free left alike = record { objects = alike.objects; labels = alike.labels; placed = alike.placed; tallies = alike.tallies; bytes = alike.bytes; cases = alike.cases }
    alike_left (bind None port) free left alike = record { objects = alike.objects; labels = alike.labels; placed = alike.placed; tallies = alike.tallies; bytes = alike.bytes; cases = alike.cases }
    alike_left (unbind (Some a)) free left alike = record { objects = alike.objects; labels = alike.labels; placed = alike.placed; tallies = alike.tallies; bytes = alike.bytes; cases = alike.cases }
    alike_left (unbind None) free left alike = record { objects = alike.objects; labels = alike.labels; placed = alike.placed; tallies = alike.tallies; bytes = alike.bytes; cases = alike.cases }
