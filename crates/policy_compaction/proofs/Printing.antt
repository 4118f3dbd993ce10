-- What is written of one entry.
use Rattle.std.proofs.Common.{◌≡◌, ◌<◌, ◌^◌, ℕ, List, [], ◌∷◌, ◌++◌, true, false, length, get_or, refl, sym, ap, ◌∙◌, subst, arith}
use Rattle.std.proofs.lemmas.List.{length-map}
use Rattle.std.specs.List.{flat_map}
use Rattle.journal_text.specs.PolicyLaws.{IsKeptEntry, IsKeptEvent}
use Rattle.policy_history.specs.declared.heads.Head.{Head}
use Rattle.policy_history.specs.declared.events.Entry.{Entry}
use Rattle.policy_history.specs.Events.{EventTree, EntryTree, entry_tree, say, transfer, delete, new_object, set_goal, clear_goal, set_proof, clear_proof, bind, unbind}
use Rattle.policy_history.specs.Machine.{IsLegal}
use Rattle.policy_history.specs.Values.{entry_trees}
use Rattle.policy_history.proofs.ForCallers.{accepted_at}
use Rattle.label_holdings.proofs.ForCallers.{entry_there, given_within}
use Rattle.policy_compaction.specs.Kept.{Numbered, new_number, number_line, numbers_of, renumbered}
use Rattle.policy_compaction.specs.Inner.Printing.{IsPrintable, is_say}

-- each entry of a legal history can be written
pub printable : (h : Head) (xs : List Entry) → IsLegal h (entry_trees xs) → (i : ℕ) (x : Entry) → i < length xs → x ≡ get_or xs i x → IsPrintable h (entry_trees xs) (entry_tree x)
printable h xs legal i x within read = record {
  principal = (accepted_at h (entry_trees xs) i (entry_tree x) legal (entry_there xs i x within read)).0;
  number = λ k to is.
      let low = given_within h xs legal i x within read k to is in
      let long = length-map xs entry_tree in
      (low.0, omega (arith, low.1, within, long));
}

-- a transfer with the new number of its label
pub transferred : (ks : List Numbered) (v : EventTree) (k n : ℕ) (to : List ℕ) → v ≡ transfer k to → n ≡ new_number ks k → transfer n to ≡ renumbered ks v
transferred ks v k n to is number = ap (λ m. transfer m to) number ∙ sym (ap (renumbered ks) is)

-- so it stands among the entries that are kept
pub kept_transfer : (ks : List Numbered) (e : EntryTree) (k n : ℕ) (to : List ℕ) → e.event ≡ transfer k to → n ≡ new_number ks k
    → (e.session < 2 ^ 64) × IsKeptEvent (transfer n to) → IsKeptEntry (record { session = e.session; principal = e.principal; event = renumbered ks e.event })
kept_transfer ks e k n to is number kept = record { session = kept.0; event = subst IsKeptEvent (transferred ks e.event k n to is number) kept.1 }

-- the numbers of a label, where the entry says one
module _ (ks : List Numbered) (n session principal : ℕ) where
  abbrev numbered : EventTree → Numbered
  numbered v = (n, record { session = session; principal = principal; event = v })

  says_numbers : (v : EventTree) → is_say v ≡ true → numbers_of ks (numbered v) ≡ (n, new_number ks n) ∷ []
  says_numbers (say t f) e = refl
  says_numbers (transfer k to) e = absurd (cc e)
  says_numbers (delete k) e = absurd (cc e)
  says_numbers (new_object x) e = absurd (cc e)
  says_numbers (set_goal o x g) e = absurd (cc e)
  says_numbers (clear_goal o x) e = absurd (cc e)
  says_numbers (set_proof o x ls) e = absurd (cc e)
  says_numbers (clear_proof o x) e = absurd (cc e)
  says_numbers (bind t port) e = absurd (cc e)
  says_numbers (unbind t) e = absurd (cc e)

  says_none : (v : EventTree) → is_say v ≡ false → numbers_of ks (numbered v) ≡ []
  says_none (say t f) e = absurd (cc e)
  says_none (transfer k to) e = refl
  says_none (delete k) e = refl
  says_none (new_object x) e = refl
  says_none (set_goal o x g) e = refl
  says_none (clear_goal o x) e = refl
  says_none (set_proof o x ls) e = refl
  says_none (clear_proof o x) e = refl
  says_none (bind t port) e = refl
  says_none (unbind t) e = refl

numbers_said : (ks : List Numbered) (n : ℕ) (e : EntryTree) → is_say e.event ≡ true → numbers_of ks (n, e) ≡ (n, new_number ks n) ∷ []
numbers_said ks n e is = says_numbers ks n e.session e.principal e.event is

numbers_unsaid : (ks : List Numbered) (n : ℕ) (e : EntryTree) → is_say e.event ≡ false → numbers_of ks (n, e) ≡ []
numbers_unsaid ks n e is = says_none ks n e.session e.principal e.event is

-- the line of a label's numbers, and those of the later ones
pub numbers_line : (ks : List Numbered) (n m : ℕ) (e : EntryTree) (rest : List Numbered) → is_say e.event ≡ true → m ≡ new_number ks n
    → flat_map number_line (flat_map (numbers_of ks) ((n, e) ∷ rest)) ≡ number_line (n, m) ++ flat_map number_line (flat_map (numbers_of ks) rest)
numbers_line ks n m e rest is number =
    let later = flat_map (numbers_of ks) rest in
    ap (λ (ns : List (ℕ × ℕ)). flat_map number_line (ns ++ later)) (numbers_said ks n e is) ∙ ap (λ (k : ℕ). number_line (n, k) ++ flat_map number_line later) (sym number)

-- of an entry that says none, only those of the later ones
pub no_line : (ks : List Numbered) (n : ℕ) (e : EntryTree) (rest : List Numbered) → is_say e.event ≡ false
    → flat_map number_line (flat_map (numbers_of ks) ((n, e) ∷ rest)) ≡ flat_map number_line (flat_map (numbers_of ks) rest)
no_line ks n e rest is = ap (λ (ns : List (ℕ × ℕ)). flat_map number_line (ns ++ flat_map (numbers_of ks) rest)) (numbers_unsaid ks n e is)
