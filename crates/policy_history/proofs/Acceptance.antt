-- What is known of an event that is accepted.
use Rattle.std.proofs.Common.{◌≡◌, ◌<◌, ◌≤◌, ◌+◌, ◌||◌, ◌⊎◌, inl, inr, ℕ, zero, suc, Bool, true, false, List, [], ◌∷◌, length, get_or, nat_le, nat_lt, Some, None, refl, sym, ◌∙◌, arith}
use Rattle.std.specs.List.{find}
use Rattle.std.proofs.lemmas.Bool.{le-leb, cases_lt, ltb-false}
use Rattle.policy_history.specs.declared.heads.Head.{Head}
use Rattle.policy_history.specs.declared.tallies.Tally.{Tally}
use Rattle.policy_history.specs.Events.{EventTree, say, transfer, delete, new_object, set_goal, clear_goal, set_proof, clear_proof, bind, unbind, name_of}
use Rattle.policy_history.specs.PolicyLines.{entry_line}
use Rattle.policy_history.specs.declared.events.Refusal.{Refusal}
use Rattle.policy_history.specs.declared.events.Refusal.TheVariants.{NoSuchPrincipal, NotYourPrincipal, NoSuchLabel, NotHolder, NoSuchObject, NameTaken, NotOwner, NoGoal, NoSuchProof, NoBinding, BadPort, BadFormula, BadProof, Quota, JournalFull, ObjectsFull, CasesFull, NotRecorded}
use Rattle.policy_history.specs.Machine.{applies, changed, is_full, is_spent, refusal_of, refusals}
use Rattle.policy_history.specs.States.{State, tally_of}

or_left : (a b : Bool) → (a || b) ≡ false → a ≡ false
or_left true b e = e
or_left false b e = refl

or_right : (a b : Bool) → (a || b) ≡ false → b ≡ false
or_right true b e = absurd (cc e)
or_right false b e = e

below : (most n : ℕ) → nat_le most n ≡ false → n < most
below most n e = of (cases_lt n most)
  where
    of : (n < most) ⊎ (most ≤ n) → n < most
    of (inl h) = h
    of (inr h) = absurd (cc (le-leb most n h, e))

-- the principal may add one more line of this length
pub unspent : (t : Tally) (n : ℕ) → is_spent t n ≡ false → (t.entries < 4096) × (t.bytes + n ≤ 524288)
unspent t n e = (
  below 4096 t.entries (or_left (nat_le 4096 t.entries) (nat_lt 524288 (t.bytes + n)) e),
  ltb-false 524288 (t.bytes + n) (or_right (nat_le 4096 t.entries) (nat_lt 524288 (t.bytes + n)) e),
)

-- the journal may have one more line of this length
pub fitting : (s : State) (n : ℕ) → is_full s n ≡ false → (s.entries < 262144) × (s.bytes + n ≤ 33554432)
fitting s n e = (
  below 262144 s.entries (or_left (nat_le 262144 s.entries) (nat_lt 33554432 (s.bytes + n)) e),
  ltb-false 33554432 (s.bytes + n) (or_right (nat_le 262144 s.entries) (nat_lt 33554432 (s.bytes + n)) e),
)

-- an event changes no tally, and counts no entry
pub changed_tallies : (h : Head) (s : State) (p : ℕ) (e : EventTree) → (changed h s p e).tallies ≡ s.tallies
changed_tallies h s p (say (Some t) (Some f)) = refl
changed_tallies h s p (say None f) = refl
changed_tallies h s p (say (Some t) None) = refl
changed_tallies h s p (transfer k to) = refl
changed_tallies h s p (delete k) = refl
changed_tallies h s p (new_object x) = refl
changed_tallies h s p (set_goal op object (Some g)) = refl
changed_tallies h s p (set_goal op object None) = refl
changed_tallies h s p (clear_goal op object) = refl
changed_tallies h s p (set_proof op object (Some ls)) = refl
changed_tallies h s p (set_proof op object None) = refl
changed_tallies h s p (clear_proof op object) = refl
changed_tallies h s p (bind (Some t) port) = refl
changed_tallies h s p (bind None port) = refl
changed_tallies h s p (unbind (Some t)) = refl
changed_tallies h s p (unbind None) = refl

pub changed_entries : (h : Head) (s : State) (p : ℕ) (e : EventTree) → (changed h s p e).entries ≡ s.entries
changed_entries h s p (say (Some t) (Some f)) = refl
changed_entries h s p (say None f) = refl
changed_entries h s p (say (Some t) None) = refl
changed_entries h s p (transfer k to) = refl
changed_entries h s p (delete k) = refl
changed_entries h s p (new_object x) = refl
changed_entries h s p (set_goal op object (Some g)) = refl
changed_entries h s p (set_goal op object None) = refl
changed_entries h s p (clear_goal op object) = refl
changed_entries h s p (set_proof op object (Some ls)) = refl
changed_entries h s p (set_proof op object None) = refl
changed_entries h s p (clear_proof op object) = refl
changed_entries h s p (bind (Some t) port) = refl
changed_entries h s p (bind None port) = refl
changed_entries h s p (unbind (Some t)) = refl
changed_entries h s p (unbind None) = refl

pub changed_bytes : (h : Head) (s : State) (p : ℕ) (e : EventTree) → (changed h s p e).bytes ≡ s.bytes
changed_bytes h s p (say (Some t) (Some f)) = refl
changed_bytes h s p (say None f) = refl
changed_bytes h s p (say (Some t) None) = refl
changed_bytes h s p (transfer k to) = refl
changed_bytes h s p (delete k) = refl
changed_bytes h s p (new_object x) = refl
changed_bytes h s p (set_goal op object (Some g)) = refl
changed_bytes h s p (set_goal op object None) = refl
changed_bytes h s p (clear_goal op object) = refl
changed_bytes h s p (set_proof op object (Some ls)) = refl
changed_bytes h s p (set_proof op object None) = refl
changed_bytes h s p (clear_proof op object) = refl
changed_bytes h s p (bind (Some t) port) = refl
changed_bytes h s p (bind None port) = refl
changed_bytes h s p (unbind (Some t)) = refl
changed_bytes h s p (unbind None) = refl

-- what each event that is accepted has in common
pub quota_of : (h : Head) (s : State) (session p : ℕ) (e : EventTree) → applies h s session p e Quota ≡ is_spent (tally_of s p) (length (entry_line session (name_of h.principals p) e))
quota_of h s session p (say t f) = refl
quota_of h s session p (transfer k to) = refl
quota_of h s session p (delete k) = refl
quota_of h s session p (new_object x) = refl
quota_of h s session p (set_goal op object g) = refl
quota_of h s session p (clear_goal op object) = refl
quota_of h s session p (set_proof op object ls) = refl
quota_of h s session p (clear_proof op object) = refl
quota_of h s session p (bind t port) = refl
quota_of h s session p (unbind t) = refl

pub full_of : (h : Head) (s : State) (session p : ℕ) (e : EventTree) → applies h s session p e JournalFull ≡ is_full s (length (entry_line session (name_of h.principals p) e))
full_of h s session p (say t f) = refl
full_of h s session p (transfer k to) = refl
full_of h s session p (delete k) = refl
full_of h s session p (new_object x) = refl
full_of h s session p (set_goal op object g) = refl
full_of h s session p (clear_goal op object) = refl
full_of h s session p (set_proof op object ls) = refl
full_of h s session p (clear_proof op object) = refl
full_of h s session p (bind t port) = refl
full_of h s session p (unbind t) = refl

pub line_unspent : (h : Head) (s : State) (session p : ℕ) (e : EventTree) → applies h s session p e Quota ≡ false
    → ((tally_of s p).entries < 4096) × ((tally_of s p).bytes + length (entry_line session (name_of h.principals p) e) ≤ 524288)
line_unspent h s session p e free = unspent (tally_of s p) (length (entry_line session (name_of h.principals p) e)) (sym (quota_of h s session p e) ∙ free)

-- there is room for the line in the journal
pub line_fits : (h : Head) (s : State) (session p : ℕ) (e : EventTree) → applies h s session p e JournalFull ≡ false
    → (s.entries < 262144) × (s.bytes + length (entry_line session (name_of h.principals p) e) ≤ 33554432)
line_fits h s session p e free = fitting s (length (entry_line session (name_of h.principals p) e)) (sym (full_of h s session p e) ∙ free)

-- no event is refused with `NotRecorded`
pub never_unrecorded : (h : Head) (s : State) (session p : ℕ) (e : EventTree) → applies h s session p e NotRecorded ≡ false
never_unrecorded h s session p (say t f) = refl
never_unrecorded h s session p (transfer k to) = refl
never_unrecorded h s session p (delete k) = refl
never_unrecorded h s session p (new_object x) = refl
never_unrecorded h s session p (set_goal op object g) = refl
never_unrecorded h s session p (clear_goal op object) = refl
never_unrecorded h s session p (set_proof op object ls) = refl
never_unrecorded h s session p (clear_proof op object) = refl
never_unrecorded h s session p (bind t port) = refl
never_unrecorded h s session p (unbind t) = refl

-- where nothing is found, the test fails at each place; and the other way round
find_none_at : {X : Type 0} (p : X → Bool) (xs : List X) (k : ℕ) (d : X) → find p xs ≡ None → k < length xs → p (get_or xs k d) ≡ false
find_none_at p [] k d none within = absurd (omega (arith, within))
find_none_at p (x ∷ xs) zero d none within = of (p x) refl
  where
    of : (b : Bool) → p x ≡ b → p x ≡ false
    of true e = absurd (cc (rw e at none))
    of false e = e
find_none_at p (x ∷ xs) (suc k) d none within = find_none_at p xs k d (of (p x) refl) (omega (arith, within))
  where
    of : (b : Bool) → p x ≡ b → find p xs ≡ None
    of true e = absurd (cc (rw e at none))
    of false e = rw e at none

find_no : {X : Type 0} (p : X → Bool) (xs : List X) → ((x : X) → p x ≡ false) → find p xs ≡ None
find_no p [] fails = refl
find_no p (x ∷ xs) fails = rw (fails x) (find_no p xs fails)

-- no refusal applies to an event that is accepted
pub none_applies : (h : Head) (s : State) (session p : ℕ) (e : EventTree) → refusal_of h s session p e ≡ None → (refusal : Refusal) → applies h s session p e refusal ≡ false
none_applies h s session p e free NoSuchPrincipal = find_none_at (applies h s session p e) refusals 0 NoSuchPrincipal free (omega arith)
none_applies h s session p e free NotYourPrincipal = find_none_at (applies h s session p e) refusals 1 NotYourPrincipal free (omega arith)
none_applies h s session p e free NoSuchLabel = find_none_at (applies h s session p e) refusals 2 NoSuchLabel free (omega arith)
none_applies h s session p e free NotHolder = find_none_at (applies h s session p e) refusals 3 NotHolder free (omega arith)
none_applies h s session p e free NoSuchObject = find_none_at (applies h s session p e) refusals 4 NoSuchObject free (omega arith)
none_applies h s session p e free NameTaken = find_none_at (applies h s session p e) refusals 5 NameTaken free (omega arith)
none_applies h s session p e free NotOwner = find_none_at (applies h s session p e) refusals 6 NotOwner free (omega arith)
none_applies h s session p e free NoGoal = find_none_at (applies h s session p e) refusals 7 NoGoal free (omega arith)
none_applies h s session p e free NoSuchProof = find_none_at (applies h s session p e) refusals 8 NoSuchProof free (omega arith)
none_applies h s session p e free NoBinding = find_none_at (applies h s session p e) refusals 9 NoBinding free (omega arith)
none_applies h s session p e free BadPort = find_none_at (applies h s session p e) refusals 10 BadPort free (omega arith)
none_applies h s session p e free BadFormula = find_none_at (applies h s session p e) refusals 11 BadFormula free (omega arith)
none_applies h s session p e free BadProof = find_none_at (applies h s session p e) refusals 12 BadProof free (omega arith)
none_applies h s session p e free Quota = find_none_at (applies h s session p e) refusals 13 Quota free (omega arith)
none_applies h s session p e free JournalFull = find_none_at (applies h s session p e) refusals 14 JournalFull free (omega arith)
none_applies h s session p e free ObjectsFull = find_none_at (applies h s session p e) refusals 15 ObjectsFull free (omega arith)
none_applies h s session p e free CasesFull = find_none_at (applies h s session p e) refusals 16 CasesFull free (omega arith)
none_applies h s session p e free NotRecorded = never_unrecorded h s session p e

pub free_where : (h : Head) (s : State) (session p : ℕ) (e : EventTree) → ((refusal : Refusal) → applies h s session p e refusal ≡ false) → refusal_of h s session p e ≡ None
free_where h s session p e fails = find_no (applies h s session p e) refusals fails
