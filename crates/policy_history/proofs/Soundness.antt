-- Each list of entries leads to a sound state.
use Rattle.std.proofs.Common.{◌≡◌, ◌<◌, ◌≤◌, ◌+◌, ◌⊎◌, inl, inr, ℕ, zero, suc, Bool, true, false, List, [], ◌∷◌, ◌++◌, length, map, nat_lt, lt-ltb, max, Option, Some, None, Result, Ok, Err, unwrap_or, refl, sym, ap, ◌∙◌, subst, arith}
use Rattle.std.specs.List.{All}
use Rattle.std.proofs.lemmas.Bool.{ltb-true}
use Rattle.std.proofs.lemmas.List.{length-map, length-set}
use Rattle.std.proofs.lemmas.List.Elements.{All-nil, All-cons, All-head, All-tail, All-set, All-push}
use Rattle.nal_term.specs.Trees.{says}
use Rattle.label_store.specs.LabelRows.{LabelRow, has_number}
use Rattle.policy_history.specs.declared.heads.Head.{Head}
use Rattle.policy_history.specs.declared.heads.Principal.{Principal}
use Rattle.policy_history.specs.declared.events.Refusal.{Refusal}
use Rattle.policy_history.specs.declared.events.Refusal.TheVariants.{Quota, JournalFull}
use Rattle.policy_history.specs.declared.tallies.Tally.{Tally}
use Rattle.policy_history.specs.Events.{EventTree, EntryTree, say, transfer, delete, new_object, set_goal, clear_goal, set_proof, clear_proof, bind, unbind, name_of, numbered}
use Rattle.policy_history.specs.PolicyLines.{entry_line}
use Rattle.policy_history.specs.Machine.{IsAccepted, IsLegalFrom, accepted, after, applies, changed, counted, refusal_of, replay, replay_from, reply_number}
use Rattle.policy_history.specs.Laws.{LabelNumbers, ReplayIsByStep}
use Rattle.policy_history.specs.Values.{greatest_from}
use Rattle.policy_history.specs.Rows.{alter, take_out}
use Rattle.policy_history.specs.Inner.Sound.{IsSound, IsWithin}
use Rattle.policy_history.specs.States.{State, empty_state, tally_of}
use Rattle.policy_history.proofs.Acceptance.{changed_bytes, changed_entries, changed_tallies, line_fits, line_unspent, none_applies}

module _ {R : Type 0} (P : R → Type 0) (p : R → Bool) where
  -- what holds of each row holds after one is changed, or goes
  pub all_alter : (f : R → R) → ((x : R) → P x → P (f x)) → (xs : List R) → All P xs → All P (alter p f xs)
  all_alter f keeps [] all = all
  all_alter f keeps (x ∷ xs) all = of (p x) refl (all_alter f keeps xs (All-tail P x xs all))
    where
      of : (b : Bool) → p x ≡ b → All P (alter p f xs) → All P (alter p f (x ∷ xs))
      of true e later = rw e (All-cons P (f x) xs (keeps x (All-head P x xs all)) (All-tail P x xs all))
      of false e later = rw e (All-cons P x (alter p f xs) (All-head P x xs all) later)

  pub all_take_out : (xs : List R) → All P xs → All P (take_out p xs)
  all_take_out [] all = all
  all_take_out (x ∷ xs) all = of (p x) refl (all_take_out xs (All-tail P x xs all))
    where
      of : (b : Bool) → p x ≡ b → All P (take_out p xs) → All P (take_out p (x ∷ xs))
      of true e later = rw e (All-tail P x xs all)
      of false e later = rw e (All-cons P x (take_out p xs) (All-head P x xs all) later)

-- ---- The numbers of labels

abbrev IsBelow : ℕ → LabelRow → Type 0
IsBelow n row = row.0 ≤ n

more : (n : ℕ) (rows : List LabelRow) → All (IsBelow n) rows → All (IsBelow (n + 1)) rows
more n rows all = λ k d within. let h = all k d within in omega (arith, h)

labels_changed : (h : Head) (s : State) (p : ℕ) (e : EventTree) → All (IsBelow s.entries) s.labels → All (IsBelow (s.entries + 1)) (changed h s p e).labels
labels_changed h s p (say (Some t) (Some f)) all = All-push (IsBelow (s.entries + 1)) s.labels (s.entries + 1, p, says t f) (more s.entries s.labels all) (omega arith)
labels_changed h s p (say None f) all = more s.entries s.labels all
labels_changed h s p (say (Some t) None) all = more s.entries s.labels all
labels_changed h s p (transfer k to) all =
    all_alter (IsBelow (s.entries + 1)) (has_number k) (λ (row : LabelRow). (row.0, unwrap_or (numbered h.principals to) p, row.2)) (λ row below. below) s.labels (more s.entries s.labels all)
labels_changed h s p (delete k) all = all_take_out (IsBelow (s.entries + 1)) (has_number k) s.labels (more s.entries s.labels all)
labels_changed h s p (new_object x) all = more s.entries s.labels all
labels_changed h s p (set_goal op object (Some g)) all = more s.entries s.labels all
labels_changed h s p (set_goal op object None) all = more s.entries s.labels all
labels_changed h s p (clear_goal op object) all = more s.entries s.labels all
labels_changed h s p (set_proof op object (Some ls)) all = more s.entries s.labels all
labels_changed h s p (set_proof op object None) all = more s.entries s.labels all
labels_changed h s p (clear_proof op object) all = more s.entries s.labels all
labels_changed h s p (bind (Some t) port) all = more s.entries s.labels all
labels_changed h s p (bind None port) all = more s.entries s.labels all
labels_changed h s p (unbind (Some t)) all = more s.entries s.labels all
labels_changed h s p (unbind None) all = more s.entries s.labels all

-- ---- What principals have added

abbrev nothing : Tally
nothing = record { entries = 0; bytes = 0 }

-- one more entry of a principal
counted_sound : (h : Head) (s : State) (p b : ℕ) → length s.tallies ≡ length h.principals → All IsWithin s.tallies
    → All (IsBelow (s.entries + 1)) s.labels → (tally_of s p).entries < 4096 → (tally_of s p).bytes + b ≤ 524288
    → s.entries < 262144 → s.bytes + b ≤ 33554432 → IsSound h (counted s p b)
counted_sound h s p b long each numbers some few fewer short =
    let grown : Tally = record { entries = (tally_of s p).entries + 1; bytes = (tally_of s p).bytes + b } in
    record {
      numbers = numbers;
      tallies = length-set s.tallies p grown ∙ long;
      each = All-set IsWithin s.tallies p grown (omega (arith, some), few) each;
      entries_bound = omega (arith, fewer);
      bytes_bound = short;
    }

pub sound_accepted : (h : Head) (s : State) (session p : ℕ) (e : EventTree) → applies h s session p e Quota ≡ false → applies h s session p e JournalFull ≡ false
    → IsSound h s → IsSound h (accepted h s session p e)
sound_accepted h s session p e unspent fits sound =
    let c = changed h s p e in
    let ts : c.tallies ≡ s.tallies = changed_tallies h s p e in
    let es : c.entries ≡ s.entries = changed_entries h s p e in
    let bs : c.bytes ≡ s.bytes = changed_bytes h s p e in
    let room = line_unspent h s session p e unspent in
    let space = line_fits h s session p e fits in
    counted_sound h c p (length (entry_line session (name_of h.principals p) e)) (ap length ts ∙ sound.tallies) (rw ts sound.each)
    (rw es (labels_changed h s p e sound.numbers)) (rw ts room.0) (rw ts room.1) (rw es space.0) (rw bs space.1)

-- ---- Lists of entries

pub after_out : (h : Head) (s : State) (e : EntryTree) → nat_lt e.principal (length h.principals) ≡ false → after h s e ≡ s
after_out h s e out = rw out refl

pub after_refused : (h : Head) (s : State) (e : EntryTree) (refusal : Refusal) → nat_lt e.principal (length h.principals) ≡ true → refusal_of h s e.session e.principal e.event ≡ Some refusal → after h s e ≡ s
after_refused h s e refusal known refused = rw (known, refused) refl

pub after_accepted : (h : Head) (s : State) (e : EntryTree) → nat_lt e.principal (length h.principals) ≡ true → refusal_of h s e.session e.principal e.event ≡ None → after h s e ≡ accepted h s e.session e.principal e.event
after_accepted h s e known free = rw (known, free) refl

-- an entry leaves the state, or is accepted
pub after_cases : (h : Head) (s : State) (e : EntryTree)
    → (after h s e ≡ s) ⊎ ((e.principal < length h.principals) × (refusal_of h s e.session e.principal e.event ≡ None) × (after h s e ≡ accepted h s e.session e.principal e.event))
after_cases h s e = of (nat_lt e.principal (length h.principals)) refl (refusal_of h s e.session e.principal e.event) refl
  where
    of : (b : Bool) → nat_lt e.principal (length h.principals) ≡ b → (o : Option Refusal) → refusal_of h s e.session e.principal e.event ≡ o
        → (after h s e ≡ s) ⊎ ((e.principal < length h.principals) × (refusal_of h s e.session e.principal e.event ≡ None) × (after h s e ≡ accepted h s e.session e.principal e.event))
    of false out o r = inl (after_out h s e out)
    of true known (Some refusal) r = inl (after_refused h s e refusal known r)
    of true known None r = inr (ltb-true e.principal (length h.principals) known, r, after_accepted h s e known r)

pub sound_after : (h : Head) (s : State) (e : EntryTree) → IsSound h s → IsSound h (after h s e)
sound_after h s e sound = of (after_cases h s e)
  where
    of : (after h s e ≡ s) ⊎ ((e.principal < length h.principals) × (refusal_of h s e.session e.principal e.event ≡ None) × (after h s e ≡ accepted h s e.session e.principal e.event)) → IsSound h (after h s e)
    of (inl same) = subst (IsSound h) (sym same) sound
    of (inr (below, free, same)) = subst (IsSound h) (sym same) (sound_accepted h s e.session e.principal e.event (none_applies h s e.session e.principal e.event free Quota) (none_applies h s e.session e.principal e.event free JournalFull) sound)

sound_from : (h : Head) (s : State) (es : List EntryTree) → IsSound h s → IsSound h (replay_from h s es)
sound_from h s [] sound = sound
sound_from h s (e ∷ es) sound = sound_from h (after h s e) es (sound_after h s e sound)

within_none : (xs : List Principal) → All IsWithin (map (λ (x : Principal). nothing) xs)
within_none [] = All-nil IsWithin
within_none (x ∷ xs) = All-cons IsWithin nothing (map (λ (x : Principal). nothing) xs) (omega arith, omega arith) (within_none xs)

pub sound_replay : (h : Head) (es : List EntryTree) → IsSound h (replay h es)
sound_replay h es = sound_from h (empty_state h) es record {
  numbers = All-nil (IsBelow 0);
  tallies = length-map h.principals (λ (x : Principal). nothing);
  each = within_none h.principals;
  entries_bound = omega arith;
  bytes_bound = omega arith;
}

-- ---- One more entry

pub accepted_after : (h : Head) (s : State) (e : EntryTree) → IsAccepted h s e → after h s e ≡ accepted h s e.session e.principal e.event
accepted_after h s e (below, free) = after_accepted h s e (lt-ltb e.principal (length h.principals) below) free

pub replay_more : (h : Head) (s : State) (es : List EntryTree) (e : EntryTree) → replay_from h s (es ++ e ∷ []) ≡ after h (replay_from h s es) e
replay_more h s [] e = refl
replay_more h s (x ∷ es) e = replay_more h (after h s x) es e

pub legal_more : (h : Head) (s : State) (es : List EntryTree) (e : EntryTree) → IsLegalFrom h s es → IsAccepted h (replay_from h s es) e → IsLegalFrom h s (es ++ e ∷ [])
legal_more h s [] e legal last = (last, tt)
legal_more h s (x ∷ es) e (first, legal) last = (first, legal_more h (after h s x) es e legal last)

-- as many entries were accepted as a legal list has
pub legal_length : (h : Head) (s : State) (es : List EntryTree) → IsLegalFrom h s es → (replay_from h s es).entries ≡ s.entries + length es
legal_length h s [] legal = omega arith
legal_length h s (e ∷ es) (first, legal) =
    let rest = legal_length h (after h s e) es legal in
    let here : (after h s e).entries ≡ s.entries + 1 = ap (λ (t : State). t.entries) (accepted_after h s e first) ∙ ap (λ n. n + 1) (changed_entries h s e.principal e.event) in
    omega (arith, rest, here)

pub replay_accepted : (h : Head) (es : List EntryTree) (e : EntryTree) → IsAccepted h (replay h es) e → replay h (es ++ e ∷ []) ≡ accepted h (replay h es) e.session e.principal e.event
replay_accepted h es e first = replay_more h (empty_state h) es e ∙ accepted_after h (replay h es) e first

pub greatest_more : (n : ℕ) (es : List EntryTree) (e : EntryTree) → greatest_from n (es ++ e ∷ []) ≡ max (greatest_from n es) e.session
greatest_more n [] e = refl
greatest_more n (x ∷ es) e = greatest_more (max n x.session) es e

-- no more entries were accepted than there are
entries_upper : (h : Head) (s : State) (es : List EntryTree) → (replay_from h s es).entries ≤ s.entries + length es
entries_upper h s [] = omega arith
entries_upper h s (e ∷ es) = let rest = entries_upper h (after h s e) es in let here = once (after_cases h s e) in omega (arith, rest, here)
  where
    once : (after h s e ≡ s) ⊎ ((e.principal < length h.principals) × (refusal_of h s e.session e.principal e.event ≡ None) × (after h s e ≡ accepted h s e.session e.principal e.event)) → (after h s e).entries ≤ s.entries + 1
    once (inl same) = let m = ap (λ (t : State). t.entries) same in omega (arith, m)
    once (inr (below, free, same)) = let m = ap (λ (t : State). t.entries) same in let c = changed_entries h s e.principal e.event in omega (arith, m, c)

pub label_numbers : LabelNumbers
label_numbers h es = λ k d within.
    let low = (sound_replay h es).numbers k d within in
    let most = entries_upper h (empty_state h) es in
    omega (arith, low, most)

-- the state that a step gives, if it gives one
abbrev given : Result (ℕ × State) Refusal → State → State
given (Ok r) s = r.1
given (Err refusal) s = s

pub replay_is_by_step : ReplayIsByStep
replay_is_by_step h es e n s below is = of (refusal_of h (replay h es) e.session e.principal e.event) refl
  where
    of : (o : Option Refusal) → refusal_of h (replay h es) e.session e.principal e.event ≡ o → replay h (es ++ e ∷ []) ≡ s
    of (Some refusal) r = absurd (cc (rw r at is))
    of None r =
        let same : Ok (reply_number (replay h es) e.principal e.event, accepted h (replay h es) e.session e.principal e.event) ≡ Ok (n, s) = rw r at is in
        replay_accepted h es e (below, r) ∙ ap (λ x. given x s) same
