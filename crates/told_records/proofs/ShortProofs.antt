-- A proof that is registered in a policy as the program keeps one has at most 256 lines.
use Rattle.std.proofs.Common.{◌≡◌, ◌<◌, ◌≤◌, ◌⊎◌, inl, inr, ℕ, Bool, true, false, List, [], ◌∷◌, length, take, Option, Some, None, option_and_then, slice_get, unwrap_or, refl, sym, subst, arith}
use Rattle.std.specs.List.{All}
use Rattle.std.proofs.lemmas.List.Elements.{All-cons, All-head, All-nil, All-tail, All-take}
use Rattle.std.proofs.lemmas.Option.{get_or_from_slice_get, slice_get_within}
use Rattle.nal_rules.specs.Asking.{lines_of}
use Rattle.proof_store.specs.Cases.{CaseRow, is_case, number_of, proof_of}
use Rattle.policy_history.specs.declared.heads.Head.{Head}
use Rattle.policy_history.specs.Events.{EntryTree, EventTree, say, transfer, delete, new_object, set_goal, clear_goal, set_proof, clear_proof, bind, unbind}
use Rattle.policy_history.specs.Judged.{case_at}
use Rattle.policy_history.specs.Machine.{accepted, after, changed, refusal_of, replay, replay_from}
use Rattle.policy_history.specs.Rows.{put}
use Rattle.policy_history.specs.States.{State, empty_state, object_or_0}
use Rattle.policy_history.proofs.Soundness.{after_cases, all_alter}
use Rattle.journal_text.specs.PolicyLaws.{IsKeptEntry, IsKeptEvent}

abbrev IsShort : CaseRow → Type 0
IsShort row = length (unwrap_or row.3 []) ≤ 256

short_put : (test : CaseRow → Bool) (row : CaseRow) (rows : List CaseRow) → IsShort row → All IsShort rows → All IsShort (put test row rows)
short_put test row [] short all = All-cons IsShort row [] short all
short_put test row (x ∷ xs) short all = of (test x) refl (short_put test row xs short (All-tail IsShort x xs all))
  where
    of : (b : Bool) → test x ≡ b → All IsShort (put test row xs) → All IsShort (put test row (x ∷ xs))
    of true e later = rw e (All-cons IsShort row xs short (All-tail IsShort x xs all))
    of false e later = rw e (All-cons IsShort x (put test row xs) (All-head IsShort x xs all) later)

short_changed : (h : Head) (s : State) (p : ℕ) (e : EventTree) → IsKeptEvent e → All IsShort s.cases → All IsShort (changed h s p e).cases
short_changed h s p (set_proof op object (Some ls)) kept all =
    let n = object_or_0 s object in
    short_put (is_case p op n) (p, op, n, Some ls) s.cases kept.2.few all
short_changed h s p (clear_proof op object) kept all =
    all_alter IsShort (is_case p op (object_or_0 s object)) (λ (row : CaseRow). (row.0, row.1, row.2, None)) (λ row short. omega arith) s.cases all
short_changed h s p (set_proof op object None) kept all = all
short_changed h s p (say (Some t) (Some f)) kept all = all
short_changed h s p (say (Some t) None) kept all = all
short_changed h s p (say None f) kept all = all
short_changed h s p (transfer k to) kept all = all
short_changed h s p (delete k) kept all = all
short_changed h s p (new_object x) kept all = all
short_changed h s p (set_goal op object (Some g)) kept all = all
short_changed h s p (set_goal op object None) kept all = all
short_changed h s p (clear_goal op object) kept all = all
short_changed h s p (bind (Some t) port) kept all = all
short_changed h s p (bind None port) kept all = all
short_changed h s p (unbind (Some t)) kept all = all
short_changed h s p (unbind None) kept all = all

short_after : (h : Head) (s : State) (e : EntryTree) → IsKeptEntry e → All IsShort s.cases → All IsShort (after h s e).cases
short_after h s e kept all = of (after_cases h s e)
  where
    of : (after h s e ≡ s) ⊎ ((e.principal < length h.principals) × (refusal_of h s e.session e.principal e.event ≡ None) × (after h s e ≡ accepted h s e.session e.principal e.event)) → All IsShort (after h s e).cases
    of (inl same) = subst (λ (t : State). All IsShort t.cases) (sym same) all
    of (inr (below, free, same)) = subst (λ (t : State). All IsShort t.cases) (sym same) (short_changed h s e.principal e.event kept.event all)

short_from : (h : Head) (s : State) (es : List EntryTree) → All IsKeptEntry es → All IsShort s.cases → All IsShort (replay_from h s es).cases
short_from h s [] kept all = all
short_from h s (e ∷ es) kept all = short_from h (after h s e) es (All-tail IsKeptEntry e es kept) (short_after h s e (All-head IsKeptEntry e es kept) all)

short_at : (rows : List CaseRow) (o : Option ℕ) → All IsShort rows → length (unwrap_or (option_and_then (proof_of rows) o) []) ≤ 256
short_at rows None all = omega arith
short_at rows (Some k) all = of (slice_get rows k) refl
  where
    of : (o : Option CaseRow) → slice_get rows k ≡ o → length (unwrap_or (proof_of rows k) []) ≤ 256
    of None e = rw e (omega arith)
    of (Some row) e = rw e (subst IsShort (get_or_from_slice_get rows k row row e) (all k row (slice_get_within rows k row e)))

pub short_case : (h : Head) (es : List EntryTree) (n p : ℕ) (op : List ℕ) (object : ℕ) → All IsKeptEntry es → length (lines_of (case_at h (replay h (take n es)) p op object)) ≤ 256
short_case h es n p op object kept =
    let rows = (replay h (take n es)).cases in
    short_at rows (number_of rows p op object) (short_from h (empty_state h) (take n es) (All-take IsKeptEntry n es kept) (All-nil IsShort))
