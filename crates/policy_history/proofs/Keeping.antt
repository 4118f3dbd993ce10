-- What is known of a journal's parts.
use Rattle.std.proofs.Common.{◌≡◌, ◌<◌, ℕ, List, ◌∷◌, ◌++◌, [], length, max, Option, Some, None, Ok, IsOk, refl, sym, ap, ◌∙◌, subst, arith}
use Rattle.std.proofs.lemmas.List.{length-map, map-append}
use Rattle.policy_history.specs.declared.heads.Head.{Head}
use Rattle.policy_history.specs.declared.events.Entry.{Entry}
use Rattle.policy_history.specs.declared.events.Refusal.{Refusal}
use Rattle.policy_history.specs.declared.tables.Policy.{Policy}
use Rattle.policy_history.specs.Events.{EventTree, entry_tree, event_tree, name_of}
use Rattle.policy_history.specs.Inner.Kept.{IsKept}
use Rattle.policy_history.specs.Machine.{IsAccepted, IsLegal, accepted, refusal_of, replay, reply_number}
use Rattle.policy_history.specs.PolicyLines.{entry_line}
use Rattle.policy_history.specs.Inner.Sound.{IsSound}
use Rattle.policy_history.specs.States.{State, empty_state}
use Rattle.policy_history.specs.Tables.{state_of}
use Rattle.policy_history.specs.Values.{decision, entry_trees, greatest_of}
use Rattle.policy_history.proofs.Soundness.{greatest_more, legal_length, legal_more, replay_accepted, sound_replay}

module _ (h : Head) (es : List Entry) (policy : Policy) (greatest : ℕ) (kept : IsKept h es policy greatest) where
  pub kept_sound : IsSound h (state_of policy)
  kept_sound = subst (IsSound h) (sym kept.state) (sound_replay h (entry_trees es))

  pub kept_length : policy.entries ≡ length es
  kept_length =
      let e : policy.entries ≡ (replay h (entry_trees es)).entries = ap (λ (s : State). s.entries) kept.state in
      let l = legal_length h (empty_state h) (entry_trees es) kept.legal in
      let m = length-map es entry_tree in
      omega (arith, e, l, m)

  -- as many were accepted as there are
  pub kept_accepted : (replay h (entry_trees es)).entries ≡ length es
  kept_accepted = sym (ap (λ (s : State). s.entries) kept.state) ∙ kept_length

  -- one more entry that is accepted is kept
  pub kept_more : (x : Entry) (p : Policy) (g : ℕ) → x.principal < length h.principals → refusal_of h (state_of policy) x.session x.principal (event_tree x.event) ≡ None
      → state_of p ≡ accepted h (state_of policy) x.session x.principal (event_tree x.event) → g ≡ max greatest x.session → IsKept h (es ++ x ∷ []) p g
  kept_more x p g below free state_is g_is =
      let trees : entry_trees (es ++ x ∷ []) ≡ entry_trees es ++ entry_tree x ∷ [] = map-append entry_tree es (x ∷ []) in
      let first : IsAccepted h (replay h (entry_trees es)) (entry_tree x) = (below, rw (← kept.state) free) in
      let state_then : state_of p ≡ replay h (entry_trees es ++ entry_tree x ∷ []) = state_is ∙ ap (λ s. accepted h s x.session x.principal (event_tree x.event)) kept.state ∙ sym (replay_accepted h (entry_trees es) (entry_tree x) first) in
      let legal_then : IsLegal h (entry_trees es ++ entry_tree x ∷ []) = legal_more h (empty_state h) (entry_trees es) (entry_tree x) kept.legal first in
      let session_then : g ≡ greatest_of (entry_trees es ++ entry_tree x ∷ []) = g_is ∙ ap (λ n. max n x.session) kept.session ∙ sym (greatest_more 0 (entry_trees es) (entry_tree x)) in
      record {
        state = rw trees state_then;
        legal = rw trees legal_then;
        session = rw trees session_then;
      }

-- an event of which a number is told is accepted
pub accepted_where : (h : Head) (s : State) (session p : ℕ) (e : EventTree) → IsOk (decision h s session p e) → refusal_of h s session p e ≡ None
accepted_where h s session p e ok = of (refusal_of h s session p e) refl
  where
    of : (o : Option Refusal) → refusal_of h s session p e ≡ o → refusal_of h s session p e ≡ None
    of None r = r
    of (Some refusal) r = absurd (cc (rw r at ok))

-- where nothing refuses, the answer is the number and the length that are told
pub decided : (h : Head) (s : State) (session p : ℕ) (e : EventTree) (number bytes : ℕ) → refusal_of h s session p e ≡ None
    → number ≡ reply_number s p e → bytes ≡ length (entry_line session (name_of h.principals p) e) → Ok (record { number = number; bytes = bytes }) ≡ decision h s session p e
decided h s session p e number bytes free number_is bytes_is = rw (free, number_is, bytes_is) refl
