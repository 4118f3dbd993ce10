-- How long the lines of a legal list of entries are together.
use Rattle.std.proofs.Common.{◌≡◌, ◌≤◌, ◌+◌, ℕ, List, [], ◌∷◌, ◌++◌, length, ap, ◌∙◌, arith, length-append}
use Rattle.std.specs.List.{flat_map}
use Rattle.policy_history.specs.declared.heads.Head.{Head}
use Rattle.policy_history.specs.Events.{EntryTree, name_of}
use Rattle.policy_history.specs.PolicyLines.{entry_line}
use Rattle.policy_history.specs.Machine.{IsLegal, IsLegalFrom, after, replay, replay_from}
use Rattle.policy_history.specs.States.{State, empty_state}
use Rattle.policy_history.proofs.Acceptance.{changed_bytes}
use Rattle.policy_history.proofs.Soundness.{accepted_after, sound_replay}

-- the line of an entry
abbrev pub line_at : Head → EntryTree → List ℕ
line_at h e = entry_line e.session (name_of h.principals e.principal) e.event

bytes_from : (h : Head) (s : State) (es : List EntryTree) → IsLegalFrom h s es → (replay_from h s es).bytes ≡ s.bytes + length (flat_map (line_at h) es)
bytes_from h s [] legal = omega arith
bytes_from h s (e ∷ es) (first, legal) =
    let rest = bytes_from h (after h s e) es legal in
    let here : (after h s e).bytes ≡ s.bytes + length (line_at h e) =
    ap (λ (t : State). t.bytes) (accepted_after h s e first) ∙ ap (λ n. n + length (line_at h e)) (changed_bytes h s e.principal e.event) in
    let split = length-append (line_at h e) (flat_map (line_at h) es) in
    omega (arith, rest, here, split)

-- the state counts the bytes of the lines
pub lines_counted : (h : Head) (es : List EntryTree) → IsLegal h es → (replay h es).bytes ≡ length (flat_map (line_at h) es)
lines_counted h es legal = let all = bytes_from h (empty_state h) es legal in omega (arith, all)

-- they are at most 33,554,432 bytes
pub lines_bounded : (h : Head) (es : List EntryTree) → IsLegal h es → length (flat_map (line_at h) es) ≤ 33554432
lines_bounded h es legal =
    let most = (sound_replay h es).bytes_bound in
    let all = lines_counted h es legal in
    omega (arith, most, all)
