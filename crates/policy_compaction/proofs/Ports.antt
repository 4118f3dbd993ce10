-- Which entry bound a principal.
use Rattle.std.proofs.Common.{◌≡◌, ◌≤◌, ◌+◌, ℕ, zero, suc, Bool, true, false, List, length, Option, Some, None, refl, sym, ap, ◌∙◌, subst, arith}
use Rattle.std.specs.List.{slice_get}
use Rattle.std.specs.Option.{option_map}
use Rattle.std.proofs.lemmas.Option.{slice_get_within}
use Rattle.nal_term.specs.Trees.{TermTree}
use Rattle.nal_term.specs.TreeKeys.{same_terms, same_terms-Decides}
use Rattle.goal_store.specs.GoalRows.{PortRow, is_port, port_of}
use Rattle.policy_history.specs.declared.heads.Head.{Head}
use Rattle.policy_history.specs.Events.{EventTree, EntryTree, say, transfer, delete, new_object, set_goal, clear_goal, set_proof, clear_proof, bind, unbind}
use Rattle.policy_history.specs.Machine.{IsLegal, accepted, replay}
use Rattle.policy_history.specs.Rows.{put, take_out}
use Rattle.policy_history.specs.States.{State}
use Rattle.policy_history.proofs.ForCallers.{find_put, find_take_out}
use Rattle.label_holdings.specs.Entries.{IsLast, entry_at}
use Rattle.case_reasons.proofs.ForCallers.{IsAlone, alone_out, alone_out_other, alone_put, alone_put_other, at, kept_until, next, put_found, stays_behind}
use Rattle.policy_compaction.specs.Slots.{changes_port}

itself : (t : TermTree) → same_terms t t ≡ true
itself t = (same_terms-Decides t t).1 refl

-- ---- Rows of two principals

module _ (t u : TermTree) where
  one_term : same_terms t u ≡ true → t ≡ u
  one_term = (same_terms-Decides t u).0

  rows_apart : same_terms t u ≡ false → (row : PortRow) → is_port u row ≡ true → is_port t row ≡ false
  rows_apart other row passes = subst (λ (x : TermTree). same_terms t x ≡ false) ((same_terms-Decides u row.0).0 passes) other

  put_alone : (port : ℕ) (rows : List PortRow) → IsAlone (is_port t) rows → IsAlone (is_port t) (put (is_port u) (u, port) rows)
  put_alone port rows alone = of (same_terms t u) refl
    where
      of : (b : Bool) → same_terms t u ≡ b → IsAlone (is_port t) (put (is_port u) (u, port) rows)
      of true e = subst (λ (x : TermTree). IsAlone (is_port t) (put (is_port x) (x, port) rows)) (one_term e) (alone_put (is_port t) (t, port) rows (itself t) alone)
      of false e = alone_put_other (is_port t) (is_port u) (rows_apart e) (u, port) rows e alone

  out_alone : (rows : List PortRow) → IsAlone (is_port t) rows → IsAlone (is_port t) (take_out (is_port u) rows)
  out_alone rows alone = of (same_terms t u) refl
    where
      of : (b : Bool) → same_terms t u ≡ b → IsAlone (is_port t) (take_out (is_port u) rows)
      of true e = subst (λ (x : TermTree). IsAlone (is_port t) (take_out (is_port x) rows)) (one_term e) (alone_out (is_port t) rows alone)
      of false e = alone_out_other (is_port t) (is_port u) (rows_apart e) rows alone

-- ---- One entry

-- the port to which an event binds
abbrev pub port_in : EventTree → Option ℕ
port_in (bind t port) = Some port
port_in _ = None

module _ (t : TermTree) (h : Head) (s : State) (session p : ℕ) where
  -- of one principal there is one row
  alone_step : (e : EventTree) → IsAlone (is_port t) s.ports → IsAlone (is_port t) (accepted h s session p e).ports
  alone_step (bind (Some u) port) alone = put_alone t u port s.ports alone
  alone_step (unbind (Some u)) alone = out_alone t u s.ports alone
  alone_step (bind None port) alone = alone
  alone_step (unbind None) alone = alone
  alone_step (say (Some u) (Some f)) alone = alone
  alone_step (say None f) alone = alone
  alone_step (say (Some u) None) alone = alone
  alone_step (transfer n to) alone = alone
  alone_step (delete n) alone = alone
  alone_step (new_object x) alone = alone
  alone_step (set_goal o x (Some g)) alone = alone
  alone_step (set_goal o x None) alone = alone
  alone_step (clear_goal o x) alone = alone
  alone_step (set_proof o x (Some ls)) alone = alone
  alone_step (set_proof o x None) alone = alone
  alone_step (clear_proof o x) alone = alone

  -- an event of another principal leaves this one
  leaves : (e : EventTree) (entry : EntryTree) → entry.event ≡ e → changes_port t entry ≡ false → port_of (accepted h s session p e).ports t ≡ port_of s.ports t
  leaves (bind (Some u) port) entry is other =
      let apart : same_terms t u ≡ false = rw is at other in
      ap (option_map (λ (row : PortRow). row.1)) (find_put (is_port t) (is_port u) (u, port) s.ports apart (rows_apart t u apart))
  leaves (unbind (Some u)) entry is other =
      let apart : same_terms t u ≡ false = rw is at other in
      ap (option_map (λ (row : PortRow). row.1)) (find_take_out (is_port t) (is_port u) s.ports (rows_apart t u apart))
  leaves (bind None port) entry is other = refl
  leaves (unbind None) entry is other = refl
  leaves (say (Some u) (Some f)) entry is other = refl
  leaves (say None f) entry is other = refl
  leaves (say (Some u) None) entry is other = refl
  leaves (transfer n to) entry is other = refl
  leaves (delete n) entry is other = refl
  leaves (new_object x) entry is other = refl
  leaves (set_goal o x (Some g)) entry is other = refl
  leaves (set_goal o x None) entry is other = refl
  leaves (clear_goal o x) entry is other = refl
  leaves (set_proof o x (Some ls)) entry is other = refl
  leaves (set_proof o x None) entry is other = refl
  leaves (clear_proof o x) entry is other = refl

  -- one of this principal binds it, or takes its binding away
  sets : IsAlone (is_port t) s.ports → (e : EventTree) (entry : EntryTree) → entry.event ≡ e → changes_port t entry ≡ true → port_of (accepted h s session p e).ports t ≡ port_in e
  sets alone (bind (Some u) port) entry is passes =
      let one : t ≡ u = one_term t u (rw is at passes) in
      subst (λ (x : TermTree). port_of (put (is_port x) (x, port) s.ports) t ≡ Some port) one (ap (option_map (λ (row : PortRow). row.1)) (put_found (is_port t) (t, port) s.ports (itself t)))
  sets alone (unbind (Some u)) entry is passes =
      let one : t ≡ u = one_term t u (rw is at passes) in
      subst (λ (x : TermTree). port_of (take_out (is_port x) s.ports) t ≡ None) one (ap (option_map (λ (row : PortRow). row.1)) alone)
  sets alone (bind None port) entry is passes = absurd (cc (rw is at passes))
  sets alone (unbind None) entry is passes = absurd (cc (rw is at passes))
  sets alone (say u f) entry is passes = absurd (cc (rw is at passes))
  sets alone (transfer n to) entry is passes = absurd (cc (rw is at passes))
  sets alone (delete n) entry is passes = absurd (cc (rw is at passes))
  sets alone (new_object x) entry is passes = absurd (cc (rw is at passes))
  sets alone (set_goal o x g) entry is passes = absurd (cc (rw is at passes))
  sets alone (clear_goal o x) entry is passes = absurd (cc (rw is at passes))
  sets alone (set_proof o x ls) entry is passes = absurd (cc (rw is at passes))
  sets alone (clear_proof o x) entry is passes = absurd (cc (rw is at passes))

-- ---- A history

module _ (h : Head) (es : List EntryTree) (legal : IsLegal h es) (t : TermTree) where
  alone_at : (i : ℕ) → i ≤ length es → IsAlone (is_port t) (at h es i).ports
  alone_at i within = kept_until h es legal (λ (s : State). IsAlone (is_port t) s.ports) (λ s e free alone. alone_step t h s e.session e.principal e.event alone) 0 i (omega arith) within refl

  stays : (i : ℕ) (e : EntryTree) → slice_get es i ≡ Some e → changes_port t e ≡ false
      → port_of (accepted h (at h es i) e.session e.principal e.event).ports t ≡ port_of (at h es i).ports t
  stays i e here other = leaves t h (at h es i) e.session e.principal e.event e refl other

  -- the port is that of the last entry that binds the principal or takes its binding away
  pub port_at : (n : ℕ) (e : EntryTree) → IsLast (changes_port t) es n e → port_of (replay h es).ports t ≡ port_in e.event
  port_at zero e last = absurd (cc last.stands)
  port_at (suc i) e last =
      let within = slice_get_within es i e last.stands in
      let one : i + 1 ≡ suc i = omega arith in
      stays_behind h es legal (λ (s : State). port_of s.ports t) (changes_port t) stays (suc i) (omega (arith, within)) last.later
      ∙ ap (λ (m : ℕ). port_of (at h es m).ports t) (sym one) ∙ ap (λ (s : State). port_of s.ports t) (next h es legal i e last.stands)
      ∙ sets t h (at h es i) e.session e.principal (alone_at i (omega (arith, within))) e.event e refl last.passing

  -- and none where no entry does
  pub no_port : ((m : ℕ) (e : EntryTree) → entry_at es m ≡ Some e → changes_port t e ≡ false) → port_of (replay h es).ports t ≡ None
  no_port none = stays_behind h es legal (λ (s : State). port_of s.ports t) (changes_port t) stays 0 (omega arith) (λ m e below at. none m e at)
