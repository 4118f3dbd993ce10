-- What an event can do to labels: it says one, gives one away, deletes one, or leaves them.
use Rattle.std.proofs.Common.{◌≡◌, ◌&&◌, ℕ, List, Bool, true, false, not, nat_eq, Some, None, refl, sym, ap, ◌∙◌}
use Rattle.std.specs.Cmp.{unsigned_Decides}
use Rattle.nal_term.specs.Trees.{TermTree, FormulaTree}
use Rattle.policy_history.specs.declared.heads.Head.{Head}
use Rattle.policy_history.specs.Events.{EventTree, EntryTree, say, transfer, delete, new_object, set_goal, clear_goal, set_proof, clear_proof, bind, unbind, numbered}
use Rattle.policy_history.specs.Machine.{changed}
use Rattle.policy_history.specs.States.{State}
use Rattle.label_holdings.specs.Holdings.{label_of}
use Rattle.label_holdings.specs.Tenures.{hands_over}

pub record IsOther (e : EventTree) : Type 0 where
  pub labels : (h : Head) (s : State) (p : ℕ) → (changed h s p e).labels ≡ s.labels
  pub entries : (h : Head) (s : State) (p : ℕ) → (changed h s p e).entries ≡ s.entries
  pub said : label_of e ≡ None
  pub given : (k : ℕ) (to : List ℕ) → e ≡ transfer k to → ⊥

pub data Kind (e : EventTree) : Type 0 where
  said : (t : TermTree) (f : FormulaTree) → e ≡ say (Some t) (Some f) → Kind e
  gives : (k : ℕ) (to : List ℕ) → e ≡ transfer k to → Kind e
  deletes : (k : ℕ) → e ≡ delete k → Kind e
  other : IsOther e → Kind e

pub kind_of : (e : EventTree) → Kind e
kind_of (say (Some t) (Some f)) = said t f refl
kind_of (transfer k to) = gives k to refl
kind_of (delete k) = deletes k refl
kind_of (say None f) = other record { labels = λ h s p. refl; entries = λ h s p. refl; said = refl; given = λ k to is. cc is }
kind_of (say (Some t) None) = other record { labels = λ h s p. refl; entries = λ h s p. refl; said = refl; given = λ k to is. cc is }
kind_of (new_object x) = other record { labels = λ h s p. refl; entries = λ h s p. refl; said = refl; given = λ k to is. cc is }
kind_of (set_goal op object (Some g)) = other record { labels = λ h s p. refl; entries = λ h s p. refl; said = refl; given = λ k to is. cc is }
kind_of (set_goal op object None) = other record { labels = λ h s p. refl; entries = λ h s p. refl; said = refl; given = λ k to is. cc is }
kind_of (clear_goal op object) = other record { labels = λ h s p. refl; entries = λ h s p. refl; said = refl; given = λ k to is. cc is }
kind_of (set_proof op object (Some ls)) = other record { labels = λ h s p. refl; entries = λ h s p. refl; said = refl; given = λ k to is. cc is }
kind_of (set_proof op object None) = other record { labels = λ h s p. refl; entries = λ h s p. refl; said = refl; given = λ k to is. cc is }
kind_of (clear_proof op object) = other record { labels = λ h s p. refl; entries = λ h s p. refl; said = refl; given = λ k to is. cc is }
kind_of (bind (Some t) port) = other record { labels = λ h s p. refl; entries = λ h s p. refl; said = refl; given = λ k to is. cc is }
kind_of (bind None port) = other record { labels = λ h s p. refl; entries = λ h s p. refl; said = refl; given = λ k to is. cc is }
kind_of (unbind (Some t)) = other record { labels = λ h s p. refl; entries = λ h s p. refl; said = refl; given = λ k to is. cc is }
kind_of (unbind None) = other record { labels = λ h s p. refl; entries = λ h s p. refl; said = refl; given = λ k to is. cc is }

and_right : (a b : Bool) → (a && b) ≡ true → b ≡ true
and_right true b e = e
and_right false b e = absurd (cc e)

and_left : (a b : Bool) → (a && b) ≡ true → a ≡ true
and_left true b e = refl
and_left false b e = absurd (cc e)

pub not_true : (b : Bool) → (b ≡ true → ⊥) → b ≡ false
not_true true never = absurd (never refl)
not_true false never = refl

-- what hands label k over to p is a transfer of it
pub handed : (h : Head) (k p : ℕ) (e : EntryTree) → hands_over h k p e ≡ true → (to : List ℕ) × (e.event ≡ transfer k to)
handed h k p e passes = of e.event refl
  where
    of : (v : EventTree) → e.event ≡ v → (to : List ℕ) × (e.event ≡ transfer k to)
    of (transfer n to) is =
        let both = rw is at passes in
        let same : k ≡ n = (unsigned_Decides k n).0 (and_left (nat_eq k n) _ (and_right (not (nat_eq p e.principal)) _ both)) in
        (to, is ∙ ap (λ x. transfer x to) (sym same))
    of _ is = absurd (cc (and_right (not (nat_eq p e.principal)) false (rw is at passes)))

-- a transfer of label k hands it over to whom it names, if that is another
pub hands : (h : Head) (k q : ℕ) (to : List ℕ) (e : EntryTree) → e.event ≡ transfer k to → numbered h.principals to ≡ Some q → hands_over h k q e ≡ not (nat_eq q e.principal)
hands h k q to e is known = rw (is, known, (unsigned_Decides k k).1 refl, (unsigned_Decides q q).1 refl) (and_true (not (nat_eq q e.principal)))
  where
    and_true : (a : Bool) → (a && true) ≡ a
    and_true true = refl
    and_true false = refl
