-- After a legal list the rows of labels are from its entries, and as many entries were counted as it has.
use Rattle.std.proofs.Common.{◌≡◌, ◌<◌, ◌≤◌, ◌+◌, ℕ, zero, suc, List, [], ◌∷◌, ◌++◌, length, take, Bool, true, false, not, nat_eq, Option, Some, None, is_none, option_map, unwrap_or, refl, sym, ap, ◌∙◌, subst, arith, add-one, length-append, length-take-le}
use Rattle.std.specs.Cmp.{unsigned_Decides}
use Rattle.std.specs.List.{find}
use Rattle.std.proofs.Math.Seq.{take-length}
use Rattle.nal_term.specs.Trees.{says}
use Rattle.label_store.specs.LabelRows.{LabelRow, has_number, holder_of}
use Rattle.policy_history.specs.declared.heads.Head.{Head}
use Rattle.policy_history.specs.declared.events.Refusal.TheVariants.{NoSuchPrincipal, NoSuchLabel, NotHolder}
use Rattle.policy_history.specs.Events.{EntryTree, EventTree, transfer, delete, numbered}
use Rattle.policy_history.specs.Machine.{IsAccepted, IsLegal, changed, is_another, refusal_of, replay}
use Rattle.policy_history.specs.States.{State}
use Rattle.policy_history.proofs.ForCallers.{accepted_at, legal_more, none_applies, replay_accepted, some_where, take_one_more}
use Rattle.label_holdings.specs.Entries.{entry_at}
use Rattle.label_holdings.specs.Holdings.{label_of}
use Rattle.label_holdings.proofs.EventKinds.{Kind, kind_of, said, gives, deletes, other}
use Rattle.label_holdings.proofs.Places.{entry_within, found_at, there_is}
use Rattle.label_holdings.proofs.Rows.{AreFrom, row_at, rows_deleted, rows_given, rows_more, rows_said, same_number}

pub record IsSound (h : Head) (es : List EntryTree) : Type 0 where
  pub legal : IsLegal h es
  pub entries : (replay h es).entries ≡ length es
  pub rows : AreFrom es 0 (replay h es).labels

-- ---- One more entry

module _ (h : Head) (es : List EntryTree) (e : EntryTree) (accepted : IsAccepted h (replay h es) e) where
  abbrev before : State
  before = replay h es

  pub labels_after : (v : EventTree) → e.event ≡ v → (replay h (es ++ e ∷ [])).labels ≡ (changed h before e.principal v).labels
  labels_after v is = ap (λ (s : State). s.labels) (replay_accepted h es e accepted) ∙ ap (λ v. (changed h before e.principal v).labels) is

  entries_after : (v : EventTree) → e.event ≡ v → (replay h (es ++ e ∷ [])).entries ≡ (changed h before e.principal v).entries + 1
  entries_after v is = ap (λ (s : State). s.entries) (replay_accepted h es e accepted) ∙ ap (λ v. (changed h before e.principal v).entries + 1) is

  counted : IsSound h es → Kind e.event → (replay h (es ++ e ∷ [])).entries ≡ before.entries + 1
  counted sound (said t f is) = entries_after _ is
  counted sound (gives k to is) = entries_after _ is
  counted sound (deletes k is) = entries_after _ is
  counted sound (other o) = entries_after e.event refl ∙ ap (λ n. n + 1) (o.entries h before e.principal)

  rows_after : IsSound h es → Kind e.event → AreFrom (es ++ e ∷ []) 0 (replay h (es ++ e ∷ [])).labels
  rows_after sound (said t f is) =
      let same = labels_after _ is ∙ ap (λ n. before.labels ++ (n + 1, e.principal, says t f) ∷ []) sound.entries in
      subst (AreFrom (es ++ e ∷ []) 0) (sym same) (rows_said es e 0 e.principal (says t f) before.labels (omega arith) (ap label_of is) sound.rows)
  rows_after sound (gives k to is) =
      subst (AreFrom (es ++ e ∷ []) 0) (sym (labels_after _ is)) (rows_given (es ++ e ∷ []) 0 k (unwrap_or (numbered h.principals to) e.principal) before.labels (rows_more es e 0 before.labels sound.rows))
  rows_after sound (deletes k is) =
      subst (AreFrom (es ++ e ∷ []) 0) (sym (labels_after _ is)) (rows_deleted (es ++ e ∷ []) 0 k before.labels (rows_more es e 0 before.labels sound.rows))
  rows_after sound (other o) =
      subst (AreFrom (es ++ e ∷ []) 0) (sym (labels_after e.event refl ∙ o.labels h before e.principal)) (rows_more es e 0 before.labels sound.rows)

  pub sound_more : IsSound h es → IsSound h (es ++ e ∷ [])
  sound_more sound = record {
    legal = legal_more h es e sound.legal accepted;
    entries = counted sound (kind_of e.event) ∙ ap (λ n. n + 1) sound.entries ∙ sym (length-append es (e ∷ []));
    rows = rows_after sound (kind_of e.event);
  }

pub sound_at : (h : Head) (es : List EntryTree) → IsLegal h es → (n : ℕ) → n ≤ length es → IsSound h (take n es)
sound_at h es legal zero within = record { legal = tt; entries = refl; rows = tt }
sound_at h es legal (suc n) within =
    let at = there_is es n (omega (arith, within)) in
    let next : take (suc n) es ≡ take n es ++ at.0 ∷ [] = rw add-one at (take_one_more es n at.0 at.1) in
    subst (IsSound h) (sym next) (sound_more h (take n es) at.0 (accepted_at h es n at.0 legal at.1) (sound_at h es legal n (omega (arith, within))))

pub sound_all : (h : Head) (es : List EntryTree) → IsLegal h es → IsSound h es
sound_all h es legal = subst (IsSound h) (take-length es) (sound_at h es legal (length es) (omega arith))

-- ---- A label that an entry gives away or deletes

pub record IsHolding (rows : List LabelRow) (k p : ℕ) (row : LabelRow) : Type 0 where
  pub found : find (has_number k) rows ≡ Some row
  pub holder : row.1 ≡ p

holding : (rows : List LabelRow) (k p : ℕ) → is_none (holder_of rows k) ≡ false → is_another (holder_of rows k) p ≡ false → (row : LabelRow) × IsHolding rows k p row
holding rows k p there own = of (find (has_number k) rows) refl there own
  where
    of : (o : Option LabelRow) → find (has_number k) rows ≡ o → is_none (option_map (λ (row : LabelRow). row.1) o) ≡ false → is_another (option_map (λ (row : LabelRow). row.1) o) p ≡ false
        → (row : LabelRow) × IsHolding rows k p row
    of None is there own = absurd (cc there)
    of (Some row) is there own = (row, record { found = is; holder = (unsigned_Decides row.1 p).0 (tells (nat_eq row.1 p) own) })
      where
        tells : (b : Bool) → not b ≡ false → b ≡ true
        tells true e = refl
        tells false e = absurd (cc e)

module _ (h : Head) (s : State) (e : EntryTree) (accepted : IsAccepted h s e) where
  free : (v : EventTree) → e.event ≡ v → refusal_of h s e.session e.principal v ≡ None
  free v is = subst (λ v. refusal_of h s e.session e.principal v ≡ None) is accepted.1

  pub given_held : (k : ℕ) (to : List ℕ) → e.event ≡ transfer k to → (row : LabelRow) × IsHolding s.labels k e.principal row
  given_held k to is =
      let none = none_applies h s e.session e.principal (transfer k to) (free (transfer k to) is) in
      holding s.labels k e.principal (none NoSuchLabel) (none NotHolder)

  pub deleted_held : (k : ℕ) → e.event ≡ delete k → (row : LabelRow) × IsHolding s.labels k e.principal row
  deleted_held k is =
      let none = none_applies h s e.session e.principal (delete k) (free (delete k) is) in
      holding s.labels k e.principal (none NoSuchLabel) (none NotHolder)

  pub given_known : (k : ℕ) (to : List ℕ) → e.event ≡ transfer k to → (q : ℕ) × (numbered h.principals to ≡ Some q)
  given_known k to is = some_where (numbered h.principals to) (none_applies h s e.session e.principal (transfer k to) (free (transfer k to) is) NoSuchPrincipal)

-- it has the number of an entry
pub held_within : (h : Head) (es : List EntryTree) (k : ℕ) (row : LabelRow) → IsSound h es → find (has_number k) (replay h es).labels ≡ Some row → (0 < k) × (k ≤ length es)
held_within h es k row sound found =
    let at = found_at (has_number k) (replay h es).labels row found in
    let r = row_at es 0 (replay h es).labels at.0 row sound.rows at.1 in
    let within = entry_within es row.0 r.1.entry r.1.stands in
    let same = same_number k row at.2 in
    (omega (arith, same, r.0), omega (arith, same, within.1))

-- it was said before it was given away
pub given_below : (h : Head) (es : List EntryTree) (j k : ℕ) (to : List ℕ) (e : EntryTree) → IsLegal h es → entry_at es j ≡ Some e → e.event ≡ transfer k to → k < j
given_below h es zero k to e legal at is = absurd (cc at)
given_below h es (suc n) k to e legal at is =
    let held = given_held h (replay h (take n es)) e (accepted_at h es n e legal at) k to is in
    let low = entry_within es (suc n) e at in
    let short : length (take n es) ≡ n = length-take-le n es (omega (arith, low.1)) in
    let within = held_within h (take n es) k held.0 (sound_at h es legal n (omega (arith, low.1))) held.1.found in
    omega (arith, within.1, short)
