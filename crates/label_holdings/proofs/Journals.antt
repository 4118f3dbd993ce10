-- The tenures of a beginning of a legal list, one entry further.
use Rattle.std.proofs.Common.{◌≡◌, ◌≢◌, ◌<◌, ◌≤◌, ◌+◌, ◌-◌, ◌⊎◌, inl, inr, ℕ, List, [], ◌∷◌, ◌++◌, length, set, take, get_or, Some, None, option_map, refl, sym, ap, ◌∙◌, subst, arith, length-append, length-set, length-take-le}
use Rattle.std.specs.List.{slice_get}
use Rattle.std.proofs.lemmas.Option.{slice_get-map, slice_get_read, slice_get_within}
use Rattle.nal_term.specs.Trees.{FormulaTree}
use Rattle.policy_history.specs.declared.heads.Head.{Head}
use Rattle.policy_history.specs.declared.events.Entry.{Entry}
use Rattle.policy_history.specs.Events.{EntryTree, entry_tree, transfer, delete, numbered}
use Rattle.policy_history.specs.Values.{entry_trees}
use Rattle.policy_history.specs.Machine.{IsAccepted, IsLegal, replay}
use Rattle.policy_history.proofs.ForCallers.{accepted_at, take_one_more}
use Rattle.label_holdings.specs.declared.label_tenures.Tenure.{Tenure}
use Rattle.label_holdings.specs.Holdings.{label_of}
use Rattle.label_holdings.specs.Tenures.{AreTenures, IsTenure}
use Rattle.label_holdings.specs.Inner.Steps.{AreHandedOver}
use Rattle.label_holdings.proofs.Places.{place_cases, place_set, some_same}
use Rattle.label_holdings.proofs.Sound.{IsSound, deleted_held, given_held, given_known, held_within, sound_at}
use Rattle.label_holdings.proofs.Steps.{tenure_deleted, tenure_first, tenure_given, tenure_left}

-- an entry that was read
pub entry_there : (xs : List Entry) (n : ℕ) (x : Entry) → n < length xs → x ≡ get_or xs n x → slice_get (entry_trees xs) n ≡ Some (entry_tree x)
entry_there xs n x within is = slice_get-map entry_tree xs n ∙ ap (option_map entry_tree) (slice_get_read xs (length xs) n x refl within is)

pub none_yet : (h : Head) (es : List EntryTree) → AreTenures h (take 0 es) []
none_yet h es = record { count = refl; each = λ i t at. absurd (cc at) }

pub one_more : (h : Head) (es : List EntryTree) (n : ℕ) (ts : List Tenure) (t : Tenure) → length es ≡ n + 1 → AreHandedOver h es n ts → IsTenure h es (n + 1) t → AreTenures h es (ts ++ t ∷ [])
one_more h es n ts t long over new = record { count = let more = length-append ts (t ∷ []) in let old = over.length_is in omega (arith, more, old, long); each = λ i x at. of i x (place_cases ts i t x at) }
  where
    of : (i : ℕ) (x : Tenure) → (slice_get ts i ≡ Some x) ⊎ ((i ≡ length ts) × (t ≡ x)) → IsTenure h es (i + 1) x
    of i x (inl there) = over.each i x there
    of i x (inr (end, same)) = subst (λ y. IsTenure h es (i + 1) y) same (subst (λ k. IsTenure h es (k + 1) t) (sym (end ∙ over.length_is)) new)

module _ (h : Head) (xs : List Entry) (legal : IsLegal h (entry_trees xs)) (n : ℕ) (x : Entry) (within : n < length xs) (read : x ≡ get_or xs n x) where
  abbrev es : List EntryTree
  es = entry_trees xs

  abbrev e : EntryTree
  e = entry_tree x

  at : slice_get es n ≡ Some e
  at = entry_there xs n x within read

  abbrev before : List EntryTree
  before = take n es

  accepted : IsAccepted h (replay h before) e
  accepted = accepted_at h es n e legal at

  sound : IsSound h before
  sound = sound_at h es legal n (let low = slice_get_within es n e at in omega (arith, low))

  short : length before ≡ n
  short = length-take-le n es (let low = slice_get_within es n e at in omega (arith, low))

  further : (k : ℕ) (t : Tenure) → IsTenure h (before ++ e ∷ []) k t → IsTenure h (take (n + 1) es) k t
  further k t is = subst (λ xs. IsTenure h xs k t) (sym (take_one_more es n e at)) is

  pub given_within : (k : ℕ) (to : List ℕ) → e.event ≡ transfer k to → (0 < k) × (k ≤ n)
  given_within k to is =
      let held = given_held h (replay h before) e accepted k to is in
      let low = held_within h before k held.0 sound held.1.found in
      (low.0, omega (arith, low.1, short))

  pub deleted_within : (k : ℕ) → e.event ≡ delete k → (0 < k) × (k ≤ n)
  deleted_within k is =
      let held = deleted_held h (replay h before) e accepted k is in
      let low = held_within h before k held.0 sound held.1.found in
      (low.0, omega (arith, low.1, short))

  -- the label of the entry itself
  pub first_step : (t : Tenure) → t.holder ≡ option_map (λ (f : FormulaTree). e.principal) (label_of e.event) → t.received ≡ n + 1 → IsTenure h (take (n + 1) es) (n + 1) t
  first_step t holds now =
      further (n + 1) t (subst (λ k. IsTenure h (before ++ e ∷ []) (k + 1) t) short (tenure_first h before e accepted t sound holds (now ∙ ap (λ k. k + 1) (sym short))))

  module _ (ts : List Tenure) (old : AreTenures h before ts) where
    tenure_count : length ts ≡ n
    tenure_count = old.count ∙ short

    left : (i : ℕ) (t : Tenure) → ((to : List ℕ) → e.event ≡ transfer (i + 1) to → ⊥) → (e.event ≡ delete (i + 1) → ⊥) → slice_get ts i ≡ Some t → IsTenure h (take (n + 1) es) (i + 1) t
    left i t given deleted there =
        let low = slice_get_within ts i t there in
        further (i + 1) t (tenure_left h before e accepted (i + 1) t (let c = tenure_count in omega (arith, low, c, short)) sound given deleted (old.each i t there))

    pub given_fits : (k : ℕ) (to : List ℕ) → e.event ≡ transfer k to → k - 1 < length ts
    given_fits k to is = let low = given_within k to is in let c = tenure_count in omega (arith, low.0, low.1, c)

    pub deleted_fits : (k : ℕ) → e.event ≡ delete k → k - 1 < length ts
    deleted_fits k is = let low = deleted_within k is in let c = tenure_count in omega (arith, low.0, low.1, c)

    -- an entry that neither gives away nor deletes
    pub over_left : ((k : ℕ) (to : List ℕ) → e.event ≡ transfer k to → ⊥) → ((k : ℕ) → e.event ≡ delete k → ⊥) → AreHandedOver h (take (n + 1) es) n ts
    over_left given deleted = record { length_is = tenure_count; each = λ i t there. left i t (given (i + 1)) (deleted (i + 1)) there }

    over_set : (k : ℕ) (new : Tenure) → 0 < k → IsTenure h (take (n + 1) es) k new → ((j : ℕ) (to : List ℕ) → e.event ≡ transfer j to → j ≡ k) → ((j : ℕ) → e.event ≡ delete j → j ≡ k)
        → AreHandedOver h (take (n + 1) es) n (set ts (k - 1) new)
    over_set k new some is given deleted = record { length_is = length-set ts (k - 1) new ∙ tenure_count; each = λ i t there. of i t (place_set ts (k - 1) i new t there) }
      where
        of : (i : ℕ) (t : Tenure) → ((i ≡ k - 1) × (new ≡ t)) ⊎ ((i ≡ k - 1 → ⊥) × (slice_get ts i ≡ Some t)) → IsTenure h (take (n + 1) es) (i + 1) t
        of i t (inl (here, same)) = let number : k ≡ i + 1 = omega (arith, some, here) in subst (λ x. IsTenure h (take (n + 1) es) (i + 1) x) same (subst (λ j. IsTenure h (take (n + 1) es) j new) number is)
        of i t (inr (apart, there)) = left i t (λ to e. apart (let j = given (i + 1) to e in omega (arith, j))) (λ e. apart (let j = deleted (i + 1) e in omega (arith, j))) there

    pub over_given : (k : ℕ) (to : List ℕ) (t new : Tenure) → e.event ≡ transfer k to → t ≡ get_or ts (k - 1) t → new.holder ≡ numbered h.principals to
        → (numbered h.principals to ≡ Some e.principal → new.received ≡ t.received) → (numbered h.principals to ≢ Some e.principal → new.received ≡ n + 1) → AreHandedOver h (take (n + 1) es) n (set ts (k - 1) new)
    over_given k to t new is found holds kept moved =
        let some = (given_within k to is).0 in
        let number : (k - 1) + 1 ≡ k = omega (arith, some) in
        let was : IsTenure h before k t = subst (λ j. IsTenure h before j t) number (old.each (k - 1) t (slice_get_read ts (length ts) (k - 1) t refl (given_fits k to is) found)) in
        let q = given_known h (replay h before) e accepted k to is in
        over_set k new some
        (further k new
        (tenure_given h before e accepted k q.0 to t new is q.1 was (holds ∙ q.1) (λ same. kept (q.1 ∙ ap Some same))
        (λ apart. moved (λ known. apart (some_same (sym q.1 ∙ known))) ∙ ap (λ j. j + 1) (sym short))))
        (λ j to' is'. cc) (λ j is'. cc)

    pub over_deleted : (k : ℕ) (new : Tenure) → e.event ≡ delete k → new.holder ≡ None → AreHandedOver h (take (n + 1) es) n (set ts (k - 1) new)
    over_deleted k new is gone =
        over_set k new (deleted_within k is).0 (further k new (tenure_deleted h before e accepted k new sound is gone)) (λ j to is'. cc) (λ j is'. cc)
