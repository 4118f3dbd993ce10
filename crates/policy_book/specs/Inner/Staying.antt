-- The laws of the subject matter: a verdict stays right while nothing touches its case's regions, and a case stays where it is.
use Rattle.std.proofs.Common.{◌≡◌, ◌≤◌, ℕ, List, [], ◌∷◌, ◌++◌, length, map, take, drop, refl, sym, ap, ◌∙◌, subst, arith}
use Rattle.std.proofs.lemmas.List.{map-append, length-map, length-take, take-append-drop}
use Rattle.proof_store.specs.Cases.{CaseRow}
use Rattle.nal_rules.specs.declared.verdicts.Verdict.{Verdict}
use Rattle.policy_history.specs.declared.heads.Head.{Head}
use Rattle.policy_history.specs.declared.events.Entry.{Entry}
use Rattle.policy_history.specs.Events.{EntryTree, entry_tree}
use Rattle.policy_history.specs.Judged.{IsHome, IsRight, IsUntouched, Touches, object_region, store_region}
use Rattle.policy_history.specs.Values.{entry_trees}
use Rattle.policy_history.proofs.ForCallers.{cases_stay, right_stays}
use Rattle.verdict_words.specs.declared.places.CasePlace.{CasePlace}
use Rattle.verdict_words.specs.declared.places.Held.{Held}
use Rattle.verdict_words.specs.Histories.{Untouched}
use Rattle.policy_book.specs.Matter.{IsHeldRight}

-- one more element before the cut
cut_later : {A B : Type 0} (f : A → B) (xs : List A) (before : List B) (y : B) (x : A) (z : B) → f x ≡ z
    → (front : List A) × (a : A) × (rest : List A) × (xs ≡ front ++ a ∷ rest) × (map f front ≡ before) × (f a ≡ y)
    → (front : List A) × (a : A) × (rest : List A) × (x ∷ xs ≡ front ++ a ∷ rest) × (map f front ≡ z ∷ before) × (f a ≡ y)
cut_later f xs before y x z first (front, a, rest, is, same, here) = (x ∷ front, a, rest, ap (λ ys. x ∷ ys) is, cc (first, same), here)

-- where a mapped list is cut at an element, so is the list
map_cut : {A B : Type 0} (f : A → B) (xs : List A) (before : List B) (y : B) (later : List B) → map f xs ≡ before ++ y ∷ later
    → (front : List A) × (x : A) × (rest : List A) × (xs ≡ front ++ x ∷ rest) × (map f front ≡ before) × (f x ≡ y)
map_cut f [] [] y later e = absurd (cc e)
map_cut f [] (z ∷ before) y later e = absurd (cc e)
map_cut f (x ∷ xs) [] y later e = ([], x, xs, refl, refl, cc e)
map_cut f (x ∷ xs) (z ∷ before) y later e =
    let first : f x ≡ z = cc e in
    let rest : map f xs ≡ before ++ y ∷ later = cc e in
    cut_later f xs before y x z first (map_cut f xs before y later rest)

-- entries that touch no region, by their plain values
untouched_trees : (h : Head) (es : List Entry) (at region : ℕ) → Untouched (λ (before : List Entry) (e : Entry) (r : ℕ). Touches h (entry_trees before) (entry_tree e) r) es at region
    → IsUntouched h (entry_trees es) at region
untouched_trees h es at region quiet before e later is from touch =
    let c = map_cut entry_tree es before e later is in
    let count : length c.0 ≡ length before = sym (length-map c.0 entry_tree) ∙ ap length c.4 in
    quiet c.0 c.1 c.2 c.3 (omega (arith, count, from)) (subst (λ (xs : List EntryTree). Touches h xs (entry_tree c.1) region) (sym c.4) (subst (λ (x : EntryTree). Touches h before x region) (sym c.5) touch))

-- the history is its first entries, and then the others
cut_trees : (es : List Entry) (at : ℕ) → entry_trees (take at es) ++ entry_trees (drop at es) ≡ entry_trees es
cut_trees es at = sym (map-append entry_tree (take at es) (drop at es)) ∙ ap entry_trees (take-append-drop at es)

module _ (h : Head) (es more : List EntryTree) (case object store : ℕ) (verdict : Verdict) where
  -- a verdict that was right in its case's home
  right_at_home : IsHome h (es ++ more) case object store → IsRight h es case verdict
      → IsUntouched h (es ++ more) (length es) (object_region object) → IsUntouched h (es ++ more) (length es) (store_region store) → IsRight h (es ++ more) case verdict
  right_at_home home right far other =
      let stands = cases_stay h es more case right.row right.stands in
      let same : stands.0 ≡ home.row = cc (stands.1, home.stands) in
      let object_is : right.row.2 ≡ object = stands.2.object ∙ ap (λ (row : CaseRow). row.2) same ∙ home.object_is in
      let subject_is : right.row.0 ≡ store = stands.2.subject ∙ ap (λ (row : CaseRow). row.0) same ∙ home.subject_is in
      right_stays h es more case verdict right
      (subst (λ n. IsUntouched h (es ++ more) (length es) (object_region n)) (sym object_is) far)
      (subst (λ n. IsUntouched h (es ++ more) (length es) (store_region n)) (sym subject_is) other)

pub stays_right : (h : Head) (es : List Entry) (at : ℕ) (place : CasePlace) (held : Held) → IsHome h (entry_trees es) place.case place.object place.store → at ≤ length es
    → IsHeldRight h (entry_trees (take at es)) place.case held
    → Untouched (λ (before : List Entry) (e : Entry) (r : ℕ). Touches h (entry_trees before) (entry_tree e) r) es at (object_region place.object)
    → Untouched (λ (before : List Entry) (e : Entry) (r : ℕ). Touches h (entry_trees before) (entry_tree e) r) es at (store_region place.store)
    → IsHeldRight h (entry_trees es) place.case held
stays_right h es at place held home within (verdict, stands, right) far other =
    let first = entry_trees (take at es) in
    let more = entry_trees (drop at es) in
    let whole : first ++ more ≡ entry_trees es = cut_trees es at in
    let count : length first ≡ at = length-map (take at es) entry_tree ∙ simp length-take (omega (arith, within)) in
    let quiet : (region : ℕ) → IsUntouched h (entry_trees es) at region → IsUntouched h (first ++ more) (length first) region =
    λ region q. subst (λ n. IsUntouched h (first ++ more) n region) (sym count) (subst (λ (xs : List EntryTree). IsUntouched h xs at region) (sym whole) q) in
    let there : IsHome h (first ++ more) place.case place.object place.store = subst (λ (xs : List EntryTree). IsHome h xs place.case place.object place.store) (sym whole) home in
    let kept = right_at_home h first more place.case place.object place.store verdict there right
    (quiet (object_region place.object) (untouched_trees h es at (object_region place.object) far))
    (quiet (store_region place.store) (untouched_trees h es at (store_region place.store) other)) in
    (verdict, stands, subst (λ (xs : List EntryTree). IsRight h xs place.case verdict) whole kept)

pub home_grows : (h : Head) (es more : List Entry) (place : CasePlace) → IsHome h (entry_trees es) place.case place.object place.store
    → IsHome h (entry_trees (es ++ more)) place.case place.object place.store
home_grows h es more place home =
    let later = cases_stay h (entry_trees es) (entry_trees more) place.case home.row home.stands in
    let there : IsHome h (entry_trees es ++ entry_trees more) place.case place.object place.store =
    record { row = later.0; stands = later.1; object_is = sym later.2.object ∙ home.object_is; subject_is = sym later.2.subject ∙ home.subject_is } in
    subst (λ (xs : List EntryTree). IsHome h xs place.case place.object place.store) (sym (map-append entry_tree es more)) there
