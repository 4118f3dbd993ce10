-- What a session over a shared board knows, as its history grows.
use Rattle.std.proofs.Common.{◌≡◌, ◌<◌, ◌≤◌, ◌&&◌, ◌==◌, ℕ, Bool, true, false, List, [], ◌∷◌, ◌++◌, length, take, Option, Some, None, refl, sym, ap, ◌∙◌, subst, arith, if◌then◌else◌}
use Rattle.std.specs.List.{All}
use Rattle.std.proofs.lemmas.List.{length-map, map-append, take-append-le, take-map}
use Rattle.std.proofs.lemmas.List.Elements.{All-head, All-tail}
use Rattle.nal_term.specs.TreeKeys.{same_bytes, same_bytes-Decides}
use Rattle.policy_history.specs.declared.events.Entry.{Entry}
use Rattle.policy_history.specs.declared.heads.Head.{Head}
use Rattle.policy_history.specs.Events.{EntryTree, entry_tree}
use Rattle.policy_history.specs.Judged.{IsHome}
use Rattle.policy_history.specs.Machine.{replay}
use Rattle.policy_history.specs.Values.{entry_trees}
use Rattle.policy_history.proofs.ForCallers.{objects_stay, case_numbers_stay, case_there, object_there}
use Rattle.verdict_words.specs.declared.places.CasePlace.{CasePlace}
use Rattle.verdict_words.specs.declared.views.Item.{Item}
use Rattle.verdict_words.specs.Histories.{IsPrefix, own}
use Rattle.verdict_words.specs.Rule.{last_met, met_after}
use Rattle.verdict_words.specs.Values.{PassValue, met_seen}
use Rattle.verdict_words.specs.Words.{IsPlace}
use Rattle.verdict_words.proofs.ForCallers.{met_append, all_with}
use Rattle.policy_book.specs.Books.{session_of}
use Rattle.session_core.specs.Calls.{IsPlaceIn}
use Rattle.session_core.specs.Inner.Boarding.{AreKnown, IsKnownRow, own_in}
use Rattle.session_core.specs.Inner.Knowing.{KnownRow, is_row_of, place_among}

-- the plain values of a history that grew
pub trees_prefix : (xs ys : List Entry) → IsPrefix xs ys → IsPrefix (entry_trees xs) (entry_trees ys)
trees_prefix xs ys p = (entry_trees p.0, ap entry_trees p.1 ∙ map-append entry_tree xs p.0)

pub trees_count : (xs : List Entry) → length (entry_trees xs) ≡ length xs
trees_count xs = length-map xs entry_tree

-- the first entries of a history that grew
pub first_trees : (xs ys : List Entry) (n : ℕ) → n ≡ length xs → IsPrefix xs ys → take n (entry_trees ys) ≡ entry_trees xs
first_trees xs ys n count p =
    let grown = trees_prefix xs ys p in
    let long : n ≡ length (entry_trees xs) = count ∙ sym (trees_count xs) in
    ap (take n) grown.1 ∙ take-append-le n (entry_trees xs) grown.0 (omega (arith, long)) ∙ ap (λ (k : ℕ). take k (entry_trees xs)) long ∙ take_all (entry_trees xs)
  where
    take_all : (es : List EntryTree) → take (length es) es ≡ es
    take_all [] = refl
    take_all (e ∷ es) = ap (λ (rest : List EntryTree). e ∷ rest) (take_all es)

-- a place stays one as the history grows
pub place_stays : (h : Head) (es later : List EntryTree) (p : ℕ) (op object : List ℕ) (place : CasePlace) → IsPrefix es later → IsPlaceIn (replay h es) p op object place → IsPlaceIn (replay h later) p op object place
place_stays h es later p op object place prefix is =
    subst (λ (xs : List EntryTree). IsPlaceIn (replay h xs) p op object place) (sym prefix.1) (record {
      object_is = objects_stay h es prefix.0 object place.object is.object_is;
      case_is = case_numbers_stay h es prefix.0 p op place.object place.case is.case_is;
      store_is = is.store_is;
    })

pub known_stay : (h : Head) (es later : List EntryTree) (who : Option ℕ) (rows : List KnownRow) → IsPrefix es later → AreKnown h es who rows → AreKnown h later who rows
known_stay h es later None rows prefix known = known
known_stay h es later (Some p) rows prefix known =
    all_with (IsKnownRow h es p) (IsKnownRow h later p) rows (λ row is. (place_stays h es later p row.op row.object row.place prefix is.0, is.1)) known

-- the case of a known row is at home
pub home_of : (h : Head) (es : List EntryTree) (p : ℕ) (op object : List ℕ) (place : CasePlace) → IsPlaceIn (replay h es) p op object place → IsHome h es place.case place.object place.store
home_of h es p op object place is =
    let there = case_there h es p op place.object place.case is.case_is in
    record { row = there.0; stands = there.1; object_is = there.4; subject_is = there.2 ∙ sym is.store_is }

pub few_objects : (h : Head) (es : List EntryTree) (p : ℕ) (op object : List ℕ) (place : CasePlace) → IsPlaceIn (replay h es) p op object place → place.object < 65536
few_objects h es p op object place is = object_there h es object place.object is.object_is

pub both_same : (a b : Bool) → (a && b) ≡ true → (a ≡ true) × (b ≡ true)
both_same true b is = (refl, is)
both_same false b is = absurd (cc is)

module _ (h : Head) (es : List EntryTree) (p : ℕ) (op object : List ℕ) (place : CasePlace) where
  named : (row : KnownRow) → IsKnownRow h es p row → is_row_of row op object ≡ true → row.place ≡ place → IsPlaceIn (replay h es) p op object place × IsPlace place
  named row is same place_is =
      let names = both_same (same_bytes row.op op) (same_bytes row.object object) same in
      let op_is : row.op ≡ op = (same_bytes-Decides row.op op).0 names.0 in
      let object_is : row.object ≡ object = (same_bytes-Decides row.object object).0 names.1 in
      subst (λ (q : CasePlace). IsPlaceIn (replay h es) p op object q × IsPlace q) place_is
      (subst (λ (x : List ℕ). IsPlaceIn (replay h es) p op x row.place × IsPlace row.place) object_is
      (subst (λ (x : List ℕ). IsPlaceIn (replay h es) p x row.object row.place × IsPlace row.place) op_is is))

  found_with : (b : Bool) (row : KnownRow) (rest : Option CasePlace) → is_row_of row op object ≡ b → IsKnownRow h es p row → (rest ≡ Some place → IsPlaceIn (replay h es) p op object place × IsPlace place)
      → (if b then Some row.place else rest) ≡ Some place → IsPlaceIn (replay h es) p op object place × IsPlace place
  found_with true row rest same is later found = named row is same (cc found)
  found_with false row rest same is later found = later found

  found_among : (rows : List KnownRow) → All (IsKnownRow h es p) rows → place_among rows op object ≡ Some place → IsPlaceIn (replay h es) p op object place × IsPlace place
  found_among [] known found = absurd (cc found)
  found_among (row ∷ rows) known found =
      found_with (is_row_of row op object) row (place_among rows op object) refl (All-head (IsKnownRow h es p) row rows known)
      (found_among rows (All-tail (IsKnownRow h es p) row rows known)) found

  -- a case that is found is in its place
  pub known_place : (who : Option ℕ) (rows : List KnownRow) → who ≡ Some p → AreKnown h es who rows → place_among rows op object ≡ Some place → IsPlaceIn (replay h es) p op object place × IsPlace place
  known_place who rows who_is known found = found_among rows (subst (λ (w : Option ℕ). AreKnown h es w rows) who_is known) found

-- a session's own entries, where its pass sees more and was not met
pub own_stays : (old new : PassValue Entry Head) → IsPrefix old.seen new.seen → new.session ≡ old.session → last_met new.trail ≡ last_met old.trail → last_met old.trail ≤ length old.seen → own_in new ≡ own_in old
own_stays old new prefix session met within =
    let grown = trees_prefix old.seen new.seen prefix in
    let long = trees_count old.seen in
    let same : take (last_met new.trail) (entry_trees new.seen) ≡ take (last_met old.trail) (entry_trees old.seen) =
    ap (λ (n : ℕ). take n (entry_trees new.seen)) met ∙ ap (take (last_met old.trail)) grown.1 ∙ take-append-le (last_met old.trail) (entry_trees old.seen) grown.0 (omega (arith, long, within)) in
    ap (λ (es : List EntryTree). own (λ (e : EntryTree). e.session) es new.session) same ∙ ap (λ (s : ℕ). own (λ (e : EntryTree). e.session) (take (last_met old.trail) (entry_trees old.seen)) s) session

-- steps among which there is no meeting
abbrev pub IsQuiet : List Item → Type 0
IsQuiet steps = (n : ℕ) → met_after n steps ≡ n

pub quiet_both : (xs ys : List Item) → IsQuiet xs → IsQuiet ys → IsQuiet (xs ++ ys)
quiet_both xs ys first second n = met_append n xs ys ∙ second (met_after n xs) ∙ first n

pub met_stays : (trail steps : List Item) → IsQuiet steps → last_met (trail ++ steps) ≡ last_met trail
met_stays trail steps quiet = met_append 0 trail steps ∙ quiet (last_met trail)

-- ---- A session's own entries, as plain values

own_with : (b : Bool) (e : Entry) (rest : List Entry) (trees : List EntryTree) → entry_trees rest ≡ trees → (if b then entry_tree e ∷ trees else trees) ≡ entry_trees (if b then e ∷ rest else rest)
own_with true e rest trees same = ap (λ (xs : List EntryTree). entry_tree e ∷ xs) (sym same)
own_with false e rest trees same = sym same

pub own_map : (xs : List Entry) (s : ℕ) → own (λ (e : EntryTree). e.session) (entry_trees xs) s ≡ entry_trees (own session_of xs s)
own_map [] s = refl
own_map (e ∷ xs) s = own_with (e.session == s) e (own session_of xs s) (own (λ (t : EntryTree). t.session) (entry_trees xs) s) (sym (own_map xs s))

pub own_trees : (pass : PassValue Entry Head) → own_in pass ≡ entry_trees (own session_of (met_seen pass) pass.session)
own_trees pass =
    ap (λ (es : List EntryTree). own (λ (e : EntryTree). e.session) es pass.session) (take-map entry_tree (last_met pass.trail) pass.seen) ∙ own_map (met_seen pass) pass.session
