-- The entries that are kept from one place on, one entry further.
use Rattle.std.proofs.Common.{◌≡◌, ◌<◌, ◌+◌, ℕ, zero, suc, List, [], ◌∷◌, ◌++◌, Bool, true, false, length, drop, get_or, map, if◌then◌else◌, refl, sym, ap, ◌∙◌, subst, arith, append_assoc}
use Rattle.std.proofs.lemmas.List.{drop_more, length-map}
use Rattle.std.proofs.lemmas.List.Elements.{All-cons}
use Rattle.std.specs.List.{All}
use Rattle.policy_history.specs.declared.events.Entry.{Entry}
use Rattle.policy_history.specs.Events.{EntryTree, entry_tree}
use Rattle.policy_history.specs.Values.{entry_trees}
use Rattle.policy_compaction.specs.Kept.{Numbered, kept_from, matters}
use Rattle.policy_compaction.specs.Inner.Marking.{marks_from, marks_of}
use Rattle.policy_compaction.proofs.Counting.{length-marks}
use Rattle.policy_compaction.proofs.Marked.{drop_entries}

drop-marks : (n i : ℕ) (es : List EntryTree) → drop i (marks_from n es) ≡ marks_from (n + i) (drop i es)
drop-marks n zero es = ap (λ k. marks_from k es) (let p : n ≡ n + 0 = omega arith in p)
drop-marks n (suc i) [] = refl
drop-marks n (suc i) (e ∷ es) = drop-marks (n + 1) i es ∙ ap (λ k. marks_from k (drop i es)) (let p : n + 1 + i ≡ n + suc i = omega arith in p)

same_head : {X : Type 0} (x y : X) (xs ys : List X) → x ∷ xs ≡ y ∷ ys → x ≡ y
same_head x y xs ys e = cc

module _ (xs : List Entry) (i : ℕ) (x : Entry) (within : i < length xs) (read : x ≡ get_or xs i x) (marks : List Bool) (are : marks ≡ marks_of (entry_trees xs)) (d : Bool) where
  abbrev later : List EntryTree
  later = drop (i + 1) (entry_trees xs)

  marks_within : i < length marks
  marks_within = let long = ap length are ∙ length-marks 0 (entry_trees xs) in let all = length-map xs entry_tree in omega (arith, within, long, all)

  -- the mark says whether the entry matters
  mark_is : get_or marks i d ≡ matters (i + 1) (entry_tree x) later
  mark_is =
      let number : 0 + i + 1 ≡ i + 1 = omega arith in
      same_head _ _ _ _ (sym (drop_more marks i d marks_within) ∙ ap (drop i) are ∙ drop-marks 0 i (entry_trees xs) ∙ ap (marks_from (0 + i)) (drop_entries xs i x within read))
      ∙ ap (λ k. matters k (entry_tree x) later) number

  kept_next : kept_from i (drop i (entry_trees xs)) ≡ (if get_or marks i d then (i + 1, entry_tree x) ∷ kept_from (i + 1) later else kept_from (i + 1) later)
  kept_next = ap (kept_from i) (drop_entries xs i x within read) ∙ ap (λ b. if b then (i + 1, entry_tree x) ∷ kept_from (i + 1) later else kept_from (i + 1) later) (sym mark_is)

  pub kept_here : get_or marks i d ≡ true → kept_from i (drop i (entry_trees xs)) ≡ (i + 1, entry_tree x) ∷ kept_from (i + 1) later
  kept_here marked = kept_next ∙ ap (λ b. if b then (i + 1, entry_tree x) ∷ kept_from (i + 1) later else kept_from (i + 1) later) marked

  pub kept_later : get_or marks i d ≡ false → kept_from i (drop i (entry_trees xs)) ≡ kept_from (i + 1) later
  kept_later unmarked = kept_next ∙ ap (λ b. if b then (i + 1, entry_tree x) ∷ kept_from (i + 1) later else kept_from (i + 1) later) unmarked

  -- what is written of the entries from here on: a piece and then what is written of the later ones, or only this
  module _ (written : List Numbered → List ℕ) (text new whole : List ℕ) (before : text ++ written (kept_from i (drop i (entry_trees xs))) ≡ whole) where
    pub written_more : (piece : List ℕ) → get_or marks i d ≡ true → written ((i + 1, entry_tree x) ∷ kept_from (i + 1) later) ≡ piece ++ written (kept_from (i + 1) later) → new ≡ text ++ piece
        → new ++ written (kept_from (i + 1) later) ≡ whole
    written_more piece marked splits is =
        let rest = written (kept_from (i + 1) later) in
        ap (λ t. t ++ rest) is ∙ append_assoc text piece rest ∙ ap (λ r. text ++ r) (sym splits) ∙ ap (λ ks. text ++ written ks) (sym (kept_here marked)) ∙ before

    pub written_later : get_or marks i d ≡ false → new ≡ text → new ++ written (kept_from (i + 1) later) ≡ whole
    written_later unmarked is = ap (λ t. t ++ written (kept_from (i + 1) later)) is ∙ ap (λ ks. text ++ written ks) (sym (kept_later unmarked)) ∙ before

  -- what holds of each from here on, and so of all
  module _ (P : EntryTree → Type 0) (shown : Numbered → EntryTree) (All_of : Type 0) (before : All P (map shown (kept_from i (drop i (entry_trees xs)))) → All_of) where
    pub all_more : get_or marks i d ≡ true → P (shown (i + 1, entry_tree x)) → All P (map shown (kept_from (i + 1) later)) → All_of
    all_more marked here rest = before (subst (λ ks. All P (map shown ks)) (sym (kept_here marked)) (All-cons P (shown (i + 1, entry_tree x)) (map shown (kept_from (i + 1) later)) here rest))

    pub all_later : get_or marks i d ≡ false → All P (map shown (kept_from (i + 1) later)) → All_of
    all_later unmarked rest = before (subst (λ ks. All P (map shown ks)) (sym (kept_later unmarked)) rest)
