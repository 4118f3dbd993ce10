-- The law of verdicts that last: an entry that touches neither region of a case leaves what its verdict rests on.
use Rattle.std.proofs.Common.{◌≡◌, ◌<◌, ◌+◌, ◌⊎◌, ◌||◌, ◌&&◌, inl, inr, ℕ, zero, suc, Bool, true, false, nat_eq, List, [], ◌∷◌, ◌++◌, length, filter, is_none, Option, Some, None, unwrap_or, refl, sym, ap, ◌∙◌, subst, arith, append_assoc, append-nil, length-append}
use Rattle.std.specs.List.{Contains, slice_get, find, list_any}
use Rattle.std.specs.Option.{option_map, option_and_then}
use Rattle.std.specs.Cmp.{unsigned_Decides}
use Rattle.std.proofs.lemmas.List.Folds.{list_any-append}
use Rattle.nal_term.specs.Trees.{FormulaTree, says}
use Rattle.nal_term.specs.TreeKeys.{same_formulas}
use Rattle.proof_lines.specs.Lines.{LineTree}
use Rattle.nal_rules.specs.Faults.{formulas_where, is_label}
use Rattle.nal_rules.specs.declared.verdicts.Verdict.{Verdict}
use Rattle.object_table.specs.Objects.{number_of}
use Rattle.goal_store.specs.GoalRows.{GoalRow, goal_of, is_goal}
use Rattle.proof_store.specs.Cases.{CaseRow, is_case}
use Rattle.label_store.specs.LabelRows.{LabelRow, has_number, holder_of, is_held}
use Rattle.policy_history.specs.declared.heads.Head.{Head}
use Rattle.policy_history.specs.declared.events.Refusal.TheVariants.{NotHolder, NoSuchObject}
use Rattle.policy_history.specs.Events.{EventTree, EntryTree, say, transfer, delete, new_object, set_goal, clear_goal, set_proof, clear_proof, bind, unbind, numbered}
use Rattle.policy_history.specs.Judged.{IsRight, IsRightIn, IsUntouched, case_of_row, object_region, proof_for, region_in, store_region}
use Rattle.policy_history.specs.Machine.{accepted, after, is_another, refusal_of, replay}
use Rattle.policy_history.specs.States.{State, empty_state, object_or_0}
use Rattle.policy_history.proofs.Acceptance.{none_applies}
use Rattle.policy_history.proofs.Changed.{some_where}
use Rattle.policy_history.proofs.Lasting.{lasting_kept}
use Rattle.policy_history.proofs.RowLaws.{any_alter, any_take_out, find_alter, find_is, find_put, find_take_out, row_alter, row_put}
use Rattle.policy_history.proofs.Soundness.{after_cases, replay_more}

-- what the verdict of a row rests on stays from one state to another
pub record Keeps (s t : State) (k : ℕ) (row : CaseRow) : Type 0 where
  pub goal : goal_of t.goals row.1 row.2 ≡ goal_of s.goals row.1 row.2
  pub proof : proof_for t row.0 row.1 row.2 ≡ proof_for s row.0 row.1 row.2
  pub stands : slice_get s.cases k ≡ Some row → slice_get t.cases k ≡ Some row
  pub labels : (f : FormulaTree) → is_held s.labels row.0 f ≡ true → is_held t.labels row.0 f ≡ true

-- more of a list passes a weaker test
filtered : {X : Type 0} (p q : X → Bool) → ((x : X) → p x ≡ true → q x ≡ true) → (xs : List X) (f : X) → Contains (filter p xs) f → Contains (filter q xs) f
filtered p q weaker [] f there = there
filtered p q weaker (x ∷ xs) f there = of (p x) refl (filtered p q weaker xs f)
  where
    more : {X : Type 0} (x : X) (ys : List X) (f : X) → Contains ys f → Contains (x ∷ ys) f
    more x ys f (i, within, read) = (suc i, omega (arith, within), read)

    skip : (b : Bool) → q x ≡ b → Contains (filter q xs) f → Contains (filter q (x ∷ xs)) f
    skip true e later = rw e (more x (filter q xs) f later)
    skip false e later = rw e later

    first : Contains (x ∷ filter p xs) f → (Contains (filter p xs) f → Contains (filter q xs) f) → q x ≡ true → Contains (filter q (x ∷ xs)) f
    first (zero, within, read) later e = rw e (zero, omega arith, read)
    first (suc i, within, read) later e = rw e (more x (filter q xs) f (later (i, omega (arith, within), read)))

    of : (b : Bool) → p x ≡ b → (Contains (filter p xs) f → Contains (filter q xs) f) → Contains (filter q (x ∷ xs)) f
    of true e later = first (rw e at there) later (weaker x e)
    of false e later = skip (q x) refl (later (rw e at there))

-- so the verdict is right there too
pub keeps_right : (h : Head) (s t : State) (k : ℕ) (verdict : Verdict) (r : IsRightIn h s k verdict) → Keeps s t k r.row → (r' : IsRightIn h t k verdict) × (r'.row ≡ r.row)
keeps_right h s t k verdict r kept =
    let row = r.row in
    let c = case_of_row h s row in
    let d = case_of_row h t row in
    let goal : c.goal ≡ d.goal = rw kept.goal refl in
    let proof : c.proof ≡ d.proof = sym kept.proof in
    let labels : (f : FormulaTree) → Contains c.labels f → Contains d.labels f =
    λ f there. rw kept.proof (filtered (is_held s.labels row.0) (is_held t.labels row.0) kept.labels (formulas_where is_label (unwrap_or (proof_for s row.0 row.1 row.2) [])) f there) in
    let both = lasting_kept c d goal proof labels verdict r.lasting r.told in
    (record { row = row; stands = kept.stands r.stands; lasting = both.0; told = both.1 }, refl)

-- ---- What one accepted entry leaves

not_same : (m n : ℕ) → (n ≡ m → ⊥) → nat_eq m n ≡ false
not_same m n apart = of (nat_eq m n) refl
  where
    of : (b : Bool) → nat_eq m n ≡ b → nat_eq m n ≡ false
    of true e = absurd (apart (sym ((unsigned_Decides m n).0 e)))
    of false e = e

and_right : (a b : Bool) → (a && b) ≡ true → b ≡ true
and_right true b e = e
and_right false b e = absurd (cc e)

second_fails : (a b : Bool) → b ≡ false → (a && b) ≡ false
second_fails true b e = e
second_fails false b e = refl

first_fails : (a b : Bool) → a ≡ false → (a && b) ≡ false
first_fails a b e = rw e refl

-- a row of another object
module _ (op op' : List ℕ) (o n : ℕ) (apart : n ≡ o → ⊥) where
  goal_apart : (x : GoalRow) → is_goal op' n x ≡ true → is_goal op o x ≡ false
  goal_apart x e =
      let n_is : n ≡ x.1 = (unsigned_Decides n x.1).0 (and_right _ (nat_eq n x.1) e) in
      second_fails _ (nat_eq o x.1) (not_same o x.1 (λ same. apart (n_is ∙ same)))

  goal_new : (g : FormulaTree) → is_goal op o (op', n, g) ≡ false
  goal_new g = second_fails _ (nat_eq o n) (not_same o n apart)

module _ (p p' : ℕ) (op op' : List ℕ) (o n : ℕ) (apart : n ≡ o → ⊥) where
  case_apart : (x : CaseRow) → is_case p' op' n x ≡ true → is_case p op o x ≡ false
  case_apart x e =
      let n_is : n ≡ x.2 = (unsigned_Decides n x.2).0 (and_right _ (nat_eq n x.2) e) in
      second_fails _ (nat_eq o x.2) (not_same o x.2 (λ same. apart (n_is ∙ same)))

  case_new : (ls : Option (List LineTree)) → is_case p op o (p', op', n, ls) ≡ false
  case_new ls = second_fails _ (nat_eq o n) (not_same o n apart)

  row_apart : (row : CaseRow) → row.2 ≡ o → is_case p' op' n row ≡ false
  row_apart row is = second_fails _ (nat_eq n row.2) (not_same n row.2 (λ same. apart (sym same ∙ is)))

abbrev proof_in : CaseRow → Option (List LineTree)
proof_in row = row.3

proof_found : (s : State) (p : ℕ) (op : List ℕ) (o : ℕ) → proof_for s p op o ≡ option_and_then proof_in (find (is_case p op o) s.cases)
proof_found s p op o = find_is (is_case p op o) proof_in s.cases

-- the region of an object that is there, and is not the row's
module _ (s : State) (object : List ℕ) (o : ℕ) (known : is_none (number_of s.objects object) ≡ false) (far : option_map object_region (number_of s.objects object) ≡ Some (object_region o) → ⊥) where
  object_apart : object_or_0 s object ≡ o → ⊥
  object_apart same =
      let there = some_where (number_of s.objects object) known in
      let n_is : object_or_0 s object ≡ there.0 = ap (λ (r : Option ℕ). unwrap_or r 0) there.1 in
      far (ap (option_map object_region) there.1 ∙ ap (λ n. Some (object_region n)) (sym n_is ∙ same))

-- a label that is another's
module _ (rows : List LabelRow) (k p q : ℕ) (f : FormulaTree) (apart : p ≡ q → ⊥) (own : is_another (holder_of rows k) p ≡ false) where
  others_label : (x : LabelRow) → find (has_number k) rows ≡ Some x → (nat_eq q x.1 && same_formulas f x.2) ≡ false
  others_label x found =
      let holder : holder_of rows k ≡ Some x.1 = ap (option_map (λ (row : LabelRow). row.1)) found in
      let mine : is_another (Some x.1) p ≡ false = rw holder at own in
      first_fails (nat_eq q x.1) (same_formulas f x.2) (not_same q x.1 (λ same. apart (sym (holder_is (nat_eq x.1 p) refl mine) ∙ same)))
    where
      holder_is : (b : Bool) → nat_eq x.1 p ≡ b → is_another (Some x.1) p ≡ false → x.1 ≡ p
      holder_is true e mine = (unsigned_Decides x.1 p).0 e
      holder_is false e mine = absurd (cc (rw e at mine))

module _ (h : Head) (s : State) (session p k : ℕ) (row : CaseRow) where
  abbrev Leaves : EventTree → Type 0
  Leaves e = refusal_of h s session p e ≡ None → (region_in s p e ≡ Some (object_region row.2) → ⊥) → (region_in s p e ≡ Some (store_region row.0) → ⊥) → Keeps s (accepted h s session p e) k row

  store_apart : (Some (store_region p) ≡ Some (store_region row.0) → ⊥) → p ≡ row.0 → ⊥
  store_apart far same = far (ap (λ n. Some (store_region n)) same)

  pub leaves : (e : EventTree) → Leaves e
  leaves (say (Some t) (Some f)) free far other = record {
    goal = refl;
    proof = refl;
    stands = λ at. at;
    labels = λ g held.
        let test : LabelRow → Bool = λ (x : LabelRow). nat_eq row.0 x.1 && same_formulas g x.2 in
        list_any-append test s.labels ((s.entries + 1, p, says t f) ∷ []) ∙ ap (λ b. b || list_any test ((s.entries + 1, p, says t f) ∷ [])) held;
  }
  leaves (say None f) free far other = record { goal = refl; proof = refl; stands = λ at. at; labels = λ f held. held }
  leaves (say (Some t) None) free far other = record { goal = refl; proof = refl; stands = λ at. at; labels = λ f held. held }
  leaves (transfer n to) free far other = record {
    goal = refl;
    proof = refl;
    stands = λ at. at;
    labels = λ g held. any_alter (λ (x : LabelRow). nat_eq row.0 x.1 && same_formulas g x.2) (has_number n) (λ (x : LabelRow). (x.0, unwrap_or (numbered h.principals to) p, x.2)) s.labels
        (others_label s.labels n p row.0 g (store_apart other) (none_applies h s session p (transfer n to) free NotHolder)) held;
  }
  leaves (delete n) free far other = record {
    goal = refl;
    proof = refl;
    stands = λ at. at;
    labels = λ g held. any_take_out (λ (x : LabelRow). nat_eq row.0 x.1 && same_formulas g x.2) (has_number n) s.labels
        (others_label s.labels n p row.0 g (store_apart other) (none_applies h s session p (delete n) free NotHolder)) held;
  }
  leaves (new_object x) free far other = record { goal = refl; proof = refl; stands = λ at. at; labels = λ f held. held }
  leaves (set_goal op object (Some g)) free far other =
      let n = object_or_0 s object in
      let apart = object_apart s object row.2 (none_applies h s session p (set_goal op object (Some g)) free NoSuchObject) far in
      record {
        goal = ap (option_map (λ (x : GoalRow). x.2)) (find_put (is_goal row.1 row.2) (is_goal op n) (op, n, g) s.goals (goal_new row.1 op row.2 n apart g) (goal_apart row.1 op row.2 n apart));
        proof = refl;
        stands = λ at. at;
        labels = λ f held. held;
      }
  leaves (set_goal op object None) free far other = record { goal = refl; proof = refl; stands = λ at. at; labels = λ f held. held }
  leaves (clear_goal op object) free far other =
      let n = object_or_0 s object in
      let apart = object_apart s object row.2 (none_applies h s session p (clear_goal op object) free NoSuchObject) far in
      record {
        goal = ap (option_map (λ (x : GoalRow). x.2)) (find_take_out (is_goal row.1 row.2) (is_goal op n) s.goals (goal_apart row.1 op row.2 n apart));
        proof = refl;
        stands = λ at. at;
        labels = λ f held. held;
      }
  leaves (set_proof op object (Some ls)) free far other =
      let n = object_or_0 s object in
      let apart = object_apart s object row.2 (none_applies h s session p (set_proof op object (Some ls)) free NoSuchObject) far in
      let t = accepted h s session p (set_proof op object (Some ls)) in
      record {
        goal = refl;
        proof = proof_found t row.0 row.1 row.2
            ∙ ap (option_and_then proof_in) (find_put (is_case row.0 row.1 row.2) (is_case p op n) (p, op, n, Some ls) s.cases (case_new row.0 p row.1 op row.2 n apart (Some ls)) (case_apart row.0 p row.1 op row.2 n apart))
            ∙ sym (proof_found s row.0 row.1 row.2);
        stands = λ at. row_put (is_case p op n) (p, op, n, Some ls) s.cases k row at (row_apart row.0 p row.1 op row.2 n apart row refl);
        labels = λ f held. held;
      }
  leaves (set_proof op object None) free far other = record { goal = refl; proof = refl; stands = λ at. at; labels = λ f held. held }
  leaves (clear_proof op object) free far other =
      let n = object_or_0 s object in
      let apart = object_apart s object row.2 (none_applies h s session p (clear_proof op object) free NoSuchObject) far in
      let t = accepted h s session p (clear_proof op object) in
      let bare : CaseRow → CaseRow = λ (x : CaseRow). (x.0, x.1, x.2, None) in
      record {
        goal = refl;
        proof = proof_found t row.0 row.1 row.2
            ∙ ap (option_and_then proof_in) (find_alter (is_case row.0 row.1 row.2) (is_case p op n) bare s.cases (case_apart row.0 p row.1 op row.2 n apart) (case_apart row.0 p row.1 op row.2 n apart))
            ∙ sym (proof_found s row.0 row.1 row.2);
        stands = λ at. row_alter (is_case p op n) bare s.cases k row at (row_apart row.0 p row.1 op row.2 n apart row refl);
        labels = λ f held. held;
      }
  leaves (bind (Some t) port) free far other = record { goal = refl; proof = refl; stands = λ at. at; labels = λ f held. held }
  leaves (bind None port) free far other = record { goal = refl; proof = refl; stands = λ at. at; labels = λ f held. held }
  leaves (unbind (Some t)) free far other = record { goal = refl; proof = refl; stands = λ at. at; labels = λ f held. held }
  leaves (unbind None) free far other = record { goal = refl; proof = refl; stands = λ at. at; labels = λ f held. held }

-- ---- Lists of entries

right_after : (h : Head) (s : State) (e : EntryTree) (k : ℕ) (verdict : Verdict) (r : IsRightIn h s k verdict)
    → (region_in s e.principal e.event ≡ Some (object_region r.row.2) → ⊥) → (region_in s e.principal e.event ≡ Some (store_region r.row.0) → ⊥)
    → (r' : IsRightIn h (after h s e) k verdict) × (r'.row ≡ r.row)
right_after h s e k verdict r far other = of (after_cases h s e)
  where
    of : (after h s e ≡ s) ⊎ ((e.principal < length h.principals) × (refusal_of h s e.session e.principal e.event ≡ None) × (after h s e ≡ accepted h s e.session e.principal e.event))
        → (r' : IsRightIn h (after h s e) k verdict) × (r'.row ≡ r.row)
    of (inl same) = subst (λ t. (r' : IsRightIn h t k verdict) × (r'.row ≡ r.row)) (sym same) (r, refl)
    of (inr (below, free, same)) =
        subst (λ t. (r' : IsRightIn h t k verdict) × (r'.row ≡ r.row)) (sym same)
        (keeps_right h s (accepted h s e.session e.principal e.event) k verdict r (leaves h s e.session e.principal k r.row e.event free far other))

pub right_stays : (h : Head) (es rest : List EntryTree) (k : ℕ) (verdict : Verdict) (r : IsRight h es k verdict)
    → IsUntouched h (es ++ rest) (length es) (object_region r.row.2) → IsUntouched h (es ++ rest) (length es) (store_region r.row.0) → IsRight h (es ++ rest) k verdict
right_stays h es [] k verdict r far other = subst (λ xs. IsRight h xs k verdict) (sym (append-nil es)) r
right_stays h es (e ∷ rest) k verdict r far other =
    let once = right_after h (replay h es) e k verdict r (far es e rest refl (omega arith)) (other es e rest refl (omega arith)) in
    let moved : (r' : IsRightIn h (replay h (es ++ e ∷ [])) k verdict) × (r'.row ≡ r.row) =
    subst (λ t. (r' : IsRightIn h t k verdict) × (r'.row ≡ r.row)) (sym (replay_more h (empty_state h) es e)) once in
    let assoc : (es ++ e ∷ []) ++ rest ≡ es ++ e ∷ rest = append_assoc es (e ∷ []) rest in
    let longer = length-append es (e ∷ []) in
    let later_far : IsUntouched h ((es ++ e ∷ []) ++ rest) (length (es ++ e ∷ [])) (object_region moved.0.row.2) =
    λ before x later is from touch. far before x later (sym assoc ∙ is) (omega (arith, longer, from)) (touch ∙ ap (λ (row : CaseRow). Some (object_region row.2)) moved.1) in
    let later_other : IsUntouched h ((es ++ e ∷ []) ++ rest) (length (es ++ e ∷ [])) (store_region moved.0.row.0) =
    λ before x later is from touch. other before x later (sym assoc ∙ is) (omega (arith, longer, from)) (touch ∙ ap (λ (row : CaseRow). Some (store_region row.0)) moved.1) in
    subst (λ xs. IsRight h xs k verdict) assoc (right_stays h (es ++ e ∷ []) rest k verdict moved.0 later_far later_other)
