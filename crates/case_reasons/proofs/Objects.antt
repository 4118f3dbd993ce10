-- Which entry made an object.
use Rattle.std.proofs.Common.{◌≡◌, ◌<◌, ◌≤◌, ◌+◌, ◌⊎◌, inl, inr, ⊎_elim, ℕ, zero, suc, Bool, true, false, List, [], ◌∷◌, ◌++◌, length, is_some, is_none, nat_eq, unwrap_or, Option, Some, None, refl, sym, ap, ◌∙◌, subst, arith}
use Rattle.std.specs.List.{slice_get, position}
use Rattle.std.specs.Cmp.{unsigned_Decides}
use Rattle.std.specs.Option.{option_map}
use Rattle.std.proofs.lemmas.List.{map-append, length-map}
use Rattle.std.proofs.lemmas.List.Quantifiers.{position-Some}
use Rattle.std.proofs.lemmas.Bool.{cases_lt}
use Rattle.std.proofs.lemmas.Option.{slice_get_within}
use Rattle.nal_term.specs.TreeKeys.{same_bytes, same_bytes-Decides}
use Rattle.object_table.specs.Objects.{ObjectRow, names_of, number_of, owner_of}
use Rattle.policy_history.specs.declared.heads.Head.{Head}
use Rattle.policy_history.specs.declared.events.Refusal.TheVariants.{NameTaken}
use Rattle.policy_history.specs.Events.{EventTree, EntryTree, say, transfer, delete, new_object, set_goal, clear_goal, set_proof, clear_proof, bind, unbind}
use Rattle.policy_history.specs.Machine.{IsAccepted, IsLegal, accepted, refusal_of, replay}
use Rattle.policy_history.specs.States.{State, object_or_0}
use Rattle.policy_history.proofs.ForCallers.{accepted_at, none_applies, some_where}
use Rattle.policy_history.proofs.RowLaws.{place_append}
use Rattle.policy_history.proofs.RowLists.{place_here, place_there}
use Rattle.label_holdings.specs.Entries.{entry_at}
use Rattle.case_reasons.specs.Origins.{makes}
use Rattle.case_reasons.proofs.Tracking.{at, kept_until, next, number_stays, stays_behind, whole}

some_same : {A : Type 0} {p q : A} → Some p ≡ Some q → p ≡ q
some_same s = cc

-- ---- Lists

module _ {X : Type 0} where
  read_more : (xs ys : List X) (k : ℕ) (x : X) → slice_get xs k ≡ Some x → slice_get (xs ++ ys) k ≡ Some x
  read_more [] ys k x at = absurd (cc at)
  read_more (y ∷ xs) ys zero x at = at
  read_more (y ∷ xs) ys (suc k) x at = read_more xs ys k x at

  read_new : (xs : List X) (y : X) → slice_get (xs ++ y ∷ []) (length xs) ≡ Some y
  read_new [] y = refl
  read_new (x ∷ xs) y = read_new xs y

  -- the place of what is added last: where it passes and nothing did before, and where it fails
  place_new : (t : X → Bool) (xs : List X) (y : X) → position t xs ≡ None → t y ≡ true → position t (xs ++ y ∷ []) ≡ Some (length xs)
  place_new t [] y none e = place_here t y [] e
  place_new t (x ∷ xs) y none e = of (t x) refl (place_new t xs y)
    where
      of : (b : Bool) → t x ≡ b → (position t xs ≡ None → t y ≡ true → position t (xs ++ y ∷ []) ≡ Some (length xs)) → position t (x ∷ (xs ++ y ∷ [])) ≡ Some (suc (length xs))
      of true s rest = absurd (cc (place_here t x xs s, none))
      of false s rest =
          let n : length xs + 1 ≡ suc (length xs) = omega arith in
          place_there t x (xs ++ y ∷ []) s ∙ ap (option_map (λ k. k + 1)) (rest (no_place (position t xs) (sym (place_there t x xs s) ∙ none)) e) ∙ ap Some n
        where
          no_place : (o : Option ℕ) → option_map (λ k. k + 1) o ≡ None → o ≡ None
          no_place None q = refl
          no_place (Some k) q = absurd (cc q)

  place_other : (t : X → Bool) (xs : List X) (y : X) → t y ≡ false → position t (xs ++ y ∷ []) ≡ position t xs
  place_other t [] y e = place_there t y [] e
  place_other t (x ∷ xs) y e = of (t x) refl (place_other t xs y e)
    where
      of : (b : Bool) → t x ≡ b → position t (xs ++ y ∷ []) ≡ position t xs → position t (x ∷ (xs ++ y ∷ [])) ≡ position t (x ∷ xs)
      of true s rest = place_here t x (xs ++ y ∷ []) s ∙ sym (place_here t x xs s)
      of false s rest = place_there t x (xs ++ y ∷ []) s ∙ ap (option_map (λ k. k + 1)) rest ∙ sym (place_there t x xs s)

-- ---- What an entry does to the objects

-- an accepted event leaves the objects, or makes one
made_or_left : (h : Head) (s : State) (session p : ℕ) (e : EventTree)
    → ((accepted h s session p e).objects ≡ s.objects) ⊎ ((x : List ℕ) × (e ≡ new_object x) × ((accepted h s session p e).objects ≡ s.objects ++ (x, p) ∷ []))
made_or_left h s session p (new_object x) = inr (x, refl, refl)
made_or_left h s session p (say (Some t) (Some f)) = inl refl
made_or_left h s session p (say None f) = inl refl
made_or_left h s session p (say (Some t) None) = inl refl
made_or_left h s session p (transfer n to) = inl refl
made_or_left h s session p (delete n) = inl refl
made_or_left h s session p (set_goal o x (Some g)) = inl refl
made_or_left h s session p (set_goal o x None) = inl refl
made_or_left h s session p (clear_goal o x) = inl refl
made_or_left h s session p (set_proof o x (Some ls)) = inl refl
made_or_left h s session p (set_proof o x None) = inl refl
made_or_left h s session p (clear_proof o x) = inl refl
made_or_left h s session p (bind (Some t) port) = inl refl
made_or_left h s session p (bind None port) = inl refl
made_or_left h s session p (unbind (Some t)) = inl refl
made_or_left h s session p (unbind None) = inl refl

-- the event is what makes the object
makes_event : (object : List ℕ) (e : EventTree) (entry : EntryTree) → entry.event ≡ e → makes object entry ≡ true → e ≡ new_object object
makes_event object (new_object x) entry is made = let same : same_bytes object x ≡ true = rw is at made in ap new_object (sym ((same_bytes-Decides object x).0 same))
makes_event object (say t f) entry is made = absurd (cc (rw is at made))
makes_event object (transfer n to) entry is made = absurd (cc (rw is at made))
makes_event object (delete n) entry is made = absurd (cc (rw is at made))
makes_event object (set_goal o x g) entry is made = absurd (cc (rw is at made))
makes_event object (clear_goal o x) entry is made = absurd (cc (rw is at made))
makes_event object (set_proof o x ls) entry is made = absurd (cc (rw is at made))
makes_event object (clear_proof o x) entry is made = absurd (cc (rw is at made))
makes_event object (bind t port) entry is made = absurd (cc (rw is at made))
makes_event object (unbind t) entry is made = absurd (cc (rw is at made))

-- one number is of one object
pub one_name : (rows : List ObjectRow) (x y : List ℕ) (k : ℕ) → number_of rows x ≡ Some k → number_of rows y ≡ Some k → x ≡ y
one_name rows x y k a b =
    let p = position-Some (same_bytes x) (names_of rows) k [] a in
    let q = position-Some (same_bytes y) (names_of rows) k [] b in
    (same_bytes-Decides x _).0 p.1 ∙ sym ((same_bytes-Decides y _).0 q.1)

names_more : (rows : List ObjectRow) (x : List ℕ) (p : ℕ) → names_of (rows ++ (x, p) ∷ []) ≡ names_of rows ++ x ∷ []
names_more rows x p = map-append (λ (r : ObjectRow). r.0) rows ((x, p) ∷ [])

module _ (h : Head) (es : List EntryTree) (legal : IsLegal h es) (object : List ℕ) where
  -- an object that is there stays so, and a row too
  there_step : (k : ℕ) (s : State) (e : EntryTree) → IsAccepted h s e → number_of s.objects object ≡ Some k → number_of (accepted h s e.session e.principal e.event).objects object ≡ Some k
  there_step k s e free there = of (made_or_left h s e.session e.principal e.event)
    where
      of : ((accepted h s e.session e.principal e.event).objects ≡ s.objects) ⊎ ((x : List ℕ) × (e.event ≡ new_object x) × ((accepted h s e.session e.principal e.event).objects ≡ s.objects ++ (x, e.principal) ∷ []))
          → number_of (accepted h s e.session e.principal e.event).objects object ≡ Some k
      of (inl same) = ap (λ (rows : List ObjectRow). number_of rows object) same ∙ there
      of (inr (x, is, more)) =
          ap (λ (rows : List ObjectRow). number_of rows object) more ∙ ap (position (same_bytes object)) (names_more s.objects x e.principal) ∙ place_append (same_bytes object) (names_of s.objects) (x ∷ []) k there

  row_step : (k : ℕ) (row : ObjectRow) (s : State) (e : EntryTree) → IsAccepted h s e → slice_get s.objects k ≡ Some row → slice_get (accepted h s e.session e.principal e.event).objects k ≡ Some row
  row_step k row s e free there = of (made_or_left h s e.session e.principal e.event)
    where
      of : ((accepted h s e.session e.principal e.event).objects ≡ s.objects) ⊎ ((x : List ℕ) × (e.event ≡ new_object x) × ((accepted h s e.session e.principal e.event).objects ≡ s.objects ++ (x, e.principal) ∷ []))
          → slice_get (accepted h s e.session e.principal e.event).objects k ≡ Some row
      of (inl same) = ap (λ (rows : List ObjectRow). slice_get rows k) same ∙ there
      of (inr (x, is, more)) = ap (λ (rows : List ObjectRow). slice_get rows k) more ∙ read_more s.objects ((x, e.principal) ∷ []) k row there

  -- where no entry makes it, there is none
  pub none_made : ((m : ℕ) (e : EntryTree) → entry_at es m ≡ Some e → makes object e ≡ false) → number_of (replay h es).objects object ≡ None
  none_made none = stays_behind h es legal (λ (s : State). number_of s.objects object) (makes object) stays 0 (omega arith) (λ m e below at. none m e at)
    where
      stays : (i : ℕ) (e : EntryTree) → slice_get es i ≡ Some e → makes object e ≡ false → number_of (accepted h (at h es i) e.session e.principal e.event).objects object ≡ number_of (at h es i).objects object
      stays i e here other = of (made_or_left h (at h es i) e.session e.principal e.event)
        where
          of : ((accepted h (at h es i) e.session e.principal e.event).objects ≡ (at h es i).objects)
              ⊎ ((x : List ℕ) × (e.event ≡ new_object x) × ((accepted h (at h es i) e.session e.principal e.event).objects ≡ (at h es i).objects ++ (x, e.principal) ∷ []))
              → number_of (accepted h (at h es i) e.session e.principal e.event).objects object ≡ number_of (at h es i).objects object
          of (inl same) = ap (λ (rows : List ObjectRow). number_of rows object) same
          of (inr (x, is, more)) =
              let apart : same_bytes object x ≡ false = rw is at other in
              ap (λ (rows : List ObjectRow). number_of rows object) more ∙ ap (position (same_bytes object)) (names_more (at h es i).objects x e.principal)
              ∙ place_other (same_bytes object) (names_of (at h es i).objects) x apart

  -- before an entry that makes it there is none
  free_before : (i : ℕ) (e : EntryTree) → slice_get es i ≡ Some e → makes object e ≡ true → number_of (at h es i).objects object ≡ None
  free_before i e here made =
      let event : e.event ≡ new_object object = makes_event object e.event e refl made in
      let free = accepted_at h es i e legal here in
      let untaken : is_some (number_of (at h es i).objects object) ≡ false =
      none_applies h (at h es i) e.session e.principal (new_object object) (subst (λ (v : EventTree). refusal_of h (at h es i) e.session e.principal v ≡ None) event free.1) NameTaken in
      no_some (number_of (at h es i).objects object) untaken
    where
      no_some : {A : Type 0} (o : Option A) → is_some o ≡ false → o ≡ None
      no_some None s = refl
      no_some (Some a) s = absurd (cc s)

  -- behind it, it has the next number, and its owner is who made it
  made_here : (i : ℕ) (e : EntryTree) → slice_get es i ≡ Some e → makes object e ≡ true
      → (k : ℕ) × (number_of (at h es (i + 1)).objects object ≡ Some k) × (slice_get (at h es (i + 1)).objects k ≡ Some (object, e.principal))
  made_here i e here made =
      let s = at h es i in
      let event : e.event ≡ new_object object = makes_event object e.event e refl made in
      let rows : (at h es (i + 1)).objects ≡ s.objects ++ (object, e.principal) ∷ [] =
      ap (λ (t : State). t.objects) (next h es legal i e here) ∙ ap (λ (v : EventTree). (accepted h s e.session e.principal v).objects) event in
      let number : number_of (at h es (i + 1)).objects object ≡ Some (length (names_of s.objects)) =
      ap (λ (r : List ObjectRow). number_of r object) rows ∙ ap (position (same_bytes object)) (names_more s.objects object e.principal)
      ∙ place_new (same_bytes object) (names_of s.objects) object (free_before i e here made) ((same_bytes-Decides object object).1 refl) in
      (length s.objects, number ∙ ap Some (length-map s.objects (λ (r : ObjectRow). r.0)), ap (λ (r : List ObjectRow). slice_get r (length s.objects)) rows ∙ read_new s.objects (object, e.principal))

  -- the owner of the object is who made it
  pub made_by : (n : ℕ) (e : EntryTree) → entry_at es n ≡ Some e → makes object e ≡ true → (k : ℕ) → number_of (replay h es).objects object ≡ Some k → owner_of (replay h es).objects k ≡ Some e.principal
  made_by zero e here made k there = absurd (cc here)
  made_by (suc i) e here made k there =
      let m = made_here i e here made in
      let within = slice_get_within es i e here in
      let number : number_of (replay h es).objects object ≡ Some m.0 =
      ap (λ (s : State). number_of s.objects object) (sym (whole h es legal)) ∙ kept_until h es legal (λ (s : State). number_of s.objects object ≡ Some m.0) (there_step m.0) (i + 1) (length es) (omega (arith, within)) (omega arith) m.1 in
      let row : slice_get (replay h es).objects m.0 ≡ Some (object, e.principal) =
      ap (λ (s : State). slice_get s.objects m.0) (sym (whole h es legal)) ∙ kept_until h es legal (λ (s : State). slice_get s.objects m.0 ≡ Some (object, e.principal)) (row_step m.0 (object, e.principal)) (i + 1) (length es) (omega (arith, within)) (omega arith) m.2 in
      let same : k ≡ m.0 = some_same (sym there ∙ number) in
      ap (λ (j : ℕ). owner_of (replay h es).objects j) same ∙ ap (option_map (λ (r : ObjectRow). r.1)) row

  -- no entry makes it behind another one
  not_later : (i j : ℕ) (e f : EntryTree) → slice_get es i ≡ Some e → slice_get es j ≡ Some f → makes object e ≡ true → makes object f ≡ true → ¬ i < j
  not_later i j e f here there made again before =
      let m = made_here i e here made in
      let within = slice_get_within es j f there in
      let number : number_of (at h es j).objects object ≡ Some m.0 =
      kept_until h es legal (λ (s : State). number_of s.objects object ≡ Some m.0) (there_step m.0) (i + 1) j (omega (arith, before)) (omega (arith, within)) m.1 in
      cc (sym number ∙ free_before j f there again)

  -- one entry makes it
  pub made_once : (m n : ℕ) (e f : EntryTree) → entry_at es m ≡ Some e → entry_at es n ≡ Some f → makes object e ≡ true → makes object f ≡ true → m ≡ n
  made_once zero n e f here there made again = absurd (cc here)
  made_once (suc i) zero e f here there made again = absurd (cc there)
  made_once (suc i) (suc j) e f here there made again =
      ⊎_elim (λ (before : i < j). absurd (not_later i j e f here there made again before)) (λ (other : j ≤ i).
      ⊎_elim (λ (behind : j < i). absurd (not_later j i f e there here again made behind)) (λ (same : i ≤ j). omega (arith, other, same)) (cases_lt j i)) (cases_lt i j)

module _ (h : Head) (es : List EntryTree) (legal : IsLegal h es) (object : List ℕ) (k : ℕ) (there : number_of (replay h es).objects object ≡ Some k) (i : ℕ) where
  -- an object that is known to an entry has the number that it has at the end
  known : (x : List ℕ) → is_none (number_of (at h es i).objects x) ≡ false → (j : ℕ) × (object_or_0 (at h es i) x ≡ j) × (number_of (replay h es).objects x ≡ Some j)
  known x some =
      let found = some_where (number_of (at h es i).objects x) some in
      (found.0, ap (λ (o : Option ℕ). unwrap_or o 0) found.1, number_stays h es legal i x found.0 found.1)

  pub number_here : is_none (number_of (at h es i).objects object) ≡ false → object_or_0 (at h es i) object ≡ k
  number_here some = let n = known object some in n.1 ∙ some_same (sym n.2 ∙ there)

  -- and no other object has its number
  pub named_so : (x : List ℕ) → is_none (number_of (at h es i).objects x) ≡ false → nat_eq k (object_or_0 (at h es i) x) ≡ true → object ≡ x
  named_so x some same =
      let n = known x some in
      let is : k ≡ n.0 = (unsigned_Decides k (object_or_0 (at h es i) x)).0 same ∙ n.1 in
      one_name (replay h es).objects object x n.0 (there ∙ ap Some is) n.2
