-- What stays known while nodes are added.
use Rattle.std.proofs.Common.{◌≡◌, ◌<◌, ◌≤◌, ◌+◌, ◌⊎◌, inl, inr, ℕ, List, [], ◌∷◌, ◌++◌, Bool, true, false, Some, length, set, get_or, replicate, refl, sym, ap, ◌∙◌, subst, arith, length-append, append_assoc, append-nil}
use Rattle.std.specs.Borrow.{Bor}
use Rattle.std.specs.List.{slice_get}
use Rattle.nal_term.specs.declared.terms.Term.{Term}
use Rattle.std.proofs.lemmas.List.Elements.{All-nil, All-append, All-contains, All-push}
use Rattle.std.proofs.lemmas.List.{get_or-replicate, length-replicate, length-set}
use Rattle.std.proofs.lemmas.Option.{get_or_from_slice_get, same_Some, slice_get_within}
use Rattle.std.proofs.lemmas.Bool.{cases_lt}
use Rattle.nal_term.specs.Trees.{TermTree, FormulaTree, term_tree}
use Rattle.chain_prover.specs.declared.paths.Node.{Node}
use Rattle.chain_prover.specs.declared.paths.Lead.{Lead}
use Rattle.chain_prover.specs.declared.paths.Lead.TheVariants.{Goal, Grant, Part}
use Rattle.chain_prover.specs.Inner.Numbers.{IsNumber}
use Rattle.chain_prover.specs.Inner.Paths.{AreBelow, AreDone, AreExpandedBelow, AreKnown, AreLinked, Extends, IsExpanded, IsExpandedWithin, IsKnown, IsLead, IsReached, IsReachedWithin, step_count}
use Rattle.chain_prover.proofs.Numbering.{one_principal}
use Rattle.chain_prover.proofs.Places.{got_left, got_cases, got_one, got_set, got_contained}

reached_left : (before added : List Node) (x : TermTree) (k : ℕ) → IsReached before x k → IsReached (before ++ added) x k
reached_left before added x k (i, m, there, principal, lines) = (i, m, got_left before added i m there, principal, lines)

lead_left : (labels : List FormulaTree) (f : FormulaTree) (b : TermTree) (before added : List Node) (x : TermTree) (k : ℕ) (lead : Lead)
    → IsLead labels f b before x k lead → IsLead labels f b (before ++ added) x k lead
lead_left labels f b before added x k Goal h = h
lead_left labels f b before added x k (Grant scope j) (m, there, step, lines) = (m, got_left before added j m there, step, lines)
lead_left labels f b before added x k (Part j) (m, there, whole, lines) = (m, got_left before added j m there, whole, lines)

module _ (terms : List (Bor Term)) (labels : List FormulaTree) (f : FormulaTree) (n : ℕ) where
  pub extends_none : (nodes : List Node) → Extends terms labels f nodes nodes n
  extends_none nodes = record { added = []; after_is = sym (append-nil nodes); above = All-nil (λ (m : Node). n < m.lines); linked = λ b h. h; known = λ h. h }

  pub extends_twice : (before between after : List Node) → Extends terms labels f before between n → Extends terms labels f between after n → Extends terms labels f before after n
  extends_twice before between after d e = record {
    added = d.added ++ e.added;
    after_is = e.after_is ∙ ap (λ xs. xs ++ e.added) d.after_is ∙ append_assoc before d.added e.added;
    above = All-append (λ (m : Node). n < m.lines) d.added e.added d.above e.above;
    linked = λ b h. e.linked b (d.linked b h);
    known = λ h. e.known (d.known h);
  }

  -- one more node that leads on
  pub extends_push : (nodes : List Node) (m : Node) → n < m.lines → IsKnown terms m → ((b : TermTree) → IsLead labels f b nodes (term_tree m.principal.now) m.lines m.lead) → Extends terms labels f nodes (nodes ++ m ∷ []) n
  extends_push nodes m above is_known leads = record {
    added = m ∷ [];
    after_is = refl;
    above = All-push (λ (m : Node). n < m.lines) [] m (All-nil (λ (m : Node). n < m.lines)) above;
    linked = λ b h i o there. of b h i o (got_cases nodes (m ∷ []) i o there);
    known = λ h i o there. known h i o (got_cases nodes (m ∷ []) i o there);
  }
    where
      of : (b : TermTree) → AreLinked labels f b nodes → (i : ℕ) (o : Node) → (slice_get nodes i ≡ Some o) ⊎ ((j : ℕ) × (i ≡ length nodes + j) × (slice_get (m ∷ []) j ≡ Some o))
          → IsLead labels f b (nodes ++ m ∷ []) (term_tree o.principal.now) o.lines o.lead
      of b h i o (inl there) = lead_left labels f b nodes (m ∷ []) (term_tree o.principal.now) o.lines o.lead (h i o there)
      of b h i o (inr (j, at, there)) =
          subst (λ (o : Node). IsLead labels f b (nodes ++ m ∷ []) (term_tree o.principal.now) o.lines o.lead) (got_one m j o there)
          (lead_left labels f b nodes (m ∷ []) (term_tree m.principal.now) m.lines m.lead (leads b))

      known : AreKnown terms nodes → (i : ℕ) (o : Node) → (slice_get nodes i ≡ Some o) ⊎ ((j : ℕ) × (i ≡ length nodes + j) × (slice_get (m ∷ []) j ≡ Some o)) → IsKnown terms o
      known h i o (inl there) = h i o there
      known h i o (inr (j, at, there)) = subst (λ (o : Node). IsKnown terms o) (got_one m j o there) is_known

  module _ (before after : List Node) (e : Extends terms labels f before after n) where
    pub stands_after : (i : ℕ) (m : Node) → slice_get before i ≡ Some m → slice_get after i ≡ Some m
    stands_after i m there = rw e.after_is (got_left before e.added i m there)

    pub reached_after : (x : TermTree) (k : ℕ) → IsReached before x k → IsReached after x k
    reached_after x k h = rw e.after_is (reached_left before e.added x k h)

    pub within_after : (x : TermTree) (k : ℕ) → IsReachedWithin before x k → IsReachedWithin after x k
    within_after x k (j, most, h) = (j, most, reached_after x j h)

    pub expanded_after : (y : TermTree) (k : ℕ) → IsExpanded labels f before y k → IsExpanded labels f after y k
    expanded_after y k h = record { unsaid = h.unsaid; stepped = λ x s step is. within_after x (k + step_count s) (h.stepped x s step is) }

    -- a node with at most n lines was there before
    pub was_there : (i : ℕ) (m : Node) → slice_get after i ≡ Some m → m.lines ≤ n → slice_get before i ≡ Some m
    was_there i m there few = of (got_cases before e.added i m (rw e.after_is at there))
      where
        of : (slice_get before i ≡ Some m) ⊎ ((j : ℕ) × (i ≡ length before + j) × (slice_get e.added j ≡ Some m)) → slice_get before i ≡ Some m
        of (inl there) = there
        of (inr (j, at, there)) = let above = All-contains (λ (m : Node). n < m.lines) e.added m e.above (got_contained e.added j m there) in absurd (omega (arith, above, few))

    -- the nodes with fewer lines are expanded as before
    pub below_after : AreExpandedBelow labels f before n → AreExpandedBelow labels f after n
    below_after h y k (i, m, there, principal, lines) less = expanded_after y k (h y k (i, m, was_there i m there (omega (arith, lines, less)), principal, lines) less)

    -- nor do those before a place change
    pub passed_after : (place : ℕ) → AreBelow before place n → AreBelow after place (n + 1)
    passed_after place h = record {
      within = (let w = h.within in let l = length-append before e.added in let s = ap length e.after_is in omega (arith, w, l, s));
      fewer = λ i m less at. of i m less (got_cases before e.added i m (rw e.after_is at at));
    }
      where
        of : (i : ℕ) (m : Node) → i < place → (slice_get before i ≡ Some m) ⊎ ((j : ℕ) × (i ≡ length before + j) × (slice_get e.added j ≡ Some m)) → m.lines < n + 1
        of i m less (inl there) = let f = h.fewer i m less there in omega (arith, f)
        of i m less (inr (j, far, there)) = let w = h.within in absurd (omega (arith, less, far, w))

    pub done_after : (marks : List Bool) → AreDone terms labels f before marks n → AreDone terms labels f after marks n
    done_after marks h = record { right = λ i y m s. let w = h.right i y m s in (w.0, w.1, expanded_after y w.0 w.2); count = h.count }

  -- a principal that is expanded may be marked
  pub done_marked : (nodes : List Node) (marks : List Bool) (i : ℕ) (y : TermTree) → AreDone terms labels f nodes marks n → IsNumber terms i y → IsExpanded labels f nodes y n → AreDone terms labels f nodes (set marks i true) n
  done_marked nodes marks i y h number expanded = record { right = λ j x m s. of j x m (got_set marks i true j true s); count = length-set marks i true ∙ h.count }
    where
      of : (j : ℕ) (x : TermTree) → IsNumber terms j x → (j ≡ i) ⊎ (slice_get marks j ≡ Some true) → IsExpandedWithin labels f nodes x n
      of j x m (inl same) =
          subst (λ x. IsExpandedWithin labels f nodes x n) (one_principal terms i y x number (subst (λ j. IsNumber terms j x) same m)) (n, omega arith, expanded)
      of j x m (inr there) = h.right j x m there

-- the first node
pub known_first : (terms : List (Bor Term)) (m : Node) → IsKnown terms m → AreKnown terms (m ∷ [])
known_first terms m h i o at = subst (λ (o : Node). IsKnown terms o) (got_one m i o at) h

-- no mark is made at first
pub not_marked : (n i : ℕ) → slice_get (replicate n false) i ≡ Some true → ⊥
not_marked n i e =
    let w = slice_get_within (replicate n false) i true e in
    let l = length-replicate n false in
    let within : i < n = omega (arith, w, l) in
    let read : get_or (replicate n false) i false ≡ true = get_or_from_slice_get (replicate n false) i true false e in
    let f : get_or (replicate n false) i false ≡ false = get_or-replicate n i false false within in
    cc (read, f)

-- one more node with fewer lines
pub passed_more : (nodes : List Node) (n place : ℕ) (m : Node) → AreBelow nodes place n → slice_get nodes place ≡ Some m → m.lines < n → AreBelow nodes (place + 1) n
passed_more nodes n place m h at few = record {
  within = (let w = slice_get_within nodes place m at in omega (arith, w));
  fewer = λ i o less there. of (cases_lt i place) i o less there refl;
}
  where
    of : {i' : ℕ} → (i' < place) ⊎ (place ≤ i') → (i : ℕ) (o : Node) → i < place + 1 → slice_get nodes i ≡ Some o → i ≡ i' → o.lines < n
    of (inl less) i o within there same = h.fewer i o (omega (arith, less, same)) there
    of (inr most) i o within there same =
        let last : i ≡ place = omega (arith, most, within, same) in
        let e : m ≡ o = same_Some m o (sym at ∙ ap (λ i. slice_get nodes i) (sym last) ∙ there) in
        subst (λ (o : Node). o.lines < n) e few
