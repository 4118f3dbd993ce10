-- The nodes from which a step leads to a node.
use Rattle.std.proofs.Common.{◌≡◌, ◌<◌, ◌≤◌, ◌+◌, ◌⊎◌, inl, inr, ℕ, List, [], ◌∷◌, ◌++◌, Bool, true, false, IsTrue, ◌↔◌, Some, length, get_or, refl, sym, ap, ◌∙◌, subst, arith, length-append}
use Rattle.std.specs.Borrow.{Bor}
use Rattle.std.specs.List.{Contains, slice_get}
use Rattle.nal_term.specs.declared.terms.Term.{Term}
use Rattle.std.proofs.lemmas.Bool.{cases_lt}
use Rattle.std.proofs.lemmas.Option.{same_Some, slice_get_read, slice_get_within}
use Rattle.nal_term.specs.Trees.{TermTree, FormulaTree, says, subprincipal, term_tree}
use Rattle.chain_prover.specs.declared.facts.Facts.{Facts}
use Rattle.chain_prover.specs.declared.facts.Delegation.{Delegation}
use Rattle.chain_prover.specs.declared.paths.Node.{Node}
use Rattle.chain_prover.specs.Chains.{Step, delegation, restricted, part, next, IsStep}
use Rattle.chain_prover.specs.Inner.Paths.{AreDone, AreExpandedBelow, Extends, IsExpanded, IsExpandedWithin, IsReached, IsReachedWithin, grant_step, step_count}
use Rattle.chain_prover.specs.Inner.Numbers.{IsNumber}
use Rattle.chain_prover.specs.Inner.Knowing.{AreFacts, IsDelegated, IsRightDelegation, labels_of, statement_of, terms_of}
use Rattle.chain_prover.proofs.Growing.{below_after, expanded_after, extends_none, extends_twice, stands_after, was_there}
use Rattle.chain_prover.proofs.Granting.{delegation_label, restricted_label}
use Rattle.chain_prover.proofs.Numbering.{one_number, one_principal}
use Rattle.chain_prover.proofs.Places.{contained_got, got_right}

-- the node that was added last
pub last_reached : (nodes : List Node) (m : Node) (x : TermTree) (k : ℕ) → term_tree m.principal.now ≡ x → m.lines ≡ k → IsReachedWithin (nodes ++ m ∷ []) x k
last_reached nodes m x k principal lines = (k, omega arith, (length nodes + 0, m, got_right nodes (m ∷ []) 0 m refl, principal, lines))

-- the principal of which one is a subprincipal is the whole of it
pub one_whole : (t x y : TermTree) (n m : List ℕ) → t ≡ subprincipal x n → t ≡ subprincipal y m → x ≡ y
one_whole t x y n m e d = cc (e, d)

module _ (facts : Facts) (h : AreFacts facts) (nodes : List Node) (y : TermTree) (k : ℕ) where
  -- where all whom the principal lets speak have nodes, and the whole has one, each step is from one that has a node
  pub stepped : ((x : TermTree) (n : List ℕ) → y ≡ subprincipal x n → IsReachedWithin nodes x (k + 2)) → ((x : TermTree) → IsDelegated facts y x → IsReachedWithin nodes x (k + 3))
      → (x : TermTree) (s : Step) → IsStep (labels_of facts) (statement_of facts) x s → next x s ≡ y → IsReachedWithin nodes x (k + step_count s)
  stepped whole speakers x (part n) step is = whole x n (sym is)
  stepped whole speakers x (delegation z) step is =
      let l = delegation_label (labels_of facts) (statement_of facts) x z step in
      speakers x (subst (λ y. IsDelegated facts y x) is ((h.all l.place l.label l.at).grants x (delegation z) l.grants))
  stepped whole speakers x (restricted z names) step is =
      let l = restricted_label (labels_of facts) (statement_of facts) x z names step in
      speakers x (subst (λ y. IsDelegated facts y x) is ((h.all l.place l.label l.at).grants x (restricted z names) l.grants))

  -- a principal without a number lets nobody speak
  pub no_speakers : ((i : ℕ) → IsNumber (terms_of facts) i y → ⊥) → (x : TermTree) → IsDelegated facts y x → IsReachedWithin nodes x (k + 3)
  no_speakers none x (j, d, at, owner, speaker) = absurd (none d.owner owner)

  -- and one with a number those of the delegations with that number
  pub all_speakers : (i : ℕ) → IsNumber (terms_of facts) i y
      → ((j : ℕ) (d : Delegation) → slice_get facts.delegations.items j ≡ Some d → d.owner ≡ i → (x : TermTree) → IsNumber (terms_of facts) d.speaker x → IsReachedWithin nodes x (k + 3))
      → (x : TermTree) → IsDelegated facts y x → IsReachedWithin nodes x (k + 3)
  all_speakers i number reached x (j, d, at, owner, speaker) =
      reached j d at (one_number (terms_of facts) facts.principals.numbers facts.principals.sizes.items h.right.numbered d.owner i y owner number) x speaker

-- a step by a delegation that is known
pub delegation_step : (facts : Facts) (d : Delegation) → IsRightDelegation facts d → (i : ℕ) (y x : TermTree) → d.owner ≡ i → IsNumber (terms_of facts) i y → IsNumber (terms_of facts) d.speaker x
    → IsStep (labels_of facts) (statement_of facts) x (grant_step y d.scope)
delegation_step facts d r i y x is owner speaker =
    let same_owner : r.owner ≡ y = one_principal (terms_of facts) i r.owner y (subst (λ i. IsNumber (terms_of facts) i r.owner) is r.owner_is) owner in
    let same_speaker : r.speaker ≡ x = one_principal (terms_of facts) d.speaker r.speaker x r.speaker_is speaker in
    subst (λ x. IsStep (labels_of facts) (statement_of facts) x (grant_step y d.scope)) same_speaker
    (subst (λ y. IsStep (labels_of facts) (statement_of facts) r.speaker (grant_step y d.scope)) same_owner r.step)

-- who states the statement, by its mark
pub states_told : (facts : Facts) → AreFacts facts → (i : ℕ) (y : TermTree) → IsNumber (terms_of facts) i y → (b : Bool) → slice_get facts.stating.items i ≡ Some b
    → IsTrue b ↔ Contains (labels_of facts) (says y (statement_of facts))
states_told facts h i y number b read = (λ t. h.right.stating i y number (read ∙ ap (λ b. Some b) t), λ among. of (contained_got (labels_of facts) (says y (statement_of facts)) among))
  where
    of : ((k : ℕ) × (slice_get (labels_of facts) k ≡ Some (says y (statement_of facts)))) → IsTrue b
    of (k, at) =
        let (j, n, s) = (h.all k (says y (statement_of facts)) at).states y refl in
        let same : j ≡ i = one_number (terms_of facts) facts.principals.numbers facts.principals.sizes.items h.right.numbered j i y n number in
        same_Some b true (sym read ∙ subst (λ i. slice_get facts.stating.items i ≡ Some true) same s)

-- nobody without a number does
pub states_none : (facts : Facts) → AreFacts facts → (y : TermTree) → ((i : ℕ) → IsNumber (terms_of facts) i y → ⊥) → IsTrue false ↔ Contains (labels_of facts) (says y (statement_of facts))
states_none facts h y none = (λ t. absurd (cc t), λ among. of (contained_got (labels_of facts) (says y (statement_of facts)) among))
  where
    of : ((k : ℕ) × (slice_get (labels_of facts) k ≡ Some (says y (statement_of facts)))) → IsTrue false
    of (k, at) = let (j, n, s) = (h.all k (says y (statement_of facts)) at).states y refl in absurd (none j n)

-- a principal is expanded with more lines, too
pub expanded_more : (labels : List FormulaTree) (f : FormulaTree) (nodes : List Node) (y : TermTree) (n : ℕ) → IsExpandedWithin labels f nodes y n → IsExpanded labels f nodes y n
expanded_more labels f nodes y n (k, most, h) = record { unsaid = h.unsaid; stepped = λ x s step is. let w = h.stepped x s step is in (w.0, omega (arith, w.1, most), w.2) }

-- the nodes at places below this one that have n lines are expanded, and those with fewer
pub record IsExpanding (terms : List (Bor Term)) (labels : List FormulaTree) (f : FormulaTree) (before nodes : List Node) (marks : List Bool) (n place : ℕ) : Type 0 where
  pub extends : Extends terms labels f before nodes n
  pub done : AreDone terms labels f nodes marks n
  pub below : AreExpandedBelow labels f nodes n
  pub here : (i : ℕ) (m : Node) → i < place → slice_get nodes i ≡ Some m → m.lines ≡ n → IsExpanded labels f nodes (term_tree m.principal.now) n

module _ (terms : List (Bor Term)) (labels : List FormulaTree) (f : FormulaTree) (before : List Node) (n : ℕ) where
  -- what was read at a place of the nodes that were there at first
  pub node_at : (nodes : List Node) (place : ℕ) (m : Node) → Extends terms labels f before nodes n → place < length before → m ≡ get_or nodes place m → slice_get nodes place ≡ Some m
  node_at nodes place m e within read =
      let l = length-append before e.added in
      let s = ap length e.after_is in
      slice_get_read nodes (length nodes) place m refl (omega (arith, within, l, s)) read

  module _ (nodes : List Node) (marks : List Bool) (place : ℕ) (m : Node) (at : slice_get nodes place ≡ Some m) (h : IsExpanding terms labels f before nodes marks n place) where
    -- a node with other lines is passed over
    pub passed : (m.lines ≡ n → ⊥) → IsExpanding terms labels f before nodes marks n (place + 1)
    passed other = record { extends = h.extends; done = h.done; below = h.below; here = λ i o less there lines. of (cases_lt i place) i o less there lines refl }
      where
        of : {i' : ℕ} → (i' < place) ⊎ (place ≤ i') → (i : ℕ) (o : Node) → i < place + 1 → slice_get nodes i ≡ Some o → o.lines ≡ n → i ≡ i' → IsExpanded labels f nodes (term_tree o.principal.now) n
        of (inl less) i o within there lines same = h.here i o (omega (arith, less, same)) there lines
        of (inr most) i o within there lines same =
            let last : i ≡ place = omega (arith, most, within, same) in
            let e : o ≡ m = same_Some o m (sym there ∙ ap (λ i. slice_get nodes i) last ∙ at) in
            absurd (other (sym (ap (λ (o : Node). o.lines) e) ∙ lines))

    -- one with so many was expanded
    went_on : (after : List Node) (marks' : List Bool) → Extends terms labels f nodes after n → AreDone terms labels f after marks' n → IsExpanded labels f after (term_tree m.principal.now) n
        → IsExpanding terms labels f before after marks' n (place + 1)
    went_on after marks' e done expanded = record {
      extends = extends_twice terms labels f n before nodes after h.extends e;
      done = done;
      below = below_after terms labels f n nodes after e h.below;
      here = λ i o less there lines. of (cases_lt i place) i o less there lines refl;
    }
      where
        of : {i' : ℕ} → (i' < place) ⊎ (place ≤ i') → (i : ℕ) (o : Node) → i < place + 1 → slice_get after i ≡ Some o → o.lines ≡ n → i ≡ i' → IsExpanded labels f after (term_tree o.principal.now) n
        of (inl less) i o within there lines same =
            let was = was_there terms labels f n nodes after e i o there (omega (arith, lines)) in
            expanded_after terms labels f n nodes after e (term_tree o.principal.now) n (h.here i o (omega (arith, less, same)) was lines)
        of (inr most) i o within there lines same =
            let last : i ≡ place = omega (arith, most, within, same) in
            let was = stands_after terms labels f n nodes after e place m at in
            let e : m ≡ o = same_Some m o (sym was ∙ ap (λ i. slice_get after i) (sym last) ∙ there) in
            subst (λ (o : Node). IsExpanded labels f after (term_tree o.principal.now) n) e expanded

    -- one whose principal is expanded as well
    pub passed_again : m.lines ≡ n → IsExpandedWithin labels f nodes (term_tree m.principal.now) n → IsExpanding terms labels f before nodes marks n (place + 1)
    passed_again lines expanded =
        went_on nodes marks (extends_none terms labels f n nodes) h.done (expanded_more labels f nodes (term_tree m.principal.now) n expanded)

    pub gone_on : (after : List Node) (marks' : List Bool) → m.lines ≡ n → Extends terms labels f nodes after m.lines → AreDone terms labels f after marks' m.lines
        → IsExpanded labels f after (term_tree m.principal.now) m.lines → IsExpanding terms labels f before after marks' n (place + 1)
    gone_on after marks' lines e done expanded =
        went_on after marks' (subst (λ k. Extends terms labels f nodes after k) lines e) (subst (λ k. AreDone terms labels f after marks' k) lines done)
        (subst (λ k. IsExpanded labels f after (term_tree m.principal.now) k) lines expanded)

  -- at the end all with n lines are
  pub all_expanded : (nodes : List Node) (marks : List Bool) (place : ℕ) → length before ≤ place → IsExpanding terms labels f before nodes marks n place → AreExpandedBelow labels f nodes (n + 1)
  all_expanded nodes marks place all h y k reached less = of (cases_lt k n)
    where
      here : (k ≡ n) → IsReached nodes y k → IsExpanded labels f nodes y k
      here same (i, m, there, principal, lines) =
          let most : m.lines ≤ n = omega (arith, lines, same) in
          let within = slice_get_within before i m (was_there terms labels f n before nodes h.extends i m there most) in
          let e = h.here i m (omega (arith, within, all)) there (lines ∙ same) in
          subst (λ k. IsExpanded labels f nodes y k) (sym same) (subst (λ y. IsExpanded labels f nodes y n) principal e)

      of : (k < n) ⊎ (n ≤ k) → IsExpanded labels f nodes y k
      of (inl fewer) = h.below y k reached fewer
      of (inr most) = here (omega (arith, most, less)) reached

-- the marks stay right for more lines
pub done_more : (terms : List (Bor Term)) (labels : List FormulaTree) (f : FormulaTree) (nodes : List Node) (marks : List Bool) (n : ℕ) → AreDone terms labels f nodes marks n → AreDone terms labels f nodes marks (n + 1)
done_more terms labels f nodes marks n h = record { right = λ i y m s. let w = h.right i y m s in (w.0, omega (arith, w.1), w.2); count = h.count }
