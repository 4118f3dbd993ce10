-- What a verdict rests on: that answers exist, where an ask line has its answer, and that each principal is bound.
use Rattle.std.proofs.Common.{◌≡◌, ◌<◌, ◌≤◌, ◌+◌, ◌-◌, ◌⊎◌, ◌↔◌, inl, inr, ℕ, zero, suc, List, [], ◌∷◌, length, filter, take, Bool, true, false, not, IsTrue, Contains, Option, Some, None, Result, Err, refl, sym, ap, subst, ◌∙◌, arith}
use Rattle.std.specs.List.{slice_get, flat_map}
use Rattle.std.proofs.lemmas.List.Elements.{Contains-append_left, Contains-append_right, Contains-append_cases}
use Rattle.std.specs.Prelude.{codes}
use Rattle.std.proofs.lemmas.List.{length-map}
use Rattle.nal_term.specs.Trees.{TermTree, FormulaTree, formula_tree, says}
use Rattle.nal_term.specs.Trees as tree
use Rattle.nal_subst.specs.Substitution.{formula_with}
use Rattle.proof_lines.specs.declared.rules.Rule.TheVariants.{Label, Ask}
use Rattle.proof_lines.specs.declared.lines.Line.{Line}
use Rattle.proof_lines.specs.Lines.{LineTree, line_tree, line_trees}
use Rattle.std.proofs.lemmas.Option.{slice_get_within}
use Rattle.nal_rules.specs.Faults.{is_ask, line_at, HasLowestFault, IsFaultless}
use Rattle.nal_rules.proofs.ForCallers.{same_formula}
use Rattle.nal_rules.specs.Verdicts.{HasCause, IsMissingLabel, IsUnbound, IsAnsweredNo, cause_number}
use Rattle.nal_rules.specs.declared.verdicts.Fault.{Fault}
use Rattle.nal_rules.specs.declared.verdicts.Cause.{Cause}
use Rattle.nal_rules.specs.declared.verdicts.Cause.TheVariants.{GoalUnset, NoProof, Line as FaultyLine, LabelMissing, NotBound, AuthorityNo}
use Rattle.nal_rules.specs.declared.verdicts.Verdict.{Verdict}
use Rattle.nal_rules.specs.declared.verdicts.Verdict.TheVariants.{Allowed, Denied}
use Rattle.proof_check.specs.declared.checks.Checked.{Checked}
use Rattle.proof_check.specs.declared.checks.CheckError.{CheckError}
use Rattle.proof_check.specs.declared.checks.CheckError.TheVariants.{Empty, Line as CheckedLine}
use Rattle.answer_commands.specs.CheckForm.{CheckForm}
use Rattle.answer_commands.specs.CheckVerdicts.{bound_for, case_of, AreAnswers, none, answer, IsVerdictOn}
use Rattle.answer_commands.specs.Inner.Support.{IsUnanswered, IsSupportVerdict}

-- whether a formula is one of a list's is decided
decide : (fs : List FormulaTree) (f : FormulaTree) → (b : Bool) × (IsTrue b ↔ Contains fs f)
decide [] f = (false, ((λ t. absurd (cc t)), λ c. absurd (omega (arith, c.1))))
decide (g ∷ gs) f = elim (same_formula g f) [
  | inl e ↦ (true, ((λ t. (0, omega arith, e)), λ c. refl))
  | inr n ↦ let r = decide gs f in (
    r.0,
    (
      (λ t. Contains-append_right (g ∷ []) gs f (r.1.0 t)),
      λ c. elim (Contains-append_cases (g ∷ []) gs f c) [
        | inl here ↦ absurd (n (only g f here))
        | inr there ↦ r.1.1 there
      ],
    ),
  )
]
  where
    only : (g f : FormulaTree) → Contains (g ∷ []) f → g ≡ f
    only g f (zero, h, e) = e
    only g f (suc k, h, e) = absurd (omega (arith, h))

-- what is not outside of a list is in it
pub in_list : (fs : List FormulaTree) (f : FormulaTree) → ((Contains fs f → ⊥) → ⊥) → Contains fs f
in_list fs f n = of (decide fs f)
  where
    of : (b : Bool) × (IsTrue b ↔ Contains fs f) → Contains fs f
    of (true, there) = there.0 refl
    of (false, there) = absurd (n (λ c. absurd (cc (there.1 c))))

-- each list of ask lines has its answers
answers_of : (ys : List FormulaTree) (ls : List LineTree) → (answers : List Bool) × AreAnswers ys ls answers
answers_of ys [] = ([], none)
answers_of ys (l ∷ ls) = let d = decide ys l.formula in let r = answers_of ys ls in (d.0 ∷ r.0, answer d.1 r.1)

-- a line that passes a test, and one that does not, at the front of those that are tested
pub filter_first : (passes : LineTree → Bool) (x : LineTree) (ls : List LineTree) → passes x ≡ true → filter passes (x ∷ ls) ≡ x ∷ filter passes ls
filter_first passes x ls q = rw q refl

pub filter_later : (passes : LineTree → Bool) (x : LineTree) (ls : List LineTree) → passes x ≡ false → filter passes (x ∷ ls) ≡ filter passes ls
filter_later passes x ls q = rw q refl

is_ask_of : (l : LineTree) → l.rule ≡ Ask → is_ask l ≡ true
is_ask_of l r = rw r refl

true_of : (b : Bool) → Some b ≡ Some true → IsTrue b
true_of true s = refl
true_of false s = absurd (cc s)

some_of : (b : Bool) → IsTrue b → Some b ≡ Some true
some_of true t = refl
some_of false t = absurd (cc t)

first_answer : {ys : List FormulaTree} {x : LineTree} {ls : List LineTree} (bs : List Bool) → AreAnswers ys (x ∷ ls) bs
    → (slice_get bs 0 ≡ Some true) ↔ Contains ys x.formula
first_answer [] a = elim a [ ]
first_answer (b ∷ bs) (answer t rest) = ((λ s. t.0 (true_of b s)), λ c. some_of b (t.1 c))

next_answer : {ys : List FormulaTree} {C : Type 0} {x : LineTree} {ls : List LineTree} (n : ℕ) (bs : List Bool) → AreAnswers ys (x ∷ ls) bs
    → ((cs : List Bool) → AreAnswers ys ls cs → (slice_get cs n ≡ Some true) ↔ C) → (slice_get bs (suc n) ≡ Some true) ↔ C
next_answer n [] a h = elim a [ ]
next_answer n (b ∷ bs) (answer t rest) h = h bs rest

later_answer : {ys : List FormulaTree} {C : Type 0} (x : LineTree) (ls : List LineTree) (i : ℕ) (bs : List Bool) (b : Bool) → is_ask x ≡ b
    → AreAnswers ys (filter is_ask (x ∷ ls)) bs
    → ((cs : List Bool) → AreAnswers ys (filter is_ask ls) cs → (slice_get cs (length (filter is_ask (take i ls))) ≡ Some true) ↔ C)
    → (slice_get bs (length (filter is_ask (x ∷ take i ls))) ≡ Some true) ↔ C
later_answer x ls i bs true q a h = rw (filter_first is_ask x (take i ls) q) (next_answer (length (filter is_ask (take i ls))) bs (rw (filter_first is_ask x ls q) at a) h)
later_answer x ls i bs false q a h = rw (filter_later is_ask x (take i ls) q) (h bs (rw (filter_later is_ask x ls q) at a))

-- the answer to an ask line stands at its place among the ask lines
answered : {ys : List FormulaTree} (ls : List LineTree) (bs : List Bool) → AreAnswers ys (filter is_ask ls) bs
    → (i : ℕ) (l : LineTree) → slice_get ls i ≡ Some l → l.rule ≡ Ask
    → (slice_get bs (length (filter is_ask (take i ls))) ≡ Some true) ↔ Contains ys l.formula
answered [] bs a i l e r = absurd (cc e)
answered {ys = ys} (x ∷ ls) bs a zero l e r =
    let s : x ≡ l = cc e in
    let q : is_ask x ≡ true = is_ask_of x (rw s r) in
    rw (← s) (first_answer bs (rw (filter_first is_ask x ls q) at a))
answered (x ∷ ls) bs a (suc i) l e r = later_answer x ls i bs (is_ask x) refl a (λ cs b. answered ls cs b i l e r)

-- the principal of a line is bound
get_bound : (ls : List LineTree) (i : ℕ) (l : LineTree) (p : TermTree) (s : FormulaTree) → slice_get ls i ≡ Some l → l.formula ≡ says p s
    → Contains (flat_map (λ m. bound_for m.formula) ls) (p, 0)
get_bound [] i l p s e f = absurd (cc e)
get_bound (x ∷ ls) zero l p s e f =
    let q : x ≡ l = cc e in
    Contains-append_left (bound_for x.formula) (flat_map (λ m. bound_for m.formula) ls) (p, 0) (rw (q, f) (0, omega arith, refl))
get_bound (x ∷ ls) (suc i) l p s e f =
    Contains-append_right (bound_for x.formula) (flat_map (λ m. bound_for m.formula) ls) (p, 0) (get_bound ls i l p s e f)

never_unbound : (form : CheckForm) (k : ℕ) → IsUnbound form.proof (flat_map (λ m. bound_for m.formula) form.proof) k → ⊥
never_unbound form zero u = absurd (cc u.2.1)
never_unbound form (suc k) u = u.3 0 (get_bound form.proof k u.2.0 u.0 u.1 u.2.1 u.2.3)

-- an ask line whose formula is none of the yes formulas is one that is answered No
unanswered_no : {ys : List FormulaTree} (proof : List LineTree) (bs : List Bool) → AreAnswers ys (filter is_ask proof) bs → (k : ℕ)
    → IsUnanswered proof ys k → IsAnsweredNo proof bs k
unanswered_no proof bs a zero u = absurd (cc u.1)
unanswered_no proof bs a (suc k) u = (u.0, u.1, u.2, λ s. u.3 ((answered proof bs a k u.0 u.1 u.2).0 s))

no_unanswered : {ys : List FormulaTree} (proof : List LineTree) (bs : List Bool) → AreAnswers ys (filter is_ask proof) bs → (k : ℕ)
    → IsAnsweredNo proof bs k → IsUnanswered proof ys k
no_unanswered proof bs a zero u = absurd (cc u.1)
no_unanswered proof bs a (suc k) u = (u.0, u.1, u.2, λ c. u.3 ((answered proof bs a k u.0 u.1 u.2).1 c))

get_line : (ls : List Line) (i : ℕ) (l : Line) → Some l ≡ slice_get ls i → slice_get (line_trees ls) i ≡ Some (line_tree l)
get_line [] i l e = absurd (cc e)
get_line (x ∷ ls) zero l e = let q : x ≡ l = cc e in ap (λ y. Some (line_tree y)) q
get_line (x ∷ ls) (suc i) l e = get_line ls i l e

-- the line that was read at a number
read_line : (ls : List Line) (k : ℕ) (l : Line) → (k ≡ 0 → Some l ≡ None) → (0 < k → Some l ≡ slice_get ls (k - 1)) → line_at (line_trees ls) k ≡ Some (line_tree l)
read_line ls zero l z v = absurd (cc (z refl))
read_line ls (suc k) l z v = let s : suc k - 1 ≡ k = omega arith in get_line ls k l (rw s at (v (omega arith)))

same_line : {o : Option LineTree} {l m : LineTree} → o ≡ Some l → o ≡ Some m → m ≡ l
same_line e f = cc

not_true : (b : Bool) → IsTrue (not b) → IsTrue b → ⊥
not_true true n t = absurd (cc n)
not_true false n t = absurd (cc t)

true_not : (b : Bool) → (IsTrue b → ⊥) → IsTrue (not b)
true_not true n = absurd (n refl)
true_not false n = refl

-- whether a label line's formula is missing
pub label_line : (ls : List Line) (held : List FormulaTree) (k : ℕ) (l : Line) (b : Bool) → (k ≡ 0 → Some l ≡ None) → (0 < k → Some l ≡ slice_get ls (k - 1))
    → l.rule ≡ Label → IsTrue b ↔ Contains held (formula_tree l.formula) → IsTrue (not b) ↔ IsMissingLabel (line_trees ls) held k
label_line ls held k l b z v r t =
    let at = read_line ls k l z v in (
      (λ n. (line_tree l, at, r, λ c. not_true b n (t.1 c))),
      λ m. true_not b (λ h.
          let q : m.0 ≡ line_tree l = same_line at m.1 in m.3 (rw q (t.0 h))),
    )

pub not_label : (ls : List Line) (held : List FormulaTree) (k : ℕ) (l : Line) → (k ≡ 0 → Some l ≡ None) → (0 < k → Some l ≡ slice_get ls (k - 1))
    → (l.rule ≡ Label → ⊥) → IsTrue false ↔ IsMissingLabel (line_trees ls) held k
not_label ls held k l z v r =
    let at = read_line ls k l z v in (
      (λ t. absurd (cc t)),
      λ m.
          let q : m.0 ≡ line_tree l = same_line at m.1 in absurd (r (ap (λ (t : LineTree). t.rule) (sym q) ∙ m.2)),
    )

-- whether an ask line's formula is unanswered
pub ask_line : (ls : List Line) (ys : List FormulaTree) (k : ℕ) (l : Line) (b : Bool) → (k ≡ 0 → Some l ≡ None) → (0 < k → Some l ≡ slice_get ls (k - 1))
    → l.rule ≡ Ask → IsTrue b ↔ Contains ys (formula_tree l.formula) → IsTrue (not b) ↔ IsUnanswered (line_trees ls) ys k
ask_line ls ys k l b z v r t =
    let at = read_line ls k l z v in (
      (λ n. (line_tree l, at, r, λ c. not_true b n (t.1 c))),
      λ m. true_not b (λ h.
          let q : m.0 ≡ line_tree l = same_line at m.1 in m.3 (rw q (t.0 h))),
    )

pub not_ask : (ls : List Line) (ys : List FormulaTree) (k : ℕ) (l : Line) → (k ≡ 0 → Some l ≡ None) → (0 < k → Some l ≡ slice_get ls (k - 1))
    → (l.rule ≡ Ask → ⊥) → IsTrue false ↔ IsUnanswered (line_trees ls) ys k
not_ask ls ys k l z v r =
    let at = read_line ls k l z v in (
      (λ t. absurd (cc t)),
      λ m.
          let q : m.0 ≡ line_tree l = same_line at m.1 in absurd (r (ap (λ (t : LineTree). t.rule) (sym q) ∙ m.2)),
    )

below_or_at : (j n : ℕ) → j < n + 1 → (j < n) ⊎ (j ≡ n)
below_or_at zero zero h = inr refl
below_or_at zero (suc n) h = inl (omega arith)
below_or_at (suc j) zero h = absurd (omega (arith, h))
below_or_at (suc j) (suc n) h = elim (below_or_at j n (omega (arith, h))) [
  | inl lower ↦ inl (omega (arith, lower))
  | inr same ↦ inr (ap suc same)
]

-- below a number that was reached, and at it
pub one_more : {P : ℕ → Type 0} {n : ℕ} → ((j : ℕ) → j < n → ¬ P j) → ¬ P n → (j : ℕ) → j < n + 1 → ¬ P j
one_more {P = P} {n = n} below at j h p = elim (below_or_at j n h) [
  | inl lower ↦ below j lower p
  | inr same ↦ at (subst P same p)
]

-- a line that stands has a number that is at most the number of lines
pub within : (ls : List Line) (k : ℕ) (l : LineTree) → line_at (line_trees ls) k ≡ Some l → k ≤ length ls
within ls zero l e = absurd (cc e)
within ls (suc k) l e =
    let h = slice_get_within (line_trees ls) k l e in
    let s = length-map ls line_tree in
    omega (arith, h, s)

-- a proof with no line is no proof
pub empty_proof : (form : CheckForm) (g : FormulaTree) → formula_with (codes "subject") (tree.name form.subject) form.goal ≡ Some g → form.proof ≡ []
    → IsVerdictOn form (Denied NoProof)
empty_proof form g e n =
    let a = answers_of form.yes (filter is_ask form.proof) in
    (a.0, a.1, ((λ proof s. some_proof form.proof proof s ∙ n), λ other h. lower other h))
  where
    some_proof : (p q : List LineTree) → Some p ≡ Some q → q ≡ p
    some_proof p q s = cc

    lower : (other : Cause) → cause_number other < 2 → ¬ HasCause (case_of form) (answers_of form.yes (filter is_ask form.proof)).0 other
    lower GoalUnset h c = absurd (cc (sym e ∙ c))
    lower NoProof h c = absurd (omega (arith, h))
    lower (FaultyLine k f) h c = absurd (omega (arith, h))
    lower (LabelMissing k) h c = absurd (omega (arith, h))
    lower (NotBound k) h c = absurd (omega (arith, h))
    lower (AuthorityNo k) h c = absurd (omega (arith, h))

-- a proof with a fault
pub faulty : (form : CheckForm) (g : FormulaTree) (n : ℕ) (fault : Fault) → formula_with (codes "subject") (tree.name form.subject) form.goal ≡ Some g
    → (form.proof ≡ [] → ⊥) → HasLowestFault form.proof g n fault → IsVerdictOn form (Denied (FaultyLine n fault))
faulty form g n fault e some f =
    let a = answers_of form.yes (filter is_ask form.proof) in
    (a.0, a.1, ((form.proof, g, refl, e, f), λ other h. lower other h))
  where
    lower : (other : Cause) → cause_number other < 3 → ¬ HasCause (case_of form) (answers_of form.yes (filter is_ask form.proof)).0 other
    lower GoalUnset h c = absurd (cc (sym e ∙ c))
    lower NoProof h c = some (c form.proof refl)
    lower (FaultyLine k f) h c = absurd (omega (arith, h))
    lower (LabelMissing k) h c = absurd (omega (arith, h))
    lower (NotBound k) h c = absurd (omega (arith, h))
    lower (AuthorityNo k) h c = absurd (omega (arith, h))

pub some_same : {A : Type 0} (p q : A) → Some p ≡ Some q → p ≡ q
some_same p q s = cc

-- a proof without a fault: what its labels and its ask lines come to
pub supported : (form : CheckForm) (g : FormulaTree) (v : Verdict) → formula_with (codes "subject") (tree.name form.subject) form.goal ≡ Some g
    → (form.proof ≡ [] → ⊥) → ((k : ℕ) → IsFaultless form.proof g k) → IsSupportVerdict form v → IsVerdictOn form v
supported form g v e some faultless = of v
  where
    bs : List Bool
    bs = (answers_of form.yes (filter is_ask form.proof)).0

    given : AreAnswers form.yes (filter is_ask form.proof) bs
    given = (answers_of form.yes (filter is_ask form.proof)).1

    no_fault : (k : ℕ) (f : Fault) → ¬ HasCause (case_of form) bs (FaultyLine k f)
    no_fault k f c =
        let p : c.0 ≡ form.proof = sym (some_same form.proof c.0 c.2) in
        let q : c.1 ≡ g = some_same c.1 g (sym c.3 ∙ e) in
        let lowest : HasLowestFault form.proof g k f = rw (← p, ← q) c.4 in
        faultless k lowest.faulty.line lowest.faulty.stands f lowest.faulty.applies

    no_label : ((j : ℕ) → ¬ IsMissingLabel form.proof form.labels j) → (k : ℕ) → ¬ HasCause (case_of form) bs (LabelMissing k)
    no_label m k c =
        let p : c.0 ≡ form.proof = sym (some_same form.proof c.0 c.1) in
        let missing : IsMissingLabel form.proof form.labels k = rw (← p) c.2.0 in m k missing

    no_port : (k : ℕ) → ¬ HasCause (case_of form) bs (NotBound k)
    no_port k c =
        let p : c.0 ≡ form.proof = sym (some_same form.proof c.0 c.1) in
        let unbound : IsUnbound form.proof (case_of form).bound k = subst (λ q. IsUnbound q (case_of form).bound k) p c.2.0 in never_unbound form k unbound

    no_answer : ((j : ℕ) → ¬ IsUnanswered form.proof form.yes j) → (k : ℕ) → ¬ HasCause (case_of form) bs (AuthorityNo k)
    no_answer m k c =
        let p : c.0 ≡ form.proof = sym (some_same form.proof c.0 c.1) in
        let answered_no : IsAnsweredNo form.proof bs k = subst (λ q. IsAnsweredNo q bs k) p c.2.0 in m k (no_unanswered form.proof bs given k answered_no)

    of : (v : Verdict) → IsSupportVerdict form v → IsVerdictOn form v
    of Allowed s = (bs, given, none_applies)
      where
        none_applies : (other : Cause) → ¬ HasCause (case_of form) bs other
        none_applies GoalUnset c = absurd (cc (sym e ∙ c))
        none_applies NoProof c = some (c form.proof refl)
        none_applies (FaultyLine k f) c = no_fault k f c
        none_applies (LabelMissing k) c = no_label s.0 k c
        none_applies (NotBound k) c = no_port k c
        none_applies (AuthorityNo k) c = no_answer s.1 k c
    of (Denied (LabelMissing n)) s = (bs, given, ((form.proof, refl, s), lower))
      where
        lower : (other : Cause) → cause_number other < 4 → ¬ HasCause (case_of form) bs other
        lower GoalUnset h c = absurd (cc (sym e ∙ c))
        lower NoProof h c = some (c form.proof refl)
        lower (FaultyLine k f) h c = no_fault k f c
        lower (LabelMissing k) h c = absurd (omega (arith, h))
        lower (NotBound k) h c = absurd (omega (arith, h))
        lower (AuthorityNo k) h c = absurd (omega (arith, h))
    of (Denied (AuthorityNo n)) s =
        (bs, given, ((form.proof, refl, (unanswered_no form.proof bs given n s.1.0, λ j h c. s.1.1 j h (no_unanswered form.proof bs given j c))), lower))
      where
        lower : (other : Cause) → cause_number other < 6 → ¬ HasCause (case_of form) bs other
        lower GoalUnset h c = absurd (cc (sym e ∙ c))
        lower NoProof h c = some (c form.proof refl)
        lower (FaultyLine k f) h c = no_fault k f c
        lower (LabelMissing k) h c = no_label s.0 k c
        lower (NotBound k) h c = no_port k c
        lower (AuthorityNo k) h c = absurd (omega (arith, h))
    of (Denied GoalUnset) s = absurd s
    of (Denied NoProof) s = absurd s
    of (Denied (FaultyLine k f)) s = absurd s
    of (Denied (NotBound k)) s = absurd s

pub no_lines : (ls : List Line) → line_trees ls ≡ [] → ls ≡ []
no_lines [] e = refl
no_lines (l ∷ ls) e = absurd (cc e)

-- a proof of which a faulty line is told has a line
pub told_some : (r : Result Checked CheckError) (e : CheckError) (n : ℕ) (f : Fault) → r ≡ Err e → e ≡ CheckedLine n f → r ≡ Err Empty → ⊥
told_some r e n f q s t = apart (Err_same (sym q ∙ t))
  where
    Err_same : {a b : CheckError} → ◌≡◌ {A = Result Checked CheckError} (Err a) (Err b) → a ≡ b
    Err_same h = cc

    line_not_empty : CheckedLine n f ≡ Empty → ⊥
    line_not_empty h = absurd (cc h)

    apart : e ≡ Empty → ⊥
    apart h = line_not_empty (sym s ∙ h)
