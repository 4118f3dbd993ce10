-- What the code reads of a line, as a fact of the line's plain value.
use Rattle.std.proofs.Common.{◌≡◌, ◌<◌, ◌≤◌, ◌+◌, ◌-◌, ◌⊎◌, ◌↔◌, inl, inr, ℕ, zero, suc, List, [], ◌∷◌, length, Bool, true, false, not, IsTrue, Contains, Option, Some, None, Box, Global, is_some, refl, sym, ap, subst, ◌∙◌, arith}
use Rattle.std.specs.List.{slice_get}
use Rattle.std.proofs.lemmas.List.{length-map}
use Rattle.std.proofs.lemmas.Option.{slice_get_within}
use Rattle.nal_term.specs.declared.terms.Term.{Term}
use Rattle.nal_term.specs.declared.formulas.Formula.{Formula}
use Rattle.nal_term.specs.declared.formulas.Formula.TheVariants.{Says, Says'}
use Rattle.nal_term.specs.Trees.{TermTree, FormulaTree, formula_tree, says}
use Rattle.proof_lines.specs.declared.rules.Rule.TheVariants.{Ask, Label}
use Rattle.proof_lines.specs.declared.lines.Line.{Line}
use Rattle.proof_lines.specs.Lines.{LineTree, line_tree, line_trees}
use Rattle.nal_rules.specs.Faults.{line_at}
use Rattle.nal_rules.specs.Asking.{port_in}
use Rattle.nal_rules.specs.Verdicts.{IsAskOf, IsMissingLabel, IsUnbound}
use Rattle.proof_check.proofs.Lookups.{no_port, some_port}

get_line : (ls : List Line) (i : ℕ) (l : Line) → Some l ≡ slice_get ls i → slice_get (line_trees ls) i ≡ Some (line_tree l)
get_line [] i l e = absurd (cc e)
get_line (x ∷ ls) zero l e = let q : x ≡ l = cc e in ap (λ y. Some (line_tree y)) q
get_line (x ∷ ls) (suc i) l e = get_line ls i l e

-- the line that was read at a number
pub read_line : (ls : List Line) (k : ℕ) (l : Line) → (k ≡ 0 → Some l ≡ None) → (0 < k → Some l ≡ slice_get ls (k - 1)) → line_at (line_trees ls) k ≡ Some (line_tree l)
read_line ls zero l z v = absurd (cc (z refl))
read_line ls (suc k) l z v = let s : suc k - 1 ≡ k = omega arith in get_line ls k l (rw s at (v (omega arith)))

-- a number at which none was read
pub no_line : (ls : List Line) (k : ℕ) (l : LineTree) → (0 < k → None ≡ slice_get ls (k - 1)) → line_at (line_trees ls) k ≡ Some l → ⊥
no_line ls zero l v e = cc e
no_line ls (suc k) l v e = let s : suc k - 1 ≡ k = omega arith in gone ls k (rw s at (v (omega arith))) e
  where
    gone : (ls : List Line) (i : ℕ) → None ≡ slice_get ls i → slice_get (line_trees ls) i ≡ Some l → ⊥
    gone [] i n e = cc e
    gone (x ∷ ls) zero n e = cc n
    gone (x ∷ ls) (suc i) n e = gone ls i n e

pub same_line : {o : Option LineTree} {l m : LineTree} → o ≡ Some l → o ≡ Some m → m ≡ l
same_line e f = cc

not_true : (b : Bool) → IsTrue (not b) → IsTrue b → ⊥
not_true true n t = absurd (cc n)
not_true false n t = absurd (cc t)

true_not : (b : Bool) → (IsTrue b → ⊥) → IsTrue (not b)
true_not true n = absurd (n refl)
true_not false n = refl

-- whether a label line's formula is missing
pub label_line : (ls : List Line) (held : List FormulaTree) (k : ℕ) (l : Line) (b : Bool) → (k ≡ 0 → Some l ≡ None) → (0 < k → Some l ≡ slice_get ls (k - 1))
    → l.rule ≡ Label → IsTrue b ↔ Contains held (formula_tree l.formula) → IsTrue (not b) ↔ IsMissingLabel (line_trees ls) held k
label_line ls held k l b z v r t =
    let at = read_line ls k l z v in (
      (λ n. (line_tree l, at, r, λ c. not_true b n (t.1 c))),
      λ m. true_not b (λ h.
          let q : m.0 ≡ line_tree l = same_line at m.1 in m.3 (rw q (t.0 h))),
    )

pub not_label : (ls : List Line) (held : List FormulaTree) (k : ℕ) (l : Line) → (k ≡ 0 → Some l ≡ None) → (0 < k → Some l ≡ slice_get ls (k - 1))
    → (l.rule ≡ Label → ⊥) → IsTrue false ↔ IsMissingLabel (line_trees ls) held k
not_label ls held k l z v r =
    let at = read_line ls k l z v in (
      (λ t. absurd (cc t)),
      λ m.
          let q : m.0 ≡ line_tree l = same_line at m.1 in absurd (r (ap (λ (t : LineTree). t.rule) (sym q) ∙ m.2)),
    )

below_or_at : (j n : ℕ) → j < n + 1 → (j < n) ⊎ (j ≡ n)
below_or_at zero zero h = inr refl
below_or_at zero (suc n) h = inl (omega arith)
below_or_at (suc j) zero h = absurd (omega (arith, h))
below_or_at (suc j) (suc n) h = elim (below_or_at j n (omega (arith, h))) [
  | inl lower ↦ inl (omega (arith, lower))
  | inr same ↦ inr (ap suc same)
]

-- below a number that was reached, and at it
pub one_more : {P : ℕ → Type 0} {n : ℕ} → ((j : ℕ) → j < n → ¬ P j) → ¬ P n → (j : ℕ) → j < n + 1 → ¬ P j
one_more {P = P} {n = n} below at j h p = elim (below_or_at j n h) [
  | inl lower ↦ below j lower p
  | inr same ↦ at (subst P same p)
]

-- a line that stands has a number that is at most the number of lines
pub within : (ls : List Line) (k : ℕ) (l : LineTree) → line_at (line_trees ls) k ≡ Some l → k ≤ length ls
within ls zero l e = absurd (cc e)
within ls (suc k) l e =
    let h = slice_get_within (line_trees ls) k l e in
    let s = length-map ls line_tree in
    omega (arith, h, s)

-- an ask line of a principal's statement that was read
pub ask_read : (ls : List Line) (k : ℕ) (l : Line) (p : TermTree) (s : FormulaTree) → (k ≡ 0 → Some l ≡ None) → (0 < k → Some l ≡ slice_get ls (k - 1))
    → l.rule ≡ Ask → formula_tree l.formula ≡ says p s → IsAskOf (line_trees ls) k p s
ask_read ls k l p s z v r e = (line_tree l, read_line ls k l z v, r, e)

-- a line that was read and is none
pub no_ask : (ls : List Line) (k : ℕ) (l : Line) → (k ≡ 0 → Some l ≡ None) → (0 < k → Some l ≡ slice_get ls (k - 1))
    → (l.rule ≡ Ask → ⊥) → (p : TermTree) (s : FormulaTree) → IsAskOf (line_trees ls) k p s → ⊥
no_ask ls k l z v r p s a =
    let q : a.0 ≡ line_tree l = same_line (read_line ls k l z v) a.1 in r (ap (λ (t : LineTree). t.rule) (sym q) ∙ a.2)

no_statement : (f : Formula) → ((t : Term) (b : Box Formula Global) → f ≡ Says t b → ⊥) → (p : TermTree) (s : FormulaTree) → formula_tree f ≡ says p s → ⊥
no_statement (Says' t b a) n p s e = n t (record { ptr = b.ptr; alloc = b.alloc; value = a }) refl
no_statement _ n p s e = absurd (cc e)

pub no_says : (ls : List Line) (k : ℕ) (l : Line) → (k ≡ 0 → Some l ≡ None) → (0 < k → Some l ≡ slice_get ls (k - 1))
    → ((t : Term) (b : Box Formula Global) → l.formula ≡ Says t b → ⊥) → (p : TermTree) (s : FormulaTree) → IsAskOf (line_trees ls) k p s → ⊥
no_says ls k l z v n p s a =
    let q : a.0 ≡ line_tree l = same_line (read_line ls k l z v) a.1 in
    no_statement l.formula n p s (ap (λ (t : LineTree). t.formula) (sym q) ∙ a.3)

-- a line is an ask line of one principal
pub one_principal : (ls : List LineTree) (k : ℕ) (p q : TermTree) (s t : FormulaTree) → IsAskOf ls k p s → IsAskOf ls k q t → q ≡ p
one_principal ls k p q s t a b =
    let same : b.0 ≡ a.0 = same_line a.1 b.1 in
    let both : says q t ≡ says p s = sym b.3 ∙ ap (λ (l : LineTree). l.formula) same ∙ a.3 in
    cc both

-- an ask line is unbound exactly where its principal has no port
pub unbound_told : (ls : List LineTree) (bound : List (TermTree × ℕ)) (k : ℕ) (p : TermTree) (s : FormulaTree) (o : Option ℕ) (b : Bool) → IsAskOf ls k p s
    → o ≡ port_in bound p → is_some o ≡ not b → IsTrue b ↔ IsUnbound ls bound k
unbound_told ls bound k p s None b asked port none =
    let told : b ≡ true = is_true b none in (
      (λ t. (p, s, asked, λ port_is there. no_port bound p (sym port) port_is there)),
      λ u. told,
    )
  where
    is_true : (b : Bool) → false ≡ not b → b ≡ true
    is_true true e = refl
    is_true false e = absurd (cc e)
unbound_told ls bound k p s (Some n) b asked port some =
    let told : b ≡ false = is_false b some in (
      (λ t. absurd (cc (t, told))),
      λ u.
          let same : u.0 ≡ p = one_principal ls k p u.0 s u.1 asked u.2 in
          absurd (u.3 n (rw same (some_port bound p n (sym port)))),
    )
  where
    is_false : (b : Bool) → true ≡ not b → b ≡ false
    is_false false e = refl
    is_false true e = absurd (cc e)

pub not_unbound : (ls : List LineTree) (bound : List (TermTree × ℕ)) (k : ℕ) → ((p : TermTree) (s : FormulaTree) → IsAskOf ls k p s → ⊥) → IsTrue false ↔ IsUnbound ls bound k
not_unbound ls bound k none = ((λ t. absurd (cc t)), λ u. absurd (none u.0 u.1 u.2))
