-- What answers ask lines have, by the verdict and by how many were asked.
use Rattle.std.proofs.Common.{◌≡◌, ◌<◌, ℕ, zero, suc, List, [], ◌∷◌, ◌++◌, length, filter, Bool, true, false, Some, cond, refl, sym, ap, subst, ◌∙◌, arith}
use Rattle.std.specs.List.{slice_get}
use Rattle.std.specs.Prelude.{replicate}
use Rattle.std.proofs.lemmas.List.{nil_from_length}
use Rattle.nal_term.specs.Trees.{TermTree, FormulaTree, says}
use Rattle.proof_lines.specs.declared.rules.Rule.{Rule}
use Rattle.proof_lines.specs.declared.rules.Rule.TheVariants.{Ask}
use Rattle.proof_lines.specs.Lines.{LineTree}
use Rattle.nal_rules.specs.Asking.{Asked, ask_first, asks_for}
use Rattle.nal_rules.specs.Faults.{IsSays, is_ask}
use Rattle.nal_rules.specs.Verdicts.{IsAnsweredNo, IsLowest}
use Rattle.case_verdict.specs.OpenCases.{IsAskLine}
use Rattle.audit_check.specs.Records.{yes_before}

-- each ask line is a statement of a principal
pub record AllSay (ls : List LineTree) : Type 0 where
  pub each : (i : ℕ) (l : LineTree) → slice_get ls i ≡ Some l → is_ask l ≡ true → IsSays l.formula

pub say_later : (x : LineTree) (ls : List LineTree) → AllSay (x ∷ ls) → AllSay ls
say_later x ls say = record { each = λ i l at asks. say.each (suc i) l at asks }

pub passes_ask : (l : LineTree) → is_ask l ≡ true → l.rule ≡ Ask
passes_ask l e = of l.rule refl
  where
    of : (r : Rule) → l.rule ≡ r → l.rule ≡ Ask
    of Ask q = q
    of _ q = absurd (cc (rw q at e))

pub ask_passes : (l : LineTree) → l.rule ≡ Ask → is_ask l ≡ true
ask_passes l r = rw r refl

-- a statement is asked, and those behind it only after a Yes
pub one_ask : (bound : List (TermTree × ℕ)) (f : FormulaTree) (b : Bool) (later : List Asked) → IsSays f → length (ask_first bound f b later) ≡ suc (length (cond b later []))
one_ask bound (says p s) b later say = refl
one_ask bound _ b later say = absurd (cc say.2)

-- ---- one line more in front

no_line_0 : (ls : List LineTree) (ys : List Bool) → ¬ IsAnsweredNo ls ys 0
no_line_0 ls ys n = cc n.1

module _ (x : LineTree) (ls : List LineTree) where
  pub first_no : (ys : List Bool) → is_ask x ≡ true → (slice_get ys 0 ≡ Some true → ⊥) → IsAnsweredNo (x ∷ ls) ys 1
  first_no ys e unaffirmed = (x, refl, passes_ask x e, unaffirmed)

  pub first_yes : (ys : List Bool) → ¬ IsAnsweredNo (x ∷ ls) (true ∷ ys) 1
  first_yes ys n = n.3 refl

  pub first_other : (ys : List Bool) → is_ask x ≡ false → ¬ IsAnsweredNo (x ∷ ls) ys 1
  first_other ys e n = let same : x ≡ n.0 = cc n.1 in let asks : is_ask x ≡ true = rw same (ask_passes n.0 n.2) in cc (e, asks)

  pub shift : (y : Bool) (ys : List Bool) (j : ℕ) → is_ask x ≡ true → IsAnsweredNo ls ys (suc j) → IsAnsweredNo (x ∷ ls) (y ∷ ys) (suc (suc j))
  shift y ys j e n = (n.0, n.1, n.2, λ yes. n.3 (rw e at yes))

  pub unshift : (y : Bool) (ys : List Bool) (j : ℕ) → is_ask x ≡ true → IsAnsweredNo (x ∷ ls) (y ∷ ys) (suc (suc j)) → IsAnsweredNo ls ys (suc j)
  unshift y ys j e n = (n.0, n.1, n.2, λ yes. n.3 (rw e yes))

  pub past : (ys : List Bool) (j : ℕ) → is_ask x ≡ false → IsAnsweredNo ls ys (suc j) → IsAnsweredNo (x ∷ ls) ys (suc (suc j))
  past ys j e n = (n.0, n.1, n.2, λ yes. n.3 (rw e at yes))

  pub unpast : (ys : List Bool) (j : ℕ) → is_ask x ≡ false → IsAnsweredNo (x ∷ ls) ys (suc (suc j)) → IsAnsweredNo ls ys (suc j)
  unpast ys j e n = (n.0, n.1, n.2, λ yes. n.3 (rw e yes))

  -- the first that is not answered Yes, where the line in front is
  lowest_later : (ys : List Bool) (i : ℕ) → is_ask x ≡ true → IsLowest (IsAnsweredNo (x ∷ ls) (true ∷ ys)) (suc (suc i)) → IsLowest (IsAnsweredNo ls ys) (suc i)
  lowest_later ys i e low = (unshift true ys i e low.0, lower)
    where
      lower : (j : ℕ) → j < suc i → ¬ IsAnsweredNo ls ys j
      lower zero h n = no_line_0 ls ys n
      lower (suc j) h n = low.1 (suc (suc j)) (omega (arith, h)) (shift true ys j e n)

  lowest_past : (ys : List Bool) (i : ℕ) → is_ask x ≡ false → IsLowest (IsAnsweredNo (x ∷ ls) ys) (suc (suc i)) → IsLowest (IsAnsweredNo ls ys) (suc i)
  lowest_past ys i e low = (unpast ys i e low.0, lower)
    where
      lower : (j : ℕ) → j < suc i → ¬ IsAnsweredNo ls ys j
      lower zero h n = no_line_0 ls ys n
      lower (suc j) h n = low.1 (suc (suc j)) (omega (arith, h)) (past ys j e n)

  lowest_more : (ys : List Bool) (i : ℕ) → is_ask x ≡ true → IsLowest (IsAnsweredNo ls ys) (suc i) → IsLowest (IsAnsweredNo (x ∷ ls) (true ∷ ys)) (suc (suc i))
  lowest_more ys i e low = (shift true ys i e low.0, lower)
    where
      lower : (j : ℕ) → j < suc (suc i) → ¬ IsAnsweredNo (x ∷ ls) (true ∷ ys) j
      lower zero h n = no_line_0 (x ∷ ls) (true ∷ ys) n
      lower (suc zero) h n = first_yes ys n
      lower (suc (suc j)) h n = low.1 (suc j) (omega (arith, h)) (unshift true ys j e n)

  lowest_more_past : (ys : List Bool) (i : ℕ) → is_ask x ≡ false → IsLowest (IsAnsweredNo ls ys) (suc i) → IsLowest (IsAnsweredNo (x ∷ ls) ys) (suc (suc i))
  lowest_more_past ys i e low = (past ys i e low.0, lower)
    where
      lower : (j : ℕ) → j < suc (suc i) → ¬ IsAnsweredNo (x ∷ ls) ys j
      lower zero h n = no_line_0 (x ∷ ls) ys n
      lower (suc zero) h n = first_other ys e n
      lower (suc (suc j)) h n = low.1 (suc j) (omega (arith, h)) (unpast ys j e n)

module _ (bound : List (TermTree × ℕ)) where
  -- how many are asked
  abbrev asked : List LineTree → List Bool → ℕ
  asked ls ys = length (asks_for bound (filter is_ask ls) ys)

  asked_past : (x : LineTree) (ls : List LineTree) (ys : List Bool) → is_ask x ≡ false → asked (x ∷ ls) ys ≡ asked ls ys
  asked_past x ls ys e = rw e refl

  pub asked_none : (x : LineTree) (ls : List LineTree) → AllSay (x ∷ ls) → is_ask x ≡ true → asked (x ∷ ls) [] ≡ 1
  asked_none x ls say e = rw e (one_ask bound x.formula false (asks_for bound (filter is_ask ls) []) (say.each 0 x refl e))

  pub asked_no : (x : LineTree) (ls : List LineTree) (ys : List Bool) → AllSay (x ∷ ls) → is_ask x ≡ true → asked (x ∷ ls) (false ∷ ys) ≡ 1
  asked_no x ls ys say e = rw e (one_ask bound x.formula false (asks_for bound (filter is_ask ls) ys) (say.each 0 x refl e))

  pub asked_yes : (x : LineTree) (ls : List LineTree) (ys : List Bool) → AllSay (x ∷ ls) → is_ask x ≡ true → asked (x ∷ ls) (true ∷ ys) ≡ suc (asked ls ys)
  asked_yes x ls ys say e = rw e (one_ask bound x.formula true (asks_for bound (filter is_ask ls) ys) (say.each 0 x refl e))

  -- ---- where all are answered Yes

  pub all_yes_of : (ls : List LineTree) (ys : List Bool) → AllSay ls → ((k : ℕ) → ¬ IsAnsweredNo ls ys k) → asked ls ys ≡ length ys → ys ≡ replicate (length (filter is_ask ls)) true
  all_yes_of [] ys say none n = nil_from_length ys (sym n)
  all_yes_of (x ∷ ls) ys say none n = of (is_ask x) refl ys none n (λ zs. all_yes_of ls zs (say_later x ls say))
    where
      of : (b : Bool) → is_ask x ≡ b → (ys : List Bool) → ((k : ℕ) → ¬ IsAnsweredNo (x ∷ ls) ys k) → asked (x ∷ ls) ys ≡ length ys
          → ((zs : List Bool) → ((k : ℕ) → ¬ IsAnsweredNo ls zs k) → asked ls zs ≡ length zs → zs ≡ replicate (length (filter is_ask ls)) true)
          → ys ≡ replicate (length (filter is_ask (x ∷ ls))) true
      of false e ys none n rest = rw e (rest ys later (sym (asked_past x ls ys e) ∙ n))
        where
          later : (k : ℕ) → ¬ IsAnsweredNo ls ys k
          later zero h = no_line_0 ls ys h
          later (suc k) h = none (suc (suc k)) (past x ls ys k e h)
      of true e [] none n rest = absurd (omega (arith, n, asked_none x ls say e))
      of true e (false ∷ ys) none n rest = absurd (none 1 (first_no x ls (false ∷ ys) e (λ q. cc q)))
      of true e (true ∷ ys) none n rest = rw e (ap (λ (bs : List Bool). true ∷ bs) (rest ys later (omega (arith, n, asked_yes x ls ys say e))))
        where
          later : (k : ℕ) → ¬ IsAnsweredNo ls ys k
          later zero h = no_line_0 ls ys h
          later (suc k) h = none (suc (suc k)) (shift x ls true ys k e h)

  pub none_after_yes : (ls : List LineTree) (k : ℕ) → ¬ IsAnsweredNo ls (replicate (length (filter is_ask ls)) true) k
  none_after_yes [] zero n = cc n.1
  none_after_yes [] (suc k) n = cc n.1
  none_after_yes (x ∷ ls) zero n = cc n.1
  none_after_yes (x ∷ ls) (suc k) n = of (is_ask x) refl k n (none_after_yes ls)
    where
      yes_more : is_ask x ≡ true → replicate (length (filter is_ask (x ∷ ls))) true ≡ true ∷ replicate (length (filter is_ask ls)) true
      yes_more e = rw e refl

      yes_same : is_ask x ≡ false → replicate (length (filter is_ask (x ∷ ls))) true ≡ replicate (length (filter is_ask ls)) true
      yes_same e = rw e refl

      of : (b : Bool) → is_ask x ≡ b → (k : ℕ) → IsAnsweredNo (x ∷ ls) (replicate (length (filter is_ask (x ∷ ls))) true) (suc k) → ((j : ℕ) → ¬ IsAnsweredNo ls (replicate (length (filter is_ask ls)) true) j) → ⊥
      of true e zero n rest = first_yes x ls (replicate (length (filter is_ask ls)) true) (subst (λ (bs : List Bool). IsAnsweredNo (x ∷ ls) bs 1) (yes_more e) n)
      of true e (suc k) n rest =
          rest (suc k) (unshift x ls true (replicate (length (filter is_ask ls)) true) k e (subst (λ (bs : List Bool). IsAnsweredNo (x ∷ ls) bs (suc (suc k))) (yes_more e) n))
      of false e zero n rest = first_other x ls (replicate (length (filter is_ask (x ∷ ls))) true) e n
      of false e (suc k) n rest = rest (suc k) (unpast x ls (replicate (length (filter is_ask ls)) true) k e (subst (λ (bs : List Bool). IsAnsweredNo (x ∷ ls) bs (suc (suc k))) (yes_same e) n))

  pub asked_all : (ls : List LineTree) → AllSay ls → asked ls (replicate (length (filter is_ask ls)) true) ≡ length (replicate (length (filter is_ask ls)) true)
  asked_all [] say = refl
  asked_all (x ∷ ls) say = of (is_ask x) refl (asked_all ls (say_later x ls say))
    where
      of : (b : Bool) → is_ask x ≡ b → asked ls (replicate (length (filter is_ask ls)) true) ≡ length (replicate (length (filter is_ask ls)) true)
          → asked (x ∷ ls) (replicate (length (filter is_ask (x ∷ ls))) true) ≡ length (replicate (length (filter is_ask (x ∷ ls))) true)
      of true e rest = rw e (one_ask bound x.formula true (asks_for bound (filter is_ask ls) (replicate (length (filter is_ask ls)) true)) (say.each 0 x refl e) ∙ ap suc rest)
      of false e rest = rw e rest

  -- ---- where one is the first that is not

  pub refused_of : (ls : List LineTree) (i : ℕ) (ys : List Bool) → AllSay ls → IsLowest (IsAnsweredNo ls ys) (suc i) → asked ls ys ≡ length ys → ys ≡ yes_before ls (suc i) ++ false ∷ []
  refused_of [] i ys say low n = absurd (cc low.0.1)
  refused_of (x ∷ ls) i ys say low n = of (is_ask x) refl i ys low n (λ j zs. refused_of ls j zs (say_later x ls say))
    where
      of : (b : Bool) → is_ask x ≡ b → (i : ℕ) (ys : List Bool) → IsLowest (IsAnsweredNo (x ∷ ls) ys) (suc i) → asked (x ∷ ls) ys ≡ length ys
          → ((j : ℕ) (zs : List Bool) → IsLowest (IsAnsweredNo ls zs) (suc j) → asked ls zs ≡ length zs → zs ≡ yes_before ls (suc j) ++ false ∷ [])
          → ys ≡ yes_before (x ∷ ls) (suc i) ++ false ∷ []
      of false e zero ys low n rest = absurd (first_other x ls ys e low.0)
      of false e (suc i) ys low n rest = rw e (rest i ys (lowest_past x ls ys i e low) (sym (asked_past x ls ys e) ∙ n))
      of true e i [] low n rest = absurd (omega (arith, n, asked_none x ls say e))
      of true e zero (true ∷ ys) low n rest = absurd (first_yes x ls ys low.0)
      of true e zero (false ∷ ys) low n rest = ap (λ (bs : List Bool). false ∷ bs) (nil_from_length ys (omega (arith, n, asked_no x ls ys say e)))
      of true e (suc i) (false ∷ ys) low n rest = absurd (low.1 1 (omega arith) (first_no x ls (false ∷ ys) e (λ q. cc q)))
      of true e (suc i) (true ∷ ys) low n rest = rw e (ap (λ (bs : List Bool). true ∷ bs) (rest i ys (lowest_later x ls ys i e low) (omega (arith, n, asked_yes x ls ys say e))))

  pub first_refused : (ls : List LineTree) (i : ℕ) → IsAskLine ls (suc i) → IsLowest (IsAnsweredNo ls (yes_before ls (suc i) ++ false ∷ [])) (suc i)
  first_refused [] i a = absurd (cc a.1)
  first_refused (x ∷ ls) zero a = ((a.0, a.1, a.2, λ q. cc q), lower)
    where
      lower : (j : ℕ) → j < 1 → ¬ IsAnsweredNo (x ∷ ls) (false ∷ []) j
      lower zero h n = cc n.1
      lower (suc j) h n = absurd (omega (arith, h))
  first_refused (x ∷ ls) (suc i) a = of (is_ask x) refl (first_refused ls i (a.0, a.1, a.2))
    where
      yes_more : is_ask x ≡ true → true ∷ (yes_before ls (suc i) ++ false ∷ []) ≡ yes_before (x ∷ ls) (suc (suc i)) ++ false ∷ []
      yes_more e = rw e refl

      yes_same : is_ask x ≡ false → yes_before ls (suc i) ++ false ∷ [] ≡ yes_before (x ∷ ls) (suc (suc i)) ++ false ∷ []
      yes_same e = rw e refl

      of : (b : Bool) → is_ask x ≡ b → IsLowest (IsAnsweredNo ls (yes_before ls (suc i) ++ false ∷ [])) (suc i) → IsLowest (IsAnsweredNo (x ∷ ls) (yes_before (x ∷ ls) (suc (suc i)) ++ false ∷ [])) (suc (suc i))
      of true e rest = subst (λ (bs : List Bool). IsLowest (IsAnsweredNo (x ∷ ls) bs) (suc (suc i))) (yes_more e) (lowest_more x ls (yes_before ls (suc i) ++ false ∷ []) i e rest)
      of false e rest = subst (λ (bs : List Bool). IsLowest (IsAnsweredNo (x ∷ ls) bs) (suc (suc i))) (yes_same e) (lowest_more_past x ls (yes_before ls (suc i) ++ false ∷ []) i e rest)

  pub asked_refused : (ls : List LineTree) (i : ℕ) → AllSay ls → IsAskLine ls (suc i) → asked ls (yes_before ls (suc i) ++ false ∷ []) ≡ length (yes_before ls (suc i) ++ false ∷ [])
  asked_refused [] i say a = absurd (cc a.1)
  asked_refused (x ∷ ls) zero say a = let same : x ≡ a.0 = cc a.1 in asked_no x ls [] say (rw same (ask_passes a.0 a.2))
  asked_refused (x ∷ ls) (suc i) say a = of (is_ask x) refl (asked_refused ls i (say_later x ls say) (a.0, a.1, a.2))
    where
      of : (b : Bool) → is_ask x ≡ b → asked ls (yes_before ls (suc i) ++ false ∷ []) ≡ length (yes_before ls (suc i) ++ false ∷ [])
          → asked (x ∷ ls) (yes_before (x ∷ ls) (suc (suc i)) ++ false ∷ []) ≡ length (yes_before (x ∷ ls) (suc (suc i)) ++ false ∷ [])
      of true e rest = rw e (one_ask bound x.formula true (asks_for bound (filter is_ask ls) (yes_before ls (suc i) ++ false ∷ [])) (say.each 0 x refl e) ∙ ap suc rest)
      of false e rest = rw e rest
