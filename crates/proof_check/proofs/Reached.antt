-- The columns of hypotheses: what is computed for a line, line by line, is what it rests on.
use Rattle.std.proofs.Common.{◌≡◌, ◌↔◌, ◌⊎◌, ℕ, zero, suc, ◌+◌, ◌<◌, ◌≤◌, List, [], ◌∷◌, ◌++◌, length, map, get_or, Option, Some, None, Bool, true, false, not, ◌&&◌, ◌||◌, nat_eq, nat_lt, refl, sym, ap, ◌∙◌, subst, inl, inr, ⊎_elim, arith}
use Rattle.std.specs.List.{Contains, list_any, list_all, All}
use Rattle.std.proofs.lemmas.Bool.{eqb-true, eq-eqb, ltb-true, lt-ltb, cases_lt}
use Rattle.std.proofs.lemmas.List.{get_or_append_left, length-append, length-map, map-append}
use Rattle.std.proofs.Math.Seq.{get_or-append_seam}
use Rattle.std.proofs.lemmas.List.Elements.{All-nil, All-cons}
use Rattle.proof_lines.specs.declared.rules.Rule.{Rule}
use Rattle.proof_lines.specs.declared.rules.Rule.TheVariants.{Label, Ask, Hyp, TrueI, AndI, AndL, AndR, OrL, OrR, OrE, ImpI, ImpE, FalseE, ForallI, ForallE, ExistsI, ExistsE, EqRefl, EqSym, EqTrans, Arith, LtTrans, SaysI, Deduce, SaysJoin, SfRefl, SfTrans, SfSub, SfE, SfOnE, SfWeak, Handoff, HandoffOn}
use Rattle.proof_lines.specs.Lines.{LineTree}
use Rattle.nal_rules.specs.Faults.{line_at, supports_of, IsHyp, RestsOn, itself, through}
use Rattle.proof_check.specs.declared.line_sets.LineSet.{LineSet}
use Rattle.proof_check.specs.Inner.LineSets.{column_of, holds}
use Rattle.proof_check.specs.Inner.Rests.{is_hyp_rule, is_hyp_at, is_kept, reaches, leads, rests_by, IsColumnTo, IsColumn}
use Rattle.proof_check.proofs.Found.{at_within}

both_true : (a b : Bool) → (a && b) ≡ true → (a ≡ true) × (b ≡ true)
both_true true b e = (refl, e)
both_true false b e = absurd (cc e)

both_hold : (a b : Bool) → a ≡ true → b ≡ true → (a && b) ≡ true
both_hold a b e d = rw (e, d) refl

either_true : (a b : Bool) → (a || b) ≡ true → (a ≡ true) ⊎ (b ≡ true)
either_true true b e = inl refl
either_true false b e = inr e

left_holds : (a b : Bool) → a ≡ true → (a || b) ≡ true
left_holds a b e = rw e refl

right_holds : (a b : Bool) → b ≡ true → (a || b) ≡ true
right_holds true b e = refl
right_holds false b e = e

any_found : {A : Type 0} (p : A → Bool) (xs : List A) → list_any p xs ≡ true → (x : A) × Contains xs x × (p x ≡ true)
any_found p [] e = absurd (cc e)
any_found p (x ∷ xs) e =
    ⊎_elim (λ (h : p x ≡ true). (x, (0, omega arith, refl), h)) (λ (h : list_any p xs ≡ true). let w = any_found p xs h in (w.0, (suc w.1.0, (let b = w.1.1 in omega (arith, b)), w.1.2), w.2)) (either_true (p x) (list_any p xs) e)

any_holds : {A : Type 0} (p : A → Bool) (xs : List A) (x : A) → Contains xs x → p x ≡ true → list_any p xs ≡ true
any_holds p [] x (k, within, read) e = absurd (omega (arith, within))
any_holds p (y ∷ xs) x (zero, within, read) e = left_holds (p y) (list_any p xs) (ap p read ∙ e)
any_holds p (y ∷ xs) x (suc k, within, read) e =
    right_holds (p y) (list_any p xs) (any_holds p xs x (k, omega (arith, within), read) e)

hyp_told : (r : Rule) → is_hyp_rule r ≡ true → r ≡ Hyp
hyp_told Label e = absurd (cc e)
hyp_told Ask e = absurd (cc e)
hyp_told Hyp e = refl
hyp_told TrueI e = absurd (cc e)
hyp_told AndI e = absurd (cc e)
hyp_told AndL e = absurd (cc e)
hyp_told AndR e = absurd (cc e)
hyp_told OrL e = absurd (cc e)
hyp_told OrR e = absurd (cc e)
hyp_told OrE e = absurd (cc e)
hyp_told ImpI e = absurd (cc e)
hyp_told ImpE e = absurd (cc e)
hyp_told FalseE e = absurd (cc e)
hyp_told ForallI e = absurd (cc e)
hyp_told ForallE e = absurd (cc e)
hyp_told ExistsI e = absurd (cc e)
hyp_told ExistsE e = absurd (cc e)
hyp_told EqRefl e = absurd (cc e)
hyp_told EqSym e = absurd (cc e)
hyp_told EqTrans e = absurd (cc e)
hyp_told Arith e = absurd (cc e)
hyp_told LtTrans e = absurd (cc e)
hyp_told SaysI e = absurd (cc e)
hyp_told Deduce e = absurd (cc e)
hyp_told SaysJoin e = absurd (cc e)
hyp_told SfRefl e = absurd (cc e)
hyp_told SfTrans e = absurd (cc e)
hyp_told SfSub e = absurd (cc e)
hyp_told SfE e = absurd (cc e)
hyp_told SfOnE e = absurd (cc e)
hyp_told SfWeak e = absurd (cc e)
hyp_told Handoff e = absurd (cc e)
hyp_told HandoffOn e = absurd (cc e)

hyp_holds : (r : Rule) → r ≡ Hyp → is_hyp_rule r ≡ true
hyp_holds r e = rw e refl

-- the references of most rules support the line as they are
pub plain_supports : (r : Rule) (refs : List ℕ) → (r ≡ OrE → ⊥) → (r ≡ ImpI → ⊥) → (r ≡ ExistsE → ⊥) → supports_of r refs ≡ map (λ i. (i, None)) refs
plain_supports Label refs a b c = refl
plain_supports Ask refs a b c = refl
plain_supports Hyp refs a b c = refl
plain_supports TrueI refs a b c = refl
plain_supports AndI refs a b c = refl
plain_supports AndL refs a b c = refl
plain_supports AndR refs a b c = refl
plain_supports OrL refs a b c = refl
plain_supports OrR refs a b c = refl
plain_supports OrE refs a b c = absurd (a refl)
plain_supports ImpI refs a b c = absurd (b refl)
plain_supports ImpE refs a b c = refl
plain_supports FalseE refs a b c = refl
plain_supports ForallI refs a b c = refl
plain_supports ForallE refs a b c = refl
plain_supports ExistsI refs a b c = refl
plain_supports ExistsE refs a b c = absurd (c refl)
plain_supports EqRefl refs a b c = refl
plain_supports EqSym refs a b c = refl
plain_supports EqTrans refs a b c = refl
plain_supports Arith refs a b c = refl
plain_supports LtTrans refs a b c = refl
plain_supports SaysI refs a b c = refl
plain_supports Deduce refs a b c = refl
plain_supports SaysJoin refs a b c = refl
plain_supports SfRefl refs a b c = refl
plain_supports SfTrans refs a b c = refl
plain_supports SfSub refs a b c = refl
plain_supports SfE refs a b c = refl
plain_supports SfOnE refs a b c = refl
plain_supports SfWeak refs a b c = refl
plain_supports Handoff refs a b c = refl
plain_supports HandoffOn refs a b c = refl

leads_plain : (column : List Bool) (h k : ℕ) (refs : List ℕ) → list_any (leads column h k) (map (λ i. (i, None)) refs) ≡ list_any (reaches column k) refs
leads_plain column h k [] = refl
leads_plain column h k (i ∷ refs) = ap (λ b. reaches column k i || b) (leads_plain column h k refs)

-- whether a line of such a rule rests on the hypothesis
pub plain_leads : (column : List Bool) (h k : ℕ) (r : Rule) (refs : List ℕ) → (r ≡ OrE → ⊥) → (r ≡ ImpI → ⊥) → (r ≡ ExistsE → ⊥) → list_any (reaches column k) refs ≡ list_any (leads column h k) (supports_of r refs)
plain_leads column h k r refs a b c =
    sym (leads_plain column h k refs) ∙ ap (λ s. list_any (leads column h k) s) (sym (plain_supports r refs a b c))

kept_told : (h : ℕ) (d : Option ℕ) → is_kept h d ≡ true → d ≡ Some h → ⊥
kept_told h None e s = absurd (cc s)
kept_told h (Some d) e s =
    let same : d ≡ h = cc s in
    let both : nat_eq d h ≡ true = eq-eqb d h same in
    let no : not (nat_eq d h) ≡ false = rw both refl in
    absurd (cc (e, no))

kept_holds : (h : ℕ) (d : Option ℕ) → (d ≡ Some h → ⊥) → is_kept h d ≡ true
kept_holds h None n = refl
kept_holds h (Some d) n = differ (nat_eq d h) refl
  where
    differ : (b : Bool) → nat_eq d h ≡ b → not b ≡ true
    differ true e = absurd (n (ap (λ x. Some x) (eqb-true d h e)))
    differ false e = refl

module _ (lines : List LineTree) (h k : ℕ) (l : LineTree) (stands : line_at lines k ≡ Some l) (column : List Bool) (below : (j : ℕ) → j < k → (get_or column j false ≡ true) ↔ RestsOn lines j h) where
  rests_told : rests_by column h k l ≡ true → RestsOn lines k h
  rests_told e =
      ⊎_elim (λ (e : (is_hyp_rule l.rule && nat_eq k h) ≡ true). let w = both_true (is_hyp_rule l.rule) (nat_eq k h) e in
      let same : k ≡ h = eqb-true k h w.1 in
      subst (λ n. RestsOn lines k n) same (itself (l, stands, hyp_told l.rule w.0))) (λ (e : list_any (leads column h k) (supports_of l.rule l.refs) ≡ true). let w = any_found (leads column h k) (supports_of l.rule l.refs) e in
      let parts = both_true (is_kept h w.0.1) (reaches column k w.0.0) w.2 in
      let earlier = both_true (nat_lt w.0.0 k) (get_or column w.0.0 false) parts.1 in
      let low : w.0.0 < k = ltb-true w.0.0 k earlier.0 in
      through stands w.1 low ((below w.0.0 low).0 earlier.1) (kept_told h w.0.1 parts.0)) (either_true (is_hyp_rule l.rule && nat_eq k h) (list_any (leads column h k) (supports_of l.rule l.refs)) e)

  rests_by_itself : IsHyp lines k → k ≡ h → rests_by column h k l ≡ true
  rests_by_itself (m, read, hyp) same =
      let s : m ≡ l = cc (read, stands) in
      let rule : l.rule ≡ Hyp = ap (λ x. x.rule) (sym s) ∙ hyp in
      left_holds (is_hyp_rule l.rule && nat_eq k h) _ (both_hold (is_hyp_rule l.rule) (nat_eq k h) (hyp_holds l.rule rule) (eq-eqb k h same))

  rests_by_support : (m : LineTree) → line_at lines k ≡ Some m → (j : ℕ) (d : Option ℕ) → Contains (supports_of m.rule m.refs) (j, d) → j < k → RestsOn lines j h → (d ≡ Some h → ⊥) → rests_by column h k l ≡ true
  rests_by_support m read j d named low rests kept =
      let s : m ≡ l = cc (read, stands) in
      let held : Contains (supports_of l.rule l.refs) (j, d) = subst (λ x. Contains (supports_of x.rule x.refs) (j, d)) s named in
      let reached : reaches column k j ≡ true = both_hold (nat_lt j k) (get_or column j false) (lt-ltb j k low) ((below j low).1 rests) in
      right_holds (is_hyp_rule l.rule && nat_eq k h) _ (any_holds (leads column h k) (supports_of l.rule l.refs) (j, d) held (both_hold (is_kept h d) (reaches column k j) (kept_holds h d kept) reached))

rests_back : (lines : List LineTree) (h k : ℕ) → RestsOn lines k h → (l : LineTree) → line_at lines k ≡ Some l → (column : List Bool) → ((j : ℕ) → j < k → (get_or column j false ≡ true) ↔ RestsOn lines j h) → rests_by column h k l ≡ true
rests_back lines h k (itself w) l stands column below = rests_by_itself lines k k l stands column below w refl
rests_back lines h k (through {l = m} read named low rests kept) l stands column below =
    rests_by_support lines h k l stands column below m read _ _ named low rests kept

-- what is computed for one line from those before it is right
pub rests_exact : (lines : List LineTree) (h k : ℕ) (l : LineTree) → line_at lines k ≡ Some l → (column : List Bool) → ((j : ℕ) → j < k → (get_or column j false ≡ true) ↔ RestsOn lines j h) → (rests_by column h k l ≡ true) ↔ RestsOn lines k h
rests_exact lines h k l stands column below =
    (λ e. rests_told lines h k l stands column below e, λ r. rests_back lines h k r l stands column below)

-- a line that rests on something is one of the lines, and so is the hypothesis
pub rests_within : (lines : List LineTree) (k h : ℕ) → RestsOn lines k h → (k ≤ length lines) × (h ≤ length lines)
rests_within lines k h (itself w) = let b = at_within lines k w.0 w.1 in (b, b)
rests_within lines k h (through {l = m} read named low rests kept) =
    (at_within lines k m read, (rests_within lines _ h rests).1)

-- the empty column is right as far as line 0, which is none
pub column_begins : (lines : List LineTree) (h : ℕ) → IsColumnTo lines h 1 (false ∷ [])
column_begins lines h = (
  refl,
  λ k low. let z : k ≡ 0 = omega (arith, low) in
      subst (λ n. (get_or (false ∷ []) n false ≡ true) ↔ RestsOn lines n h) (sym z) ((λ e. absurd (cc e)), λ r. absurd (none_rests r)),
)
  where
    none_rests : RestsOn lines 0 h → ⊥
    none_rests r = zero_rests lines 0 h refl r
      where
        zero_rests : (lines : List LineTree) (k h : ℕ) → k ≡ 0 → RestsOn lines k h → ⊥
        zero_rests lines k h e (itself w) = let s : line_at lines 0 ≡ Some w.0 = subst (λ n. line_at lines n ≡ Some w.0) e w.1 in cc s
        zero_rests lines k h e (through read named low rests kept) = omega (arith, low, e)

-- and one line more
pub column_grows : (lines : List LineTree) (h n : ℕ) (l : LineTree) → line_at lines n ≡ Some l → (column : List Bool) → IsColumnTo lines h n column → IsColumnTo lines h (n + 1) (column ++ rests_by column h n l ∷ [])
column_grows lines h n l stands column (size, right) = (
  length-append column (rests_by column h n l ∷ []) ∙ ap (λ x. x + 1) size,
  λ k low. ⊎_elim (λ (below : k < n). let within : k < length column = rw size below in
      let e : get_or (column ++ rests_by column h n l ∷ []) k false ≡ get_or column k false = get_or_append_left column (rests_by column h n l ∷ []) false k within in
      let r : (get_or column k false ≡ true) ↔ RestsOn lines k h = right k below in
      (λ d. r.0 (sym e ∙ d), λ x. e ∙ r.1 x)) (λ (above : n ≤ k). let s : k ≡ n = omega (arith, low, above) in
      let e : get_or (column ++ rests_by column h n l ∷ []) n false ≡ rests_by column h n l = subst (λ m. get_or (column ++ rests_by column h n l ∷ []) m false ≡ rests_by column h n l) size (get_or-append_seam column (rests_by column h n l) [] false) in
      let r : (rests_by column h n l ≡ true) ↔ RestsOn lines n h = rests_exact lines h n l stands column right in
      subst (λ m. (get_or (column ++ rests_by column h n l ∷ []) m false ≡ true) ↔ RestsOn lines m h) (sym s) (λ d. r.0 (sym e ∙ d), λ x. e ∙ r.1 x)) (cases_lt k n),
)

beyond : (xs : List Bool) (k : ℕ) → length xs ≤ k → get_or xs k false ≡ false
beyond [] k h = refl
beyond (x ∷ xs) zero h = absurd (omega (arith, h))
beyond (x ∷ xs) (suc k) h = beyond xs k (omega (arith, h))

-- a column as far as the last line is whole
pub column_ends : (lines : List LineTree) (h : ℕ) (column : List Bool) → IsColumnTo lines h (length lines + 1) column → IsColumn lines h column
column_ends lines h column (size, right) =
    λ k. ⊎_elim (λ (low : k < length lines + 1). right k low) (λ (high : length lines + 1 ≤ k). let out : length column ≤ k = rw size high in
    let e : get_or column k false ≡ false = beyond column k out in
    (λ d. absurd (cc (d, e)), λ r. let b = (rests_within lines k h r).0 in absurd (omega (arith, b, high)))) (cases_lt k (length lines + 1))

-- what the set of a line says of a hypothesis is what its column says of the line
pub column_at : (sets : List LineSet) (k h : ℕ) (default : LineSet) → k < length sets → get_or (column_of sets h) k false ≡ holds (get_or sets k default) h
column_at [] k h default p = absurd (omega (arith, p))
column_at (t ∷ sets) zero h default p = refl
column_at (t ∷ sets) (suc k) h default p = column_at sets k h default (omega (arith, p))

pub column_past : (sets : List LineSet) (k h : ℕ) → length sets ≤ k → get_or (column_of sets h) k false ≡ false
column_past sets k h p =
    let same = length-map sets (λ s. holds s h) in
    beyond (column_of sets h) k (omega (arith, p, same))

-- the columns of the first set, which is empty, and of one set more
pub first_set : (lines : List LineTree) (h : ℕ) (sets : List LineSet) (s : LineSet) → sets ≡ s ∷ [] → holds s h ≡ false → IsColumnTo lines h 1 (column_of sets h)
first_set lines h sets s e d =
    let same : column_of sets h ≡ false ∷ [] = ap (λ xs. column_of xs h) e ∙ ap (λ b. b ∷ []) d in
    subst (λ column. IsColumnTo lines h 1 column) (sym same) (column_begins lines h)

pub next_set : (lines : List LineTree) (h n : ℕ) (l : LineTree) → line_at lines n ≡ Some l → (old sets : List LineSet) (s : LineSet) → sets ≡ old ++ s ∷ [] → holds s h ≡ rests_by (column_of old h) h n l
    → IsColumnTo lines h n (column_of old h) → IsColumnTo lines h (n + 1) (column_of sets h)
next_set lines h n l stands old sets s e d right =
    let same : column_of sets h ≡ column_of old h ++ rests_by (column_of old h) h n l ∷ [] = ap (λ xs. column_of xs h) e ∙ map-append (λ t. holds t h) old (s ∷ []) ∙ ap (λ b. column_of old h ++ b ∷ []) d in
    subst (λ column. IsColumnTo lines h (n + 1) column) (sym same) (column_grows lines h n l stands (column_of old h) right)

hyp_of_line : (lines : List LineTree) (k : ℕ) (o : Option LineTree) → line_at lines k ≡ o → (is_hyp_at lines k ≡ true) ↔ IsHyp lines k
hyp_of_line lines k None e = (λ h. absurd (let d = rw e at h in cc d), λ w. let d = w.1 in absurd (cc (e, d)))
hyp_of_line lines k (Some l) e = (
  λ h. let d = rw e at h in (l, e, hyp_told l.rule d),
  λ w. let d = w.1 in
      let s : w.0 ≡ l = cc (e, d) in
      rw e (hyp_holds l.rule (ap (λ x. x.rule) (sym s) ∙ w.2)),
)

-- the test of a hypothesis
pub hyp_exact : (lines : List LineTree) (k : ℕ) → (is_hyp_at lines k ≡ true) ↔ IsHyp lines k
hyp_exact lines k = hyp_of_line lines k (line_at lines k) refl

-- and of several
pub hyps_told : (lines : List LineTree) (hs : List ℕ) → list_all (is_hyp_at lines) hs ≡ true → All (λ h. IsHyp lines h) hs
hyps_told lines [] e = All-nil (λ h. IsHyp lines h)
hyps_told lines (h ∷ hs) e =
    let w = both_true (is_hyp_at lines h) (list_all (is_hyp_at lines) hs) e in
    All-cons (λ h. IsHyp lines h) h hs ((hyp_exact lines h).0 w.0) (hyps_told lines hs w.1)

pub hyps_missing : (lines : List LineTree) (hs : List ℕ) → list_all (is_hyp_at lines) hs ≡ false → (h : ℕ) × Contains hs h × (IsHyp lines h → ⊥)
hyps_missing lines [] e = absurd (cc e)
hyps_missing lines (h ∷ hs) e = first (is_hyp_at lines h) refl e (hyps_missing lines hs)
  where
    first : (b : Bool) → is_hyp_at lines h ≡ b → (b && list_all (is_hyp_at lines) hs) ≡ false → (list_all (is_hyp_at lines) hs ≡ false → (i : ℕ) × Contains hs i × (IsHyp lines i → ⊥)) → (i : ℕ) × Contains (h ∷ hs) i × (IsHyp lines i → ⊥)
    first false d e more = (h, (0, omega arith, refl), λ w. let t = (hyp_exact lines h).1 w in absurd (cc (d, t)))
    first true d e more =
        let w = more e in (w.0, (suc w.1.0, (let b = w.1.1 in omega (arith, b)), w.1.2), w.2)
