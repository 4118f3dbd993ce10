-- The text of an answer: by which words it begins, and that it is of one answer.
use Rattle.std.proofs.Common.{◌≡◌, ◌+◌, ℕ, List, [], ◌∷◌, ◌++◌, Bool, true, false, Option, Some, None, cond, eqb, get_or, refl, sym, ap, subst, ◌∙◌, arith}
use Rattle.std.specs.Fmt.{decimal}
use Rattle.std.specs.Prelude.{MatchOption}
use Rattle.std.specs.List.{find}
use Rattle.std.specs.Str.{bytes_eq}
use Rattle.std.proofs.lemmas.Fmt.{decimal_injective}
use Rattle.std.proofs.lemmas.Slice.Eq.{bytes_eq-Decides}
use Rattle.nal_rules.specs.declared.verdicts.Cause.TheVariants as cause
use Rattle.nal_rules.specs.declared.verdicts.Fault.{Fault}
use Rattle.nal_rules.specs.declared.verdicts.Fault.TheVariants as fault
use Rattle.nal_rules.specs.declared.verdicts.Verdict.TheVariants as verdict
use Rattle.audit_check.specs.declared.records.Recorded.{Recorded}
use Rattle.audit_check.specs.declared.records.Recorded.TheVariants as recorded
use Rattle.policy_history.specs.PolicyLines.{spaced}
use Rattle.journal_text.specs.Inner.PolicyReading.{IsUnspaced}
use Rattle.journal_text.proofs.WordsForCallers.{cut_same, number_unspaced}
use Rattle.audit_form.specs.declared.verdict_texts.Word.{Word}
use Rattle.audit_form.specs.declared.verdict_texts.Word.TheVariants.{Allowed, NoObject, Down, GoalUnset, NoProof, Line, LabelMissing, NotBound, AuthorityNo}
use Rattle.audit_form.specs.Inner.Verdicts.{IsNumber, Tells, all_faults, fault_named, word_text}
use Rattle.audit_form.specs.VerdictTexts.{IsLineNumber, IsNumbered, IsVerdictText, fault_name, verdict_text}

-- ---- The words

-- bytes that tell the words apart
abbrev marked_denial : ℕ → Option Word
marked_denial m =
    cond (eqb m 279) (Some GoalUnset) (cond (eqb m 269) (Some NoProof) (cond (eqb m 291) (Some Line) (cond (eqb m 271) (Some LabelMissing) (cond (eqb m 305) (Some NotBound) (cond (eqb m 298) (Some AuthorityNo) None)))))

abbrev marked : List ℕ → Option Word
marked text =
    cond (eqb (get_or text 0 0) 97) (Some Allowed) (cond (eqb (get_or text 0 0) 114) (Some NoObject) (cond (eqb (get_or text 1 0) 111) (Some Down) (marked_denial (get_or text 7 0 + get_or text 8 0 + get_or text 9 0))))

known : (w : Word) (rest : List ℕ) → marked (word_text w ++ rest) ≡ Some w
known Allowed rest = refl
known NoObject rest = refl
known Down rest = refl
known GoalUnset rest = refl
known NoProof rest = refl
known Line rest = refl
known LabelMissing rest = refl
known NotBound rest = refl
known AuthorityNo rest = refl

some_same : {A : Type 0} {v w : A} → Some v ≡ Some w → v ≡ w
some_same e = cc

rest_of : (w : Word) (x y : List ℕ) → word_text w ++ x ≡ word_text w ++ y → x ≡ y
rest_of Allowed x y e = cc
rest_of NoObject x y e = cc
rest_of Down x y e = cc
rest_of GoalUnset x y e = cc
rest_of NoProof x y e = cc
rest_of Line x y e = cc
rest_of LabelMissing x y e = cc
rest_of NotBound x y e = cc
rest_of AuthorityNo x y e = cc

module _ (w v : Word) (text rest other : List ℕ) (d : text ≡ word_text w ++ rest) (e : text ≡ word_text v ++ other) where
  word_is : w ≡ v
  word_is = some_same (sym (known w rest) ∙ ap marked (sym d ∙ e) ∙ known v other)

  rest_is : rest ≡ other
  rest_is = rest_of v rest other (sym (subst (λ u. text ≡ word_text u ++ rest) word_is d) ∙ e)

-- ---- Faults

-- each fault is found by its name
pub fault_known : (f : Fault) → fault_named (fault_name f) ≡ Some f
unfolding fault_named
fault_known fault.NoSuchRef = refl
fault_known fault.NotHyp = refl
fault_known fault.WrongShape = refl
fault_known fault.Capture = refl
fault_known fault.NotFresh = refl
fault_known fault.OutOfScope = refl
fault_known fault.NotTrue = refl
fault_known fault.TooManyAsks = refl
fault_known fault.NotAsk = refl
fault_known fault.NotClosed = refl
fault_known fault.StillOpen = refl
fault_known fault.NotGoal = refl

one_fault : (f g : Fault) → fault_name f ≡ fault_name g → f ≡ g
one_fault f g e = some_same (sym (fault_known f) ∙ ap fault_named e ∙ fault_known g)

find_passes : (p : Fault → Bool) (fs : List Fault) (g : Fault) → find p fs ≡ Some g → p g ≡ true
find_passes p [] g h = cc
find_passes p (x ∷ fs) g h = of (p x) refl (find_passes p fs g)
  where
    of : (b : Bool) → p x ≡ b → (find p fs ≡ Some g → p g ≡ true) → p g ≡ true
    of true here later =
        let found : Some x ≡ Some g = rw here at h in
        let same : x ≡ g = cc in
        ap p (sym same) ∙ here
    of false here later = later (rw here at h)

-- what is found has the name
pub found_name : (name : List ℕ) (f : Fault) → fault_named name ≡ Some f → name ≡ fault_name f
unfolding fault_named
found_name name f e = sym ((bytes_eq-Decides (fault_name f) name).0 (find_passes (λ g. bytes_eq (fault_name g) name) all_faults f e))

-- ---- Texts

-- the text of an answer begins with its words
pub record Begins (v : Recorded) : Type 0 where
  pub word : Word
  pub rest : List ℕ
  pub formed : verdict_text v ≡ word_text word ++ rest
  pub tells : IsNumbered v → Tells word rest v

pub begins : (v : Recorded) → Begins v
begins recorded.NoObject = record { word = NoObject; rest = []; formed = refl; tells = λ n. (refl, refl) }
begins (recorded.Told verdict.Allowed) = record { word = Allowed; rest = []; formed = refl; tells = λ n. (refl, refl) }
begins (recorded.Told (verdict.Denied cause.GoalUnset)) = record { word = GoalUnset; rest = []; formed = refl; tells = λ n. (refl, refl) }
begins (recorded.Told (verdict.Denied cause.NoProof)) = record { word = NoProof; rest = []; formed = refl; tells = λ n. (refl, refl) }
begins (recorded.Told (verdict.Denied (cause.Line k f))) = record { word = Line; rest = spaced (decimal k) (fault_name f); formed = refl; tells = λ n. (k, f, n, refl, refl) }
begins (recorded.Told (verdict.Denied (cause.LabelMissing k))) = record { word = LabelMissing; rest = decimal k; formed = refl; tells = λ n. (k, (n, refl), refl) }
begins (recorded.Told (verdict.Denied (cause.NotBound k))) = record { word = NotBound; rest = decimal k; formed = refl; tells = λ n. (k, (n, refl), refl) }
begins (recorded.Told (verdict.Denied (cause.AuthorityNo k))) = record { word = AuthorityNo; rest = decimal k; formed = refl; tells = λ n. (k, (n, refl), refl) }
begins (recorded.Down k) = record { word = Down; rest = decimal k; formed = refl; tells = λ n. (k, ((n.0, omega (arith, n.1)), refl), n.1, refl) }

-- and what follows them tells it
pub told_to : (w : Word) (text rest : List ℕ) (v : Recorded) → text ≡ word_text w ++ rest → IsVerdictText text v → Tells w rest v
told_to w text rest v d t =
    let b = begins v in
    let e : text ≡ word_text b.word ++ b.rest = t.formed ∙ b.formed in
    subst (λ (u : Word). Tells u rest v) (sym (word_is w b.word text rest b.rest d e)) (subst (λ (r : List ℕ). Tells b.word r v) (sym (rest_is w b.word text rest b.rest d e)) (b.tells t.numbered))

pub told_from : (w : Word) (text rest : List ℕ) (v : Recorded) → text ≡ word_text w ++ rest → Tells w rest v → IsVerdictText text v
told_from Allowed text rest v d (e, is) = rw is (record { formed = d ∙ ap (λ r. word_text Allowed ++ r) e; numbered = tt })
told_from NoObject text rest v d (e, is) = rw is (record { formed = d ∙ ap (λ r. word_text NoObject ++ r) e; numbered = tt })
told_from GoalUnset text rest v d (e, is) = rw is (record { formed = d ∙ ap (λ r. word_text GoalUnset ++ r) e; numbered = tt })
told_from NoProof text rest v d (e, is) = rw is (record { formed = d ∙ ap (λ r. word_text NoProof ++ r) e; numbered = tt })
told_from Down text rest v d (k, n, most, is) = rw is (record { formed = d ∙ ap (λ r. word_text Down ++ r) n.1; numbered = (n.0.0, most) })
told_from Line text rest v d (k, f, n, e, is) = rw is (record { formed = d ∙ ap (λ r. word_text Line ++ r) e; numbered = n })
told_from LabelMissing text rest v d (k, n, is) = rw is (record { formed = d ∙ ap (λ r. word_text LabelMissing ++ r) n.1; numbered = n.0 })
told_from NotBound text rest v d (k, n, is) = rw is (record { formed = d ∙ ap (λ r. word_text NotBound ++ r) n.1; numbered = n.0 })
told_from AuthorityNo text rest v d (k, n, is) = rw is (record { formed = d ∙ ap (λ r. word_text AuthorityNo ++ r) n.1; numbered = n.0 })

-- a text that begins with no words is of nothing
pub wordless : (text : List ℕ) (v : Recorded) → ((w : Word) (rest : List ℕ) → text ≡ word_text w ++ rest → ⊥) → IsVerdictText text v → ⊥
wordless text v none t = let b = begins v in none b.word b.rest (t.formed ∙ b.formed)

one_number : (rest : List ℕ) (j k : ℕ) → IsNumber rest j → IsNumber rest k → j ≡ k
one_number rest j k a b = decimal_injective j k a.0.1 b.0.1 (sym a.1 ∙ b.1)

one_told : (w : Word) (rest : List ℕ) (v u : Recorded) → Tells w rest v → Tells w rest u → v ≡ u
one_told Allowed rest v u a b = a.1 ∙ sym b.1
one_told NoObject rest v u a b = a.1 ∙ sym b.1
one_told GoalUnset rest v u a b = a.1 ∙ sym b.1
one_told NoProof rest v u a b = a.1 ∙ sym b.1
one_told Down rest v u a b = a.3 ∙ ap recorded.Down (one_number rest a.0 b.0 a.1 b.1) ∙ sym b.3
one_told LabelMissing rest v u a b = a.2 ∙ ap (λ (k : ℕ). recorded.Told (verdict.Denied (cause.LabelMissing k))) (one_number rest a.0 b.0 a.1 b.1) ∙ sym b.2
one_told NotBound rest v u a b = a.2 ∙ ap (λ (k : ℕ). recorded.Told (verdict.Denied (cause.NotBound k))) (one_number rest a.0 b.0 a.1 b.1) ∙ sym b.2
one_told AuthorityNo rest v u a b = a.2 ∙ ap (λ (k : ℕ). recorded.Told (verdict.Denied (cause.AuthorityNo k))) (one_number rest a.0 b.0 a.1 b.1) ∙ sym b.2
one_told Line rest v u (j, f, n, d, is) (k, g, m, e, are) =
    let parts = cut_same (decimal j) (fault_name f) (decimal k) (fault_name g) (sym d ∙ e) (number_unspaced j n.1) (number_unspaced k m.1) in
    let numbers : j ≡ k = decimal_injective j k n.1 m.1 parts.0 in
    let faults : f ≡ g = one_fault f g parts.1 in
    is ∙ ap (λ (i : ℕ). recorded.Told (verdict.Denied (cause.Line i f))) numbers ∙ ap (λ (h : Fault). recorded.Told (verdict.Denied (cause.Line k h))) faults ∙ sym are

-- a text is of one answer
pub one_verdict : (text : List ℕ) (v u : Recorded) → IsVerdictText text v → IsVerdictText text u → v ≡ u
one_verdict text v u a b =
    let begun = begins v in
    let d : text ≡ word_text begun.word ++ begun.rest = a.formed ∙ begun.formed in
    one_told begun.word begun.rest v u (told_to begun.word text begun.rest v d a) (told_to begun.word text begun.rest u d b)

-- ---- What the readers find

pub through : (w : Word) (text rest : List ℕ) (o : Option Recorded) → text ≡ word_text w ++ rest → MatchOption o ((v : Recorded) → Tells w rest v → ⊥) (Tells w rest)
    → MatchOption o ((v : Recorded) → IsVerdictText text v → ⊥) (IsVerdictText text)
through w text rest None d none = λ v t. none v (told_to w text rest v d t)
through w text rest (Some v) d told = told_from w text rest v d told

-- a text that begins with none of the words
pub no_word : (text : List ℕ) → ((r : List ℕ) → text ≡ word_text Allowed ++ r → ⊥) → ((r : List ℕ) → text ≡ word_text NoObject ++ r → ⊥) → ((r : List ℕ) → text ≡ word_text Down ++ r → ⊥)
    → ((r : List ℕ) → text ≡ word_text GoalUnset ++ r → ⊥) → ((r : List ℕ) → text ≡ word_text NoProof ++ r → ⊥) → ((r : List ℕ) → text ≡ word_text Line ++ r → ⊥)
    → ((r : List ℕ) → text ≡ word_text LabelMissing ++ r → ⊥) → ((r : List ℕ) → text ≡ word_text NotBound ++ r → ⊥) → ((r : List ℕ) → text ≡ word_text AuthorityNo ++ r → ⊥)
    → (w : Word) (r : List ℕ) → text ≡ word_text w ++ r → ⊥
no_word text a b c d e f g h i Allowed r is = a r is
no_word text a b c d e f g h i NoObject r is = b r is
no_word text a b c d e f g h i Down r is = c r is
no_word text a b c d e f g h i GoalUnset r is = d r is
no_word text a b c d e f g h i NoProof r is = e r is
no_word text a b c d e f g h i Line r is = f r is
no_word text a b c d e f g h i LabelMissing r is = g r is
no_word text a b c d e f g h i NotBound r is = h r is
no_word text a b c d e f g h i AuthorityNo r is = i r is

-- what follows `denied Line ` is the number and the name that were cut
pub line_parts : (rest number name : List ℕ) (v : Recorded) → rest ≡ spaced number name → IsUnspaced number → Tells Line rest v
    → (k : ℕ) × (f : Fault) × IsLineNumber k × (number ≡ decimal k) × (name ≡ fault_name f)
line_parts rest number name v cut plain (k, f, n, e, is) =
    let parts = cut_same number name (decimal k) (fault_name f) (sym cut ∙ e) plain (number_unspaced k n.1) in
    (k, f, n, parts.0, parts.1)

pub line_made : (rest number name : List ℕ) (k : ℕ) (f : Fault) → rest ≡ spaced number name → IsLineNumber k → number ≡ decimal k → name ≡ fault_name f
    → Tells Line rest (recorded.Told (verdict.Denied (cause.Line k f)))
line_made rest number name k f cut n a b = (k, f, n, cut ∙ ap (λ (x : List ℕ). spaced x name) a ∙ ap (λ (y : List ℕ). spaced (decimal k) y) b, refl)

pub not_named : (name : List ℕ) → fault_named name ≡ None → (f : Fault) → name ≡ fault_name f → ⊥
not_named name none f e = let found = sym (fault_known f) ∙ ap fault_named (sym e) ∙ none in absurd (cc found)
