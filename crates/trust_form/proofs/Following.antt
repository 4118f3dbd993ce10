-- Which line may follow at a stage, from the word with which it begins.
use Rattle.std.proofs.Common.{◌≡◌, ◌++◌, ℕ, List, codes, refl, sym, subst, ap}
use Rattle.nal_term.specs.Names.{IsName}
use Rattle.form_lines.specs.Statements.{IsGoal, IsStatement}
use Rattle.trust_form.specs.declared.words.Word.{Word}
use Rattle.trust_form.specs.declared.words.Word.TheVariants.{Label, Untrusted, Loose, Fact, Goal}
use Rattle.trust_form.specs.Words.{word_text}
use Rattle.trust_form.specs.TrustForm.{Givens, TrustForm, Stage, header_due, subject_due, goal_due, end_due, ended, Follows, header, subject, label, untrusted, loose, fact, goal, end, MayStand, IsFact, IsPrincipal, subject_alone, with_label, with_untrusted, with_loose, with_fact}
use Rattle.trust_form.specs.Inner.Reading.{Adds, IsAfter}
use Rattle.trust_form.proofs.OneWord.{word_is, rest_is}

-- the text behind a word that may stand leads on
pub leads_on : (w : Word) (line text : List ℕ) (g : Givens) (next : Stage) → line ≡ word_text w ++ text → MayStand w g → IsAfter w g text next → Follows (goal_due g) line next
leads_on Label line text g next d m (h, (f, s, e), n) = rw (n, e) (label d m s)
leads_on Untrusted line text g next d m (h, (p, s, e), n) = rw (n, e) (untrusted d m s)
leads_on Loose line text g next d m (h, (s, e), n) = rw (n, e) (loose d m s)
leads_on Fact line text g next d m (h, (f, s, e), n) = rw (n, e) (fact d m s)
leads_on Goal line text g next d m (f, s, n) = rw n (goal d s)

-- a word but that of the goal leads to more givens
pub added : (w : Word) (g : Givens) (text : List ℕ) (h : Givens) → (w ≡ Goal → ⊥) → Adds w g text h → IsAfter w g text (goal_due h)
added Label g text h other a = (h, a, refl)
added Untrusted g text h other a = (h, a, refl)
added Loose g text h other a = (h, a, refl)
added Fact g text h other a = (h, a, refl)
added Goal g text h other a = absurd (other refl)

pub adds : (w : Word) (g : Givens) (text : List ℕ) (next : Stage) → (w ≡ Goal → ⊥) → IsAfter w g text next → (h : Givens) × Adds w g text h × (next ≡ goal_due h)
adds Label g text next other a = a
adds Untrusted g text next other a = a
adds Loose g text next other a = a
adds Fact g text next other a = a
adds Goal g text next other a = absurd (other refl)

-- the line may stand, and leads to this
abbrev pub IsLed : Word → Givens → List ℕ → Stage → Type 0
IsLed w g text next = MayStand w g × IsAfter w g text next

pub led : (w : Word) (line text : List ℕ) (g : Givens) (next : Stage) → line ≡ word_text w ++ text → Follows (goal_due g) line next → IsLed w g text next
led w line text g next d (label {text = t} {f = f} e m s) =
    subst (λ (v : Word). IsLed v g text next) (sym (word_is w Label line text t d e)) (m, (with_label g f, (f, subst (λ u. IsStatement u f) (sym (rest_is w Label line text t d e)) s, refl), refl))
led w line text g next d (untrusted {text = t} {p = p} e m s) =
    subst (λ (v : Word). IsLed v g text next) (sym (word_is w Untrusted line text t d e)) (m, (with_untrusted g p, (p, subst (λ u. IsPrincipal u p) (sym (rest_is w Untrusted line text t d e)) s, refl), refl))
led w line text g next d (loose {x = t} e m s) =
    let same = sym (rest_is w Loose line text t d e) in
    subst (λ (v : Word). IsLed v g text next) (sym (word_is w Loose line text t d e)) (m, (with_loose g t, (subst (λ u. IsName u) same s, ap (with_loose g) same), refl))
led w line text g next d (fact {text = t} {f = f} e m s) =
    subst (λ (v : Word). IsLed v g text next) (sym (word_is w Fact line text t d e)) (m, (with_fact g f, (f, subst (λ u. IsFact u f) (sym (rest_is w Fact line text t d e)) s, refl), refl))
led w line text g next d (goal {text = t} {f = f} e s) =
    subst (λ (v : Word). IsLed v g text next) (sym (word_is w Goal line text t d e)) (tt, (f, subst (λ u. IsGoal u f) (sym (rest_is w Goal line text t d e)) s, refl))

-- a line that begins with no word leads nowhere
pub wordless : (line : List ℕ) (g : Givens) (next : Stage) → ((w : Word) (rest : List ℕ) → line ≡ word_text w ++ rest → ⊥) → Follows (goal_due g) line next → ⊥
wordless line g next none (label e m s) = none Label _ e
wordless line g next none (untrusted e m s) = none Untrusted _ e
wordless line g next none (loose e m s) = none Loose _ e
wordless line g next none (fact e m s) = none Fact _ e
wordless line g next none (goal e s) = none Goal _ e

-- the other stages
pub after_header : (line : List ℕ) (next : Stage) → Follows header_due line next → (line ≡ codes "nexus trust 1") × (next ≡ subject_due)
after_header line next (header e) = (e, refl)

same_name : {line x y : List ℕ} → line ≡ codes "subject " ++ x → line ≡ codes "subject " ++ y → x ≡ y
same_name e f = cc

pub after_subject : (line x : List ℕ) (next : Stage) → line ≡ codes "subject " ++ x → Follows subject_due line next → IsName x × (next ≡ goal_due (subject_alone x))
after_subject line x next d (subject {x = y} e n) = let same = same_name e d in (subst (λ u. IsName u) same n, ap (λ u. goal_due (subject_alone u)) same)

pub after_end_due : (line : List ℕ) (form : TrustForm) (next : Stage) → Follows (end_due form) line next → (line ≡ codes "end") × (next ≡ ended form)
after_end_due line form next (end e) = (e, refl)

pub same_form : {a b : TrustForm} → ended a ≡ ended b → a ≡ b
same_form e = cc
