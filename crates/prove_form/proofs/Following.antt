-- Which line may follow at a stage, from the word with which it begins.
use Rattle.std.proofs.Common.{◌≡◌, ◌++◌, ℕ, List, All, get_or, arith, codes, refl, subst, ap}
use Rattle.std.proofs.lemmas.List.Elements.{All-nil, All-push}
use Rattle.nal_term.specs.Free.{IsClosed}
use Rattle.nal_term.specs.Names.{IsName}
use Rattle.form_lines.specs.Reading.{Leads, here, on}
use Rattle.form_lines.specs.Statements.{IsStatement}
use Rattle.prove_form.specs.ProveForm.{Givens, ProveForm, Stage, header_due, subject_due, goal_due, end_due, ended, Follows, header, subject, label, goal, end, IsSaidGoal, subject_alone}
use Rattle.prove_form.specs.Inner.Reading.{IsAfterGoal, IsAfterLabel, IsSaid}

same_label : {line x y : List ℕ} → line ≡ codes "label " ++ x → line ≡ codes "label " ++ y → x ≡ y
same_label e f = cc

same_goal : {line x y : List ℕ} → line ≡ codes "goal " ++ x → line ≡ codes "goal " ++ y → x ≡ y
same_goal e f = cc

two_words : {line x y : List ℕ} → line ≡ codes "label " ++ x → line ≡ codes "goal " ++ y → ⊥
two_words {line = line} e f =
    let l : get_or line 0 0 ≡ 108 = ap (λ l. get_or l 0 0) e in
    let g : get_or line 0 0 ≡ 103 = ap (λ l. get_or l 0 0) f in
    absurd (omega (arith, l, g))

-- the text of a label leads on, and to nothing else
pub label_leads : (line text : List ℕ) (g : Givens) (next : Stage) → line ≡ codes "label " ++ text → IsAfterLabel g text next → Follows (goal_due g) line next
label_leads line text g next d a = rw a.next_is (label d a.room a.formed)

pub after_label : (line text : List ℕ) (g : Givens) (next : Stage) → line ≡ codes "label " ++ text → Follows (goal_due g) line next → IsAfterLabel g text next
after_label line text g next d (label {f = f} e room s) = record { room = room; label = f; formed = subst (λ u. IsStatement u f) (same_label e d) s; next_is = refl }
after_label line text g next d (goal e s) = absurd (two_words d e)

-- and so does that of the goal
pub goal_leads : (line text : List ℕ) (g : Givens) (next : Stage) → line ≡ codes "goal " ++ text → IsAfterGoal g text next → Follows (goal_due g) line next
goal_leads line text g next d a = rw a.next_is (goal d a.formed)

pub after_goal : (line text : List ℕ) (g : Givens) (next : Stage) → line ≡ codes "goal " ++ text → Follows (goal_due g) line next → IsAfterGoal g text next
after_goal line text g next d (label e room s) = absurd (two_words e d)
after_goal line text g next d (goal {f = f} e s) = record { goal = f; formed = subst (λ u. IsSaidGoal u f) (same_goal e d) s; next_is = refl }

-- a line that begins with neither word leads nowhere
pub wordless : (line : List ℕ) (g : Givens) (next : Stage) → ((x : List ℕ) → line ≡ codes "label " ++ x → ⊥) → ((x : List ℕ) → line ≡ codes "goal " ++ x → ⊥) → Follows (goal_due g) line next → ⊥
wordless line g next no_label no_goal (label e room s) = no_label _ e
wordless line g next no_label no_goal (goal e s) = no_goal _ e

-- what was read is as the rules of the lines ask
abbrev IsSound : Stage → Type 0
IsSound header_due = Unit {0}
IsSound subject_due = Unit {0}
IsSound (goal_due g) = All IsClosed g.labels
IsSound (end_due form) = IsSaid form
IsSound (ended form) = IsSaid form

sound_on : {stage next : Stage} {line : List ℕ} → Follows stage line next → IsSound stage → IsSound next
sound_on (header e) h = tt
sound_on (subject e n) h = All-nil IsClosed
sound_on (label {g = g} {f = f} e room s) h = All-push IsClosed g.labels f h s.closed
sound_on (goal e s) h = record { closed = h; said = s.said }
sound_on (end e) h = h

sound_through : {stage last : Stage} {text rest : List ℕ} {n : ℕ} → Leads Follows stage text n last rest → IsSound stage → IsSound last
sound_through here h = h
sound_through (on some follows leads) h = sound_through leads (sound_on follows h)

pub said_form : {text rest : List ℕ} {n : ℕ} {form : ProveForm} → Leads Follows header_due text n (ended form) rest → IsSaid form
said_form leads = sound_through leads tt

-- the other stages
pub after_header : (line : List ℕ) (next : Stage) → Follows header_due line next → (line ≡ codes "nexus prove 1") × (next ≡ subject_due)
after_header line next (header e) = (e, refl)

same_name : {line x y : List ℕ} → line ≡ codes "subject " ++ x → line ≡ codes "subject " ++ y → x ≡ y
same_name e f = cc

pub after_subject : (line x : List ℕ) (next : Stage) → line ≡ codes "subject " ++ x → Follows subject_due line next → IsName x × (next ≡ goal_due (subject_alone x))
after_subject line x next d (subject {x = y} e n) = let same = same_name e d in (subst (λ u. IsName u) same n, ap (λ u. goal_due (subject_alone u)) same)

pub after_end_due : (line : List ℕ) (form : ProveForm) (next : Stage) → Follows (end_due form) line next → (line ≡ codes "end") × (next ≡ ended form)
after_end_due line form next (end e) = (e, refl)

pub same_form : {a b : ProveForm} → ended a ≡ ended b → a ≡ b
same_form e = cc
