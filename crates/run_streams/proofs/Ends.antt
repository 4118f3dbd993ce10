-- How a run ends, by what was read and told.
use Rattle.std.proofs.Common.{◌≡◌, ◌≢◌, ◌≤◌, ◌⊎◌, inl, inr, ℕ, List, length, IsTrue, Option, Some, None, refl, sym, subst, ◌∙◌, arith}
use Rattle.std.specs.Io.KnownBytes.{IsAtEnd}
use Rattle.nx_io.specs.Streams.{Grows, Rose, gained, prepended}
use Rattle.nx_io.proofs.ForCallers.{gained-by, gained-nothing, grows-by, grows-nothing}
use Rattle.run_streams.specs.Runs.{SinkRun, SourceRun, most_bytes}
use Rattle.run_streams.specs.declared.refusals.InputRefusal.{InputRefusal}
use Rattle.run_streams.specs.Refusals.{Form, IsRefusalOf, IsRefusedInput, RefusesExactly, refusal_text}
use Rattle.run_streams.specs.Telling.{Tells, whole, part, nothing}
use Rattle.run_streams.specs.Ends.{Answering, EndsAnswer, EndsUnanswered, HandsOn, IsAnswerOf, IsCompleteAnswer, RunsAnswer, answering, cut_off, no_memory, refusal_cut_off, refused, source_failed, whole as answered}
use Rattle.run_streams.proofs.Given.{apart, not_refused, read_whole, refused_by}

-- an input that is answered, as the source gave it
pub answer_given : {A : Type 0} {command : Answering A} (source : SourceRun) (left_now : Option (List ℕ)) (answer : A) (bytes : List ℕ) → source.known ≡ prepended source.given left_now
    → source.given ≡ bytes → IsTrue source.over → IsAtEnd left_now → length bytes ≤ most_bytes → command.form.formed bytes → command.told bytes answer → IsAnswerOf command source answer
answer_given {command = command} source left_now answer bytes taken same over end few formed told = record {
  small = subst (λ (b : List ℕ). length b ≤ most_bytes) (sym same) few;
  formed = subst (λ (b : List ℕ). command.form.formed b) (sym same) formed;
  told = subst (λ (b : List ℕ). command.told b answer) (sym same) told;
  whole = read_whole source left_now taken over end;
}

-- an answer, or a refusal, that was told ends the run
pub answer_ends : {A : Type 0} {command : Answering A} {source : SourceRun} {status : ℕ} (answer : A) (before now : List ℕ) (u v : ℕ) → IsAnswerOf command source answer
    → source.faults_now ≡ source.faults → Tells (command.written answer) (command.status answer) before now u v status
    → EndsAnswer command source (record { sent = gained before now; faults = u; faults_now = v }) status
answer_ends {command = command} answer before now u v is still (whole e w f) = inl (answered answer e is (gained-by before now (command.written answer) w) still f)
answer_ends answer before now u v is still (part e w f) = inl (cut_off answer e is (w.0, w.1, gained-by before now _ w.2) still f)
answer_ends answer before now u v is still (nothing e w f) = inr (no_memory e (rw w (gained-nothing before)) still f)

pub refusal_ends : {form : Form} {source : SourceRun} {status : ℕ} (why : InputRefusal) (before now : List ℕ) (u v : ℕ) → IsRefusalOf form source why
    → source.faults_now ≡ source.faults → Tells (refusal_text why) 3 before now u v status → EndsUnanswered form source (record { sent = gained before now; faults = u; faults_now = v }) status
refusal_ends why before now u v r still (whole e w f) = refused why e r (gained-by before now (refusal_text why) w) still f
refusal_ends why before now u v r still (part e w f) = refusal_cut_off why e r (w.0, w.1, gained-by before now _ w.2) still f
refusal_ends why before now u v r still (nothing e w f) = no_memory e (rw w (gained-nothing before)) still f

-- what was told grew
pub told_grows : {text : List ℕ} {ended u v status : ℕ} (before now : List ℕ) → Tells text ended before now u v status → Grows before now
told_grows before now (whole e w f) = grows-by before now _ w
told_grows before now (part e w f) = grows-by before now _ w.2
told_grows before now (nothing e w f) = rw w (grows-nothing before)

-- where nothing failed, an input that is not refused is answered, or there was no memory
pub unanswered_memory : (form : Form) (source : SourceRun) (sink : SinkRun) (status : ℕ) → EndsUnanswered form source sink status
    → ¬ Rose source.faults source.faults_now → ¬ Rose sink.faults sink.faults_now → ¬ IsRefusedInput form source.given → status ≡ 6
unanswered_memory form source sink status (refused why e r s f g) p q formed = absurd (formed (refused_by form source.given why r.given))
unanswered_memory form source sink status (refusal_cut_off why e r s f g) p q formed = absurd (q (rw g (omega arith)))
unanswered_memory form source sink status (source_failed e s f g) p q formed = absurd (p (rw f (omega arith)))
unanswered_memory form source sink status (no_memory e s f g) p q formed = e

-- what is not answered is refused exactly with 3
pub unanswered_refuses : (form : Form) (source : SourceRun) (sink : SinkRun) (status : ℕ) → EndsUnanswered form source sink status → RefusesExactly form source status
unanswered_refuses form source sink status (refused why e r s f g) = λ x y z. ((λ h. refused_by form source.given why r.given), λ h. e)
unanswered_refuses form source sink status (refusal_cut_off why e r s f g) = λ x y z. absurd (y e)
unanswered_refuses form source sink status (source_failed e s f g) = λ x y z. absurd (x e)
unanswered_refuses form source sink status (no_memory e s f g) = λ x y z. absurd (z e)

pub answer_complete : {A : Type 0} (command : Answering A) (source : SourceRun) (sink : SinkRun) (status : ℕ) → EndsAnswer command source sink status → IsCompleteAnswer command source sink status
answer_complete command source sink status (inl (answered answer e is s f g)) = λ p q formed. inr (answer, is, e, s)
answer_complete command source sink status (inl (cut_off answer e is cut f g)) = λ p q formed. absurd (q (rw g (omega arith)))
answer_complete command source sink status (inr ends) = λ p q formed. inl (unanswered_memory command.form source sink status ends p q formed)

pub answer_refuses : {A : Type 0} (command : Answering A) (source : SourceRun) (sink : SinkRun) (status : ℕ)
    → ((answer : A) → IsAnswerOf command source answer → status ≡ command.status answer → status ≡ 3 → ⊥) → EndsAnswer command source sink status → RefusesExactly command.form source status
answer_refuses command source sink status few (inl (answered answer e is s f g)) = λ x y z.
    ((λ h. absurd (few answer is e h)), λ r. absurd (not_refused command.form source.given is.small is.formed r))
answer_refuses command source sink status few (inl (cut_off answer e is cut f g)) = λ x y z. absurd (y e)
answer_refuses command source sink status few (inr ends) = unanswered_refuses command.form source sink status ends

-- what ends a run is a run, where the status of an answer that was given is not that of a refusal
pub runs_answer : {A : Type 0} {command : Answering A} {source : SourceRun} {sink : SinkRun} {status : ℕ}
    → ((answer : A) → IsAnswerOf command source answer → status ≡ command.status answer → status ≡ 3 → ⊥) → EndsAnswer command source sink status → RunsAnswer command source sink status
runs_answer {command = command} {source = source} {sink = sink} {status = status} few e = record {
  ends = e;
  complete = answer_complete command source sink status e;
  refuses = answer_refuses command source sink status few e;
}

-- a refusal that is told is no end at which all was done
pub refusal_never_done : {text before now : List ℕ} {u v status : ℕ} → Tells text 3 before now u v status → status ≡ 0 → ⊥
refusal_never_done {status = status} (whole e w f) zero = apart status 0 3 zero e refl
refusal_never_done {status = status} (part e w f) zero = apart status 0 5 zero e refl
refusal_never_done {status = status} (nothing e w f) zero = apart status 0 6 zero e refl

-- an input that is refused has no answer
pub never_both : {A : Type 0} {command : Answering A} {source : SourceRun} (why : InputRefusal) (answer : A) → IsRefusalOf command.form source why → IsAnswerOf command source answer → ⊥
never_both {command = command} {source = source} why answer r is = not_refused command.form source.given is.small is.formed (refused_by command.form source.given why r.given)

-- a run by a status that is the same
pub runs_with : {A : Type 0} {command : Answering A} {source : SourceRun} {sink : SinkRun} {status other : ℕ} → status ≡ other → RunsAnswer command source sink status
    → RunsAnswer command source sink other
runs_with {command = command} {source = source} {sink = sink} same runs = subst (λ (n : ℕ). RunsAnswer command source sink n) same runs

-- what is told of answers by what stands for them is told of that
abbrev mapped : {A B : Type 0} → (A → B) → Form → (List ℕ → B → Type 0) → (B → List ℕ) → (B → ℕ) → Answering A
mapped f form told written status = answering form (λ text a. told text (f a)) (λ a. written (f a)) (λ a. status (f a))

pub runs_as : {A B : Type 0} (f : A → B) {form : Form} {told : List ℕ → B → Type 0} {written : B → List ℕ} {ends : B → ℕ} {source : SourceRun} {sink : SinkRun} {status : ℕ}
    → RunsAnswer (answering form (λ text a. told text (f a)) (λ a. written (f a)) (λ a. ends (f a))) source sink status → RunsAnswer (answering form told written ends) source sink status
runs_as {A = A} {B = B} f {form = form} {told = told} {written = written} {ends = ends} {source = source} {sink = sink} {status = status} runs =
    record { ends = ends_as runs.ends; complete = λ p q formed. complete_as (runs.complete p q formed); refuses = runs.refuses }
  where
    is_as : (answer : A) → IsAnswerOf (mapped f form told written ends) source answer → IsAnswerOf (answering form told written ends) source (f answer)
    is_as answer is = record { small = is.small; formed = is.formed; told = is.told; whole = is.whole }

    ends_as : EndsAnswer (mapped f form told written ends) source sink status → EndsAnswer (answering form told written ends) source sink status
    ends_as (inl (answered answer e is s u v)) = inl (answered (f answer) e (is_as answer is) s u v)
    ends_as (inl (cut_off answer e is s u v)) = inl (cut_off (f answer) e (is_as answer is) s u v)
    ends_as (inr unanswered) = inr unanswered

    complete_as : (status ≡ 6) ⊎ ((answer : A) × IsAnswerOf (mapped f form told written ends) source answer × (status ≡ ends (f answer)) × (sink.sent ≡ written (f answer)))
        → (status ≡ 6) ⊎ ((answer : B) × IsAnswerOf (answering form told written ends) source answer × (status ≡ ends answer) × (sink.sent ≡ written answer))
    complete_as (inl e) = inl e
    complete_as (inr (answer, is, e, s)) = inr (f answer, is_as answer is, e, s)

-- ---- What is handed on

-- a refusal that was told whole is handed on, and any other end hands on none
pub refusal_hands : (form : Form) (source : SourceRun) (why : InputRefusal) (before now : List ℕ) (u v status : ℕ) (handed : Option InputRefusal) → IsRefusalOf form source why
    → Tells (refusal_text why) 3 before now u v status → (status ≡ 3 → handed ≡ Some why) → (status ≢ 3 → handed ≡ None)
    → HandsOn form source (record { sent = gained before now; faults = u; faults_now = v }) status handed
refusal_hands form source why before now u v status handed r (whole e w f) some none = rw (some e) (e, r, gained-by before now (refusal_text why) w)
refusal_hands form source why before now u v status handed r (part e w f) some none =
    let not : status ≢ 3 = λ three. apart status 5 3 e three refl in rw (none not) not
refusal_hands form source why before now u v status handed r (nothing e w f) some none =
    let not : status ≢ 3 = λ three. apart status 6 3 e three refl in rw (none not) not

-- a run that handed on none did not end with 3
pub none_hands : (form : Form) (source : SourceRun) (sink : SinkRun) (status : ℕ) (handed : Option InputRefusal) → handed ≡ None → status ≢ 3 → HandsOn form source sink status handed
none_hands form source sink status handed none not = rw none not

-- what is handed on is what ended the run with 3
pub handed_ends : (form : Form) (source : SourceRun) (sink : SinkRun) (status : ℕ) (handed : Option InputRefusal) → HandsOn form source sink status handed → status ≢ 3 → handed ≡ None
handed_ends form source sink status (Some why) h not = absurd (not h.0)
handed_ends form source sink status None h not = refl

-- what a sink was sent decides what is handed on, not how often it failed
pub hands_same : (form : Form) (source : SourceRun) (sink other : SinkRun) (status : ℕ) (handed : Option InputRefusal) → sink.sent ≡ other.sent → HandsOn form source sink status handed
    → HandsOn form source other status handed
hands_same form source sink other status (Some why) same h = (h.0, h.1, sym same ∙ h.2)
hands_same form source sink other status None same h = h
