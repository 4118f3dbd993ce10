-- No text that may be cut reads as two policies, and one that has an error has no other and reads as none.
use Rattle.std.proofs.Common.{◌≡◌, ◌≢◌, ◌≤◌, ◌⊎◌, ℕ, List, [], ◌∷◌, length, inl, inr, Result, Ok, Err, IfOk, IfErr, refl, sym, ap, ◌∙◌, subst, arith}
use Rattle.std.specs.List.{All}
use Rattle.std.proofs.lemmas.List.Elements.{All-append, All-cons, All-nil}
use Rattle.policy_history.specs.declared.heads.Head.{Head}
use Rattle.policy_history.specs.Events.{EntryTree}
use Rattle.policy_history.specs.Laws.{refusal_number}
use Rattle.policy_history.specs.Values.{History, entry_trees}
use Rattle.journal_text.specs.CutPolicies.{IsCutErrorOf, IsKept, IsWrongCut, IsWrongOpen, ReadsCut, ReadsOpen}
use Rattle.journal_text.specs.CutLaws.{NoCutPolicyWithError, OneCutError, OneCutPolicy}
use Rattle.journal_text.specs.PolicyLaws.{IsInSession}
use Rattle.journal_text.specs.PolicyText.{Fault, Follows, IsFaultAt, Leads, ReadsAs, Stage, authority, end, ended_with, entry, header, header_due, here, most_bytes, on, open_with, principal}
use Rattle.journal_text.specs.Inner.PolicyReading.{IsOpenError}
use Rattle.journal_text.specs.declared.policy_reader.PolicyError.{PolicyError}
use Rattle.journal_text.specs.declared.policy_reader.PolicyError.TheVariants.{Bad, Refused, TooLong, Memory}
use Rattle.journal_text.proofs.CutTexts.{one_kept}
use Rattle.journal_text.proofs.OnePolicy.{fault_stops, retold, wrong_one}

-- ---- Lines that lead to their end

-- all lines of a text lead to one stage
all_one : {stage last other : Stage} {text : List ℕ} {n m : ℕ} → Leads stage text n last [] → Leads stage text m other [] → last ≡ other
all_one here here = refl
all_one here (on some f k) = absurd (some refl)
all_one (on some f k) here = absurd (some refl)
all_one (on some f k) (on more g l) = all_one k (retold f g l)

pub nothing_leads : {stage last : Stage} {n : ℕ} → Leads stage [] n last [] → stage ≡ last
nothing_leads here = refl
nothing_leads (on some f k) = absurd (some refl)

open_one : {kept : List ℕ} {h g : Head} {es fs : List EntryTree} → ReadsOpen kept h es → ReadsOpen kept g fs → (h ≡ g) × (es ≡ fs)
open_one (n, inl k) (m, inl l) = let e = all_one k l in (cc, cc)
open_one (n, inr k) (m, inr l) = let e = all_one k l in (cc, cc)
open_one (n, inl k) (m, inr l) = let e = all_one k l in absurd (cc)
open_one (n, inr k) (m, inl l) = let e = all_one k l in absurd (cc)

-- ---- A line that is wrong

-- lines of which one is wrong lead to no end
wrong_or_all : {stage last other : Stage} {text rest : List ℕ} {n m : ℕ} (a : Fault) → Leads stage text n last rest → rest ≢ [] → IsFaultAt last rest a → Leads stage text m other [] → ⊥
wrong_or_all a here some w here = some refl
wrong_or_all {stage = stage} {text = text} a here some w (on {next = next} more f k) = fault_stops stage text a next w some f
wrong_or_all a (on more f k) some w here = more refl
wrong_or_all a (on more f k) some w (on also g l) = wrong_or_all a k some w (retold f g l)

wrong_or_open : {kept : List ℕ} {k : ℕ} {a : Fault} {h : Head} {es : List EntryTree} → IsWrongOpen kept k a → ReadsOpen kept h es → ⊥
wrong_or_open {kept = kept} {a = a} {h = h} {es = es} w (n, led) = of w.there led
  where
    of : (w.wrong.rest ≢ []) ⊎ (kept ≡ []) → Leads header_due kept n (open_with h es) [] ⊎ Leads header_due kept n (ended_with h es) [] → ⊥
    of (inl some) (inl l) = wrong_or_all a w.wrong.led some w.wrong.wrong l
    of (inl some) (inr l) = wrong_or_all a w.wrong.led some w.wrong.wrong l
    of (inr none) (inl l) = let e = nothing_leads (subst (λ t. Leads header_due t n (open_with h es) []) none l) in cc
    of (inr none) (inr l) = let e = nothing_leads (subst (λ t. Leads header_due t n (ended_with h es) []) none l) in cc

open_fault : {kept : List ℕ} {k j : ℕ} {a b : Fault} → IsWrongOpen kept k a → IsWrongOpen kept j b → (k ≡ j) × (a ≡ b)
open_fault {a = a} {b = b} v w =
    let h = wrong_one a b v.wrong.led v.wrong.wrong w.wrong.led w.wrong.wrong in
    (omega (arith, v.wrong.number, w.wrong.number, h.0), h.1)

cut_fault : {text : List ℕ} {k j : ℕ} {a b : Fault} → IsWrongCut text k a → IsWrongCut text j b → (k ≡ j) × (a ≡ b)
cut_fault {text = text} {k = k} {a = a} v w = open_fault (subst (λ t. IsWrongOpen t k a) (one_kept text v.kept w.kept v.keeps w.keeps) v.wrong) w.wrong

-- ---- The laws

pub one_cut_policy : OneCutPolicy
one_cut_policy text h g es fs a b = open_one (subst (λ t. ReadsOpen t h es) (one_kept text a.kept b.kept a.keeps b.keeps) a.reads) b.reads

wrong_or_cut : {text : List ℕ} {k : ℕ} {a : Fault} {h : Head} {es : List EntryTree} → IsWrongCut text k a → ReadsCut text h es → ⊥
wrong_or_cut {text = text} {k = k} {a = a} w r = wrong_or_open (subst (λ t. IsWrongOpen t k a) (one_kept text w.kept r.kept w.keeps r.keeps) w.wrong) r.reads

pub no_cut_policy_with_error : NoCutPolicyWithError
no_cut_policy_with_error text (Bad k) h es some e r = wrong_or_cut e r
no_cut_policy_with_error text (Refused k number) h es some e r = wrong_or_cut e.2 r
no_cut_policy_with_error text TooLong h es some e r = absurd (omega (arith, e, r.short))
no_cut_policy_with_error text Memory h es some e r = some refl

pub one_cut_error : OneCutError
one_cut_error text (Bad k) (Bad j) p q a b = let h = (cut_fault a b).0 in cc
one_cut_error text (Bad k) (Refused j number) p q a b = let h = (cut_fault a b.2).1 in absurd (cc)
one_cut_error text (Refused k number) (Bad j) p q a b = let h = (cut_fault a.2 b).1 in absurd (cc)
one_cut_error text (Refused k number) (Refused j other) p q a b =
    let h = cut_fault a.2 b.2 in
    let same : k ≡ j = h.0 in
    let r : a.0 ≡ b.0 = cc (h.1) in
    let n : number ≡ other = a.1 ∙ ap refusal_number r ∙ sym b.1 in
    cc
one_cut_error text TooLong TooLong p q a b = refl
one_cut_error text TooLong (Bad j) p q a b = absurd (omega (arith, a, b.short))
one_cut_error text TooLong (Refused j other) p q a b = absurd (omega (arith, a, b.2.short))
one_cut_error text (Bad k) TooLong p q a b = absurd (omega (arith, b, a.short))
one_cut_error text (Refused k number) TooLong p q a b = absurd (omega (arith, b, a.2.short))
one_cut_error text Memory b p q x y = absurd (p refl)
one_cut_error text a Memory p q x y = absurd (q refl)

-- so what is read, and what is told, leave no other reading
pub sole_cut : (text : List ℕ) (r : Result History PolicyError) → IfOk r (λ j. ReadsCut text j.head (entry_trees j.entries))
    → IfOk r (λ j. (h : Head) (es : List EntryTree) → ReadsCut text h es → (h ≡ j.head) × (es ≡ entry_trees j.entries))
sole_cut text (Ok j) read = λ h es other. one_cut_policy text h j.head es (entry_trees j.entries) other read
sole_cut text (Err e) read = tt

pub no_cut : (text : List ℕ) (r : Result History PolicyError) → IfErr r (IsCutErrorOf text) → IfErr r (λ e. e ≢ Memory → (h : Head) (es : List EntryTree) → ReadsCut text h es → ⊥)
no_cut text (Ok j) told = tt
no_cut text (Err e) told = λ some h es. no_cut_policy_with_error text e h es some told

-- ---- Each entry that is read has a session

abbrev IsTold : Stage → Type 0
IsTold header_due = Unit {0}
IsTold (open_with h es) = All IsInSession es
IsTold (ended_with h es) = All IsInSession es

told_by : {stage next : Stage} {line : List ℕ} → Follows stage line next → IsTold stage → IsTold next
told_by (header is) told = All-nil IsInSession
told_by (principal p is n s are) told = All-nil IsInSession
told_by (authority a is are) told = All-nil IsInSession
told_by (entry {es = es} e l acc) told = All-append IsInSession es (e ∷ []) told (All-cons IsInSession e [] l.session.0 (All-nil IsInSession))
told_by (end is) told = told

all_told : {stage last : Stage} {text rest : List ℕ} {n : ℕ} → Leads stage text n last rest → IsTold stage → IsTold last
all_told here told = told
all_told (on some f k) told = all_told k (told_by f told)

open_told : {kept : List ℕ} {h : Head} {es : List EntryTree} → ReadsOpen kept h es → All IsInSession es
open_told (n, inl k) = all_told k tt
open_told (n, inr k) = all_told k tt

pub read_sessions : (text : List ℕ) (h : Head) (es : List EntryTree) → ReadsAs text h es → All IsInSession es
read_sessions text h es reads = all_told reads.2 tt

pub cut_sessions : (text : List ℕ) (r : Result History PolicyError) → IfOk r (λ j. ReadsCut text j.head (entry_trees j.entries)) → IfOk r (λ j. All IsInSession (entry_trees j.entries))
cut_sessions text (Ok j) read = open_told read.reads
cut_sessions text (Err e) read = tt

-- ---- What is kept of a text reads as the text

pub cut_read : (text kept : List ℕ) (r : Result History PolicyError) → length text ≤ most_bytes → IsKept text kept → IfOk r (λ j. ReadsOpen kept j.head (entry_trees j.entries))
    → IfOk r (λ j. ReadsCut text j.head (entry_trees j.entries))
cut_read text kept (Ok j) short keeps read = record { short = short; kept = kept; keeps = keeps; reads = read }
cut_read text kept (Err e) short keeps read = tt

pub cut_told : (text kept : List ℕ) (r : Result History PolicyError) → length text ≤ most_bytes → IsKept text kept → IfErr r (IsOpenError kept) → IfErr r (IsCutErrorOf text)
cut_told text kept (Ok j) short keeps told = tt
cut_told text kept (Err (Bad k)) short keeps told = record { short = short; kept = kept; keeps = keeps; wrong = told }
cut_told text kept (Err (Refused k number)) short keeps told = (told.0, told.1, record { short = short; kept = kept; keeps = keeps; wrong = told.2 })
cut_told text kept (Err TooLong) short keeps told = absurd told
cut_told text kept (Err Memory) short keeps told = tt
