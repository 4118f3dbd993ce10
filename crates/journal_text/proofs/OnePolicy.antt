-- No text reads as two policies, and a text that has an error has no other and reads as none.
use Rattle.std.proofs.Common.{◌≡◌, ◌≢◌, ◌+◌, ℕ, List, [], ◌∷◌, ◌++◌, codes, inl, inr, Option, Some, None, Result, Ok, Err, IfOk, IfErr, refl, sym, ap, ◌∙◌, subst, arith}
use Rattle.std.specs.Fmt.{decimal}
use Rattle.nal_parse.specs.Grammar.{IsFormulaText, IsTermText}
use Rattle.nal_parse.proofs.ForCallers.{one_formula, one_term}
use Rattle.proof_text.specs.ProofText.{IsProofText}
use Rattle.proof_text.proofs.ForCallers.{one_proof}
use Rattle.policy_history.specs.declared.heads.Head.{Head}
use Rattle.policy_history.specs.Events.{EntryTree, EventTree}
use Rattle.policy_history.specs.Events as event
use Rattle.policy_history.specs.Laws.{refusal_number}
use Rattle.policy_history.specs.Machine.{refusal_of, replay}
use Rattle.policy_history.specs.Values.{History, entry_trees}
use Rattle.policy_history.specs.PolicyLines.{spaced}
use Rattle.session_wire.specs.declared.requests.Request.{Request}
use Rattle.session_wire.specs.declared.requests.Request.TheVariants.{Hello, Say, Transfer, Delete, NewObject, SetGoal, ClearGoal, SetProof, ClearProof, Bind, Unbind, Call, See}
use Rattle.text_lines.specs.Lines.{first_line}
use Rattle.journal_text.specs.RequestEvents.{IsEventOf, IsSpelled}
use Rattle.journal_text.specs.PolicyText.{Fault, Follows, IsEntryLine, IsErrorOf, IsEventText, IsFaultAt, Leads, ReadsAs, Stage, authority, end, ended_with, entry, formless, head_of, header, header_due, here, on, open_with, principal, refusal}
use Rattle.journal_text.specs.PolicyLaws.{NoPolicyWithError, OnePolicy, OnePolicyError}
use Rattle.journal_text.specs.Inner.PolicyReading.{IsHeadLine}
use Rattle.journal_text.specs.declared.policy_reader.PolicyError.{PolicyError}
use Rattle.journal_text.specs.declared.policy_reader.PolicyError.TheVariants.{Bad, Refused, TooLong, Memory}
use Rattle.journal_text.proofs.OneRequest.{one_request}
use Rattle.journal_text.proofs.PolicyCuts.{name_unspaced, number_unspaced}
use Rattle.journal_text.proofs.PolicyEntries.{IsSoleEntry, end_no_entry, head_line_no_entry, sole_entry}
use Rattle.journal_text.proofs.PolicyHeads.{authority_not_end, authority_only, last_port, principal_not_end, principal_only, sole_authority, sole_principal}
use Rattle.journal_text.proofs.PolicyReading.{end_only, ended_same, entry_only, entry_refused, header_one, nothing_after}

-- ---- One event a text, one entry a line

spelled_one : {A : Type 0} (Spells : List ℕ → A → Type 0) → ((text : List ℕ) (x y : A) → Spells text x → Spells text y → x ≡ y)
    → (text : List ℕ) (a b : Option A) → IsSpelled Spells text a → IsSpelled Spells text b → a ≡ b
spelled_one Spells one text None None p q = refl
spelled_one Spells one text None (Some y) p q = absurd (p y q)
spelled_one Spells one text (Some x) None p q = absurd (q x p)
spelled_one Spells one text (Some x) (Some y) p q = ap (λ z. Some z) (one text x y p q)

event_one : (q : Request) (e f : EventTree) → IsEventOf q e → IsEventOf q f → e ≡ f
event_one (Say p x) (event.say t a) (event.say u b) v w =
    let s = spelled_one IsTermText one_term p t u v.0 w.0 in
    let r = spelled_one IsFormulaText one_formula x a b v.1 w.1 in
    cc
event_one (Transfer n to) e f v w = v ∙ sym w
event_one (Delete n) e f v w = v ∙ sym w
event_one (NewObject x) e f v w = v ∙ sym w
event_one (SetGoal op object x) (event.set_goal o1 x1 a) (event.set_goal o2 x2 b) v w =
    let r = spelled_one IsFormulaText one_formula x a b v.2 w.2 in
    cc
event_one (ClearGoal op object) e f v w = v ∙ sym w
event_one (SetProof op object x) (event.set_proof o1 x1 a) (event.set_proof o2 x2 b) v w =
    let r = spelled_one IsProofText one_proof x a b v.2 w.2 in
    cc
event_one (ClearProof op object) e f v w = v ∙ sym w
event_one (Bind p port) (event.bind t p1) (event.bind u p2) v w =
    let s = spelled_one IsTermText one_term p t u v.0 w.0 in
    cc
event_one (Unbind p) (event.unbind t) (event.unbind u) v w =
    let s = spelled_one IsTermText one_term p t u v w in
    cc
event_one (Say p x) (event.say t a) _ v w = absurd w
event_one (Say p x) _ _ v w = absurd v
event_one (SetGoal op object x) (event.set_goal o1 x1 a) _ v w = absurd w
event_one (SetGoal op object x) _ _ v w = absurd v
event_one (SetProof op object x) (event.set_proof o1 x1 a) _ v w = absurd w
event_one (SetProof op object x) _ _ v w = absurd v
event_one (Bind p port) (event.bind t p1) _ v w = absurd w
event_one (Bind p port) _ _ v w = absurd v
event_one (Unbind p) (event.unbind t) _ v w = absurd w
event_one (Unbind p) _ _ v w = absurd v
event_one (Hello name secret) e f v w = absurd v
event_one (Call op object arg) e f v w = absurd v
event_one (See number) e f v w = absurd v

event_text_one : (text : List ℕ) (e f : EventTree) → IsEventText text e → IsEventText text f → f ≡ e
event_text_one text e f a b =
    let same = one_request text b.0 a.0 b.1 a.1 in
    event_one a.0 f e (subst (λ q. IsEventOf q f) same b.2) a.2

-- a line that is that of an entry is that of this one alone
pub sole : {h : Head} {line : List ℕ} {e : EntryTree} → IsEntryLine h line e → IsSoleEntry h line e
sole {e = e} l = sole_entry l (λ f other. event_text_one l.text e.event f l.event other)

-- ---- One stage a line

head_not_end : (line : List ℕ) → IsHeadLine line → line ≡ codes "end" → ⊥
head_not_end line (inl p) is = principal_not_end p.1 is
head_not_end line (inr a) is = authority_not_end a.1 is

follows_one : {stage next other : Stage} {line : List ℕ} → Follows stage line next → Follows stage line other → other ≡ next
follows_one (header is) g = header_one g
follows_one {other = other} (principal {ps = ps} p is n s are) g =
    principal_only (head_of ps []) (ps ++ p ∷ []) is
    (λ q of. ap (λ x. ps ++ x ∷ []) (sym (sole_principal (spaced p.name p.secret) p.name p.secret p refl (name_unspaced p.name n) refl refl q of))) other g
follows_one {other = other} (authority {ps = ps} {qs = qs} a is are) g =
    let below = last_port qs a are in
    authority_only (head_of ps qs) (qs ++ a ∷ []) is
    (λ b of. ap (λ x. qs ++ x ∷ []) (sym (sole_authority (spaced (decimal a.port) a.address) (decimal a.port) a.address a refl (number_unspaced a.port below) refl below refl b of)))
    other g
follows_one {other = other} {line = line} (entry {h = h} {es = es} e l acc) g =
    entry_only e (λ none is. head_line_no_entry line is h e l) (sole l) refl (λ is. end_no_entry line is h e l) other g
follows_one {other = other} {line = line} (end is) g = end_only is (λ none l. head_not_end line l is) other g

-- ---- One fault where a text stops

-- no line that is wrong may stand
pub fault_stops : (stage : Stage) (rest : List ℕ) (a : Fault) (next : Stage) → IsFaultAt stage rest a → rest ≢ [] → Follows stage (first_line rest) next → ⊥
fault_stops stage rest formless next (inl none) some f = some none.0
fault_stops stage rest formless next (inr bad) some f = bad.1 next f
fault_stops header_due rest (refusal r) next w some f = w.1
fault_stops (open_with h es) rest (refusal r) next w some f =
    entry_refused w.1.0 r (λ none is. head_line_no_entry (first_line rest) is h w.1.0 w.1.1) (sole w.1.1) w.1.2 (λ is. end_no_entry (first_line rest) is h w.1.0 w.1.1) next f
fault_stops (ended_with h es) rest (refusal r) next w some f = w.1

fault_one : (stage : Stage) (rest : List ℕ) (a b : Fault) → IsFaultAt stage rest a → IsFaultAt stage rest b → a ≡ b
fault_one stage rest formless formless w v = refl
fault_one stage rest formless (refusal r) (inl none) v = absurd (v.0 none.0)
fault_one header_due rest formless (refusal r) (inr bad) v = absurd v.1
fault_one (open_with h es) rest formless (refusal r) (inr bad) v = absurd (bad.2 r v.1)
fault_one (ended_with h es) rest formless (refusal r) (inr bad) v = absurd v.1
fault_one stage rest (refusal r) formless w (inl none) = absurd (w.0 none.0)
fault_one header_due rest (refusal r) formless w (inr bad) = absurd w.1
fault_one (open_with h es) rest (refusal r) formless w (inr bad) = absurd (bad.2 r w.1)
fault_one (ended_with h es) rest (refusal r) formless w (inr bad) = absurd w.1
fault_one header_due rest (refusal r) (refusal q) w v = absurd w.1
fault_one (open_with h es) rest (refusal r) (refusal q) w v =
    let same = (sole w.1.1).only v.1.0 v.1.1 in
    let there : refusal_of h (replay h es) w.1.0.session w.1.0.principal w.1.0.event ≡ Some q =
    subst (λ (x : EntryTree). refusal_of h (replay h es) x.session x.principal x.event ≡ Some q) same v.1.2 in
    let found : Some r ≡ Some q = sym w.1.2 ∙ there in
    cc
fault_one (ended_with h es) rest (refusal r) (refusal q) w v = absurd w.1

no_fault_at_end : (h : Head) (es : List EntryTree) (a : Fault) → IsFaultAt (ended_with h es) [] a → ⊥
no_fault_at_end h es formless (inl none) = none.1
no_fault_at_end h es formless (inr bad) = bad.0 refl
no_fault_at_end h es (refusal r) w = w.0 refl

-- ---- One way to read

-- the same line leads to the same stage
pub retold : {stage next other last : Stage} {line text rest : List ℕ} {n : ℕ} → Follows stage line next → Follows stage line other → Leads other text n last rest → Leads next text n last rest
retold {last = last} {text = text} {rest = rest} {n = n} f g l = subst (λ s. Leads s text n last rest) (follows_one f g) l

read_one : {stage : Stage} {text : List ℕ} {n m : ℕ} {h g : Head} {es fs : List EntryTree} → Leads stage text n (ended_with h es) [] → Leads stage text m (ended_with g fs) []
    → (h ≡ g) × (es ≡ fs)
read_one here l = let s = ended_same l in (sym s.0, sym s.1)
read_one (on some f k) here = absurd (nothing_after f)
read_one (on some f k) (on more g l) = read_one k (retold f g l)

pub wrong_one : {stage last other : Stage} {text rest left : List ℕ} {n m : ℕ} (a b : Fault) → Leads stage text n last rest → IsFaultAt last rest a → Leads stage text m other left
    → IsFaultAt other left b → (n ≡ m) × (a ≡ b)
wrong_one {stage = stage} {text = text} a b here w here v = (refl, fault_one stage text a b w v)
wrong_one {stage = stage} {text = text} a b here w (on {next = next} some f k) v = absurd (fault_stops stage text a next w some f)
wrong_one {stage = stage} {text = text} a b (on {next = next} some f k) w here v = absurd (fault_stops stage text b next v some f)
wrong_one a b (on some f k) w (on more g l) v = let h = wrong_one a b k w (retold f g l) v in (ap (λ n. n + 1) h.0, h.1)

wrong_or_read : {stage last : Stage} {text rest : List ℕ} {n m : ℕ} (h : Head) (es : List EntryTree) (a : Fault) → Leads stage text n last rest → IsFaultAt last rest a
    → Leads stage text m (ended_with h es) [] → ⊥
wrong_or_read h es a here w here = no_fault_at_end h es a w
wrong_or_read {stage = stage} {text = text} h es a here w (on {next = next} some f k) = fault_stops stage text a next w some f
wrong_or_read h es a (on some f k) w here = nothing_after f
wrong_or_read h es a (on some f k) w (on more g l) = wrong_or_read h es a k w (retold f g l)

-- ---- The laws

pub one_policy : OnePolicy
one_policy text h g es fs a b = read_one a.2 b.2

pub no_policy_with_error : NoPolicyWithError
no_policy_with_error text (Bad k) h es some e r = wrong_or_read h es formless e.1.led e.1.wrong r.2
no_policy_with_error text (Refused k number) h es some e r = wrong_or_read h es (refusal e.1) e.3.led e.3.wrong r.2
no_policy_with_error text TooLong h es some e r = absurd (omega (arith, e, r.0))
no_policy_with_error text Memory h es some e r = some refl

pub one_policy_error : OnePolicyError
one_policy_error text (Bad k) (Bad j) p q a b =
    let h = wrong_one formless formless a.1.led a.1.wrong b.1.led b.1.wrong in
    let same : k ≡ j = omega (arith, a.1.number, b.1.number, h.0) in
    cc
one_policy_error text (Bad k) (Refused j number) p q a b =
    let h = wrong_one formless (refusal b.1) a.1.led a.1.wrong b.3.led b.3.wrong in
    absurd (cc (h.1))
one_policy_error text (Refused k number) (Bad j) p q a b =
    let h = wrong_one (refusal a.1) formless a.3.led a.3.wrong b.1.led b.1.wrong in
    absurd (cc (h.1))
one_policy_error text (Refused k number) (Refused j other) p q a b =
    let h = wrong_one (refusal a.1) (refusal b.1) a.3.led a.3.wrong b.3.led b.3.wrong in
    let same : k ≡ j = omega (arith, a.3.number, b.3.number, h.0) in
    let r : a.1 ≡ b.1 = cc (h.1) in
    let n : number ≡ other = a.2 ∙ ap refusal_number r ∙ sym b.2 in
    cc
one_policy_error text TooLong TooLong p q a b = refl
one_policy_error text TooLong (Bad j) p q a b = absurd (omega (arith, a, b.0))
one_policy_error text TooLong (Refused j other) p q a b = absurd (omega (arith, a, b.0))
one_policy_error text (Bad k) TooLong p q a b = absurd (omega (arith, b, a.0))
one_policy_error text (Refused k number) TooLong p q a b = absurd (omega (arith, b, a.0))
one_policy_error text Memory b p q x y = absurd (p refl)
one_policy_error text a Memory p q x y = absurd (q refl)

-- so what is read, and what is told, leave no other reading
pub sole_reading : (text : List ℕ) (r : Result History PolicyError) → IfOk r (λ j. ReadsAs text j.head (entry_trees j.entries))
    → IfOk r (λ j. (h : Head) (es : List EntryTree) → ReadsAs text h es → (h ≡ j.head) × (es ≡ entry_trees j.entries))
sole_reading text (Ok j) read = λ h es other. one_policy text h j.head es (entry_trees j.entries) other read
sole_reading text (Err e) read = tt

pub no_reading : (text : List ℕ) (r : Result History PolicyError) → IfErr r (IsErrorOf text) → IfErr r (λ e. e ≢ Memory → (h : Head) (es : List EntryTree) → ReadsAs text h es → ⊥)
no_reading text (Ok j) told = tt
no_reading text (Err e) told = λ some h es. no_policy_with_error text e h es some told
