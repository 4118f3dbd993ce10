-- The lines behind the policy: which may follow, and what the whole input then is.
use Rattle.std.proofs.Common.{◌≡◌, ◌<◌, ◌≤◌, ◌+◌, inl, inr, ℕ, List, [], ◌∷◌, ◌++◌, length, codes, refl, sym, subst, arith}
use Rattle.std.specs.List.{All}
use Rattle.std.proofs.lemmas.List.Elements.{All-nil, All-cons, All-append}
use Rattle.policy_history.specs.declared.heads.Head.{Head}
use Rattle.policy_history.specs.Events.{EntryTree}
use Rattle.form_lines.specs.Reading.{IsStuck, IsWrongAt, Leads, LeadsThrough, here, on}
use Rattle.form_lines.proofs.ForCallers.{long_left}
use Rattle.audit_check.specs.Audits.{IsWithin}
use Rattle.audit_check.specs.declared.records.Record.{Record}
use Rattle.audit_form.specs.AuditForm.{Follows, IsEnded, Stage, end, ended, most_records, one, record_due}
use Rattle.audit_form.specs.AuditForm.{AuditTree, IsAuditForm, header, in_policy, in_records, most_session}
use Rattle.audit_form.specs.Inner.Reading.{Behind, FollowsBehind, IsEndedBehind, IsWrongAfter, IsWrongBehind, IsWrongInput, behind, same}
use Rattle.audit_form.specs.declared.read.AuditError.{AuditError}
use Rattle.audit_form.specs.declared.read.AuditError.TheVariants.{Wrong, Memory}
use Rattle.audit_form.specs.RecordLines.{IsRecordLine}
use Rattle.journal_text.specs.PolicyFronts.{IsFront, IsFrontError, IsWrongFront, above, wrong}
use Rattle.journal_text.specs.PolicyText.{Stage as PolicyStage, Leads as PolicyLeads, here as policy_here, on as policy_on, formless, refusal}
use Rattle.journal_text.specs.declared.policy_reader.PolicyError.TheVariants.{Bad, Refused}
use Rattle.std.proofs.Common.{length-drop}
use Rattle.text_lines.specs.Lines.{after_line, first_line, line_length}

module _ (h : Head) (es : List EntryTree) where
  -- a line that may follow and is not `end` is that of a record
  pub record_follows : (line : List ℕ) (records : List Record) (next : Behind) → (line ≡ codes "end" → ⊥) → FollowsBehind (behind h es (record_due records)) line next
      → (r : Record) × (length records < most_records) × IsRecordLine h es line r × (next ≡ behind h es (record_due (records ++ r ∷ [])))
  record_follows line records next other (same (one r few l)) = (r, few, l, refl)
  record_follows line records next other (same (end e)) = absurd (other e)

  -- the records of a stage are
  abbrev AreWithin : Stage → Type 0
  AreWithin (record_due records) = All (IsWithin h es) records
  AreWithin (ended records) = All (IsWithin h es) records

  -- each record that was read is one of the journal and of its principals
  all_within : {stage last : Stage} {text rest : List ℕ} {n : ℕ} → Leads (Follows h es) stage text n last rest → AreWithin stage → AreWithin last
  all_within here all = all
  all_within (on some (one {records = records} r few l) later) all = all_within later (All-append (IsWithin h es) records (r ∷ []) all (All-cons (IsWithin h es) r [] l.within (All-nil (IsWithin h es))))
  all_within (on some (end e) later) all = all_within later all

  pub records_within : (text : List ℕ) (records : List Record) → LeadsThrough (Follows h es) (record_due []) text (ended records) → All (IsWithin h es) records
  records_within text records l = all_within l.1 (All-nil (IsWithin h es))

-- ---- The lines behind a policy, with the policy

-- the same lines lead on, and the policy stays
pub led_behind : {h : Head} {es : List EntryTree} {stage : Stage} {last : Behind} {text rest : List ℕ} {n : ℕ} → Leads FollowsBehind (behind h es stage) text n last rest
    → (end : Stage) × (last ≡ behind h es end) × Leads (Follows h es) stage text n end rest
led_behind {stage = stage} here = (stage, refl, here)
led_behind (on some (same f) leads) = let h = led_behind leads in (h.0, h.1, on some f h.2)

pub leads_behind : {h : Head} {es : List EntryTree} {stage last : Stage} {text rest : List ℕ} {n : ℕ} → Leads (Follows h es) stage text n last rest
    → Leads FollowsBehind (behind h es stage) text n (behind h es last) rest
leads_behind here = here
leads_behind (on some f leads) = on some (same f) (leads_behind leads)

stuck_behind : {h : Head} {es : List EntryTree} {stage : Stage} {last : Behind} {rest : List ℕ} → last ≡ behind h es stage → IsStuck FollowsBehind IsEndedBehind last rest
    → IsStuck (Follows h es) IsEnded stage rest
stuck_behind e (inl none) = inl (none.0, λ ends. none.1 (subst IsEndedBehind (sym e) ends))
stuck_behind {h = h} {es = es} {rest = rest} e (inr some) =
    inr (some.0, λ next f. some.1 (behind h es next) (subst (λ (b : Behind). FollowsBehind b (first_line rest) (behind h es next)) (sym e) (same f)))

pub wrong_behind : (h : Head) (es : List EntryTree) (stage : Stage) (text : List ℕ) (k : ℕ) → IsWrongAt FollowsBehind IsEndedBehind (behind h es stage) text k
    → IsWrongAt (Follows h es) IsEnded stage text k
wrong_behind h es stage text k w =
    let led = led_behind w.led in
    record { before = w.before; last = led.0; rest = w.rest; number = w.number; led = led.2; stuck = stuck_behind led.1 w.stuck }

-- where the last line was read, all lines lead to the records
pub records_read : {h x : Head} {es xs : List EntryTree} {text : List ℕ} {last : Behind} {records : List Record} {n : ℕ} → last ≡ behind x xs (ended records)
    → Leads FollowsBehind (behind h es (record_due [])) text n last [] → LeadsThrough (Follows h es) (record_due []) text (ended records)
records_read {h = h} {es = es} {text = text} {records = records} {n = n} e leads =
    let led = led_behind leads in
    let end : led.0 ≡ ended records = cc (e, led.1) in
    (n, subst (λ (s : Stage). Leads (Follows h es) (record_due []) text n s []) end led.2)

-- ---- The lines of the policy

policy_lines : {stage last : PolicyStage} {text rest : List ℕ} {n : ℕ} → PolicyLeads stage text n last rest → n + length rest ≤ length text
policy_lines policy_here = omega arith
policy_lines (policy_on {text = text} {rest = rest} {n = n} some f l) =
    let later = policy_lines l in
    let long = long_left text some in
    let dropped = length-drop (line_length text + 1) text in
    omega (arith, later, long, dropped)

pub bad_line : (text : List ℕ) (k : ℕ) → IsFrontError most_session text (Bad k) → k ≤ length text + 1
bad_line text k (inl w) = let few = policy_lines w.led in let number = w.number in omega (arith, few, number)
bad_line text k (inr w) = let few = policy_lines w.led in let number = w.number in omega (arith, few, number)

pub refused_line : (text : List ℕ) (k number : ℕ) → IsFrontError most_session text (Refused k number) → k ≤ length text + 1
refused_line text k number w = let few = policy_lines w.2.led in let line = w.2.number in omega (arith, few, line)

pub bad_policy : (text : List ℕ) (k : ℕ) → IsFrontError most_session text (Bad k) → IsWrongFront most_session text k
bad_policy text k (inl w) = wrong formless w
bad_policy text k (inr w) = above w

pub refused_policy : (text : List ℕ) (k number : ℕ) → IsFrontError most_session text (Refused k number) → IsWrongFront most_session text k
refused_policy text k number w = wrong (refusal w.0) w.2

pub records_error : (text : List ℕ) (h : Head) (es : List EntryTree) (n : ℕ) (rest : List ℕ) (e : AuditError) → (text ≡ [] → ⊥) → first_line text ≡ header → IsFront most_session (after_line text) h es n rest
    → IsWrongAfter h es (n + 1) rest e → IsWrongInput text e
records_error text h es n rest (Wrong k) some first front w =
    let number = w.1 in
    in_records n w.0 h es rest some first front w.2 (omega (arith, number))
records_error text h es n rest Memory some first front w = tt

pub policy_error : (text : List ℕ) (e : AuditError) → (text ≡ [] → ⊥) → first_line text ≡ header → IsWrongBehind (after_line text) e → IsWrongInput text e
policy_error text (Wrong k) some first w = let number = w.2 in in_policy w.0 some first w.1 (omega (arith, number))
policy_error text Memory some first w = tt

-- an input whose policy is that of another, and whose records are refused, is none
pub other_records : (text : List ℕ) (h : Head) (es : List EntryTree) (n : ℕ) (rest : List ℕ)
    → ((x : Head) (xs : List EntryTree) (m : ℕ) (r : List ℕ) → IsFront most_session (after_line text) x xs m r → (x ≡ h) × (xs ≡ es) × (m ≡ n) × (r ≡ rest))
    → ((others : List Record) → LeadsThrough (Follows h es) (record_due []) rest (ended others) → ⊥) → (other : AuditTree) → IsAuditForm text other → ⊥
other_records text h es n rest only none other f =
    let same = only other.head other.entries f.lines f.rest f.policy in
    none other.records
    (subst (λ (r : List ℕ). LeadsThrough (Follows h es) (record_due []) r (ended other.records)) same.3
    (subst (λ (xs : List EntryTree). LeadsThrough (Follows h xs) (record_due []) f.rest (ended other.records)) same.1
    (subst (λ (x : Head). LeadsThrough (Follows x other.entries) (record_due []) f.rest (ended other.records)) same.0 f.read)))
