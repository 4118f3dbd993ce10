-- Lines of right records, behind the text of a policy, are audited.
use Rattle.std.proofs.Common.{◌≡◌, ◌≢◌, ◌<◌, ◌≤◌, ◌+◌, ◌^◌, ◌==◌, inl, inr, ℕ, suc, List, [], ◌∷◌, ◌++◌, Bool, true, false, not, IsTrue, codes, length, map, refl, sym, ap, subst, ◌∙◌, arith, append_assoc, append-nil, length-append}
use Rattle.std.specs.Fmt.{decimal}
use Rattle.std.specs.List.{All, flat_map, list_all}
use Rattle.std.proofs.lemmas.List.Elements.{All-cons, All-head, All-nil, All-tail, All-weaker}
use Rattle.nal_rules.specs.declared.verdicts.Cause.TheVariants as cause
use Rattle.nal_rules.specs.declared.verdicts.Fault.{Fault}
use Rattle.nal_rules.specs.declared.verdicts.Fault.TheVariants as fault
use Rattle.nal_rules.specs.declared.verdicts.Verdict.TheVariants as verdict
use Rattle.policy_history.specs.declared.heads.Head.{Head}
use Rattle.policy_history.specs.Events.{EntryTree, name_of}
use Rattle.policy_history.specs.PolicyLines.{event_text, spaced}
use Rattle.policy_history.specs.PolicyTexts.{ended, front, line_of, policy_text}
use Rattle.policy_history.proofs.ForCallers.{lines_bounded}
use Rattle.text_lines.specs.Lines.{after_line, first_line}
use Rattle.form_lines.specs.Reading.{Leads, here, on}
use Rattle.journal_text.specs.CutLaws.{IsWritten}
use Rattle.journal_text.specs.CutPolicies.{AreWholeLines}
use Rattle.journal_text.specs.PolicyFronts.{IsFront}
use Rattle.journal_text.specs.PolicyLaws.{IsKeptEntry}
use Rattle.journal_text.proofs.LawsForCallers.{printed_is_read}
use Rattle.journal_text.specs.PolicyText as policy
use Rattle.journal_text.proofs.CutTexts.{after_is, first_is, line_ahead}
use Rattle.journal_text.proofs.PrintedEvents.{name_line, number_line, three}
use Rattle.audit_check.specs.declared.records.Answers.{Answers}
use Rattle.audit_check.specs.declared.records.Answers.TheVariants.{Known, Unknown}
use Rattle.audit_check.specs.declared.records.Record.{Record}
use Rattle.audit_check.specs.declared.records.Recorded.{Recorded}
use Rattle.audit_check.specs.declared.records.Recorded.TheVariants as recorded
use Rattle.audit_check.specs.Records.{IsRightRecord}
use Rattle.audit_form.specs.AuditForm as form
use Rattle.audit_form.specs.AuditForm.{Follows, header, most_records, most_session, record_due}
use Rattle.audit_form.specs.AuditLaws.{IsRightLine, RightLinesAreAudited, audit_text}
use Rattle.audit_form.specs.RecordLines.{IsRecordLine, answer_letter, answers_text}
use Rattle.audit_form.specs.VerdictTexts.{IsNumbered, fault_name, verdict_text}

-- no byte is a line feed
abbrev IsUnfed : List ℕ → Type 0
IsUnfed bytes = IsTrue (list_all (λ b. not (b == 10)) bytes)

-- ---- The line of a record has no line feed

spaced_unfed : (first rest : List ℕ) → IsUnfed first → IsUnfed rest → IsUnfed (spaced first rest)
spaced_unfed first rest one other = three first (codes " ") rest one refl other

letters_unfed : (given : List Bool) → IsUnfed (map answer_letter given)
letters_unfed [] = refl
letters_unfed (true ∷ given) = letters_unfed given
letters_unfed (false ∷ given) = letters_unfed given

answers_unfed : (a : Answers) → IsUnfed (answers_text a)
answers_unfed Unknown = refl
answers_unfed (Known []) = refl
answers_unfed (Known (b ∷ bs)) = letters_unfed (b ∷ bs)

fault_unfed : (f : Fault) → IsUnfed (fault_name f)
fault_unfed fault.NoSuchRef = refl
fault_unfed fault.NotHyp = refl
fault_unfed fault.WrongShape = refl
fault_unfed fault.Capture = refl
fault_unfed fault.NotFresh = refl
fault_unfed fault.OutOfScope = refl
fault_unfed fault.NotTrue = refl
fault_unfed fault.TooManyAsks = refl
fault_unfed fault.NotAsk = refl
fault_unfed fault.NotClosed = refl
fault_unfed fault.StillOpen = refl
fault_unfed fault.NotGoal = refl

verdict_unfed : (v : Recorded) → IsNumbered v → IsUnfed (verdict_text v)
verdict_unfed recorded.NoObject n = refl
verdict_unfed (recorded.Told verdict.Allowed) n = refl
verdict_unfed (recorded.Told (verdict.Denied cause.GoalUnset)) n = refl
verdict_unfed (recorded.Told (verdict.Denied cause.NoProof)) n = refl
verdict_unfed (recorded.Told (verdict.Denied (cause.Line k f))) n = spaced_unfed (decimal k) (fault_name f) (number_line k n.1) (fault_unfed f)
verdict_unfed (recorded.Told (verdict.Denied (cause.LabelMissing k))) n = number_line k n.1
verdict_unfed (recorded.Told (verdict.Denied (cause.NotBound k))) n = number_line k n.1
verdict_unfed (recorded.Told (verdict.Denied (cause.AuthorityNo k))) n = number_line k n.1
verdict_unfed (recorded.Down k) n = number_line k (omega (arith, n.1))

line_unfed : (h : Head) (es : List EntryTree) (line : List ℕ) (r : Record) → length es < 2 ^ 64 → IsRecordLine h es line r → IsUnfed line
line_unfed h es line r few l =
    let point = l.within.point in
    let told = spaced_unfed (answers_text r.answers) (spaced (codes ":") (verdict_text r.verdict)) (answers_unfed r.answers) (verdict_unfed r.verdict l.lines) in
    subst IsUnfed (sym l.formed)
    (spaced_unfed (decimal r.at) _ (number_line r.at (omega (arith, point, few)))
    (spaced_unfed l.name _ (name_line l.name l.named) (spaced_unfed r.op _ (name_line r.op l.op) (spaced_unfed r.object _ (name_line r.object l.object) told))))

-- ---- The lines of records lead on

some_line : (line rest : List ℕ) → line ++ 10 ∷ rest ≢ []
some_line [] rest e = cc
some_line (b ∷ bs) rest e = cc

module _ (h : Head) (es : List EntryTree) where
  line_leads : {stage next last : form.Stage} {n : ℕ} (line rest : List ℕ) → IsUnfed line → Follows h es stage line next → Leads (Follows h es) next rest n last []
      → Leads (Follows h es) stage (ended line ++ rest) (n + 1) last []
  line_leads {stage = stage} {next = next} {last = last} {n = n} line rest one f l =
      let first : Follows h es stage (first_line (line ++ 10 ∷ rest)) next = subst (λ t. Follows h es stage t next) (sym (first_is line rest one)) f in
      let later : Leads (Follows h es) next (after_line (line ++ 10 ∷ rest)) n last [] = subst (λ t. Leads (Follows h es) next t n last []) (sym (after_is line rest one)) l in
      subst (λ t. Leads (Follows h es) stage t (n + 1) last []) (sym (append_assoc line (10 ∷ []) rest)) (on (some_line line rest) first later)

  -- what the lines of right records tell behind others
  record AreTold (before : List Record) (lines : List (List ℕ)) : Type 0 where
    records : List Record
    right : All (IsRightRecord h es) records
    count : length lines ≡ length records
    number : ℕ
    led : Leads (Follows h es) (record_due before) (flat_map ended lines ++ ended (codes "end")) number (form.ended (before ++ records)) []

  lines_told : (before : List Record) (lines : List (List ℕ)) → length es < 2 ^ 64 → All (IsRightLine h es) lines → length before + length lines ≤ most_records → AreTold before lines
  lines_told before [] short each few = record {
    records = [];
    right = All-nil (IsRightRecord h es);
    count = refl;
    number = 1;
    led = on (λ e. cc) (form.end refl) (subst (λ rs. Leads (Follows h es) (form.ended before) [] 0 (form.ended rs) []) (sym (append-nil before)) here);
  }
  lines_told before (line ∷ lines) short each few =
      let right = All-head (IsRightLine h es) line lines each in
      let r = right.0 in
      let longer = length-append before (r ∷ []) in
      let later = lines_told (before ++ r ∷ []) lines short (All-tail (IsRightLine h es) line lines each) (omega (arith, longer, few)) in
      let rest = flat_map ended lines ++ ended (codes "end") in
      let led = subst (λ rs. Leads (Follows h es) (record_due (before ++ r ∷ [])) rest later.number (form.ended rs) []) (append_assoc before (r ∷ []) later.records) later.led in
      record {
        records = r ∷ later.records;
        right = All-cons (IsRightRecord h es) r later.records right.2 later.right;
        count = ap suc later.count;
        number = later.number + 1;
        led =
            subst (λ t. Leads (Follows h es) (record_due before) t (later.number + 1) (form.ended (before ++ r ∷ later.records)) []) (sym (append_assoc (ended line) (flat_map ended lines) (ended (codes "end"))))
            (line_leads line rest (line_unfed h es line r short right.1) (form.one r (omega (arith, few)) right.1) led);
      }

-- ---- The text of a policy in front of more

-- whole lines that lead on do so with more behind them
leads_before : {stage last : policy.Stage} {text : List ℕ} {n : ℕ} (rest : List ℕ) → policy.Leads stage text n last [] → AreWholeLines text → policy.Leads stage (text ++ rest) n last rest
leads_before rest policy.here whole = policy.here
leads_before rest (policy.on some f l) (inl none) = absurd (some none)
leads_before {stage = stage} {last = last} {text = text} rest (policy.on {next = next} {n = n} some f l) (inr (before, e)) =
    let a = line_ahead before in
    let parts : text ≡ a.line ++ 10 ∷ a.rest = e ∙ a.parts in
    let longer : text ++ rest ≡ a.line ++ 10 ∷ (a.rest ++ rest) = ap (λ t. t ++ rest) parts ∙ append_assoc a.line (10 ∷ a.rest) rest in
    let first : first_line text ≡ first_line (text ++ rest) = ap first_line parts ∙ first_is a.line a.rest a.one ∙ sym (ap first_line longer ∙ first_is a.line (a.rest ++ rest) a.one) in
    let behind : after_line text ≡ a.rest = ap after_line parts ∙ after_is a.line a.rest a.one in
    let after : after_line text ++ rest ≡ after_line (text ++ rest) = ap (λ t. t ++ rest) behind ∙ sym (ap after_line longer ∙ after_is a.line (a.rest ++ rest) a.one) in
    let later = leads_before rest l (subst AreWholeLines (sym behind) a.whole) in
    policy.on (λ none. some_line a.line (a.rest ++ rest) (sym longer ∙ none)) (subst (λ t. policy.Follows stage t next) first f) (subst (λ t. policy.Leads next t n last rest) after later)

-- a line each, which is not empty
few_entries : (h : Head) (es : List EntryTree) → length es ≤ length (flat_map (line_of h) es)
few_entries h [] = omega arith
few_entries h (e ∷ es) =
    let later = few_entries h es in
    let whole = length-append (line_of h e) (flat_map (line_of h) es) in
    let line = length-append (spaced (decimal e.session) (spaced (name_of h.principals e.principal) (event_text e.event))) (10 ∷ []) in
    omega (arith, later, whole, line)

policy_front : (h : Head) (es : List EntryTree) (rest : List ℕ) → IsWritten h es → (n : ℕ) × IsFront most_session (policy_text h es ++ rest) h es n rest
policy_front h es rest w =
    let reads = printed_is_read h es w.head w.entries w.sessions w.legal in
    let whole : AreWholeLines (policy_text h es) = inr (front h es ++ codes "end", sym (append_assoc (front h es) (codes "end") (10 ∷ []))) in
    (reads.1, record { led = leads_before rest reads.2 whole; below = All-weaker IsKeptEntry (λ (e : EntryTree). e.session ≤ most_session) (λ e kept. let small = kept.session in omega (arith, small)) es w.entries })

-- ---- The law

pub right_lines_are_audited : RightLinesAreAudited
right_lines_are_audited h es lines w each few =
    let bounded = lines_bounded h es w.legal in
    let entries = few_entries h es in
    let told = lines_told h es [] lines (omega (arith, bounded, entries)) each (omega (arith, few)) in
    let rest = flat_map ended lines ++ ended (codes "end") in
    let behind = policy_text h es ++ rest in
    let front_of = policy_front h es rest w in
    let parts : audit_text h es lines ≡ header ++ 10 ∷ behind = append_assoc (ended header ++ policy_text h es) (flat_map ended lines) (ended (codes "end")) ∙ append_assoc (ended header) (policy_text h es) rest in
    record {
      form = record { head = h; entries = es; records = told.records };
      formed = record {
        some = λ e. some_line header behind (sym parts ∙ e);
        first = ap first_line parts ∙ first_is header behind refl;
        lines = front_of.0;
        rest = rest;
        policy = subst (λ t. IsFront most_session t h es front_of.0 rest) (sym (ap after_line parts ∙ after_is header behind refl)) front_of.1;
        read = (told.number, told.led);
      };
      count = told.count;
      audited = told.right;
    }
