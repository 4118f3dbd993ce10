-- The line of a right record, at a point of the history, is one that the auditor reads as it.
use Rattle.std.proofs.Common.{◌≡◌, ◌≢◌, ◌<◌, ◌≤◌, ℕ, zero, suc, Bool, true, false, cond, nat_lt, List, [], AllPairs, length, get_or, take, Option, Some, None, option_map, slice_get, unwrap_or, refl, sym, ap, subst, ◌∙◌, arith, lt-ltb}
use Rattle.std.proofs.lemmas.List.Sums.{position_or_len_is}
use Rattle.std.proofs.lemmas.Option.{slice_get-get_or, slice_get_within}
use Rattle.nal_term.specs.Names.{IsName}
use Rattle.nal_term.specs.TreeKeys.{same_bytes, same_bytes-Decides}
use Rattle.proof_lines.specs.Lines.{LineTree}
use Rattle.nal_rules.specs.Asking.{lines_of}
use Rattle.nal_rules.specs.Faults.{line_at}
use Rattle.nal_rules.specs.Verdicts.{CaseTree, IsVerdict}
use Rattle.nal_rules.specs.declared.verdicts.Cause.TheVariants.{GoalUnset, NoProof, Line, LabelMissing, NotBound, AuthorityNo}
use Rattle.nal_rules.specs.declared.verdicts.Verdict.{Verdict}
use Rattle.nal_rules.specs.declared.verdicts.Verdict.TheVariants.{Allowed, Denied}
use Rattle.object_table.specs.Objects.{number_of}
use Rattle.policy_history.specs.declared.heads.Head.{Head}
use Rattle.policy_history.specs.declared.heads.Principal.{Principal}
use Rattle.policy_history.specs.Events.{EntryTree, name_of, numbered}
use Rattle.policy_history.specs.Judged.{case_at}
use Rattle.policy_history.specs.Machine.{replay}
use Rattle.policy_history.specs.States.{State}
use Rattle.journal_text.specs.CutLaws.{IsWritten}
use Rattle.audit_check.specs.declared.records.Answers.{Answers}
use Rattle.audit_check.specs.declared.records.Answers.TheVariants.{Known, Unknown}
use Rattle.audit_check.specs.declared.records.Record.{Record}
use Rattle.audit_check.specs.declared.records.Recorded.{Recorded}
use Rattle.audit_check.specs.declared.records.Recorded.TheVariants.{NoObject, Told, Down}
use Rattle.audit_check.specs.Records.{IsRightOf, IsRightOn, IsRightRecord, MayBe}
use Rattle.audit_check.proofs.ForCallers.{few_answers}
use Rattle.audit_form.specs.AuditLaws.{IsRightLine}
use Rattle.audit_form.specs.RecordLines.{AreFew, IsRecordLine, record_text}
use Rattle.audit_form.specs.VerdictTexts.{IsLineNumber, IsNumbered}
use Rattle.told_records.proofs.ShortProofs.{short_case}

-- ---- The answers are few

few_none : (a : Answers) → MayBe a [] → AreFew a
few_none (Known given) none = let count = ap length none in omega (arith, count)
few_none Unknown none = tt

few_of : (c : CaseTree) (a : Answers) (v : Recorded) → IsRightOf c a v → AreFew a
few_of c (Known given) v right = few_answers c given v right
few_of c Unknown v right = tt

few_on : (h : Head) (s : State) (r : Record) (o : Option ℕ) → IsRightOn h s r o → AreFew r.answers
few_on h s r None right = few_none r.answers right.1
few_on h s r (Some n) right = few_of (case_at h s r.principal r.op n) r.answers r.verdict right

-- ---- The line that is told is one of the proof's

line_there : (ls : List LineTree) (k : ℕ) (l : LineTree) → line_at ls k ≡ Some l → (1 ≤ k) × (k ≤ length ls)
line_there ls zero l at = absurd (cc at)
line_there ls (suc j) l at = let within = slice_get_within ls j l at in (omega arith, omega (arith, within))

module _ (c : CaseTree) (short : length (lines_of c) ≤ 256) where
  line_named : (ls : List LineTree) (k : ℕ) (l : LineTree) → c.proof ≡ Some ls → line_at ls k ≡ Some l → IsLineNumber k
  line_named ls k l is at =
      let count = ap (λ (o : Option (List LineTree)). length (unwrap_or o [])) is in
      let there = line_there ls k l at in
      (there.0, omega (arith, there.1, count, short))

  verdict_lines : (answers : List Bool) (verdict : Verdict) → IsVerdict c answers verdict → IsNumbered (Told verdict)
  verdict_lines answers Allowed told = tt
  verdict_lines answers (Denied GoalUnset) told = tt
  verdict_lines answers (Denied NoProof) told = tt
  verdict_lines answers (Denied (Line k fault)) ((ls, goal, is, goal_is, lowest), first) = line_named ls k lowest.faulty.line is lowest.faulty.stands
  verdict_lines answers (Denied (LabelMissing k)) ((ls, is, ((l, at, rule, missing), lowest)), first) = line_named ls k l is at
  verdict_lines answers (Denied (NotBound k)) ((ls, is, ((p, s, (l, at, rule, said), unbound), lowest)), first) = line_named ls k l is at
  verdict_lines answers (Denied (AuthorityNo k)) ((ls, is, ((l, at, rule, unanswered), lowest)), first) = line_named ls k l is at

  lines_of_right : (a : Answers) (v : Recorded) → IsRightOf c a v → IsNumbered v
  lines_of_right a NoObject right = absurd right
  lines_of_right a (Told verdict) (answers, may, told) = verdict_lines answers verdict told.told
  lines_of_right a (Down k) down =
      let there = line_there (lines_of c) k down.ask_line.0 down.ask_line.1 in
      (there.0, omega (arith, there.1, short))

-- ---- The principal is found by its name

no_principal : Principal
no_principal = record { name = []; secret = [] }

named_there : (ps : List Principal) (p : ℕ) → IsName (name_of ps p) → p < length ps
named_there ps p named = of (slice_get ps p) refl
  where
    of : (o : Option Principal) → slice_get ps p ≡ o → p < length ps
    of None e = absurd (cc (subst (λ (o : Option Principal). IsName (unwrap_or (option_map (λ (x : Principal). x.name) o) [])) e named))
    of (Some x) e = slice_get_within ps p x e

fails : (b : Bool) → (b ≡ true → ⊥) → b ≡ false
fails true never = absurd (never refl)
fails false never = refl

found_by_name : (ps : List Principal) (p : ℕ) → p < length ps → AllPairs (λ (x y : Principal). x.name ≢ y.name) ps → numbered ps (name_of ps p) ≡ Some p
found_by_name ps p within apart =
    let name = (get_or ps p no_principal).name in
    let test : Principal → Bool = λ (x : Principal). same_bytes name x.name in
    let before : (k : ℕ) → k < p → test (get_or ps k no_principal) ≡ false =
    λ k less. fails (test (get_or ps k no_principal)) (λ same. apart k p no_principal less within (sym ((same_bytes-Decides name (get_or ps k no_principal).name).0 same))) in
    let first = position_or_len_is test ps p no_principal (omega (arith, within)) before (λ h. (same_bytes-Decides name name).1 refl) in
    ap (λ (o : Option Principal). numbered ps (unwrap_or (option_map (λ (x : Principal). x.name) o) [])) (slice_get-get_or ps p no_principal within)
    ∙ ap (λ n. cond (nat_lt n (length ps)) (Some n) None) first ∙ ap (λ b. cond b (Some p) None) (lt-ltb p (length ps) within)

-- ---- The line

module _ (h : Head) (es : List EntryTree) (written : IsWritten h es) where
  lines_on : (r : Record) (o : Option ℕ) → IsRightOn h (replay h (take r.at es)) r o → IsNumbered r.verdict
  lines_on r None right = subst IsNumbered (sym right.0) tt
  lines_on r (Some n) right =
      lines_of_right (case_at h (replay h (take r.at es)) r.principal r.op n) (short_case h es r.at r.principal r.op n written.entries) r.answers r.verdict right

  pub right_line : (r : Record) → IsRightRecord h es r → r.at ≤ length es → IsName (name_of h.principals r.principal) → IsName r.op → IsName r.object
      → IsRightLine h es (record_text (name_of h.principals r.principal) r)
  right_line r right within named op object =
      let o = number_of (replay h (take r.at es)).objects r.object in
      let there = named_there h.principals r.principal named in
      let line : IsRecordLine h es (record_text (name_of h.principals r.principal) r) r = record {
        name = name_of h.principals r.principal;
        formed = refl;
        principal = found_by_name h.principals r.principal there written.head.principals.distinct;
        within = record { point = within; principal = there };
        named = named;
        op = op;
        object = object;
        few = few_on h (replay h (take r.at es)) r o right;
        lines = lines_on r o right;
      } in
      (r, line, right)
