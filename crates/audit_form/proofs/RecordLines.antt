-- The line of a record: its words, and that it is of one record.
use Rattle.std.proofs.Common.{◌≡◌, ◌<◌, ◌≤◌, ◌^◌, ℕ, List, ◌++◌, length, codes, Some, refl, sym, ap, subst, ◌∙◌, arith}
use Rattle.std.specs.Fmt.{decimal}
use Rattle.std.proofs.lemmas.Fmt.{decimal_injective}
use Rattle.policy_history.specs.declared.heads.Head.{Head}
use Rattle.policy_history.specs.Events.{EntryTree, numbered}
use Rattle.policy_history.specs.PolicyLines.{spaced}
use Rattle.journal_text.specs.Inner.PolicyReading.{IsUnspaced}
use Rattle.journal_text.proofs.WordsForCallers.{cut_same, name_unspaced, number_unspaced}
use Rattle.nal_term.specs.Names.{IsName}
use Rattle.audit_form.specs.CallLines.{IsCallLine}
use Rattle.audit_form.specs.declared.record_lines.Call.{Call}
use Rattle.audit_check.specs.declared.records.Answers.{Answers}
use Rattle.audit_check.specs.declared.records.Record.{Record}
use Rattle.audit_check.specs.declared.records.Recorded.{Recorded}
use Rattle.audit_form.specs.Inner.Reading.{AreWords, IsAnswersText, IsToldText}
use Rattle.audit_form.specs.RecordLines.{IsRecordLine, answers_text, told_text}
use Rattle.audit_form.specs.VerdictTexts.{IsVerdictText, verdict_text}
use Rattle.audit_form.proofs.AnswerLetters.{answers_plain, one_answers}
use Rattle.audit_form.proofs.VerdictTexts.{one_verdict}

-- ---- Answers, and what was answered

after_sign : (x y : List ℕ) → spaced (codes ":") x ≡ spaced (codes ":") y → x ≡ y
after_sign x y e = cc

pub told_parts : (text letters rest : List ℕ) (a : Answers) (v : Recorded) → text ≡ spaced letters rest → IsUnspaced letters → IsToldText text a v
    → (letters ≡ answers_text a) × (rest ≡ spaced (codes ":") (verdict_text v))
told_parts text letters rest a v cut plain t = cut_same letters rest (answers_text a) (spaced (codes ":") (verdict_text v)) (sym cut ∙ t.formed) plain (answers_plain a)

pub one_told : (text : List ℕ) (a b : Answers) (v u : Recorded) → IsToldText text a v → IsToldText text b u → (a ≡ b) × (v ≡ u)
one_told text a b v u s t =
    let parts = told_parts text (answers_text a) (spaced (codes ":") (verdict_text v)) b u s.formed (answers_plain a) t in
    let texts : verdict_text v ≡ verdict_text u = after_sign (verdict_text v) (verdict_text u) parts.1 in
    (one_answers a b parts.0, one_verdict (verdict_text v) v u (record { formed = refl; numbered = s.lines }) (record { formed = texts; numbered = t.lines }))

-- ---- Words

pub record WordsSame (at name op object told a n o b t : List ℕ) : Type 0 where
  pub at_is : at ≡ a
  pub name_is : name ≡ n
  pub op_is : op ≡ o
  pub object_is : object ≡ b
  pub told_is : told ≡ t

pub one_cut : (line at name op object told a n o b t : List ℕ) → AreWords line at name op object told → AreWords line a n o b t → WordsSame at name op object told a n o b t
one_cut line at name op object told a n o b t p q =
    let w = cut_same at (spaced name (spaced op (spaced object told))) a (spaced n (spaced o (spaced b t))) (sym p.formed ∙ q.formed) p.at_plain q.at_plain in
    let x = cut_same name (spaced op (spaced object told)) n (spaced o (spaced b t)) w.1 p.name_plain q.name_plain in
    let y = cut_same op (spaced object told) o (spaced b t) x.1 p.op_plain q.op_plain in
    let z = cut_same object told b t y.1 p.object_plain q.object_plain in
    record { at_is = w.0; name_is = x.0; op_is = y.0; object_is = z.0; told_is = z.1 }

module _ (h : Head) (es : List EntryTree) (short : length es < 2 ^ 64) (line : List ℕ) (c : Call) (rest : List ℕ) (l : IsCallLine h es line c rest) where
  pub words_in : AreWords line (decimal c.at) l.name c.op c.object rest
  words_in = record {
    formed = l.formed;
    at_plain = number_unspaced c.at (let point = l.point in omega (arith, point, short));
    name_plain = name_unspaced l.name l.named;
    op_plain = name_unspaced c.op l.op;
    object_plain = name_unspaced c.object l.object;
  }

  -- the words that were cut are those of the call
  pub cut_in : (at name op object told : List ℕ) → AreWords line at name op object told → WordsSame at name op object told (decimal c.at) l.name c.op c.object rest
  cut_in at name op object told w = one_cut line at name op object told (decimal c.at) l.name c.op c.object rest w words_in

some_same : {A : Type 0} {x y : A} → Some x ≡ Some y → x ≡ y
some_same e = cc

-- a line begins with one call
pub one_call : (h : Head) (es : List EntryTree) → length es < 2 ^ 64 → (line : List ℕ) (c d : Call) (rest behind : List ℕ) → IsCallLine h es line c rest → IsCallLine h es line d behind → (d ≡ c) × (behind ≡ rest)
one_call h es short line c d rest behind l m =
    let w = cut_in h es short line d behind m (decimal c.at) l.name c.op c.object rest (words_in h es short line c rest l) in
    let point = l.point in
    let other = m.point in
    let at : d.at ≡ c.at = decimal_injective d.at c.at (omega (arith, other, short)) (omega (arith, point, short)) (sym w.at_is) in
    let principal : d.principal ≡ c.principal = some_same (sym m.principal ∙ ap (numbered h.principals) (sym w.name_is) ∙ l.principal) in
    let op : d.op ≡ c.op = sym w.op_is in
    let object : d.object ≡ c.object = sym w.object_is in
    (λ i. record { at = at i; principal = principal i; op = op i; object = object i }, sym w.told_is)

-- ---- The call of a record

abbrev pub call_of : Record → Call
call_of r = record { at = r.at; principal = r.principal; op = r.op; object = r.object }

-- the record's line begins with its call, behind which the rest of it stands
pub call_in : (h : Head) (es : List EntryTree) (line : List ℕ) (r : Record) → IsRecordLine h es line r → IsCallLine h es line (call_of r) (told_text r.answers r.verdict)
call_in h es line r l = record { name = l.name; formed = l.formed; principal = l.principal; point = l.within.point; within = l.within.principal; named = l.named; op = l.op; object = l.object }

pub told_in : (h : Head) (es : List EntryTree) (line : List ℕ) (r : Record) → IsRecordLine h es line r → IsToldText (told_text r.answers r.verdict) r.answers r.verdict
told_in h es line r l = record { formed = refl; few = l.few; lines = l.lines }

-- a call, and behind it what was answered to it, are the line of a record
pub record_made : (h : Head) (es : List EntryTree) (line : List ℕ) (c : Call) (rest : List ℕ) (a : Answers) (v : Recorded) → IsCallLine h es line c rest → IsToldText rest a v
    → IsRecordLine h es line (record { at = c.at; principal = c.principal; op = c.op; object = c.object; answers = a; verdict = v })
record_made h es line c rest a v l t = record {
  name = l.name;
  formed = l.formed ∙ ap (λ (x : List ℕ). spaced (decimal c.at) (spaced l.name (spaced c.op (spaced c.object x)))) t.formed;
  principal = l.principal;
  within = record { point = l.point; principal = l.within };
  named = l.named;
  op = l.op;
  object = l.object;
  few = t.few;
  lines = t.lines;
}

-- another record of the line has this call, and the rest tells its answer
pub other_told : (h : Head) (es : List EntryTree) (line : List ℕ) (c : Call) (rest : List ℕ)
    → ((d : Call) (behind : List ℕ) → IsCallLine h es line d behind → (d ≡ c) × (behind ≡ rest)) → (r : Record) → IsRecordLine h es line r → IsToldText rest r.answers r.verdict
other_told h es line c rest only r l = subst (λ (t : List ℕ). IsToldText t r.answers r.verdict) (only (call_of r) (told_text r.answers r.verdict) (call_in h es line r l)).1 (told_in h es line r l)

pub one_record : (h : Head) (es : List EntryTree) (line : List ℕ) (c : Call) (rest : List ℕ) (a : Answers) (v : Recorded)
    → ((d : Call) (behind : List ℕ) → IsCallLine h es line d behind → (d ≡ c) × (behind ≡ rest)) → IsToldText rest a v
    → (r : Record) → IsRecordLine h es line r → r ≡ record { at = c.at; principal = c.principal; op = c.op; object = c.object; answers = a; verdict = v }
one_record h es line c rest a v only t r l =
    let call : call_of r ≡ c = (only (call_of r) (told_text r.answers r.verdict) (call_in h es line r l)).0 in
    let told = one_told rest r.answers a r.verdict v (other_told h es line c rest only r l) t in
    λ i. record { at = (call i).at; principal = (call i).principal; op = (call i).op; object = (call i).object; answers = told.0 i; verdict = told.1 i }

-- ---- Lines that have not so many words

pub no_second : (line at rest : List ℕ) → line ≡ spaced at rest → IsUnspaced at → ((word text : List ℕ) → rest ≡ spaced word text → ⊥) → (a n o b t : List ℕ) → AreWords line a n o b t → ⊥
no_second line at rest cut plain none a n o b t w =
    let x = cut_same at rest a (spaced n (spaced o (spaced b t))) (sym cut ∙ w.formed) plain w.at_plain in
    none n (spaced o (spaced b t)) x.1

pub no_third : (line at rest name behind : List ℕ) → line ≡ spaced at rest → IsUnspaced at → rest ≡ spaced name behind → IsUnspaced name
    → ((word text : List ℕ) → behind ≡ spaced word text → ⊥) → (a n o b t : List ℕ) → AreWords line a n o b t → ⊥
no_third line at rest name behind cut plain cut2 plain2 none a n o b t w =
    let x = cut_same at rest a (spaced n (spaced o (spaced b t))) (sym cut ∙ w.formed) plain w.at_plain in
    let y = cut_same name behind n (spaced o (spaced b t)) (sym cut2 ∙ x.1) plain2 w.name_plain in
    none o (spaced b t) y.1

pub no_fourth : (line at rest name behind op last : List ℕ) → line ≡ spaced at rest → IsUnspaced at → rest ≡ spaced name behind → IsUnspaced name → behind ≡ spaced op last → IsUnspaced op
    → ((word text : List ℕ) → last ≡ spaced word text → ⊥) → (a n o b t : List ℕ) → AreWords line a n o b t → ⊥
no_fourth line at rest name behind op last cut plain cut2 plain2 cut3 plain3 none a n o b t w =
    let x = cut_same at rest a (spaced n (spaced o (spaced b t))) (sym cut ∙ w.formed) plain w.at_plain in
    let y = cut_same name behind n (spaced o (spaced b t)) (sym cut2 ∙ x.1) plain2 w.name_plain in
    let z = cut_same op last o (spaced b t) (sym cut3 ∙ y.1) plain3 w.op_plain in
    none b t z.1

pub verdict_in : (text letters rest : List ℕ) (a : Answers) (v : Recorded) (behind : List ℕ) → text ≡ spaced letters rest → IsUnspaced letters → rest ≡ codes ": " ++ behind → IsToldText text a v → IsVerdictText behind v
verdict_in text letters rest a v behind cut plain sign t =
    let parts = told_parts text letters rest a v cut plain t in
    let same : behind ≡ verdict_text v = after_colon behind (verdict_text v) (sym sign ∙ parts.1) in
    record { formed = same; numbered = t.lines }
  where
    after_colon : (x y : List ℕ) → codes ": " ++ x ≡ spaced (codes ":") y → x ≡ y
    after_colon x y e = cc

pub answers_in : (text letters rest : List ℕ) (a : Answers) (v : Recorded) → text ≡ spaced letters rest → IsUnspaced letters → IsToldText text a v → IsAnswersText letters a
answers_in text letters rest a v cut plain t = record { formed = (told_parts text letters rest a v cut plain t).0; few = t.few }

pub told_made : (text letters rest behind : List ℕ) (a : Answers) (v : Recorded) → text ≡ spaced letters rest → rest ≡ codes ": " ++ behind → IsAnswersText letters a → IsVerdictText behind v → IsToldText text a v
told_made text letters rest behind a v cut sign la bv = record {
  formed = cut ∙ ap (λ (x : List ℕ). spaced x rest) la.formed ∙ ap (λ (y : List ℕ). spaced (answers_text a) y) (sign ∙ ap (λ (y : List ℕ). codes ": " ++ y) bv.formed);
  few = la.few;
  lines = bv.numbered;
}

-- ---- What was read is the call of the line

pub call_made : (h : Head) (es : List EntryTree) (line at name op object told : List ℕ) (c : Call) → AreWords line at name op object told → at ≡ decimal c.at → numbered h.principals name ≡ Some c.principal
    → c.at ≤ length es → c.principal < length h.principals → IsName name → c.op ≡ op → IsName op → c.object ≡ object → IsName object → IsCallLine h es line c told
call_made h es line at name op object told c w at_is principal point within named op_is op_named object_is object_named = record {
  name = name;
  formed =
      w.formed ∙ ap (λ (x : List ℕ). spaced x (spaced name (spaced op (spaced object told)))) at_is ∙ ap (λ (x : List ℕ). spaced (decimal c.at) (spaced name (spaced x (spaced object told)))) (sym op_is)
      ∙ ap (λ (x : List ℕ). spaced (decimal c.at) (spaced name (spaced c.op (spaced x told)))) (sym object_is);
  principal = principal;
  point = point;
  within = within;
  named = named;
  op = subst IsName (sym op_is) op_named;
  object = subst IsName (sym object_is) object_named;
}
