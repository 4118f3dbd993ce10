-- The line of a record has no line feed, and so a part of it that is sent.
use Rattle.std.proofs.Common.{◌≡◌, ◌<◌, ◌≤◌, ◌+◌, ◌/◌, ◌%◌, ◌==◌, ℕ, zero, suc, List, [], ◌∷◌, Bool, true, false, not, nat_lt, codes, decimal, length, map, take, refl, arith}
use Rattle.std.specs.Fmt.{digit_glyph, digits, digits_onto}
use Rattle.std.specs.List.{list_all}
use Rattle.std.proofs.lemmas.Bool.{and_parts}
use Rattle.nal_rules.specs.declared.verdicts.Cause.TheVariants.{GoalUnset, NoProof, Line, LabelMissing, NotBound, AuthorityNo}
use Rattle.nal_rules.specs.declared.verdicts.Fault.{Fault}
use Rattle.nal_rules.specs.declared.verdicts.Fault.TheVariants.{NoSuchRef, NotHyp, WrongShape, Capture, NotFresh, OutOfScope, NotTrue, TooManyAsks, NotAsk, NotClosed, StillOpen, NotGoal}
use Rattle.nal_rules.specs.declared.verdicts.Verdict.TheVariants.{Allowed, Denied}
use Rattle.nal_term.specs.Names.{IsName}
use Rattle.proof_text.specs.Laws.{IsOneLine}
use Rattle.policy_history.specs.PolicyLines.{spaced}
use Rattle.policy_history.specs.PolicyTexts.{ended}
use Rattle.journal_text.proofs.PrintedEvents.{name_line, three}
use Rattle.audit_check.specs.declared.records.Answers.{Answers}
use Rattle.audit_check.specs.declared.records.Answers.TheVariants.{Known, Unknown}
use Rattle.audit_check.specs.declared.records.Record.{Record}
use Rattle.audit_check.specs.declared.records.Recorded.{Recorded}
use Rattle.audit_check.specs.declared.records.Recorded.TheVariants.{NoObject, Told, Down}
use Rattle.audit_form.specs.RecordLines.{answer_letter, answers_text, record_text}
use Rattle.audit_form.specs.VerdictTexts.{fault_name, verdict_text}

-- ---- A number, however great

high : (b : ℕ) → 48 ≤ b → not (b == 10) ≡ true
high b h = grind arith

glyph_line : (d : ℕ) → not (digit_glyph false d == 10) ≡ true
glyph_line d = of (nat_lt d 10) refl
  where
    of : (b : Bool) → nat_lt d 10 ≡ b → not (digit_glyph false d == 10) ≡ true
    of true e = rw e (high (48 + d) (omega arith))
    of false e = rw e (high (87 + d) (omega arith))

digits_line : (k n : ℕ) (acc : List ℕ) → IsOneLine acc → IsOneLine (digits_onto k 10 false n acc)
digits_line zero n acc one = one
digits_line (suc k) n acc one =
    let more : IsOneLine (digit_glyph false (n % 10) ∷ acc) = rw (glyph_line (n % 10)) one in
    of (n / 10 == 0) refl more (digits_line k (n / 10) (digit_glyph false (n % 10) ∷ acc) more)
  where
    of : (b : Bool) → (n / 10 == 0) ≡ b → IsOneLine (digit_glyph false (n % 10) ∷ acc) → IsOneLine (digits_onto k 10 false (n / 10) (digit_glyph false (n % 10) ∷ acc))
        → IsOneLine (digits_onto (suc k) 10 false n acc)
    of true e last others = rw e last
    of false e last others = rw e others

number_line : (n : ℕ) → IsOneLine (decimal n)
unfolding digits
number_line n = digits_line 64 n [] refl

-- ---- The line of a record

spaced_line : (first rest : List ℕ) → IsOneLine first → IsOneLine rest → IsOneLine (spaced first rest)
spaced_line first rest one other = three first (codes " ") rest one refl other

letters_line : (given : List Bool) → IsOneLine (map answer_letter given)
letters_line [] = refl
letters_line (true ∷ given) = letters_line given
letters_line (false ∷ given) = letters_line given

answers_line : (a : Answers) → IsOneLine (answers_text a)
answers_line Unknown = refl
answers_line (Known []) = refl
answers_line (Known (b ∷ bs)) = letters_line (b ∷ bs)

fault_line : (f : Fault) → IsOneLine (fault_name f)
fault_line NoSuchRef = refl
fault_line NotHyp = refl
fault_line WrongShape = refl
fault_line Capture = refl
fault_line NotFresh = refl
fault_line OutOfScope = refl
fault_line NotTrue = refl
fault_line TooManyAsks = refl
fault_line NotAsk = refl
fault_line NotClosed = refl
fault_line StillOpen = refl
fault_line NotGoal = refl

verdict_line : (v : Recorded) → IsOneLine (verdict_text v)
verdict_line NoObject = refl
verdict_line (Told Allowed) = refl
verdict_line (Told (Denied GoalUnset)) = refl
verdict_line (Told (Denied NoProof)) = refl
verdict_line (Told (Denied (Line k f))) = spaced_line (decimal k) (fault_name f) (number_line k) (fault_line f)
verdict_line (Told (Denied (LabelMissing k))) = number_line k
verdict_line (Told (Denied (NotBound k))) = number_line k
verdict_line (Told (Denied (AuthorityNo k))) = number_line k
verdict_line (Down k) = number_line k

pub record_line : (name : List ℕ) (r : Record) → IsName name → IsName r.op → IsName r.object → IsOneLine (record_text name r)
record_line name r named op object =
    let told = spaced_line (answers_text r.answers) (spaced (codes ":") (verdict_text r.verdict)) (answers_line r.answers) (verdict_line r.verdict) in
    spaced_line (decimal r.at) _ (number_line r.at)
    (spaced_line name _ (name_line name named) (spaced_line r.op _ (name_line r.op op) (spaced_line r.object _ (name_line r.object object) told)))

-- ---- A proper part of a line with its line feed

pub part_line : (text : List ℕ) (n : ℕ) → IsOneLine text → n < length (ended text) → IsOneLine (take n (ended text))
part_line text zero one less = refl
part_line [] (suc n) one less = absurd (omega (arith, less))
part_line (b ∷ bs) (suc n) one less =
    let parts = and_parts (not (b == 10)) (list_all (λ x. not (x == 10)) bs) one in
    rw parts.0 (part_line bs n parts.1 (omega (arith, less)))
