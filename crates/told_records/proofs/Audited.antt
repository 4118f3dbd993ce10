-- What keepers were sent is audited over the policy that is recovered from the text of their service.
use Rattle.std.proofs.Common.{◌≡◌, ◌≤◌, ℕ, List, [], ◌∷◌, ◌++◌, Contains, length, length-append, map, refl, sym, ap, subst, ◌∙◌, arith}
use Rattle.std.specs.List.{All, flat_map}
use Rattle.std.proofs.lemmas.List.{take-append-le}
use Rattle.std.proofs.lemmas.List.Concat.{flat_map-cons}
use Rattle.std.proofs.lemmas.List.Elements.{All-append, All-contains, All-head, All-nil, All-tail, All-weaker}
use Rattle.policy_history.specs.declared.heads.Head.{Head}
use Rattle.policy_history.specs.Events.{EntryTree}
use Rattle.policy_history.specs.Machine.{replay}
use Rattle.policy_history.specs.PolicyTexts.{ended}
use Rattle.verdict_words.specs.Settling.{flat}
use Rattle.proof_text.specs.Laws.{IsOneLine}
use Rattle.audit_check.specs.declared.audits.Audited.TheVariants.{Right}
use Rattle.audit_check.specs.Records.{IsRightIn}
use Rattle.audit_form.specs.Answers.{IsToldOf}
use Rattle.audit_form.specs.AuditForm.{most_records}
use Rattle.audit_form.specs.AuditLaws.{IsRightLine, audit_text}
use Rattle.audit_form.proofs.ForCallers.{right_lines_are_audited}
use Rattle.journal_text.specs.CutPolicies.{ReadsCut}
use Rattle.kept_policies.proofs.ForCallers.{recovered_is_written}
use Rattle.session_core.specs.Records.{Kept}
use Rattle.told_records.specs.Audited.{AreSent, FreshKeepersAreAudited, HaveRightLines, IsFresh, RightKeepersAreAudited}
use Rattle.told_records.proofs.OneLines.{record_line}

-- a record that is right stays right, whatever entries come
right_later : (h : Head) (es later : List EntryTree) (line : List ℕ) → IsRightLine h es line → IsRightLine h (es ++ later) line
right_later h es later line (r, is, right) = (
  r,
  record {
    name = is.name;
    formed = is.formed;
    principal = is.principal;
    within = record { point = let least = is.within.point in within least; principal = is.within.principal };
    named = is.named;
    op = is.op;
    object = is.object;
    few = is.few;
    lines = is.lines;
  },
  subst (λ (xs : List EntryTree). IsRightIn h (replay h xs) r) (sym (take-append-le r.at es later is.within.point)) right,
)
  where
    within : r.at ≤ length es → r.at ≤ length (es ++ later)
    within least = let long = length-append es later in omega (arith, least, long)

-- and has no line feed
right_one_line : (h : Head) (es : List EntryTree) (line : List ℕ) → IsRightLine h es line → IsOneLine line
right_one_line h es line (r, is, right) = subst IsOneLine (sym is.formed) (record_line is.name r is.named is.op is.object)

-- ---- The lines of the keepers

module _ (h : Head) (es : List EntryTree) where
  abbrev lines_of : (keepers keepers_now : List Kept) → HaveRightLines h es keepers keepers_now → List (List (List ℕ))
  lines_of [] [] have = []
  lines_of (k ∷ ks) (n ∷ ns) have = have.0.lines ∷ lines_of ks ns have.1
  lines_of _ _ have = absurd have

  lines_right : (keepers keepers_now : List Kept) (have : HaveRightLines h es keepers keepers_now) → All (IsRightLine h es) (flat (lines_of keepers keepers_now have))
  lines_right [] [] have = All-nil (IsRightLine h es)
  lines_right (k ∷ ks) (n ∷ ns) have =
      subst (All (IsRightLine h es)) (sym (flat_map-cons (λ (lines : List (List ℕ)). lines) have.0.lines (lines_of ks ns have.1)))
      (All-append (IsRightLine h es) have.0.lines (flat (lines_of ks ns have.1)) have.0.right (lines_right ks ns have.1))
  lines_right [] (n ∷ ns) have = absurd have
  lines_right (k ∷ ks) [] have = absurd have

  lines_sent : (keepers keepers_now : List Kept) (have : HaveRightLines h es keepers keepers_now) → All IsFresh keepers → AreSent (lines_of keepers keepers_now have) keepers_now
  lines_sent [] [] have fresh = tt
  lines_sent (k ∷ ks) (n ∷ ns) have fresh =
      let first = All-head IsFresh k ks fresh in
      let mine = have.0 in
      ((mine.part, mine.sent ∙ ap (λ (t : List ℕ). t ++ (flat_map ended mine.lines ++ mine.part)) first.0, All-weaker (IsRightLine h es) IsOneLine (right_one_line h es) mine.lines mine.right, mine.one_line, λ whole. mine.whole (whole ∙ sym first.1)), lines_sent ks ns have.1 (All-tail IsFresh k ks fresh))
  lines_sent [] (n ∷ ns) have fresh = absurd have
  lines_sent (k ∷ ks) [] have fresh = absurd have

-- ---- What is audited

-- what holds of all holds of those that are chosen
all_chosen : {A : Type 0} (P : A → Type 0) (xs chosen : List A) → All P xs → All (Contains xs) chosen → All P chosen
all_chosen P xs chosen all inside = All-weaker (Contains xs) P (λ x here. All-contains P xs x all here) chosen inside

told : (text : List ℕ) (h : Head) (es : List EntryTree) (chosen : List (List ℕ)) → ReadsCut text h es → All (IsRightLine h es) chosen → length chosen ≤ most_records
    → IsToldOf (audit_text h es chosen) (record { count = length chosen; audited = Right })
told text h es chosen reads right few = right_lines_are_audited h es chosen (recovered_is_written text h es reads) right few

pub right_keepers_are_audited : RightKeepersAreAudited
right_keepers_are_audited faults faults_now text h es keepers keepers_now recovers reads fresh have = record {
  lines = lines_of h es keepers keepers_now have;
  sent = lines_sent h es keepers keepers_now have fresh;
  recovered = λ unfailed some. (h, es, reads unfailed);
  audited = λ g fs chosen reads inside few.
      let (same, later, begins) = recovers g fs reads in
      let chosen_right = all_chosen (IsRightLine h es) (flat (lines_of h es keepers keepers_now have)) chosen (lines_right h es keepers keepers_now have) inside in
      let longer = All-weaker (IsRightLine h es) (IsRightLine h (es ++ later)) (λ line right. right_later h es later line right) chosen chosen_right in
      told text g fs chosen reads (subst (λ (x : Head). All (IsRightLine x fs) chosen) (sym same) (subst (λ (xs : List EntryTree). All (IsRightLine h xs) chosen) (sym begins) longer)) few;
}

-- no lines
abbrev no_lines : List Kept → List (List (List ℕ))
no_lines keepers = map (λ kept. []) keepers

flat_none : (keepers : List Kept) → flat (no_lines keepers) ≡ []
flat_none [] = refl
flat_none (k ∷ ks) = flat_map-cons (λ (lines : List (List ℕ)). lines) [] (no_lines ks) ∙ flat_none ks

none_sent : (keepers : List Kept) → All IsFresh keepers → AreSent (no_lines keepers) keepers
none_sent [] fresh = tt
none_sent (k ∷ ks) fresh = (([], (All-head IsFresh k ks fresh).0, All-nil IsOneLine, refl, λ whole. refl), none_sent ks (All-tail IsFresh k ks fresh))

pub fresh_keepers_are_audited : FreshKeepersAreAudited
fresh_keepers_are_audited faults faults_now text keepers fresh = record {
  lines = no_lines keepers;
  sent = none_sent keepers fresh;
  recovered = λ unfailed some. absurd (some (flat_none keepers));
  audited = λ h es chosen reads inside few.
      told text h es chosen reads (all_chosen (IsRightLine h es) (flat (no_lines keepers)) chosen (subst (All (IsRightLine h es)) (sym (flat_none keepers)) (All-nil (IsRightLine h es))) inside) few;
}
