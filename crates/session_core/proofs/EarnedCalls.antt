-- What one call makes true.
use Rattle.std.proofs.Common.{◌≡◌, ◌<◌, ℕ, List, [], length, map, filter, take, Some, refl, sym, ap, subst, arith, ◌∙◌}
use Rattle.std.specs.Prelude.{slice_get}
use Rattle.nal_rules.specs.Asking.{Asked, IsAsked, asks_for, lines_of}
use Rattle.nal_rules.specs.Faults.{is_ask}
use Rattle.nal_rules.specs.Numbers.{cause_numbers}
use Rattle.nal_rules.specs.Verdicts.{CaseTree, IsVerdict}
use Rattle.nal_rules.specs.declared.verdicts.Cause.{Cause}
use Rattle.nal_rules.specs.declared.verdicts.Cause.TheVariants.{GoalUnset, NoProof, Line, LabelMissing, NotBound, AuthorityNo}
use Rattle.nal_rules.specs.declared.verdicts.Verdict.{Verdict}
use Rattle.nal_rules.specs.declared.verdicts.Verdict.TheVariants.{Allowed as AllowedVerdict, Denied as DeniedVerdict}
use Rattle.object_table.specs.Objects.{number_of}
use Rattle.proof_store.specs.Cases.{CaseRow}
use Rattle.proof_check.proofs.ForCallers.{allowed_supported}
use Rattle.policy_history.specs.declared.heads.Head.{Head}
use Rattle.policy_history.specs.Events.{EntryTree}
use Rattle.policy_history.specs.Judged.{IsLasting, IsRightIn, case_at, case_of_row}
use Rattle.policy_history.proofs.ForCallers.{case_there}
use Rattle.authority_ask.specs.Panels.{Told as Ask}
use Rattle.guard_core.specs.Judging.{answers_in, told_of}
use Rattle.session_core.specs.Standing.{Standing}
use Rattle.session_core.specs.Calls.{Turn, state_at}
use Rattle.session_core.specs.Earned.{IsEarned, IsRefuted}
use Rattle.session_core.proofs.ToldRefusals.{IsVerdictOf, RestsOnCase, on_judged, on_kept}

-- the case of a call at a length of the history has this verdict, with what was asked for it
pub record IsFound (h : Head) (es : List EntryTree) (p : ℕ) (op object : List ℕ) (at : ℕ) (asked : List Ask) (verdict : Verdict) : Type 0 where
  pub number : ℕ
  pub asks : List Asked
  pub object_is : number_of (state_at h es at).objects object ≡ Some number
  pub asked_is : asked ≡ map told_of asks
  pub is_asked : IsAsked (case_at h (state_at h es at) p op number) (answers_in asked) asks
  pub is_verdict : IsVerdict (case_at h (state_at h es at) p op number) (answers_in asked) verdict

-- nothing is asked for a verdict that lasts
lasting_unasked : (c : CaseTree) (verdict : Verdict) → IsLasting c verdict → IsVerdict c [] verdict → IsAsked c [] []
lasting_unasked c AllowedVerdict lasts is = (λ _. refl, λ _. sym (ap (λ ls. asks_for c.bound ls []) lasts))
lasting_unasked c (DeniedVerdict GoalUnset) lasts is = (λ _. refl, λ open_case. absurd (open_case (GoalUnset, omega arith, is.0)))
lasting_unasked c (DeniedVerdict NoProof) lasts is = (λ _. refl, λ open_case. absurd (open_case (NoProof, omega arith, is.0)))
lasting_unasked c (DeniedVerdict (Line k fault)) lasts is = (λ _. refl, λ open_case. absurd (open_case (Line k fault, omega arith, is.0)))
lasting_unasked c (DeniedVerdict (LabelMissing k)) lasts is = absurd lasts
lasting_unasked c (DeniedVerdict (NotBound k)) lasts is = absurd lasts
lasting_unasked c (DeniedVerdict (AuthorityNo k)) lasts is = absurd lasts

-- a kept verdict is that of the case of its place
kept_found : (h : Head) (es : List EntryTree) (p : ℕ) (op object : List ℕ) (at number case : ℕ) (verdict : Verdict) → number_of (state_at h es at).objects object ≡ Some number
    → (there : (row : CaseRow) × (slice_get (state_at h es at).cases case ≡ Some row) × (row.0 ≡ p) × (row.1 ≡ op) × (row.2 ≡ number) × (case < 262144))
    → IsRightIn h (state_at h es at) case verdict → IsFound h es p op object at [] verdict
kept_found h es p op object at number case verdict object_is there right =
    let st = state_at h es at in
    let row_is : right.row ≡ there.0 = cc (right.stands, there.1) in
    let case_is : case_of_row h st right.row ≡ case_at h st p op number =
    ap (case_of_row h st) row_is ∙ ap (λ x. case_at h st x there.0.1 there.0.2) there.2 ∙ ap (λ x. case_at h st p x there.0.2) there.3 ∙ ap (case_at h st p op) there.4 in
    record {
      number = number;
      asks = [];
      object_is = object_is;
      asked_is = refl;
      is_asked = subst (λ (c : CaseTree). IsAsked c [] []) case_is (lasting_unasked _ verdict right.lasting right.told);
      is_verdict = subst (λ (c : CaseTree). IsVerdict c [] verdict) case_is right.told;
    }

-- a verdict that is told is that of the case
pub found_of : {h : Head} {es : List EntryTree} {before : Standing} {p : ℕ} {op object : List ℕ} {turn : Turn} (v : IsVerdictOf h es before p op object turn) → IsFound h es p op object v.n turn.asks v.verdict
found_of {h} {es} {before} {p} {op} {object} {turn} v = of v.rests v.unasked
  where
    of : RestsOnCase h es before p op object v.n v.hit v.verdict turn.asks → (v.hit ≡ 1 → turn.asks ≡ []) → IsFound h es p op object v.n turn.asks v.verdict
    of (on_kept place hit looks right) unasked =
        subst (λ (asked : List Ask). IsFound h es p op object v.n asked v.verdict) (sym (unasked hit))
        (kept_found h es p op object v.n place.object place.case v.verdict looks.place_is.object_is (case_there h (take v.n es) p op place.object place.case looks.place_is.case_is) right)
    of (on_judged k finding hit object_is same judged) unasked = record {
      number = k;
      asks = judged.asks;
      object_is = object_is;
      asked_is = judged.told_is;
      is_asked = judged.asked;
      is_verdict = subst (λ (x : Verdict). IsVerdict (case_at h (state_at h es v.n) p op k) (answers_in turn.asks) x) same judged.verdict;
    }

-- a case that is allowed is earned
pub earned_of : {h : Head} {es : List EntryTree} {p : ℕ} {op object : List ℕ} {at : ℕ} {asked : List Ask} → IsFound h es p op object at asked AllowedVerdict → IsEarned h es p op object at asked
earned_of {h} {es} {p} {op} {object} {at} {asked} found = record {
  number = found.number;
  count = length (filter is_ask (lines_of (case_at h (state_at h es at) p op found.number)));
  object_is = found.object_is;
  judged = record { verdict = found.is_verdict; count = refl; asks = found.asks; asked = found.is_asked; told_is = found.asked_is };
  supported = allowed_supported _ _ _ found.is_verdict found.is_asked;
}

-- a case that is denied is refuted by the numbers of its cause
pub refuted_of : {h : Head} {es : List EntryTree} {p : ℕ} {op object : List ℕ} {at : ℕ} {asked : List Ask} (reason : Cause) → IsFound h es p op object at asked (DeniedVerdict reason)
    → IsRefuted h es p op object at asked (cause_numbers reason).0 (cause_numbers reason).1 (cause_numbers reason).2
refuted_of reason found = record {
  number = found.number;
  reason = reason;
  object_is = found.object_is;
  numbers = refl;
  judged = record { verdict = found.is_verdict; count = tt; asks = found.asks; asked = found.is_asked; told_is = found.asked_is };
}
