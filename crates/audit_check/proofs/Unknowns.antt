-- What comes of answers that are not known.
use Rattle.std.proofs.Common.{◌≡◌, ◌<◌, ℕ, List, [], ◌∷◌, ◌++◌, length, filter, Bool, true, false, refl, sym, subst, arith}
use Rattle.std.specs.Prelude.{replicate}
use Rattle.proof_lines.specs.Lines.{LineTree}
use Rattle.nal_rules.specs.Asking.{IsDecided, lines_of}
use Rattle.nal_rules.specs.Faults.{is_ask}
use Rattle.nal_rules.specs.Verdicts.{CaseTree, IsVerdict, cause_number}
use Rattle.nal_rules.specs.declared.verdicts.Cause.{Cause}
use Rattle.nal_rules.specs.declared.verdicts.Cause.TheVariants.{GoalUnset, NoProof, Line, LabelMissing, NotBound, AuthorityNo}
use Rattle.nal_rules.specs.declared.verdicts.Verdict.{Verdict}
use Rattle.nal_rules.specs.declared.verdicts.Verdict.TheVariants.{Allowed, Denied}
use Rattle.proof_check.specs.Laws.{AllowedCasesDerive}
use Rattle.case_verdict.proofs.ForCallers.{unaffected}
use Rattle.audit_check.specs.declared.records.Answers.TheVariants.{Known, Unknown}
use Rattle.audit_check.specs.declared.records.Recorded.TheVariants.{Told}
use Rattle.audit_check.specs.Records.{IsRightOf, IsToldWith, yes_before}
use Rattle.audit_check.specs.Laws.{RightAllowedDerives, UnknownAnswers, all_yes}
use Rattle.audit_check.proofs.Settled.{allowed_by, allows, lines_are, lowest_in, opened, refused_by, refuses, told_none}

-- a verdict that hangs on authorities leaves the case open
pub allowed_open : (c : CaseTree) (answers : List Bool) → IsVerdict c answers Allowed → IsDecided c → ⊥
allowed_open c answers v d = v d.0 (unaffected c [] answers d.0 d.1 d.2)

pub refused_open : (c : CaseTree) (answers : List Bool) (k : ℕ) → IsVerdict c answers (Denied (AuthorityNo k)) → IsDecided c → ⊥
refused_open c answers k v d = v.1 d.0 d.1 (unaffected c [] answers d.0 d.1 d.2)

allowed_to : (c : CaseTree) → IsRightOf c Unknown (Told Allowed) → IsVerdict c (all_yes c) Allowed
allowed_to c h =
    let o = opened c (allowed_open c h.0 h.2.told) in
    let same = allowed_by c o.0 o.1 h.0 h.2 in
    let yes : IsVerdict c (replicate (length (filter is_ask o.0)) true) Allowed = subst (λ (bs : List Bool). IsVerdict c bs Allowed) same h.2.told in
    subst (λ (ls : List LineTree). IsVerdict c (replicate (length (filter is_ask ls)) true) Allowed) (sym (lines_are c o.0 o.1)) yes

allowed_from : (c : CaseTree) → IsVerdict c (all_yes c) Allowed → IsRightOf c Unknown (Told Allowed)
allowed_from c v = let o = opened c (allowed_open c (all_yes c) v) in (replicate (length (filter is_ask o.0)) true, tt, allows c o.0 o.1)

refused_to : (c : CaseTree) (k : ℕ) → IsRightOf c Unknown (Told (Denied (AuthorityNo k))) → IsVerdict c (yes_before (lines_of c) k ++ false ∷ []) (Denied (AuthorityNo k))
refused_to c k h =
    let o = opened c (refused_open c h.0 k h.2.told) in
    let same = (refused_by c o.0 o.1 h.0 k h.2).1 in
    let told : IsVerdict c (yes_before o.0 k ++ false ∷ []) (Denied (AuthorityNo k)) = subst (λ (bs : List Bool). IsVerdict c bs (Denied (AuthorityNo k))) same h.2.told in
    subst (λ (ls : List LineTree). IsVerdict c (yes_before ls k ++ false ∷ []) (Denied (AuthorityNo k))) (sym (lines_are c o.0 o.1)) told

refused_from : (c : CaseTree) (k : ℕ) → IsVerdict c (yes_before (lines_of c) k ++ false ∷ []) (Denied (AuthorityNo k)) → IsRightOf c Unknown (Told (Denied (AuthorityNo k)))
refused_from c k v =
    let answers : List Bool = yes_before (lines_of c) k ++ false ∷ [] in
    let o = opened c (refused_open c answers k v) in
    let low = lowest_in c o.0 o.1 answers k v.0 in
    (yes_before o.0 k ++ false ∷ [], tt, refuses c o.0 o.1 k (low.0.0, low.0.1, low.0.2))

-- a denial by another cause rests on no answer
other_to : (c : CaseTree) (cause : Cause) → cause_number cause < 6 → IsRightOf c Unknown (Told (Denied cause)) → IsRightOf c (Known []) (Told (Denied cause))
other_to c cause low h =
    let none = told_none c h.0 cause low h.2 in
    ([], refl, subst (λ (bs : List Bool). IsToldWith c bs (Denied cause)) none h.2)

other_from : (c : CaseTree) (verdict : Verdict) → IsRightOf c (Known []) (Told verdict) → IsRightOf c Unknown (Told verdict)
other_from c verdict h = (h.0, tt, h.2)

others : (c : CaseTree) (verdict : Verdict) → (verdict ≡ Allowed → ⊥) → ((k : ℕ) → verdict ≡ Denied (AuthorityNo k) → ⊥) → IsRightOf c Unknown (Told verdict) → IsRightOf c (Known []) (Told verdict)
others c Allowed apart none h = absurd (apart refl)
others c (Denied GoalUnset) apart none h = other_to c GoalUnset (omega arith) h
others c (Denied NoProof) apart none h = other_to c NoProof (omega arith) h
others c (Denied (Line k fault)) apart none h = other_to c (Line k fault) (omega arith) h
others c (Denied (LabelMissing k)) apart none h = other_to c (LabelMissing k) (omega arith) h
others c (Denied (NotBound k)) apart none h = other_to c (NotBound k) (omega arith) h
others c (Denied (AuthorityNo k)) apart none h = absurd (none k refl)

pub unknown_answers : UnknownAnswers
unknown_answers = record {
  allowed = λ c. (allowed_to c, allowed_from c);
  refused = λ c k. (refused_to c k, refused_from c k);
  down = λ c k. (
    (λ h. record { undecided = h.undecided; ask_line = h.ask_line; before = refl }),
    λ h. record { undecided = h.undecided; ask_line = h.ask_line; before = tt },
  );
  other = λ c verdict apart none. (others c verdict apart none, other_from c verdict);
}

pub right_allowed_derives : AllowedCasesDerive → RightAllowedDerives
right_allowed_derives law c given h = let s = law c h.0 h.2.asks h.2.told h.2.asked in (s.goal, s.proof, s.goal_is, s.proof_is, s.derived)
