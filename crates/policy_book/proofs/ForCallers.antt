-- Laws for crates that use a book: verdicts that may be kept, the numbers of a kept one, and the front of a text.
use Rattle.std.proofs.Common.{◌≡◌, ◌≤◌, ◌-◌, ℕ, zero, suc, Bool, List, [], filter, length, Option, Some, None, codes, option_map, take, unwrap_or, refl, sym, ap, ◌∙◌, subst, arith, length-append}
use Rattle.std.proofs.Math.Seq.{take-append_seam}
use Rattle.std.proofs.lemmas.Option.{slice_get_within}
use Rattle.proof_lines.specs.Lines.{LineTree}
use Rattle.nal_rules.specs.Asking.{case_tree, lines_of}
use Rattle.nal_rules.specs.Faults.{is_ask, line_at}
use Rattle.nal_rules.specs.Numbers.{cause_numbers}
use Rattle.nal_rules.specs.Verdicts.{CaseTree, IsVerdict}
use Rattle.nal_rules.specs.declared.cases.Case.{Case as RawCase}
use Rattle.nal_rules.specs.declared.verdicts.Cause.{Cause}
use Rattle.nal_rules.specs.declared.verdicts.Cause.TheVariants.{GoalUnset, NoProof, Line, LabelMissing, NotBound, AuthorityNo}
use Rattle.nal_rules.specs.declared.verdicts.Verdict.{Verdict}
use Rattle.nal_rules.specs.declared.verdicts.Verdict.TheVariants.{Allowed, Denied}
use Rattle.proof_store.specs.Cases.{number_of as case_number}
use Rattle.policy_history.specs.declared.heads.Head.{Head}
use Rattle.policy_history.specs.Events.{EntryTree}
use Rattle.policy_history.specs.Judged.{IsLasting, IsRight, case_at, case_of_row}
use Rattle.policy_history.specs.Machine.{replay}
use Rattle.policy_history.specs.PolicyTexts.{ended, front, policy_text}
use Rattle.policy_history.proofs.ForCallers.{case_there, lasting_alone}
use Rattle.verdict_words.specs.declared.places.CasePlace.{CasePlace}
use Rattle.verdict_words.specs.declared.places.Held.{Held}
use Rattle.policy_book.specs.Matter.{IsHeldRight, IsOfProof, StandsFor}
use Rattle.policy_book.specs.Snaps.{IsSnapOf}

module _ (h : Head) (es : List EntryTree) (subject : ℕ) (op object : List ℕ) (at : ℕ) (case : RawCase) (place : CasePlace) (n : ℕ) (snap : IsSnapOf h es subject op object at case (Some place) n) where
  right_of : (o : Option ℕ) → case_number (replay h es).cases subject op n ≡ o → Some place ≡ option_map (λ k. record { case = k; object = n; store = subject }) o
      → (verdict : Verdict) (held : Held) → IsVerdict (case_tree case) [] verdict → IsLasting (case_tree case) verdict → StandsFor verdict held → IsHeldRight h es place.case held
  right_of None is place_is verdict held told lasting stands = absurd (cc place_is)
  right_of (Some k) is place_is verdict held told lasting stands =
      let there = case_there h es subject op n k is in
      let row = there.0 in
      let number : place.case ≡ k = (let same : place ≡ record { case = k; object = n; store = subject } = cc place_is in ap (λ (p : CasePlace). p.case) same) in
      let same : case_tree case ≡ case_of_row h (replay h es) row = snap.case_is ∙ (λ i. case_at h (replay h es) (sym there.2 i) (sym there.3 i) (sym there.4 i)) in
      (verdict, stands, subst (λ m. IsRight h es m verdict) (sym number) (record { row = row; stands = there.1; lasting = rw (← same) lasting; told = rw (← same) told }))

  -- a verdict on the case that was told, whatever was answered, is right in its place where it rests on goal, proof and labels alone
  pub held_right : (answers : List Bool) (verdict : Verdict) (held : Held) → IsVerdict (case_tree case) answers verdict → IsLasting (case_tree case) verdict → StandsFor verdict held → IsHeldRight h es place.case held
  held_right answers verdict held told lasting stands = right_of (case_number (replay h es).cases subject op n) refl snap.place_is verdict held (lasting_alone (case_tree case) answers verdict lasting told) lasting stands

-- a denial that is kept tells the numbers of its cause
pub held_numbers : (cause : Cause) (held : Held) → StandsFor (Denied cause) held → (held.code - 1, held.line, held.fault) ≡ cause_numbers cause
held_numbers GoalUnset held stands = ap (λ (x : Held). (x.code - 1, x.line, x.fault)) stands
held_numbers NoProof held stands = ap (λ (x : Held). (x.code - 1, x.line, x.fault)) stands
held_numbers (Line k fault) held stands = ap (λ (x : Held). (x.code - 1, x.line, x.fault)) stands
held_numbers (LabelMissing k) held stands = absurd stands
held_numbers (NotBound k) held stands = absurd stands
held_numbers (AuthorityNo k) held stands = absurd stands

named_line : (c : CaseTree) (ls : List LineTree) (k : ℕ) (l : LineTree) → length (lines_of c) ≤ 256 → c.proof ≡ Some ls → line_at ls k ≡ Some l → k ≤ 256
named_line c ls zero l short is at = omega arith
named_line c ls (suc j) l short is at =
    let within = slice_get_within ls j l at in
    let same : lines_of c ≡ ls = ap (λ (p : Option (List LineTree)). unwrap_or p []) is in
    let count = ap length same in
    omega (arith, within, count, short)

-- the line that a verdict names is one of the proof's
pub names_line : (c : CaseTree) (answers : List Bool) (verdict : Verdict) → length (lines_of c) ≤ 256 → IsVerdict c answers verdict → IsOfProof verdict
names_line c answers Allowed short told = tt
names_line c answers (Denied GoalUnset) short told = tt
names_line c answers (Denied NoProof) short told = tt
names_line c answers (Denied (Line k fault)) short ((ls, goal, is, goal_is, lowest), first) = named_line c ls k lowest.faulty.line short is lowest.faulty.stands
names_line c answers (Denied (LabelMissing k)) short ((ls, is, ((l, at, rule, missing), lowest)), first) = named_line c ls k l short is at
names_line c answers (Denied (NotBound k)) short ((ls, is, ((p, s, (l, at, rule, said), unbound), lowest)), first) = named_line c ls k l short is at
names_line c answers (Denied (AuthorityNo k)) short ((ls, is, ((l, at, rule, unanswered), lowest)), first) = named_line c ls k l short is at

-- a verdict of which something is kept rests on goal, proof and labels alone, an allowed one where nothing was asked
pub lasts_where : (c : CaseTree) (verdict : Verdict) (held : Held) → StandsFor verdict held → (verdict ≡ Allowed → filter is_ask (lines_of c) ≡ []) → IsLasting c verdict
lasts_where c Allowed held stands unasked = unasked refl
lasts_where c (Denied GoalUnset) held stands unasked = tt
lasts_where c (Denied NoProof) held stands unasked = tt
lasts_where c (Denied (Line k fault)) held stands unasked = tt
lasts_where c (Denied (LabelMissing k)) held stands unasked = absurd stands
lasts_where c (Denied (NotBound k)) held stands unasked = absurd stands
lasts_where c (Denied (AuthorityNo k)) held stands unasked = absurd stands

-- the text of a policy without its last line
pub front_of_text : (h : Head) (es : List EntryTree) → take (length (policy_text h es) - 4) (policy_text h es) ≡ front h es
front_of_text h es =
    let long = length-append (front h es) (ended (codes "end")) in
    let short : length (policy_text h es) - 4 ≡ length (front h es) = omega (arith, long) in
    ap (λ n. take n (policy_text h es)) short ∙ take-append_seam (front h es) (ended (codes "end"))
