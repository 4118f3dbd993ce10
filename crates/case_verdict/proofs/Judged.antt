-- Which verdict a case has.
use Rattle.std.proofs.Common.{◌≡◌, ◌<◌, ℕ, zero, suc, List, [], ◌∷◌, Bool, Some, refl, sym, subst, ◌∙◌, arith}
use Rattle.nal_term.specs.Trees.{FormulaTree}
use Rattle.proof_lines.specs.declared.lines.Line.{Line as CodeLine}
use Rattle.proof_lines.specs.Lines.{LineTree, line_trees}
use Rattle.nal_rules.specs.Faults.{HasLowestFault, IsFaultless, line_at}
use Rattle.nal_rules.specs.Verdicts.{CaseTree, HasCause, IsAnsweredNo, IsLowest, IsMissingLabel, IsUnbound, IsVerdict, cause_number}
use Rattle.nal_rules.specs.declared.verdicts.Fault.{Fault}
use Rattle.nal_rules.specs.declared.verdicts.Cause.{Cause}
use Rattle.nal_rules.specs.declared.verdicts.Cause.TheVariants.{GoalUnset, NoProof, Line, LabelMissing, NotBound, AuthorityNo}
use Rattle.nal_rules.specs.declared.verdicts.Verdict.TheVariants.{Allowed, Denied}
use Rattle.case_verdict.specs.OpenCases.{IsOpen}

no_lines_stand : (k : ℕ) (l : LineTree) → line_at [] k ≡ Some l → ⊥
no_lines_stand zero l e = cc e
no_lines_stand (suc k) l e = cc e

pub no_lines : (ls : List CodeLine) → line_trees ls ≡ [] → ls ≡ []
no_lines [] e = refl
no_lines (l ∷ ls) e = absurd (cc e)

some_same : {A : Type 0} (p q : A) → Some p ≡ Some q → p ≡ q
some_same p q s = cc

-- no answer changes a cause but that of authorities
pub unaffected : (c : CaseTree) (a b : List Bool) (cause : Cause) → cause_number cause < 6 → HasCause c a cause → HasCause c b cause
unaffected c a b GoalUnset low has = has
unaffected c a b NoProof low has = has
unaffected c a b (Line k fault) low has = has
unaffected c a b (LabelMissing k) low has = has
unaffected c a b (NotBound k) low has = has
unaffected c a b (AuthorityNo k) low has = absurd (omega (arith, low))

-- of an open case no cause applies but that of authorities
open_else : (c : CaseTree) (ls : List LineTree) (answers : List Bool) → IsOpen c ls → (cause : Cause) → cause_number cause < 6 → ¬ HasCause c answers cause
open_else c ls answers o cause low has = o.undecided (cause, low, unaffected c answers [] cause low has)

-- the first ask line that is not answered Yes denies an open case
pub refused : (c : CaseTree) (ls : List LineTree) (answers : List Bool) (k : ℕ) → IsOpen c ls → IsLowest (IsAnsweredNo ls answers) k → IsVerdict c answers (Denied (AuthorityNo k))
refused c ls answers k o lowest = ((ls, o.proof_is, lowest), open_else c ls answers o)

-- and where each is answered Yes it is allowed
pub affirmed : (c : CaseTree) (ls : List LineTree) (answers : List Bool) → IsOpen c ls → ((k : ℕ) → ¬ IsAnsweredNo ls answers k) → IsVerdict c answers Allowed
affirmed c ls answers o none GoalUnset has = open_else c ls answers o GoalUnset (omega arith) has
affirmed c ls answers o none NoProof has = open_else c ls answers o NoProof (omega arith) has
affirmed c ls answers o none (Line j f) has = open_else c ls answers o (Line j f) (omega arith) has
affirmed c ls answers o none (LabelMissing j) has = open_else c ls answers o (LabelMissing j) (omega arith) has
affirmed c ls answers o none (NotBound j) has = open_else c ls answers o (NotBound j) (omega arith) has
affirmed c ls answers o none (AuthorityNo k) has =
    let same : has.0 ≡ ls = some_same has.0 ls (sym has.1 ∙ o.proof_is) in
    none k (subst (λ (xs : List LineTree). IsAnsweredNo xs answers k) same has.2.0)

module _ (c : CaseTree) (goal : FormulaTree) (ls : List LineTree) (answers : List Bool) (goal_is : c.goal ≡ Some goal) (proof_is : c.proof ≡ Some ls) where
  goal_set : ¬ HasCause c answers GoalUnset
  goal_set none = cc (sym none ∙ goal_is)

  same_proof : (proof : List LineTree) → c.proof ≡ Some proof → proof ≡ ls
  same_proof proof e = some_same proof ls (sym e ∙ proof_is)

  same_goal : (g : FormulaTree) → c.goal ≡ Some g → g ≡ goal
  same_goal g e = some_same g goal (sym e ∙ goal_is)

  proof_set : (ls ≡ [] → ⊥) → ¬ HasCause c answers NoProof
  proof_set some none = some (none ls proof_is)

  pub faulty : (k : ℕ) (fault : Fault) → HasLowestFault ls goal k fault → IsVerdict c answers (Denied (Line k fault))
  faulty k fault lowest = ((ls, goal, proof_is, goal_is, lowest), lower)
    where
      some : ls ≡ [] → ⊥
      some none = no_lines_stand k lowest.faulty.line (subst (λ (xs : List LineTree). line_at xs k ≡ Some lowest.faulty.line) none lowest.faulty.stands)

      lower : (other : Cause) → cause_number other < 3 → ¬ HasCause c answers other
      lower GoalUnset h has = goal_set has
      lower NoProof h has = proof_set some has
      lower (Line j f) h has = omega (arith, h)
      lower (LabelMissing j) h has = omega (arith, h)
      lower (NotBound j) h has = omega (arith, h)
      lower (AuthorityNo j) h has = omega (arith, h)

  module _ (some : ls ≡ [] → ⊥) (faultless : (k : ℕ) → IsFaultless ls goal k) where
    no_fault : (k : ℕ) (f : Fault) → ¬ HasCause c answers (Line k f)
    no_fault k f has =
        let lowest : HasLowestFault ls goal k f = rw (← same_proof has.0 has.2, ← same_goal has.1 has.3) has.4 in
        faultless k lowest.faulty.line lowest.faulty.stands f lowest.faulty.applies

    pub missing : (k : ℕ) → IsLowest (IsMissingLabel ls c.labels) k → IsVerdict c answers (Denied (LabelMissing k))
    missing k lowest = ((ls, proof_is, lowest), lower)
      where
        lower : (other : Cause) → cause_number other < 4 → ¬ HasCause c answers other
        lower GoalUnset h has = goal_set has
        lower NoProof h has = proof_set some has
        lower (Line j f) h has = no_fault j f has
        lower (LabelMissing j) h has = omega (arith, h)
        lower (NotBound j) h has = omega (arith, h)
        lower (AuthorityNo j) h has = omega (arith, h)

    module _ (held : (k : ℕ) → ¬ IsMissingLabel ls c.labels k) where
      no_label : (k : ℕ) → ¬ HasCause c answers (LabelMissing k)
      no_label k has = held k (subst (λ (xs : List LineTree). IsMissingLabel xs c.labels k) (same_proof has.0 has.1) has.2.0)

      pub not_bound : (k : ℕ) → IsLowest (IsUnbound ls c.bound) k → IsVerdict c answers (Denied (NotBound k))
      not_bound k lowest = ((ls, proof_is, lowest), lower)
        where
          lower : (other : Cause) → cause_number other < 5 → ¬ HasCause c answers other
          lower GoalUnset h has = goal_set has
          lower NoProof h has = proof_set some has
          lower (Line j f) h has = no_fault j f has
          lower (LabelMissing j) h has = no_label j has
          lower (NotBound j) h has = omega (arith, h)
          lower (AuthorityNo j) h has = omega (arith, h)

      module _ (bound : (k : ℕ) → ¬ IsUnbound ls c.bound k) where
        no_unbound : (k : ℕ) → ¬ HasCause c answers (NotBound k)
        no_unbound k has = bound k (subst (λ (xs : List LineTree). IsUnbound xs c.bound k) (same_proof has.0 has.1) has.2.0)

        -- no cause applies but that of authorities
        left_open : (cause : Cause) → cause_number cause < 6 → ¬ HasCause c answers cause
        left_open GoalUnset h has = goal_set has
        left_open NoProof h has = proof_set some has
        left_open (Line j f) h has = no_fault j f has
        left_open (LabelMissing j) h has = no_label j has
        left_open (NotBound j) h has = no_unbound j has
        left_open (AuthorityNo j) h has = omega (arith, h)

        pub open_case : answers ≡ [] → IsOpen c ls
        open_case none = record { proof_is = proof_is; undecided = λ d. left_open d.0 d.1 (subst (λ (bs : List Bool). HasCause c bs d.0) (sym none) d.2) }
