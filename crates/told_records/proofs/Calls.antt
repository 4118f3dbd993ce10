-- A verdict that rests on no answer.
use Rattle.std.proofs.Common.{[], refl, arith}
use Rattle.nal_rules.specs.Verdicts.{CaseTree, IsVerdict}
use Rattle.nal_rules.specs.declared.verdicts.Cause.TheVariants.{GoalUnset, NoProof, Line, LabelMissing, NotBound, AuthorityNo}
use Rattle.nal_rules.specs.declared.verdicts.Verdict.{Verdict}
use Rattle.nal_rules.specs.declared.verdicts.Verdict.TheVariants.{Allowed, Denied}
use Rattle.policy_history.specs.Judged.{IsLasting}
use Rattle.audit_check.specs.Records.{IsToldWith}

pub lasting : (c : CaseTree) (verdict : Verdict) → IsLasting c verdict → IsVerdict c [] verdict → IsToldWith c [] verdict
lasting c Allowed last told = record { asks = []; asked = ((λ d. refl), λ u. rw last refl); all = refl; told = told }
lasting c (Denied GoalUnset) last told = record { asks = []; asked = ((λ d. refl), λ u. absurd (u (GoalUnset, omega arith, told.0))); all = refl; told = told }
lasting c (Denied NoProof) last told = record { asks = []; asked = ((λ d. refl), λ u. absurd (u (NoProof, omega arith, told.0))); all = refl; told = told }
lasting c (Denied (Line k fault)) last told = record { asks = []; asked = ((λ d. refl), λ u. absurd (u (Line k fault, omega arith, told.0))); all = refl; told = told }
lasting c (Denied (LabelMissing k)) last told = absurd last
lasting c (Denied (NotBound k)) last told = absurd last
lasting c (Denied (AuthorityNo k)) last told = absurd last
