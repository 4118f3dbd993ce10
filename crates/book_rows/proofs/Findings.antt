-- Findings for which nothing was asked.
use Rattle.std.proofs.Common.{◌≡◌, List, [], ◌∷◌, filter, length, refl, sym, ◌∙◌, arith}
use Rattle.nal_rules.specs.Asking.{lines_of}
use Rattle.nal_rules.specs.Faults.{is_ask}
use Rattle.nal_rules.specs.Verdicts.{CaseTree}
use Rattle.nal_rules.specs.declared.verdicts.Verdict.{Verdict}
use Rattle.nal_rules.specs.declared.verdicts.Verdict.TheVariants.{Allowed as AllowedVerdict}
use Rattle.guard_core.specs.declared.findings.Finding.{Finding}
use Rattle.guard_core.specs.declared.findings.Finding.TheVariants.{Allowed, Denied}
use Rattle.guard_core.specs.Judging.{HasCount, verdict_of}
use Rattle.book_rows.specs.Unasked.{IsUnasked}

none_of : {A : Type 0} (xs : List A) → length xs ≡ 0 → xs ≡ []
none_of [] e = refl
none_of (x ∷ xs) e = absurd (omega (arith, e))

pub nothing_asked : (c : CaseTree) (finding : Finding) (verdict : Verdict) → verdict ≡ verdict_of finding → IsUnasked finding → HasCount c finding → verdict ≡ AllowedVerdict → filter is_ask (lines_of c) ≡ []
nothing_asked c (Allowed asks) verdict is unasked count allowed = none_of (filter is_ask (lines_of c)) (sym count ∙ unasked)
nothing_asked c (Denied cause) verdict is unasked count allowed = absurd (cc (is, allowed))
