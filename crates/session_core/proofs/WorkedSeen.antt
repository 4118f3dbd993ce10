-- The worked session that sees what another one changes is told so.
use Rattle.std.proofs.Common.{[], ◌∷◌, Some, codes, refl, sym, subst, arith}
use Rattle.std.proofs.Math.Dec.{lit≤}
use Rattle.nal_rules.specs.declared.verdicts.Cause.TheVariants.{LabelMissing}
use Rattle.nal_rules.specs.declared.verdicts.Verdict.TheVariants.{Allowed as AllowedVerdict}
use Rattle.guard_core.specs.declared.findings.Finding.TheVariants.{Allowed as AllowedFinding, Denied as DeniedFinding}
use Rattle.verdict_words.specs.declared.views.RegisterStep.TheVariants.{Read}
use Rattle.verdict_words.specs.declared.views.Item.TheVariants.{Loaded, Filled, Ran}
use Rattle.session_core.specs.Standing.{beginning}
use Rattle.session_core.specs.Calls.{Misses, IsPlaceIn, plain, state_at}
use Rattle.session_core.specs.Told.{Answers, IsTold, Leads}
use Rattle.session_core.specs.Calls as calling
use Rattle.session_core.specs.Told as told
use Rattle.policy_history.specs.States.{State}
use Rattle.guard_core.specs.Judging.{IsJudged}
use Rattle.proof_lines.specs.declared.rules.Rule.TheVariants.{Label}
use Rattle.session_core.proofs.OneLineVerdicts.{line}
use Rattle.session_core.proofs.ToldRows.{allowed_hit, allowed_right, deleted_at, label_at}
use Rattle.session_core.specs.Inner.ToldRows.{ChangesAreSeen, later_replies, later_requests, later_steps, read, f, alice_says_ok, head, place, behind_call, deleted_entries}
use Rattle.session_core.proofs.WorkedTurns.{is_asked_from, on, done, course_leads, is_hit}
use Rattle.session_core.proofs.WorkedParts.{one_line, label_allowed, label_missing, label_shown, label_deleted, no_hit, low, known, allowed_held}

label_judged : IsJudged (one_line (Some alice_says_ok) (line Label alice_says_ok) (alice_says_ok ∷ [])) [] (AllowedFinding 0)
label_judged = record { verdict = label_allowed []; count = refl; asks = []; asked = (λ decided. refl, λ undecided. refl); told_is = refl }

missing_judged : IsJudged (one_line (Some alice_says_ok) (line Label alice_says_ok) []) [] (DeniedFinding (LabelMissing 1))
missing_judged = record { verdict = label_missing; count = tt; asks = []; asked = (λ decided. refl, λ undecided. refl); told_is = refl }

missed : Misses head deleted_entries (behind_call 4) 0 read f 5 (Loaded place 1099511627780 5 4 5 ∷ [])
missed = calling.missed place 1099511627780 4 5
    (record { known = refl; seen = (lit≤ tt, lit≤ tt); place_is = subst (λ (x : State). IsPlaceIn x 0 read f place) (sym deleted_at) (record { object_is = refl; case_is = refl; store_is = refl }) })
    (no_hit 1099511627780 4 4 5 allowed_held refl (lit≤ tt) (λ _ b. omega (arith, b))) refl

later_leads : Leads head deleted_entries 2 (beginning 0) later_requests later_replies [] later_steps [] (behind_call 5)
later_leads = course_leads (
    on (told.hello (codes "alice") (codes "pa") _ refl refl refl) (
    on (is_asked_from head deleted_entries 2 0 low 0 0 4 [] label_shown read f 0 0 0 (AllowedFinding 0) [] [] (Filled 0 4 allowed_held ∷ []) (Ran 0 Read 0 ∷ []) (lit≤ tt) label_at
    (lit≤ tt) (calling.unknown refl refl refl) refl label_judged (calling.kept 0 allowed_held refl refl refl refl refl) (calling.ran Read refl refl refl)) (
    on (is_hit head deleted_entries 2 0 low 4 known label_shown read f 0 place 1099511627780 4 0 0 allowed_held AllowedVerdict (Ran 0 Read 0 ∷ []) label_at
    (lit≤ tt) (refl, record { object_is = refl; case_is = refl; store_is = refl }) allowed_hit refl allowed_right (calling.ran Read refl refl refl)) (
    on (is_asked_from head deleted_entries 2 0 low 4 5 5 known label_deleted read f 0 0 0 (DeniedFinding (LabelMissing 1)) [] (Loaded place 1099511627780 5 4 5 ∷ []) [] [] (lit≤ tt) deleted_at (lit≤ tt)
    missed refl missing_judged (calling.not_kept (λ both. both.1) refl) (calling.no_step (λ both. cc both.0) refl refl)) done))))

pub changes_are_seen : ChangesAreSeen
changes_are_seen = record { first = 0; steps = later_steps; added = []; met = refl; seen = (lit≤ tt, lit≤ tt); leads = later_leads; entries = refl }
