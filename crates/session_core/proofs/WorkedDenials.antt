-- The worked sessions in which a denial is kept are told so.
use Rattle.std.proofs.Common.{◌≡◌, List, [], ◌∷◌, codes, refl, arith}
use Rattle.std.proofs.Math.Dec.{lit≤}
use Rattle.nal_rules.specs.declared.verdicts.Fault.TheVariants.{NotGoal}
use Rattle.nal_rules.specs.declared.verdicts.Cause.TheVariants.{GoalUnset, Line}
use Rattle.nal_rules.specs.declared.verdicts.Verdict.TheVariants.{Allowed as AllowedVerdict, Denied as DeniedVerdict}
use Rattle.policy_history.specs.Events.{EntryTree}
use Rattle.policy_history.specs.States.{empty_state}
use Rattle.guard_core.specs.declared.findings.Finding.TheVariants.{Allowed as AllowedFinding, Denied as DeniedFinding}
use Rattle.verdict_words.specs.Answers.{MakesHit}
use Rattle.verdict_words.specs.declared.places.Held.{Held}
use Rattle.verdict_words.specs.declared.views.RegisterStep.TheVariants.{Read}
use Rattle.verdict_words.specs.declared.views.Item.TheVariants.{Loaded, Met, Filled, Ran}
use Rattle.session_core.specs.Standing.{beginning}
use Rattle.session_core.specs.Calls.{IsPlaceIn, plain, state_at}
use Rattle.session_core.specs.Told.{Answers, IsTold, Leads}
use Rattle.session_core.specs.Calls as calling
use Rattle.session_core.specs.Told as told
use Rattle.session_core.specs.Inner.ToldRows.{read, f, make_f, want_ok, show_truth, clear, want_truth, head, entry, place, behind_call, WrongLineKept, wrong_entries, wrong_requests, wrong_replies, wrong_steps, WrongLineAndThenCleared, cleared_entries, cleared_requests, cleared_replies, cleared_steps}
use Rattle.session_core.proofs.WorkedTurns.{on, done, course_leads, is_done, is_hit, is_judged, is_missed, goes_on, next_state}
use Rattle.session_core.proofs.WorkedParts.{truth_read, alice_says_ok_read, by_truth_read, truth_wrong, goal_unset, truth_allowed, f_made, goal_set, due, f_due, goal_due, truth_due, truth_shown, clear_due, goal_cleared, truth_goal_due, truth_wanted, no_hit, low, known, allowed_held}

-- ---- A wrong line is kept

start_at : state_at head wrong_entries 0 ≡ empty_state head
start_at = refl

f_at : state_at head wrong_entries 1 ≡ f_made
f_at = next_state head wrong_entries 1 0 low 0 (empty_state head) make_f (due 0 17) start_at refl f_due

goal_at : state_at head wrong_entries 2 ≡ goal_set
goal_at = next_state head wrong_entries 1 0 low 1 f_made want_ok (due 0 36) f_at refl goal_due

truth_at : state_at head wrong_entries 3 ≡ truth_shown
truth_at = next_state head wrong_entries 1 0 low 2 goal_set show_truth (due 0 55) goal_at refl truth_due

abbrev wrong_held : Held
wrong_held = record { code = 4; line = 1; fault = 12 }

wrong_hit : MakesHit 0 864713118687690755 3 0 wrong_held
wrong_hit = (3, (omega arith, omega arith, (omega arith, omega arith, omega arith, omega arith, λ other. absurd (other refl)), refl), omega arith, omega arith)

wrong_leads : Leads head wrong_entries 1 (beginning 0) wrong_requests wrong_replies [] wrong_steps wrong_entries (behind_call 3)
wrong_leads = course_leads (
    on (told.hello (codes "alice") (codes "pa") _ refl refl refl) (
    on (is_done head wrong_entries 1 0 low 0 [] (empty_state head) _ make_f (due 0 17) refl start_at refl f_due) (
    on (is_done head wrong_entries 1 0 low 1 [] f_made _ want_ok (due 0 36) (refl, refl, alice_says_ok_read) f_at refl goal_due) (
    on (is_done head wrong_entries 1 0 low 2 [] goal_set _ show_truth (due 0 55) (refl, refl, by_truth_read) goal_at refl truth_due) (
    on (is_judged head wrong_entries 1 0 low 3 [] truth_shown read f 0 0 0 (DeniedFinding (Line 1 NotGoal)) [] (Filled 0 3 wrong_held ∷ []) [] truth_at
    (lit≤ tt) (calling.unknown refl refl refl) refl refl truth_wrong tt (calling.kept 0 wrong_held refl refl tt refl refl) (calling.no_step (λ both. cc both.0) refl refl)) (
    on (is_hit head wrong_entries 1 0 low 3 known truth_shown read f 0 place 864713118687690755 3 0 0 wrong_held (DeniedVerdict (Line 1 NotGoal)) [] truth_at
    (lit≤ tt) (refl, record { object_is = refl; case_is = refl; store_is = refl }) wrong_hit refl (record { row = _; stands = refl; lasting = tt; told = truth_wrong })
    (calling.no_step (λ both. cc both.0) refl refl)) done))))))

pub wrong_line_kept : WrongLineKept
wrong_line_kept = record {
  first = 0;
  steps = wrong_steps;
  added = wrong_entries;
  met = refl;
  seen = (lit≤ tt, lit≤ tt);
  leads = wrong_leads;
  entries = refl;
}

-- ---- Then the goal is cleared, and set anew

cleared_at : state_at head cleared_entries 4 ≡ goal_cleared
cleared_at = next_state head cleared_entries 1 0 low 3 truth_shown clear (due 0 22) truth_at refl clear_due

wanted_at : state_at head cleared_entries 5 ≡ truth_wanted
wanted_at = next_state head cleared_entries 1 0 low 4 goal_cleared want_truth (due 0 27) cleared_at refl truth_goal_due

abbrev unset_held : Held
unset_held = record { code = 2; line = 0; fault = 0 }

truth_hit : MakesHit 0 1099511627781 5 0 allowed_held
truth_hit = (5, (omega arith, omega arith, (omega arith, omega arith, omega arith, omega arith, λ _. (refl, refl)), refl), omega arith, omega arith)

-- the entries behind those of the wrong line
abbrev cleared_more : List EntryTree
cleared_more = entry 1 clear ∷ entry 1 want_truth ∷ []

cleared_leads : Leads head cleared_entries 1 (behind_call 3) cleared_requests cleared_replies [] cleared_steps cleared_more (behind_call 5)
cleared_leads = course_leads (
    on (is_done head cleared_entries 1 0 low 3 known truth_shown _ clear (due 0 22) refl truth_at refl clear_due) (
    on (is_judged head cleared_entries 1 0 low 4 known goal_cleared read f 0 0 0 (DeniedFinding GoalUnset)
    (Loaded place 864713118687690755 4 4 0 ∷ []) (Filled 0 4 unset_held ∷ []) [] cleared_at (lit≤ tt)
    (is_missed head cleared_entries 1 0 low 4 known goal_cleared read f place 864713118687690755 4 0 cleared_at (lit≤ tt) (refl, record { object_is = refl; case_is = refl; store_is = refl })
    (no_hit 864713118687690755 3 4 0 wrong_held refl (lit≤ tt) (λ a _. omega (arith, a))))
    refl refl goal_unset tt (calling.kept 0 unset_held refl refl tt refl refl) (calling.no_step (λ both. cc both.0) refl refl)) (
    on (is_done head cleared_entries 1 0 low 4 known goal_cleared _ want_truth (due 0 27) (refl, refl, truth_read) cleared_at refl truth_goal_due) (
    on (is_judged head cleared_entries 1 0 low 5 known truth_wanted read f 0 0 0 (AllowedFinding 0)
    (Loaded place 2199023255556 5 5 0 ∷ []) (Filled 0 5 allowed_held ∷ []) (Ran 0 Read 0 ∷ []) wanted_at (lit≤ tt)
    (is_missed head cleared_entries 1 0 low 5 known truth_wanted read f place 2199023255556 5 0 wanted_at (lit≤ tt) (refl, record { object_is = refl; case_is = refl; store_is = refl })
    (no_hit 2199023255556 4 5 0 unset_held refl (lit≤ tt) (λ a _. omega (arith, a))))
    refl refl truth_allowed refl (calling.kept 0 allowed_held refl refl refl refl refl) (calling.ran Read refl refl refl)) (
    on (is_hit head cleared_entries 1 0 low 5 known truth_wanted read f 0 place 1099511627781 5 0 0 allowed_held AllowedVerdict (Ran 0 Read 0 ∷ []) wanted_at
    (lit≤ tt) (refl, record { object_is = refl; case_is = refl; store_is = refl }) truth_hit refl (record { row = _; stands = refl; lasting = refl; told = truth_allowed }) (calling.ran Read refl refl refl)) done)))))

pub wrong_line_and_then_cleared : WrongLineAndThenCleared
wrong_line_and_then_cleared = goes_on head wrong_entries cleared_more 1 0 wrong_requests wrong_replies [] (Met 0 ∷ wrong_steps) (behind_call 3) wrong_line_kept
    cleared_requests cleared_replies [] cleared_steps cleared_more (behind_call 5) cleared_leads refl
