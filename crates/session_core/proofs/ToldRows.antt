-- The worked sessions are told so.
use Rattle.std.proofs.Common.{◌≡◌, [], ◌∷◌, codes, refl, arith}
use Rattle.std.proofs.Math.Dec.{lit≤}
use Rattle.nal_rules.specs.declared.verdicts.Cause.TheVariants.{LabelMissing}
use Rattle.nal_rules.specs.declared.verdicts.Verdict.TheVariants.{Allowed as AllowedVerdict}
use Rattle.policy_history.specs.declared.events.Refusal.TheVariants.{NoSuchLabel}
use Rattle.policy_history.specs.Events.{delete}
use Rattle.policy_history.specs.States.{empty_state}
use Rattle.policy_history.specs.Judged.{IsRightIn}
use Rattle.guard_core.specs.declared.findings.Finding.TheVariants.{Allowed as AllowedFinding, Denied as DeniedFinding}
use Rattle.verdict_words.specs.Answers.{MakesHit}
use Rattle.verdict_words.specs.declared.views.RegisterStep.TheVariants.{Read}
use Rattle.verdict_words.specs.declared.views.Item.TheVariants.{Loaded, Met, Filled, Ran}
use Rattle.session_core.specs.Standing.{beginning}
use Rattle.session_core.specs.Calls.{IsPlaceIn, plain, state_at}
use Rattle.session_core.specs.Told.{Answers, IsTold, Leads}
use Rattle.session_core.specs.Calls as calling
use Rattle.session_core.specs.Told as told
use Rattle.session_core.specs.Inner.ToldRows.{read, f, make_f, want_ok, say_ok, show_label, say_other, AllowedAndKept, head, entry, place, allowed_entries, allowed_requests, allowed_replies, allowed_steps, behind_call, AllowedAndThenDeleted, deleted_entries, deleted_requests, deleted_replies, deleted_steps, AllowedAndOtherSaid, other_entries, other_requests, other_replies, other_steps}
use Rattle.session_core.proofs.WorkedTurns.{on, done, course_leads, IsKnownAt, is_done, is_hit, is_judged, is_missed, is_refused, goes_on, next_state}
use Rattle.session_core.proofs.WorkedParts.{alice_read, ok_read, other_read, alice_says_ok_read, by_label_read, label_allowed, label_missing, f_made, goal_set, ok_said, label_shown, due, f_due, goal_due, say_due, label_due, delete_due, label_deleted, again_refused, other_due, other_said, no_hit, low, known, allowed_held}

start_at : state_at head allowed_entries 0 ≡ empty_state head
start_at = refl

f_at : state_at head allowed_entries 1 ≡ f_made
f_at = next_state head allowed_entries 1 0 low 0 (empty_state head) make_f (due 0 17) start_at refl f_due

goal_at : state_at head allowed_entries 2 ≡ goal_set
goal_at = next_state head allowed_entries 1 0 low 1 f_made want_ok (due 0 36) f_at refl goal_due

ok_at : state_at head allowed_entries 3 ≡ ok_said
ok_at = next_state head allowed_entries 1 0 low 2 goal_set say_ok (due 3 23) goal_at refl say_due

pub label_at : state_at head allowed_entries 4 ≡ label_shown
label_at = next_state head allowed_entries 1 0 low 3 ok_said show_label (due 0 63) ok_at refl label_due

pub allowed_hit : MakesHit 0 1099511627780 4 0 allowed_held
allowed_hit = (4, (omega arith, omega arith, (omega arith, omega arith, omega arith, omega arith, λ _. (refl, refl)), refl), omega arith, omega arith)

pub allowed_right : IsRightIn head label_shown 0 AllowedVerdict
allowed_right = record { row = _; stands = refl; lasting = refl; told = label_allowed [] }

allowed_leads : Leads head allowed_entries 1 (beginning 0) allowed_requests allowed_replies [] allowed_steps allowed_entries (behind_call 4)
allowed_leads = course_leads (
    on (told.hello (codes "alice") (codes "pa") _ refl refl refl) (
    on (is_done head allowed_entries 1 0 low 0 [] (empty_state head) _ make_f (due 0 17) refl start_at refl f_due) (
    on (is_done head allowed_entries 1 0 low 1 [] f_made _ want_ok (due 0 36) (refl, refl, alice_says_ok_read) f_at refl goal_due) (
    on (is_done head allowed_entries 1 0 low 2 [] goal_set _ say_ok (due 3 23) (alice_read, ok_read) goal_at refl say_due) (
    on (is_done head allowed_entries 1 0 low 3 [] ok_said _ show_label (due 0 63) (refl, refl, by_label_read) ok_at refl label_due) (
    on (is_judged head allowed_entries 1 0 low 4 [] label_shown read f 0 0 0 (AllowedFinding 0) [] (Filled 0 4 allowed_held ∷ []) (Ran 0 Read 0 ∷ []) label_at
    (lit≤ tt) (calling.unknown refl refl refl) refl refl (label_allowed []) refl (calling.kept 0 allowed_held refl refl refl refl refl) (calling.ran Read refl refl refl)) (
    on (is_hit head allowed_entries 1 0 low 4 known label_shown read f 0 place 1099511627780 4 0 0 allowed_held AllowedVerdict (Ran 0 Read 0 ∷ []) label_at
    (lit≤ tt) (refl, record { object_is = refl; case_is = refl; store_is = refl }) allowed_hit refl allowed_right (calling.ran Read refl refl refl)) done)))))))

pub allowed_and_kept : AllowedAndKept
allowed_and_kept = record {
  first = 0;
  steps = allowed_steps;
  added = allowed_entries;
  met = refl;
  seen = (lit≤ tt, lit≤ tt);
  leads = allowed_leads;
  entries = refl;
}

-- ---- Then the label is deleted

pub deleted_at : state_at head deleted_entries 5 ≡ label_deleted
deleted_at = next_state head deleted_entries 1 0 low 4 label_shown (delete 3) (due 0 17) label_at refl delete_due

deleted_home : IsKnownAt head deleted_entries 1 0 low 5 known label_deleted read f place
deleted_home = (refl, record { object_is = refl; case_is = refl; store_is = refl })

deleted_leads : Leads head deleted_entries 1 (behind_call 4) deleted_requests deleted_replies [] deleted_steps (entry 1 (delete 3) ∷ []) (behind_call 5)
deleted_leads = course_leads (
    on (is_done head deleted_entries 1 0 low 4 known label_shown _ (delete 3) (due 0 17) refl label_at refl delete_due) (
    on (is_judged head deleted_entries 1 0 low 5 known label_deleted read f 0 0 0 (DeniedFinding (LabelMissing 1))
    (Loaded place 1099511627780 5 4 5 ∷ []) [] [] deleted_at (lit≤ tt)
    (is_missed head deleted_entries 1 0 low 5 known label_deleted read f place 1099511627780 4 5 deleted_at (lit≤ tt) deleted_home
    (no_hit 1099511627780 4 4 5 allowed_held refl (lit≤ tt) (λ _ b. omega (arith, b))))
    refl refl label_missing tt (calling.not_kept (λ both. both.1) refl) (calling.no_step (λ both. cc both.0) refl refl)) (
    on (is_refused head deleted_entries 1 0 low 5 known label_deleted _ (delete 3) NoSuchLabel refl deleted_at (lit≤ tt) again_refused) done)))

pub allowed_and_then_deleted : AllowedAndThenDeleted
allowed_and_then_deleted = goes_on head allowed_entries (entry 1 (delete 3) ∷ []) 1 0 allowed_requests allowed_replies [] (Met 0 ∷ allowed_steps) (behind_call 4) allowed_and_kept
    deleted_requests deleted_replies [] deleted_steps (entry 1 (delete 3) ∷ []) (behind_call 5) deleted_leads refl

-- ---- Or something else is said

other_at : state_at head other_entries 5 ≡ other_said
other_at = next_state head other_entries 1 0 low 4 label_shown say_other (due 5 26) label_at refl other_due

other_leads : Leads head other_entries 1 (behind_call 4) other_requests other_replies [] other_steps (entry 1 say_other ∷ []) (behind_call 5)
other_leads = course_leads (
    on (is_done head other_entries 1 0 low 4 known label_shown _ say_other (due 5 26) (alice_read, other_read) label_at refl other_due) (
    on (is_hit head other_entries 1 0 low 5 known other_said read f 0 place 1099511627780 4 0 0 allowed_held AllowedVerdict (Ran 0 Read 0 ∷ []) other_at
    (lit≤ tt) (refl, record { object_is = refl; case_is = refl; store_is = refl }) allowed_hit refl (record { row = _; stands = refl; lasting = refl; told = label_allowed [] }) (calling.ran Read refl refl refl)) done))

pub allowed_and_other_said : AllowedAndOtherSaid
allowed_and_other_said = goes_on head allowed_entries (entry 1 say_other ∷ []) 1 0 allowed_requests allowed_replies [] (Met 0 ∷ allowed_steps) (behind_call 4) allowed_and_kept
    other_requests other_replies [] other_steps (entry 1 say_other ∷ []) (behind_call 5) other_leads refl
