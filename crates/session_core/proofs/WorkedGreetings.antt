-- The worked sessions in which little is granted are told so.
use Rattle.std.proofs.Common.{◌≡◌, List, [], ◌∷◌, codes, refl}
use Rattle.std.specs.Prelude.{Ok, Err}
use Rattle.std.proofs.Math.Dec.{lit≤}
use Rattle.nal_rules.specs.declared.verdicts.Cause.TheVariants.{GoalUnset}
use Rattle.policy_history.specs.declared.events.Refusal.TheVariants.{NameTaken}
use Rattle.policy_history.specs.Events.{EntryTree}
use Rattle.policy_history.specs.States.{empty_state}
use Rattle.policy_history.specs.Values.{decision}
use Rattle.policy_history.specs.Judged.{case_at}
use Rattle.guard_core.specs.declared.findings.Finding.TheVariants.{Denied as DeniedFinding}
use Rattle.session_core.specs.Calls.{state_at}
use Rattle.session_core.specs.Calls as calling
use Rattle.session_core.specs.Changes as changing
use Rattle.session_core.specs.Told as told
use Rattle.session_core.specs.Inner.ToldRows.{GreetedOnce, NotRecordedIsRefused, allowed_entries, entry, f, head, make_f, read, want_truth}
use Rattle.session_core.proofs.OneLineVerdicts.{unset_goal}
use Rattle.session_core.proofs.ToldRows.{label_at}
use Rattle.session_core.proofs.WorkedParts.{due, f_due, f_made, label_shown, low, one, truth_read}
use Rattle.session_core.proofs.WorkedTurns.{course_leads, done, is_judged, is_nameless, is_refused, is_twice_done, is_unrecorded, next_state, on}

pub greeted_once : GreetedOnce
greeted_once = record {
  first = 0;
  steps = _;
  added = [];
  met = refl;
  seen = (lit≤ tt, lit≤ tt);
  leads = course_leads (
      on (told.early refl (λ name secret e. cc e) refl) (
      on (told.hello (codes "alice") (codes "xx") _ refl refl refl) (
      on (told.hello (codes "alice") (codes "pa") _ refl refl refl) (
      on (told.hello (codes "alice") (codes "pa") _ refl refl refl) (
      on (is_nameless head allowed_entries 2 0 low 0 4 [] label_shown read (codes "g") 0 (lit≤ tt) label_at (lit≤ tt) refl refl) (
      on (told.hello (codes "alice") (codes "pa") _ refl refl refl) (
      on (told.see 0 5 refl refl (changing.not_yet 4 (lit≤ tt, lit≤ tt) (lit≤ tt) refl)) (
      on (told.see 0 4 refl refl (changing.seen 4 (lit≤ tt, lit≤ tt) (lit≤ tt) refl)) done))))))));
  entries = refl;
}

-- ---- Where no goal is set

abbrev entries : List EntryTree
entries = entry 1 make_f ∷ []

start_at : state_at head entries 0 ≡ empty_state head
start_at = refl

f_at : state_at head entries 1 ≡ f_made
f_at = next_state head entries 1 0 low 0 (empty_state head) make_f (due 0 17) start_at refl f_due

truth_due : decision head f_made 1 0 want_truth ≡ Ok (due 0 27)
truth_due = rw (one, one)

taken : decision head f_made 1 0 make_f ≡ Err NameTaken
taken = refl

pub not_recorded_is_refused : NotRecordedIsRefused
not_recorded_is_refused = record {
  first = 0;
  steps = _;
  added = entries;
  met = refl;
  seen = (lit≤ tt, lit≤ tt);
  leads = course_leads (
      on (told.hello (codes "alice") (codes "pa") _ refl refl refl) (
      on (is_twice_done head entries 1 0 low 0 [] (empty_state head) _ make_f (due 0 17) refl start_at refl f_due) (
      on (is_unrecorded head entries 1 0 low 1 [] f_made _ want_truth (due 0 27) (refl, refl, truth_read) f_at (lit≤ tt) truth_due) (
      on (is_refused head entries 1 0 low 1 [] f_made _ make_f NameTaken refl f_at (lit≤ tt) taken) (
      on (is_judged head entries 1 0 low 1 [] f_made read f 0 0 0 (DeniedFinding GoalUnset) [] [] [] f_at (lit≤ tt) (calling.unknown refl refl refl) refl refl
      (unset_goal (case_at head f_made 0 read 0) refl) tt (calling.not_kept (λ both. cc both.0) refl) (calling.no_step (λ both. cc both.0) refl refl)) (
      on (is_judged head entries 1 0 low 1 [] f_made read f 0 0 0 (DeniedFinding GoalUnset) [] [] [] f_at (lit≤ tt) (calling.unknown refl refl refl) refl refl
      (unset_goal (case_at head f_made 0 read 0) refl) tt (calling.not_kept (λ both. cc both.0) refl) (calling.no_step (λ both. cc both.0) refl refl)) done))))));
  entries = refl;
}
