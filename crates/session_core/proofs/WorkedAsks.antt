-- The worked session whose calls ask an authority is told so.
use Rattle.std.proofs.Common.{◌≡◌, ◌<◌, ◌^◌, ℕ, List, [], ◌∷◌, Contains, true, false, Some, codes, refl, arith, length, inr, ap}
use Rattle.std.specs.Prelude.{Ok}
use Rattle.std.proofs.Math.Dec.{lit≤}
use Rattle.std.proofs.lemmas.List.Elements.{All-nil}
use Rattle.nal_term.specs.Trees.{FormulaTree, TermTree, says}
use Rattle.proof_lines.specs.declared.rules.Rule.TheVariants.{Ask as AskRule}
use Rattle.proof_text.specs.CanonicalProof.{proof_text}
use Rattle.proof_text.specs.ProofText.{IsProofText}
use Rattle.proof_text.proofs.ForCallers.{printed_proof}
use Rattle.nal_rules.specs.Asking.{IsDecided}
use Rattle.nal_rules.specs.Faults.{Applies}
use Rattle.nal_rules.specs.Verdicts.{CaseTree}
use Rattle.nal_rules.specs.declared.verdicts.Fault.{Fault}
use Rattle.nal_rules.specs.declared.verdicts.Cause.TheVariants.{AuthorityNo}
use Rattle.policy_history.specs.States.{State, empty_state}
use Rattle.policy_history.specs.Values.{decision}
use Rattle.policy_history.proofs.ForCallers.{plain_tests}
use Rattle.authority_ask.specs.declared.panels.Ask.TheVariants.{Yes, No, Down as DownAnswer, NoMemory as NoAnswer}
use Rattle.guard_core.specs.Judging.{IsBrokenOff, IsJudged}
use Rattle.guard_core.specs.declared.findings.Finding.TheVariants.{Allowed as AllowedFinding, Denied as DeniedFinding}
use Rattle.guard_core.specs.declared.findings.GuardError.TheVariants.{Down as DownError, Memory as MemoryError}
use Rattle.verdict_words.specs.Answers.{MakesHit}
use Rattle.verdict_words.specs.declared.places.Held.{Held}
use Rattle.verdict_words.specs.declared.views.RegisterStep.TheVariants.{Read}
use Rattle.verdict_words.specs.declared.views.Item.TheVariants.{Loaded, Ran}
use Rattle.session_core.specs.Standing.{beginning}
use Rattle.session_core.specs.Calls.{IsPlaceIn, Misses, state_at}
use Rattle.session_core.specs.Told.{Leads}
use Rattle.session_core.specs.Calls as calling
use Rattle.session_core.specs.Told as told
use Rattle.session_core.specs.Inner.ToldRows.{AskedEachTime, alice, alice_says_ok, asked, asking_entries, asking_head, asking_replies, asking_requests, asking_steps, asks_told, behind_call, bind_alice, by_ask, f, make_f, ok, place, read, show_ask, want_ok}
use Rattle.session_core.proofs.OneLineVerdicts.{affirmed_line, ask_fault, case, line, negated_line, undecided}
use Rattle.session_core.proofs.WorkedTurns.{behind, course_leads, done, is_asked, is_done, is_down, is_given_up, is_missed, next_state, on}
use Rattle.session_core.proofs.WorkedParts.{alice_read, alice_says_ok_closed, alice_says_ok_read, alice_says_ok_spelled, due, known, one, one_spelled}

-- ---- The case

by_ask_read : IsProofText (proof_text by_ask) by_ask
by_ask_read =
    printed_proof by_ask (one_spelled (line AskRule alice_says_ok) (record { references = refl; term = refl })
    (record { references = All-nil (λ (r : ℕ). r < 2 ^ 64); term = tt; formula = alice_says_ok_spelled })) ((plain_tests.proofs by_ask).0 (rw one))

abbrev pub ported : List (TermTree × ℕ)
ported = (alice, 1) ∷ []

abbrev pub asking_case : CaseTree
asking_case = case (Some alice_says_ok) (line AskRule alice_says_ok) [] ported

ask_right : (fault : Fault) → Applies by_ask alice_says_ok 1 (line AskRule alice_says_ok) fault → ⊥
ask_right fault a = (ask_fault alice ok alice_says_ok alice_says_ok_closed fault a).1 refl

has_port : (t : TermTree) (s : FormulaTree) → alice_says_ok ≡ says t s → (port : ℕ) × Contains ported (t, port)
has_port t s is = let same : alice ≡ t = cc in (1, (0, omega arith, same_pair t same))
  where
    same_pair : (t : TermTree) → alice ≡ t → ◌≡◌ {A = TermTree × ℕ} (alice, 1) (t, 1)
    same_pair t same = ap (λ (u : TermTree). (u, 1)) same

pub open_case : IsDecided asking_case → ⊥
open_case (cause, less, has) = undecided (line AskRule alice_says_ok) alice_says_ok [] ported ask_right refl has_port [] cause less has

yes_judged : IsJudged asking_case (asked Yes ∷ []) (AllowedFinding 1)
yes_judged = record {
  verdict = affirmed_line (line AskRule alice_says_ok) alice_says_ok [] ported ask_right refl has_port (true ∷ []) refl;
  count = refl;
  asks = record { port = 1; statement = ok; affirmed = true } ∷ [];
  asked = (λ decided. absurd (open_case decided), λ undecided. refl);
  told_is = refl;
}

no_judged : IsJudged asking_case (asked No ∷ []) (DeniedFinding (AuthorityNo 1))
no_judged = record {
  verdict = negated_line (line AskRule alice_says_ok) alice_says_ok [] ported ask_right refl has_port (false ∷ []) (λ affirmed. cc affirmed);
  count = tt;
  asks = record { port = 1; statement = ok; affirmed = false } ∷ [];
  asked = (λ decided. absurd (open_case decided), λ undecided. refl);
  told_is = refl;
}

broken_down : IsBrokenOff asking_case (asked DownAnswer ∷ []) (DownError 1)
broken_down = (open_case, record { line = _; principal = alice; statement = ok; port = 1; stands = refl; is_ask_line = refl; says_is = refl; port_is = refl; told_is = refl })

broken_memory : IsBrokenOff asking_case (asked NoAnswer ∷ []) MemoryError
broken_memory = inr (1, open_case, record { line = _; principal = alice; statement = ok; port = 1; stands = refl; is_ask_line = refl; says_is = refl; port_is = refl; told_is = refl })

-- ---- The states

abbrev f_made : State
f_made = behind asking_head (empty_state asking_head) 0 make_f 17

abbrev goal_set : State
goal_set = behind asking_head f_made 0 want_ok 36

abbrev alice_bound : State
alice_bound = behind asking_head goal_set 0 bind_alice 21

abbrev pub ask_shown : State
ask_shown = behind asking_head alice_bound 0 show_ask 61

f_due : decision asking_head (empty_state asking_head) 1 0 make_f ≡ Ok (due 0 17)
f_due = rw (one, one)

goal_due : decision asking_head f_made 1 0 want_ok ≡ Ok (due 0 36)
goal_due = rw (one, one)

bind_due : decision asking_head goal_set 1 0 bind_alice ≡ Ok (due 0 21)
bind_due = rw (one, one)

ask_due : decision asking_head alice_bound 1 0 show_ask ≡ Ok (due 0 61)
ask_due = rw (one, one)

low : 0 < length asking_head.principals
low = lit≤ tt

start_at : state_at asking_head asking_entries 0 ≡ empty_state asking_head
start_at = refl

f_at : state_at asking_head asking_entries 1 ≡ f_made
f_at = next_state asking_head asking_entries 1 0 low 0 (empty_state asking_head) make_f (due 0 17) start_at refl f_due

goal_at : state_at asking_head asking_entries 2 ≡ goal_set
goal_at = next_state asking_head asking_entries 1 0 low 1 f_made want_ok (due 0 36) f_at refl goal_due

bound_at : state_at asking_head asking_entries 3 ≡ alice_bound
bound_at = next_state asking_head asking_entries 1 0 low 2 goal_set bind_alice (due 0 21) goal_at refl bind_due

pub ask_at : state_at asking_head asking_entries 4 ≡ ask_shown
ask_at = next_state asking_head asking_entries 1 0 low 3 alice_bound show_ask (due 0 61) bound_at refl ask_due

-- ---- The turns

-- a slot that was never filled makes no hit
empty_slot : (held : Held) → MakesHit 0 0 4 0 held → ⊥
empty_slot held (at, (fits, below, ok, is), first, second) = omega (arith, is, ok.0)

missed : Misses asking_head asking_entries (behind_call 4) 0 read f 4 (Loaded place 0 4 4 0 ∷ [])
missed = is_missed asking_head asking_entries 1 0 low 4 known ask_shown read f place 0 4 0 ask_at (lit≤ tt) (refl, record { object_is = refl; case_is = refl; store_is = refl }) empty_slot

asking_leads : Leads asking_head asking_entries 1 (beginning 0) asking_requests asking_replies asks_told asking_steps asking_entries (behind_call 4)
asking_leads = course_leads (
    on (told.hello (codes "alice") (codes "pa") _ refl refl refl) (
    on (is_done asking_head asking_entries 1 0 low 0 [] (empty_state asking_head) _ make_f (due 0 17) refl start_at refl f_due) (
    on (is_done asking_head asking_entries 1 0 low 1 [] f_made _ want_ok (due 0 36) (refl, refl, alice_says_ok_read) f_at refl goal_due) (
    on (is_done asking_head asking_entries 1 0 low 2 [] goal_set _ bind_alice (due 0 21) (alice_read, refl) goal_at refl bind_due) (
    on (is_done asking_head asking_entries 1 0 low 3 [] alice_bound _ show_ask (due 0 61) (refl, refl, by_ask_read) bound_at refl ask_due) (
    on (is_asked asking_head asking_entries 1 0 low 4 [] ask_shown read f 0 0 0 (AllowedFinding 1) (asked Yes ∷ []) [] [] (Ran 0 Read 0 ∷ []) ask_at (lit≤ tt) (calling.unknown refl refl refl) refl yes_judged
    (calling.not_kept (λ both. cc both.1) refl) (calling.ran Read refl refl refl)) (
    on (is_asked asking_head asking_entries 1 0 low 4 known ask_shown read f 0 0 0 (DeniedFinding (AuthorityNo 1)) (asked No ∷ []) (Loaded place 0 4 4 0 ∷ []) [] [] ask_at (lit≤ tt) missed refl no_judged
    (calling.not_kept (λ both. both.1) refl) (calling.no_step (λ both. cc both.0) refl refl)) (
    on (is_down asking_head asking_entries 1 0 low 4 known ask_shown read f 0 0 1 (asked DownAnswer ∷ []) (Loaded place 0 4 4 0 ∷ []) ask_at (lit≤ tt) missed refl broken_down) (
    on (is_given_up asking_head asking_entries 1 0 low 4 known ask_shown read f 0 0 (asked NoAnswer ∷ []) (Loaded place 0 4 4 0 ∷ []) ask_at (lit≤ tt) missed refl broken_memory) done)))))))))

pub asked_each_time : AskedEachTime
asked_each_time = record {
  first = 0;
  steps = asking_steps;
  added = asking_entries;
  met = refl;
  seen = (lit≤ tt, lit≤ tt);
  leads = asking_leads;
  entries = refl;
}
