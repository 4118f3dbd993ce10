-- The worked sessions over a history that made many objects are told so.
use Rattle.std.proofs.Common.{◌≡◌, ◌≤◌, ◌<◌, ◌+◌, ◌*◌, ◌/◌, ◌%◌, ℕ, zero, suc, List, [], ◌∷◌, ◌++◌, length, Bool, true, false, None, codes, refl, sym, arith, ◌∙◌, length-append, nat_eq, leb, ltb}
use Rattle.std.specs.Prelude.{Ok}
use Rattle.std.specs.List.{position_or_len}
use Rattle.std.specs.Fmt.{decimal}
use Rattle.std.proofs.lemmas.Fmt.{decimal_digit}
use Rattle.std.proofs.lemmas.List.{map-append}
use Rattle.std.proofs.lemmas.Bool.{le-ltb, lt-leb}
use Rattle.std.specs.Cmp.Lexicographic.{pointwise, same_text}
use Rattle.object_table.specs.Objects.{ObjectRow, names_of, number_of}
use Rattle.policy_history.specs.Events.{new_object}
use Rattle.policy_history.specs.States.{State}
use Rattle.policy_history.specs.Machine.{replay}
use Rattle.policy_history.specs.Values.{decision}
use Rattle.session_core.proofs.WorkedParts.{no_hit, allowed_held, by_truth_read, due, low, one, truth_allowed, truth_read}
use Rattle.nal_rules.specs.declared.verdicts.Verdict.TheVariants.{Allowed as AllowedVerdict}
use Rattle.guard_core.specs.declared.findings.Finding.TheVariants.{Allowed as AllowedFinding}
use Rattle.verdict_words.specs.Answers.{MakesHit}
use Rattle.verdict_words.specs.declared.views.RegisterStep.TheVariants.{Read}
use Rattle.verdict_words.specs.declared.views.Item.TheVariants.{Filled, Loaded, Met, Ran}
use Rattle.std.proofs.Math.Dec.{lit≤}
use Rattle.session_core.specs.Standing.{Triple, beginning}
use Rattle.session_core.specs.Calls.{IsPlaceIn, state_at}
use Rattle.session_core.specs.Told.{Leads}
use Rattle.session_core.specs.Calls as calling
use Rattle.session_core.specs.Told as told
use Rattle.session_core.proofs.WorkedTurns.{behind, course_leads, done, goes_on, is_missed, is_done, is_hit, is_judged, next_replay, next_state, on}
use Rattle.session_core.specs.Inner.ToldRows.{OtherRegionLeaves, SameRegionRaises, near_entries, near_requests, near_replies, near_steps, behind_first_call, far_entries, far_requests, far_replies, far_steps, show_object, want_object, head, place, read, entry, object_name, objects_made}

abbrev rows : ℕ → List ObjectRow
rows zero = []
rows (suc k) = rows k ++ (object_name k, 0) ∷ []

digits : (j k : ℕ) → object_name k ≡ object_name j → (k / 100 ≡ j / 100) × (k / 10 % 10 ≡ j / 10 % 10) × (k % 10 ≡ j % 10)
digits j k same =
    let a : 48 + k / 100 ≡ 48 + j / 100 = cc in
    let b : 48 + k / 10 % 10 ≡ 48 + j / 10 % 10 = cc in
    let c : 48 + k % 10 ≡ 48 + j % 10 = cc in
    (omega (arith, a), omega (arith, b), omega (arith, c))

apart : (j k : ℕ) → j < k → k < 257 → pointwise nat_eq (object_name k) (object_name j) ≡ false
apart j k less below = of (pointwise nat_eq (object_name k) (object_name j)) refl
  where
    of : (b : Bool) → pointwise nat_eq (object_name k) (object_name j) ≡ b → pointwise nat_eq (object_name k) (object_name j) ≡ false
    of false is = is
    of true is = let d = digits j k (same_text (object_name k) (object_name j) (sym is)) in absurd (omega (arith, d.0, d.1, d.2, less, below))

-- an object that does not stand among the first is not found there
passed_over : {X : Type 0} (t : X → Bool) (xs : List X) (y : X) → position_or_len t xs ≡ length xs → t y ≡ false → position_or_len t (xs ++ y ∷ []) ≡ length (xs ++ y ∷ [])
passed_over t [] y none out = rw out
passed_over t (x ∷ xs) y none out = of (t x) refl (λ rest. passed_over t xs y rest out)
  where
    of : (b : Bool) → t x ≡ b → (position_or_len t xs ≡ length xs → position_or_len t (xs ++ y ∷ []) ≡ length (xs ++ y ∷ [])) → position_or_len t (x ∷ (xs ++ y ∷ [])) ≡ suc (length (xs ++ y ∷ []))
    of true is later = let bad : 0 ≡ suc (length xs) = rw is at none in absurd (omega (arith, bad))
    of false is later =
        let at : 1 + position_or_len t xs ≡ suc (length xs) = rw is at none in
        let more = later (omega (arith, at)) in
        rw is (omega (arith, more))

unfound : (n k : ℕ) → n ≤ k → k < 257 → position_or_len (pointwise nat_eq (object_name k)) (names_of (rows n)) ≡ length (names_of (rows n))
unfound zero k low below = refl
unfound (suc n) k low below =
    let parts : names_of (rows (suc n)) ≡ names_of (rows n) ++ object_name n ∷ [] = map-append (λ (r : ObjectRow). r.0) (rows n) ((object_name n, 0) ∷ []) in
    rw parts (passed_over (pointwise nat_eq (object_name k)) (names_of (rows n)) (object_name n) (unfound n k (omega (arith, low)) below) (apart n k (omega (arith, low)) below))

untaken : (n : ℕ) → n < 257 → number_of (rows n) (object_name n) ≡ None
untaken n below = rw (unfound n n (omega arith) below, le-ltb (length (names_of (rows n))) (length (names_of (rows n))) (omega arith))

rows_length : (n : ℕ) → length (rows n) ≡ n
rows_length zero = refl
rows_length (suc n) = let more = rows_length n in let l = length-append (rows n) ((object_name n, 0) ∷ []) in omega (arith, more, l)

-- the state that the objects lead to; each line has 20 bytes
abbrev made_state : ℕ → State
made_state n = record { labels = []; goals = []; ports = []; cases = []; objects = rows n; entries = n; bytes = 20 * n; tallies = record { entries = n; bytes = 20 * n } ∷ [] }

object_due : (n : ℕ) → n < 257 → decision head (made_state n) 1 0 (new_object (object_name n)) ≡ Ok (due n 20)
object_due n below =
    let few : leb 4096 n ≡ false = lt-leb 4096 n (omega (arith, below)) in
    let long : length (rows n) ≡ n = rows_length n in
    let small : ltb 524288 (20 * n + 20) ≡ false = le-ltb 524288 (20 * n + 20) (omega (arith, below)) in
    let fewer : leb 262144 n ≡ false = lt-leb 262144 n (omega (arith, below)) in
    let shorter : ltb 33554432 (20 * n + 20) ≡ false = le-ltb 33554432 (20 * n + 20) (omega (arith, below)) in
    let room : leb 65536 n ≡ false = lt-leb 65536 n (omega (arith, below)) in
    rw (untaken n below, one, few, small, fewer, shorter, long, room, one, long)

made_at : (n : ℕ) → n ≤ 257 → replay head (objects_made n) ≡ made_state n
made_at zero below = refl
made_at (suc n) below =
    let more : n + 1 ≡ suc n = omega arith in
    let bytes : 20 * n + 20 ≡ 20 * suc n = omega arith in
    let last : behind head (made_state n) 0 (new_object (object_name n)) 20 ≡ made_state (suc n) = rw (more, bytes) in
    next_replay head (objects_made n) 1 0 low (made_state n) (new_object (object_name n)) (due n 20) (made_at n (omega (arith, below))) (object_due n (omega (arith, below))) ∙ last

-- ---- The first object is called, and the goal of one in another region is set

two : decimal 2 ≡ codes "2"
two = decimal_digit 2 (omega arith)

abbrev all_made : State
all_made = made_state 257

abbrev first_wanted : State
first_wanted = behind head all_made 0 (want_object 0) 30

abbrev first_shown : State
first_shown = behind head first_wanted 0 (show_object 0) 58

abbrev far_wanted : State
far_wanted = behind head first_shown 0 (want_object 255) 30

wanted_due : decision head all_made 2 0 (want_object 0) ≡ Ok (due 0 30)
wanted_due = rw (two, two)

shown_due : decision head first_wanted 2 0 (show_object 0) ≡ Ok (due 0 58)
shown_due = rw (one, two, two, one)

far_due : decision head first_shown 2 0 (want_object 255) ≡ Ok (due 0 30)
far_due = rw (two, two)

made_here : state_at head far_entries 257 ≡ all_made
made_here = made_at 257 (omega arith)

wanted_at : state_at head far_entries 258 ≡ first_wanted
wanted_at = next_state head far_entries 2 0 low 257 all_made (want_object 0) (due 0 30) made_here refl wanted_due

shown_at : state_at head far_entries 259 ≡ first_shown
shown_at = next_state head far_entries 2 0 low 258 first_wanted (show_object 0) (due 0 58) wanted_at refl shown_due

far_at : state_at head far_entries 260 ≡ far_wanted
far_at = next_state head far_entries 2 0 low 259 first_shown (want_object 255) (due 0 30) shown_at refl far_due

abbrev known_first : List Triple
known_first = (read, object_name 0) ∷ []

kept_hit : MakesHit 0 1099511628035 259 257 allowed_held
kept_hit = (259, (omega arith, omega arith, (omega arith, omega arith, omega arith, omega arith, λ _. (refl, refl)), refl), omega arith, omega arith)

far_leads : Leads head far_entries 2 (beginning 257) far_requests far_replies [] far_steps (entry 2 (want_object 0) ∷ entry 2 (show_object 0) ∷ entry 2 (want_object 255) ∷ []) (behind_first_call 260)
far_leads = course_leads (
    on (told.hello (codes "alice") (codes "pa") _ refl refl refl) (
    on (is_done head far_entries 2 0 low 257 [] all_made _ (want_object 0) (due 0 30) (refl, refl, truth_read) made_here refl wanted_due) (
    on (is_done head far_entries 2 0 low 258 [] first_wanted _ (show_object 0) (due 0 58) (refl, refl, by_truth_read) wanted_at refl shown_due) (
    on (is_judged head far_entries 2 0 low 259 [] first_shown read (object_name 0) 0 0 0 (AllowedFinding 0) [] (Filled 0 259 allowed_held ∷ []) (Ran 0 Read 0 ∷ []) shown_at
    (lit≤ tt) (calling.unknown refl refl refl) refl refl truth_allowed refl (calling.kept 0 allowed_held refl refl refl refl refl) (calling.ran Read refl refl refl)) (
    on (is_done head far_entries 2 0 low 259 known_first first_shown _ (want_object 255) (due 0 30) (refl, refl, truth_read) shown_at refl far_due) (
    on (is_hit head far_entries 2 0 low 260 known_first far_wanted read (object_name 0) 0 place 1099511628035 259 257 0 allowed_held AllowedVerdict (Ran 0 Read 0 ∷ []) far_at
    (lit≤ tt) (refl, record { object_is = refl; case_is = refl; store_is = refl }) kept_hit refl (record { row = _; stands = refl; lasting = refl; told = truth_allowed }) (calling.ran Read refl refl refl)) done))))))

pub other_region_leaves : OtherRegionLeaves
other_region_leaves = record {
  first = 257;
  steps = far_steps;
  added = _;
  met = refl;
  seen = (lit≤ tt, lit≤ tt);
  leads = far_leads;
  entries = refl;
}

-- ---- Then the goal of one in the same region is set

abbrev near_wanted : State
near_wanted = behind head far_wanted 0 (want_object 256) 30

near_due : decision head far_wanted 2 0 (want_object 256) ≡ Ok (due 0 30)
near_due = rw (two, two)

near_at : state_at head near_entries 261 ≡ near_wanted
near_at = next_state head near_entries 2 0 low 260 far_wanted (want_object 256) (due 0 30) far_at refl near_due

again_hit : MakesHit 0 1099511628037 261 257 allowed_held
again_hit = (261, (omega arith, omega arith, (omega arith, omega arith, omega arith, omega arith, λ _. (refl, refl)), refl), omega arith, omega arith)

near_leads : Leads head near_entries 2 (behind_first_call 260) near_requests near_replies [] near_steps (entry 2 (want_object 256) ∷ []) (behind_first_call 261)
near_leads = course_leads (
    on (is_done head near_entries 2 0 low 260 known_first far_wanted _ (want_object 256) (due 0 30) (refl, refl, truth_read) far_at refl near_due) (
    on (is_judged head near_entries 2 0 low 261 known_first near_wanted read (object_name 0) 0 0 0 (AllowedFinding 0)
    (Loaded place 1099511628035 261 261 257 ∷ []) (Filled 0 261 allowed_held ∷ []) (Ran 0 Read 0 ∷ []) near_at (lit≤ tt)
    (is_missed head near_entries 2 0 low 261 known_first near_wanted read (object_name 0) place 1099511628035 261 257 near_at (lit≤ tt) (refl, record { object_is = refl; case_is = refl; store_is = refl })
    (no_hit 1099511628035 259 261 257 allowed_held refl (lit≤ tt) (λ a _. omega (arith, a))))
    refl refl truth_allowed refl (calling.kept 0 allowed_held refl refl refl refl refl) (calling.ran Read refl refl refl)) (
    on (is_hit head near_entries 2 0 low 261 known_first near_wanted read (object_name 0) 0 place 1099511628037 261 257 0 allowed_held AllowedVerdict (Ran 0 Read 0 ∷ []) near_at
    (lit≤ tt) (refl, record { object_is = refl; case_is = refl; store_is = refl }) again_hit refl (record { row = _; stands = refl; lasting = refl; told = truth_allowed }) (calling.ran Read refl refl refl)) done)))

pub same_region_raises : SameRegionRaises
same_region_raises = goes_on head far_entries (entry 2 (want_object 256) ∷ []) 2 257 far_requests far_replies [] (Met 257 ∷ far_steps) (behind_first_call 260) other_region_leaves
    near_requests near_replies [] near_steps (entry 2 (want_object 256) ∷ []) (behind_first_call 261) near_leads refl
