-- Turn by turn of a worker's load.
use Rattle.std.proofs.Common.{◌≡◌, ◌<◌, ◌≤◌, ◌+◌, ◌*◌, ℕ, zero, suc, Bool, true, false, List, [], ◌∷◌, ◌++◌, length, Some, refl, sym, ap, ◌∙◌, subst, arith, length-append, codes}
use Rattle.std.specs.Prelude.{◌%◌, ◌^◌, slice_get, take, unwrap_or, if◌then◌else◌}
use Rattle.std.specs.Fmt.{decimal}
use Rattle.std.proofs.lemmas.Fmt.{length-decimal-le_succ}
use Rattle.std.proofs.Math.Nat.{mul-le-mul_left}
use Rattle.byteorder.specs.Endian.{big_bytes}
use Rattle.byteorder.specs.Numbers.{length-bytes_high_first}
use Rattle.session_wire.specs.declared.requests.Request.{Request}
use Rattle.session_wire.specs.declared.requests.Request.TheVariants.{Hello, Say, NewObject, SetGoal, ClearGoal, SetProof, Call}
use Rattle.session_wire.specs.Frames.{most_payload, number_bytes, request_frame, request_frames, request_payload, text_bytes}
use Rattle.session_wire.proofs.ForCallers.{request_frames_then}
use Rattle.nexus_drill.specs.declared.outcomes.DrillTotals.{DrillTotals}
use Rattle.nexus_drill.specs.Draws.{draw_of, next, state_after}
use Rattle.nexus_drill.specs.Drills.{first_requests, frames_of, goal_text, is_goal_set, object, one_allowed, one_denied, one_entry, outcome_of, principal, proof_text, request_of, requests_of, secret, set_after, totals, totals_of, turning, worker_draw}
use Rattle.nexus_drill.proofs.Loading.{next_state}

-- ---- The draws

pub next_draw : (number worker place x y h : ℕ) → x ≡ state_after ((number + worker) % 2 ^ 64) place → y ≡ next x → h ≡ draw_of y
    → (y ≡ state_after ((number + worker) % 2 ^ 64) (place + 1)) × (h ≡ worker_draw number worker place)
next_draw number worker place x y h x_is y_is h_is =
    let state : y ≡ state_after ((number + worker) % 2 ^ 64) (place + 1) = y_is ∙ ap next x_is ∙ sym (next_state ((number + worker) % 2 ^ 64) place) in
    (state, h_is ∙ ap draw_of state)

pub next_set : (number worker place h : ℕ) (old new : Bool) → h ≡ worker_draw number worker place → old ≡ is_goal_set number worker place → new ≡ set_after h old → new ≡ is_goal_set number worker (place + 1)
next_set number worker place h old new h_is old_is new_is =
    let more : place + 1 ≡ suc place = omega arith in
    new_is ∙ ap (λ (n : ℕ). set_after n old) h_is ∙ ap (set_after (worker_draw number worker place)) old_is ∙ sym (ap (is_goal_set number worker) more)

-- ---- What comes of the requests

abbrev pub all_of : DrillTotals → ℕ
all_of t = t.allowed + t.denied + t.entries

pub one_counted : (h : ℕ) (is_set : Bool) → all_of (outcome_of h is_set) ≡ 1
one_counted h is_set = of (h % 8) is_set
  where
    of : (n : ℕ) (b : Bool) → all_of (unwrap_or (slice_get (one_entry ∷ one_entry ∷ one_allowed ∷ one_allowed ∷ one_allowed ∷ []) n) (if b then one_allowed else one_denied)) ≡ 1
    of zero b = refl
    of (suc zero) b = refl
    of (suc (suc zero)) b = refl
    of (suc (suc (suc zero))) b = refl
    of (suc (suc (suc (suc zero)))) b = refl
    of (suc (suc (suc (suc (suc n))))) true = refl
    of (suc (suc (suc (suc (suc n))))) false = refl

-- each request of a worker but the greeting is counted once
pub worker_counted : (number worker calls : ℕ) → all_of (totals_of number worker calls) ≡ 6 + calls
worker_counted number worker zero = refl
worker_counted number worker (suc calls) =
    let before = worker_counted number worker calls in
    let one = one_counted (worker_draw number worker calls) (is_goal_set number worker calls) in
    omega (arith, before, one)

pub all_counted : (number workers calls : ℕ) → all_of (totals number workers calls) ≡ workers * (6 + calls)
all_counted number zero calls = omega arith
all_counted number (suc workers) calls =
    let before = all_counted number workers calls in
    let one = worker_counted number workers calls in
    let times : suc workers * (6 + calls) ≡ workers * (6 + calls) + (6 + calls) = omega arith in
    omega (arith, before, one, times)

pub counted_below : (workers calls : ℕ) → calls ≤ 4000 → workers * (6 + calls) ≤ workers * 4006
counted_below workers calls low = mul-le-mul_left workers (omega (arith, low))

-- ---- The payloads are short

length-number : (n : ℕ) → length (number_bytes n) ≡ 8
unfolding number_bytes
length-number n = length-bytes_high_first 8 n

length-text : (text : List ℕ) → length (text_bytes text) ≡ 2 + length text
unfolding text_bytes
length-text text = length-append (big_bytes 2 (length text)) text ∙ ap (λ (n : ℕ). n + length text) (length-bytes_high_first 2 (length text))

module _ (worker : ℕ) (low : worker < 64) where
  few : length (decimal worker) ≤ 64
  few = let most = length-decimal-le_succ worker (omega (arith, low)) in omega (arith, most, low)

  greeting_fits : (word : List ℕ) → length word ≤ 65 → length (request_payload (Hello (principal worker) word)) ≤ most_payload
  greeting_fits word short = omega (arith, few, short, length-append {A = ℕ}, length-text)

  object_fits : length (request_payload (NewObject (object worker))) ≤ most_payload
  object_fits = omega (arith, few, length-append {A = ℕ}, length-text)

  goal_fits : (op : List ℕ) → length op ≤ 5 → length (request_payload (SetGoal op (object worker) (goal_text worker))) ≤ most_payload
  goal_fits op short = let text = length-append (decimal worker) (codes " says ok") in omega (arith, few, short, text, length-append {A = ℕ}, length-text)

  clearing_fits : (op : List ℕ) → length op ≤ 5 → length (request_payload (ClearGoal op (object worker))) ≤ most_payload
  clearing_fits op short = omega (arith, few, short, length-append {A = ℕ}, length-text)

  proof_fits : (op : List ℕ) → length op ≤ 5 → length (request_payload (SetProof op (object worker) (proof_text worker))) ≤ most_payload
  proof_fits op short = let text = length-append (decimal worker) (codes " says ok ; end") in omega (arith, few, short, text, length-append {A = ℕ}, length-text)

  saying_fits : (formula : List ℕ) → length formula ≤ 5 → length (request_payload (Say (principal worker) formula)) ≤ most_payload
  saying_fits formula short = omega (arith, few, short, length-append {A = ℕ}, length-text)

  call_fits : (op : List ℕ) (arg : ℕ) → length op ≤ 5 → length (request_payload (Call op (object worker) arg)) ≤ most_payload
  call_fits op arg short = omega (arith, few, short, length-append {A = ℕ}, length-text, length-number)

  pub drawn_fits : (h : ℕ) (is_set : Bool) → length (request_payload (request_of worker h is_set)) ≤ most_payload
  drawn_fits h is_set = of (h % 8) is_set
    where
      of : (n : ℕ) (b : Bool) → length (request_payload (unwrap_or (slice_get (Say (principal worker) (codes "note") ∷ turning worker b ∷ Call (codes "write") (object worker) h ∷ Call (codes "write") (object worker) h ∷ Call (codes "write") (object worker) h ∷ []) n) (Call (codes "read") (object worker) 0))) ≤ most_payload
      of zero b = saying_fits (codes "note") (omega arith)
      of (suc zero) true = clearing_fits (codes "read") (omega arith)
      of (suc zero) false = goal_fits (codes "read") (omega arith)
      of (suc (suc zero)) b = call_fits (codes "write") h (omega arith)
      of (suc (suc (suc zero))) b = call_fits (codes "write") h (omega arith)
      of (suc (suc (suc (suc zero)))) b = call_fits (codes "write") h (omega arith)
      of (suc (suc (suc (suc (suc n))))) b = call_fits (codes "read") 0 (omega arith)

  as_first : (q request : Request) → Some q ≡ Some request → length (request_payload q) ≤ most_payload → length (request_payload request) ≤ most_payload
  as_first q request at fits = let same : q ≡ request = cc at in subst (λ (r : Request). length (request_payload r) ≤ most_payload) same fits

  pub first_fits : (place : ℕ) (request : Request) → slice_get (first_requests worker) place ≡ Some request → length (request_payload request) ≤ most_payload
  first_fits zero request at = as_first (Hello (principal worker) (secret worker)) request at (greeting_fits (secret worker) (omega (arith, few)))
  first_fits (suc zero) request at = as_first (NewObject (object worker)) request at object_fits
  first_fits (suc (suc zero)) request at = as_first (SetGoal (codes "read") (object worker) (goal_text worker)) request at (goal_fits (codes "read") (omega arith))
  first_fits (suc (suc (suc zero))) request at = as_first (SetGoal (codes "write") (object worker) (goal_text worker)) request at (goal_fits (codes "write") (omega arith))
  first_fits (suc (suc (suc (suc zero)))) request at = as_first (SetProof (codes "read") (object worker) (proof_text worker)) request at (proof_fits (codes "read") (omega arith))
  first_fits (suc (suc (suc (suc (suc zero))))) request at = as_first (SetProof (codes "write") (object worker) (proof_text worker)) request at (proof_fits (codes "write") (omega arith))
  first_fits (suc (suc (suc (suc (suc (suc zero)))))) request at = as_first (Say (principal worker) (codes "ok")) request at (saying_fits (codes "ok") (omega arith))
  first_fits (suc (suc (suc (suc (suc (suc (suc n))))))) request at = absurd (cc at)

pub fits_as : (worker h : ℕ) (is_set : Bool) (request : Request) → worker < 64 → request ≡ request_of worker h is_set → length (request_payload request) ≤ most_payload
fits_as worker h is_set request low is = subst (λ (q : Request). length (request_payload q) ≤ most_payload) (sym is) (drawn_fits worker low h is_set)

-- ---- The frames

-- what is taken of a list, and one more
take_more : {A : Type 0} (xs : List A) (n : ℕ) (x : A) → slice_get xs n ≡ Some x → take (suc n) xs ≡ take n xs ++ x ∷ []
take_more [] n x at = absurd (cc at)
take_more (y ∷ xs) zero x at = let same : y ≡ x = cc at in ap (λ z. z ∷ []) same
take_more (y ∷ xs) (suc n) x at = ap (λ ys. y ∷ ys) (take_more xs n x at)

pub first_more : (worker place : ℕ) (request : Request) (old new : List ℕ) → slice_get (first_requests worker) place ≡ Some request → old ≡ request_frames (take place (first_requests worker)) → new ≡ old ++ request_frame request
    → new ≡ request_frames (take (place + 1) (first_requests worker))
first_more worker place request old new at old_is new_is =
    let more : place + 1 ≡ suc place = omega arith in
    let longer : take (place + 1) (first_requests worker) ≡ take place (first_requests worker) ++ request ∷ [] = ap (λ (n : ℕ). take n (first_requests worker)) more ∙ take_more (first_requests worker) place request at in
    new_is ∙ ap (λ (xs : List ℕ). xs ++ request_frame request) old_is ∙ sym (request_frames_then (take place (first_requests worker)) request) ∙ sym (ap request_frames longer)

pub frames_more : (number worker place h : ℕ) (is_set : Bool) (request : Request) (old new : List ℕ) → h ≡ worker_draw number worker place → is_set ≡ is_goal_set number worker place → request ≡ request_of worker h is_set
    → old ≡ frames_of number worker place → new ≡ old ++ request_frame request → new ≡ frames_of number worker (place + 1)
frames_more number worker place h is_set request old new h_is set_is request_is old_is new_is =
    let more : place + 1 ≡ suc place = omega arith in
    let same : request ≡ request_of worker (worker_draw number worker place) (is_goal_set number worker place) = request_is ∙ (λ i. request_of worker (h_is i) (set_is i)) in
    new_is ∙ (λ i. old_is i ++ request_frame (same i)) ∙ sym (request_frames_then (requests_of number worker place) (request_of worker (worker_draw number worker place) (is_goal_set number worker place)))
    ∙ sym (ap (frames_of number worker) more)
