-- What one call more does to what follows from the calls of a door.
use Rattle.std.proofs.Common.{◌≡◌, ◌+◌, ◌++◌, ◌∷◌, [], List, Bool, true, false, cond, refl, arith}
use Rattle.std.specs.List.{count_by}
use Rattle.std.proofs.lemmas.List.Sums.{sum_by-append, sum_by-cons}
use Rattle.nx_io.specs.Streams.{one_more}
use Rattle.nx_io.specs.DoorCalls.{DoorCall, counted, faults_in, gave_in, is_fault, is_gift}

count_more : (is_such : DoorCall → Bool) (calls : List DoorCall) (call : DoorCall) → count_by is_such (calls ++ call ∷ []) ≡ count_by is_such calls + cond (is_such call) 1 0
count_more is_such calls call =
    let all = sum_by-append (λ c. cond (is_such c) 1 0) calls (call ∷ []) in
    let last = sum_by-cons (λ c. cond (is_such c) 1 0) call [] in
    omega (arith, all, last)

counted_more : (is_such : DoorCall → Bool) (calls : List DoorCall) (call : DoorCall) (b : Bool) → is_such call ≡ b
    → counted is_such (calls ++ call ∷ []) ≡ cond b (one_more (counted is_such calls)) (counted is_such calls)
counted_more is_such calls call true e =
    let all = count_more is_such calls call in
    let more = rw e at all in
    omega (arith, more)
counted_more is_such calls call false e =
    let all = count_more is_such calls call in
    let more = rw e at all in
    omega (arith, more)

-- how many links were given, and how often the calls have failed
pub gave_more : (calls : List DoorCall) (call : DoorCall) → gave_in (calls ++ call ∷ []) ≡ cond (is_gift call) (one_more (gave_in calls)) (gave_in calls)
gave_more calls call = counted_more is_gift calls call (is_gift call) refl

pub faults_more : (calls : List DoorCall) (call : DoorCall) → faults_in (calls ++ call ∷ []) ≡ cond (is_fault call) (one_more (faults_in calls)) (faults_in calls)
faults_more calls call = counted_more is_fault calls call (is_fault call) refl
