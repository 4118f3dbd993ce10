-- What one call more does to what follows from the calls of a panel.
use Rattle.std.proofs.Common.{◌≡◌, ◌+◌, ◌++◌, ◌∷◌, [], List, Bool, true, false, cond, refl, arith}
use Rattle.std.specs.List.{count_by}
use Rattle.std.proofs.lemmas.List.Sums.{sum_by-append, sum_by-cons}
use Rattle.nx_io.specs.Streams.{one_more}
use Rattle.authority_ask.specs.PanelCalls.{PanelCall, asks_in, counted, faults_in, is_ask, is_fault}

count_more : (is_such : PanelCall → Bool) (calls : List PanelCall) (call : PanelCall) → count_by is_such (calls ++ call ∷ []) ≡ count_by is_such calls + cond (is_such call) 1 0
count_more is_such calls call =
    let all = sum_by-append (λ c. cond (is_such c) 1 0) calls (call ∷ []) in
    let last = sum_by-cons (λ c. cond (is_such c) 1 0) call [] in
    omega (arith, all, last)

counted_more : (is_such : PanelCall → Bool) (calls : List PanelCall) (call : PanelCall) (b : Bool) → is_such call ≡ b
    → counted is_such (calls ++ call ∷ []) ≡ cond b (one_more (counted is_such calls)) (counted is_such calls)
counted_more is_such calls call true e =
    let all = count_more is_such calls call in
    let more = rw e at all in
    omega (arith, more)
counted_more is_such calls call false e =
    let all = count_more is_such calls call in
    let more = rw e at all in
    omega (arith, more)

-- how often was asked, and how often the calls have failed
pub asks_more : (calls : List PanelCall) (call : PanelCall) → asks_in (calls ++ call ∷ []) ≡ cond (is_ask call) (one_more (asks_in calls)) (asks_in calls)
asks_more calls call = counted_more is_ask calls call (is_ask call) refl

pub faults_more : (calls : List PanelCall) (call : PanelCall) → faults_in (calls ++ call ∷ []) ≡ cond (is_fault call) (one_more (faults_in calls)) (faults_in calls)
faults_more calls call = counted_more is_fault calls call (is_fault call) refl
