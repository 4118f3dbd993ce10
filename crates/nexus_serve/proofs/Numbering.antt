-- How workers are hired, one after another.
use Rattle.std.proofs.Common.{◌≡◌, ◌≢◌, ◌<◌, ◌≤◌, ◌+◌, ◌*◌, ℕ, zero, suc, List, [], ◌∷◌, ◌++◌, length, refl, sym, ap, ◌∙◌, subst, arith}
use Rattle.std.proofs.Math.Nat.{mul-le-mul_right, suc-mul}
use Rattle.std.proofs.lemmas.List.Elements.{All-cons, All-head, All-nil, All-tail}
use Rattle.std.specs.Prelude.{All, slice_index_or}
use Rattle.policy_history.specs.declared.events.Entry.{Entry}
use Rattle.nexus_serve.specs.Means.{MeansHistory}
use Rattle.policy_history.specs.declared.heads.Head.{Head}
use Rattle.verdict_words.specs.declared.views.AtomicStep.{AtomicStep}
use Rattle.verdict_words.specs.Values.{Identity, PassValue, enrolled}
use Rattle.verdict_words.proofs.ForCallers.{enrolled_count}
use Rattle.nexus_serve.specs.Inner.Desks.{AreLaid, DeskValue, IsLaid}
use Rattle.nexus_serve.specs.Inner.Serving.{AreDone, AreHired, AreOfBoard}
use Rattle.policy_book.specs.Books.{BookValue}
use Rattle.nexus_serve.specs.Inner.Working.{AreNumbered, IsDone, IsHired, IsUnused, WorkerValue}

-- a book behind some passes more
pub with_next : {K : Type 0} (book book_then : BookValue K) (n m : ℕ) → book_then ≡ record book { next = n } → record book_then { next = book_then.next + m } ≡ record book { next = n + m }
with_next book book_then n m is = rw (is) refl

pub next_of : {K : Type 0} (book book_then : BookValue K) (n : ℕ) → book_then ≡ record book { next = n } → book_then.next ≡ n
next_of book book_then n is = rw (is) refl

-- the passes of a roll are numbered from its first session on
pub numbered_enrolled : (board : Identity Entry Head) (first : ℕ) (entries : List Entry) (known : List AtomicStep) (count : ℕ) → AreNumbered first (enrolled board first entries known count)
numbered_enrolled board first entries known zero = tt
numbered_enrolled board first entries known (suc n) = (refl, numbered_enrolled board (first + 1) entries known n)

-- and are not used
pub unused_enrolled : (board : Identity Entry Head) (first : ℕ) (entries : List Entry) (known : List AtomicStep) (count : ℕ)
    → All (λ (pass : PassValue Entry Head). All (λ (entry : Entry). entry.session ≢ pass.session) entries) (enrolled board first entries known count) → All (IsUnused board) (enrolled board first entries known count)
unused_enrolled board first entries known zero none = All-nil (IsUnused board)
unused_enrolled board first entries known (suc n) none =
    let pass : PassValue Entry Head = record { board = board; session = first; seen = entries; trail = []; known = known } in
    let others = enrolled board (first + 1) entries known n in
    let NoEntry = λ (pass : PassValue Entry Head). All (λ (entry : Entry). entry.session ≢ pass.session) entries in
    let here : IsUnused board pass = record { board_is = refl; trail = refl; unused = All-head NoEntry pass others none } in
    All-cons (IsUnused board) pass others here (unused_enrolled board (first + 1) entries known n (All-tail NoEntry pass others none))

-- a desk with such a roll
pub laid_enrolled : (board : Identity Entry Head) (first : ℕ) (entries : List Entry) (known : List AtomicStep) (count : ℕ) (desk : DeskValue) → desk.first ≡ first → desk.passes ≡ enrolled board first entries known count
    → All (λ (pass : PassValue Entry Head). All (λ (entry : Entry). entry.session ≢ pass.session) entries) desk.passes → IsLaid board first count desk
laid_enrolled board first entries known count desk same roll none = record {
  first_is = same;
  numbered = subst (AreNumbered first) (sym roll) (numbered_enrolled board first entries known count);
  count = ap length roll ∙ enrolled_count board first entries known count;
  unused = subst (All (IsUnused board)) (sym roll) (unused_enrolled board first entries known count (subst (All (λ (pass : PassValue Entry Head). All (λ (entry : Entry). entry.session ≢ pass.session) entries)) roll none));
}

-- the number behind the sessions of one worker more
pub one_more_worker : (first k most : ℕ) → first + suc k * most ≡ first + most + k * most
one_more_worker first k most = let next = suc-mul k most in omega (arith, next)

-- the same from below
pub one_more_before : (first k n most : ℕ) → n ≡ k + 1 → first + k * most + most ≡ first + n * most
one_more_before first k n most is =
    let next = suc-mul k most in
    let sum : first + k * most + most ≡ first + suc k * most = omega (arith, next) in
    let same : suc k ≡ n = omega (arith, is) in
    sum ∙ ap (λ m. first + m * most) same

-- there are numbers for one worker more
pub room_for_one : (first k n most bound : ℕ) → first + n * most ≤ bound → k < n → first + k * most + most ≤ bound
room_for_one first k n most bound all fewer =
    let next = suc-mul k most in
    let within : suc k * most ≤ n * most = mul-le-mul_right most (let more : suc k ≤ n = omega (arith, fewer) in more) in
    omega (arith, all, next, within)

-- each of the hired was hired from its own first session on
pub each_hired : {M : Type 0} (board : Identity Entry Head) (first most : ℕ) (workers : List (WorkerValue M)) → AreHired board first most workers
    → All (λ (worker : WorkerValue M). IsHired board worker.first (length worker.passes) worker) workers
each_hired board first most [] hired = All-nil (λ worker. IsHired board worker.first (length worker.passes) worker)
each_hired board first most (w ∷ ws) hired =
    let here : IsHired board w.first (length w.passes) w = subst (λ n. IsHired board n (length w.passes) w) (sym hired.0.first_is) (subst (λ n. IsHired board first n w) (sym hired.0.count) hired.0) in
    All-cons (λ worker. IsHired board worker.first (length worker.passes) worker) w ws here (each_hired board (first + most) most ws hired.1)

-- the hired are done where each of them is
pub all_done : {M : Type 0} (history : M → MeansHistory) (board : Identity Entry Head) (first most : ℕ) (hired workers : List (WorkerValue M)) → AreHired board first most hired → length workers ≡ length hired
    → ((i : ℕ) (d : WorkerValue M) → i < length hired → IsDone history board (slice_index_or workers i d).unrecorded (slice_index_or hired i d) (slice_index_or workers i d)) → AreDone history board first most hired workers
all_done history board first most [] [] are long each = tt
all_done history board first most (j ∷ js) (w ∷ ws) are long each =
    (are.0, each 0 j (omega arith), all_done history board (first + most) most js ws are.1 (cc long) (λ i d below. each (suc i) d (omega (arith, below))))
all_done history board first most [] (w ∷ ws) are long each = absurd (cc long)
all_done history board first most (j ∷ js) [] are long each = absurd (cc long)

-- all passes of the done are of the board
pub done_of_board : {M : Type 0} (history : M → MeansHistory) (board : Identity Entry Head) (hired workers : List (WorkerValue M)) → length workers ≡ length hired
    → ((i : ℕ) (d : WorkerValue M) → i < length hired → IsDone history board (slice_index_or workers i d).unrecorded (slice_index_or hired i d) (slice_index_or workers i d)) → All (AreOfBoard board) workers
done_of_board history board [] [] long each = All-nil (AreOfBoard board)
done_of_board history board (j ∷ js) (w ∷ ws) long each =
    let here = each 0 j (omega arith) in
    All-cons (AreOfBoard board) w ws (record { used = here.used; unused = here.unused }) (done_of_board history board js ws (cc long) (λ i d below. each (suc i) d (omega (arith, below))))
done_of_board history board [] (w ∷ ws) long each = absurd (cc long)
done_of_board history board (j ∷ js) [] long each = absurd (cc long)

-- one desk more
pub laid_last : (board : Identity Entry Head) (first most : ℕ) (desks : List DeskValue) (desk : DeskValue) → AreLaid board first most desks
    → IsLaid board (first + length desks * most) most desk → AreLaid board first most (desks ++ desk ∷ [])
laid_last board first most [] desk all one = (subst (λ n. IsLaid board n most desk) (let none : first + 0 * most ≡ first = omega arith in none) one, tt)
laid_last board first most (d ∷ ds) desk all one =
    (all.0, laid_last board (first + most) most ds desk all.1 (subst (λ n. IsLaid board n most desk) (one_more_worker first (length ds) most) one))
