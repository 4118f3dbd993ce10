-- No text begins with two policies, and one that has an error begins with none.
use Rattle.std.proofs.Common.{◌≡◌, ◌≢◌, ◌<◌, ◌≤◌, ◌+◌, ℕ, List, [], ◌∷◌, ◌++◌, inl, inr, Result, Ok, Err, IfOk, IfErr, refl, ap, subst, arith}
use Rattle.std.specs.List.{All}
use Rattle.std.proofs.lemmas.List.Elements.{All-cons, All-head, All-nil, All-tail}
use Rattle.policy_history.specs.declared.heads.Head.{Head}
use Rattle.policy_history.specs.Events.{EntryTree}
use Rattle.text_lines.specs.Lines.{first_line}
use Rattle.journal_text.specs.PolicyFronts.{AreBelow, IsBelow, IsFront, IsFrontError}
use Rattle.journal_text.specs.PolicyText.{Fault, Follows, IsEntryLine, IsFaultAt, IsUnended, Leads, Stage, authority, end, ended_with, entry, formless, header, here, on, open_with, principal, refusal}
use Rattle.journal_text.specs.declared.policy_reader.PolicyError.{PolicyError}
use Rattle.journal_text.specs.declared.policy_reader.PolicyError.TheVariants.{Bad, Refused, TooLong, Memory}
use Rattle.journal_text.proofs.OnePolicy.{fault_stops, retold, sole}
use Rattle.journal_text.proofs.PolicyEntries.{end_no_entry, head_line_no_entry}
use Rattle.journal_text.proofs.PolicyReading.{IsCase, by_end, by_entry, by_head, nothing_after, open_cases}

-- ---- One front

pub record IsSame (h g : Head) (es fs : List EntryTree) (n m : ℕ) (rest left : List ℕ) : Type 0 where
  pub head : h ≡ g
  pub entries : es ≡ fs
  pub lines : n ≡ m
  pub behind : rest ≡ left

ended_all : {text rest : List ℕ} {n : ℕ} {h g : Head} {es fs : List EntryTree} → Leads (ended_with h es) text n (ended_with g fs) rest → IsSame h g es fs 0 n text rest
ended_all here = record { head = refl; entries = refl; lines = refl; behind = refl }
ended_all (on some f l) = absurd (nothing_after f)

one_end : {stage : Stage} {text rest left : List ℕ} {n m : ℕ} {h g : Head} {es fs : List EntryTree} → Leads stage text n (ended_with h es) rest → Leads stage text m (ended_with g fs) left
    → IsSame h g es fs n m rest left
one_end here l = ended_all l
one_end (on some f k) here = absurd (nothing_after f)
one_end (on some f k) (on more g l) =
    let same = one_end k (retold f g l) in
    record { head = same.head; entries = same.entries; lines = ap (λ n. n + 1) same.lines; behind = same.behind }

-- ---- No front where a line is wrong

wrong_or_end : {stage last : Stage} {text rest left : List ℕ} {n m : ℕ} (h : Head) (es : List EntryTree) (a : Fault) → Leads stage text n last rest → IsUnended last → IsFaultAt last rest a
    → Leads stage text m (ended_with h es) left → ⊥
wrong_or_end h es a here u w here = u
wrong_or_end {stage = stage} {text = text} h es a here u w (on {next = next} some f k) = fault_stops stage text a next w some f
wrong_or_end h es a (on some f k) u w here = nothing_after f
wrong_or_end h es a (on some f k) u w (on more g l) = wrong_or_end h es a k u w (retold f g l)

-- ---- Nor where a session is above the bound

-- what holds of all holds of a front, and of what is behind it
all_left : (P : EntryTree → Type 0) (xs ys : List EntryTree) → All P (xs ++ ys) → All P xs
all_left P [] ys all = All-nil P
all_left P (x ∷ xs) ys all = All-cons P x xs (All-head P x (xs ++ ys) all) (all_left P xs ys (All-tail P x (xs ++ ys) all))

all_right : (P : EntryTree → Type 0) (xs ys : List EntryTree) → All P (xs ++ ys) → All P ys
all_right P [] ys all = all
all_right P (x ∷ xs) ys all = all_right P xs ys (All-tail P x (xs ++ ys) all)

-- what was read before a line is below the bound where all is
step_back : (most : ℕ) {stage next : Stage} {line : List ℕ} → Follows stage line next → IsBelow most next → IsBelow most stage
step_back most (header is) below = tt
step_back most (principal p is n s are) below = All-nil (λ (e : EntryTree). e.session ≤ most)
step_back most (authority a is are) below = All-nil (λ (e : EntryTree). e.session ≤ most)
step_back most (entry {es = es} e l acc) below = all_left (λ (x : EntryTree). x.session ≤ most) es (e ∷ []) below
step_back most (end is) below = below

below_back : (most : ℕ) {stage last : Stage} {text rest : List ℕ} {n : ℕ} → Leads stage text n last rest → IsBelow most last → IsBelow most stage
below_back most here below = below
below_back most (on some f k) below = step_back most f (below_back most k below)

-- an entry above the bound can't lead on to what is below it
above_stops : (most : ℕ) {h : Head} {es : List EntryTree} {line : List ℕ} {next : Stage} (e : EntryTree) → IsEntryLine h line e → most < e.session → IsBelow most next
    → Follows (open_with h es) line next → ⊥
above_stops most {h = h} {es = es} {line = line} {next = next} e read above below f = of (open_cases f)
  where
    of : IsCase h es line next → ⊥
    of (by_head none is) = head_line_no_entry line is h e read
    of (by_entry other l acc n) =
        let all : AreBelow most (es ++ other ∷ []) = subst (IsBelow most) n below in
        let last : other.session ≤ most = All-head (λ (x : EntryTree). x.session ≤ most) other [] (all_right (λ (x : EntryTree). x.session ≤ most) es (other ∷ []) all) in
        let same : other.session ≡ e.session = ap (λ (x : EntryTree). x.session) ((sole read).only other l) in
        omega (arith, last, same, above)
    of (by_end is n) = end_no_entry line is h e read

above_or_end : (most : ℕ) {stage : Stage} {text rest left : List ℕ} {n m : ℕ} {h g : Head} {es fs : List EntryTree} (e : EntryTree) → Leads stage text n (open_with h es) rest
    → IsEntryLine h (first_line rest) e → most < e.session → Leads stage text m (ended_with g fs) left → AreBelow most fs → ⊥
above_or_end most e here read above (on {next = next} some f k) below = above_stops most {next = next} e read above (below_back most k below) f
above_or_end most e (on some f k) read above here below = nothing_after f
above_or_end most e (on some f k) read above (on more g l) below = above_or_end most e k read above (retold f g l) below

-- ---- So what is read, and what is told, leave no other reading

pub sole_front : (most : ℕ) (text : List ℕ) {A : Type 0} (head : A → Head) (entries : A → List EntryTree) (lines : A → ℕ) (behind : A → List ℕ) (r : Result A PolicyError)
    → IfOk r (λ a. IsFront most text (head a) (entries a) (lines a) (behind a))
    → IfOk r (λ a. (h : Head) (es : List EntryTree) (n : ℕ) (rest : List ℕ) → IsFront most text h es n rest → (h ≡ head a) × (es ≡ entries a) × (n ≡ lines a) × (rest ≡ behind a))
sole_front most text head entries lines behind (Ok a) read = λ h es n rest other.
    let same = one_end other.led read.led in (same.head, same.entries, same.lines, same.behind)
sole_front most text head entries lines behind (Err e) read = tt

pub error_or_front : (most : ℕ) (text : List ℕ) (e : PolicyError) → IsFrontError most text e → e ≢ Memory → (h : Head) (es : List EntryTree) (n : ℕ) (rest : List ℕ) → IsFront most text h es n rest → ⊥
error_or_front most text (Bad k) (inl w) some h es n rest front = wrong_or_end h es formless w.led w.unended w.wrong front.led
error_or_front most text (Bad k) (inr w) some h es n rest front = above_or_end most w.last w.led w.line w.above front.led front.below
error_or_front most text (Refused k number) w some h es n rest front = wrong_or_end h es (refusal w.0) w.2.led w.2.unended w.2.wrong front.led
error_or_front most text TooLong w some h es n rest front = absurd w
error_or_front most text Memory w some h es n rest front = some refl

pub no_front : (most : ℕ) (text : List ℕ) {A : Type 0} (r : Result A PolicyError) → IfErr r (IsFrontError most text)
    → IfErr r (λ e. e ≢ Memory → (h : Head) (es : List EntryTree) (n : ℕ) (rest : List ℕ) → IsFront most text h es n rest → ⊥)
no_front most text (Ok a) told = tt
no_front most text (Err e) told = error_or_front most text e told
