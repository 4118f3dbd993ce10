-- What the steps of an order find.
use Rattle.std.proofs.Common.{◌≡◌, ◌≢◌, ◌⊎◌, ℕ, suc, ◌+◌, ◌^◌, ◌<◌, List, [], ◌∷◌, ◌++◌, length, set, get_or, refl, sym, ap, ◌∙◌, subst, inl, inr, ⊎_elim, arith, length-set, get_or-set_other, get_or-set_same, Bool, true, false}
use Rattle.std.specs.Prelude.{All, cond, filter, ◌==◌, ◌&&◌}
use Rattle.std.proofs.lemmas.List.Elements.{All-cons, All-nil}
use Rattle.std.proofs.lemmas.Bool.{ne_eqb, eq-eqb}
use mathlib.Core.Logic.{dite}
use native.Mathlib.Decide.{ℕ_discrete}
use Rattle.verdict_words.specs.Words.{first_words, word_count}
use Rattle.verdict_words.specs.Orders.{leaves, Replays, IsDone}
use Rattle.verdict_words.specs.Laws.{IsLeft, FindsTheLast, CountsAll, is_add, entries_in}
use Rattle.verdict_words.specs.declared.views.Action.{Action}
use Rattle.verdict_words.specs.declared.views.Action.TheVariants.{Load, Store, Swap, FetchAdd}
use Rattle.verdict_words.specs.declared.views.AtomicStep.{AtomicStep}
use Rattle.verdict_words.proofs.Opening.{words_length}

abbrev Done : AtomicStep → Type 0
Done step = IsDone step.action step.session step.word

-- what stands between two parts of a replay
record Between (words : List ℕ) (before : List AtomicStep) (step : AtomicStep) : Type 0 where
  mid : List ℕ
  reaches : Replays words before mid
  found : step.found ≡ get_or mid step.word 0
  done : All Done before
  done_here : Done step

between : (words last : List ℕ) (before after : List AtomicStep) (step : AtomicStep) → Replays words (before ++ step ∷ after) last → All Done (before ++ step ∷ after) → Between words before step
between words last [] after step replays done = record { mid = words; reaches = refl; found = replays.0; done = All-nil Done; done_here = done 0 step (omega arith) }
between words last (x ∷ xs) after step replays done =
    let rest = between (set words x.word (leaves x.action x.found)) last xs after step replays.1 (λ k d lt. done (suc k) d (omega arith)) in record {
      mid = rest.mid;
      reaches = (replays.0, rest.reaches);
      found = rest.found;
      done = All-cons Done x xs (done 0 x (omega arith)) rest.done;
      done_here = rest.done_here;
    }

-- every step is on a word of the board
on_board : (action : Action) (session word : ℕ) → IsDone action session word → word < word_count
on_board Load session word low = low
on_board (Store value) session word done = ⊎_elim (λ t. let h = t.1.1 in omega arith) (λ t. let h = t.1.1 in omega arith) done
on_board (Swap value) session word done = let h = done.1.1 in omega arith
on_board (FetchAdd value) session word done = ⊎_elim (λ t. let h = t.1 in omega arith) (λ t. let h = t.1.1 in omega arith) done

-- a word holds what the last step on it left
left_there : (words last : List ℕ) (steps : List AtomicStep) (i : ℕ) → i < length words → Replays words steps last → IsLeft words steps i (get_or last i 0)
left_there words last [] i low is = inr (All-nil (λ (step : AtomicStep). step.word ≢ i), ap (λ (l : List ℕ). get_or l i 0) is)
left_there words last (x ∷ xs) i low is =
    let v : ℕ = leaves x.action x.found in
    let here : (x.word ≡ i) ⊎ (x.word ≢ i) = dite (ℕ_discrete x.word i) (λ e. inl e) (λ ne. inr ne) in
    ⊎_elim
    (λ t. inl (x ∷ t.0, t.1, t.2, ap (λ l. x ∷ l) t.3, t.4, t.5, t.6))
    (λ t. ⊎_elim
    (λ e. inl ([], x, xs, refl, e, t.0, t.1 ∙ (ap (λ j. get_or (set words j v) i 0) e ∙ get_or-set_same words i v 0 low)))
    (λ ne. inr (All-cons (λ (step : AtomicStep). step.word ≢ i) x xs ne t.0, t.1 ∙ get_or-set_other words x.word i v 0 (λ e. ne (sym e))))
    here)
    (left_there (set words x.word v) last xs i (omega (arith, length-set words x.word v)) is.1)

pub finds_the_last : FindsTheLast
finds_the_last opening first next before after step words order =
    let b = between (first_words opening) words before after step order.replays order.done in
    let low = on_board step.action step.session step.word b.done_here in
    subst (IsLeft (first_words opening) before step.word) (sym b.found)
    (left_there (first_words opening) b.mid before step.word (omega (arith, words_length opening)) b.reaches)

-- what a step on the count leaves there, where it adds and where it does not
one_more : (action : Action) (session found : ℕ) → IsDone action session 0 → found + 1 < 2 ^ 64 → is_add action ≡ true → leaves action found ≡ found + 1
one_more Load session found done low adds = absurd (cc adds)
one_more (Store value) session found done low adds = absurd (cc adds)
one_more (Swap value) session found done low adds = absurd (cc adds)
one_more (FetchAdd value) session found done low adds = ⊎_elim (λ t. let one = t.2 in omega arith) (λ t. absurd (let h = t.1.0 in omega arith)) done

left_alone : (action : Action) (session found : ℕ) → IsDone action session 0 → is_add action ≡ false → leaves action found ≡ found
left_alone Load session found done other = refl
left_alone (Store value) session found done other = ⊎_elim (λ t. absurd (let h = t.1.0 in omega arith)) (λ t. absurd (let h = t.1.0 in omega arith)) done
left_alone (Swap value) session found done other = absurd (let h = done.1.0 in omega arith)
left_alone (FetchAdd value) session found done other = absurd (cc other)

and_false : (a b : Bool) → b ≡ false → (a && b) ≡ false
and_false true b e = e
and_false false b e = refl

and_left : (a b : Bool) → a ≡ false → (a && b) ≡ false
and_left a b e = ap (λ x. x && b) e

and_true : (a b : Bool) → a ≡ true → b ≡ true → (a && b) ≡ true
and_true a b e f = ap (λ x. x && b) e ∙ f

counted : (x : AtomicStep) (xs : List AtomicStep) → (is_add x.action && (x.word == 0)) ≡ true → entries_in (x ∷ xs) ≡ entries_in xs + 1
counted x xs e = ap (λ b. length (cond b (x ∷ filter (λ (step : AtomicStep). is_add step.action && (step.word == 0)) xs) (filter (λ (step : AtomicStep). is_add step.action && (step.word == 0)) xs))) e ∙ (let n : ℕ = entries_in xs in let s : suc n ≡ n + 1 = omega arith in s)

not_counted : (x : AtomicStep) (xs : List AtomicStep) → (is_add x.action && (x.word == 0)) ≡ false → entries_in (x ∷ xs) ≡ entries_in xs
not_counted x xs e = ap (λ b. length (cond b (x ∷ filter (λ (step : AtomicStep). is_add step.action && (step.word == 0)) xs) (filter (λ (step : AtomicStep). is_add step.action && (step.word == 0)) xs))) e

-- what is counted with one step more
count_more : (words last : List ℕ) (x : AtomicStep) (xs : List AtomicStep) → 0 < length words → Done x → x.found ≡ get_or words x.word 0
    → (get_or (set words x.word (leaves x.action x.found)) 0 0 + entries_in xs < 2 ^ 64 → get_or last 0 0 ≡ get_or (set words x.word (leaves x.action x.found)) 0 0 + entries_in xs)
    → get_or words 0 0 + entries_in (x ∷ xs) < 2 ^ 64 → get_or last 0 0 ≡ get_or words 0 0 + entries_in (x ∷ xs)
count_more words last x xs wide done finds rest low = dite (ℕ_discrete x.word 0) (λ e. here e (is_add x.action) refl) elsewhere
  where
    v : ℕ
    v = leaves x.action x.found

    elsewhere : x.word ≢ 0 → get_or last 0 0 ≡ get_or words 0 0 + entries_in (x ∷ xs)
    elsewhere ne =
        let same : get_or (set words x.word v) 0 0 ≡ get_or words 0 0 = get_or-set_other words x.word 0 v 0 (λ e. ne (sym e)) in
        let none : entries_in (x ∷ xs) ≡ entries_in xs = not_counted x xs (and_false (is_add x.action) (x.word == 0) (ne_eqb x.word 0 ne)) in
        let is_so = rest (omega arith) in omega arith

    here : x.word ≡ 0 → (b : Bool) → is_add x.action ≡ b → get_or last 0 0 ≡ get_or words 0 0 + entries_in (x ∷ xs)
    here e true adds =
        let found : x.found ≡ get_or words 0 0 = finds ∙ ap (λ j. get_or words j 0) e in
        let now : get_or (set words x.word v) 0 0 ≡ v = ap (λ j. get_or (set words j v) 0 0) e ∙ get_or-set_same words 0 v 0 wide in
        let one : entries_in (x ∷ xs) ≡ entries_in xs + 1 = counted x xs (and_true (is_add x.action) (x.word == 0) adds (eq-eqb x.word 0 e)) in
        let left : v ≡ x.found + 1 = one_more x.action x.session x.found (subst (IsDone x.action x.session) e done) (omega arith) adds in
        let is_so = rest (omega arith) in omega arith
    here e false adds =
        let found : x.found ≡ get_or words 0 0 = finds ∙ ap (λ j. get_or words j 0) e in
        let now : get_or (set words x.word v) 0 0 ≡ v = ap (λ j. get_or (set words j v) 0 0) e ∙ get_or-set_same words 0 v 0 wide in
        let none : entries_in (x ∷ xs) ≡ entries_in xs = not_counted x xs (and_left (is_add x.action) (x.word == 0) adds) in
        let left : v ≡ x.found = left_alone x.action x.session x.found (subst (IsDone x.action x.session) e done) adds in
        let is_so = rest (omega arith) in omega arith

counts : (words last : List ℕ) (steps : List AtomicStep) → 0 < length words → All Done steps → Replays words steps last → get_or words 0 0 + entries_in steps < 2 ^ 64 → get_or last 0 0 ≡ get_or words 0 0 + entries_in steps
counts words last [] wide done is low = ap (λ (l : List ℕ). get_or l 0 0) is ∙ (let e : get_or words 0 0 ≡ get_or words 0 0 + 0 = omega arith in e)
counts words last (x ∷ xs) wide done is low = count_more words last x xs wide (done 0 x (omega arith)) is.0
    (counts (set words x.word (leaves x.action x.found)) last xs (omega (arith, length-set words x.word (leaves x.action x.found))) (λ k d lt. done (suc k) d (omega arith)) is.1) low

pub counts_all : CountsAll
counts_all opening first next before after step words order on_count low =
    let b = between (first_words opening) words before after step order.replays order.done in
    b.found ∙ (ap (λ j. get_or b.mid j 0) on_count ∙ counts (first_words opening) b.mid before (omega (arith, words_length opening)) b.done b.reaches low)
