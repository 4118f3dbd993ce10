-- No entry of a session stands behind the last meeting of its pass.
use Rattle.std.proofs.Common.{◌≡◌, ◌⊎◌, inl, inr, ◌<◌, ◌≤◌, ◌-◌, ℕ, zero, suc, List, [], ◌∷◌, ◌++◌, length, take, drop, refl, sym, ap, ◌∙◌, arith, append-nil}
use Rattle.std.proofs.lemmas.Bool.{cases_lt}
use Rattle.std.proofs.lemmas.List.{take-append-le}
use Rattle.policy_history.specs.declared.events.Entry.{Entry}
use Rattle.verdict_words.specs.Histories.{IsPrefix, own}
use Rattle.verdict_words.proofs.ForCallers.{own_append}
use Rattle.policy_book.specs.Books.{session_of}

take_over : (m : ℕ) (xs : List Entry) → length xs ≤ m → take m xs ≡ xs
take_over zero [] long = refl
take_over (suc m) [] long = refl
take_over zero (x ∷ xs) long = absurd (omega (arith, long))
take_over (suc m) (x ∷ xs) long = ap (λ l. x ∷ l) (take_over m xs (omega (arith, long)))

take_past : (m : ℕ) (xs ys : List Entry) → length xs ≤ m → take m (xs ++ ys) ≡ xs ++ take (m - length xs) ys
take_past m [] ys long = ap (λ n. take n ys) (let same : m ≡ m - 0 = omega arith in same)
take_past zero (x ∷ xs) ys long = absurd (omega (arith, long))
take_past (suc m) (x ∷ xs) ys long =
    let same : m - length xs ≡ suc m - suc (length xs) = omega arith in
    ap (λ l. x ∷ l) (take_past m xs ys (omega (arith, long))) ∙ ap (λ n. x ∷ (xs ++ take n ys)) same

none_behind : (xs ys : List Entry) → xs ++ ys ≡ xs → ys ≡ []
none_behind [] ys e = e
none_behind (x ∷ xs) ys e = none_behind xs ys (cc e)

none_before : (xs ys : List Entry) → xs ++ ys ≡ [] → xs ≡ []
none_before [] ys e = refl
none_before (x ∷ xs) ys e = absurd (cc e)

take_drop : (k : ℕ) (xs : List Entry) → take k xs ++ drop k xs ≡ xs
take_drop zero [] = refl
take_drop (suc k) [] = refl
take_drop zero (x ∷ xs) = refl
take_drop (suc k) (x ∷ xs) = ap (λ l. x ∷ l) (take_drop k xs)

-- what a session had seen of its own when it was met it sees among as many entries of all
pub own_within : (es seen : List Entry) (m s : ℕ) → IsPrefix seen es → own session_of es s ≡ own session_of (take m seen) s → own session_of es s ≡ own session_of (take m es) s
own_within es seen m s (more, whole) met = by_place (cases_lt m (length seen))
  where
    by_place : (m < length seen) ⊎ (length seen ≤ m) → own session_of es s ≡ own session_of (take m es) s
    by_place (inl before) =
        let front : take m es ≡ take m seen = ap (take m) whole ∙ take-append-le m seen more (omega (arith, before)) in
        met ∙ ap (λ l. own session_of l s) (sym front)
    by_place (inr past) =
        let all_own : own session_of es s ≡ own session_of seen s = met ∙ ap (λ l. own session_of l s) (take_over m seen past) in
        let parts : own session_of seen s ++ own session_of more s ≡ own session_of seen s = sym (own_append session_of seen more s) ∙ ap (λ l. own session_of l s) (sym whole) ∙ all_own in
        let no_more : own session_of more s ≡ [] = none_behind (own session_of seen s) (own session_of more s) parts in
        let split : own session_of (take (m - length seen) more) s ++ own session_of (drop (m - length seen) more) s ≡ [] =
        sym (own_append session_of (take (m - length seen) more) (drop (m - length seen) more) s) ∙ ap (λ l. own session_of l s) (take_drop (m - length seen) more) ∙ no_more in
        let none = none_before _ _ split in
        let front : own session_of (take m es) s ≡ own session_of seen s =
        ap (λ l. own session_of (take m l) s) whole ∙ ap (λ l. own session_of l s) (take_past m seen more past) ∙ own_append session_of seen (take (m - length seen) more) s
        ∙ ap (λ l. own session_of seen s ++ l) none ∙ append-nil (own session_of seen s) in
        all_own ∙ sym front
