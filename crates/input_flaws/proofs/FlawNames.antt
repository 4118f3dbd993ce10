-- The name of a refusal is no number.
use Rattle.std.proofs.Common.{◌≡◌, ◌<◌, ◌^◌, ℕ, List, ◌∷◌, subst, sym, arith}
use Rattle.std.specs.Fmt.{decimal}
use Rattle.std.specs.Str.Parse.{AllDigits}
use Rattle.std.proofs.lemmas.Fmt.{decimal_is_IsNumeral}
use Rattle.std.proofs.lemmas.Str.Parse.{digit_from_value}
use Rattle.policy_history.specs.declared.events.Refusal.{Refusal}
use Rattle.policy_history.specs.declared.events.Refusal.TheVariants as refusal
use Rattle.policy_history.specs.Laws.{refusal_number}
use Rattle.journal_text.specs.ReplyLines.{named, refusal_names}

letter_first : (n : ℕ) → n < 2 ^ 64 → (b : ℕ) (bs : List ℕ) → 57 < b → b ∷ bs ≡ decimal n → ⊥
letter_first n small b bs letter e = omega (arith, digit_from_value b (subst (AllDigits 10) (sym e) (decimal_is_IsNumeral n small).0.1).0)

pub no_number : (r : Refusal) → named refusal_names (refusal_number r) ≡ decimal (refusal_number r) → ⊥
no_number refusal.NoSuchPrincipal e = letter_first 4 (omega arith) _ _ (omega arith) e
no_number refusal.NotYourPrincipal e = letter_first 5 (omega arith) _ _ (omega arith) e
no_number refusal.NoSuchLabel e = letter_first 6 (omega arith) _ _ (omega arith) e
no_number refusal.NotHolder e = letter_first 7 (omega arith) _ _ (omega arith) e
no_number refusal.NoSuchObject e = letter_first 8 (omega arith) _ _ (omega arith) e
no_number refusal.NameTaken e = letter_first 9 (omega arith) _ _ (omega arith) e
no_number refusal.NotOwner e = letter_first 10 (omega arith) _ _ (omega arith) e
no_number refusal.NoGoal e = letter_first 11 (omega arith) _ _ (omega arith) e
no_number refusal.NoSuchProof e = letter_first 12 (omega arith) _ _ (omega arith) e
no_number refusal.NoBinding e = letter_first 13 (omega arith) _ _ (omega arith) e
no_number refusal.BadPort e = letter_first 14 (omega arith) _ _ (omega arith) e
no_number refusal.BadFormula e = letter_first 15 (omega arith) _ _ (omega arith) e
no_number refusal.BadProof e = letter_first 16 (omega arith) _ _ (omega arith) e
no_number refusal.Quota e = letter_first 17 (omega arith) _ _ (omega arith) e
no_number refusal.ObjectsFull e = letter_first 18 (omega arith) _ _ (omega arith) e
no_number refusal.CasesFull e = letter_first 19 (omega arith) _ _ (omega arith) e
no_number refusal.NotRecorded e = letter_first 20 (omega arith) _ _ (omega arith) e
no_number refusal.JournalFull e = letter_first 22 (omega arith) _ _ (omega arith) e
