-- Laws of the lines of a policy and of their words, which the proofs of other crates may cite.
use Rattle.std.proofs.Common.{◌≡◌, ◌<◌, ◌^◌, ℕ, List, sym, ◌∙◌}
use Rattle.std.specs.Fmt.{decimal}
use Rattle.policy_history.specs.PolicyLines.{spaced}
use Rattle.journal_text.specs.Inner.PolicyReading.{IsUnspaced}
-- a line is cut at its first space in one way, and names and numbers have none
pub use Rattle.journal_text.proofs.PolicyCuts.{cut_same, name_unspaced, number_unspaced}
-- each entry of a policy that is read has a session
pub use Rattle.journal_text.proofs.OneCut.{read_sessions}

-- a line that is a word and what follows, and a number and what follows, is both in one way
pub number_in_front : (line word rest text : List ℕ) (n : ℕ) → line ≡ spaced word rest → IsUnspaced word → n < 2 ^ 64 → line ≡ spaced (decimal n) text
    → (word ≡ decimal n) × (rest ≡ text)
number_in_front line word rest text n formed unspaced bound numbered =
    cut_same word rest (decimal n) text (sym formed ∙ numbered) unspaced (number_unspaced n bound)
