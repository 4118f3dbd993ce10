-- What a reader's token says of the text in front of which it stands.
use Rattle.std.proofs.Common.{◌≡◌, ℕ, List, ap, subst}
use Rattle.nal_parse.specs.Tokens.{Cut, Lexeme, next_cut}
use Rattle.nal_parse.specs.Inner.Reading.{IsFront, IsWellFormed, first_lexeme}

module _ {text rest : List ℕ} {l : Lexeme} (front : IsFront text l rest) where
  -- the text begins with it
  pub first : first_lexeme text ≡ l
  first = ap (λ (c : Cut). c.0) front.cut

  -- and what follows it is what the reader goes on with
  pub cut_on : {m : Lexeme} {next : List ℕ} → l ≡ m → next ≡ rest → next_cut text ≡ (m, next)
  cut_on e n = rw (← e, n) front.cut

  pub well_formed : {m : Lexeme} → l ≡ m → IsWellFormed m
  well_formed e = subst IsWellFormed e front.form
