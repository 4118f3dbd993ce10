use Rattle.std.proofs.Common.{◌≡◌, ℕ, List, ap, subst, sym, ◌∙◌}
use Rattle.std.specs.Fmt.{decimal}
use Rattle.journal_text.specs.ReplyLines.{named, refusal_names}
use Rattle.run_streams.specs.Flaws.{flaw_named}
use Rattle.input_flaws.proofs.FlawNames.{no_number}
use Rattle.input_flaws.proofs.policy_flaws.entry_flaw.Goals as goal

pub returns-in-Some : goal.returns-in-Some
returns-in-Some c = λ r e.
    ap (λ (name : List ℕ). flaw_named 1 name) (sym c.in-Some.ensures ∙ ap (λ (n : ℕ). named refusal_names n) e)

pub returns-in-None : goal.returns-in-None
returns-in-None c = λ r e. absurd (no_number r (subst (λ (n : ℕ). named refusal_names n ≡ decimal n) e c.in-None.ensures))
