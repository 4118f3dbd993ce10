use Rattle.std.proofs.Common.{◌≡◌, List, ℕ, ◌∷◌, [], IsTrue, false, ap, sym, ◌∙◌}
use Rattle.std.specs.Option.{option_copied}
use Rattle.proof_text.specs.ProofText.{segments}
use Rattle.proof_text.specs.Inner.Reading.{segments_after}
use Rattle.proof_text.proofs.Pieces.{segments_some}
use Rattle.proof_text.proofs.read.is_blank_end.Goals as goal

not_last : (seg bs : List ℕ) → seg ∷ segments bs ≡ [] ∷ [] → ⊥
not_last seg bs e = let none : segments bs ≡ [] = cc in segments_some bs none

not_true : IsTrue false → ⊥
not_true h = cc

pub returns-in-Some : goal.returns-in-Some
returns-in-Some c =
    let cut = ap (λ x. c.args.segment.now ∷ segments_after (option_copied x)) c.in-Some.is in
    (λ h. absurd (not_true h), λ e. absurd (not_last c.args.segment.now c.in-Some.field-0.now (sym cut ∙ e)))
