use Rattle.std.proofs.Common.{List, ℕ, Bor, map, sym, ap, ◌∙◌}
use Rattle.nexus_run.proofs.Words.{not_alone, patience_alone, patience_told}
use Rattle.nexus_run.proofs.commands.patience_of.Goals.{else-is_empty-via-then-is_empty+else-is_patience, else-is_empty-via-else-is_empty}
use Rattle.nexus_run.proofs.commands.patience_of.Goals as goal

-- The word is not alone, or is no patience.
pub returns-else-is_empty : goal.returns-else-is_empty
returns-else-is_empty c = λ patience within words.
    let all = sym (ap (map (λ w. w.now)) c.in-Some.ensures.cases.0) ∙ words in
    elim c.else-is_empty.branch [
      | else-is_empty-via-then-is_empty+else-is_patience w ↦
          (let told = patience_told _ _ c.in_ok-seconds-in-Some.seconds patience within all (sym c.as_bytes.ensures.value ∙ c.in_ok-seconds-in-Some.ensures.value) w.is_patience.ensures.small in
          let yes = w.is_patience.ensures.value.1 told.1 in
          cc (yes, w.if-is_patience.false))
      | else-is_empty-via-else-is_empty w ↦ not_alone (λ (w : Bor (List ℕ)). w.now) c.in-Some.rest.now c.is_empty.result c.is_empty.ensures w.if-is_empty.false (patience_alone _ _ patience all)
    ]
